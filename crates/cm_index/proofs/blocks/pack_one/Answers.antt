use Rattle.std.proofs.Common.{◌≡◌, ◌≢◌, ◌+◌, ◌∷◌, inl, inr, ◌<◌, ◌≤◌, ◌++◌, suc, ℕ, List, []}
use Rattle.std.proofs.Common.{length, get_or, set, drop, ap, sym, ◌∙◌, subst, arith, add-one}
use Rattle.std.specs.List.{AllByRecursion, insert, remove}
use Rattle.std.proofs.lemmas.List.{get_or_read, nil_from_length}
use Rattle.std.proofs.lemmas.Bool.{eqb-true, eq-eqb}
use Rattle.cm_index.specs.Blocks.{joined}
use Rattle.cm_index.specs.declared.index.IndexEntry.{IndexEntry}
use Rattle.cm_index.proofs.Joined.{next-block, joined-filled, joined-merged, behind-filled}
use Rattle.cm_index.proofs.Joined.{length-filled}
use Rattle.cm_index.proofs.blocks.pack_one.Goals as goal
use Rattle.cm_index.proofs.blocks.pack_one.Goals.{After-fill, After-unwrap-else-is_empty}

both : (c : After-fill) → c.fill.new.before ++ c.fill.new.self
    ≡ get_or c.args.blocks.now.items c.args.at []
    ++ get_or c.args.blocks.now.items (suc c.args.at) []
both c =
    let bs = c.args.blocks.now.items in
    let i = c.args.at in
    let lt : suc i < length bs = omega (arith, c.requires.within) in
    let within : i < length bs = omega (arith, lt) in
    let before = get_or_read bs i c.remove-before.result within c.remove-before.ensures.value [] in
    let now = c.index_mut.result.now in
    let here : now ≡ get_or bs (suc i) now = c.index_mut.ensures.value
    ∙ ap (λ (l : List (List IndexEntry)). get_or l i now) c.remove-before.ensures.items
    ∙ next-block bs i now lt in
    c.fill.ensures.both ∙ ap (λ (l : List IndexEntry). l ++ now) before
    ∙ ap (λ (l : List IndexEntry). get_or bs i [] ++ l) (get_or_read bs (suc i) now lt here [])

pub returns-then-is_empty-clause-items : goal.returns-then-is_empty-clause-items
returns-then-is_empty-clause-items c =
    let bs = c.args.blocks.now.items in
    let i = c.args.at in
    let lt : suc i < length bs = omega (arith, c.requires.within) in
    let none : c.fill.new.before ≡ [] =
    nil_from_length c.fill.new.before
    (eqb-true (length c.fill.new.before) 0 (sym c.if-is_empty.ensures)) in
    let all = sym (ap (λ (l : List IndexEntry). l ++ c.fill.new.self) none)
    ∙ both (goal.at.returns-then-is_empty-clause-items c).After-fill in
    ap (λ (l : List (List IndexEntry)). joined (set l i c.fill.new.self))
    c.remove-before.ensures.items ∙ joined-merged bs i c.fill.new.self lt all

-- the block that took some of the entries before it, with those that are left before it
kept : (c : After-unwrap-else-is_empty) → c.insert.new.self.items
    ≡ insert (set (remove c.args.blocks.now.items c.args.at) c.args.at c.fill.new.self) c.args.at
    c.fill.new.before
kept c = rw (c.unwrap-else-is_empty.ensures, c.remove-before.ensures.items) at
    c.insert.ensures.items

pub returns-else-is_empty-clause-items : goal.returns-else-is_empty-clause-items
returns-else-is_empty-clause-items c =
    let at = goal.at.returns-else-is_empty-clause-items c in
    let lt : suc c.args.at < length c.args.blocks.now.items = omega (arith, c.requires.within) in
    ap joined (kept at.After-unwrap-else-is_empty)
    ∙ joined-filled c.args.blocks.now.items c.args.at c.fill.new.before c.fill.new.self lt
    (both at.After-fill)

pub returns-else-is_empty-clause-blocks : goal.returns-else-is_empty-clause-blocks
returns-else-is_empty-clause-blocks c =
    let at = goal.at.returns-else-is_empty-clause-blocks c in
    let bs = c.args.blocks.now.items in
    let i = c.args.at in
    let h = c.requires in
    let lt : suc i < length bs = omega (arith, h.within) in
    let is = kept at.After-unwrap-else-is_empty in
    let long = length-filled bs i c.fill.new.before c.fill.new.self lt in
    let behind : drop (i + 1) c.insert.new.self.items ≡ c.fill.new.self ∷ drop (suc (suc i)) bs =
    ap (λ (l : List (List IndexEntry)). drop (i + 1) l) is
    ∙ ap (λ (n : ℕ). drop n (insert (set (remove bs i) i c.fill.new.self) i c.fill.new.before))
    (add-one i) ∙ behind-filled bs i c.fill.new.before c.fill.new.self lt in
    let two : i + 1 + 1 ≡ suc (suc i) = omega arith in
    let rest : AllByRecursion (λ (b : List IndexEntry). 512 ≤ length b) (drop (suc (suc i)) bs) =
    subst (λ (n : ℕ). AllByRecursion (λ (b : List IndexEntry). 512 ≤ length b) (drop n bs))
    two h.half in
    let some : length c.fill.new.before ≢ 0 =
    λ e. (let t = eq-eqb (length c.fill.new.before) 0 e in let f = c.if-is_empty.ensures in
    absurd (cc)) in
    let filled : 512 ≤ length c.fill.new.self =
    elim c.fill.ensures.filled [ inl e ↦ absurd (some e) | inr f ↦ f ] in
    record {
      within = omega (arith, ap length is, long, h.within);
      half = subst (AllByRecursion (λ (b : List IndexEntry). 512 ≤ length b)) (sym behind)
          (filled, rest);
      empty = h.empty;
      room = omega (
        arith,
        ap length is,
        long,
        h.room,
        c.insert.ensures.capacity,
        c.remove-before.ensures.capacity,
      );
      spare_room = omega (arith, ap length is, long, h.spare_room);
    }
