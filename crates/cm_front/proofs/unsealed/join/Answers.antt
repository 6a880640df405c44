use Rattle.std.proofs.Common.{◌≡◌, ◌≤◌, ◌^◌, ◌++◌, ◌∷◌, [], ℕ, true, false, cond, refl, sym, ap}
use Rattle.std.proofs.Common.{subst, ◌∙◌}
use Rattle.std.specs.Prelude.{option_to_list}
use Rattle.std.proofs.lemmas.Bool.{le-leb}
use Rattle.cm_group.specs.Groups.{Handed, slots_taken, group_limit}
use Rattle.cm_front.specs.Accepting.{begun_by}
use Rattle.cm_front.proofs.Groups.{begun_alone, joined_last, begun_behind, newest_next, too_many}
use Rattle.cm_front.proofs.unsealed.join.Goals as goal

pub returns-in_default : goal.returns-in_default
returns-in_default c =
    begun_alone c.args.full.now.items c.args.newest
    (c.args.full.now.items ++ option_to_list c.args.newest) c.args.number c.args.entry
    c.new_in.result
    c.in_default.is c.requires.last refl c.new_in.ensures

pub push-requires : goal.push-requires
push-requires c =
    let next = newest_next c.args.full.now.items c.args.newest
    (c.args.full.now.items ++ option_to_list c.args.newest) c.args.number c.in-Some.newest
    c.in-Some.is
    refl c.requires.next in
    record { number = subst (λ (n : ℕ). n ≤ 2 ^ 63) (sym next) c.requires.to }

pub returns-in-Ok : goal.returns-in-Ok
returns-in-Ok c =
    joined_last c.args.full.now.items c.args.newest
    (c.args.full.now.items ++ option_to_list c.args.newest) c.args.number c.args.entry
    c.in-Some.newest
    c.push.new.self c.in-Some.is refl
    (le-leb (slots_taken (c.in-Some.newest.entries ++ c.args.entry ∷ [])) group_limit
    (c.in-Ok.ensures.room.0 refl)) c.in-Ok.ensures.ok

pub returns-in-Err : goal.returns-in-Err
returns-in-Err c =
    let full = c.args.full.now.items in
    let back = c.in-Err.ensures.err in
    let taken = c.push_back.ensures.succeeds c.requires.room in
    let items : c.push_back.new.self.items ≡ full ++ c.push.new.self ∷ [] =
    c.push_back.ensures.items
    ∙ ap (λ t. cond t (full ++ c.push.new.self ∷ []) full) taken in
    ap (λ l. l ++ c.new_in-in-Err.result ∷ []) (items ∙ ap (λ (g : Handed). full ++ g ∷ []) back.1)
    ∙ begun_behind full c.args.newest (full ++ option_to_list c.args.newest) c.args.number
    c.args.entry
    c.in-Some.newest c.new_in-in-Err.result c.in-Some.is refl
    (too_many (slots_taken (c.in-Some.newest.entries ++ c.args.entry ∷ [])) group_limit
    (λ h. no_ok (c.in-Err.ensures.room.1 h)))
    (c.new_in-in-Err.ensures ∙ ap (λ e. begun_by c.args.number e) back.0)
  where
    no_ok : false ≡ true → ⊥
    no_ok e = absurd (cc)
