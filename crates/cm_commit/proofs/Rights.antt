-- What is committed after a group is again right.
-- For `Committer::advance`, `Committer::images`, `Committer::offer` and others.
use Rattle.std.proofs.Common.{◌≡◌, ℕ, ◌+◌, ◌*◌, ◌≤◌, List, [], ◌∷◌, ◌++◌, length, refl}
use Rattle.std.proofs.Common.{sym, ap, subst, ◌∙◌, arith, append-nil, append_assoc, None}
use Rattle.std.specs.List.{flat_map, AllByRecursion}
use Rattle.std.proofs.lemmas.List.{length-append}
use Rattle.cm_pool.specs.Geometry.{Sizes}
use Rattle.cm_layout.specs.declared.row.Row.{Row}
use Rattle.cm_layout.specs.declared.row.Row.TheVariants.{Loader, Class}
use Rattle.cm_layout.specs.declared.entry.Entry.{Entry}
use Rattle.cm_layout.specs.declared.entry.Entry.TheVariants as entry
use Rattle.cm_layout.specs.Slots.{FitsEntry, EntryOfVersion}
use Rattle.cm_layout.specs.Rows.{rows_after, rows_after_all, classes_in, bare}
use Rattle.cm_layout.specs.Rules.{broken_rule}
use Rattle.cm_layout.specs.Frames.{BareRow, BareEntry, EntriesKeep, GroupKeeps, GroupsKeep}
use Rattle.cm_layout.specs.Frames.{AreApart}
use Rattle.cm_layout.specs.Frames.{LiveRowsKeep, rows_of, entries_of, group_slots, bare_entry}
use Rattle.cm_layout.specs.Framing.{IsRightFraming, used_bytes, used_size, open_half}
use Rattle.cm_layout.proofs.{entry-apart, rows_after_all-append, entry-live, classes-bare}
use Rattle.cm_layout.proofs.{after-bare, rule-bare, newest-entries}
use Rattle.cm_group.specs.Groups.{Carried, Handed, IsGroup, entries_in, slots_taken}
use Rattle.cm_commit.specs.Committed.{Committed, end_slot, with_group}
use Rattle.cm_commit.specs.Guarding.{CountsNewest}
use Rattle.cm_commit.specs.Offers.{filled, MayJoin, MayJoinAll, IsNext, rows_after_group}
use Rattle.cm_commit.proofs.Slots.{end_is, used-more, group_count}
use Rattle.cm_commit.proofs.Guards.{rows_live}

-- ---- entries without their records

pub fits-filled : (c : Carried) → FitsEntry (filled c) → FitsEntry (bare_entry c.entry)
fits-filled c = by_entry c.entry
  where
    by_entry : (e : Entry (List ℕ)) → FitsEntry e → FitsEntry (bare_entry e)
    by_entry (entry.Live (Loader r)) fits = fits
    by_entry (entry.Live (Class r words)) fits = fits
    by_entry (entry.Unload e) fits = fits
    by_entry (entry.Move e) fits = fits
    by_entry (entry.UnloadAll e) fits = fits

pub after-filled : (rows : List (Row (List ℕ))) (c : Carried)
    → bare (rows_after rows (filled c)) ≡ rows_after (bare rows) (bare_entry c.entry)
after-filled rows c = after-bare rows c.entry

pub rule-filled : (sizes : Sizes) (rows : List (Row (List ℕ))) (n : ℕ) (c : Carried)
    → broken_rule sizes rows n (filled c) ≡ None
    → broken_rule sizes (bare rows) n (bare_entry c.entry) ≡ None
rule-filled sizes rows n c h = rule-bare sizes rows n c.entry ∙ h

pub all-bare : (rows : List (Row (List ℕ))) (carried : List Carried)
    → bare (rows_after_group rows carried) ≡ rows_after_all (bare rows) (entries_in carried)
all-bare rows [] = refl
all-bare rows (c ∷ carried) =
    all-bare (rows_after rows (filled c)) carried
    ∙ ap (λ (l : List BareRow). rows_after_all l (entries_in carried)) (after-filled rows c)

-- the entries keep the rules
pub entries_keep : (sizes : Sizes) (committed rows : List (Row (List ℕ))) (n : ℕ)
    (carried : List Carried) → MayJoinAll sizes committed rows n carried
    → EntriesKeep sizes (bare rows) n (entries_in carried)
entries_keep sizes committed rows n [] k = tt
entries_keep sizes committed rows n (c ∷ carried) k = (
  fits-filled c k.0.follows.fits,
  rule-filled sizes rows (n + 1) c k.0.follows.keeps,
  subst (λ (l : List BareRow). EntriesKeep sizes l (n + 1) (entries_in carried))
      (after-filled rows c)
      (entries_keep sizes committed (rows_after rows (filled c)) (n + 1) carried k.1),
)

-- the rows after one of them keep the rules too
pub record AreKept (sizes : Sizes) (n : ℕ) (rows : List (Row (List ℕ))) : Type 0 where
  pub live : LiveRowsKeep sizes n [] (bare rows)
  pub apart : AreApart (classes_in (bare rows))

pub kept-after : (sizes : Sizes) (committed rows : List (Row (List ℕ))) (n : ℕ) (c : Carried)
    → AreKept sizes n rows → MayJoin sizes committed rows n c
    → AreKept sizes (n + 1) (rows_after rows (filled c))
kept-after sizes committed rows n c k joins =
    let fits = fits-filled c joins.follows.fits in
    let keeps = rule-filled sizes rows (n + 1) c joins.follows.keeps in
    let same = sym (after-filled rows c) in
    record {
      live = subst (λ (l : List BareRow). LiveRowsKeep sizes (n + 1) [] l) same
          (entry-live sizes (bare rows) n (bare_entry c.entry) k.apart k.live fits keeps);
      apart = subst (λ (l : List BareRow). AreApart (classes_in l)) same
          (entry-apart sizes (bare rows) (n + 1) (bare_entry c.entry) k.apart keeps);
    }

pub kept-all : (sizes : Sizes) (committed rows : List (Row (List ℕ))) (n : ℕ)
    (carried : List Carried) → AreKept sizes n rows → MayJoinAll sizes committed rows n carried
    → AreKept sizes (n + length carried) (rows_after_group rows carried)
kept-all sizes committed rows n [] k joins =
    subst (λ (m : ℕ). AreKept sizes m rows) (omega arith) k
kept-all sizes committed rows n (c ∷ carried) k joins =
    subst (λ (m : ℕ). AreKept sizes m (rows_after_group (rows_after rows (filled c)) carried))
    (omega arith)
    (kept-all sizes committed (rows_after rows (filled c)) (n + 1) carried
    (kept-after sizes committed rows n c k joins.0) joins.1)

pub are_kept : (c : Committed) → IsRightFraming c.sizes c.framing c.rows c.number
    → AreKept c.sizes c.number c.rows
are_kept c right = record {
  live = rows_live c.sizes c.framing c.rows c.number right;
  apart = subst AreApart (sym (classes-bare c.rows)) right.apart;
}

-- ---- one more group

groups-more : (sizes : Sizes) (rows : List BareRow) (n : ℕ) (groups : List (List BareEntry))
    (group : List BareEntry) → GroupsKeep sizes rows n groups
    → GroupKeeps sizes (rows_after_all rows (flat_map (λ (g : List BareEntry). g) groups))
    (n + length (flat_map (λ (g : List BareEntry). g) groups)) group
    → GroupsKeep sizes rows n (groups ++ group ∷ [])
groups-more sizes rows n [] group k new =
    (subst (λ (m : ℕ). GroupKeeps sizes rows m group) (omega arith) new, tt)
groups-more sizes rows n (g ∷ groups) group k new =
    let more = flat_map (λ (h : List BareEntry). h) groups in (
      k.0,
      groups-more sizes (rows_after_all rows g) (n + length g) groups group k.1
          (subst (λ (m : ℕ). GroupKeeps sizes (rows_after_all (rows_after_all rows g) more) m group)
          (omega (arith, length-append g more))
          (subst (λ (l : List BareRow). GroupKeeps sizes l (n + length (g ++ more)) group)
          (rows_after_all-append rows g more) new)),
    )

entries-more : (groups : List (List BareEntry)) (group : List BareEntry)
    → flat_map (λ (g : List BareEntry). g) (groups ++ group ∷ [])
    ≡ flat_map (λ (g : List BareEntry). g) groups ++ group
entries-more [] group = append-nil group
entries-more (g ∷ groups) group =
    ap (λ (l : List BareEntry). g ++ l) (entries-more groups group)
    ∙ sym (append_assoc g (flat_map (λ (h : List BareEntry). h) groups) group)

count-entries : (carried : List Carried) → length (entries_in carried) ≡ length carried
count-entries [] = omega arith
count-entries (c ∷ carried) = omega (arith, count-entries carried)

-- the end of the half that counts, after the group
pub size-more : (c : Committed) (group : Handed) → IsRightFraming c.sizes c.framing c.rows c.number
    → IsNext c group
    → used_size (with_group c.framing (entries_in group.entries))
    ≡ 64 * end_slot c.framing + 64 + 64 * slots_taken group.entries
size-more c group right next =
    let es = entries_in group.entries in
    let keep = entries_keep c.sizes c.rows c.rows c.number group.entries next.entries in
    let count = group_count c.sizes (bare c.rows) c.number es keep in
    let bytes = ap length (used-more c.framing c.number es right.number_is) in
    omega (
      arith,
      count,
      bytes,
      length-append (used_bytes c.framing) (group_slots c.number es),
      end_is c.sizes c.framing right.good,
    )

all-more : {A : Type 0} (P : A → Type 0) (xs : List A) (x : A) → AllByRecursion P xs → P x
    → AllByRecursion P (xs ++ x ∷ [])
all-more P [] x all one = (one, tt)
all-more P (y ∷ xs) x all one = (all.0, all-more P xs x all.1 one)

pub right_after : (c : Committed) (group : Handed)
    → IsRightFraming c.sizes c.framing c.rows c.number
    → IsGroup group → IsNext c group → CountsNewest c → 1 ≤ slots_taken group.entries
    → IsRightFraming c.sizes (with_group c.framing (entries_in group.entries))
    (rows_after_group c.rows group.entries) (c.number + length group.entries)
right_after c group right is next newest some =
    let es = entries_in group.entries in
    let count = count-entries group.entries in
    let keep = entries_keep c.sizes c.rows c.rows c.number group.entries next.entries in
    let new : GroupKeeps c.sizes (bare c.rows) c.number es = record {
      some = some;
      few = is.few;
      numbers = omega (arith, count, next.ends);
      entries = keep;
    } in
    let kept = kept-all c.sizes c.rows c.rows c.number group.entries (are_kept c right)
    next.entries in
    let all = entries-more c.framing.groups es in
    record {
      lawful = right.lawful;
      fits = omega (arith, size-more c group right next, next.room, right.lawful.slots_from);
      good = record {
        head = right.good.head;
        count = right.good.count;
        live = right.good.live;
        live_version = right.good.live_version;
        groups_version = all-more (AllByRecursion (EntryOfVersion c.framing.head.version))
            c.framing.groups es right.good.groups_version
            (subst (λ (v : ℕ). AllByRecursion (EntryOfVersion v) es) (sym newest)
            (newest-entries c.sizes (bare c.rows) c.number es keep));
        groups = groups-more c.sizes c.framing.live c.framing.head.base c.framing.groups es
            right.good.groups
            (subst (λ (m : ℕ). GroupKeeps c.sizes (rows_of (open_half c.framing)) m es)
            right.number_is
            (subst (λ (l : List BareRow). GroupKeeps c.sizes l c.number es) right.rows_are new));
        end = tt;
      };
      older = right.older;
      rows_are = all-bare c.rows group.entries
          ∙ (ap (λ (l : List BareRow). rows_after_all l es) right.rows_are
          ∙ (sym (rows_after_all-append c.framing.live (entries_of (open_half c.framing)) es)
          ∙ ap (rows_after_all c.framing.live) (sym all)));
      number_is =
          let longer = length-append (entries_of (open_half c.framing)) es in
          let same = ap length all in
          omega (arith, longer, same, count, right.number_is);
      apart = subst AreApart (classes-bare (rows_after_group c.rows group.entries)) kept.apart;
    }
