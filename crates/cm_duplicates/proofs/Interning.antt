-- A table of Utf8s after one more lookup.
-- For `Interner::index_for`, `intern`.
use Rattle.std.proofs.Common.{◌≡◌, ⊎_elim, ℕ, ◌<◌, Bool, true, false, cond, List, length, get_or}
use Rattle.std.proofs.Common.{Option, Some, None, refl, sym, ap, ◌∙◌, unwrap_or, bytes_eq}
use Rattle.std.proofs.Common.{get_or-set_same, get_or-set_other}
use Rattle.std.specs.List.{slice_set}
use Rattle.std.specs.Cmp.Lexicographic.{bytes_decides}
use Rattle.std.proofs.lemmas.Bool.{cases_Bool, cases_eq}
use Rattle.cm_class.specs.declared.class_file.ClassFile.{ClassFile}
use Rattle.cm_class.specs.Names.{utf8}
use Rattle.cm_duplicates.specs.Interned.{Interned, interned, NamesWhatItStandsFor, KnowsIndexes}
use Rattle.cm_duplicates.specs.Interned.{KeepsInterned}

-- the table after bytes were looked up: what represents them, and all others
pub record Looked (old new : Interned) (bytes : List ℕ) (index i : ℕ) : Type 0 where
  pub found : interned new bytes ≡ Some i
  pub same : i ≡ unwrap_or (interned old bytes) index
  pub others : (q : List ℕ)
      → interned new q ≡ cond (bytes_eq bytes q) (interned new bytes) (interned old q)

module _ (old new : Interned) (bytes : List ℕ) (index i : ℕ)
    (looked : Looked old new bytes index i) where
  at_bytes : (q : List ℕ) → bytes_eq bytes q ≡ true → interned new q ≡ Some i
  at_bytes q t =
      looked.others q ∙ ap (λ b. cond b (interned new bytes) (interned old q)) t ∙ looked.found

  at_others : (q : List ℕ) → bytes_eq bytes q ≡ false → interned new q ≡ interned old q
  at_others q t = looked.others q ∙ ap (λ b. cond b (interned new bytes) (interned old q)) t

  pub kept : KeepsInterned old new
  kept q j h = ⊎_elim here (λ f. at_others q f ∙ h) (cases_Bool (bytes_eq bytes q))
    where
      here : bytes_eq bytes q ≡ true → interned new q ≡ Some j
      here t =
          let one : bytes ≡ q = (bytes_decides bytes q).0 t in
          let is : i ≡ j =
          looked.same ∙ ap (λ l. unwrap_or (interned old l) index) one ∙ ap
          (λ o. unwrap_or o index) h in
          at_bytes q t ∙ ap (λ (k : ℕ). Some k) is

  pub names_kept : (c : ClassFile) → utf8 c index ≡ bytes → NamesWhatItStandsFor c old
      → NamesWhatItStandsFor c new
  names_kept c at names q j h =
      ⊎_elim here (λ f. names q j (sym (at_others q f) ∙ h)) (cases_Bool (bytes_eq bytes q))
    where
      named : (o : Option ℕ) → interned old bytes ≡ o → utf8 c (unwrap_or o index) ≡ bytes
      named None e = at
      named (Some k) e = names bytes k e

      same : Some i ≡ Some j → i ≡ j
      same e = cc

      here : bytes_eq bytes q ≡ true → utf8 c j ≡ q
      here t =
          let is : i ≡ j = same (sym (at_bytes q t) ∙ h) in
          ap (utf8 c) (sym is ∙ looked.same) ∙ named (interned old bytes) refl ∙
          (bytes_decides bytes q).0 t

pub knows_kept : (c : ClassFile) (old new : Interned) (known : List (Option ℕ))
    → KeepsInterned old new → KnowsIndexes c old known → KnowsIndexes c new known
knows_kept c old new known keeps knows index i h = keeps (utf8 c index) i (knows index i h)

-- the same if nothing changes
pub same_keeps : (old new : Interned) → ((q : List ℕ) → interned new q ≡ interned old q)
    → KeepsInterned old new
same_keeps old new same q i h = same q ∙ h

pub same_names : (c : ClassFile) (old new : Interned)
    → ((q : List ℕ) → interned new q ≡ interned old q) → NamesWhatItStandsFor c old
    → NamesWhatItStandsFor c new
same_names c old new same names q i h = names q i (sym (same q) ∙ h)

-- one more index is known
pub knows_more : (c : ClassFile) (m : Interned) (known : List (Option ℕ)) (place i : ℕ)
    → place < length known → interned m (utf8 c place) ≡ Some i → KnowsIndexes c m known
    → KnowsIndexes c m (slice_set known place (Some i))
knows_more c m known place i within found knows index j h =
    ⊎_elim here (λ ne. let other : ◌≡◌ {A = ℕ} index place → ⊥ =
    ne in knows index j (rw get_or-set_other at h)) (cases_eq index place)
  where
    same : Some i ≡ Some j → i ≡ j
    same e = cc

    here : index ≡ place → interned m (utf8 c index) ≡ Some j
    here e =
        let at_place : get_or (slice_set known place (Some i)) place None ≡ Some j = rw e at h in
        let is : i ≡ j = same (rw get_or-set_same at at_place) in
        ap (λ (k : ℕ). interned m (utf8 c k)) e ∙ found ∙ ap (λ (k : ℕ). Some k) is

-- what represented the bytes before is put back
pub put_back : (old between new : Interned) (bytes : List ℕ) (index before : ℕ)
    → interned new bytes ≡ Some before
    → ((q : List ℕ) → interned between q ≡ cond (bytes_eq bytes q) (Some index) (interned old q))
    → ((q : List ℕ) → interned new q ≡ cond (bytes_eq bytes q) (Some before) (interned between q))
    → (q : List ℕ) → interned new q ≡ cond (bytes_eq bytes q) (interned new bytes) (interned old q)
put_back old between new bytes index before back put puts q =
    by_test (bytes_eq bytes q) (put q) (puts q)
  where
    by_test : (t : Bool) → interned between q ≡ cond t (Some index) (interned old q)
        → interned new q ≡ cond t (Some before) (interned between q)
        → interned new q ≡ cond t (interned new bytes) (interned old q)
    by_test true a b = b ∙ sym back
    by_test false a b = b ∙ a
