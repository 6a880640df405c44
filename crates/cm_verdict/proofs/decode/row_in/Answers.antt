use Rattle.std.proofs.Common.{◌≡◌, ℕ, List, Option, Some, None, sym, ap, ◌∙◌}
use Rattle.cm_layout.specs.declared.entry.Entry.TheVariants as entry
use Rattle.cm_layout.specs.Frames.{BareRow, BareEntry}
use Rattle.cm_verdict.specs.Decoding.{row_in, entry_in}
use Rattle.cm_verdict.proofs.Decoded.{none_is, row_of_entry, entry_of_row}
use Rattle.cm_verdict.proofs.decode.row_in.Goals as goal

-- an entry that isn't a live row
no_live : (o : Option BareEntry) (e : BareEntry) → o ≡ Some e
    → ((row : BareRow) → e ≡ entry.Live row → ⊥) → (row : BareRow) → o ≡ Some (entry.Live row) → ⊥
no_live o e there other row live = let same : e ≡ entry.Live row = cc in other row same

pub returns-in_err-entry-clause-value : goal.returns-in_err-entry-clause-value
returns-in_err-entry-clause-value c =
    let version = c.args.version in
    let slots = c.args.slots.now in
    c.from_residual.ensures
    ∙ none_is (row_in version slots) (λ row there.
    let some : entry_in version slots ≡ Some (entry.Live row) =
    entry_of_row version slots row there in
    let was : c.entry_in.result ≡ None = c.in_err-entry.was {u = tt} in
    let is : c.entry_in.result ≡ entry_in version slots = c.entry_in.ensures.value in
    cc)

pub returns-in-Live-clause-value : goal.returns-in-Live-clause-value
returns-in-Live-clause-value c =
    sym (row_of_entry c.args.version c.args.slots.now c.in-Live.row
    (sym c.entry_in.ensures.value ∙ c.in_ok-entry.was {u = tt} ∙ ap Some c.in-Live.is))

-- what begins another entry isn't a row
no_row : (version : ℕ) (slots : List ℕ) (e : BareEntry) → entry_in version slots ≡ Some e
    → ((row : BareRow) → e ≡ entry.Live row → ⊥) → None ≡ row_in version slots
no_row version slots e there other =
    none_is (row_in version slots) (λ row is.
    no_live (entry_in version slots) e there other row (entry_of_row version slots row is))

pub returns-in-Unload-clause-value : goal.returns-in-Unload-clause-value
returns-in-Unload-clause-value c =
    no_row c.args.version c.args.slots.now _
    (sym c.entry_in.ensures.value ∙ c.in_ok-entry.was {u = tt})
    (λ r live. let is = c.in-Unload.is in cc)

pub returns-in-Move-clause-value : goal.returns-in-Move-clause-value
returns-in-Move-clause-value c =
    no_row c.args.version c.args.slots.now _
    (sym c.entry_in.ensures.value ∙ c.in_ok-entry.was {u = tt})
    (λ r live. let is = c.in-Move.is in cc)

pub returns-in-UnloadAll-clause-value : goal.returns-in-UnloadAll-clause-value
returns-in-UnloadAll-clause-value c =
    no_row c.args.version c.args.slots.now _
    (sym c.entry_in.ensures.value ∙ c.in_ok-entry.was {u = tt})
    (λ r live. let is = c.in-UnloadAll.is in cc)
