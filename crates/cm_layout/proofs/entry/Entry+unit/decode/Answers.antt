use Rattle.std.proofs.Common.{◌≡◌, ◌*◌, ◌++◌, ℕ, List, take, get_or, Some, None, sym, ap, ◌∙◌}
use Rattle.std.proofs.Common.{refl, arith}
use Rattle.std.proofs.lemmas.List.{take_at, get_or-take}
use Rattle.cm_layout.specs.declared.row.Row.TheVariants.{Loader, Class}
use Rattle.cm_layout.specs.declared.entry.Entry.TheVariants as entry
use Rattle.cm_layout.specs.Frames.{BareEntry}
use Rattle.cm_layout.specs.Names.{slots_of_name}
use Rattle.cm_layout.specs.Slots.{entry_slots, FitsEntry, EntryOfVersion}
use Rattle.cm_layout.specs.Slots.{unload_all_slot}
use Rattle.cm_layout.proofs.SlotCounts.{slots-name}
use Rattle.cm_layout.proofs.OneReading.{slot_count}
use Rattle.cm_layout.proofs.entry.Entry+unit.decode.Goals as goal

-- the byte that says what a slot is
abbrev kind : List ℕ → ℕ
kind slots = get_or slots 1 0

pub returns-in-Some-clause-only : goal.returns-in-Some-clause-only
returns-in-Some-clause-only c e behind = by_kind e
  where
    here : kind c.args.slots.now ≡ 17
    here =
        let n = slots_of_name c.in-Some.row.name in
        sym (get_or-take (64 * n) c.args.slots.now 1 0
        (omega (arith, (slots-name c.in-Some.row.name).0)))
        ∙ ap kind (c.in-Some.ensures {u = tt}).found

    by_kind : (e : BareEntry) → FitsEntry e → EntryOfVersion c.args.version e
        → c.args.slots.now ≡ entry_slots e ++ behind
        → Some (entry.Live (Loader c.in-Some.row)) ≡ Some e
    by_kind (entry.Live (Loader r)) fits version is =
        let some : c.decode.result ≡ Some r = c.decode.ensures.only r behind fits version is in
        let was : c.decode.result ≡ Some c.in-Some.row = c.in-Some.is in
        cc
    by_kind (entry.Live (Class r p)) fits version is = absurd (omega (arith, here, ap kind is))
    by_kind (entry.Unload u) fits version is = absurd (omega (arith, here, ap kind is))
    by_kind (entry.Move m) fits version is = absurd (omega (arith, here, ap kind is))
    by_kind (entry.UnloadAll u) fits version is = absurd (omega (arith, here, ap kind is))

pub returns-in_err-entry-clause-only : goal.returns-in_err-entry-clause-only
returns-in_err-entry-clause-only c e behind = by_kind e
  where
    front : (e : BareEntry) → c.args.slots.now ≡ entry_slots e ++ behind
        → take 64 (entry_slots e ++ behind) ≡ entry_slots e
        → c.front_slot-slot.result.now ≡ entry_slots e
    front e is one = c.front_slot-slot.ensures ∙ (ap (take 64) is ∙ one)

    by_kind : (e : BareEntry) → FitsEntry e → EntryOfVersion c.args.version e
        → c.args.slots.now ≡ entry_slots e ++ behind
        → c.from_residual.result ≡ Some e
    by_kind (entry.Live (Loader r)) fits version is =
        let some : c.decode.result ≡ Some r = c.decode.ensures.only r behind fits version is in
        let was : c.decode.result ≡ None = c.in_default.is in
        absurd (cc)
    by_kind (entry.Live (Class r p)) fits version is =
        let some : c.decode-2.result ≡ Some r =
        c.decode-2.ensures.only r fits (front (entry.Live (Class r p)) is refl) in
        let was : c.decode-2.result ≡ None = c.in_default-decode.is in
        absurd (cc)
    by_kind (entry.Unload u) fits version is =
        let some : c.decode-3.result ≡ Some u =
        c.decode-3.ensures.only u fits (front (entry.Unload u) is refl) in
        let was : c.decode-3.result ≡ None = c.in_default-decode-2.is in
        absurd (cc)
    by_kind (entry.Move m) fits version is =
        let some : c.decode-4.result ≡ Some m =
        c.decode-4.ensures.only m fits (front (entry.Move m) is refl) in
        let was : c.decode-4.result ≡ None = c.in_default-decode-3.is in
        absurd (cc)
    by_kind (entry.UnloadAll u) fits version is =
        let some : c.decode-5.result ≡ Some u =
        c.decode-5.ensures.only u fits (front (entry.UnloadAll u) is
        (take_at (unload_all_slot u) behind 64 (slot_count (entry.UnloadAll u) fits))) in
        let was : c.decode-5.result ≡ None = c.in_err-entry.was {u = tt} in
        absurd (cc)

pub returns-clause-only : goal.returns-clause-only
returns-clause-only c e behind = by_kind e
  where
    here : kind c.args.slots.now ≡ 21
    here =
        sym (get_or-take 64 c.args.slots.now 1 0 (omega arith))
        ∙ (sym (ap kind c.front_slot-slot.ensures)
        ∙ ap kind (c.in_ok-entry.ensures {u = tt}).found)

    by_kind : (e : BareEntry) → FitsEntry e → EntryOfVersion c.args.version e
        → c.args.slots.now ≡ entry_slots e ++ behind
        → Some (entry.UnloadAll c.in_ok-entry.entry) ≡ Some e
    by_kind (entry.Live (Loader r)) fits version is = absurd (omega (arith, here, ap kind is))
    by_kind (entry.Live (Class r p)) fits version is = absurd (omega (arith, here, ap kind is))
    by_kind (entry.Unload u) fits version is = absurd (omega (arith, here, ap kind is))
    by_kind (entry.Move m) fits version is = absurd (omega (arith, here, ap kind is))
    by_kind (entry.UnloadAll u) fits version is =
        let front : c.front_slot-slot.result.now ≡ unload_all_slot u =
        c.front_slot-slot.ensures
        ∙ (ap (take 64) is
        ∙ take_at (unload_all_slot u) behind 64 (slot_count (entry.UnloadAll u) fits)) in
        let some : c.decode-5.result ≡ Some u = c.decode-5.ensures.only u fits front in
        let was : c.decode-5.result ≡ Some c.in_ok-entry.entry = c.in_ok-entry.was {u = tt} in
        cc
