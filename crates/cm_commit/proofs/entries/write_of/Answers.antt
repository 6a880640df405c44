use Rattle.std.proofs.Common.{◌≡◌, ℕ, List, length, Some, sym, ap, subst, ◌∙◌}
use Rattle.std.specs.Arc.{arc_value}
use Rattle.std.specs.List.{slice_get}
use Rattle.cm_layout.specs.declared.entry.Entry.{Entry}
use Rattle.cm_commit.specs.GroupPlans.{writes_of}
use Rattle.cm_commit.specs.Steps.{HaveOffsets}
use Rattle.cm_commit.proofs.NextRecords.{bare-move, move-none, move-nth}
use Rattle.cm_commit.proofs.entries.write_of.Goals as goal

pub returns-in_err-offset : goal.returns-in_err-offset
returns-in_err-offset c =
    let e = c.args.carried.now in
    let is = bare-move e.entry c.in-Move.entry (sym c.bare.ensures ∙ c.in-Move.is) in
    rw c.from_residual.ensures
    (ap (λ (d : Entry (List ℕ)). slice_get (writes_of d e.moved) c.args.number) is
    ∙ move-none c.in-Move.entry.to 0 e.moved c.args.number c.in_err-offset.ensures.record)

pub returns : goal.returns
returns c =
    let e = c.args.carried.now in
    let to = c.in-Move.entry.to in
    let class = arc_value c.in_ok-offset.class.now in
    let is = bare-move e.entry c.in-Move.entry (sym c.bare.ensures ∙ c.in-Move.is) in
    let have = subst (λ (d : Entry (List ℕ)). HaveOffsets (writes_of d e.moved)) is c.requires in
    let count : length class ≡ c.words.result =
    ap length (sym c.deref-2.ensures) ∙ sym c.words.ensures.words in
    ap (λ (d : Entry (List ℕ)). slice_get (writes_of d e.moved) c.args.number) is
    ∙ move-nth to 0 e.moved c.args.number c.in_ok-offset.offset class have
    c.in_ok-offset.ensures.record c.in_ok-offset.ensures.offset
    ∙ (λ i. Some (
      record { chunk = to; offset = c.in_ok-offset.offset; words = count i },
      sym c.deref-3.ensures i,
    ))
