use Rattle.std.proofs.Common.{◌≡◌, ◌∙◌, ap, sym, subst, Some, None, true, false}
use Rattle.std.specs.Prelude.{◌==◌, if◌then◌else◌}
use Rattle.std.proofs.lemmas.Bool.{eq-eqb, ne_eqb}
use Rattle.cm_class.specs.Names.{class_name}
use Rattle.cm_record_layout.specs.Layout.{IsRecordOf}
use Rattle.cm_record.specs.declared.run.Run.{Run}
use Rattle.cm_record.specs.Runs.{IsRunOf}
use Rattle.cm_record.proofs.RunPlaces.{name_at, super_read}
use Rattle.cm_record.proofs.record.Record.super_name.Goals as goal

pub returns-then-index-eq0 : goal.returns-then-index-eq0
returns-then-index-eq0 c = λ d is.
    let of : IsRecordOf d c.as_slice-words.result.now =
    subst (IsRecordOf d) (sym c.as_slice-words.ensures.words) is in
    let test : (d.super_class == 0) ≡ true =
    eq-eqb d.super_class 0 (sym (super_read d c.as_slice-words.result.now of)
    ∙ (sym c.third-index.ensures ∙ c.if-index-eq0.true)) in
    sym (ap (λ b. if b then None else Some (class_name d d.super_class)) test)

pub run_bytes-requires : goal.run_bytes-requires
run_bytes-requires c =
    let words = c.as_slice-words.result.now in
    let is = c.as_slice-words.ensures.record in
    let index = c.third-index.result in (
      class_name is.0 index,
      subst (λ (r : Run). IsRunOf words r (class_name is.0 index)) (sym c.name_run.ensures)
          (name_at is.0 words is.1 index),
    )

pub returns : goal.returns
returns c = λ d is.
    let words = c.as_slice-words.result.now in
    let index = c.third-index.result in
    let of : IsRecordOf d words = subst (IsRecordOf d) (sym c.as_slice-words.ensures.words) is in
    let super : index ≡ d.super_class = c.third-index.ensures ∙ super_read d words of in
    let test : (d.super_class == 0) ≡ false = ne_eqb d.super_class 0
    (λ e. c.if-index-eq0.false (super ∙ e)) in
    let name =
    c.in_ok-run_bytes.ensures (class_name d index)
    (subst (λ (r : Run). IsRunOf words r (class_name d index)) (sym c.name_run.ensures)
    (name_at d words of index)) in
    ap (λ xs. Some xs) (name ∙ ap (class_name d) super) ∙ sym (ap
    (λ b. if b then None else Some (class_name d d.super_class)) test)
