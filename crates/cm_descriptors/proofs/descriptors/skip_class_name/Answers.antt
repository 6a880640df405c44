use Rattle.std.proofs.Common.{◌≡◌, drop, ap, ◌∙◌}
use Rattle.std.specs.List.{prefix_len}
use Rattle.std.proofs.lemmas.List.Sums.{prefix_len-le-length}
use Rattle.cm_descriptors.specs.Forms.{is_class_name}
use Rattle.cm_descriptors.specs.Marks.{is_no_stop}
use Rattle.cm_descriptors.proofs.JoinedNames.{prefix_passes, nothing_behind, class_found}
use Rattle.cm_descriptors.proofs.JoinedNames.{class_unnamed}
use Rattle.cm_descriptors.proofs.JoinedNames.{class_unended}
use Rattle.cm_descriptors.proofs.descriptors.skip_class_name.Goals.{else-byte-eq59-via-then-byte-eq59+else-are_names}
use Rattle.cm_descriptors.proofs.descriptors.skip_class_name.Goals.{else-byte-eq59-via-else-byte-eq59}
use Rattle.cm_descriptors.proofs.descriptors.skip_class_name.Goals as goal

pub split_at-requires : goal.split_at-requires
split_at-requires c = rw c.first_stop.ensures (prefix_len-le-length is_no_stop c.args.bytes.now)

pub returns-in_err-byte : goal.returns-in_err-byte
returns-in_err-byte c =
    rw c.from_residual.ensures
    (nothing_behind c.args.bytes.now c.split_at.result.1.now
    (rw c.first_stop.ensures at c.split_at.ensures.back) c.in_err-byte.ensures.none)

pub are_names-requires : goal.are_names-requires
are_names-requires c =
    rw (c.split_at.ensures.front, c.first_stop.ensures) (prefix_passes is_no_stop c.args.bytes.now)

pub returns-then-are_names : goal.returns-then-are_names
returns-then-are_names c =
    class_found c.args.bytes.now c.split_at.result.1.now
    (rw c.first_stop.ensures at c.split_at.ensures.back) c.in_ok-byte.byte
    c.in_ok-byte.behind.now c.are_names.result c.in_ok-byte.ensures.some
    (c.are_names.ensures ∙ ap is_class_name (rw c.first_stop.ensures at c.split_at.ensures.front))
    c.if-byte-eq59.true c.if-are_names.true

pub returns-else-byte-eq59 : goal.returns-else-byte-eq59
returns-else-byte-eq59 c =
    let split : c.split_at.result.1.now
    ≡ drop (prefix_len is_no_stop c.args.bytes.now) c.args.bytes.now =
    rw c.first_stop.ensures at c.split_at.ensures.back in
    elim c.else-byte-eq59.branch [
      | else-byte-eq59-via-then-byte-eq59+else-are_names w ↦
          class_unnamed c.args.bytes.now c.split_at.result.1.now split c.in_ok-byte.byte
          c.in_ok-byte.behind.now w.are_names.result c.in_ok-byte.ensures.some
          (w.are_names.ensures ∙ ap is_class_name
          (rw c.first_stop.ensures at c.split_at.ensures.front)) w.if-byte-eq59.true
          w.if-are_names.false
      | else-byte-eq59-via-else-byte-eq59 w ↦
          class_unended c.args.bytes.now c.split_at.result.1.now split c.in_ok-byte.byte
          c.in_ok-byte.behind.now c.in_ok-byte.ensures.some w.if-byte-eq59.false
    ]
