use Rattle.std.proofs.Common.{◌≡◌, Some, None, sym, ap, ◌∙◌}
use Rattle.cm_verdict.specs.Decoding.{group_head_in}
use Rattle.cm_verdict.proofs.Decoded.{none_is, group_head_spelled, group_head_again}
use Rattle.cm_verdict.proofs.decode.group_head_in.Goals as goal

pub returns-in_err-head : goal.returns-in_err-head
returns-in_err-head c =
    c.from_residual.ensures
    ∙ none_is (group_head_in c.args.slot.now) (λ x there.
    let s = group_head_spelled c.args.slot.now x there in
    let none : c.decode.result ≡ None = c.in_err-head.was {u = tt} in
    let some : c.decode.result ≡ Some x = c.decode.ensures.only x s.1 s.0 in
    cc)

pub returns : goal.returns
returns c =
    let found = c.in_ok-head.ensures.found in
    sym (ap group_head_in found ∙ group_head_again c.in_ok-head.head c.fits_group_head.ensures)
