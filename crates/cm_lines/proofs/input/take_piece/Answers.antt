use Rattle.std.proofs.Common.{subst}
use Rattle.std.specs.Io.KnownBytes.{Consumes}
use Rattle.std.specs.Io.BufRead.{FillKeeps}
use Rattle.std.proofs.BufReadLemmas.{Consumes_shown}
use Rattle.cm_lines.proofs.input.take_piece.Goals as goal

pub returns-clause-piece : goal.returns-clause-piece
returns-clause-piece g c =
    let shown = c.in-Ok.shown.now in
    let pushed = c.in-Ok-push_shown.pushed in
    let says = c.in-Ok-push_shown.ensures in
    let rested = c.fill_buf.follows.lender-at-none in
    let filled =
    subst (FillKeeps _ (g.R.Read.remaining rested) (g.R.BufRead.consumable_len rested))
    c.in-Ok.is c.fill_buf.follows.holds-at-none in
    let moved = Consumes_shown _ _ _ _ shown pushed.0 says.within c.in-Ok.ensures.front
    c.in-Ok.ensures.end filled.0 filled.1 c.consume.ensures.bytes in (
      says.piece.0,
      record {
        taken = subst
            (Consumes (g.R.Read.remaining c.args.reader.now)
            (g.R.Read.remaining c.consume.new.self)) says.piece.1.taken moved.0;
        inside = says.piece.1.inside;
        end = λ e. (says.piece.1.end e, moved.1 (says.end e));
      },
      says.piece.2,
    )
