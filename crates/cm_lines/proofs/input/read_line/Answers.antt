use Rattle.std.proofs.Common.{subst}
use Rattle.cm_lines.specs.Streams.{TakesPiece}
use Rattle.cm_lines.proofs.Reading.{line_more, line_whole, line_end}
use Rattle.cm_lines.proofs.input.read_line.Goals as goal

pub pieces-preserved : goal.pieces-preserved
pieces-preserved g c =
    let p = c.in_ok-take_piece.ensures.piece in
    let before = g.R.Read.remaining c.pieces.reader in
    let after = g.R.Read.remaining c.take_piece.new.reader in
    line_more (g.R.Read.remaining c.args.reader.now) before after c.pieces.line
    c.take_piece.new.line p.0 c.pieces.invariant
    (subst (λ k. TakesPiece before after k p.0) c.in-More.is p.1) p.2

pub returns-in-Newline-clause-read : goal.returns-in-Newline-clause-read
returns-in-Newline-clause-read g c =
    let p = c.in_ok-take_piece.ensures.piece in
    let before = g.R.Read.remaining c.pieces.reader in
    let after = g.R.Read.remaining c.take_piece.new.reader in
    line_whole (g.R.Read.remaining c.args.reader.now) before after c.pieces.line
    c.take_piece.new.line p.0 c.pieces.invariant
    (subst (λ k. TakesPiece before after k p.0) c.in-Newline.is p.1) p.2

pub returns-in-End-clause-read : goal.returns-in-End-clause-read
returns-in-End-clause-read g c =
    let p = c.in_ok-take_piece.ensures.piece in
    let before = g.R.Read.remaining c.pieces.reader in
    let after = g.R.Read.remaining c.take_piece.new.reader in
    line_end (g.R.Read.remaining c.args.reader.now) before after c.pieces.line c.take_piece.new.line
    p.0 c.has_bytes.result c.pieces.invariant
    (subst (λ k. TakesPiece before after k p.0) c.in-End.is p.1) p.2 c.has_bytes.ensures
