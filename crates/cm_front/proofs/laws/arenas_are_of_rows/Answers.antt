use Rattle.std.proofs.Common.{◌∙◌, ap, sym, subst}
use Rattle.cm_arena.specs.Chains.{chain_chunks}
use Rattle.cm_layout.specs.Rows.{bare}
use Rattle.cm_layout.specs.Frames.{AreApart}
use Rattle.cm_layout.proofs.{classes-bare}
use Rattle.cm_state.specs.Stands.{chunks_of as chunks_begun}
use Rattle.cm_front.proofs.Tops.{chains_are_begun}
use Rattle.cm_front.proofs.laws.arenas_are_of_rows.Goals as goal

pub returns : goal.returns
returns c = λ s is u.
    ap chain_chunks (is.space.chains u)
    ∙ (chains_are_begun s.sizes s.number (bare s.rows) is.rows.live
    (subst AreApart (sym (classes-bare s.rows)) is.rows.apart) u
    ∙ ap (chunks_begun u) (classes-bare s.rows))
