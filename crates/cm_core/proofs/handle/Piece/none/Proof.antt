-- `none` stores null, at which nothing is owned.
use Rattle.std.proofs.Common.{◌≡◌, [], ◌∷◌, refl, false, lit<}
use mir.Val.{Val, vint}
use mir.Syntax.{w64}
use base.Logic.{SProp, emp}
use base.Fml.{ftrue}
use types.Kit.{‵, raw, ◌⊛◌, ◌$◌, ◌∵◌, !, qed, by, keep, split, use0}
use contract.Monad.{fact, fact_i}
use types.Run.{lit, no_more, and_then, returns, enter}
use types.ByLocal.{alloc_all, pass_all, free_all, look_at, sets}
use types.Part.{agg}
use contract.Running.{tables}
use denote.RawPtr.{null_ptr}
use denote.Steps.{nothing}
use denote.Triple.Entry.{alive}
use denote.RattleType.{owns}
use denote.Triple.Walked.{Stays, walk_of}
use Rattle.std.proofs.raw_atomic.Walks.{proved_at, leaves}
use Rattle.cm_core.specs.contracts.handle.Piece.none as f
use Rattle.cm_core.proofs.Pieces.{alone, piece_none}
use Rattle.cm_core.proofs.handle.Piece.none.Statement.{statement}
use Rattle.cm_core.proofs.handle.Piece.none.Code as code

pub none_spec : {M : Type 1} → statement M
none_spec 𝓤 𝓛 𝓜 𝓡 wired =
    let H = 𝓛.H in let 𝓣 = tables 𝓤 H 𝓜 𝓡 𝓡.env in let c = f.clauses 𝓛 𝓜.mem 𝓡.returns in
    let hs : Stays f.ended.signature.params f.ended.kept = tt in
    proved_at 𝓛 f.ended hs c 𝓜 𝓡 tt f.Key.name code.function (code.unfolded 𝓤 H 𝓜 𝓡 wired) (λ z are.
    let Post : Val → SProp 𝓤 = (walk_of 𝓛 f.ended hs c).post z in let w : Val = alone (vint w64 0)
    in
    qed 𝓛 ((raw (alive 𝓛 f.signature z.0.0 z.0.1) ⊛ ‵ (owns [] z.0.3 z.0.4)) ∷ ‵ ftrue ∷ []) ∵ split
    ! $ keep ! (0 ∷ []) $
    enter ! 𝓣.C 𝓣.Λ code.function [] Post $ alloc_all ! (λ l. pass_all ! refl tt $
    sets ! (agg ! (and_then ! (lit ! tt) (no_more !))) refl (tt, (record { fits = lit< tt }, tt)) $
    returns ! (look_at ! 0 refl) $ free_all ! refl $
    piece_none ! $ use0 𝓛 (raw (fact 𝓤 (false ≡ false))) (fact_i 𝓤 (false ≡ false) (emp 𝓤) refl) $
    nothing ! $
    keep ! (3 ∷ 0 ∷ 2 ∷ 1 ∷ []) $ by ! (leaves 𝓛 f.ended hs c z w (record {
      at = null_ptr;
      full =
          false;
    }) tt tt)))
