-- `into_loose` hands on the pointer, and with it the box.
use Rattle.std.proofs.Common.{◌≡◌, List, [], ◌∷◌, ◌++◌, refl, sym, subst, true}
use mir.Val.{Val, vptr}
use base.Logic.{SProp, ent, id⊢}
use prog.Wp.{WpFn}
use types.Kit.{‵, raw, ◌⊛◌, ◌$◌, ◌∵◌, !, qed, by, move, keep, split, fsplit, fjoin, suffices}
use types.Kit.{rewrite}
use types.Run.{stop, fld, of_opd, no_more, and_then, returns, enter}
use types.ByLocal.{alloc_all, pass_all, free_all, look_at, get, get_in, sets}
use types.Part.{agg, sub, whole}
use contract.Monad.{fact}
use contract.Running.{tables}
use denote.Exit.{yes}
use denote.RattleType.{RattleType, owns}
use denote.RawPtr.{block_ptr}
use denote.Signature.{types_at, plain}
use denote.Steps.{nothing, heard}
use denote.Triple.Entry.{alive}
use denote.Triple.Walked.{Stays, stay_dropped, walk_of, Goes-dropped}
use Rattle.core.proofs.alloc.Calls.{Goes-blank}
use Rattle.core.proofs.cell.Inside.{one}
use denote.Param.{layout}
use Rattle.std.specs.contracts.alloc.Global as heap
use Rattle.std.proofs.alloc.Global.TheLaws as heap_laws
use Rattle.std.specs.contracts.impls.GlobalAllocator.TheImpl.{ghosts}
use Rattle.std.proofs.raw_atomic.Walks.{proved_at, leaves}
use Rattle.cm_core.proofs.Values.{both, loose_good, loose_in}
use Rattle.cm_core.proofs.Pieces.{alone, piece_out}
use Rattle.cm_core.specs.contracts.inner.Inner.{the_row as inner}
use Rattle.cm_core.specs.contracts.handle.Piece.{the_row as piece}
use Rattle.cm_core.specs.contracts.handle.Piece.into_loose as f
use Rattle.cm_core.proofs.handle.Piece.into_loose.Statement.{statement}
use Rattle.cm_core.proofs.handle.Piece.into_loose.Code as code

pub into_loose_spec : {M : Type 1} → statement M
into_loose_spec 𝓤 𝓛 𝓜 𝓡 wired =
    let H = 𝓛.H in let 𝓣 = tables 𝓤 H 𝓜 𝓡 𝓡.env in let c = f.clauses 𝓛 𝓜.mem 𝓡.returns in
    let Z : RattleType = heap.the_row in let LZ = heap_laws.the_row_laws in
    let hs : Stays f.ended.signature.params f.ended.kept = (
      stay_dropped (plain (λ _. piece)) yes,
      (stay_dropped (plain (λ _. Z)) yes, tt),
    ) in
    proved_at 𝓛 f.ended hs c 𝓜 𝓡 (
      Goes-blank 𝓛 0 (plain (λ _. piece)) yes (λ κs x f. tt),
      (Goes-dropped 𝓛 0 (plain (λ _. Z)) yes (λ κs x f. refl), tt),
    ) f.Key.name code.function
    (code.unfolded 𝓤 H 𝓜 𝓡 wired) (λ z are.
    let κs = z.0.0 in let p = z.0.3.0 in let a = z.0.3.1.0 in let Post : Val → SProp 𝓤 = (walk_of 𝓛
    f.ended hs c).post z in
    let Run : List Val → SProp 𝓤 = λ ws. WpFn 𝓤 H 𝓣.C 𝓣.Λ code.function ws Post in
    let h = one (layout Z) z.0.4.1.0 ((LZ.lawful 𝓛).typed a z.0.4.1.0 are.1.0) in
    qed 𝓛 ((raw (alive 𝓛 f.signature κs z.0.1) ⊛ ‵ (owns (types_at f.signature.params κs) z.0.3
    z.0.4)) ∷ raw (fact 𝓤 (p.full ≡ true)) ∷ []) ∵
    move ! (1 ∷ []) $ heard ! (p.full ≡ true) (λ full.
    split ! $ move ! (1 ∷ []) $ fsplit ! $ piece_out ! p z.0.4.0 full (λ b o x ws. move ! (1 ∷ []) $
    fsplit ! $
    rewrite ! 0 (λ (us : List Val). ‵ (Z.own_val a us)) h.1 refl $
    let w : Val = alone (vptr b o) in let made : Val = both (vptr b o) h.0 in let typed = loose_good
    inner Z LZ ghosts b o h.0 h.2 in
    keep ! (2 ∷ 0 ∷ 3 ∷ []) $
    suffices ! (Run (w ∷ h.0 ∷ [])) (subst (λ (us : List Val). ent 𝓤 (Run (w ∷ h.0 ∷ [])) (Run us))
    (sym (λ i. ws i ++ (h.1 i ++ []))) (id⊢ 𝓤 (Run (w ∷ h.0 ∷ [])))) $
    enter ! 𝓣.C 𝓣.Λ code.function (w ∷ h.0 ∷ []) Post $ alloc_all ! (λ l. pass_all ! refl (
      (
        tt,
        (
          tt,
          tt,
        ),
      ),
      (h.2, tt),
    ) $
    sets ! (of_opd ! (get_in ! (fld ! refl (stop !)) (sub ! 0 refl (whole !)))) refl (tt, tt) $
    sets ! (of_opd ! (get ! refl)) refl (tt, tt) $
    sets ! (agg ! (and_then ! (get ! refl) (and_then ! (get ! refl) (no_more !)))) refl typed $
    returns ! (look_at ! 0 refl) $ free_all ! refl $ loose_in inner Z LZ ghosts ! b o h.0 a x $
    nothing ! $ nothing ! $ nothing ! $ fjoin ! $ nothing ! $ fjoin ! $
    keep ! (3 ∷ 0 ∷ 2 ∷ 1 ∷ []) $ by ! (leaves 𝓛 f.ended hs c z made (record {
      at = block_ptr b o;
      alloc = a;
      value = x;
    }) (_, (_, tt)) (tt, (tt, tt)))))))
