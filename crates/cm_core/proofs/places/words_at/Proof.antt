-- `words_at` takes the address of the first word.
use Rattle.std.proofs.Common.{List, [], ◌∷◌, length, refl}
use mir.Val.{Val, vptr}
use base.Fml.{ftrue}
use contract.Running.{tables}
use types.Kit.{‵, raw, ◌⊛◌, ◌$◌, ◌∵◌, !, qed, by, keep, split, feq_i}
use types.Run.{addr, fld, hop, stop, from, returns, enter}
use types.ByLocal.{alloc_all, pass_all, free_all, look_at, look_in_at, sets}
use types.Part.{sub, whole}
use denote.Exit.{yes}
use denote.Builtin.{u64}
use denote.RawPtr.{block_ptr}
use denote.Signature.{plain, types_at}
use denote.Slice.{slice_val, shr_slice_vals, shr_slice_Tells}
use denote.Steps.{nothing}
use denote.Triple.Entry.{alive}
use denote.RattleType.{owns}
use denote.Triple.Walked.{Stays, stay_none_slice, Goes-none_slice, walk_of}
use mir.Syntax.{named}
use Rattle.std.proofs.raw_atomic.Walks.{proved, leaves}
use Rattle.cm_core.specs.contracts.places.words_at as f
use Rattle.cm_core.proofs.places.words_at.Statement.{statement}
use Rattle.cm_core.proofs.places.words_at.Code as code

abbrev stayed : Stays f.ended.signature.params f.ended.kept
stayed = (stay_none_slice (0 ∷ []) tt (plain (λ _. u64)) yes, tt)

pub words_at_spec : {M : Type 1} → statement M
words_at_spec 𝓤 𝓛 𝓜 𝓡 wired =
    let c = f.clauses 𝓛 𝓜.mem 𝓡.returns in let 𝓣 = tables 𝓤 𝓛.H 𝓜 𝓡 𝓡.env in
    proved 𝓛 f.ended stayed c 𝓜 𝓡 (Goes-none_slice 𝓛 1 (0 ∷ []) tt (plain (λ _. u64)) yes, tt)
    f.Key.name code.function (code.unfolded 𝓤 𝓛.H 𝓜 𝓡 wired)
    (λ κs. (shr_slice_vals, tt)) (λ κs. (shr_slice_Tells (named 0) κs.0 u64, tt)) (λ κs qs bounds a
    _ are.
    let s = a.0 in let b = s.ref_ptr.0 in let o = s.ref_ptr.1 in let passed = slice_val s.ref_ptr
    (length s.now) in
    let y : (walk_of 𝓛 f.ended stayed c).Ghost = ((κs, qs, bounds, a, (passed ∷ [], tt)), tt) in
    qed 𝓛 ((raw (alive 𝓛 f.signature κs qs) ⊛ ‵ (owns (types_at f.signature.params κs) a y.0.4)) ∷ ‵
    ftrue ∷ []) ∵
    split ! $ keep ! (0 ∷ 1 ∷ []) $
    enter ! _ _ _ _ _ $ alloc_all ! (λ l. pass_all ! refl (
      (
        tt,
        (
          tt,
          (
            record { fits = are.0.0.1.0 },
            tt,
          ),
        ),
      ),
      tt,
    ) $
    sets ! (addr ! (from ! (fld ! refl (hop ! (look_in_at ! 1 (sub ! 0 refl (whole !))) (stop !)))))
    refl (tt, tt) $
    returns ! (look_at ! 0 refl) $ free_all ! refl $
    nothing ! $ feq_i ! (List Val) (vptr b o ∷ []) (vptr b o ∷ []) refl $
    keep ! (2 ∷ 3 ∷ 0 ∷ 1 ∷ []) $ by ! (leaves 𝓛 f.ended stayed c y (vptr b o) (block_ptr b o) (
      tt,
      tt,
    ) (tt, tt))))
