-- The machine values of a `Piece`.
-- For `Piece::into_loose`, `Piece::none`, `Piece::of`.
use Rattle.std.proofs.Common.{◌≡◌, ℕ, List, [], ◌∷◌, ◌++◌, refl, false, true, subst}
use seplogic.Ra.Ura.{Ura}
use mir.Val.{Val, vptr, vstruct, vcons, vnil, of_list}
use mathlib.Core.Bool.{Bool}
use mir.Raw.{raw as bare}
use base.Logic.{never, fst∗}
use types.Logic.{Logic, sem}
use denote.Memory.{lone}
use types.Kit.{Item, Goal, Seq, Step, step, ‵, ◌$◌, drop, fsplit, fjoin, fpick, fpack, feq_i, feq_l}
use types.Kit.{rewrite}
use denote.RattleType.{Valss}
use denote.Builtin.{RawPtr}
use denote.RawPtr.{Ptr, block_ptr, null_ptr, ptr_val, in_a_block}
use denote.Steps.{nothing}
use denote.Struct.Struct.{within}
use denote.Struct.Owning.{shape}
use Rattle.std_alloc.specs.Box.Ownership.{box_owns}
use Rattle.cm_core.specs.Held.{held, freed}
use Rattle.cm_core.specs.contracts.inner.Inner.{the_row as inner}
use Rattle.cm_core.specs.contracts.handle.Piece as piece

abbrev pub alone : Val → Val
alone v = vstruct (vcons v vnil)

module _ {M : Type 1} {𝓤 : Ura M} {𝓛 : Logic 𝓤} {K : Type 0} {Γ : List (Item 𝓤)} {G : Goal 𝓤 𝓛.H}
  where
    pub piece_none : K
        → Step K 𝓛 (‵ ((piece.the_row).own_val (record { at = null_ptr; full = false })
        (alone (ptr_val null_ptr) ∷ [])) ∷ Γ) G Γ G
    piece_none t = step (λ s. let v : Val = alone (ptr_val null_ptr) in
        nothing t $ nothing t $ feq_i t (List Val) (ptr_val null_ptr ∷ []) (ptr_val null_ptr ∷ [])
        refl $ fjoin t $ feq_i t (List Val) (v ∷ []) (v ∷ []) refl $ fjoin t $
        fpack t (Valss (RawPtr ∷ [])) (within (shape piece.the_type) (null_ptr, tt) (v ∷ [])) (
          ptr_val
              null_ptr ∷ [],
          tt,
        ) $ fjoin t $ s)

    pub piece_in : K → (b o : ℕ) (x : inner.Denot)
        → Step K 𝓛 (‵ ((piece.the_row).own_val (record { at = block_ptr b o; full = true }) (alone
        (vptr b o) ∷ [])) ∷ Γ) G
        (‵ (box_owns freed inner (block_ptr b o) x) ∷ Γ) G
    piece_in t b o x = step (λ s. let v : Val = alone (vptr b o) in
        fpack t inner.Denot (λ x. box_owns freed inner (block_ptr b o) x) x $
        nothing t $ feq_i t (List Val) (vptr b o ∷ []) (vptr b o ∷ []) refl $ fjoin t $
        feq_i t (List
        Val) (v ∷ []) (v ∷ []) refl $ fjoin t $
        fpack t (Valss (RawPtr ∷ [])) (within (shape piece.the_type) (block_ptr b o, tt) (v ∷ []))
        (vptr b o ∷ [], tt) $ fjoin t $ s)

    pub piece_out : K → (d : (piece.the_row).Denot) (vs : List Val) → d.full ≡ true
        → ((b o : ℕ) (x : inner.Denot) → vs ≡ alone (vptr b o) ∷ []
        → Seq K 𝓛 (‵ (box_owns freed inner (block_ptr b o) x) ∷ Γ) G)
        → Seq K 𝓛 (‵ ((piece.the_row).own_val d vs) ∷ Γ) G
    piece_out t d vs full k =
        fsplit t $ fpick t (λ vss. fsplit t $ feq_l t (λ ev. fsplit t $ feq_l t (λ ep. drop t $
        rewrite t 0 (λ (b : Bool). ‵ (held freed inner d.at b)) full refl $ fpick t (λ x.
        in_a_block t d.at (λ p. box_owns freed inner p x)
        (fst∗ 𝓤 (never 𝓤) (sem 𝓛 (freed (bare (lone inner.mir)) null_ptr))) (λ b o e. k b o x
        (subst (λ (p : Ptr). vs ≡ alone (ptr_val p) ∷ []) e
        (subst (λ (ps : List Val). vs ≡ vstruct (of_list (ps ++ [])) ∷ []) ep ev)))))))
