-- Contents stand for at most one cache.
-- For `contents_determine_cache`.
use Rattle.std.proofs.Common.{◌≡◌, List, [], ◌∷◌, refl, sym, ◌∙◌}
use Rattle.cm_class.specs.declared.class_file.ClassFile.{ClassFile}
use Rattle.cm_class.specs.Spelling.{HasSpelling}
use Rattle.cm_record.specs.Layout.{lay}
use Rattle.cm_layout.specs.declared.row.Row.{Row}
use Rattle.cm_layout.specs.declared.row.Row.TheVariants.{Loader, Class}
use Rattle.cm_layout.specs.Rows.{classes_in, rows_with}
use Rattle.cm_layout.specs.Laws.{FramesAreOne}
use Rattle.cm_state.specs.State.{class_shows, state_of}
use Rattle.cm_state.specs.Stands.{EachKeepsRules, arenas_among}
use Rattle.cm_state.specs.Laws.{StandForOne}

-- no two classes have the same layout
abbrev pub LayIsOne : Type 0
LayIsOne = (c d : ClassFile) → HasSpelling c → HasSpelling d → lay c ≡ lay d → c ≡ d

-- rows whose records have the same words have the same classes
same_classes : LayIsOne → (xs ys : List (Row ClassFile)) → EachKeepsRules xs → EachKeepsRules ys
    → rows_with lay xs ≡ rows_with lay ys → xs ≡ ys
same_classes one [] [] kx ky e = refl
same_classes one [] (y ∷ ys) kx ky e = absurd (cc)
same_classes one (x ∷ xs) [] kx ky e = absurd (cc)
same_classes one (Loader r ∷ xs) (Loader s ∷ ys) kx ky e =
    let first : r ≡ s = cc in
    let rest : xs ≡ ys = same_classes one xs ys kx ky cc in
    (λ i. Loader (first i) ∷ rest i)
same_classes one (Class r c ∷ xs) (Class s d ∷ ys) kx ky e =
    let first : r ≡ s = cc in
    let class : c ≡ d = one c d kx.0.spelled ky.0.spelled cc in
    let rest : xs ≡ ys = same_classes one xs ys kx.1 ky.1 cc in
    (λ i. Class (first i) (class i) ∷ rest i)
same_classes one (Loader r ∷ xs) (Class s d ∷ ys) kx ky e = absurd (cc)
same_classes one (Class r c ∷ xs) (Loader s ∷ ys) kx ky e = absurd (cc)

pub stand_for_one : FramesAreOne → LayIsOne → StandForOne
stand_for_one framed one s t contents m k a b n l p q =
    let frames = framed s t contents (rows_with lay p.rows) (rows_with lay q.rows) n l p.framed
    q.framed in
    let rows : p.rows ≡ q.rows = same_classes one p.rows q.rows p.kept q.kept frames.1.0 in
    let state : m ≡ k =
    p.state_is ∙ (λ i. state_of class_shows (rows i)) ∙ sym q.state_is in
    let arenas : a ≡ b =
    p.arenas_are ∙ (λ i. arenas_among (classes_in (rows i)) (rows i)) ∙ sym q.arenas_are in
    (frames.0, (state, (arenas, frames.1.1)))
