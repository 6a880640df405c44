-- Constants that are laid, by their kinds.
-- For `lay_bits`, `lay_constant` and others.
use Rattle.std.proofs.Common.{◌≡◌, ◌<◌, ◌+◌, ◌*◌, ◌^◌, ℕ, Bool, true, false, List, [], ◌∷◌, ◌++◌}
use Rattle.std.proofs.Common.{cond, length, refl, sym, ap, ◌∙◌, append_assoc, Some}
use Rattle.std.proofs.lemmas.List.{append-nil}
use Rattle.std.specs.Prelude.{IfSome}
use Rattle.cm_class.specs.declared.constant.Constant.TheVariants as constant
use Rattle.cm_class.specs.declared.constant.Slot.{Slot}
use Rattle.cm_class.specs.declared.constant.Slot.TheVariants.{Usable, Unusable}
use Rattle.cm_class.specs.declared.kind.Kind.{Kind}
use Rattle.cm_class.specs.declared.kind.Kind.TheVariants as kinds
use Rattle.cm_class.specs.Reading.{tag_of, tag_number, takes_two}
use Rattle.cm_class.specs.Spelling.{ClassConstant, ConstantFits, SlotsFit, IsU2, IsU4, IsU8, u1, u2}
use Rattle.cm_class.specs.Spelling.{u4, u8, tag, info, is_wide, slot_bytes, constant_bytes}
use Rattle.cm_class.proofs.{number_is}
use Rattle.cm_record_layout.specs.Layout.{constant_words, constant_run, directory, utf8_runs}
use Rattle.cm_record_laying.specs.declared.sections.Sections.{Sections}
use Rattle.cm_record_laying.specs.Kinds.{has_bits, has_index, has_pair}
use Rattle.cm_record_laying.specs.Laying.{Adds, LaysConstant, LaysSlots, next_run}
use Rattle.cm_record_laying.proofs.Steps.{adds_as}

-- a constant with these words and without a run
laid : (k : ClassConstant) (kind : Kind) → ConstantFits k → tag k ≡ tag_number kind
    → is_wide k ≡ takes_two kind → (bytes rest words : List ℕ) (a b : Sections)
    → bytes ≡ info k ++ rest → Adds a b words [] [] → words ≡ constant_words (next_run a) k
    → [] ≡ constant_run k → LaysConstant kind bytes a b rest
laid k kind fits kind_is wide_is bytes rest words a b spelled adds words_are none = record {
  constant = k;
  fits = fits;
  kind_is = kind_is;
  wide_is = wide_is;
  spelled = spelled;
  adds = adds_as a b words [] [] adds (constant_words (next_run a) k) [] (constant_run k) words_are
      refl none;
}

pub bits_laid : (kind : Kind) → has_bits kind ≡ true → (bytes rest : List ℕ) (n : ℕ)
    (words : List ℕ) (a b : Sections) → IsU4 n → bytes ≡ u4 n ++ rest
    → Adds a b words [] [] → words ≡ (tag_number kind + 2 ^ 32 * n) ∷ []
    → LaysConstant kind bytes a b rest
bits_laid kinds.Utf8 h bytes rest n words a b fits spelled adds e = absurd cc
bits_laid kinds.Integer h bytes rest n words a b fits spelled adds e =
    laid (constant.Integer n) kinds.Integer fits refl refl bytes rest words a b spelled
    adds e refl
bits_laid kinds.Float h bytes rest n words a b fits spelled adds e =
    laid (constant.Float n) kinds.Float fits refl refl bytes rest words a b spelled
    adds e refl
bits_laid kinds.Long h bytes rest n words a b fits spelled adds e = absurd cc
bits_laid kinds.Double h bytes rest n words a b fits spelled adds e = absurd cc
bits_laid kinds.Class h bytes rest n words a b fits spelled adds e = absurd cc
bits_laid kinds.String h bytes rest n words a b fits spelled adds e = absurd cc
bits_laid kinds.Fieldref h bytes rest n words a b fits spelled adds e = absurd cc
bits_laid kinds.Methodref h bytes rest n words a b fits spelled adds e = absurd cc
bits_laid kinds.InterfaceMethodref h bytes rest n words a b fits spelled adds e = absurd cc
bits_laid kinds.NameAndType h bytes rest n words a b fits spelled adds e = absurd cc
bits_laid kinds.MethodHandle h bytes rest n words a b fits spelled adds e = absurd cc
bits_laid kinds.MethodType h bytes rest n words a b fits spelled adds e = absurd cc
bits_laid kinds.InvokeDynamic h bytes rest n words a b fits spelled adds e = absurd cc

pub wide_laid : (kind : Kind) → takes_two kind ≡ true → (bytes rest : List ℕ) (n : ℕ)
    (words : List ℕ) (a b : Sections) → IsU8 n → bytes ≡ u8 n ++ rest
    → Adds a b words [] [] → words ≡ tag_number kind ∷ n ∷ []
    → LaysConstant kind bytes a b rest
wide_laid kinds.Utf8 h bytes rest n words a b fits spelled adds e = absurd cc
wide_laid kinds.Integer h bytes rest n words a b fits spelled adds e = absurd cc
wide_laid kinds.Float h bytes rest n words a b fits spelled adds e = absurd cc
wide_laid kinds.Long h bytes rest n words a b fits spelled adds e =
    laid (constant.Long n) kinds.Long fits refl refl bytes rest words a b spelled
    adds e refl
wide_laid kinds.Double h bytes rest n words a b fits spelled adds e =
    laid (constant.Double n) kinds.Double fits refl refl bytes rest words a b spelled
    adds e refl
wide_laid kinds.Class h bytes rest n words a b fits spelled adds e = absurd cc
wide_laid kinds.String h bytes rest n words a b fits spelled adds e = absurd cc
wide_laid kinds.Fieldref h bytes rest n words a b fits spelled adds e = absurd cc
wide_laid kinds.Methodref h bytes rest n words a b fits spelled adds e = absurd cc
wide_laid kinds.InterfaceMethodref h bytes rest n words a b fits spelled adds e = absurd cc
wide_laid kinds.NameAndType h bytes rest n words a b fits spelled adds e = absurd cc
wide_laid kinds.MethodHandle h bytes rest n words a b fits spelled adds e = absurd cc
wide_laid kinds.MethodType h bytes rest n words a b fits spelled adds e = absurd cc
wide_laid kinds.InvokeDynamic h bytes rest n words a b fits spelled adds e = absurd cc

pub index_laid : (kind : Kind) → has_index kind ≡ true → (bytes rest : List ℕ) (n : ℕ)
    (words : List ℕ) (a b : Sections) → IsU2 n → bytes ≡ u2 n ++ rest
    → Adds a b words [] [] → words ≡ (tag_number kind + 2 ^ 32 * n) ∷ []
    → LaysConstant kind bytes a b rest
index_laid kinds.Utf8 h bytes rest n words a b fits spelled adds e = absurd cc
index_laid kinds.Integer h bytes rest n words a b fits spelled adds e = absurd cc
index_laid kinds.Float h bytes rest n words a b fits spelled adds e = absurd cc
index_laid kinds.Long h bytes rest n words a b fits spelled adds e = absurd cc
index_laid kinds.Double h bytes rest n words a b fits spelled adds e = absurd cc
index_laid kinds.Class h bytes rest n words a b fits spelled adds e =
    laid (constant.Class n) kinds.Class fits refl refl bytes rest words a b spelled
    adds e refl
index_laid kinds.String h bytes rest n words a b fits spelled adds e =
    laid (constant.String n) kinds.String fits refl refl bytes rest words a b spelled
    adds e refl
index_laid kinds.Fieldref h bytes rest n words a b fits spelled adds e = absurd cc
index_laid kinds.Methodref h bytes rest n words a b fits spelled adds e = absurd cc
index_laid kinds.InterfaceMethodref h bytes rest n words a b fits spelled adds e = absurd cc
index_laid kinds.NameAndType h bytes rest n words a b fits spelled adds e = absurd cc
index_laid kinds.MethodHandle h bytes rest n words a b fits spelled adds e = absurd cc
index_laid kinds.MethodType h bytes rest n words a b fits spelled adds e =
    laid (constant.MethodType n) kinds.MethodType fits refl refl bytes rest words a b spelled
    adds e refl
index_laid kinds.InvokeDynamic h bytes rest n words a b fits spelled adds e = absurd cc

pub pair_laid : (kind : Kind) → has_pair kind ≡ true → (bytes rest : List ℕ) (x y : ℕ)
    (words : List ℕ) (a b : Sections) → IsU2 x → IsU2 y → bytes ≡ (u2 x ++ u2 y) ++ rest
    → Adds a b words [] [] → words ≡ (tag_number kind + 2 ^ 32 * x + 2 ^ 48 * y) ∷ []
    → LaysConstant kind bytes a b rest
pair_laid kinds.Utf8 h bytes rest x y words a b fx fy spelled adds e = absurd cc
pair_laid kinds.Integer h bytes rest x y words a b fx fy spelled adds e = absurd cc
pair_laid kinds.Float h bytes rest x y words a b fx fy spelled adds e = absurd cc
pair_laid kinds.Long h bytes rest x y words a b fx fy spelled adds e = absurd cc
pair_laid kinds.Double h bytes rest x y words a b fx fy spelled adds e = absurd cc
pair_laid kinds.Class h bytes rest x y words a b fx fy spelled adds e = absurd cc
pair_laid kinds.String h bytes rest x y words a b fx fy spelled adds e = absurd cc
pair_laid kinds.Fieldref h bytes rest x y words a b fx fy spelled adds e =
    laid (constant.Fieldref x y) kinds.Fieldref (fx, fy) refl refl bytes rest words a b
    spelled adds e refl
pair_laid kinds.Methodref h bytes rest x y words a b fx fy spelled adds e =
    laid (constant.Methodref x y) kinds.Methodref (fx, fy) refl refl bytes rest words a b
    spelled adds e refl
pair_laid kinds.InterfaceMethodref h bytes rest x y words a b fx fy spelled adds e =
    laid (constant.InterfaceMethodref x y) kinds.InterfaceMethodref (fx, fy) refl refl bytes rest
    words a b spelled adds e refl
pair_laid kinds.NameAndType h bytes rest x y words a b fx fy spelled adds e =
    laid (constant.NameAndType x y) kinds.NameAndType (fx, fy) refl refl bytes rest words a b
    spelled adds e refl
pair_laid kinds.MethodHandle h bytes rest x y words a b fx fy spelled adds e = absurd cc
pair_laid kinds.MethodType h bytes rest x y words a b fx fy spelled adds e = absurd cc
pair_laid kinds.InvokeDynamic h bytes rest x y words a b fx fy spelled adds e =
    laid (constant.InvokeDynamic x y) kinds.InvokeDynamic (fx, fy) refl refl bytes rest words a b
    spelled adds e refl

pub handle_laid : (bytes rest : List ℕ) (x y : ℕ) (words : List ℕ) (a b : Sections) → x < 2 ^ 8
    → IsU2 y → bytes ≡ (u1 x ++ u2 y) ++ rest → Adds a b words [] []
    → words ≡ (15 + 2 ^ 32 * x + 2 ^ 48 * y) ∷ [] → LaysConstant kinds.MethodHandle bytes a b rest
handle_laid bytes rest x y words a b fx fy spelled adds e =
    laid (constant.MethodHandle x y) kinds.MethodHandle (fx, fy) refl refl bytes rest words a b
    spelled adds e refl

-- one after another
pub both_spelled : (bytes one mid two rest : List ℕ) → bytes ≡ one ++ mid → mid ≡ two ++ rest
    → bytes ≡ (one ++ two) ++ rest
both_spelled bytes one mid two rest e f =
    e ∙ ap (λ l. one ++ l) f ∙ sym (append_assoc one two rest)

-- ---- the slots of one constant

module _ (kind : Kind) (bytes mid rest : List ℕ) (a b : Sections)
    (h : LaysConstant kind mid a b rest) (begins : bytes ≡ tag_number kind ∷ mid) where
  abbrev k : ClassConstant
  k = h.constant

  whole : bytes ≡ constant_bytes k ++ rest
  whole = begins ∙ ap (λ l. tag_number kind ∷ l) h.spelled
      ∙ ap (λ n. n ∷ (info k ++ rest)) (sym h.kind_is)

  slots_of : (w : Bool) → is_wide k ≡ w → LaysSlots (cond w 2 1) bytes a b rest
  slots_of true e = record {
    items = Usable k ∷ Unusable ∷ [];
    counted = refl;
    fit = (h.fits, rw e tt);
    spelled = whole ∙ ap (λ l. l ++ rest) (sym (append-nil (constant_bytes k)));
    adds = adds_as a b (constant_words (next_run a) k) [] (constant_run k) h.adds
        (constant_words (next_run a) k ++ []) [] (constant_run k ++ [])
        (sym (append-nil (constant_words (next_run a) k))) refl
        (sym (append-nil (constant_run k)));
  }
  slots_of false e = record {
    items = Usable k ∷ [];
    counted = refl;
    fit = (h.fits, rw e tt);
    spelled = whole ∙ ap (λ l. l ++ rest) (sym (append-nil (constant_bytes k)));
    adds = adds_as a b (constant_words (next_run a) k) [] (constant_run k) h.adds
        (constant_words (next_run a) k ++ []) [] (constant_run k ++ [])
        (sym (append-nil (constant_words (next_run a) k))) refl
        (sym (append-nil (constant_run k)));
  }

  pub slots_laid : (n : ℕ) → n ≡ cond (takes_two kind) 2 1 → LaysSlots n bytes a b rest
  slots_laid n e = rw e (slots_of (takes_two kind) h.wide_is)

-- the kind that has a tag
pub tag_is : (t : ℕ) (kind : Kind) → tag_of t ≡ Some kind → t ≡ tag_number kind
tag_is t kind e = sym (rw e at (number_is t))
