-- One index for each Utf8.
use Rattle.std.specs.Prelude.{◌≡◌, ℕ, List, Option, Some, None, slice_index_or}
use Rattle.std.specs.Ordering.{nat_cmp}
use Rattle.std.specs.Cmp.Lexicographic.{slice_cmp}
use Rattle.std.specs.BTreeMap.{BTreeMap, get_by}
use denote.Ref.{Bor}
use Rattle.cm_class.specs.declared.class_file.ClassFile.{ClassFile}
use Rattle.cm_class.specs.Names.{utf8}

abbrev pub Interned : Type 0
Interned = BTreeMap (Bor (List ℕ)) ℕ

-- the index that represents these bytes
abbrev pub interned : Interned → List ℕ → Option ℕ
interned m bytes = get_by (λ k. slice_cmp nat_cmp bytes k.now) m

-- an index represents bytes that it names
abbrev pub NamesWhatItStandsFor : ClassFile → Interned → Type 0
NamesWhatItStandsFor c m = (bytes : List ℕ) (i : ℕ) → interned m bytes ≡ Some i → utf8 c i ≡ bytes

-- what is known for an index is the one that represents its Utf8
abbrev pub KnowsIndexes : ClassFile → Interned → List (Option ℕ) → Type 0
KnowsIndexes c m known =
    (index i : ℕ) → slice_index_or known index None ≡ Some i → interned m (utf8 c index) ≡ Some i

-- the index that represents some bytes doesn't change
abbrev pub KeepsInterned : Interned → Interned → Type 0
KeepsInterned old new =
    (bytes : List ℕ) (i : ℕ) → interned old bytes ≡ Some i → interned new bytes ≡ Some i
