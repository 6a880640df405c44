-- A word holds the bytes of a run.
-- On `packed`, for crates above.
use Rattle.std.proofs.Common.{◌≡◌, ◌<◌, ◌≤◌, ◌-◌, ℕ, suc, List, [], ◌∷◌, ◌++◌, length, get_or}
use Rattle.std.proofs.Common.{take, replicate, inl, inr, refl, sym, ◌∙◌, ap, arith}
use Rattle.std.specs.Int.{w64, from_le_bytes, to_le_bytes}
use Rattle.std.proofs.lemmas.List.{length-take, length-append, length-replicate, take_all, take_at}
use Rattle.std.proofs.lemmas.List.{get_or-take, get_or-append_right, get_or_append_left}
use Rattle.std.proofs.lemmas.List.{get_or-replicate, get_or_past, append-nil}
use Rattle.std.proofs.lemmas.Nat.{le_bytes_8}
use Rattle.std.proofs.lemmas.Bool.{cases_lt}
use Rattle.cm_class.specs.Spelling.{AreBytes}
use Rattle.cm_class.proofs.{AreBytes-at}
use Rattle.cm_record_layout.specs.Packing.{word_from, bytes_of}
use Rattle.cm_record_layout.proofs.Packed.{word_same}

pub bytes_from : (bytes : List ℕ) → ((i : ℕ) → i < length bytes → get_or bytes i 0 < 256)
    → AreBytes bytes
bytes_from [] h = tt
bytes_from (b ∷ bytes) h = (h 0 (omega arith), bytes_from bytes (λ i lt. h (suc i) (omega arith)))

-- eight bytes, filled up with zeros if there are fewer
padded : List ℕ → List ℕ
padded bytes = take 8 bytes ++ replicate (8 - length bytes) 0

padded_at : (bytes : List ℕ) (k : ℕ) → k < 8 → get_or (padded bytes) k 0 ≡ get_or bytes k 0
unfolding padded
padded_at bytes k lt = elim (cases_lt k (length bytes)) [
  | inl inside ↦
      let front : k < length (take 8 bytes) = omega (arith, length-take 8 bytes) in
      let there : get_or (padded bytes) k 0 ≡ get_or (take 8 bytes) k 0 =
      get_or_append_left (take 8 bytes) (replicate (8 - length bytes) 0) 0 k front in
      there ∙ get_or-take 8 bytes k 0 lt
  | inr past ↦
      let whole : length (take 8 bytes) ≤ k = omega (arith, length-take 8 bytes) in
      let zeros : k - length (take 8 bytes) < 8 - length bytes =
      omega (arith, length-take 8 bytes) in
      let there : get_or (padded bytes) k 0
      ≡ get_or (replicate (8 - length bytes) 0) (k - length (take 8 bytes)) 0 =
      get_or-append_right (take 8 bytes) (replicate (8 - length bytes) 0) (length (take 8 bytes)) k
      0 refl whole in
      there ∙ (get_or-replicate (8 - length bytes) (k - length (take 8 bytes)) 0 0 zeros
      ∙ sym (get_or_past bytes k 0 past))
]

padded_len : (bytes : List ℕ) → length (padded bytes) ≡ 8
unfolding padded
padded_len bytes =
    omega (
      arith,
      length-append (take 8 bytes) (replicate (8 - length bytes) 0),
      length-take 8 bytes,
      length-replicate {A = ℕ} (8 - length bytes) 0,
    )

padded_small : (bytes : List ℕ) → AreBytes bytes → (i : ℕ) → get_or (padded bytes) i 0 < 256
padded_small bytes are i = elim (cases_lt i 8) [
  | inl lt ↦ omega (arith, padded_at bytes i lt, AreBytes-at bytes are i)
  | inr past ↦ omega (arith, get_or_past (padded bytes) i 0 (omega (arith, padded_len bytes)))
]

-- a word holds its bytes
pub front_back : (bytes : List ℕ) → AreBytes bytes
    → take (length bytes) (bytes_of (word_from bytes)) ≡ take 8 bytes
unfolding bytes_of padded
front_back bytes are =
    let same : from_le_bytes w64 (padded bytes) ≡ word_from bytes =
    word_same (padded bytes) bytes (padded_at bytes) in
    let back : to_le_bytes w64 (word_from bytes) ≡ padded bytes =
    le_bytes_8 (padded bytes) (word_from bytes) (padded_len bytes) (padded_small bytes are)
    (sym same) in
    ap (take (length bytes)) back ∙ elim (cases_lt (length bytes) 8) [
      | inl short ↦ let all : take 8 bytes ≡ bytes = take_all 8 bytes (omega arith) in
          take_at (take 8 bytes) (replicate (8 - length bytes) 0) (length bytes) (ap length all)
      | inr long ↦
          let none : 8 - length bytes ≡ 0 = omega arith in
          take_all (length bytes) (padded bytes) (omega (arith, padded_len bytes)) ∙ (ap
          (λ n. take 8 bytes ++ replicate n 0) none ∙ append-nil (take 8 bytes))
    ]

-- a word's first eight bytes make the same word
pub front_word : (bytes : List ℕ) → word_from (take 8 bytes) ≡ word_from bytes
unfolding word_from
front_word bytes = word_same (take 8 bytes) bytes (λ k lt. get_or-take 8 bytes k 0 lt)
