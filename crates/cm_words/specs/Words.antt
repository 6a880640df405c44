-- What a contract sees of a `WordBuf`.
use Rattle.std.specs.Prelude.{ℕ, List, refl}
use Rattle.std.specs.Coded.{Coded, code_by, coded×, coded_list, coded_ℕ}

-- the words, and how many there may be
pub record Words : Type 0 where
  pub words : List ℕ
  pub capacity : ℕ

abbrev pub words_of : List ℕ → ℕ → Words
words_of words capacity = record { words = words; capacity = capacity }

abbrev pub words_code : Coded Words
words_code = code_by (List ℕ × ℕ) (coded× (coded_list coded_ℕ) coded_ℕ)
    (λ b. (b.words, b.capacity)) (λ p. words_of p.0 p.1) (λ _. refl)
