-- The readers of numbers, of lists of bytes and of fixed bytes.
-- For `read_shape`, `read_whole`, `refusal` and others.
use Rattle.std.proofs.Common.{Fits, w8, ◌≡◌, ℕ, zero, suc, ◌-◌, ◌^◌, ◌<◌, ◌≤◌, Bool, true, false}
use Rattle.std.proofs.Common.{cond, ltb, List, [], ◌∷◌, ◌++◌, length, get_or, take, drop, replicate}
use Rattle.std.proofs.Common.{Result, Ok, Err, refl, sym, ap, subst, ◌∙◌, arith}
use Rattle.std.specs.Int.{bytes_high_first, byte_at as number_byte}
use Rattle.std.proofs.lemmas.Bool.{ltb-true, ltb-false, le-ltb}
use Rattle.std.proofs.lemmas.List.{append-nil, take_at, drop_at, take-append-drop, length-append}
use Rattle.std.proofs.lemmas.List.{length-take, length-replicate}
use Rattle.std.proofs.lemmas.Nat.{be_bytes_2, be_bytes_4, be_bytes_8}
use Rattle.byteorder.specs.Endian.{big_number}
use Rattle.byteorder.specs.Numbers.{big_number-reads_back, big_from-append, big_from-lt}
use Rattle.byteorder.specs.Numbers.{length-bytes_high_first}
use Rattle.cm_class.specs.declared.stop.Stop.{Stop}
use Rattle.cm_class.specs.declared.stop.Stop.TheVariants.{Short}
use Rattle.cm_class.specs.Spelling.{u1, u2, u4, u8, IsU1, IsU2, IsU4, IsU8, AreBytes}
use Rattle.cm_class.specs.Reading.{◌>>=◌, made_at, number_at, byte_at, bytes_at, sized_at}
use Rattle.cm_class.proofs.Readers.{Read, Reads, Says, reads_then, reads_made}

-- ---- lists of bytes

pub AreBytes-at : (bytes : List ℕ) → AreBytes bytes → (i : ℕ) → get_or bytes i 0 < 256
AreBytes-at [] are i = omega arith
AreBytes-at (b ∷ bytes) are zero = are.0
AreBytes-at (b ∷ bytes) are (suc i) = AreBytes-at bytes are.1 i

pub AreBytes-from_at : (bytes : List ℕ) → ((i : ℕ) → get_or bytes i 0 < 256) → AreBytes bytes
AreBytes-from_at [] at = tt
AreBytes-from_at (b ∷ bytes) at = (at 0, AreBytes-from_at bytes (λ i. at (suc i)))

-- as a proof knows this from a slice of bytes
pub AreBytes-from_slice : (bytes : List ℕ) → ((i : ℕ) → Fits w8 (get_or bytes i 0)) → AreBytes bytes
AreBytes-from_slice bytes h = AreBytes-from_at bytes (λ i. omega (arith, h i))

AreBytes-append : (a b : List ℕ) → AreBytes a → AreBytes b → AreBytes (a ++ b)
AreBytes-append [] b f g = g
AreBytes-append (x ∷ a) b f g = (f.0, AreBytes-append a b f.1 g)

AreBytes-front : (a b : List ℕ) → AreBytes (a ++ b) → AreBytes a
AreBytes-front [] b h = tt
AreBytes-front (x ∷ a) b h = (h.0, AreBytes-front a b h.1)

AreBytes-zeros : (n : ℕ) → AreBytes (replicate n 0)
AreBytes-zeros zero = tt
AreBytes-zeros (suc n) = (omega arith, AreBytes-zeros n)

-- ---- lists of bytes

says_bytes : (n : ℕ) (bytes : List ℕ) → AreBytes bytes → (b : Bool) → ltb (length bytes) n ≡ b
    → Says (λ v. v) (λ v. (length v ≡ n) × AreBytes v) bytes
    (cond b (Err Short) (Ok (take n bytes, drop n bytes)))
says_bytes n bytes are true e =
    let zeros : List ℕ = replicate (n - suc (length bytes)) 0 in
    let len : length (bytes ++ 0 ∷ zeros) ≡ n =
    omega (
      arith,
      length-append bytes (0 ∷ zeros),
      length-replicate {A = ℕ} (n - suc (length bytes)) 0,
      ltb-true _ _ e,
    ) in
    record {
      value =
          bytes ++ 0 ∷ zeros;
      fits = (
        len,
        AreBytes-append bytes (0 ∷ zeros) are
            (omega arith, AreBytes-zeros (n - suc (length bytes))),
      );
      next =
          0;
      more = zeros;
      parts = refl;
    }
says_bytes n bytes are false e =
    let enough : n ≤ length bytes = ltb-false _ _ e in
    let len : length (take n bytes) ≡ n = omega (arith, length-take n bytes) in (
      (
        len,
        AreBytes-front (take n bytes) (drop n bytes)
            (subst AreBytes (sym (take-append-drop n bytes)) are),
      ),
      sym (take-append-drop n bytes),
    )

pub bytes_reads : (n : ℕ) → Reads (bytes_at n) (λ v. v) (λ v. (length v ≡ n) × AreBytes v)
bytes_reads n = record {
  says = λ bytes are. says_bytes n bytes are (ltb (length bytes) n) refl;
  again = λ v fits rest.
      let enough : ltb (length (v ++ rest)) n ≡ false =
      le-ltb _ _ (omega (arith, length-append v rest, fits.0)) in
      rw (enough, take_at v rest n fits.0, drop_at v rest n fits.0) refl;
  some = replicate n 0;
  some_fits = (length-replicate n 0, AreBytes-zeros n);
}

-- ---- numbers

pub reads_equal : {A : Type 0} (q r : List ℕ → Result (A × List ℕ) Stop) (s : A → List ℕ)
    (F : A → Type 0) → ((bytes : List ℕ) → q bytes ≡ r bytes) → Reads r s F → Reads q s F
reads_equal q r s F same one = record {
  says = λ bytes are. subst (Says s F bytes) (sym (same bytes)) (one.says bytes are);
  again = λ v fits rest. same (s v ++ rest) ∙ one.again v fits rest;
  some = one.some;
  some_fits = one.some_fits;
}

byte-below : (i v : ℕ) → number_byte i v < 256
byte-below zero v = omega arith
byte-below (suc i) v = omega arith

AreBytes-high_first : (n v : ℕ) → AreBytes (bytes_high_first n v)
AreBytes-high_first zero v = tt
AreBytes-high_first (suc n) v = (byte-below n v, AreBytes-high_first n v)

-- a number from a list of bytes
number_is_made : (n : ℕ) (bytes : List ℕ) (b : Bool) → ltb (length bytes) n ≡ b
    → cond {A = Read ℕ} b (Err Short) (Ok (big_number n bytes, drop n bytes))
    ≡ (cond {A = Read (List ℕ)} b (Err Short) (Ok (take n bytes, drop n bytes)) >>= λ x.
    Ok (big_number n x.0, x.1))
number_is_made n bytes true e = refl
number_is_made n bytes false e =
    let enough : n ≤ length (take n bytes) = omega (arith, length-take n bytes, ltb-false _ _ e) in
    ap (λ (v : ℕ). let r : Read ℕ = Ok (v, drop n bytes) in r)
    (ap (big_number n) (sym (take-append-drop n bytes)) ∙ big_from-append n (take n bytes)
    (drop n bytes) enough)

-- a list of n bytes is that of the number in it
abbrev pub IsWidth : ℕ → Type 0
IsWidth n = (bytes : List ℕ) → length bytes ≡ n → AreBytes bytes
    → bytes_high_first n (big_number n bytes) ≡ bytes

pub width2 : IsWidth 2
width2 bytes len are =
    be_bytes_2 bytes (big_number 2 bytes) len (AreBytes-at bytes are) (omega arith)

pub width4 : IsWidth 4
width4 bytes len are =
    be_bytes_4 bytes (big_number 4 bytes) len (AreBytes-at bytes are) (omega arith)

pub width8 : IsWidth 8
width8 bytes len are =
    be_bytes_8 bytes (big_number 8 bytes) len (AreBytes-at bytes are) (omega arith)

number_reads : (n : ℕ) → IsWidth n → Reads (number_at n) (bytes_high_first n) (λ v. v < 256 ^ n)
number_reads n width =
    reads_equal (number_at n) (made_at (big_number n) (bytes_at n)) (bytes_high_first n)
    (λ v. v < 256 ^ n) (λ bytes. number_is_made n bytes (ltb (length bytes) n) refl)
    (reads_made (bytes_at n) (λ v. v) (λ v. (length v ≡ n) × AreBytes v) (big_number n)
    (bytes_high_first n) (λ v. v < 256 ^ n) (bytes_reads n)
    (λ v fits. (
      bytes_high_first n v,
      (length-bytes_high_first n v, AreBytes-high_first n v),
      ap (big_number n) (sym (append-nil (bytes_high_first n v))) ∙ big_number-reads_back n v []
          fits,
    ))
    (λ bytes fits. (big_from-lt 0 n bytes (AreBytes-at bytes fits.1), width bytes fits.0 fits.1)))

pub u2_reads : Reads (number_at 2) u2 IsU2
u2_reads = number_reads 2 width2

pub u4_reads : Reads (number_at 4) u4 IsU4
u4_reads = number_reads 4 width4

pub u8_reads : Reads (number_at 8) u8 IsU8
u8_reads = number_reads 8 width8

says_byte : (bytes : List ℕ) → AreBytes bytes → Says u1 IsU1 bytes (byte_at bytes)
says_byte [] are = record { value = 0; fits = omega arith; next = 0; more = []; parts = refl }
says_byte (b ∷ bytes) are = (are.0, refl)

pub u1_reads : Reads byte_at u1 IsU1
u1_reads = record {
  says =
      says_byte;
  again = λ v fits rest. refl;
  some = 0;
  some_fits = omega arith;
}

-- ---- a length, and a list of that length

-- reads a length as a number of w bytes
sized_reads : (w : ℕ) (s1 : ℕ → List ℕ) (F1 : ℕ → Type 0) → Reads (number_at w) s1 F1
    → Reads (sized_at w) (λ v. s1 (length v) ++ v) (λ v. F1 (length v) × AreBytes v)
unfolding sized_at
sized_reads w s1 F1 one =
    reads_then (number_at w) s1 F1 bytes_at (λ n v. v) (λ n v. (length v ≡ n) × AreBytes v)
    (λ v. s1 (length v) ++ v) (λ v. F1 (length v) × AreBytes v) one (λ n fits. bytes_reads n)
    (λ v fits. record {
      first =
          length v;
      first_fits = fits.0;
      rest_fits = (refl, fits.1);
      spelled = refl;
    })
    (λ n v fits rest. ((subst F1 (sym rest.0) fits, rest.1), ap (λ (k : ℕ). s1 k ++ v) rest.0))

pub text_reads : Reads (sized_at 2) (λ v. u2 (length v) ++ v) (λ v. IsU2 (length v) × AreBytes v)
text_reads = sized_reads 2 u2 IsU2 u2_reads

pub content_reads : Reads (sized_at 4) (λ v. u4 (length v) ++ v) (λ v. IsU4 (length v) × AreBytes v)
content_reads = sized_reads 4 u4 IsU4 u4_reads
