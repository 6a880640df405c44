-- One byte is written when everything is durable: each image has some byte there, and nothing else
-- new.
-- For `cuts_behind_keep_a_claim`, `gates_turn_claims`, `guarded_claim_holds_of_each_image` and
-- others.
use Rattle.std.proofs.Common.{◌≡◌, ◌<◌, ◌+◌, ◌⊎◌, ℕ, Bool, true, false, List, [], ◌∷◌}
use Rattle.std.proofs.Common.{length, get_or, take, drop, refl, sym, ◌∙◌, ap, subst, ⊎_elim}
use Rattle.std.proofs.Common.{arith, inl, inr}
use Rattle.std.proofs.Common.{suc, append_assoc}
use Rattle.std.specs.Prelude.{◌||◌, ◌&&◌, nat_le, nat_lt}
use Rattle.std.proofs.Math.ListN.{set}
use Rattle.std.proofs.lemmas.Bool.{false≢true, lt-leb, le-ltb, cases_lt}
use Rattle.std.proofs.lemmas.List.{ext_get_or, length-set, get_or-set_same, get_or-set_other}
use Rattle.std.proofs.lemmas.List.{set_split}
use Rattle.cm_disk.specs.Disk.{Unsynced, IsImage, IsWithin, IsDurable, IsSound, widened, is_among}
use Rattle.cm_disk.specs.Calls.{IsTorn, overwritten}
use Rattle.cm_disk.proofs.{after_write}
use Rattle.cm_guards.specs.Guards.{EachImage}
use Rattle.cm_guards.specs.Gates.{OneOf, Turns}

-- if everything is durable, an image is the contents
pub durable_image : (contents : List ℕ) (unsynced : Unsynced) (image : List ℕ)
    → IsDurable contents unsynced → IsImage contents unsynced image → image ≡ contents
durable_image contents unsynced image durable is =
    ext_get_or 0 image contents
    (omega (arith, durable.least, durable.greatest, is.no_shorter, is.no_longer))
    (λ i lt. is.same i
    (omega (arith, durable.least, durable.greatest, is.no_longer, lt)) (durable.none_open i))

pub durable_images : (P : List ℕ → Type 0) (contents : List ℕ) (unsynced : Unsynced)
    → IsDurable contents unsynced → P contents → EachImage contents unsynced P
durable_images P contents unsynced durable holds = record {
  each = λ image is. subst P (sym (durable_image contents unsynced image durable is)) holds;
}

-- the contents are an image
pub contents_are_image : (contents : List ℕ) (unsynced : Unsynced) → IsSound contents unsynced
    → IsImage contents unsynced contents
contents_are_image contents unsynced sound = record {
  no_shorter = sound.least;
  no_longer = sound.greatest;
  bytes = sound.bytes;
  same = λ i lt closed. refl;
}

both_false : (a b : Bool) → (a ≡ false) ⊎ (b ≡ false) → (a && b) ≡ false
both_false true b e = ⊎_elim (λ f. absurd (false≢true (sym f))) (λ f. f) e
both_false false b e = refl

other_closed : (gate i : ℕ) → (i ≡ gate → ⊥) → is_among gate 1 i ≡ false
other_closed gate i other =
    both_false (nat_le gate i) (nat_lt i (gate + 1))
    (⊎_elim (λ below. inl (lt-leb gate i below))
    (λ past. inr (le-ltb i (gate + 1) (omega arith)))
    (cases_lt i gate))

-- an image while one byte is written is the contents with some byte there
pub gate_image : (gate : ℕ) (base : List ℕ) (unsynced : Unsynced) (image : List ℕ)
    → gate < length base → IsDurable base unsynced → IsImage base (widened gate 1 unsynced) image
    → image ≡ set base gate (get_or image gate 0)
gate_image gate base unsynced image inside durable is =
    let b = get_or image gate 0 in
    let long : length image ≡ length base =
    omega (arith, durable.least, durable.greatest, is.no_shorter, is.no_longer, inside) in
    ext_get_or 0 image (set base gate b) (long ∙ sym (length-set base gate b))
    (λ i lt. ⊎_elim
    (λ here. subst (λ (k : ℕ). get_or image k 0 ≡ get_or (set base gate b) k 0) (sym here)
    (sym (get_or-set_same base gate b 0 inside)))
    (λ other. is.same i (omega (arith, durable.least, long, lt))
    (ap (λ (o : Bool). o || is_among gate 1 i) (durable.none_open i) ∙ other_closed gate i other)
    ∙ sym (get_or-set_other base gate i b 0 other))
    (same_or_other i gate))
  where
    same_or_other : (i gate : ℕ) → (i ≡ gate) ⊎ (i ≡ gate → ⊥)
    same_or_other i gate =
        ⊎_elim (λ below. inr (λ e. omega arith))
        (λ past. ⊎_elim (λ above. inr (λ e. omega arith)) (λ at. inl (omega arith))
        (cases_lt gate i))
        (cases_lt i gate)

-- while the gate's byte is written, one fact or the other holds of each image
pub turned_during : (P Q : List ℕ → Type 0) (gate byte : ℕ) (base : List ℕ) (unsynced : Unsynced)
    → Turns P Q gate byte base → IsDurable base unsynced
    → EachImage base (widened gate 1 unsynced) (OneOf P Q)
turned_during P Q gate byte base unsynced turns durable = record {
  each = λ image is.
      subst (OneOf P Q)
      (sym (gate_image gate base unsynced image turns.inside durable is))
      (turns.either (get_or image gate 0) (is.bytes gate
      (omega (arith, durable.least, is.no_shorter, turns.inside))));
}

-- the same holds afterwards, until a sync, whether the write succeeded or failed
pub turned_after : (P Q : List ℕ → Type 0) (gate byte : ℕ) (base now : List ℕ)
    (before after : Unsynced) → Turns P Q gate byte base → IsDurable base before
    → IsTorn gate 1 base now → IsWithin (widened gate 1 before) after
    → EachImage now after (OneOf P Q)
turned_after P Q gate byte base now before after turns durable torn within = record {
  each = λ image is.
      (turned_during P Q gate byte base before turns durable).each image
      (after_write gate 1 base now before after image torn within is);
}

-- after the byte is written, the second fact holds of the contents
pub gate_written : (gate byte : ℕ) (base : List ℕ) → gate < length base
    → overwritten gate (byte ∷ []) base ≡ set base gate byte
gate_written gate byte base inside =
    let e : gate + 1 ≡ suc gate = omega arith in
    rw (set_split base gate byte inside, e)
    (append_assoc (take gate base) (byte ∷ []) (drop (suc gate) base))

pub turned : (P Q : List ℕ → Type 0) (gate byte : ℕ) (base now : List ℕ)
    → Turns P Q gate byte base → now ≡ overwritten gate (byte ∷ []) base → Q now
turned P Q gate byte base now turns e =
    subst Q (sym (e ∙ gate_written gate byte base turns.inside)) turns.last
