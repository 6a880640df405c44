-- The readers of attributes, members and whole classes.
-- For `each_input_has_one_answer`, `no_spelling_begins_another`, `one_class_for_one_spelling` and
-- others.
use Rattle.std.proofs.Common.{◌≡◌, ℕ, List, ◌++◌, length, Result, refl, append_assoc}
use Rattle.cm_class.specs.declared.stop.Stop.{Stop}
use Rattle.cm_class.specs.declared.constant.Slot.{Slot}
use Rattle.cm_class.specs.declared.class_file.ClassFile.{ClassFile}
use Rattle.cm_class.specs.Spelling.{u2, u4, IsU2, IsU4, AreBytes, attribute_bytes, member_bytes}
use Rattle.cm_class.specs.Spelling.{counted, spell, CountedFit, AttributeFits, MemberFits}
use Rattle.cm_class.specs.Spelling.{HasSpelling}
use Rattle.cm_class.specs.Reading.{both_at, number_at, sized_at, counted_at, attribute_at}
use Rattle.cm_class.specs.Reading.{member_at, pool_at, Body, body_at, class_at}
use Rattle.cm_class.proofs.Readers.{Reads, reads_made, reads_both}
use Rattle.cm_class.proofs.Fields.{u2_reads, content_reads}
use Rattle.cm_class.proofs.Lists.{counted_reads}
use Rattle.cm_class.proofs.PoolLaws.{pool_bytes, PoolFits, pool_reads}

abbrev ContentFits : List ℕ → Type 0
ContentFits v = IsU4 (length v) × AreBytes v

pub attribute_reads : Reads attribute_at attribute_bytes AttributeFits
unfolding attribute_at
attribute_reads =
    reads_made (both_at (number_at 2) (sized_at 4)) (λ x. u2 x.0 ++ (u4 (length x.1) ++ x.1))
    (λ x. IsU2 x.0 × ContentFits x.1) (λ x. record { name = x.0; bytes = x.1 }) attribute_bytes
    AttributeFits
    (reads_both (number_at 2) u2 IsU2 (sized_at 4) (λ v. u4 (length v) ++ v) ContentFits u2_reads
    content_reads)
    (λ a fits. ((a.name, a.bytes), (fits.name, (fits.size, fits.bytes)), refl))
    (λ x fits. (record { name = fits.0; size = fits.1.0; bytes = fits.1.1 }, refl))

attributes_read : Reads (counted_at attribute_at) (counted attribute_bytes)
    (CountedFit AttributeFits)
attributes_read = counted_reads attribute_at attribute_bytes AttributeFits attribute_reads

-- one number of two bytes, and what is after it
u2_then : {B : Type 0} (q : List ℕ → Result (B × List ℕ) Stop) (s : B → List ℕ) (F : B → Type 0)
    → Reads q s F → Reads (both_at (number_at 2) q) (λ x. u2 x.0 ++ s x.1) (λ x. IsU2 x.0 × F x.1)
u2_then q s F two = reads_both (number_at 2) u2 IsU2 q s F u2_reads two

pub member_reads : Reads member_at member_bytes MemberFits
unfolding member_at
member_reads =
    reads_made (both_at (number_at 2)
    (both_at (number_at 2) (both_at (number_at 2) (counted_at attribute_at))))
    (λ x. u2 x.0 ++ (u2 x.1.0 ++ (u2 x.1.1.0 ++ counted attribute_bytes x.1.1.1)))
    (λ x. IsU2 x.0 × (IsU2 x.1.0 × (IsU2 x.1.1.0 × CountedFit AttributeFits x.1.1.1)))
    (λ x. record { flags = x.0; name = x.1.0; descriptor = x.1.1.0; attributes = x.1.1.1 })
    member_bytes MemberFits
    (u2_then _ _ _ (u2_then _ _ _ (u2_then _ _ _ attributes_read)))
    (λ m fits. (
      (m.flags, (m.name, (m.descriptor, m.attributes))),
      (fits.flags, (fits.name, (fits.descriptor, fits.attributes))),
      refl,
    ))
    (λ x fits. (
      record {
        flags =
            fits.0;
        name = fits.1.0;
        descriptor = fits.1.1.0;
        attributes = fits.1.1.1;
      },
      refl,
    ))

members_read : Reads (counted_at member_at) (counted member_bytes) (CountedFit MemberFits)
members_read = counted_reads member_at member_bytes MemberFits member_reads

abbrev body_bytes : Body → List ℕ
body_bytes x =
    u2 x.0 ++ (u2 x.1.0 ++ (u2 x.1.1.0 ++ (counted u2 x.1.1.1.0
    ++ (counted member_bytes x.1.1.1.1.0
    ++ (counted member_bytes x.1.1.1.1.1.0 ++ counted attribute_bytes x.1.1.1.1.1.1)))))

abbrev BodyFits : Body → Type 0
BodyFits x =
    IsU2 x.0 × (IsU2 x.1.0 × (IsU2 x.1.1.0 × (CountedFit IsU2 x.1.1.1.0
    × (CountedFit MemberFits x.1.1.1.1.0
    × (CountedFit MemberFits x.1.1.1.1.1.0 × CountedFit AttributeFits x.1.1.1.1.1.1)))))

body_reads : Reads body_at body_bytes BodyFits
body_reads =
    u2_then _ _ _ (u2_then _ _ _ (u2_then _ _ _
    (reads_both _ _ _ _ _ _ (counted_reads (number_at 2) u2 IsU2 u2_reads)
    (reads_both _ _ _ _ _ _ members_read (reads_both _ _ _ _ _ _ members_read attributes_read)))))

-- a class file from its pool and its body
abbrev file_of : List Slot × Body → ClassFile
file_of x = record {
  slots = x.0;
  flags = x.1.0;
  this_class = x.1.1.0;
  super_class = x.1.1.1.0;
  interfaces = x.1.1.1.1.0;
  fields = x.1.1.1.1.1.0;
  methods = x.1.1.1.1.1.1.0;
  attributes = x.1.1.1.1.1.1.1;
}

abbrev parts_of : ClassFile → List Slot × Body
parts_of c = (
  c.slots,
  (
    c.flags,
    (c.this_class, (c.super_class, (c.interfaces, (c.fields, (c.methods, c.attributes))))),
  ),
)

regrouped : (p f t s i d m a : List ℕ)
    → ((((((p ++ f) ++ t) ++ s) ++ i) ++ d) ++ m) ++ a ≡ p
    ++ (f ++ (t ++ (s ++ (i ++ (d ++ (m ++ a))))))
regrouped p f t s i d m a = simp append_assoc

spell_grouped : (x : List Slot × Body) → spell (file_of x) ≡ pool_bytes x.0 ++ body_bytes x.1
spell_grouped x =
    regrouped (pool_bytes x.0) (u2 x.1.0) (u2 x.1.1.0) (u2 x.1.1.1.0) (counted u2 x.1.1.1.1.0)
    (counted member_bytes x.1.1.1.1.1.0) (counted member_bytes x.1.1.1.1.1.1.0)
    (counted attribute_bytes x.1.1.1.1.1.1.1)

pub class_reads : Reads class_at spell HasSpelling
unfolding class_at
class_reads =
    reads_made (both_at pool_at body_at) (λ x. pool_bytes x.0 ++ body_bytes x.1)
    (λ x. PoolFits x.0 × BodyFits x.1) file_of spell HasSpelling
    (reads_both pool_at pool_bytes PoolFits body_at body_bytes BodyFits pool_reads body_reads)
    (λ c fits. (
      parts_of c,
      (
        (fits.count, fits.slots),
        (
          fits.flags,
          (
            fits.this_class,
            (fits.super_class, (fits.interfaces, (fits.fields, (fits.methods, fits.attributes)))),
          ),
        ),
      ),
      refl,
    ))
    (λ x fits. (
      record {
        count = fits.0.0;
        slots = fits.0.1;
        flags = fits.1.0;
        this_class = fits.1.1.0;
        super_class = fits.1.1.1.0;
        interfaces = fits.1.1.1.1.0;
        fields = fits.1.1.1.1.1.0;
        methods = fits.1.1.1.1.1.1.0;
        attributes = fits.1.1.1.1.1.1.1;
      },
      spell_grouped x,
    ))
