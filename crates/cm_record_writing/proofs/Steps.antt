-- Words that are added piece by piece.
-- For `push_attributes_and_runs`, `push_member_attributes`, `push_pool_and_members`.
use Rattle.std.proofs.Common.{◌≡◌, ◌+◌, ◌*◌, ℕ, List, [], ◌∷◌, ◌++◌, length, sym, ◌∙◌, ap, arith}
use Rattle.std.proofs.Common.{append_assoc, length-append}
use Rattle.cm_class.specs.declared.class_file.Attribute.{Attribute}
use Rattle.cm_class.specs.declared.class_file.ClassFile.{ClassFile}
use Rattle.cm_record_layout.specs.Layout.{directory, members, member_attributes, attributes}
use Rattle.cm_record_layout.specs.Layout.{attribute_runs, utf8_runs, all_members, all_attributes}
use Rattle.cm_record_layout.specs.Layout.{attributes_at, runs_at, attribute_runs_at}
use Rattle.cm_record_layout.proofs.{attributes_append, attribute_runs_append, members_append}
use Rattle.cm_record_layout.proofs.{all_runs}

-- one more member's attributes
pub attributes_step : (words words' target : List ℕ) (at at' : ℕ) (all own rest : List Attribute)
    → all ≡ own ++ rest
    → words ++ attributes at all ≡ target → words' ≡ words ++ attributes at own
    → at' ≡ at + length (attribute_runs own) → words' ++ attributes at' rest ≡ target
attributes_step words words' target at at' all own rest split so_far added next =
    rw (added, next) (append_assoc words (attributes at own)
    (attributes (at + length (attribute_runs own)) rest)
    ∙ ap (λ w. words ++ w) (sym (attributes_append at own rest) ∙ ap (attributes at) (sym split))
    ∙ so_far)

-- the directory, the interfaces and the members
pub pool_and_members : (w0 w1 w2 w3 w4 w5 : List ℕ) (c : ClassFile) (runs at next : ℕ)
    → runs ≡ runs_at c → at ≡ attributes_at c
    → w1 ≡ w0 ++ 0 ∷ [] → w2 ≡ w1 ++ directory runs c.slots → w3 ≡ w2 ++ c.interfaces
    → w4 ≡ w3 ++ members at c.fields → next ≡ at + 2 * length (member_attributes c.fields)
    → w5 ≡ w4 ++ members next c.methods
    → w5 ≡ w0 ++ (0 ∷ directory (runs_at c) c.slots) ++ c.interfaces
    ++ members (attributes_at c) (all_members c)
pool_and_members w0 w1 w2 w3 w4 w5 c runs at next er ea e1 e2 e3 e4 en e5 =
    rw (e5, e4, e3, e2, e1, en, ea, er)
    (append_assoc (w0 ++ 0 ∷ [] ++ directory (runs_at c) c.slots ++ c.interfaces)
    (members (attributes_at c) c.fields)
    (members (attributes_at c + 2 * length (member_attributes c.fields)) c.methods)
    ∙ ap (λ w. w0 ++ 0 ∷ [] ++ directory (runs_at c) c.slots ++ c.interfaces ++ w)
    (sym (members_append (attributes_at c) c.fields c.methods))
    ∙ ap (λ w. w ++ c.interfaces ++ members (attributes_at c) (all_members c))
    (append_assoc w0 (0 ∷ []) (directory (runs_at c) c.slots)))

-- attributes after others
attributes_behind : (w0 w1 w2 : List ℕ) (at next : ℕ) (xs ys : List Attribute)
    → w1 ≡ w0 ++ attributes at xs → next ≡ at + length (attribute_runs xs)
    → w2 ≡ w1 ++ attributes next ys
    → w2 ≡ w0 ++ attributes at (xs ++ ys)
attributes_behind w0 w1 w2 at next xs ys e1 en e2 =
    rw (e2, e1, en) (append_assoc w0 (attributes at xs)
    (attributes (at + length (attribute_runs xs)) ys)
    ∙ ap (λ w. w0 ++ w) (sym (attributes_append at xs ys)))

runs_len : (xs ys : List Attribute)
    → length (attribute_runs (xs ++ ys)) ≡ length (attribute_runs xs) + length (attribute_runs ys)
runs_len xs ys =
    ap length (attribute_runs_append xs ys) ∙ length-append (attribute_runs xs) (attribute_runs ys)

-- the attributes and the runs
pub attributes_and_runs : (w0 w1 w2 w3 w4 w5 w6 w7 : List ℕ) (c : ClassFile) (at n1 n2 : ℕ)
    → at ≡ attribute_runs_at c
    → w1 ≡ w0 ++ attributes at (member_attributes c.fields)
    → n1 ≡ at + length (attribute_runs (member_attributes c.fields))
    → w2 ≡ w1 ++ attributes n1 (member_attributes c.methods)
    → n2 ≡ n1 + length (attribute_runs (member_attributes c.methods))
    → w3 ≡ w2 ++ attributes n2 c.attributes → w4 ≡ w3 ++ utf8_runs c.slots
    → w5 ≡ w4 ++ attribute_runs (member_attributes c.fields)
    → w6 ≡ w5 ++ attribute_runs (member_attributes c.methods)
    → w7 ≡ w6 ++ attribute_runs c.attributes
    → w7 ≡ w0 ++ attributes (attribute_runs_at c) (all_attributes c) ++ utf8_runs c.slots
    ++ attribute_runs (all_attributes c)
attributes_and_runs w0 w1 w2 w3 w4 w5 w6 w7 c at n1 n2 ea e1 en1 e2 en2 e3 e4 e5 e6 e7 =
    let fs = member_attributes c.fields in
    let ms = member_attributes c.methods in
    let members_done : w2 ≡ w0 ++ attributes at (fs ++ ms) =
    attributes_behind w0 w1 w2 at n1 fs ms e1 en1 e2 in
    let whole : w3 ≡ w0 ++ attributes (attribute_runs_at c) (all_attributes c) =
    attributes_behind w0 w2 w3 at n2 (fs ++ ms) c.attributes members_done
    (omega (arith, en1, en2, runs_len fs ms)) e3
    ∙ ap (λ n. w0 ++ attributes n (all_attributes c)) ea in
    let front = w0 ++ attributes (attribute_runs_at c) (all_attributes c) ++ utf8_runs c.slots in
    let texts : w4 ≡ front = e4 ∙ ap (λ w. w ++ utf8_runs c.slots) whole in
    rw (e7, e6, e5, texts)
    (append_assoc (front ++ attribute_runs fs) (attribute_runs ms) (attribute_runs c.attributes)
    ∙ (append_assoc front (attribute_runs fs) (attribute_runs ms ++ attribute_runs c.attributes)
    ∙ ap (λ w. front ++ w) (sym
    (append_assoc (attribute_runs fs) (attribute_runs ms) (attribute_runs c.attributes))
    ∙ sym (all_runs c))))
