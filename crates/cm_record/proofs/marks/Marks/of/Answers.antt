use Rattle.std.proofs.Common.{◌≡◌, ◌∙◌, ◌+◌, ◌<◌, ℕ, suc, false, length, get_or, sym, ap, refl, inl}
use Rattle.std.proofs.Common.{inr, arith}
use Rattle.std.specs.Prelude.{None, ◌&&◌, not, ◌^◌, slice_set as set}
use Rattle.std.proofs.Math.Nat.{eq-or-lt_of_le}
use Rattle.std.proofs.lemmas.Bool.Decides.{leb_tells}
use Rattle.std.proofs.lemmas.List.{get_or-set_same, get_or-set_other, get_or-replicate}
use Rattle.std.proofs.lemmas.List.{length-set, length-replicate}
use Rattle.cm_class.specs.Names.{names_utf8}
use Rattle.cm_record_layout.proofs.{directory_within, record_long}
use Rattle.cm_record.specs.Constants.{is_second_word, is_wide_word}
use Rattle.cm_record.proofs.Constants.{first_is_no_second}
use Rattle.cm_record.proofs.RunTests.{no_utf8}
use Rattle.cm_record.proofs.Utf8Words.{leads_to_none}
use Rattle.cm_record.proofs.marks.Marks.of.Goals as goal

pub bounds-words-2 : goal.bounds-words-2
bounds-words-2 c = omega (arith, record_long c.args.words.now c.requires)

pub constant_at-requires-clause-within : goal.constant_at-requires-clause-within
constant_at-requires-clause-within c = directory_within c.args.words.now c.requires

pub bounds-words-index : goal.bounds-words-index
bounds-words-index c =
    omega (
      arith,
      directory_within c.args.words.now c.requires,
      c.first-index-end.ensures,
      c.loop-index-test.true,
    )

pub loop-index-init : goal.loop-index-init
loop-index-init c =
    let none = λ (k : ℕ) (small : k < 2 ^ 16). get_or-replicate (2 ^ 16) k false false small in
    record {
      long = length-replicate (2 ^ 16) false;
      second = sym (first_is_no_second c.requires.0 c.args.words.now c.requires.1);
      marked = λ d is k first.
          let zero : k ≡ 0 = omega arith in
          none k (omega arith) ∙ (no_utf8 d c.args.words.now is 0 None refl refl c.args.bytes.now
          ∙ ap (λ n. names_utf8 d n c.args.bytes.now) (sym zero));
      rest = λ k from small. none k small;
    }

pub loop-index-preserved : goal.loop-index-preserved
loop-index-preserved c =
    let words = c.args.words.now in
    let i = c.loop-index.index in
    let leads = c.loop-index.leads in
    let now = c.loop-index.invariant in
    let there : i < length leads =
    omega (arith, now.long, c.first-index-end.type_inv, c.loop-index-test.true) in
    let next : suc (8 + i) ≡ 8 + (i + 1) = omega arith in
    record {
      long = length-set leads i c.is_utf8.result ∙ now.long;
      second = c.is_next_second-is_second.ensures
          ∙ (ap (λ b. is_wide_word (get_or words (8 + i) 0) && not b) now.second
          ∙ ap (is_second_word words) next);
      marked = λ d is k lt. elim (eq-or-lt_of_le {n = k} {m = i} (omega arith)) [
        | inl same ↦ ap (λ n. get_or (set leads i c.is_utf8.result) n false) same
            ∙ (get_or-set_same leads i c.is_utf8.result false there
            ∙ (c.is_utf8.ensures d i is c.constant_at.ensures
            ∙ ap (λ n. names_utf8 d n c.args.bytes.now) (sym same)))
        | inr less ↦ get_or-set_other leads i k c.is_utf8.result false (λ same. omega (arith, same))
            ∙ now.marked d is k less
      ];
      rest = λ k from small. get_or-set_other leads i k c.is_utf8.result false
          (λ same. omega (arith, same)) ∙ now.rest k (omega arith) small;
    }

pub returns : goal.returns
returns c = λ d is k small.
    let now = c.loop-index.invariant in
    elim (leb_tells c.loop-index.index k) [
      | inr less ↦ now.marked d is k less.1
      | inl past ↦ now.rest k past.1 small
          ∙ sym (leads_to_none d c.args.words.now is k c.args.bytes.now
          (λ looks. omega (
            arith,
            looks.within,
            past.1,
            c.first-index-end.ensures,
            c.loop-index-test.false,
          )))
    ]
