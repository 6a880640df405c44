use Rattle.std.proofs.Common.{◌≡◌, ◌+◌, Bor, List, ℕ, map, drop, take, length, []}
use Rattle.std.proofs.Common.{◌∙◌, ap, sym, None, Some, Option, arith, append-nil}
use Rattle.std.proofs.Common.{IsSome, get_or, length-set, length-take-le}
use Rattle.std.specs.Prelude.{IfSome}
use Rattle.std.proofs.lemmas.List.{drop_more, drop_all, take_more_set}
use Rattle.cm_layout.specs.Rows.{number_of}
use Rattle.cm_front.specs.Front.{FrontState}
use Rattle.cm_front.specs.Refusing.{numbers_of}
use Rattle.cm_front.proofs.NameNumbers.{with_front, number-more}
use Rattle.cm_front.proofs.front.Front.numbers_of.Goals as goal

abbrev texts : List (Bor (List ℕ)) → List (List ℕ)
texts names = map (λ (name : Bor (List ℕ)). name.now) names

pub loop-at-preserved : goal.loop-at-preserved
loop-at-preserved c =
    let names = c.args.names.now in
    let rows = c.args.self.now.rows in
    let i = c.loop-at.at in
    let front = take i c.loop-at.numbers in
    let u = c.in_ok-numbers.field-0 in
    let room = c.loop-at.invariant.room in
    let few = c.requires.few in
    let more = c.loop-at-test.true in
    let none : Bor (List ℕ) = record { ref_ptr = (0, 0); now = [] } in
    let x : List ℕ = (get_or names i none).now in
    let found : number_of x rows ≡ Some u =
    sym (ap (λ (s : FrontState). number_of x s.rows) c.self.view_is) ∙ sym c.loader.ensures
    ∙ c.in_ok-numbers.was in
    record {
      room = length-set c.loop-at.numbers i u ∙ room;
      sofar =
          ap (λ us. with_front us (numbers_of (texts (drop (i + 1) names)) rows))
          (take_more_set c.loop-at.numbers i u (omega (arith, room, few, more)))
          ∙ sym (number-more front x (texts (drop (i + 1) names)) rows u found)
          ∙ ap (λ l. with_front front (numbers_of (texts l) rows))
          (sym (drop_more names i none more))
          ∙ c.loop-at.invariant.sofar;
    }

some_is : (o : Option (List ℕ)) (us : List ℕ) → IsSome o → IfSome o (λ vs. vs ≡ us) → o ≡ Some us
some_is None us some is = absurd (cc)
some_is (Some vs) us some is = ap Some is

pub returns : goal.returns
returns c =
    let names = c.args.names.now in
    let rows = c.args.self.now.rows in
    let i = c.loop-at.at in
    let numbers = c.loop-at.numbers in
    let from = c.requires.some in
    let to = c.requires.few in
    let room = c.loop-at.invariant.room in
    let end = c.loop-at.auto.at-end in
    let last = c.loop-at-test.false in
    let count : length names ≡ i = omega (arith, end, last) in
    let long : length (take (length names) numbers) ≡ length names =
    length-take-le (length names) numbers (omega (arith, to, room)) in
    some_is c.new.result (take (length names) numbers)
    (c.new.ensures.fits.1 (omega (arith, long, from), omega (arith, long, to)))
    c.new.ensures.value
    ∙ ap (λ n. Some (take n numbers)) count
    ∙ ap Some (sym (append-nil (take i numbers)))
    ∙ ap (λ l. with_front (take i numbers) (numbers_of (texts l) rows))
    (sym (drop_all i names last))
    ∙ c.loop-at.invariant.sofar
