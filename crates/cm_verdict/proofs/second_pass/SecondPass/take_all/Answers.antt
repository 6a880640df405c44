use Rattle.std.proofs.Common.{◌≡◌, ℕ, List, [], ◌∷◌, ◌++◌, Some, Option, map, subst, ap, sym}
use Rattle.std.proofs.Common.{◌∙◌, ◌+◌, length, refl, suc, arith}
use Rattle.std.specs.List.{AllZip}
use Rattle.std.specs.Option.{option_to_list}
use Rattle.std.specs.Vec.Iter.{into_iter_items, into_iter_len, into_iter_steps}
use Rattle.cm_layout.specs.declared.row.Row.{Row}
use Rattle.cm_verdict.specs.declared.defined_at.DefinedAt.{DefinedAt}
use Rattle.cm_verdict.specs.Verdict.{classes_found}
use Rattle.cm_verdict.specs.declared.row_record.RowRecord.{RowRecord}
use Rattle.cm_verdict.specs.Judging.{AreJudged, IsJudged, words_of_row}
use Rattle.cm_verdict.specs.Standing.{AreRecorded}
use Rattle.cm_verdict.proofs.Verdicts.{fault_told}
use Rattle.cm_verdict.proofs.Passing.{IsPassing, passing_begins, may_follow, passing_on}
use Rattle.cm_verdict.proofs.Passing.{passing_fails, passing_ends}
use Rattle.cm_verdict.proofs.second_pass.SecondPass.take_all.Goals as goal

-- a row is taken off the front of both lists
taken_off : {A : Type 0} (f : A → Option (List ℕ)) (rows : List A) (row : A) (rest : List A)
    (records more : List RowRecord) (judged : RowRecord) → rows ≡ row ∷ rest
    → records ≡ judged ∷ more → AllZip IsJudged (map f rows) records
    → IsJudged (f row) judged × AllZip IsJudged (map f rest) more
taken_off f rows row rest records more judged one two zip =
    subst (λ (l : List RowRecord). AllZip IsJudged (map f (row ∷ rest)) l) two
    (subst (λ (l : List _). AllZip IsJudged (map f l) records) one zip)

-- what `next` leaves
some_next : (records more : List RowRecord) (given : Option RowRecord) (judged : RowRecord)
    → records ≡ option_to_list given ++ more → given ≡ Some judged → records ≡ judged ∷ more
some_next records more given judged are is =
    are ∙ ap (λ (o : Option RowRecord). option_to_list o ++ more) is

-- as many records as rows
many : {A : Type 0} (f : A → Option (List ℕ)) (rows : List A) (records : List RowRecord)
    → AllZip IsJudged (map f rows) records → length records ≡ length rows
many f [] [] zip = refl
many f [] (r ∷ records) zip = absurd zip
many f (a ∷ rows) [] zip = absurd zip
many f (a ∷ rows) (r ∷ records) zip = ap suc (many f rows records zip.1)

pub unreachable-requires : goal.unreachable-requires
unreachable-requires c =
    let l = c.loop-row in
    let none = (subst
    (λ (o : Option RowRecord). into_iter_steps l.records o c.next-in-Some.new.self)
    c.in_default-next.is c.next-in-Some.ensures.cases).0 in
    omega (arith, none, l.invariant.count, ap length (c.in-Some.ensures {u = tt}))

-- one less of both
fewer : {A : Type 0} (before now : ℕ) (rows : List A) (row : A) (rest : List A)
    → now + 1 ≡ before → rows ≡ row ∷ rest → before ≡ length rows → now ≡ length rest
fewer before now rows row rest less more same =
    omega (arith, less, ap length more, same)

pub loop-row-init : goal.loop-row-init
loop-row-init c =
    let sizes = c.args.self.now.geometry in
    let w = c.requires.judged in
    record {
      passing = λ contents judged. (
        passing_begins sizes contents c.args.self.now.number c.args.found.now.rows
            c.walk-left.result
            c.in_ok-rows.rows c.in_ok-rows.ensures c.walk-left.ensures c.requires.live,
        subst (λ (l : List RowRecord). AreJudged sizes contents c.walk-left.result l)
            (sym c.into_iter-records.ensures.rest)
            (subst (λ (l : List (Row DefinedAt)). AreJudged sizes contents l c.args.judged.items)
            (sym c.walk-left.ensures) judged),
      );
      count = c.into_iter-records.ensures.len ∙ (c.args.judged.ok.0
          ∙ (many (words_of_row sizes w.0) c.args.found.now.rows c.args.judged.items w.1
          ∙ sym (ap length c.walk-left.ensures)));
    }

pub take_row-requires-clause-follows : goal.take_row-requires-clause-follows
take_row-requires-clause-follows c =
    let l = c.loop-row in
    let sizes = c.args.self.now.geometry in
    let w = c.requires.judged in
    let row = c.in-Some.row.now in
    let rest = c.next.new.self in
    may_follow sizes w.0 c.args.self.now.number c.args.found.now.rows rest row l.rows
    (subst (λ (left : List (Row DefinedAt)). IsPassing sizes w.0 c.args.self.now.number
    c.args.found.now.rows left l.rows) (c.in-Some.ensures {u = tt}) (l.invariant.passing w.0 w.1).0)

pub take_row-requires-clause-judged : goal.take_row-requires-clause-judged
take_row-requires-clause-judged c =
    let l = c.loop-row in
    let sizes = c.args.self.now.geometry in
    let w = c.requires.judged in
    let row = c.in-Some.row.now in (
      words_of_row sizes w.0 row,
      (taken_off (words_of_row sizes w.0) l.left row c.next.new.self (into_iter_items l.records)
          (into_iter_items c.next-in-Some.new.self) c.in-Some-next.judged
          (c.in-Some.ensures {u = tt})
          (some_next (into_iter_items l.records) (into_iter_items c.next-in-Some.new.self)
          c.next-in-Some.result c.in-Some-next.judged c.next-in-Some.ensures.items
          c.in-Some-next.is)
          (l.invariant.passing w.0 w.1).1).0,
    )

pub loop-row-preserved : goal.loop-row-preserved
loop-row-preserved c = record {
  passing = λ contents judged.
      let l = c.loop-row in
      let sizes = c.args.self.now.geometry in
      let number = c.args.self.now.number in
      let all = c.args.found.now.rows in
      let row = c.in-Some.row.now in
      let rest = c.next.new.self in
      let i = l.invariant.passing contents judged in
      let p : IsPassing sizes contents number all (row ∷ rest) l.rows =
      subst (λ (left : List (Row DefinedAt)). IsPassing sizes contents number all left l.rows)
      (c.in-Some.ensures {u = tt}) i.0 in
      let z = taken_off (words_of_row sizes contents) l.left row rest (into_iter_items l.records)
      (into_iter_items c.next-in-Some.new.self) c.in-Some-next.judged
      (c.in-Some.ensures {u = tt})
      (some_next (into_iter_items l.records) (into_iter_items c.next-in-Some.new.self)
      c.next-in-Some.result c.in-Some-next.judged c.next-in-Some.ensures.items
      c.in-Some-next.is) i.1
      in (
        passing_on sizes contents number all rest row l.rows p c.take_row.new.rows
            (c.in_ok-take_row.ensures.taken contents p.taken z.0 p.recorded),
        z.1,
      );
  count = fewer (into_iter_len c.loop-row.records) (into_iter_len c.next-in-Some.new.self)
      c.loop-row.left c.in-Some.row.now c.next.new.self
      (subst (λ (o : Option RowRecord). into_iter_steps c.loop-row.records o
      c.next-in-Some.new.self) c.in-Some-next.is c.next-in-Some.ensures.cases).1
      (c.in-Some.ensures {u = tt}) c.loop-row.invariant.count;
}

pub returns-in_err-take_row-clause-classes : goal.returns-in_err-take_row-clause-classes
returns-in_err-take_row-clause-classes c = λ contents judged.
    let l = c.loop-row in
    let sizes = c.args.self.now.geometry in
    let number = c.args.self.now.number in
    let all = c.args.found.now.rows in
    let row = c.in-Some.row.now in
    let rest = c.next.new.self in
    let i = l.invariant.passing contents judged in
    let e = c.in_err-take_row.field-0.0 in
    let p : IsPassing sizes contents number all (row ∷ rest) l.rows =
    subst (λ (left : List (Row DefinedAt)). IsPassing sizes contents number all left l.rows)
    (c.in-Some.ensures {u = tt}) i.0 in
    let z = taken_off (words_of_row sizes contents) l.left row rest (into_iter_items l.records)
    (into_iter_items c.next-in-Some.new.self) c.in-Some-next.judged
    (c.in-Some.ensures {u = tt})
    (some_next (into_iter_items l.records) (into_iter_items c.next-in-Some.new.self)
    c.next-in-Some.result c.in-Some-next.judged c.next-in-Some.ensures.items
    c.in-Some-next.is) i.1
    in
    fault_told (AreRecorded sizes) c.from_residual-in_err-take_row.result e
    (classes_found sizes contents [] all) c.from_residual-in_err-take_row.ensures.1
    (passing_fails sizes contents number all rest row l.rows p e
    (c.in_err-take_row.ensures.taken contents p.taken z.0 p.recorded))

pub returns-clause-classes : goal.returns-clause-classes
returns-clause-classes c = λ contents judged.
    passing_ends c.args.self.now.geometry contents c.args.self.now.number c.args.found.now.rows
    c.loop-row.left c.loop-row.rows (c.in_default.ensures {u = tt})
    (c.loop-row.invariant.passing contents judged).0
