use Rattle.std.proofs.Common.{◌≡◌, ◌+◌, false, None, is_some, sym, ap, subst, ◌∙◌, arith}
use Rattle.cm_layout.specs.Rows.{rows_after}
use Rattle.cm_layout.specs.Rules.{broken_rule}
use Rattle.cm_layout.specs.Frames.{BareEntry, bare_entry}
use Rattle.cm_rows.specs.Rows.{LiveRows}
use Rattle.cm_commit.specs.Keeping.{AreApplied}
use Rattle.cm_commit.proofs.Applied.{none_yet, one_more, one_breaks, all_kept, all_rows}
use Rattle.cm_commit.proofs.Applied.{none_of, left_of}
use Rattle.cm_commit.proofs.applying.apply_all.Goals as goal

pub loop-carried-init : goal.loop-carried-init
loop-carried-init c =
    none_yet c.args.book.now c.args.first c.args.entries.now c.requires.above

pub apply-requires : goal.apply-requires
apply-requires c = c.loop-carried.invariant.above

pub returns-then-is_some-clause-kept : goal.returns-then-is_some-clause-kept
returns-then-is_some-clause-kept c =
    one_breaks c.args.book.now c.args.first c.args.entries.now c.loop-carried.book
    c.loop-carried.number c.loop-carried.carried-index c.carried-item.result c.apply.result
    c.loop-carried.invariant c.loop-carried-test.true c.carried-item.is
    (rw (sym c.bare.ensures) c.apply.ensures.broken)
    (sym c.is_some.ensures ∙ c.if-is_some.true)

pub overflow_add-number : goal.overflow_add-number
overflow_add-number c =
    omega (
      arith,
      c.loop-carried.invariant.number_is,
      c.requires.numbers,
      c.loop-carried-test.true,
    )

pub returns-clause-kept : goal.returns-clause-kept
returns-clause-kept c =
    all_kept c.args.book.now c.args.first c.args.entries.now c.loop-carried.book
    c.loop-carried.number c.loop-carried.carried-index c.loop-carried.invariant
    (omega (arith, c.loop-carried-test.false))

pub returns-clause-rows : goal.returns-clause-rows
returns-clause-rows c = λ _.
    all_rows c.args.book.now c.args.first c.args.entries.now c.loop-carried.book
    c.loop-carried.number c.loop-carried.carried-index c.loop-carried.invariant
    (omega (arith, c.loop-carried-test.false))

pub returns-clause-sizes : goal.returns-clause-sizes
returns-clause-sizes c = c.loop-carried.invariant.sizes

pub loop-carried-preserved : goal.loop-carried-preserved
loop-carried-preserved c =
    let old = c.args.book.now in
    let book = c.loop-carried.book in
    let e = c.carried-item.result in
    let copied : c.bare.result ≡ bare_entry e.entry = c.bare.ensures in
    let none : is_some c.apply.result ≡ false = sym c.is_some.ensures ∙ c.if-is_some.false in
    let left = left_of c.apply.result c.apply.new.self
    (record book { rows = rows_after book.rows c.bare.result }) book none c.apply.ensures.left
    in
    let keeps : None ≡ broken_rule book.sizes book.rows c.loop-carried.number
    (bare_entry e.entry) =
    sym (none_of c.apply.result none)
    ∙ (c.apply.ensures.broken
    ∙ ap (broken_rule book.sizes book.rows c.loop-carried.number) copied) in
    let next = one_more old c.args.first c.args.entries.now book c.loop-carried.number
    c.loop-carried.carried-index e c.requires.from c.loop-carried.invariant
    c.loop-carried-test.true c.carried-item.is keeps in
    subst (λ (b : LiveRows (Unit {0})). AreApplied old c.args.first c.args.entries.now b
    (c.loop-carried.number + 1) (c.loop-carried.carried-index + 1))
    (sym (left ∙ ap (λ (d : BareEntry). record book { rows = rows_after book.rows d }) copied)) next
