use Rattle.std.proofs.Common.{◌≡◌, ◌∙◌, ◌++◌, ◌∷◌, [], true, not, ap, drop, length, sym, arith}
use Rattle.std.proofs.Common.{drop-drop}
use Rattle.std.specs.Prelude.{if◌then◌else◌, is_ok}
use Rattle.cm_duplicates.specs.Duplicates.{first_failing, is_first}
use Rattle.cm_record_rules.proofs.MarkedMembers.{marked_more}
use Rattle.cm_rules.proofs.{passes_next, none_left}
use Rattle.cm_record_rules.proofs.twins.no_twins.Goals as goal

pub loop-member-preserved : goal.loop-member-preserved
loop-member-preserved c =
    let class = c.args.class.now in
    let all = c.args.all.now in
    let place = c.loop-member.place in
    let before = c.loop-member.invariant in
    let mark = c.member_mark-mark.result in
    let pushed : is_ok c.push.result ≡ true =
    c.is_err.ensures.negation ∙ ap not c.if-is_err.false in
    record {
      short = omega (arith, before.short, ap length c.in-Some.ensures.steps);
      there = sym (drop-drop 1 place all)
          ∙ (ap (drop 1) before.there ∙ ap (drop 1) c.in-Some.ensures.steps);
      marked = marked_more class all c.next.new.self place c.in-Some.member
          c.loop-member.marks.items c.push.new.self.items mark
          (before.there ∙ c.in-Some.ensures.steps) before.marked c.member_mark-mark.ensures
          (c.push.ensures.items ∙ ap
          (λ b. if b then c.loop-member.marks.items ++ mark ∷ [] else c.loop-member.marks.items)
          pushed);
      so_far = passes_next (is_first class all) c.loop-member.rest c.next.new.self place
          c.in-Some.member (first_failing (is_first class all) 0 all)
          c.in-Some.ensures.steps (sym c.if-not-is_apart.false ∙ c.is_apart.ensures)
          before.so_far;
    }

pub returns : goal.returns
returns c = λ _.
    sym (none_left (is_first c.args.class.now c.args.all.now) c.loop-member.rest
    c.loop-member.place (first_failing (is_first c.args.class.now c.args.all.now) 0 c.args.all.now)
    c.in_default-next.ensures.steps.0 c.loop-member.invariant.so_far)
