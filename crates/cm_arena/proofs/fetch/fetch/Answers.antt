use Rattle.std.proofs.Common.{◌≡◌, ◌≤◌, sym, ap, ◌∙◌, subst, cond}
use Rattle.std.specs.Option.{is_some}
use Rattle.std.proofs.lemmas.Bool.{true_from_ne_false}
use Rattle.cm_pool.specs.FreeSpace.{FreeSpace, HasFree, with_root}
use Rattle.cm_pool.proofs.SpaceLaws.{roots_are_free}
use Rattle.cm_arena.proofs.Fetching.{taken-has_free}
use Rattle.cm_arena.proofs.fetch.fetch.Goals as goal

pub returns-in-Some-clause-full : goal.returns-in-Some-clause-full
returns-in-Some-clause-full c = (
  λ e. cc,
  λ h. absurd (h.0 (taken-has_free c.args.pool.now c.first_of.new.pool c.args.wanted c.args.need
      c.in-Some.chunk c.requires.needed c.in-Some.ensures.some)),
)

pub unwrap-requires : goal.unwrap-requires
unwrap-requires c =
    let before = c.first_of.new.pool in
    let grown : c.add_root.new.self ≡ with_root before = c.in-Ok-true.ensures.left ∙ ap
    (λ b. cond b (with_root before) before) c.in-Ok-true.field-0-test in
    let same : before ≡ c.args.pool.now = c.in_default.ensures.none.2 in
    let wanted : c.args.wanted ≤ before.geometry.top = subst
    (λ (p : FreeSpace). c.args.wanted ≤ p.geometry.top) (sym same) c.requires.wanted in
    let has = subst
    (λ (p : FreeSpace). HasFree p c.args.wanted) (sym grown)
    (roots_are_free before c.args.wanted wanted) in
    true_from_ne_false (is_some c.alloc.result) (λ e. c.alloc.ensures.none.0 e has)
