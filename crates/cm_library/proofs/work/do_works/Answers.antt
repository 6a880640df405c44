use Rattle.std.proofs.Common.{◌≡◌, map, refl, ap, ◌∙◌}
use Rattle.cm_library.proofs.Parted.{parted, works_of, given}
use Rattle.cm_library.proofs.work.do_works.Goals as goal

pub returns : goal.returns
returns g c =
    let back = c.put_back.ensures in
    let works_are : map (λ w. w.work) c.in_ok-workers.workers.items ≡ c.args.works.items =
    ap (map (λ w. w.work)) c.in_ok-workers.ensures
    ∙ works_of (λ w. w.work) (λ p. record { work = p.0; pass = p.1 }) (λ p. refl)
    c.args.works.items c.args.drawn.items c.requires.enough in
    parted _ _ _ g.W.Work.keeps c.in_ok-workers.workers.items c.in_ok-all.all.items
    c.args.works.items c.put_back.result c.put_back.new.passes.items works_are back.outputs
    back.passes c.in_ok-all.ensures

pub do_all-requires-after_bounds : goal.do_all-requires-after_bounds
do_all-requires-after_bounds g c κs within =
    let works_are : map (λ w. w.work) c.in_ok-workers.workers.items ≡ c.args.works.items =
    ap (map (λ w. w.work)) c.in_ok-workers.ensures
    ∙ works_of (λ w. w.work) (λ p. record { work = p.0; pass = p.1 }) (λ p. refl)
    c.args.works.items c.args.drawn.items c.requires.enough in
    given _ g.W.Work.may_run c.in_ok-workers.workers.items c.args.works.items works_are
    c.requires.may_run
