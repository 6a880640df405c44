use Rattle.std.proofs.Common.{sym, subst}
use Rattle.cm_pool.specs.Geometry.{Sizes}
use Rattle.cm_guards.specs.Guards.{EachImage}
use Rattle.cm_guards.specs.Calls.{LeavesOnly}
use Rattle.cm_session.specs.Images.{StandsForSome}
use Rattle.cm_importing.specs.Groups.{pause, ImportsGroup}
use Rattle.cm_importing.specs.Unloading.{unloads}
use Rattle.cm_importing.proofs.unloading.unload_opened.Goals as goal

pub returns : goal.returns
returns g c =
    let view = g.D.Disk.view in
    let fn = c.args.session.committer in
    let call = c.unload_group-result in
    let new = call.new.session in
    let same = sym c.into_disk.ensures in
    λ k i ready.
    let r = call.ensures.machine k i ready in
    let images = subst (λ d. EachImage (view.contents d) (view.unsynced d)
    (StandsForSome new.committer.sizes r.next)) same (c.images.ensures r.next r.matches) in (
      r.next,
      subst (λ d. ImportsGroup (LeavesOnly view) fn.sizes (unloads c.args.loaders.items)
          call.result (pause k fn.disk) (pause r.next d)) same r.does,
      subst (λ (z : Sizes). EachImage (view.contents c.into_disk.result)
          (view.unsynced c.into_disk.result) (StandsForSome z r.next)) call.ensures.sizes images,
    )
