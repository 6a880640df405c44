use Rattle.std.proofs.Common.{refl}
use Rattle.cm_world.specs.declared.event.Event.TheVariants as event
use Rattle.cm_world.proofs.Moved.{stays}
use Rattle.cm_world.proofs.world.World.look.Goals as goal

pub returns : goal.returns
returns c =
    let old = c.args.self.now in
    λ k i. stays k (event.Look c.args.loader c.args.class) c.look_reply.result old old refl
    (c.images.ensures k i) c.images.ensures k refl
    (record {
      words = _;
      reply_is = c.look_reply.ensures;
      finds = c.find.ensures k i;
      stays = refl;
    })
    i
