use Rattle.std.proofs.Common.{drop, length-drop, arith}
use Rattle.cm_record_writing.proofs.Room.{room_left}
use Rattle.cm_record_writing.proofs.sections.push_interfaces.Goals as goal

pub push-requires : goal.push-requires
push-requires c =
    let l = c.loop-interface in
    let rest = drop l.interface-index c.args.interfaces.now in
    omega (
      arith,
      room_left l.words.words rest c.args.words.now.words c.args.interfaces.now
          l.words.capacity c.args.words.now.capacity l.invariant.added l.invariant.capacity
          c.requires,
      length-drop l.interface-index c.args.interfaces.now,
    )
