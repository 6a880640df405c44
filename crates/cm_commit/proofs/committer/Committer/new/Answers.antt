use Rattle.std.proofs.Common.{List, refl, sym, ap, ◌∙◌}
use Rattle.std.specs.Arc.{arc_value}
use Rattle.cm_layout.specs.Frames.{BareRow}
use Rattle.cm_commit.proofs.With.{bare-with}
use Rattle.cm_commit.proofs.committer.Committer.new.Goals as goal

pub invariant_of-result : goal.invariant_of-result
invariant_of-result g c =
    let held = c.requires.held in
    record {
      is = record {
        framing = held.framing;
        newest = held.version_is;
        journal_is = held.journal_is;
        right = held.right;
        cache = held.cache;
        records = held.records;
        number_is = held.number_is;
      };
      beside = record {
        sizes_are = c.requires.sizes;
        next_is = c.in-Ok.next-is
            ∙ (c.in-Ok.ensures.next
            ∙ ap (λ (l : List BareRow). record { sizes = c.args.journal.geometry; rows = l })
            (sym (bare-with arc_value c.args.rows.rows)));
        room_is = rw c.in-Ok.buffer-is c.in-Ok.ensures.room;
      };
      at = record {
        sound = refl;
        durable = held.durable;
        shows = held.matches;
        roots_are = held.roots_are;
      };
    }
