use Rattle.std.proofs.Common.{◌≡◌, ◌↔◌, Bool, true, false, refl, sym}
use Rattle.std.specs.Prelude.{◌&&◌}
use Rattle.std.proofs.lemmas.Bool.{and_parts, and_from}
use Rattle.cm_layout.specs.Rules.{is_chunk, is_unused}
use Rattle.cm_index.specs.Living.{living}
use Rattle.cm_rows.proofs.Verdicts.{free-unused}
use Rattle.cm_rows.proofs.live_rows.LiveRows.is_unused.Goals as goal

told : (b x y : Bool) (F : Type 0) → ((b ≡ true) ↔ F) → (F ↔ ((x ≡ true) × (y ≡ true)))
    → b ≡ (x && y)
told true x y F is means = let p = means.0 (is.0 refl) in sym (and_from x y p.0 p.1)
told false x y F is means = by_test (x && y) refl
  where
    by_test : (t : Bool) → (x && y) ≡ t → false ≡ t
    by_test true e = is.1 (means.1 (and_parts x y e))
    by_test false e = refl

pub returns-clause-unused : goal.returns-clause-unused
returns-clause-unused g c =
    let s = c.self.inside in
    let rows = living s.rows.indexed.slots.items in
    let chunk = c.args.chunk.now in
    rw (← c.self.view_is)
    (told c.is_free.result (is_chunk s.geometry chunk) (is_unused chunk rows) _
    c.is_free.ensures.free (free-unused s.geometry rows s.pool chunk c.self.invariant.0.live))
