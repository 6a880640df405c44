use Rattle.std.proofs.Common.{◌<◌, true, length, get_or, inl, sym, ◌∙◌, arith}
use Rattle.std.proofs.lemmas.List.{length-map}
use Rattle.cm_index.specs.declared.slot.BookSlot.{BookSlot}
use Rattle.cm_rows.specs.declared.live_loader.LiveLoader.{LiveLoader}
use Rattle.cm_rows.proofs.KeptPlaces.{nobody, same-default}
use Rattle.cm_rows.proofs.placing.place_class.Goals as goal

pub returns-then-not-is_inside-clause-broken : goal.returns-then-not-is_inside-clause-broken
returns-then-not-is_inside-clause-broken c =
    let loaders = c.args.loaders.now in
    let kept = c.in-Some.ensures.found in
    let none : BookSlot LiveLoader = record { item = nobody; live = true } in
    let slot = get_or loaders c.in-Some.at none in
    let within : c.in-Some.at < length loaders =
    omega (arith, kept.at.within, length-map loaders (λ (s : BookSlot LiveLoader). s.item)) in
    record {
      at = c.in-Some.at;
      slot = slot;
      may = record {
        few = omega (arith, c.row_limit.ensures, c.if-taken-row_limit.false);
        kept = kept;
        slot_is = same-default loaders c.in-Some.at none slot within;
      };
      why = inl (sym c.is_inside.ensures ∙ c.if-not-is_inside.true);
    }
