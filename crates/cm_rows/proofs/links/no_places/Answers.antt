use Rattle.std.proofs.Common.{◌<◌, ◌++◌, ◌∷◌, [], None, length, sym, ap, ◌∙◌, arith}
use Rattle.cm_rows.proofs.Linking.{none-more}
use Rattle.cm_rows.proofs.links.no_places.Goals as goal

pub loop-loader-preserved : goal.loop-loader-preserved
loop-loader-preserved c =
    let h = c.loop-loader.invariant in
    let within : c.loop-loader.loader-index < length c.args.loaders.now =
    omega (arith, c.loop-loader-test.true) in
    record {
      items = c.push_place.ensures.places ∙ ap (λ l. l ++ None ∷ []) h.items
          ∙ sym (none-more c.args.loaders.now c.loop-loader.loader-index within);
      capacity = omega (arith, h.capacity, c.push_place.ensures.capacity);
    }
