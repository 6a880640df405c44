use Rattle.std.proofs.Common.{◌≡◌, ◌<◌, ◌+◌, ℕ, List, ◌++◌, ◌∷◌, [], Option, Some, None, IfSome}
use Rattle.std.proofs.Common.{IfNone, IsSome, get_or, set, take, length, sym, ap, ◌∙◌, arith, refl}
use Rattle.std.proofs.Common.{subst, length-take}
use Rattle.std.proofs.lemmas.List.{take_more, take_all}
use Rattle.cm_pool.specs.Lists.{Among}
use Rattle.cm_rows.specs.declared.live_loader.LiveLoader.{LiveLoader}
use Rattle.cm_index.specs.Living.{living}
use Rattle.cm_rows.specs.Links.{loader_in, last_place, AreLinked, last_places}
use Rattle.cm_rows.specs.Loaders.{numbers_of_loaders, IsAbsent, LoaderLivesAt, items}
use Rattle.cm_rows.proofs.Loaders.{absent-among}
use Rattle.cm_rows.proofs.Linking.{linked-push, linked-none, places-push, places-at, places-none}
use Rattle.cm_rows.proofs.Linking.{all-living}
use Rattle.cm_rows.proofs.links.relink.Goals as goal

found-some : (ls : List LiveLoader) (u : ℕ) (o : Option ℕ) → IfNone o (IsAbsent ls u)
    → Among u (numbers_of_loaders ls) → IsSome o
found-some ls u None absent m = absurd (absent-among u ls absent m)
found-some ls u (Some i) absent m = refl

nobody : LiveLoader
nobody = record { number = 0; last = None }

pub loop-at-init : goal.loop-at-init
loop-at-init g c =
    record {
      linked = subst (λ l. AreLinked [] l) (sym c.clear.ensures.items) linked-none;
      newest = c.no_places.ensures.newest ∙ places-none g.row.P.Denot c.args.loaders.now;
      capacity = omega (arith, c.clear.ensures.capacity);
      newest_capacity = c.no_places.ensures.capacity;
    }

pub unwrap-loader-requires : goal.unwrap-loader-requires
unwrap-loader-requires g c =
    let slots = c.args.slots.now in
    let ls = living c.args.loaders.now in
    let i = c.loop-at.at in
    let within : i < length slots = omega (arith, c.loop-at-test.true) in
    let own = all-living (λ row. Among (loader_in row) (numbers_of_loaders ls)) slots i
    c.index-slots-at.result c.requires.owned c.requires.live within in
    found-some ls c.loader_in.result c.find.result c.find.ensures.absent
    (subst (λ (u : ℕ). Among u (numbers_of_loaders ls)) (sym c.loader_in.ensures) own.0)

pub loop-at-preserved : goal.loop-at-preserved
loop-at-preserved g c =
    let h = c.loop-at.invariant in
    let slots = c.args.slots.now in
    let ls = items c.args.loaders.now in
    let i = c.loop-at.at in
    let s = get_or slots i c.index-slots-at.result in
    let place = c.unwrap-loader.result in
    let within : i < length slots = omega (arith, c.loop-at-test.true) in
    let own = all-living (λ row. Among (loader_in row)
    (numbers_of_loaders (living c.args.loaders.now)))
    slots i c.index-slots-at.result c.requires.owned c.requires.live within in
    let kept : LoaderLivesAt c.args.loaders.now c.loader_in.result place =
    subst (λ (o : Option ℕ). IfSome o (LoaderLivesAt c.args.loaders.now c.loader_in.result))
    c.unwrap-loader.ensures c.find.ensures.found in
    let at = kept.at in
    let number : (get_or ls place nobody).number ≡ loader_in s.item =
    at.number_is nobody ∙ c.loader_in.ensures in
    let more : take (i + 1) slots ≡ take i slots ++ s ∷ [] =
    take_more slots i c.index-slots-at.result within in
    let before : get_or c.loop-at.newest.items place None
    ≡ last_place (loader_in s.item) (take i slots) =
    ap (λ l. get_or l place None) h.newest ∙ places-at (take i slots) ls place nobody None at.within
    ∙ ap (λ (u : ℕ). last_place u (take i slots)) number in
    let count : length (take i slots) ≡ i = omega (arith, length-take i slots) in
    record {
      linked = rw (c.link.ensures.before, more)
          (linked-push (take i slots) c.loop-at.before.items s
          (get_or c.loop-at.newest.items place None) h.linked before);
      newest = c.link.ensures.newest ∙ ap (λ l. set l place (Some i)) h.newest
          ∙ ap (λ (n : ℕ). set (last_places (take i slots) (numbers_of_loaders ls)) place (Some n))
          (sym count)
          ∙ places-push (take i slots) s ls place nobody own.1 c.requires.rises.each at.within
          number ∙ ap (λ l. last_places l (numbers_of_loaders ls)) (sym more);
      capacity = omega (arith, h.capacity, c.link.ensures.capacity);
      newest_capacity = omega (arith, h.newest_capacity, c.link.ensures.newest_capacity);
    }

pub returns-clause-linked : goal.returns-clause-linked
returns-clause-linked g c =
    let at = c.loop-at.at in
    subst (λ l. AreLinked l c.loop-at.before.items)
    (take_all at c.args.slots.now c.loop-at-test.false) c.loop-at.invariant.linked

pub returns-clause-newest : goal.returns-clause-newest
returns-clause-newest g c =
    let at = c.loop-at.at in
    c.loop-at.invariant.newest
    ∙ ap (λ l. last_places l (numbers_of_loaders (items c.args.loaders.now)))
    (take_all at c.args.slots.now c.loop-at-test.false)
