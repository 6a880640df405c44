use Rattle.cm_plain_view.proofs.Placing.{none_of_loader, loader_missing, none_of_row, place_in}
use Rattle.cm_plain_view.proofs.finding.find_class.Goals as goal

pub returns-in-Some-clause-none : goal.returns-in-Some-clause-none
returns-in-Some-clause-none c =
    none_of_row c.args.bytes.now c.args.rows.now c.args.loaders.now c.args.loader.now
    c.args.name.now c.in-Some.number c.in-Some.ensures.some c.rows_show_names.ensures
    c.found_is_live.ensures c.find_at.result c.find_at.ensures.none

pub returns-in-Some-clause-exact : goal.returns-in-Some-clause-exact
returns-in-Some-clause-exact c sizes m arenas n stands p =
    place_in c.args.bytes.now c.args.rows.now c.args.loaders.now c.args.loader.now c.args.name.now
    c.in-Some.number c.in-Some.ensures.some c.rows_show_names.ensures c.views_show_caches.ensures
    sizes m arenas n stands p c.find_at.result c.find_at.ensures.some c.find_at.ensures.none

pub returns-in-None-clause-none : goal.returns-in-None-clause-none
returns-in-None-clause-none c =
    none_of_loader c.args.bytes.now c.args.rows.now c.args.loaders.now c.args.loader.now
    c.args.name.now c.in-None.ensures.none

pub returns-in-None-clause-exact : goal.returns-in-None-clause-exact
returns-in-None-clause-exact c =
    loader_missing c.args.bytes.now c.args.rows.now c.args.loaders.now c.args.loader.now
    c.args.name.now c.views_show_caches.ensures c.in-None.ensures.none
