use Rattle.std.proofs.Common.{List, sym, subst}
use Rattle.cm_view_index.specs.declared.row.ViewRow.{ViewRow}
use Rattle.cm_view_index.specs.Index.{IsIndexOf}
use Rattle.cm_view.specs.Exactness.{IsExact}
use Rattle.cm_view.proofs.Cache.{none_in, not_both, none_told, answer_of}
use Rattle.cm_view.proofs.view.View.find.Goals as goal

pub returns-in_default-clause-exact : goal.returns-in_default-clause-exact
returns-in_default-clause-exact c sizes m arenas n stands of =
    let shows = c.views_show_caches.ensures sizes c.args.bytes.now m arenas n c.args.self.now stands
    of in
    let none = c.in_default.ensures.none of.in_order in
    none_in m c.args.loader.now c.args.name.now
    (λ some. let h = (shows.loaders c.args.loader.now).0 some in
    not_both c.args.self.now.loaders.items c.args.loader.now h.0 none h.1)

pub returns-clause-none : goal.returns-clause-none
returns-clause-none c =
    none_told c.found_is_live.ensures c.args.bytes.now c.args.self.now c.args.loader.now
    c.args.name.now c.in-Some.number c.in-Some.ensures.some c.deref.result.now c.deref.ensures.value
    c.find.result c.find.ensures.none

pub returns-clause-exact : goal.returns-clause-exact
returns-clause-exact c sizes m arenas n stands of =
    let bytes = c.args.bytes.now in
    let view = c.args.self.now in
    let loader = c.args.loader.now in
    let number = c.in-Some.number in
    let shows = c.views_show_caches.ensures sizes bytes m arenas n view stands of in
    let exact = shows.classes loader number c.in-Some.ensures.some in
    answer_of bytes m loader c.args.name.now number c.deref.result.now
    (subst (λ (rows : List ViewRow). IsExact bytes m loader number rows)
    (sym c.deref.ensures.value) exact)
    (subst (λ (rows : List ViewRow). IsIndexOf bytes rows) (sym c.deref.ensures.value) of.index)
    c.find.result c.find.ensures.found c.find.ensures.none c.find.ensures.fault
