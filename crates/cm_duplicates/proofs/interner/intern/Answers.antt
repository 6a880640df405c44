use Rattle.std.proofs.Common.{ap, sym, ◌∙◌, cond, bytes_eq}
use Rattle.std.proofs.lemmas.Map.Text.{btree_map_updates_str}
use Rattle.cm_duplicates.specs.Interned.{interned}
use Rattle.cm_duplicates.proofs.Interning.{put_back}
use Rattle.cm_duplicates.proofs.interner.intern.Goals as goal

pub returns-in_default-clause-others : goal.returns-in_default-clause-others
returns-in_default-clause-others c = λ q.
    btree_map_updates_str c.args.bytes.now c.args.table.now c.insert.new.self _
    c.in_ok-before.ensures.updates q
    ∙ ap (λ o. cond (bytes_eq c.args.bytes.now q) o (interned c.args.table.now q))
    (sym c.in_ok-before.ensures.updates.1)

pub returns-clause-others : goal.returns-clause-others
returns-clause-others c =
    put_back c.args.table.now c.insert.new.self c.insert-2.new.self c.args.bytes.now c.args.index
    c.in-Some.before c.in_ok-insert.ensures.updates.1
    (btree_map_updates_str c.args.bytes.now c.args.table.now c.insert.new.self _
    c.in_ok-before.ensures.updates)
    (btree_map_updates_str c.args.bytes.now c.insert.new.self c.insert-2.new.self _
    c.in_ok-insert.ensures.updates)
