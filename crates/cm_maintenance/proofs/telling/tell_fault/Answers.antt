use Rattle.cm_maintenance.proofs.telling.tell_fault.Goals as goal

-- the text of such a fault is that of the verdict
pub returns-in-File-NotACache : goal.returns-in-File-NotACache
returns-in-File-NotACache g c =
    let none = rw c.in-File-NotACache.is at c.in-File-NotACache.field-0-is in
    rw c.in-File-NotACache.is (rw none c.tell.ensures)
