use Rattle.cm_pool.proofs.SpaceLaws as laws
use Rattle.cm_pool.proofs.laws.roots_are_free.Goals as goal

pub returns-clause-free : goal.returns-clause-free
returns-clause-free c = laws.roots_are_free

pub returns-clause-held : goal.returns-clause-held
returns-clause-held c = laws.roots_keep_held

pub returns-clause-none_lost : goal.returns-clause-none_lost
returns-clause-none_lost c = laws.roots_lose_none
