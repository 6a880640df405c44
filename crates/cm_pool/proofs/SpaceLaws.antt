-- The laws on held chunks and free words.
-- On `GivingBackRestores`, `TakenIsUsed`, `TakenIsHeld`, for crates above.
use Rattle.cm_pool.specs.SpaceLaws.{TakenIsUsed, TakenIsHeld, HeldIsGiven, RootsKeepHeld}
use Rattle.cm_pool.specs.SpaceLaws.{TakingLosesNone, RootsLoseNone, RootsAreFree, LargeHasSmall}
use Rattle.cm_pool.specs.Laws.{GivingBackRestores}
use Rattle.cm_pool.proofs.FreeWords.{used-without, restores, root-has_free, has_free-smaller}
use Rattle.cm_pool.proofs.HeldFacts.{held-put, held-given, held-with_root}
use Rattle.cm_pool.proofs.NoneLost.{none_lost-put, none_lost-with_root}

pub giving_back_restores : GivingBackRestores
giving_back_restores p c free = restores p c free

pub taken_is_used : TakenIsUsed
taken_is_used p c free = used-without p c free

pub taken_is_held : TakenIsHeld
taken_is_held p front c back held free = held-put p front c back held free

pub held_is_given : HeldIsGiven
held_is_given p front c back held = held-given p front c back held

pub roots_keep_held : RootsKeepHeld
roots_keep_held p cs held = held-with_root p cs held

pub taking_loses_none : TakingLosesNone
taking_loses_none p front c back kept free = none_lost-put p front c back kept free

pub roots_lose_none : RootsLoseNone
roots_lose_none p cs kept = none_lost-with_root p cs kept

pub roots_are_free : RootsAreFree
roots_are_free p order le = root-has_free p order le

pub large_has_small : LargeHasSmall
large_has_small p small large le has = has_free-smaller p small large le has
