use Rattle.std.proofs.Common.{sym, ◌∙◌, arith}
use Rattle.cm_verdict.proofs.Parts.{no_cache, no_sizes, too_short, long_enough}
use Rattle.cm_verdict.proofs.superblock.find_sizes.Goals as goal

pub returns-then-not-is_cache : goal.returns-then-not-is_cache
returns-then-not-is_cache c =
    no_cache c.args.long c.args.block.now (let e = c.is_cache.ensures in cc)

pub returns-in_default : goal.returns-in_default
returns-in_default c =
    no_sizes c.args.long c.args.block.now (let e = c.is_cache.ensures in cc)
    (sym c.sizes_in.ensures ∙ c.in_default.is)

pub returns-then-long-roots_at : goal.returns-then-long-roots_at
returns-then-long-roots_at c =
    too_short c.args.long c.args.block.now c.in-Some.geometry (let e = c.is_cache.ensures in cc)
    (sym c.sizes_in.ensures ∙ c.in-Some.is) (omega (arith, c.roots_at.ensures))

pub returns : goal.returns
returns c =
    long_enough c.args.long c.args.block.now c.in-Some.geometry (let e = c.is_cache.ensures in cc)
    (sym c.sizes_in.ensures ∙ c.in-Some.is) (omega (arith, c.roots_at.ensures))
