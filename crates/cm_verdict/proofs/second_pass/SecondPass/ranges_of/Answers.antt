use Rattle.std.proofs.Common.{◌∙◌, List, ◌∷◌, sym, subst}
use Rattle.cm_layout.specs.declared.row.Row.{Row}
use Rattle.cm_verdict.specs.declared.defined_at.DefinedAt.{DefinedAt}
use Rattle.cm_verdict.proofs.RecordRanges.{IsListing, place_listed, listing_none, listing_one}
use Rattle.cm_verdict.proofs.RecordRanges.{listing_begins, listing_ends}
use Rattle.cm_verdict.proofs.second_pass.SecondPass.ranges_of.Goals as goal
use Rattle.cm_verdict.proofs.second_pass.SecondPass.ranges_of.Goals.{In-Some}

-- the next row is the first of those that are left
next : (c : In-Some)
    → IsListing c.args.self.now.geometry c.args.self.now.long c.args.self.now.number
    c.args.found.now.rows (c.in-Some.row.now ∷ c.next.new.self) c.loop-row.ranges.items
next c =
    subst
    (λ (left : List (Row DefinedAt)). IsListing c.args.self.now.geometry c.args.self.now.long
    c.args.self.now.number c.args.found.now.rows left c.loop-row.ranges.items)
    (c.in-Some.ensures {u = tt}) c.loop-row.invariant.listing

pub loop-row-init : goal.loop-row-init
loop-row-init c = record {
  listing = listing_begins c.args.self.now.geometry c.args.self.now.long c.args.self.now.number
      c.args.found.now.rows c.walk-left.result c.new-ranges.result.items c.walk-left.ensures
      c.new-ranges.ensures.items c.requires;
}

pub range_of-requires : goal.range_of-requires
range_of-requires c =
    place_listed c.args.self.now.geometry c.invariant_holds.ensures c.args.self.now.long
    c.args.self.now.number c.args.found.now.rows c.next.new.self c.in-Some.row.now
    c.loop-row.ranges.items (next c)

pub loop-row-preserved-in-Continue-1 : goal.loop-row-preserved-in-Continue-1
loop-row-preserved-in-Continue-1 c =
    let at = (goal.at.loop-row-preserved-in-Continue-1 c).In-Some in
    record {
      listing = listing_one c.args.self.now.geometry c.args.self.now.long c.args.self.now.number
          c.args.found.now.rows c.next.new.self c.in-Some.row.now c.loop-row.ranges.items (next at)
          c.in-Some-range_of.range c.push.new.self.items
          (sym c.range_of.ensures ∙ c.in-Some-range_of.is) (c.in_ok-push.ensures {u = tt}).items;
    }

pub loop-row-preserved : goal.loop-row-preserved
loop-row-preserved c =
    let at = (goal.at.loop-row-preserved c).In-Some in
    record {
      listing = listing_none c.args.self.now.geometry c.args.self.now.long c.args.self.now.number
          c.args.found.now.rows c.next.new.self c.in-Some.row.now c.loop-row.ranges.items (next at)
          (sym c.range_of.ensures ∙ c.in_default-range_of.is);
    }

pub returns : goal.returns
returns c =
    listing_ends c.args.self.now.geometry c.args.self.now.long c.args.self.now.number
    c.args.found.now.rows c.loop-row.left c.loop-row.ranges.items
    (c.in_default.ensures {u = tt}) c.loop-row.invariant.listing
