use Rattle.std.proofs.Common.{◌+◌, ◌∙◌, arith}
use Rattle.ub_laying.proofs.LayFacts.{entries_next, length-firsts}
use Rattle.ub_laying.proofs.LevelFacts.{length-set_entry}
use Rattle.ub_laying.proofs.leaves.name_regions.Goals as goal
use Rattle.ub_region.specs.Regions.{firsts_of}

pub loop-i-preserved : goal.loop-i-preserved
loop-i-preserved c =
    let inv = c.loop-i.invariant in
    let long = length-firsts c.args.grown.now in
    record {
      long = length-set_entry c.loop-i.entries c.loop-i.i _ ∙ inv.long;
      names = entries_next (c.args.from + c.args.named) c.loop-i.i c.args.named (firsts_of c.args.grown.now) c.loop-i.entries c.first.result _ (omega arith) c.first.ensures (omega arith) (omega arith) inv.names;
    }
