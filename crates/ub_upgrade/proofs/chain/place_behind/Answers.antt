use Rattle.std.proofs.Common.{ap, sym, length, arith}
use Rattle.ub_upgrade.proofs.Common.{length-append}
use Rattle.ub_upgrade.proofs.ReadFacts.{last_behind}
use Rattle.ub_upgrade.proofs.chain.place_behind.Goals as goal

pub returns-clause-met : goal.returns-clause-met
returns-clause-met c before met =
    let entries = c.args.part.now.entries in
    let long = length-append before entries in
    let same = ap length c.entries-entries.ensures.entries in
    let was = met.met in
    record { met = omega arith; last = rw c.entries-entries.ensures.entries (sym (last_behind before entries _ c.requires.some)) }
