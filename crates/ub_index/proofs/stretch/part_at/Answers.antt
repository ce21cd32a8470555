use Rattle.std.proofs.Common.{arith}
use Rattle.ub_index.proofs.Common.{entry_at}
use Rattle.ub_index.proofs.FitFacts.{few_count}
use Rattle.ub_index.proofs.StretchSteps.{part_is}
use Rattle.ub_index.proofs.stretch.part_at.Goals as goal

pub entry_at-entry-requires : goal.entry_at-entry-requires
entry_at-entry-requires c =
    let few = few_count c.args.page.now c.args.last c.args.stretch.now.level c.args.count (entry_at c.args.stretch.now.span) c.args.stretch.now.span.next c.requires.count c.requires.fits.is.is in
    let lt = c.requires.within in
    omega arith

pub first_after-next-requires-clause-few : goal.first_after-next-requires-clause-few
first_after-next-requires-clause-few c =
    few_count c.args.page.now c.args.last c.args.stretch.now.level c.args.count (entry_at c.args.stretch.now.span) c.args.stretch.now.span.next c.requires.count c.requires.fits.is.is

pub returns : goal.returns
returns c =
    part_is c.args.last c.args.stretch.now c.args.page.now c.args.count c.args.slot c.entry_at-entry.result c.first_after-next.result c.region_at.result c.requires.count c.requires.within
    c.entry_at-entry.ensures c.first_after-next.ensures c.region_at.ensures.region
