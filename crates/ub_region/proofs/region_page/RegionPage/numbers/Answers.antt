use Rattle.std.proofs.Common.{◌∙◌, ◌≤◌, length, arith}
use Rattle.ub_region.proofs.ColumnFacts.{numbers_in}
use Rattle.ub_region.proofs.region_page.RegionPage.numbers.Goals as goal

pub returns-clause-numbers : goal.returns-clause-numbers
returns-clause-numbers c =
    let p = c.self.inside in
    let few = c.self.invariant.few in
    let long = c.self.invariant.numbers_long in
    rw (← c.self.view_is) (numbers_in p.numbers p.dims p.measures p.len (omega arith))
