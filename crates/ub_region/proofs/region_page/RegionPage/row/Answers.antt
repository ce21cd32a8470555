use Rattle.ub_region.proofs.ColumnFacts.{row_there}
use Rattle.ub_region.proofs.HeldFacts.{row_within}
use Rattle.ub_region.proofs.region_page.RegionPage.row.Goals as goal

pub returns : goal.returns
returns c = rw (← c.self.view_is, c.row_at.ensures)
    (row_there c.self.inside.numbers c.self.inside.dims c.self.inside.measures c.self.inside.len c.args.i (rw (← c.self.view_is) at c.requires))

pub row_at-requires : goal.row_at-requires
row_at-requires c = row_within c.self.inside c.args.self.now c.self.view_is c.self.invariant.few c.args.i c.requires
