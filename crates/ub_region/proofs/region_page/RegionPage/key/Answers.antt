use Rattle.ub_region.proofs.ColumnFacts.{key_there_in}
use Rattle.ub_region.proofs.HeldFacts.{row_within}
use Rattle.ub_region.proofs.region_page.RegionPage.key.Goals as goal

pub returns : goal.returns
returns c =
    let p = c.self.inside in
    rw (← c.self.view_is, c.key_at.ensures) (key_there_in p.shape p.numbers p.dims p.measures p.len c.args.i (rw (← c.self.view_is) at c.requires))

pub key_at-requires : goal.key_at-requires
key_at-requires c = row_within c.self.inside c.args.self.now c.self.view_is c.self.invariant.few c.args.i c.requires
