use Rattle.ub_region.proofs.ColumnFacts.{keys_in}
use Rattle.ub_region.proofs.region_page.RegionPage.is_ascending.Goals as goal

pub returns : goal.returns
returns c =
    let p = c.self.inside in
    rw (← c.self.view_is, keys_in p.shape p.numbers p.dims p.measures p.len) c.are_ascending.ensures
