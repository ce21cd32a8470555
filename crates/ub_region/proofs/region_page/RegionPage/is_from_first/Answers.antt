use Rattle.std.proofs.Common.{ap, ◌∙◌}
use Rattle.ub_region.proofs.KeysFacts.{keys_are_from}
use Rattle.ub_region.proofs.region_page.RegionPage.is_from_first.Goals as goal
use Rattle.ub_region.specs.RegionPage.{RegionView}
use Rattle.ub_table.specs.Keys.{precedes}
use Rattle.ub_table.specs.Region.{keys_of}

pub returns-else-len-eq0 : goal.returns-else-len-eq0
returns-else-len-eq0 c =
    let v = c.args.self.now in
    keys_are_from v.region.first c.key.result (keys_of v.dims v.region.rows) c.is_before.result c.key.ensures c.requires
    (c.is_before.ensures ∙ ap (precedes c.key.result) (ap (λ (w : RegionView). w.region.first) c.self.view_is))
