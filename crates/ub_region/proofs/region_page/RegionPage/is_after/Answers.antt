use Rattle.std.proofs.Common.{◌≡◌, ◌∙◌, Some, slice_get, ap, subst, sym}
use Rattle.ub_region.proofs.ColumnFacts.{key_there_in}
use Rattle.ub_region.proofs.HeldFacts.{row_within}
use Rattle.ub_region.proofs.region_page.RegionPage.is_after.Goals as goal
use Rattle.ub_region.specs.Columns.{key_in}
use Rattle.ub_region.specs.RegionPage.{RegionView}
use Rattle.ub_table.specs.Keys.{precedes}
use Rattle.ub_table.specs.Region.{key_of, keys_of}
use Rattle.ub_table.specs.declared.row.Key.{Key}

pub returns : goal.returns
returns c =
    let p = c.self.inside in
    let row = c.args.row.now in
    let here = key_there_in p.shape p.numbers p.dims p.measures p.len c.args.i (rw (← c.self.view_is) at c.requires) in
    subst (λ (v : RegionView). (key : Key) → slice_get (keys_of v.dims v.region.rows) c.args.i ≡ Some key → c.is_after.result ≡ precedes (key_of v.dims row) key) c.self.view_is
    (λ key there.
    let same : key_in p.shape p.numbers p.dims c.args.i ≡ key = cc in
    c.is_after.ensures ∙ ap (precedes (key_of p.shape row)) same)

pub is_after-requires : goal.is_after-requires
is_after-requires c = row_within c.self.inside c.args.self.now c.self.view_is c.self.invariant.few c.args.i c.requires
