use Rattle.std.proofs.Common.{◌≡◌, ◌∙◌, Some, slice_get, ap, subst, sym}
use Rattle.ub_region.proofs.ColumnFacts.{key_there_in}
use Rattle.ub_region.proofs.HeldFacts.{row_within}
use Rattle.ub_region.proofs.region_page.RegionPage.is_before.Goals as goal
use Rattle.ub_region.specs.Columns.{key_in}
use Rattle.ub_region.specs.RegionPage.{RegionView}
use Rattle.ub_table.specs.Keys.{precedes}
use Rattle.ub_table.specs.Region.{key_of, keys_of}
use Rattle.ub_table.specs.declared.row.Key.{Key}

pub returns : goal.returns
returns c =
    let p = c.self.inside in
    let row = c.args.row.now in
    let here = key_there_in p.shape p.numbers p.dims p.measures p.len c.args.i (rw (← c.self.view_is) at c.requires) in
    subst (λ (v : RegionView). (key : Key) → slice_get (keys_of v.dims v.region.rows) c.args.i ≡ Some key → c.is_before.result ≡ precedes key (key_of v.dims row)) c.self.view_is
    (λ key there.
    let same : key_in p.shape p.numbers p.dims c.args.i ≡ key = cc in
    c.is_before.ensures ∙ ap (λ (k : Key). precedes k (key_of p.shape row)) same)

pub is_before-requires : goal.is_before-requires
is_before-requires c = row_within c.self.inside c.args.self.now c.self.view_is c.self.invariant.few c.args.i c.requires
