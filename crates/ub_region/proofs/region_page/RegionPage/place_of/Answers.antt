use Rattle.std.proofs.Common.{◌≡◌, ◌≤◌, ◌<◌, ◌-◌, ◌∙◌, ℕ, Some, slice_get, get_or, length, sym, arith}
use Rattle.std.proofs.lemmas.Option.{slice_get-get_or}
use Rattle.ub_region.proofs.BlankRow.{blank_row}
use Rattle.ub_region.proofs.IndexFacts.{key_there, place_free, place_taken, placed}
use Rattle.ub_region.proofs.region_page.RegionPage.place_of.Goals as goal
use Rattle.ub_table.specs.Region.{key_of, keys_of}
use Rattle.ub_table.specs.declared.row.Key.{Key}

pub returns-then-index-eq0-clause-place : goal.returns-then-index-eq0-clause-place
returns-then-index-eq0-clause-place c =
    let v = c.args.self.now in
    let row = c.args.row.now in
    let n = c.first_after-index.result in
    let at = c.first_after-index.ensures in (
      place_free v.dims row v.region.rows c.requires n at.below at.above (λ last some there. absurd (omega (arith, some, c.if-index-eq0.true))) at.within,
      at.within,
      placed v.dims row v.region.rows n at.within at.below (λ k there. at.above n k (omega arith) there),
    )

pub returns-then-is_before-clause-place : goal.returns-then-is_before-clause-place
returns-then-is_before-clause-place c =
    let v = c.args.self.now in
    let row = c.args.row.now in
    let n = c.first_after-index.result in
    let at = c.first_after-index.ensures in (
      place_free v.dims row v.region.rows c.requires n at.below at.above (λ last some there. sym (c.is_before.ensures last there) ∙ c.if-is_before.true) at.within,
      at.within,
      placed v.dims row v.region.rows n at.within at.below (λ k there. at.above n k (omega arith) there),
    )

pub returns-else-is_before-clause-none : goal.returns-else-is_before-clause-none
returns-else-is_before-clause-none c =
    let v = c.args.self.now in
    let row = c.args.row.now in
    let n = c.first_after-index.result in
    let at = c.first_after-index.ensures in
    let some = c.if-index-eq0.false in
    let within = at.within in
    let last : Key = key_of v.dims (get_or v.region.rows (n - 1) blank_row) in
    let there : slice_get (keys_of v.dims v.region.rows) (n - 1) ≡ Some last = key_there v.dims v.region.rows (n - 1) _ (slice_get-get_or v.region.rows (n - 1) blank_row (omega arith)) in
    place_taken v.dims row v.region.rows c.requires n at.below at.above last (omega arith) there (sym (c.is_before.ensures last there) ∙ c.if-is_before.false)
