use Rattle.std.proofs.Common.{◌≡◌, ◌+◌, ◌*◌, map, arith}
use Rattle.ub_bytes.specs.Bytes.{number_at}
use Rattle.std.specs.List.{range_with_len}
use Rattle.ub_region.specs.Columns.{blank_dims}
use Rattle.ub_region.proofs.PlacesFacts.{so_far_none, so_far_more, so_far_all}
use Rattle.ub_region.proofs.columns.read_dims.Goals as goal

pub loop-dim-init : goal.loop-dim-init
loop-dim-init c = so_far_none 4 blank_dims (λ d. map (λ i. number_at 4 (c.args.offset + 4 * (c.args.count * d + i)) c.args.page.now) (range_with_len 0 64)) c.args.dims c.blank_from.new.columns c.blank_from.ensures.long c.blank_from.ensures.blank

pub loop-dim-preserved : goal.loop-dim-preserved
loop-dim-preserved c = so_far_more 4 blank_dims (λ d. map (λ i. number_at 4 (c.args.offset + 4 * (c.args.count * d + i)) c.args.page.now) (range_with_len 0 64)) c.loop-dim.dim c.args.dims c.loop-dim.columns _ c.read_dim.ensures c.loop-dim-test.true c.requires.dims c.loop-dim.invariant

pub returns : goal.returns
returns c =
    let test = c.loop-dim-test.false in
    let end : c.loop-dim.dim ≡ c.args.dims = omega arith in
    so_far_all 4 blank_dims (λ d. map (λ i. number_at 4 (c.args.offset + 4 * (c.args.count * d + i)) c.args.page.now) (range_with_len 0 64)) c.args.dims c.loop-dim.columns (rw end at c.loop-dim.invariant)
