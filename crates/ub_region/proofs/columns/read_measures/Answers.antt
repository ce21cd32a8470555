use Rattle.std.proofs.Common.{◌≡◌, ◌+◌, ◌*◌, map, arith}
use Rattle.std.specs.Int.{w64, cast_signed}
use Rattle.ub_bytes.specs.Bytes.{number_at}
use Rattle.std.specs.List.{range_with_len}
use Rattle.ub_region.specs.Columns.{blank_measures}
use Rattle.ub_region.proofs.PlacesFacts.{so_far_none, so_far_more, so_far_all}
use Rattle.ub_region.proofs.columns.read_measures.Goals as goal

pub loop-measure-init : goal.loop-measure-init
loop-measure-init c = so_far_none 4 blank_measures (λ d. map (λ i. cast_signed w64 (number_at 8 (c.args.offset + 8 * (c.args.count * d + i)) c.args.page.now)) (range_with_len 0 64)) c.args.measures c.blank_from.new.columns c.blank_from.ensures.long c.blank_from.ensures.blank

pub loop-measure-preserved : goal.loop-measure-preserved
loop-measure-preserved c = so_far_more 4 blank_measures (λ d. map (λ i. cast_signed w64 (number_at 8 (c.args.offset + 8 * (c.args.count * d + i)) c.args.page.now)) (range_with_len 0 64)) c.loop-measure.measure c.args.measures c.loop-measure.columns _ c.read_measure.ensures c.loop-measure-test.true c.requires.measures c.loop-measure.invariant

pub returns : goal.returns
returns c =
    let test = c.loop-measure-test.false in
    let end : c.loop-measure.measure ≡ c.args.measures = omega arith in
    so_far_all 4 blank_measures (λ d. map (λ i. cast_signed w64 (number_at 8 (c.args.offset + 8 * (c.args.count * d + i)) c.args.page.now)) (range_with_len 0 64)) c.args.measures c.loop-measure.columns (rw end at c.loop-measure.invariant)
