use Rattle.std.proofs.Common.{[], get_or, arith}
use Rattle.ub_bytes.specs.Numbers.{first_numbers, measure_in}
use Rattle.ub_bytes.proofs.WriteFacts.{column_step}
use Rattle.ub_region.proofs.region_page.put_measures.Goals as goal

pub loop-measure-preserved : goal.loop-measure-preserved
loop-measure-preserved c = record {
  bytes = column_step (λ n. first_numbers 8 (measure_in (get_or c.args.columns.now n [])) c.args.count) c.loop-measure.measure c.args.draft.now c.loop-measure.draft c.put_measure.new.self
      c.loop-measure.invariant.bytes c.put_measure.ensures.bytes;
  len = omega (arith, c.put_measure.ensures.len, c.loop-measure.invariant.len);
}
