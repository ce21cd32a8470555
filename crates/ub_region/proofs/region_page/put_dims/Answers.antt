use Rattle.std.proofs.Common.{[], get_or, arith}
use Rattle.ub_bytes.specs.Numbers.{first_numbers, word_in}
use Rattle.ub_bytes.proofs.WriteFacts.{column_step}
use Rattle.ub_region.proofs.region_page.put_dims.Goals as goal

pub loop-dim-preserved : goal.loop-dim-preserved
loop-dim-preserved c = record {
  bytes = column_step (λ n. first_numbers 4 (word_in (get_or c.args.columns.now n [])) c.args.count) c.loop-dim.dim c.args.draft.now c.loop-dim.draft c.put_words.new.self
      c.loop-dim.invariant.bytes c.put_words.ensures.bytes;
  len = omega (arith, c.put_words.ensures.len, c.loop-dim.invariant.len);
}
