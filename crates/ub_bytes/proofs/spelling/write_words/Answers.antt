use Rattle.std.proofs.Common.{◌+◌, ◌*◌, refl, arith}
use Rattle.ub_bytes.specs.Numbers.{word_in}
use Rattle.ub_bytes.proofs.WriteFacts.{number_step}
use Rattle.ub_bytes.proofs.spelling.write_words.Goals as goal

pub loop-i-preserved : goal.loop-i-preserved
loop-i-preserved c =
    let i = c.loop-i.i in
    number_step 4 (word_in c.args.column.now) i (4 * i) (4 * (i + 1)) _ c.args.target.now c.loop-i.target c.write_u32.new.target
    refl (omega arith) refl c.loop-i.invariant c.write_u32.ensures
