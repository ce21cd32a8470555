use Rattle.std.proofs.Common.{◌≡◌, ◌+◌, ◌*◌, refl, rules, arith}
use Rattle.ub_bytes.specs.Numbers.{measure_in}
use Rattle.ub_bytes.proofs.WriteFacts.{number_step}
use Rattle.ub_bytes.proofs.spelling.write_measure.Goals as goal

pub loop-i-preserved : goal.loop-i-preserved
loop-i-preserved c =
    let i = c.loop-i.i in
    let number : c.cast_unsigned.result ≡ measure_in c.args.column.now i = search (rules, c.cast_unsigned.ensures) in
    number_step 8 (measure_in c.args.column.now) i (8 * i) (8 * (i + 1)) c.cast_unsigned.result c.args.target.now c.loop-i.target c.write_u64.new.target
    refl (omega arith) number c.loop-i.invariant c.write_u64.ensures
