use Rattle.std.proofs.Common.{arith}
use Rattle.ub_load.proofs.DigitFacts.{front_below, least_byte, most_byte, next_digit}
use Rattle.ub_load.proofs.field.read_digits.Goals as goal

pub overflow_mul-value : goal.overflow_mul-value
overflow_mul-value c = omega (arith, front_below c.args.digits.now c.loop-byte.byte-index c.requires.digits c.requires.few, c.loop-byte.invariant)

pub overflow_sub-byte : goal.overflow_sub-byte
overflow_sub-byte c = least_byte c.args.digits.now c.loop-byte.byte-index c.requires.digits c.loop-byte-test.true

pub overflow_add-value : goal.overflow_add-value
overflow_add-value c = omega (arith, front_below c.args.digits.now c.loop-byte.byte-index c.requires.digits c.requires.few, c.loop-byte.invariant, c.from.ensures, most_byte c.args.digits.now c.loop-byte.byte-index c.requires.digits c.loop-byte-test.true)

pub loop-byte-preserved : goal.loop-byte-preserved
loop-byte-preserved c = omega (arith, next_digit c.args.digits.now c.loop-byte.byte-index c.requires.digits c.loop-byte-test.true, c.loop-byte.invariant, c.from.ensures)

pub returns-clause-small : goal.returns-clause-small
returns-clause-small c = omega (arith, front_below c.args.digits.now c.loop-byte.byte-index c.requires.digits c.requires.few, c.loop-byte.invariant)
