use Rattle.std.proofs.Common.{◌≡◌, ◌*◌, ◌++◌, drop}
use Rattle.ub_bytes.specs.Numbers.{first_numbers, measure_in}
use Rattle.ub_bytes.proofs.spelling.write_measure.Given as goal

abbrev pub invariant-loop-i : goal.invariant-loop-i
invariant-loop-i l = l.target ≡ first_numbers 8 (measure_in l.column) l.i ++ drop (8 * l.i) l.initial.target
