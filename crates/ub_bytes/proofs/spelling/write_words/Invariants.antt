use Rattle.std.proofs.Common.{◌≡◌, ◌*◌, ◌++◌, drop}
use Rattle.ub_bytes.specs.Numbers.{first_numbers, word_in}
use Rattle.ub_bytes.proofs.spelling.write_words.Given as goal

abbrev pub invariant-loop-i : goal.invariant-loop-i
invariant-loop-i l = l.target ≡ first_numbers 4 (word_in l.column) l.i ++ drop (4 * l.i) l.initial.target
