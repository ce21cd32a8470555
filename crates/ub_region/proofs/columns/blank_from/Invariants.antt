use Rattle.std.proofs.Common.{◌≡◌, ◌<◌, ◌≤◌, ℕ, [], length, get_or, replicate}
use Rattle.ub_region.proofs.columns.blank_from.Given as goal

abbrev pub invariant-loop-column : goal.invariant-loop-column
invariant-loop-column g l = record {
  long : length l.columns ≡ 4;
  blanks : (j : ℕ) → l.from ≤ j → j < l.column → get_or l.columns j [] ≡ replicate 64 l.blank;
}
