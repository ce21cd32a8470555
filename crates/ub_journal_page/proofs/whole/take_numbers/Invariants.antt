use Rattle.std.proofs.Common.{◌≡◌, ◌++◌}
use Rattle.ub_journal_page.specs.Pages.{number_page}
use Rattle.ub_journal_page.specs.inner.Numbers.{numbers_on}
use Rattle.ub_journal_page.proofs.whole.take_numbers.Given as goal

-- the first so many numbers are taken, and spelled again
abbrev pub invariant-loop-i : goal.invariant-loop-i
invariant-loop-i l = record {
  taken : l.numbers.items ≡ l.fn.numbers.items ++ numbers_on l.i l.page;
  spelled : l.spelled ≡ number_page (numbers_on l.i l.page);
}
