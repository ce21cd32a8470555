use Rattle.std.proofs.Common.{◌≡◌, ◌%◌, length, take}
use Rattle.std.specs.Io.KnownBytes.{Appends}
use Rattle.ub_journal_page.specs.Pages.{changes_bytes}
use Rattle.ub_journal_page.proofs.spelling.write_changes.Given as goal

-- the first so many changes are written
abbrev pub invariant-loop-at : goal.invariant-loop-at
invariant-loop-at g l = record {
  same : l.journal ≡ l.fn.journal;
  written : Appends (g.W.Write.contents l.fn.out) (g.W.Write.contents l.out) (changes_bytes (take l.at (g.J.Tells.told l.fn.journal).changes));
  within : l.within ≡ length (changes_bytes (take l.at (g.J.Tells.told l.fn.journal).changes)) % 4096;
}
