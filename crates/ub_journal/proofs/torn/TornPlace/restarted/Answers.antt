use Rattle.std.proofs.Common.{sym}
use Rattle.ub_journal.proofs.TornFacts.{stands_so}
use Rattle.ub_journal.proofs.torn.TornPlace.restarted.Goals as goal

pub returns : goal.returns
returns c = stands_so c.in_ok-pages.ensures (sym c.bytes_after.ensures) c.in_ok-journal.ensures c.new.ensures.facts
