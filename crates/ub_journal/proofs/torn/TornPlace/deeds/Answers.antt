use Rattle.std.proofs.Common.{ap, sym}
use Rattle.ub_journal.specs.Torn.{first_image, seen_after}
use Rattle.ub_journal.proofs.torn.TornPlace.deeds.Goals as goal

pub returns-clause-seen : goal.returns-clause-seen
returns-clause-seen c = (first_image c.args.self.now, ap (seen_after (first_image c.args.self.now)) (sym c.as_slice.ensures.value))
