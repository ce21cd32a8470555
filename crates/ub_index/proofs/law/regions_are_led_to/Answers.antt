use Rattle.ub_index.proofs.LeadFacts.{regions_led_to}
use Rattle.ub_index.proofs.law.regions_are_led_to.Goals as goal

pub returns : goal.returns
returns c = regions_led_to
