use Rattle.ub_planning.proofs.Laws.{sweeps_are_led}
use Rattle.ub_planning.proofs.law.sweeps_are_led.Goals as goal

pub returns : goal.returns
returns c = sweeps_are_led
