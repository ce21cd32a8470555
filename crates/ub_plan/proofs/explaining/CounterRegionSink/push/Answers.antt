use Rattle.std.proofs.Common.{◌≡◌, ◌+◌, ◌++◌, ◌∷◌, [], length, arith}
use Rattle.std.proofs.lemmas.List.{length-append}
use Rattle.ub_plan.proofs.MetFacts.{last_more}
use Rattle.ub_plan.proofs.explaining.CounterRegionSink.push.Goals as goal

pub returns : goal.returns
returns c start taken has =
    let long : length (taken ++ c.args.region.now ∷ []) ≡ length taken + 1 = length-append taken (c.args.region.now ∷ []) in
    let before = has.0 in
    let sum = c.saturating_add-self.ensures in
    (omega arith, last_more start.last taken c.args.region.now)
