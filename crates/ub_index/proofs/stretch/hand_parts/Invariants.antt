use Rattle.std.proofs.Common.{◌-◌, List, length}
use Rattle.ub_index.proofs.Common.{MeetsAny, parts_on, Stretch, TakesThese}
use Rattle.ub_index.proofs.StretchSteps.{IsHandedTo}
use Rattle.ub_index.proofs.stretch.hand_parts.Given as goal

abbrev pub invariant-loop-slot : goal.invariant-loop-slot
invariant-loop-slot g l =
    (handed : List Stretch) × IsHandedTo (MeetsAny l.boxes) (parts_on l.last l.stretch l.page) l.behind handed
    × TakesThese (g.T.StretchSink.Takes l.boxes) l.initial.sink l.sink handed

abbrev pub decreases-loop-slot : goal.decreases-loop-slot
decreases-loop-slot g l = length (parts_on l.last l.stretch l.page) - l.behind
