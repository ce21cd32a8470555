use Rattle.std.proofs.Common.{◌≡◌, ◌++◌, codes, take}
use Rattle.std.specs.List.{join_by}
use Rattle.ub_plan.specs.Explained.{sides}
use Rattle.ub_plan.proofs.lines.push_sides.Given as goal

abbrev pub invariant-loop-dim : goal.invariant-loop-dim
invariant-loop-dim l = l.text.items ≡ l.initial.text.items ++ join_by (λ side. side) (codes ", ") (take l.dim (sides l.schema 0 l.schema.columns l.lo l.hi))
