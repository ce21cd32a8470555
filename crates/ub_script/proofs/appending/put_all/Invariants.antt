use Rattle.std.proofs.Common.{take}
use Rattle.ub_script.specs.Appending.{ArePut}
use Rattle.ub_script.proofs.appending.put_all.Given as goal

-- the rows up to the next one were put in
abbrev pub invariant-loop-row : goal.invariant-loop-row
invariant-loop-row g l = ArePut l.initial.tree (take l.row-index l.ordered) l.tree
