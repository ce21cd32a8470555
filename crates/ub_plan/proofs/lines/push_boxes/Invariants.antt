use Rattle.std.proofs.Common.{◌≡◌, ◌++◌, take}
use Rattle.std.specs.List.{flat_map}
use Rattle.ub_plan.specs.Explained.{box_text, line}
use Rattle.ub_plan.proofs.lines.push_boxes.Given as goal

abbrev pub invariant-loop-space : goal.invariant-loop-space
invariant-loop-space l = l.text.items ≡ l.initial.text.items ++ flat_map (λ b. line (box_text l.schema b)) (take l.space-index l.boxes)
