use Rattle.std.proofs.Common.{◌≡◌, ◌++◌, map, take}
use Rattle.std.specs.List.{join_with_byte}
use Rattle.ub_query.specs.Cells.{title}
use Rattle.ub_script.proofs.text.push_titles.Given as goal

abbrev pub invariant-loop-place : goal.invariant-loop-place
invariant-loop-place l = l.text.items ≡ l.initial.text.items ++ join_with_byte 44 (take l.place (map (title l.schema) l.items))
