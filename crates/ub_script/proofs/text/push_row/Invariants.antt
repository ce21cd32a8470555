use Rattle.std.proofs.Common.{◌≡◌, ◌++◌, [], map, slice_index_or, take}
use Rattle.std.specs.List.{join_with_byte}
use Rattle.ub_script.specs.Text.{cell_text}
use Rattle.ub_script.proofs.text.push_row.Given as goal

abbrev pub invariant-loop-place : goal.invariant-loop-place
invariant-loop-place l = l.text.items ≡ l.initial.text.items ++ join_with_byte 44 (take l.place (map cell_text (slice_index_or l.rows l.index [])))
