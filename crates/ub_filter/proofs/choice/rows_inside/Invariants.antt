use Rattle.std.proofs.Common.{◌≡◌, ◌↔◌, ℕ, Some, take, slice_get}
use Rattle.std.specs.Int.{bit_at}
use Rattle.ub_boxes.specs.Laws.{IsInSome}
use Rattle.ub_table.specs.declared.row.Row.{Row}
use Rattle.ub_filter.proofs.choice.rows_inside.Given as goal

abbrev pub invariant-loop-zbox : goal.invariant-loop-zbox
invariant-loop-zbox l =
    (i : ℕ) (row : Row) → slice_get l.page.region.rows i ≡ Some row → (bit_at l.inside i ≡ 1) ↔ IsInSome (take l.zbox-index l.boxes) (take l.page.dims row.dims)
