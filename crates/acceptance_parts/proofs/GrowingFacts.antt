-- Rows whose numbers ascend.
use Rattle.std.proofs.Common.{◌≡◌, ◌<◌, ◌≤◌, ◌+◌, ◌++◌, ℕ, zero, suc, List, [], ◌∷◌, arith}
use Rattle.ub_growing.specs.Growing.{AscendWithin}
use Rattle.ub_table.specs.Table.{IsInOrder}
use Rattle.ub_table.specs.declared.row.Row.{Row}

-- one row more, of a higher number
pub ascend_more : (from below to : ℕ) (rows : List Row) (row : Row) → AscendWithin from below rows → below ≤ row.number → row.number < to
    → AscendWithin from to (rows ++ row ∷ [])
ascend_more from below to [] row h high low = (omega arith, low)
ascend_more from below to (first ∷ rows) row h high low = (h.0, ascend_more (suc first.number) below to rows row h.1 high low)

pub in_order : (from to : ℕ) (rows : List Row) → AscendWithin from to rows → IsInOrder rows
in_order from to [] h k lt = absurd (omega arith)
in_order from to (row ∷ []) h k lt = absurd (omega arith)
in_order from to (row ∷ next ∷ rows) h zero lt = h.1.0
in_order from to (row ∷ next ∷ rows) h (suc k) lt =
    let same : suc k + 1 ≡ suc (k + 1) = omega arith in
    rw same (in_order (suc row.number) to (next ∷ rows) h.1 k (omega arith))
