-- The shape of what a query answers, whatever the rows are that it is made of.
use Rattle.std.specs.Prelude.{◌≡◌, ◌≤◌, ℕ, List, IfSome, length}
use Rattle.std.specs.List.{AllByRecursion}
use Rattle.ub_query.specs.Shape.{Asked}
use Rattle.ub_query.specs.declared.cell.Cell.{Cell}

-- each row has as many cells as the query has items, and there are no more rows than its limit says
pub record IsShaped (q : Asked) (rows : List (List Cell)) : Type 0 where
  pub wide : AllByRecursion (λ cells. length cells ≡ length q.items) rows
  pub few : IfSome q.limit (λ most. length rows ≤ most)

-- each row of both has as many cells, one at least
pub record HaveOneWidth (first second : List (List Cell)) : Type 0 where
  pub width : ℕ
  pub some : 1 ≤ width
  pub first_wide : AllByRecursion (λ cells. length cells ≡ width) first
  pub second_wide : AllByRecursion (λ cells. length cells ≡ width) second
