-- The shape of an answer: how long its rows are, and how many there are.
use Rattle.std.proofs.Common.{◌≡◌, ◌≤◌, ◌+◌, ◌*◌, ◌++◌, ◌∙◌, ℕ, zero, suc, List, [], ◌∷◌, Option, Some, None, IfSome, Result, Ok, Err, IfOk, length, map, sym, ap, subst, refl, arith}
use Rattle.std.proofs.lemmas.List.{length-append, length-map}
use Rattle.std.specs.List.{AllByRecursion}
use Rattle.ub_answer.proofs.CutFacts.{as-wide, both-pieces, few-pieces, length-cut}
use Rattle.ub_answer.specs.Held.{lines}
use Rattle.ub_answer.specs.Shaped.{HaveOneWidth, IsShaped}
use Rattle.ub_answer.specs.inner.Cut.{cut}
use Rattle.ub_query.specs.Cells.{row_cell}
use Rattle.ub_query.specs.Shape.{Asked}
use Rattle.ub_query.specs.declared.cell.Cell.{Cell}
use Rattle.ub_query.specs.declared.query.Item.{Item}
use Rattle.ub_table.specs.declared.row.Row.{Row}
use Rattle.ub_table.specs.declared.schema.Schema.{Schema}

-- each of the lines of some rows has as many cells as there are items
pub lines-wide : (schema : Schema) (items : List Item) (rows : List Row) → AllByRecursion (λ cells. length cells ≡ length items) (lines schema items rows)
lines-wide schema items [] = tt
lines-wide schema items (row ∷ rows) = (length-map items (row_cell schema row), lines-wide schema items rows)

-- no more entries than the limit says, by the names that the code has for them
few_of : {E : Type 0} (limit : Option ℕ) (entries seen : List E) (count : ℕ) → seen ≡ entries → count ≡ length seen → IfSome limit (λ n. length entries ≤ n) → IfSome limit (λ n. count ≤ n)
few_of None entries seen count same is few = tt
few_of (Some n) entries seen count same is few = let long = ap length same in omega arith

-- the shape of lines of rows
pub shaped_rows : (q : Asked) (schema : Schema) (items : List Item) (rows seen : List Row) (cells : List (List Cell)) → items ≡ q.items → seen ≡ rows → IfSome q.limit (λ n. length rows ≤ n)
    → cells ≡ lines schema items seen → IsShaped q cells
shaped_rows q schema items rows seen cells items_are same few is = record {
  wide = subst (λ (lines : List (List Cell)). AllByRecursion (λ cells. length cells ≡ length q.items) lines) (sym is)
      (subst (λ (its : List Item). AllByRecursion (λ cells. length cells ≡ length its) (lines schema items seen)) items_are (lines-wide schema items seen));
  few = few_of q.limit rows seen (length cells) same (ap length is ∙ length-map seen (λ (row : Row). map (row_cell schema row) items)) few;
}

-- the shape of the cells of groups, which were cut into one line each
pub shaped_groups : {E F : Type 0} (q : Asked) (items : List Item) (entries seen : List E) (whole : List Cell) (r : Result (List (List Cell)) F) → items ≡ q.items → seen ≡ entries
    → IfSome q.limit (λ n. length entries ≤ n) → IfOk r (λ cells. cells ≡ cut (length seen) (length items) whole)
    → IfOk r (AllByRecursion (λ cells. length cells ≡ length items)) → IfOk r (IsShaped q)
shaped_groups q items entries seen whole (Err e) items_are same few is wide = tt
shaped_groups q items entries seen whole (Ok cells) items_are same few is wide = record {
  wide = subst (λ (its : List Item). AllByRecursion (λ cells. length cells ≡ length its) cells) items_are wide;
  few = few_of q.limit entries seen (length cells) same (ap length is ∙ length-cut (length seen) (length items) whole) few;
}

-- one row, or none where the limit is 0
few_one : (limit : Option ℕ) (count : ℕ) → count ≤ 1 → (limit ≡ Some 0 → count ≡ 0) → IfSome limit (λ n. count ≤ n)
few_one None count one none = tt
few_one (Some zero) count one none = let is = none refl in omega arith
few_one (Some (suc n)) count one none = omega arith

-- the shape of the cells of all rows
pub shaped_totals : (q : Asked) (items : List Item) (count width : ℕ) (whole : List Cell) (cells : List (List Cell)) → items ≡ q.items → width ≡ length items → count ≤ 1 → (q.limit ≡ Some 0 → count ≡ 0)
    → cells ≡ cut count width whole → AllByRecursion (λ cells. length cells ≡ width) cells → IsShaped q cells
shaped_totals q items count width whole cells items_are width_is one none is wide = record {
  wide = subst (λ (w : ℕ). AllByRecursion (λ cells. length cells ≡ w) cells) (width_is ∙ ap length items_are) wide;
  few = subst (λ (n : ℕ). IfSome q.limit (λ most. n ≤ most)) (sym (ap length is ∙ length-cut count width whole)) (few_one q.limit count one none);
}

-- ---- rows put after others

-- the cells of both, one after the other, are the rows of both
pub rows-of_both : (count width more other : ℕ) (xs ys whole : List Cell) (first second : List (List Cell)) → length xs ≡ count * width → length ys ≡ more * other
    → cut count width xs ≡ first → cut more other ys ≡ second → HaveOneWidth first second → whole ≡ xs ++ ys
    → (all : ℕ) → (count ≡ 0 → all ≡ other) → (1 ≤ count → all ≡ width)
    → (count + more ≤ length whole) × (length whole ≡ (count + more) * all) × (cut (count + more) all whole ≡ first ++ second)
rows-of_both count width more other xs ys whole first second long more_long is more_is wide is_whole all none some =
    let mine = subst (λ (rows : List (List Cell)). AllByRecursion (λ cells. length cells ≡ wide.width) rows) (sym is) wide.first_wide in
    let theirs = subst (λ (rows : List (List Cell)). AllByRecursion (λ cells. length cells ≡ wide.width) rows) (sym more_is) wide.second_wide in
    let few = few-pieces count wide.width (length xs) (as-wide count width wide.width xs long mine).0 wide.some in
    let few_more = few-pieces more wide.width (length ys) (as-wide more other wide.width ys more_long theirs).0 wide.some in
    let both = both-pieces count width more other wide.width xs ys long more_long mine theirs all none some in
    let length_is = ap length is_whole in (
      omega (arith, length-append xs ys),
      length_is ∙ both.0,
      ap (cut (count + more) all) is_whole ∙ both.1 ∙ ap (λ (rows : List (List Cell)). rows ++ cut more other ys) is
          ∙ ap (λ (rows : List (List Cell)). first ++ rows) more_is,
    )
