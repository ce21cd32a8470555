-- The rows of a query of rows, from those held.
use Rattle.std.proofs.Common.{◌≡◌, ◌<◌, false, List, [], ◌∷◌, map, ◌∙◌, sym, ap, subst, IsPermutation}
use Rattle.std.proofs.lemmas.List.Kept.{AllPairs-from_increasing}
use Rattle.std.specs.List.{AllByRecursion}
use Rattle.std.specs.List.Sorted.{IsSorted}
use Rattle.std.specs.Ordering.{is_eq}
use Rattle.std.specs.declared.cmp.Ordering.TheVariants.{Less}
use Rattle.ub_answer.proofs.CompareFacts.{rows_total, row-before, rows-apart}
use Rattle.ub_answer.proofs.FirstFacts.{first_of_held}
use Rattle.ub_answer.specs.inner.Compare.{row_cmp}
use Rattle.ub_answer.specs.inner.Kept.{HoldsFirst}
use Rattle.ub_query.proofs.Laws.{Rising, Rising-from_pairs, Rising-map, Rising-both, adjacent-from_Rising, selected_are_in_order}
use Rattle.ub_query.specs.Cells.{row_cell}
use Rattle.ub_query.specs.Groups.{selected}
use Rattle.ub_query.specs.Meaning.{IsRowMeaning, limited}
use Rattle.ub_query.specs.Order.{IsRowBefore}
use Rattle.ub_query.specs.Shape.{Asked}
use Rattle.ub_query.specs.declared.cell.Cell.{Cell}
use Rattle.ub_query.specs.declared.query.Item.{Item}
use Rattle.ub_query.specs.declared.query.SortKey.{SortKey}
use Rattle.ub_table.specs.Table.{Table, IsInOrder}
use Rattle.ub_table.specs.declared.row.Row.{Row}
use Rattle.ub_table.specs.declared.schema.Schema.{Schema}

all_rows : (rows : List Row) → AllByRecursion (λ (row : Row). Unit {0}) rows
all_rows [] = tt
all_rows (row ∷ rows) = (tt, all_rows rows)

-- no two rows in order are alike
apart : (schema : Schema) (keys : List SortKey) (rows : List Row) → IsInOrder rows → Rising (λ a b. is_eq (row_cmp schema keys a b) ≡ false) rows
apart schema keys rows order =
    let numbers = map (λ r. r.number) rows in
    let rising = Rising-map (λ x y. x < y) (λ r. r.number) rows (Rising-from_pairs (λ x y. x < y) numbers (AllPairs-from_increasing numbers order)) in
    Rising-both (λ a b. a.number < b.number) (λ a b. is_eq (row_cmp schema keys a b) ≡ false) (λ row. Unit {0}) (λ a b p q h. rows-apart schema keys a b h)
    rows (all_rows rows) rising

pub row_meaning : (table : Table) (q : Asked) (schema : Schema) (taken held sorted : List Row) (cells : List (List Cell))
    → table.schema ≡ schema → IsInOrder table.rows → IsPermutation (selected table q.filter) taken → HoldsFirst (row_cmp schema q.order) q.limit taken held
    → IsPermutation held sorted → IsSorted (row_cmp schema q.order) sorted
    → cells ≡ map (λ row. map (row_cell schema row) q.items) (limited q.limit sorted) → IsRowMeaning table q cells
row_meaning table q schema taken held sorted cells of order moved h same up is =
    let apart_all = apart schema q.order (selected table q.filter) (selected_are_in_order table q.filter order) in
    let (arranged, all, rising, first) =
    first_of_held (row_cmp schema q.order) (rows_total schema q.order) q.limit (selected table q.filter) taken held sorted apart_all moved h same up in
    let before : Rising (IsRowBefore schema q.order) arranged =
    Rising-both (λ a b. row_cmp schema q.order a b ≡ Less) (IsRowBefore schema q.order) (λ row. Unit {0}) (λ a b p r e. row-before schema q.order a b e)
    arranged (all_rows arranged) rising in
    record {
      arranged = arranged;
      ordered = record {
        same = all;
        ordered = adjacent-from_Rising (IsRowBefore table.schema q.order) arranged (subst (λ (s : Schema). Rising (IsRowBefore s q.order) arranged) (sym of) before);
      };
      cells = is ∙ ap (λ (rows : List Row). map (λ row. map (row_cell schema row) q.items) rows) (sym first)
          ∙ ap (λ (s : Schema). map (λ row. map (row_cell s row) q.items) (limited q.limit arranged)) (sym of);
    }

-- what is finished, by the names that the code has for it
pub finished : (table : Table) (q : Asked) (schema : Schema) (taken held sorted rows seen : List Row) (keys : List SortKey) (items : List Item)
    (cells : List (List Cell)) → keys ≡ q.order → items ≡ q.items → seen ≡ rows → rows ≡ limited q.limit sorted
    → table.schema ≡ schema → IsInOrder table.rows → IsPermutation (selected table q.filter) taken → HoldsFirst (row_cmp schema q.order) q.limit taken held
    → IsPermutation held sorted → IsSorted (row_cmp schema keys) sorted
    → cells ≡ map (λ row. map (row_cell schema row) items) seen → IsRowMeaning table q cells
finished table q schema taken held sorted rows seen keys items cells keys_are items_are seen_are are of order moved h same up is =
    row_meaning table q schema taken held sorted cells of order moved h same (subst (λ (ks : List SortKey). IsSorted (row_cmp schema ks) sorted) keys_are up)
    (is ∙ ap (λ (rs : List Row). map (λ row. map (row_cell schema row) items) rs) (seen_are ∙ are)
    ∙ ap (λ (is : List Item). map (λ row. map (row_cell schema row) is) (limited q.limit sorted)) items_are)
