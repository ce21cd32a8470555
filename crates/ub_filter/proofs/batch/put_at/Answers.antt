use Rattle.std.proofs.Common.{rules, ◌≡◌, ◌-◌, ◌^◌, ◌<◌, ◌∙◌, ℕ, ℤ, ◌∷◌, length, map, bit_and, sym, ap, arith}
use Rattle.std.proofs.Math.Facts.{Fits-lt-pow}
use Rattle.std.proofs.lemmas.Int.{to_z-of_z}
use Rattle.std.proofs.lemmas.List.{length-set}
use Rattle.std.specs.Int.{bit_at, trailing_zeros, w64}
use Rattle.ub_filter.proofs.BatchFacts.{IsLowest, IsWithout, first_at, has_one, lowest_at, placed_within, put_first, with_less, within_rows, without_lowest}
use Rattle.ub_filter.specs.Batch.{rows_at}
use Rattle.ub_table.specs.Table.{column_value}
use Rattle.ub_table.specs.declared.row.Row.{Row}
use Rattle.ub_filter.proofs.batch.put_at.Goals as goal

pub loop-count-init : goal.loop-count-init
loop-count-init c =
    let value : Row → ℤ = λ row. column_value c.args.schema.now row c.args.column in
    let rows = c.args.page.now.region.rows in
    let few : bit_and c.args.mask c.places_below.result ≡ bit_and c.args.mask (2 ^ c.len.result - 1) = ap (bit_and c.args.mask) c.places_below.ensures in
    let same : rows_at (bit_and c.args.mask c.places_below.result) rows ≡ rows_at c.args.mask rows =
    ap (λ (m : ℕ). rows_at m rows) few ∙ within_rows c.args.mask c.len.result rows c.len.ensures.len in
    record {
      long = c.told-values;
      placed = λ i one. rw c.len.ensures.len at (placed_within c.args.mask c.len.result i (ap (λ (m : ℕ). bit_at m i) (sym few) ∙ one));
      many = let is = ap length same in omega arith;
      so_far = ap (map value) same;
    }

pub overflow_sub-left : goal.overflow_sub-left
overflow_sub-left c =
    let many = c.loop-count.invariant.many in
    let below : c.loop-count.count < length (rows_at c.args.mask c.args.page.now.region.rows) = rw c.count_at-count-end.ensures.count at c.loop-count-test.true in
    has_one c.loop-count.left c.args.page.now.region.rows (omega arith)

pub row-requires : goal.row-requires
row-requires c =
    let many = c.loop-count.invariant.many in
    let below : c.loop-count.count < length (rows_at c.args.mask c.args.page.now.region.rows) = rw c.count_at-count-end.ensures.count at c.loop-count-test.true in
    let some = has_one c.loop-count.left c.args.page.now.region.rows (omega arith) in
    c.loop-count.invariant.placed _ (lowest_at c.loop-count.left some (Fits-lt-pow c.loop-count.auto.left-fits)).one

pub loop-count-preserved : goal.loop-count-preserved
loop-count-preserved c =
    let value : Row → ℤ = λ row. column_value c.args.schema.now row c.args.column in
    let rows = c.args.page.now.region.rows in
    let left = c.loop-count.left in
    let count = c.loop-count.count in
    let values = c.loop-count.values in
    let before = c.loop-count.invariant in
    let many = before.many in
    let long = before.long in
    let few = c.count_at-count-end.ensures.few in
    let test = c.loop-count-test.true in
    let below : count < length (rows_at c.args.mask rows) = rw c.count_at-count-end.ensures.count at test in
    let some = has_one left rows (omega arith) in
    let place : ℕ = trailing_zeros w64 left in
    let lowest : IsLowest left place = lowest_at left some (Fits-lt-pow c.loop-count.auto.left-fits) in
    let without : IsWithout left place (bit_and left (left - 1)) = without_lowest left place lowest in
    let first : rows_at left rows ≡ c.row.result ∷ rows_at (bit_and left (left - 1)) rows = first_at left _ place rows c.row.result c.row.ensures lowest without in
    let one_less = ap length first in
    record {
      long = length-set values count _ ∙ long;
      placed = λ i one. before.placed i (with_less left i one);
      many = omega arith;
      so_far = put_first value (rows_at left rows) (rows_at (bit_and left (left - 1)) rows) c.row.result count values _ _ first
          (to_z-of_z w64 c.value_in.result (search rules) ∙ c.value_in.ensures) (omega arith) before.so_far;
    }
