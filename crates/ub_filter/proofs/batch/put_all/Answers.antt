use Rattle.std.proofs.Common.{rules, arith, ◌≤◌, ◌<◌, ◌≡◌, ◌∙◌, ℕ, ℤ, length}
use Rattle.std.proofs.lemmas.Int.{to_z-of_z}
use Rattle.std.proofs.lemmas.List.{length-set}
use Rattle.std.specs.Int.{w64}
use Rattle.ub_filter.proofs.BatchFacts.{put_next}
use Rattle.ub_table.specs.Table.{column_value}
use Rattle.ub_table.specs.declared.row.Row.{Row}
use Rattle.ub_filter.proofs.batch.put_all.Goals as goal

room : (place end long : ℕ) → place < end → end ≤ 64 → long ≡ 64 → place < long
room place end long below most is = omega arith

pub loop-place-preserved : goal.loop-place-preserved
loop-place-preserved c =
    let value : Row → ℤ = λ row. column_value c.args.schema.now row c.args.column in
    let before = c.loop-place.invariant in
    let values = c.loop-place.values in
    let place = c.loop-place.place in
    let within : place < length values = room place _ _ c.loop-place-test.true c.len-place-end.ensures.few before.long in
    record {
      long = length-set values place _ ∙ before.long;
      so_far = put_next value c.args.page.now.region.rows place c.row.result values _ c.row.ensures
          (to_z-of_z w64 c.value_in.result (search rules) ∙ c.value_in.ensures) within before.so_far;
    }
