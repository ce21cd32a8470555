use Rattle.std.proofs.Common.{◌∙◌, ℤ, List, length, map, take, sym, ap}
use Rattle.ub_filter.proofs.BatchFacts.{all_at}
use Rattle.ub_table.specs.Table.{column_value}
use Rattle.ub_table.specs.declared.row.Row.{Row}
use Rattle.ub_filter.proofs.batch.PageBatchRowBatch.put_values.Goals as goal

pub returns-then-count_at-len-clause-values : goal.returns-then-count_at-len-clause-values
returns-then-count_at-len-clause-values c =
    let value : Row → ℤ = λ row. column_value c.args.schema.now row c.args.column in
    let all = all_at c.args.self.now.mask c.args.self.now.page.now.region.rows (sym c.count_at.ensures.count ∙ c.if-count_at-len.true
    ∙ c.len.ensures.len) in
    ap (λ (rs : List Row). take (length rs) c.put_all.new.values) all ∙ c.put_all.ensures.values ∙ ap (λ (rs : List Row). map value rs) (sym all)
