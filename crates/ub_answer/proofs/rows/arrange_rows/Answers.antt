use Rattle.std.proofs.Common.{rules}
use Rattle.std.proofs.lemmas.Fn.{always_returns_same}
use Rattle.ub_answer.specs.inner.Compare.{row_cmp}
use Rattle.ub_answer.proofs.CompareFacts.{rows_total}
use Rattle.ub_answer.proofs.rows.arrange_rows.Goals as goal

pub returns-clause-arranged : goal.returns-clause-arranged
returns-clause-arranged c =
    c.arrange.ensures.arranged (row_cmp c.args.schema.now c.args.keys.now) (rows_total c.args.schema.now c.args.keys.now)
    (always_returns_same _ _ _ (λ a r f k. search rules))
