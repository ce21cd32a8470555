use Rattle.std.proofs.Common.{inr}
use Rattle.ub_table_file.proofs.CheckFacts.{counts_told}
use Rattle.ub_table_file.proofs.checking.counts_text.Goals as goal

pub returns-in-Ok : goal.returns-in-Ok
returns-in-Ok c =
    counts_told (λ text. text.items) c.args.counted c.in-Ok.counts c.counts_line.result.bytes c.line_text.result c.in-Ok.is c.counts_line.ensures c.line_text.ensures.text c.line_text.ensures.refused

pub returns-in-Err : goal.returns-in-Err
returns-in-Err c = inr c.in-Err.is
