use Rattle.std.proofs.Common.{rules}
use Rattle.ub_words.specs.CommandLine.{IsArgFor, page_rows_rule}
use Rattle.ub_words.proofs.builder.with_page_rows.Goals as goal

pub returns : goal.returns
returns c =
    let fits : IsArgFor page_rows_rule c.default_value-arg.result = search rules in
    λ app is. c.with_arg.ensures app page_rows_rule is fits
