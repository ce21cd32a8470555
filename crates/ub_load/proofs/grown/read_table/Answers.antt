use Rattle.std.proofs.Common.{◌∙◌}
use Rattle.ub_load.proofs.grown.read_table.Goals as goal

pub returns : goal.returns
returns g c = c.read_grown-read.ensures (g.R.Read.remaining c.args.source) (λ text is. c.reader_of-reader.ensures text (c.over.ensures ∙ is))
