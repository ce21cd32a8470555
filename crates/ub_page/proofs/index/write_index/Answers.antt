use Rattle.std.proofs.Common.{◌∙◌}
use Rattle.ub_page.proofs.IndexFacts.{index_spelled}
use Rattle.ub_page.proofs.index.write_index.Goals as goal

pub returns : goal.returns
returns c = c.write_entries.ensures ∙ index_spelled c.args.level c.args.entries.now
