use Rattle.std.proofs.Common.{◌∙◌}
use Rattle.ub_table_file.proofs.DescribeFacts.{memory_left, no_memory}
use Rattle.ub_table_file.proofs.FileFacts.{none_kept}
use Rattle.ub_table_file.proofs.describing.old_text.Goals as goal

pub returns-in_err-page-clause-refused : goal.returns-in_err-page-clause-refused
returns-in_err-page-clause-refused g c = no_memory c.from_residual.result (g.S.PageStore.facts c.args.store.now) c.from_residual.ensures.1

pub returns-in_err-text-clause-refused : goal.returns-in_err-text-clause-refused
returns-in_err-text-clause-refused g c = no_memory c.from_residual-in_err-text.result (g.S.PageStore.facts c.args.store.now) c.from_residual-in_err-text.ensures.1

pub returns-in_err-page-clause-text : goal.returns-in_err-page-clause-text
returns-in_err-page-clause-text g c = none_kept _ c.from_residual.result _ c.from_residual.ensures.1

pub returns-in_err-page-clause-left : goal.returns-in_err-page-clause-left
returns-in_err-page-clause-left g c = memory_left c.from_residual.result (g.S.PageStore.facts c.args.store.now) c.from_residual.ensures.1

pub returns-in_err-text-clause-text : goal.returns-in_err-text-clause-text
returns-in_err-text-clause-text g c = none_kept _ c.from_residual-in_err-text.result _ c.from_residual-in_err-text.ensures.1

pub returns-in_err-text-clause-left : goal.returns-in_err-text-clause-left
returns-in_err-text-clause-left g c = c.in_ok-head.ensures.effect ∙ memory_left c.from_residual-in_err-text.result (g.S.PageStore.facts c.args.store.now) c.from_residual-in_err-text.ensures.1

pub returns-clause-left : goal.returns-clause-left
returns-clause-left g c = c.in_ok-head.ensures.effect
