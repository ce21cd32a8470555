use Rattle.std.proofs.Common.{◌∙◌, Some, ap, arith}
use Rattle.ub_index.proofs.Common.{Key}
use Rattle.ub_index.proofs.FitFacts.{after_first, after_none}
use Rattle.ub_index.proofs.descent.first_after.Goals as goal

pub returns-then-slot-count : goal.returns-then-slot-count
returns-then-slot-count c = ap (λ (k : Key). Some k) c.first_at.ensures ∙ after_first c.args.page.now _ c.args.end (omega arith)

pub returns-else-slot-count : goal.returns-else-slot-count
returns-else-slot-count c = after_none c.args.page.now _ c.args.end (omega arith)
