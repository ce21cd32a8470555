use Rattle.std.proofs.Common.{ℕ, bit_and, count_ones, ap, ◌∙◌}
use Rattle.ub_filter.proofs.BatchFacts.{counted}
use Rattle.ub_filter.proofs.batch.count_at.Goals as goal

pub returns-clause-count : goal.returns-clause-count
returns-clause-count c =
    ap (λ (m : ℕ). count_ones (bit_and c.args.mask m)) c.places_below.ensures
    ∙ counted c.args.mask c.args.page.now.region.rows c.len.result c.len.ensures.len
