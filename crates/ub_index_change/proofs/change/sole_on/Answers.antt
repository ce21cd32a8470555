use Rattle.std.proofs.Common.{subst, ℕ, ◌≢◌}
use Rattle.ub_index_change.proofs.Common.{number_at}
use Rattle.ub_index_change.proofs.LowerFacts.{sole_none}
use Rattle.ub_index_change.proofs.change.sole_on.Goals as goal

pub returns-else-u16_at-eq1 : goal.returns-else-u16_at-eq1
returns-else-u16_at-eq1 c =
    record { sole = sole_none (number_at 2 2 c.args.page.now) c.args.page.now (subst (λ (n : ℕ). n ≢ 1) c.u16_at.ensures c.if-u16_at-eq1.false); some = tt }
