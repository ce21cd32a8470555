use Rattle.std.proofs.Common.{arith}
use Rattle.ub_bytes.proofs.DraftFacts.{cleared}
use Rattle.ub_bytes.proofs.draft.Draft.clear.Goals as goal

pub invariant_of-self : goal.invariant_of-self
invariant_of-self c =
    (omega arith, cleared 4096 c.self.inside.len c.self.inside.page c.fill.new.self c.self.told c.self.invariant.0 c.self.invariant.1 (c.fill.ensures.after (λ y is. is)))
