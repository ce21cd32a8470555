use Rattle.ub_syntax.proofs.Parts.{spelled_rest}
use Rattle.ub_syntax.proofs.builder.Reader.advance.Goals as goal

pub invariant_of-self : goal.invariant_of-self
invariant_of-self c = spelled_rest c.self.inside.source.now c.self.inside.left.now c.in-Some.left.now c.in-Some.token.now c.in-Some.ensures.cases.0 c.self.invariant
