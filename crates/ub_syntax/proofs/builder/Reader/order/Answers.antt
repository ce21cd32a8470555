use Rattle.ub_syntax.proofs.Clauses.{order_ok}
use Rattle.ub_syntax.proofs.builder.Reader.order.Goals as goal

pub returns : goal.returns
returns c =
    let taken = rw c.if-not-accept.false at c.accept.ensures in
    order_ok c.keys.result (λ v. v.items) _ _ _ _ _ taken c.advance.ensures c.keys.ensures
