use Rattle.ub_syntax.proofs.Clauses.{group_ok}
use Rattle.ub_syntax.proofs.builder.Reader.group.Goals as goal

pub returns : goal.returns
returns c =
    let taken = rw c.if-not-accept.false at c.accept.ensures in
    group_ok c.names.result (λ v. v.items) _ _ _ _ _ taken c.advance.ensures c.names.ensures
