use Rattle.ub_syntax.proofs.Chains.{joined_start, joined_more, joined_end}
use Rattle.ub_syntax.proofs.Clauses.{comma_separates}
use Rattle.ub_syntax.proofs.builder.Reader.values.Goals as goal

pub joined-init : goal.joined-init
joined-init c = rw (c.in_ok-push.ensures.items, c.in_ok-values.ensures.items) (joined_start _ _ _ _ _ _ _ comma_separates c.value.ensures.reads)

pub joined-preserved : goal.joined-preserved
joined-preserved c =
    let taken = rw c.joined-test.true at c.accept.ensures in
    rw c.in_ok-push-2.ensures.items (joined_more _ _ _ _ _ _ _ _ _ _ comma_separates c.joined.invariant taken c.value-in-joined.ensures.reads)

pub returns : goal.returns
returns c =
    let done = rw c.joined-test.false at c.accept.ensures in
    joined_end _ _ _ _ _ _ _ _ comma_separates c.joined.invariant done
