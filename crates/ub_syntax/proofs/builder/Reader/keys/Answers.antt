use Rattle.ub_syntax.proofs.Chains.{joined_start, joined_more, joined_end}
use Rattle.ub_syntax.proofs.Clauses.{keys_separate}
use Rattle.ub_syntax.proofs.builder.Reader.keys.Goals as goal

pub joined-init : goal.joined-init
joined-init c = rw (c.in_ok-push.ensures.items, c.new-keys.ensures.items) (joined_start _ _ _ _ _ _ _ keys_separate c.key.ensures.reads)

pub joined-preserved : goal.joined-preserved
joined-preserved c =
    let taken = rw c.joined-test.true at c.accept.ensures in
    rw c.in_ok-push-2.ensures.items (joined_more _ _ _ _ _ _ _ _ _ _ keys_separate c.joined.invariant taken c.key-in-joined.ensures.reads)

pub returns : goal.returns
returns c =
    let done = rw c.joined-test.false at c.accept.ensures in
    joined_end _ _ _ _ _ _ _ _ keys_separate c.joined.invariant done
