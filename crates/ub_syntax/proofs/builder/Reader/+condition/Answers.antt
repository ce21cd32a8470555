use Rattle.std.proofs.Common.{◌<◌, arith}
use Rattle.ub_syntax.proofs.Chains.{chain_start, chain_more, chain_end}
use Rattle.ub_syntax.proofs.Operands.{and_separates, or_separates, negated_operand, nested_operand, compared_operand}
use Rattle.ub_syntax.proofs.builder.Reader.+condition.Goals as goal

pub condition-joined-init : goal.condition-joined-init
condition-joined-init t c =
    record { folds = chain_start _ _ _ _ _ _ _ _ or_separates c.in_ok-all.ensures.reads; shorter = c.conjunction.ensures.shorter }

pub conjunction-joined-init : goal.conjunction-joined-init
conjunction-joined-init t c = record { folds = chain_start _ _ _ _ _ _ _ _ and_separates c.in_ok-all.ensures.reads; shorter = c.operand.ensures.shorter }

pub condition-joined-preserved : goal.condition-joined-preserved
condition-joined-preserved t c =
    let inv = c.joined.invariant in
    let s1 = c.accept.ensures.shorter in
    let s2 = c.conjunction-in-joined.ensures.shorter in
    let taken = rw c.joined-test.true at c.accept.ensures in
    record {
      folds = rw (c.in_ok-new.ensures.ok, c.in_ok-new-2.ensures.ok) (chain_more _ _ _ _ _ _ _ _ _ _ _ or_separates inv.folds taken c.in_ok-next.ensures.reads);
      shorter = omega arith;
    }

pub conjunction-joined-preserved : goal.conjunction-joined-preserved
conjunction-joined-preserved t c =
    let inv = c.joined.invariant in
    let s1 = c.accept.ensures.shorter in
    let s2 = c.operand-in-joined.ensures.shorter in
    let taken = rw c.joined-test.true at c.accept.ensures in
    record {
      folds = rw (c.in_ok-new.ensures.ok, c.in_ok-new-2.ensures.ok) (chain_more _ _ _ _ _ _ _ _ _ _ _ and_separates inv.folds taken c.in_ok-next.ensures.reads);
      shorter = omega arith;
    }

pub condition-returns-clause-reads : goal.condition-returns-clause-reads
condition-returns-clause-reads t c =
    let done = rw c.joined-test.false at c.accept.ensures in
    chain_end _ _ _ _ _ _ _ _ _ or_separates c.joined.invariant.folds done

pub conjunction-returns-clause-reads : goal.conjunction-returns-clause-reads
conjunction-returns-clause-reads t c =
    let done = rw c.joined-test.false at c.accept.ensures in
    chain_end _ _ _ _ _ _ _ _ _ and_separates c.joined.invariant.folds done

pub operand-returns-then-accept-clause-reads : goal.operand-returns-then-accept-clause-reads
operand-returns-then-accept-clause-reads t c =
    let some : 0 < c.args.depth = omega arith in
    let taken = rw c.if-accept.true at c.accept.ensures in
    rw c.in_ok-new.ensures.ok (negated_operand _ _ _ _ _ some taken c.in_ok-negated.ensures.reads)

pub operand-returns-then-accept-2-clause-reads : goal.operand-returns-then-accept-2-clause-reads
operand-returns-then-accept-2-clause-reads t c =
    let some : 0 < c.args.depth = omega arith in
    let left = rw c.if-accept.false at c.accept.ensures in
    let taken = rw c.if-accept-2.true at c.accept-2.ensures in
    nested_operand _ _ _ _ _ _ _ _ some left taken c.in_ok-inner.ensures.reads c.advance.ensures

pub operand-returns-clause-reads : goal.operand-returns-clause-reads
operand-returns-clause-reads t c =
    let some : 0 < c.args.depth = omega arith in
    let left = rw c.if-accept.false at c.accept.ensures in
    let also = rw c.if-accept-2.false at c.accept-2.ensures in
    compared_operand _ _ _ _ _ _ some left also c.comparison-2.ensures.reads
