use Rattle.std.proofs.Common.{ℕ, List, length, subst, sym, inl, inr, refl, arith, ◌≡◌, ◌++◌}
use Rattle.ub_lexer.specs.Ranges.{range_if}
use Rattle.ub_lexer.specs.Statements.{AreStatements}
use Rattle.ub_lexer.proofs.Ranges.{IsGap, gap_after, gap_more, semicolon_here, no_semicolon_here, statements_more, statements_all, same_statements}
use Rattle.ub_lexer.proofs.statement.statements.Goals as goal
use Rattle.ub_lexer.proofs.statement.statements.Goals.{then-is_semicolon+in_ok-push_range, else-is_semicolon, In_ok-push_range-2}

pub loop-i-preserved : goal.loop-i-preserved
loop-i-preserved c =
    let tokens = c.args.tokens.now in
    let i = c.loop-i.i in
    elim c.if-is_semicolon.branch [
      | then-is_semicolon+in_ok-push_range w ↦
          let semicolon = semicolon_here tokens i _ c.is_semicolon.result c.loop-i-test.true c.is_semicolon.ensures w.if-is_semicolon.true in
          rw (w.from-is, w.ranges-is, w.in_ok-push_range.ensures) (record {
            gap = gap_after tokens i c.loop-i-test.true semicolon;
            before = statements_more tokens c.loop-i.from i c.loop-i.ranges.items c.loop-i.invariant.before c.loop-i.invariant.gap (inr semicolon);
          })
      | else-is_semicolon w ↦
          let other = no_semicolon_here tokens i _ c.is_semicolon.result c.loop-i-test.true c.is_semicolon.ensures w.if-is_semicolon.false in
          rw (w.from-is, w.ranges-is) (record {
            gap = gap_more tokens c.loop-i.from i c.loop-i.invariant.gap c.loop-i-test.true other;
            before = c.loop-i.invariant.before;
          })
    ]

-- the ranges that are returned are the statements
are : (c : In_ok-push_range-2) → AreStatements c.args.tokens.now c.push_range-2.new.ranges.items
are c =
    let tokens = c.args.tokens.now in
    let from = c.loop-i.from in
    let old = c.loop-i.ranges.items in
    let before = c.loop-i.invariant.before in
    let so_far = c.loop-i.invariant.gap in
    let past = c.loop-i-test.false in
    let end : c.loop-i.i ≡ length tokens = omega (arith, so_far.within) in
    let gap = subst (IsGap tokens from) end so_far in
    subst (λ (ranges : List (ℕ × ℕ)). AreStatements tokens ranges) (sym c.in_ok-push_range-2.ensures)
    (statements_all tokens (old ++ range_if from (length tokens)) (statements_more tokens from (length tokens) old before gap (inl refl)))

pub returns-clause-statements : goal.returns-clause-statements
returns-clause-statements c = are c

pub returns-clause-only : goal.returns-clause-only
returns-clause-only c ranges h = same_statements c.args.tokens.now c.push_range-2.new.ranges.items ranges (are c) h
