use Rattle.std.proofs.Common.{◌+◌, ◌∙◌, ℕ, ap, arith, length, sym}
use Rattle.ub_laying.proofs.BegunFacts.{rows_next, rows_within}
use Rattle.ub_laying.proofs.begun.count_rows.Goals as goal

pub overflow_cast-count : goal.overflow_cast-count
overflow_cast-count c =
    let less = rows_within c.args.grown.now c.loop-i.i c.rows.result.now c.rows.ensures in
    let small = c.requires in
    omega arith

pub overflow_add-count : goal.overflow_add-count
overflow_add-count c =
    let less = rows_within c.args.grown.now c.loop-i.i c.rows.result.now c.rows.ensures in
    let small = c.requires in
    let is = c.loop-i.invariant in
    omega arith

pub loop-i-preserved : goal.loop-i-preserved
loop-i-preserved c =
    ap (λ (n : ℕ). n + length c.rows.result.now) c.loop-i.invariant ∙ sym (rows_next c.args.grown.now c.loop-i.i c.rows.result.now c.rows.ensures)
