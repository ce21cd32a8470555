use Rattle.std.proofs.Common.{List, refl, subst, sym}
use Rattle.ub_bigmin.specs.Box.{Corners}
use Rattle.ub_tetris.proofs.BeginFacts.{begun_by, failed_begins, met_by, never_failed, nothing_awaited, nothing_started, short_begins, started_by}
use Rattle.ub_tetris.proofs.BoxFacts.{have_dimension}
use Rattle.ub_tetris.proofs.TurnFacts.{refused_none}
use Rattle.ub_tetris.specs.Awaited.{HaveDimension}
use Rattle.ub_tetris.proofs.sweep.Sweep.new.Goals as goal

pub returns-then-has_failed : goal.returns-then-has_failed
returns-then-has_failed g c = record {
  begun = λ dim is_descending swept. tt;
  started = tt;
  met = λ dim is_descending of. tt;
  other = λ no_sweep. tt;
  failed = λ failed. refl;
  effect = failed_begins c.args.tree.now c.begin.new.self c.has_failed.result c.begin.ensures c.has_failed.ensures c.if-has_failed.true;
}

pub returns-in_default : goal.returns-in_default
returns-in_default g c = record {
  begun = λ dim is_descending swept. absurd (c.in_default.not-Some (record { dim = dim; is_descending = is_descending })
      (c.course_of.ensures.some (record { dim = dim; is_descending = is_descending }) (swept.kind, have_dimension c.args.tree.now.schema c.args.plan.now dim is_descending swept.planned swept.kind)));
  started = nothing_started c.begin.new.self _ c.new-ahead.result c.over.result c.new-ahead.ensures c.over.ensures;
  met = λ dim is_descending of. absurd (c.in_default.not-Some (record { dim = dim; is_descending = is_descending })
      (c.course_of.ensures.some (record { dim = dim; is_descending = is_descending }) (of.1, have_dimension c.args.tree.now.schema c.args.plan.now dim is_descending of.0 of.1)));
  other = λ no_sweep. nothing_awaited c.begin.new.self _ c.new-ahead.result c.over.result c.new-ahead.ensures c.over.ensures;
  failed = λ failed. never_failed c.args.tree.now c.begin.new.self c.has_failed.result c.begin.ensures c.has_failed.ensures c.if-has_failed.false failed;
  effect = record { same = c.begin.ensures; faults = tt };
}

pub returns-in_err-ahead : goal.returns-in_err-ahead
returns-in_err-ahead g c = record {
  begun = λ dim is_descending swept. refused_none _ c.from_residual.result _ c.from_residual.ensures.1;
  started = refused_none _ c.from_residual.result _ c.from_residual.ensures.1;
  met = λ dim is_descending of. refused_none _ c.from_residual.result _ c.from_residual.ensures.1;
  other = λ no_sweep. refused_none _ c.from_residual.result _ c.from_residual.ensures.1;
  failed = λ failed. never_failed c.args.tree.now c.begin.new.self c.has_failed.result c.begin.ensures c.has_failed.ensures c.if-has_failed.false failed;
  effect = short_begins c.from_residual.result c.args.tree.now c.begin.new.self c.from_residual.ensures.1 c.begin.ensures;
}

pub returns : goal.returns
returns g c = record {
  begun = λ dim is_descending swept. begun_by c.args.tree.now c.begin.new.self c.args.plan.now c.in-Some.course c.whole.result c.in_ok-ahead.ahead c.over-2.result c.course_of.result c.boxes.result.now
      c.begin.ensures c.whole.ensures c.in_ok-ahead.ensures c.over-2.ensures c.in-Some.is c.course_of.ensures.some c.boxes.ensures.boxes dim is_descending swept;
  started = started_by c.args.tree.now c.begin.new.self c.args.plan.now c.in-Some.course c.whole.result c.in_ok-ahead.ahead c.over-2.result c.course_of.result c.boxes.result.now
      c.begin.ensures c.whole.ensures c.in_ok-ahead.ensures c.over-2.ensures;
  met = λ dim is_descending of. met_by c.args.tree.now c.begin.new.self c.args.plan.now c.in-Some.course c.whole.result c.in_ok-ahead.ahead c.over-2.result c.course_of.result c.boxes.result.now
      c.begin.ensures c.whole.ensures c.in_ok-ahead.ensures c.over-2.ensures c.in-Some.is c.course_of.ensures.some c.boxes.ensures.boxes dim is_descending of;
  other = λ no_sweep. absurd (no_sweep c.in-Some.course.dim c.in-Some.course.is_descending (rw c.in-Some.is at c.course_of.ensures.is).0);
  failed = λ failed. never_failed c.args.tree.now c.begin.new.self c.has_failed.result c.begin.ensures c.has_failed.ensures c.if-has_failed.false failed;
  effect = record { same = c.begin.ensures; faults = tt };
}

pub await_whole-requires : goal.await_whole-requires
await_whole-requires g c =
    subst (λ (boxes : List Corners). HaveDimension c.in-Some.course.dim boxes) (sym c.boxes.ensures.boxes) (rw c.in-Some.is at c.course_of.ensures.is).1
