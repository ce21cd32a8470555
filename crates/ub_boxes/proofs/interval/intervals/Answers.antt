use Rattle.std.proofs.Common.{◌∙◌, refl, arith, rules}
use Rattle.std.proofs.lemmas.List.{drop_all}
use Rattle.std.proofs.lemmas.Grind.{common_steps}
use Rattle.ub_boxes.proofs.GridFacts.{is_some_cut}
use Rattle.ub_boxes.proofs.interval.intervals.Goals as goal

pub loop-cut-preserved : goal.loop-cut-preserved
loop-cut-preserved c = grind (arith, common_steps)

pub loop-cut-init : goal.loop-cut-init
loop-cut-init c = record { built = rw c.new-intervals.ensures.items refl; ahead = c.requires }

pub overflow_sub-high : goal.overflow_sub-high
overflow_sub-high c = is_some_cut c.loop-cut.low c.args.cuts.now c.loop-cut.cut-index c.loop-cut-test.true c.loop-cut.invariant.ahead

pub offset_bounds-cuts-cut-index : goal.offset_bounds-cuts-cut-index
offset_bounds-cuts-cut-index c = search rules

pub returns : goal.returns
returns c =
    c.in_ok-push-2.ensures.items
    ∙ (rw (drop_all c.loop-cut.cut-index c.args.cuts.now c.loop-cut-test.false) at c.loop-cut.invariant.built)
