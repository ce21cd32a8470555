use Rattle.std.proofs.Common.{length, refl}
use Rattle.std.proofs.lemmas.Option.{slice_get_read}
use Rattle.ub_plan.proofs.LineFacts.{lines_next}
use Rattle.ub_plan.specs.Explained.{box_text, line}
use Rattle.ub_plan.proofs.lines.push_boxes.Goals as goal

pub loop-space-preserved : goal.loop-space-preserved
loop-space-preserved c =
    lines_next (λ b. line (box_text c.args.schema.now b)) _ _ _ c.args.boxes.now c.loop-space.space-index _ c.loop-space.invariant
    (slice_get_read c.args.boxes.now (length c.args.boxes.now) c.loop-space.space-index _ refl c.loop-space-test.true c.space-item.is) c.in_ok-push_box.ensures
