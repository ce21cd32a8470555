use Rattle.std.proofs.Common.{subst, sym}
use Rattle.ub_tetris.proofs.EventFacts.{queued_more}
use Rattle.ub_tetris.specs.Awaited.{IsFirstValue}
use Rattle.ub_tetris.specs.inner.Events.{Ahead}
use Rattle.ub_tetris.proofs.awaiting.AwaitingStretchSink.push.Goals as goal

pub returns : goal.returns
returns c start taken has =
    queued_more c.args.boxes.now start c.args.self.now c.put.new.self taken c.new.result c.args.part.now has c.in_ok-put.ensures.course c.in_ok-put.ensures.ok
    (subst (λ (v : Ahead). IsFirstValue c.args.boxes.now v.dim v.is_descending c.args.part.now.span c.new.result.value) (sym c.course-course.ensures) c.new.ensures.value) c.new.ensures.stretch
