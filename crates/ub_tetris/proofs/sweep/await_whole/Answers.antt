use Rattle.ub_tetris.proofs.EventFacts.{whole_none, whole_put}
use Rattle.ub_tetris.proofs.sweep.await_whole.Goals as goal

pub returns-in_default : goal.returns-in_default
returns-in_default c = whole_none c.args.boxes.now c.args.course c.args.whole c.first_value.result c.new-ahead.result c.new-ahead.ensures c.in_default.is c.first_value.ensures

pub returns : goal.returns
returns c =
    whole_put c.args.boxes.now c.args.course c.args.whole c.first_value.result c.in-Some.value c.new-ahead.result c.put.new.self c.new-ahead.ensures c.in-Some.is c.first_value.ensures
    c.in_ok-put.ensures.course c.in_ok-put.ensures.ok
