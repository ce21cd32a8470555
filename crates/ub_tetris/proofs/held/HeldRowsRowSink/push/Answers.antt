use Rattle.ub_tetris.proofs.HeldFacts.{HoldsAlso-more, swept_over}
use Rattle.ub_query.specs.Lead.{swept_order}
use Rattle.ub_tetris.proofs.held.HeldRowsRowSink.push.Goals as goal

pub hold-requires : goal.hold-requires
hold-requires c =
    swept_over _ c.args.query.now.group c.args.query.now.order c.keys_by.result.now c.requires.group c.requires.order c.keys_by.ensures

pub returns : goal.returns
returns c before taken so_far =
    HoldsAlso-more c.hold.result c.args.schema.now (swept_order c.args.query.now.group c.args.query.now.order) c.keys_by.result.now taken c.args.row.now before c.args.self.now
    c.hold.new.self c.keys_by.ensures so_far c.hold.ensures.ok
