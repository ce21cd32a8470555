-- One item more, and all of them.
use Rattle.std.proofs.Common.{length}
use Rattle.std.proofs.lemmas.Result.{IfOk-from_err}
use Rattle.ub_query.specs.Posed.{IsItemOver}
use Rattle.ub_query.specs.declared.query.Item.{Item as Meant}
use Rattle.ub_syntax.specs.declared.syntax.Item.{Item}
use Rattle.ub_parser.specs.Sense.{item_of}
use Rattle.ub_parser.proofs.ListedFacts.{one_more, all_given}
use Rattle.ub_parser.proofs.sense.listed.Goals as goal

pub item-requires : goal.item-requires
item-requires c = c.requires c.loop-item.item-index _ c.loop-item-test.true

pub returns-in_err-push-clause-items : goal.returns-in_err-push-clause-items
returns-in_err-push-clause-items c = IfOk-from_err c.from_residual.result _ c.from_residual.ensures.0

pub returns-in_err-push-clause-over : goal.returns-in_err-push-clause-over
returns-in_err-push-clause-over c = IfOk-from_err c.from_residual.result _ c.from_residual.ensures.0

pub loop-item-preserved : goal.loop-item-preserved
loop-item-preserved c =
    one_more (λ (item : Item). item_of c.args.source.now c.args.schema.now item) c.args.spelled.now c.loop-item.item-index
    (λ (item : Meant). IsItemOver (length c.args.schema.now.columns) item) c.loop-item.items.items c.push.new.self.items c.item.result _ c.loop-item-test.true c.loop-item.invariant
    c.in_ok-push.ensures.items c.item.ensures.item c.item.ensures.over

pub returns-clause-items : goal.returns-clause-items
returns-clause-items c =
    all_given (λ (item : Item). item_of c.args.source.now c.args.schema.now item) c.args.spelled.now c.loop-item.item-index c.loop-item.items.items c.loop-item-test.false
    c.loop-item.invariant.0

pub returns-clause-over : goal.returns-clause-over
returns-clause-over c = c.loop-item.invariant.1
