use Rattle.std.proofs.Common.{arith}
use Rattle.ub_syntax.specs.Tree.{select_of}
use Rattle.ub_syntax.specs.declared.syntax.Item.{Item}
use Rattle.ub_parser.specs.Refusals.{IsUngrouped}
use Rattle.ub_parser.proofs.FirstFacts.{first_at, none_more, none_at_all, fails}
use Rattle.ub_parser.proofs.grouping.first_ungrouped.Goals as goal

pub returns-then-is_ungrouped : goal.returns-then-is_ungrouped
returns-then-is_ungrouped c =
    first_at (λ (item : Item). IsUngrouped c.args.source.now (select_of c.args.syntax.now) item) c.args.items.now c.loop-item.item-index _ (omega arith) c.loop-item.invariant
    (c.is_ungrouped.ensures.0 c.if-is_ungrouped.true)

pub loop-item-preserved : goal.loop-item-preserved
loop-item-preserved c =
    none_more (λ (item : Item). IsUngrouped c.args.source.now (select_of c.args.syntax.now) item) c.args.items.now c.loop-item.item-index _ (omega arith) c.loop-item.invariant
    (fails c.is_ungrouped.result _ c.is_ungrouped.ensures c.if-is_ungrouped.false)

pub returns : goal.returns
returns c =
    none_at_all (λ (item : Item). IsUngrouped c.args.source.now (select_of c.args.syntax.now) item) c.args.items.now c.loop-item.item-index (omega arith) c.loop-item.invariant
