use Rattle.std.proofs.Common.{◌∙◌, arith}
use Rattle.ub_script.proofs.AppendFacts.{numbered_more, numbered_whole}
use Rattle.ub_script.proofs.appending.numbered.Goals as goal

pub loop-row-init : goal.loop-row-init
loop-row-init c = record { number = omega arith; items = c.in_ok-numbered.ensures.items }

pub overflow_add-number : goal.overflow_add-number
overflow_add-number c = omega (arith, c.loop-row.invariant.number, c.loop-row-test.true, c.requires)

pub loop-row-preserved : goal.loop-row-preserved
loop-row-preserved c =
    let number = c.loop-row.invariant.number in
    record {
      number = omega arith;
      items = c.in_ok-push.ensures.items
          ∙ numbered_more c.args.first c.loop-row.number c.args.rows.now c.loop-row.numbered.items c.loop-row.row-index _ c.loop-row-test.true number c.loop-row.invariant.items;
    }

pub returns : goal.returns
returns c = numbered_whole c.args.first c.args.rows.now c.loop-row.numbered.items c.loop-row.row-index c.loop-row-test.false c.loop-row.invariant.items
