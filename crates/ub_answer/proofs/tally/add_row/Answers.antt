use Rattle.std.proofs.Common.{arith, ◌<◌, length, ◌∙◌}
use Rattle.std.proofs.lemmas.List.{length-set}
use Rattle.ub_answer.proofs.TallyFacts.{cells-next, rest-next, items-next}
use Rattle.ub_answer.specs.inner.Tally.{with_row, IsNarrow}
use Rattle.ub_query.specs.declared.query.Item.{Item}
use Rattle.ub_answer.proofs.tally.add_row.Goals as goal

pub loop-place-preserved : goal.loop-place-preserved
loop-place-preserved c =
    let before = c.loop-place.invariant in
    let schema = c.args.schema.now in
    let row = c.args.row.now in
    let items = c.args.items.now in
    let first = c.args.tally.now in
    let cells = c.loop-place.tally in
    let place = c.loop-place.place in
    let below = c.loop-place-test.true in
    let within : place < length cells = let long = before.long in let few = c.requires.few in omega arith in
    record {
      done = cells-next (with_row schema row) items first cells place c.with_row.result _ _ below within before.done before.rest c.with_row.ensures.cell;
      rest = rest-next first cells place c.with_row.result within before.rest;
      long = length-set cells place c.with_row.result ∙ before.long;
      narrow = items-next (λ (item : Item). IsNarrow schema row item) items place _ below before.narrow c.with_row.ensures.narrow;
    }
