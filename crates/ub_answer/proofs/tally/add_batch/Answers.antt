use Rattle.std.proofs.Common.{arith, ◌≡◌, ◌<◌, ◌∙◌, [], List, length, ap}
use Rattle.std.proofs.lemmas.List.{length-set}
use Rattle.ub_answer.proofs.TallyFacts.{cells-next, rest-next, items-next}
use Rattle.ub_answer.specs.inner.Tally.{with_part, all_of, IsSmallOf}
use Rattle.ub_query.specs.Cells.{group_cell}
use Rattle.ub_query.specs.declared.cell.Cell.{Cell}
use Rattle.ub_query.specs.declared.query.Item.{Item}
use Rattle.ub_table.specs.declared.row.Row.{Row}
use Rattle.ub_answer.proofs.tally.add_batch.Goals as goal

-- the cell, by what the item shows of the rows
by_part : (x part shown : Cell) (item : Item) (cell : Cell) → x ≡ with_part part item cell → part ≡ shown → x ≡ with_part shown item cell
by_part x part shown item cell is same = is ∙ ap (λ (p : Cell). with_part p item cell) same

pub loop-place-preserved : goal.loop-place-preserved
loop-place-preserved g c =
    let before = c.loop-place.invariant in
    let schema = c.args.schema.now in
    let items = c.args.items.now in
    let rows : List Row = g.B.RowBatch.rows c.args.batch.now in
    let first = c.args.tally.now in
    let cells = c.loop-place.tally in
    let place = c.loop-place.place in
    let below = c.loop-place-test.true in
    let changed : Item → Cell → Cell = λ item cell. with_part (group_cell schema [] (all_of rows) item) item cell in
    let within : place < length cells = let long = before.long in let few = c.requires.few in omega arith in
    record {
      done = cells-next changed items first cells place c.with_part.result _ _ below within before.done before.rest
          (by_part _ _ _ _ _ c.with_part.ensures c.part_of-part.ensures.cell);
      rest = rest-next first cells place c.with_part.result within before.rest;
      long = length-set cells place c.with_part.result ∙ before.long;
      small = items-next (λ (item : Item). IsSmallOf schema rows item) items place _ below before.small c.part_of-part.ensures.small;
    }
