use Rattle.std.proofs.Common.{arith, ◌<◌, length, ◌∙◌}
use Rattle.std.proofs.lemmas.List.{length-set}
use Rattle.ub_answer.proofs.TallyFacts.{none-next}
use Rattle.ub_answer.proofs.tally.tally_of_none.Goals as goal

pub loop-place-preserved : goal.loop-place-preserved
loop-place-preserved c =
    let before = c.loop-place.invariant in
    let within : c.loop-place.place < length c.loop-place.tally = let a = before.long in let b = c.loop-place-test.true in let f = c.requires in omega arith in
    record {
      cells = none-next c.args.items.now c.loop-place.tally c.loop-place.place c.of_none.result _ c.loop-place-test.true within before.cells c.of_none.ensures;
      long = length-set c.loop-place.tally c.loop-place.place c.of_none.result ∙ before.long;
    }
