use Rattle.std.proofs.Common.{◌∙◌, [], replicate, arith}
use Rattle.std.proofs.lemmas.List.{length-set}
use Rattle.ub_region.proofs.PlacesFacts.{blank_behind, blank_more}
use Rattle.ub_region.proofs.columns.blank_from.Goals as goal

pub loop-column-preserved : goal.loop-column-preserved
loop-column-preserved g c =
    let long = c.loop-column.invariant.long in
    record {
      long = length-set c.loop-column.columns c.loop-column.column _ ∙ long;
      blanks = blank_more c.args.from c.loop-column.column (replicate 64 c.args.blank) [] c.loop-column.columns (let test = c.loop-column-test.true in omega arith) c.loop-column.invariant.blanks;
    }

pub returns-clause-blank : goal.returns-clause-blank
returns-clause-blank g c =
    blank_behind 4 c.args.from (replicate 64 c.args.blank) [] c.loop-column.columns c.loop-column.invariant.long c.requires
    (λ j behind less. c.loop-column.invariant.blanks j behind (let test = c.loop-column-test.false in omega arith))
