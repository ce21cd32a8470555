use Rattle.std.proofs.Common.{◌∙◌, sym, refl}
use Rattle.std.proofs.lemmas.Option.{slice_get_read}
use Rattle.ub_table.proofs.DistinctFacts.{found, distinct_more}
use Rattle.ub_table.proofs.schema.are_distinct.Goals as goal

pub returns-then-contains : goal.returns-then-contains
returns-then-contains c =
    let here = slice_get_read c.args.columns.now _ c.loop-i.i c.index-columns-i.result refl c.loop-i-test.true c.index-columns-i.is in
    let twin = found c.args.columns.now c.loop-i.i c.index-columns-i.result (sym c.contains.ensures.value ∙ c.if-contains.true) in
    (λ is. absurd (cc), λ apart. absurd (apart twin.0 c.loop-i.i twin.1 c.loop-i-test.true (twin.2 ∙ sym here)))

pub loop-i-preserved : goal.loop-i-preserved
loop-i-preserved c =
    let here = slice_get_read c.args.columns.now _ c.loop-i.i c.index-columns-i.result refl c.loop-i-test.true c.index-columns-i.is in
    distinct_more c.args.columns.now c.loop-i.i c.index-columns-i.result c.loop-i.invariant here (sym c.contains.ensures.value ∙ c.if-contains.false)
