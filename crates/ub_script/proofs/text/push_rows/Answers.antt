use Rattle.std.proofs.Common.{◌<◌, [], arith, length}
use Rattle.std.proofs.lemmas.Option.{slice_get-get_or}
use Rattle.ub_script.proofs.LineFacts.{rows_next}
use Rattle.ub_script.proofs.text.push_rows.Goals as goal

pub loop-index-preserved : goal.loop-index-preserved
loop-index-preserved c =
    let below : c.loop-index.index < length c.args.rows.now = omega (arith, c.loop-index-test.true, c.len-index-end.ensures) in
    rows_next _ _ _ c.args.rows.now c.loop-index.index _ c.loop-index.invariant (slice_get-get_or c.args.rows.now c.loop-index.index [] below) c.in_ok-push_row.ensures
