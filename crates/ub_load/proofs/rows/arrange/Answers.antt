use Rattle.csv.specs.Records.{fields_of}
use Rattle.ub_load.proofs.PlacedFacts.{arranged_step}
use Rattle.ub_load.proofs.rows.arrange.Goals as goal

pub loop-place-preserved : goal.loop-place-preserved
loop-place-preserved c = record {
  fields = arranged_step c.args.places.now (fields_of c.args.fields.now) c.loop-place.place-index _ _ _ _ _ c.loop-place-test.true c.loop-place.invariant.fields c.loop-place.invariant.whole
      c.in_ok-push_field.ensures.fields c.field_at.ensures;
  whole = c.in_ok-push_field.ensures.partial;
}
