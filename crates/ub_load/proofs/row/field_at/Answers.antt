use Rattle.csv.specs.Records.{fields_of}
use Rattle.ub_load.proofs.RowFacts.{got, got_is}
use Rattle.ub_load.proofs.row.field_at.Goals as goal

pub unwrap-requires : goal.unwrap-requires
unwrap-requires c = got (fields_of c.args.fields.now) c.args.place c.get.result c.requires c.get.ensures.value

pub returns : goal.returns
returns c = got_is (fields_of c.args.fields.now) c.args.place c.get.result c.unwrap.result c.unwrap.ensures c.get.ensures.value
