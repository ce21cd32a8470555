use Rattle.ub_table_file.proofs.PartingFacts.{noted}
use Rattle.ub_table_file.proofs.parting.note.Goals as goal

pub returns : goal.returns
returns g c = noted c.put_all.result c.args.bytes.now (g.N.Out.facts c.args.notes.now) (g.N.Out.facts c.put_all.new.out) c.put_all.ensures.whole c.put_all.ensures.front
