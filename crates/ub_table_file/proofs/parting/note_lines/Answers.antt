use Rattle.std.proofs.Common.{true}
use Rattle.ub_table_file.proofs.PartingFacts.{noted, part}
use Rattle.ub_table_file.proofs.parting.note_lines.Goals as goal

pub returns : goal.returns
returns g c = noted c.put_lines.result (part true c.args.text.now) (g.N.Out.facts c.args.notes.now) (g.N.Out.facts c.put_lines.new.out) c.put_lines.ensures.whole c.put_lines.ensures.front
