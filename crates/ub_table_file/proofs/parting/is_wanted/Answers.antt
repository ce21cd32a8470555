use Rattle.ub_table_file.proofs.PartingFacts.{is_wanted_by}
use Rattle.ub_table_file.proofs.parting.is_wanted.Goals as goal

pub returns : goal.returns
returns c = is_wanted_by c.args.line.now c.is_note.result c.args.are_notes c.is_note.ensures
