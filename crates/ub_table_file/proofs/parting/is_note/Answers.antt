use Rattle.ub_table_file.proofs.PartingFacts.{is_first, is_second}
use Rattle.ub_table_file.proofs.parting.is_note.Goals as goal

pub returns-then-starts_with : goal.returns-then-starts_with
returns-then-starts_with c = is_first c.args.line.now c.starts_with.result c.starts_with.ensures.value c.if-starts_with.true

pub returns-else-starts_with : goal.returns-else-starts_with
returns-else-starts_with c =
    is_second c.args.line.now c.starts_with.result c.starts_with-else-starts_with.result c.starts_with.ensures.value c.if-starts_with.false c.starts_with-else-starts_with.ensures.value
