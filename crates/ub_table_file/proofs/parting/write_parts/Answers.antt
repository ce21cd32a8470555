use Rattle.std.proofs.Common.{inl, inr, refl}
use Rattle.ub_table_file.proofs.parting.write_parts.Goals as goal

pub returns-in-Ok : goal.returns-in-Ok
returns-in-Ok g c = inl (refl, c.in-Ok.ensures.whole, c.note_lines.ensures)

pub returns-in-Err : goal.returns-in-Err
returns-in-Err g c = inr (refl, c.in-Err.ensures.front, refl)
