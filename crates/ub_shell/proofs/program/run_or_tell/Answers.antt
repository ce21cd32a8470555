use Rattle.std.proofs.Common.{refl}
use Rattle.ub_table_file.proofs.Laws.{runs_none}
use Rattle.ub_shell.proofs.program.run_or_tell.Goals as goal

pub returns-in-Ok-clause-ends : goal.returns-in-Ok-clause-ends
returns-in-Ok-clause-ends g c = rw c.in-Ok.is (rw c.as_slice.ensures.value at c.command_apart.ensures.ends)

pub returns-in-Ok-clause-short : goal.returns-in-Ok-clause-short
returns-in-Ok-clause-short g c = rw c.in-Ok.is (rw c.as_slice.ensures.value at c.command_apart.ensures.short)

pub returns-in-Err-clause-ends : goal.returns-in-Err-clause-ends
returns-in-Err-clause-ends g c = rw c.in-Err.is (
  c.tell_no_words.result,
  c.code.ensures,
  record { told = (c.tell_no_words.ensures, refl, refl); crash = runs_none (g.F.Files.facts c.args.files.now) _ },
)

pub returns-in-Err-clause-short : goal.returns-in-Err-clause-short
returns-in-Err-clause-short g c = rw c.in-Err.is tt
