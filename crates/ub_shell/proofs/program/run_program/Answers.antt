use Rattle.std.proofs.Common.{sym}
use Rattle.ub_shell.proofs.program.run_program.Goals as goal

pub returns-clause-ends : goal.returns-clause-ends
returns-clause-ends g c =
    let ran = c.run_or_tell-code.ensures.ends in (
      ran.0,
      c.run_or_tell-code.new.out.failed,
      c.run_or_tell-code.new.notes.failed,
      ran.1,
      rw (c.new-out.ensures, c.new-noted.ensures, sym c.into_inner.ensures, sym c.into_inner-2.ensures) at ran.2,
    )

pub returns-clause-short : goal.returns-clause-short
returns-clause-short g c =
    (c.run_or_tell-code.new.out.failed, rw (c.new-out.ensures, sym c.into_inner.ensures) at c.run_or_tell-code.ensures.short)
