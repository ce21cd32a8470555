use Rattle.ub_shell.proofs.program.tell_no_words.Goals as goal

pub returns-in-NotText : goal.returns-in-NotText
returns-in-NotText g c = rw c.in-NotText.is c.tell.ensures
