use Rattle.ub_shell.proofs.Laws.{only_queries_note}
use Rattle.ub_shell.proofs.law.only_queries_note.Goals as goal

pub returns : goal.returns
returns c = only_queries_note
