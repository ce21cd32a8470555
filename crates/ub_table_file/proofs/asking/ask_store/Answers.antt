use Rattle.std.proofs.Common.{inl, inr}
use Rattle.ub_table_file.proofs.AskFacts.{answered, unanswered}
use Rattle.ub_table_file.proofs.asking.ask_store.Goals as goal

pub returns-in-Ok-clause-files : goal.returns-in-Ok-clause-files
returns-in-Ok-clause-files g c = c.put_back.ensures.kept

pub returns-in-Ok-clause-ended : goal.returns-in-Ok-clause-ended
returns-in-Ok-clause-ended g c =
    inl (answered c.args.asked.command c.answer_of-left.result.1 (λ text. text.items) c.in-Ok.text (g.F.Store.PageStore.facts c.args.store)
    c.as_slice.result.now _ _ _ c.in-Ok.is c.answer_of-left.ensures.text c.as_slice.ensures.value c.tell.ensures)

pub returns-in-Ok-clause-crash : goal.returns-in-Ok-clause-crash
returns-in-Ok-clause-crash g c = c.put_back.ensures.crash

pub returns-in-Err-clause-files : goal.returns-in-Err-clause-files
returns-in-Err-clause-files g c = c.put_back.ensures.kept

pub returns-in-Err-clause-ended : goal.returns-in-Err-clause-ended
returns-in-Err-clause-ended g c =
    inr (unanswered c.args.asked.command c.answer_of-left.result.1 c.in-Err.fault (g.F.Store.PageStore.facts c.args.store)
    _ _ _ c.in-Err.is c.answer_of-left.ensures.refused c.tell_tree_fault.ensures)

pub returns-in-Err-clause-crash : goal.returns-in-Err-clause-crash
returns-in-Err-clause-crash g c = c.put_back.ensures.crash
