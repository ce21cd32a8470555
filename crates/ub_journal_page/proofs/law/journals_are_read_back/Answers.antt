use Rattle.ub_journal_page.proofs.LawFacts.{read_back}
use Rattle.ub_journal_page.proofs.law.journals_are_read_back.Goals as goal

pub returns : goal.returns
returns c = read_back
