use Rattle.ub_journal_page.proofs.LawFacts.{change_others}
use Rattle.ub_journal_page.proofs.law.journals_change_others.Goals as goal

pub returns : goal.returns
returns c = change_others
