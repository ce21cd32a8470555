use Rattle.ub_index.proofs.LeadFacts.{blank_is_none}
use Rattle.ub_index.proofs.law.zeros_are_no_index_page.Goals as goal

pub returns : goal.returns
returns c = blank_is_none
