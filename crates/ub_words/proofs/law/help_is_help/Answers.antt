use Rattle.ub_words.proofs.Laws.{help_is_help}
use Rattle.ub_words.proofs.law.help_is_help.Goals as goal

pub returns : goal.returns
returns c = help_is_help
