use Rattle.std.proofs.Common.{codes}
use Rattle.clap.specs.Words.{new_app}
use Rattle.ub_words.proofs.builder.run_command.Goals as goal

pub returns : goal.returns
returns c = c.with_word.ensures _ (c.with_word-command.ensures (new_app (codes "run")) c.with_usage-command.ensures)
