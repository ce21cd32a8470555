use Rattle.std.proofs.Common.{codes}
use Rattle.clap.specs.Words.{new_app}
use Rattle.ub_words.proofs.builder.try_command.Goals as goal

pub returns : goal.returns
returns c = c.with_data.ensures (new_app (codes "try")) c.new_command-command.ensures
