use Rattle.std.proofs.Common.{codes}
use Rattle.clap.specs.Words.{new_app}
use Rattle.ub_words.proofs.builder.load_command.Goals as goal

pub returns : goal.returns
returns c = c.with_data.ensures (new_app (codes "load")) c.new_command-command.ensures
