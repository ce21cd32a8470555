use Rattle.clap.specs.Words.{new_app}
use Rattle.ub_words.proofs.builder.table_command.Goals as goal

pub returns : goal.returns
returns c = c.with_word.ensures (new_app c.args.name.now) c.new_command-command.ensures
