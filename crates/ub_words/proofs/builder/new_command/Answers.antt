use Rattle.clap.specs.Words.{new_app}
use Rattle.ub_words.proofs.AddFacts.{boxed_is}
use Rattle.ub_words.proofs.builder.new_command.Goals as goal

pub returns : goal.returns
returns c = boxed_is c.boxed.result c.named.result (new_app c.args.name.now) c.boxed.ensures c.named.ensures
