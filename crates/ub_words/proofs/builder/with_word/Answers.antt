use Rattle.ub_words.specs.CommandLine.{word_rule}
use Rattle.ub_words.proofs.builder.with_word.Goals as goal

pub returns : goal.returns
returns c = λ app is. c.with_arg.ensures app (word_rule c.args.id.now) is c.word_arg.ensures
