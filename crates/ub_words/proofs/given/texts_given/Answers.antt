use Rattle.ub_words.proofs.GivenFacts.{texts_read}
use Rattle.ub_words.proofs.given.texts_given.Goals as goal

pub returns : goal.returns
returns c = texts_read (λ text. text.now) _ _ _ _ _ c.zip.ensures c.text_given.ensures c.text_given-2.ensures
