use Rattle.clap.specs.Words.{found_of, rows_of}
use Rattle.ub_words.proofs.GivenFacts.{at_none, at_some, data_read}
use Rattle.ub_words.proofs.given.data_words.Goals as goal

pub returns-in-Some : goal.returns-in-Some
returns-in-Some c = at_some _ _ _ _ c.in-Some.ensures
    (data_read (λ text. text.now) (rows_of (found_of c.args.matches.now)) c.texts_given-texts.result c.number_given-dims.result c.number_given-page_rows.result c.number_given-signed.result _ _
    c.zip.ensures c.zip-2.ensures c.texts_given-texts.ensures c.number_given-dims.ensures c.number_given-page_rows.ensures c.number_given-signed.ensures)

pub returns-in-None : goal.returns-in-None
returns-in-None c = at_none _ _ _ c.in-None.ensures
    (data_read (λ text. text.now) (rows_of (found_of c.args.matches.now)) c.texts_given-texts.result c.number_given-dims.result c.number_given-page_rows.result c.number_given-signed.result _ _
    c.zip.ensures c.zip-2.ensures c.texts_given-texts.ensures c.number_given-dims.ensures c.number_given-page_rows.ensures c.number_given-signed.ensures)
