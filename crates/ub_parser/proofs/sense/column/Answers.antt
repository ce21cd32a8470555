-- The token's text is one of the columns' names, and so its place is found.
use Rattle.ub_lexer.specs.Tokens.{text_of}
use Rattle.ub_parser.proofs.PlaceFacts.{is_found, place_is, searched_same}
use Rattle.ub_parser.proofs.sense.column.Goals as goal

pub unwrap-requires : goal.unwrap-requires
unwrap-requires c =
    is_found (text_of c.args.source.now c.args.token.now) c.args.schema.now.columns c.place.result
    (searched_same _ _ _ _ c.place.result c.place.ensures c.text.ensures c.columns.ensures.columns) c.requires.1

pub returns-clause-column : goal.returns-clause-column
returns-clause-column c =
    (place_is (text_of c.args.source.now c.args.token.now) c.args.schema.now.columns c.place.result c.unwrap.result
    (searched_same _ _ _ _ c.place.result c.place.ensures c.text.ensures c.columns.ensures.columns) c.unwrap.ensures).0

pub returns-clause-over : goal.returns-clause-over
returns-clause-over c =
    (place_is (text_of c.args.source.now c.args.token.now) c.args.schema.now.columns c.place.result c.unwrap.result
    (searched_same _ _ _ _ c.place.result c.place.ensures c.text.ensures c.columns.ensures.columns) c.unwrap.ensures).1
