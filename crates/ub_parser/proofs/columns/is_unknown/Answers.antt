-- A name is unknown where its place is not found.
use Rattle.ub_lexer.specs.Tokens.{text_of}
use Rattle.ub_parser.proofs.PlaceFacts.{missing_iff, searched_same}
use Rattle.ub_parser.proofs.columns.is_unknown.Goals as goal

pub returns : goal.returns
returns c =
    missing_iff (text_of c.args.source.now c.args.name.now) c.args.schema.now.columns c.place.result c.is_none.result
    (searched_same _ _ _ _ c.place.result c.place.ensures c.text.ensures c.columns.ensures.columns) c.is_none.ensures
