use Rattle.std.proofs.Common.{Option, ap}
use Rattle.std.specs.Option.{option_map}
use Rattle.ub_lexer.specs.declared.token.Token.{Token}
use Rattle.ub_syntax.specs.Tree.{shape}
use Rattle.ub_syntax.specs.declared.syntax.Condition.{Condition}
use Rattle.ub_parser.specs.Known.{IsUnknown}
use Rattle.ub_syntax.specs.Limits.{comparisons}
use Rattle.ub_parser.proofs.FirstFacts.{first_same}
use Rattle.ub_parser.proofs.columns.unknown_in_filter.Goals as goal

pub returns-in-Some : goal.returns-in-Some
returns-in-Some c =
    first_same (λ (name : Token). IsUnknown c.args.source.now c.args.schema.now name) (comparisons (option_map shape c.args.filter.now)) _ c.unknown_in_condition.result
    (ap (λ (filter : Option Condition). comparisons (option_map shape filter)) c.in-Some.is) c.unknown_in_condition.ensures
