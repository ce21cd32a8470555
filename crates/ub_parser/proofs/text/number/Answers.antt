-- The bytes of digits are ASCII, and so they are text.
use Rattle.std.proofs.Common.{◌≡◌, ◌∙◌}
use Rattle.std.specs.Str.Parse.{ParsesUnsigned}
use Rattle.std.proofs.lemmas.Fmt.{IsAscii-from_digits}
use Rattle.std.proofs.lemmas.Str.{IsUtf8-from_ascii}
use Rattle.ub_lexer.specs.Tokens.{text_of}
use Rattle.ub_parser.proofs.NumberFacts.{all_digits, number_is}
use Rattle.ub_parser.proofs.text.number.Goals as goal

pub returns-in_default : goal.returns-in_default
returns-in_default c le =
    let digits = all_digits (text_of c.args.source.now c.args.token.now) c.requires.1.1 in
    c.in_default.ensures.cases.0 (rw c.text.ensures (IsUtf8-from_ascii _ (IsAscii-from_digits _ digits)))

pub returns : goal.returns
returns c =
    let text = text_of c.args.source.now c.args.token.now in
    let same : c.in-Ok.digits.now ≡ text = c.in-Ok.ensures.cases.0 ∙ c.text.ensures in
    let parses : ParsesUnsigned 64 10 text c.parse.result = rw same at c.parse.ensures.value.0 in
    rw c.ok.ensures.value (number_is text c.parse.result c.requires.1.0 c.requires.1.1 parses)
