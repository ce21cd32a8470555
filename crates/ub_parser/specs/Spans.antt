-- Where the names and numbers of a statement stand in its source.
use Rattle.std.specs.Prelude.{ℕ, ◌<◌, ◌≤◌, List, [], ◌∷◌, ◌++◌, length, Option, Some, None}
use Rattle.std.specs.List.{All}
use Rattle.std.specs.Option.{option_to_list}
use Rattle.ub_lexer.specs.Text.{IsSpelling}
use Rattle.ub_lexer.specs.Tokens.{text_of}
use Rattle.ub_lexer.specs.declared.token.Token.{Token}
use Rattle.ub_lexer.specs.declared.token.TokenKind.TheVariants as kind
use Rattle.ub_syntax.specs.Tree.{Select, Shape, both, either, neither, compares, between}
use Rattle.ub_syntax.specs.declared.syntax.Insertion.{Insertion}
use Rattle.ub_query.specs.Posed.{greatest_number}
use Rattle.ub_parser.specs.Refusals.{names}
use Rattle.ub_parser.specs.Sense.{number_of}

-- the token's span lies in the source
abbrev pub IsWithin : List ℕ → Token → Type 0
IsWithin source t = (t.from ≤ t.to) × (t.to ≤ length source)

-- the same, and its text is spelled as its kind asks
abbrev pub IsSpelled : List ℕ → Token → Type 0
IsSpelled source t = (t.from < t.to) × (t.to ≤ length source) × IsSpelling t.kind (text_of source t)

-- the span is one of digits
abbrev pub IsDigits : List ℕ → Token → Type 0
IsDigits source t = IsWithin source t × IsSpelling kind.Number (text_of source t)

-- digits of a number that a statement may write
abbrev pub IsNumber : List ℕ → Token → Type 0
IsNumber source t = IsDigits source t × (number_of source t ≤ greatest_number)

-- the numbers of a condition
abbrev pub compared_numbers : Shape → List Token
compared_numbers (both a b) = compared_numbers a ++ compared_numbers b
compared_numbers (either a b) = compared_numbers a ++ compared_numbers b
compared_numbers (neither a) = compared_numbers a
compared_numbers (compares name operator v) = v.digits ∷ []
compared_numbers (between name low high) = low.digits ∷ high.digits ∷ []

abbrev pub filter_numbers : Option Shape → List Token
filter_numbers None = []
filter_numbers (Some c) = compared_numbers c

-- the numbers of a statement, in the order of its tokens
abbrev pub numbers : Select → List Token
numbers s = filter_numbers s.filter ++ option_to_list s.limit

-- the names of a statement, its table's left aside, lie in the source, and its numbers are digits of what may be written
pub record AreWritten (source : List ℕ) (s : Select) : Type 0 where
  pub names_are : All (λ t. IsWithin source t) (names s)
  pub numbers_are : All (λ t. IsNumber source t) (numbers s)

-- the table's name of an INSERT lies in the source, and its numbers are digits of what may be written
pub record IsInsertWritten (source : List ℕ) (i : Insertion) : Type 0 where
  pub table_is : IsWithin source i.table
  pub numbers_are : All (λ v. IsNumber source v.literal.digits) i.values
