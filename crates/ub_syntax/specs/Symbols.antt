-- What a token is to the grammar: a keyword, a name, a number or a sign.
use Rattle.std.specs.Prelude.{ℕ, List, [], ◌∷◌, if◌then◌else◌, codes}
use Rattle.ub_lexer.specs.declared.token.TokenKind.{TokenKind}
use Rattle.ub_lexer.specs.declared.token.TokenKind.TheVariants as kind
use Rattle.ub_query.specs.declared.condition.Operator.TheVariants.{Equal, NotEqual, Less, AtMost, Greater, AtLeast}
use Rattle.ub_query.specs.declared.query.Aggregate.TheVariants as aggregate
use Rattle.ub_syntax.specs.declared.symbol.Symbol.{Symbol}
use Rattle.ub_syntax.specs.declared.symbol.Symbol.TheVariants.{Select, Explain, From, Where, And, Or, Not, Between, Group, Order, By, Ascending, Descending, Limit, Insert, Into, Values, Delete, Count, Aggregate, Name, Number, Comma, Open, Close, Star, Operator, Minus, Other}
use Rattle.ub_table.specs.Name.{is_word}

-- the words of the language and what each is
unfoldable pub keywords : List (List ℕ × Symbol)
keywords =
    (codes "INSERT", Insert) ∷ (codes "INTO", Into) ∷ (codes "VALUES", Values)
    ∷ (codes "SELECT", Select) ∷ (codes "EXPLAIN", Explain) ∷ (codes "FROM", From) ∷ (codes "WHERE", Where)
    ∷ (codes "AND", And) ∷ (codes "OR", Or) ∷ (codes "NOT", Not) ∷ (codes "BETWEEN", Between)
    ∷ (codes "GROUP", Group) ∷ (codes "ORDER", Order) ∷ (codes "BY", By) ∷ (codes "ASC", Ascending) ∷ (codes "DESC", Descending)
    ∷ (codes "LIMIT", Limit) ∷ (codes "COUNT", Count)
    ∷ (codes "SUM", Aggregate aggregate.Sum) ∷ (codes "MIN", Aggregate aggregate.Min) ∷ (codes "MAX", Aggregate aggregate.Max)
    ∷ (codes "DELETE", Delete) ∷ []

-- the symbol of the first of the words that the text is in any mix of cases, else a name
abbrev pub symbol_among : List (List ℕ × Symbol) → List ℕ → Symbol
symbol_among [] text = Name
symbol_among (word ∷ words) text = if is_word word.0 text then word.1 else symbol_among words text

-- of a token of this kind and text
abbrev pub symbol : TokenKind → List ℕ → Symbol
symbol kind.Word text = symbol_among keywords text
symbol kind.Number text = Number
symbol kind.Comma text = Comma
symbol kind.OpenParenthesis text = Open
symbol kind.CloseParenthesis text = Close
symbol kind.Star text = Star
symbol kind.Semicolon text = Other
symbol kind.Equal text = Operator Equal
symbol kind.NotEqual text = Operator NotEqual
symbol kind.Less text = Operator Less
symbol kind.AtMost text = Operator AtMost
symbol kind.Greater text = Operator Greater
symbol kind.AtLeast text = Operator AtLeast
symbol kind.Minus text = Minus
symbol kind.Bad text = Other
