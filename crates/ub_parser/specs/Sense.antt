-- What the syntax of a statement asks of a table of a schema: names become columns, digits become numbers.
use Rattle.std.specs.Prelude.{ℕ, suc, ℤ, pos, neg_ℤ, if◌then◌else◌, List, [], ◌∷◌, map}
use Rattle.std.specs.List.{enumerate_from}
use Rattle.std.specs.Option.{option_map}
use Rattle.std.specs.Str.{bytes_eq}
use Rattle.std.specs.Str.Parse.{digits_value}
use Rattle.ub_lexer.specs.Tokens.{text_of}
use Rattle.ub_lexer.specs.declared.token.Token.{Token}
use Rattle.ub_syntax.specs.Tree.{Select}
use Rattle.ub_syntax.specs.declared.syntax.Insertion.{Insertion}
use Rattle.ub_syntax.specs.Tree as syntax
use Rattle.ub_syntax.specs.declared.syntax.Item.TheVariants as item
use Rattle.ub_syntax.specs.declared.syntax.Item.{Item as Spelled}
use Rattle.ub_syntax.specs.declared.syntax.Literal.{Literal}
use Rattle.ub_syntax.specs.declared.syntax.OrderKey.{OrderKey}
use Rattle.ub_syntax.specs.declared.syntax.Selection.{Selection}
use Rattle.ub_syntax.specs.declared.syntax.Selection.TheVariants.{All, Listed}
use Rattle.ub_query.specs.Shape.{Shape, both, either, neither, compares, between, Asked}
use Rattle.ub_query.specs.declared.query.Item.{Item}
use Rattle.ub_query.specs.declared.query.Item.TheVariants.{Column, Count, Aggregate}
use Rattle.ub_query.specs.declared.query.SortKey.{SortKey}
use Rattle.ub_table.specs.declared.schema.Schema.{Schema}

-- how many names stand before the first that is this text: its column, where it is one of them
abbrev pub place_of : List ℕ → List (List ℕ) → ℕ
place_of text [] = 0
place_of text (name ∷ names) = if bytes_eq name text then 0 else suc (place_of text names)

-- the column that a token names
abbrev pub column_of : List ℕ → Schema → Token → ℕ
column_of source schema t = place_of (text_of source t) schema.columns

-- the number that the digits of a token write
abbrev pub number_of : List ℕ → Token → ℕ
number_of source t = digits_value 10 (text_of source t)

-- the number that a literal writes
abbrev pub value_of : List ℕ → Literal → ℤ
value_of source v = if v.is_negative then neg_ℤ (pos (number_of source v.digits)) else pos (number_of source v.digits)

abbrev pub shape_of : List ℕ → Schema → syntax.Shape → Shape
shape_of source schema (syntax.both a b) = both (shape_of source schema a) (shape_of source schema b)
shape_of source schema (syntax.either a b) = either (shape_of source schema a) (shape_of source schema b)
shape_of source schema (syntax.neither a) = neither (shape_of source schema a)
shape_of source schema (syntax.compares name operator v) = compares (column_of source schema name) operator (value_of source v)
shape_of source schema (syntax.between name low high) = between (column_of source schema name) (value_of source low) (value_of source high)

abbrev pub item_of : List ℕ → Schema → Spelled → Item
item_of source schema (item.Column name) = Column (column_of source schema name)
item_of source schema (item.Count first) = Count
item_of source schema (item.Aggregate aggregate first name) = Aggregate aggregate (column_of source schema name)

-- all columns, dimensions first
abbrev pub all_columns : Schema → List Item
all_columns schema = map (λ c. Column c.0) (enumerate_from 0 schema.columns)

abbrev pub items_of : List ℕ → Schema → Selection → List Item
items_of source schema (All star) = all_columns schema
items_of source schema (Listed items) = map (item_of source schema) items

abbrev pub key_of : List ℕ → Schema → OrderKey → SortKey
key_of source schema key = record { item = item_of source schema key.item; is_descending = key.is_descending }

-- what a statement asks
abbrev pub sense_of : List ℕ → Schema → Select → Asked
sense_of source schema s = record {
  items = items_of source schema s.selection;
  filter = option_map (shape_of source schema) s.filter;
  group = map (column_of source schema) s.group;
  order = map (key_of source schema) s.order;
  limit = option_map (number_of source) s.limit;
}

-- the values that an INSERT gives to the columns, in order
abbrev pub values_of : List ℕ → Insertion → List ℤ
values_of source i = map (λ v. value_of source v.literal) i.values
