-- Statements whose names are columns of a table.
use Rattle.std.specs.Prelude.{ℕ, ◌<◌, List, Contains, IfSome}
use Rattle.std.specs.List.{All}
use Rattle.ub_lexer.specs.Tokens.{text_of}
use Rattle.ub_lexer.specs.declared.token.Token.{Token}
use Rattle.ub_query.specs.Posed.{IsItemOver, IsOver}
use Rattle.ub_query.specs.Shape.{Asked}
use Rattle.ub_syntax.specs.Tree.{Select, Shape, both, either, neither, compares, between}
use Rattle.ub_syntax.specs.declared.syntax.Item.{Item}
use Rattle.ub_parser.specs.Refusals.{IsMisfit, item_names, rank}
use Rattle.ub_parser.specs.Spans.{IsWithin, IsNumber}
use Rattle.ub_parser.specs.declared.fault.SqlFault.{SqlFault}
use Rattle.ub_table.specs.declared.schema.Schema.{Schema}

-- the token lies in the source and names a column
abbrev pub IsColumn : List ℕ → Schema → Token → Type 0
IsColumn source schema t = IsWithin source t × Contains schema.columns (text_of source t)

-- the item names a column, or none
abbrev pub IsKnownItem : List ℕ → Schema → Item → Type 0
IsKnownItem source schema item = All (λ t. IsColumn source schema t) (item_names item)

-- each comparison of the condition names a column, and its numbers may be written
abbrev pub IsKnown : List ℕ → Schema → Shape → Type 0
IsKnown source schema (both a b) = IsKnown source schema a × IsKnown source schema b
IsKnown source schema (either a b) = IsKnown source schema a × IsKnown source schema b
IsKnown source schema (neither a) = IsKnown source schema a
IsKnown source schema (compares name operator v) = IsColumn source schema name × IsNumber source v.digits
IsKnown source schema (between name low high) = IsColumn source schema name × IsNumber source low.digits × IsNumber source high.digits

-- the columns of the comparisons lie in the source
abbrev pub AreComparedWithin : List ℕ → Shape → Type 0
AreComparedWithin source (both a b) = AreComparedWithin source a × AreComparedWithin source b
AreComparedWithin source (either a b) = AreComparedWithin source a × AreComparedWithin source b
AreComparedWithin source (neither a) = AreComparedWithin source a
AreComparedWithin source (compares name operator v) = IsWithin source name
AreComparedWithin source (between name low high) = IsWithin source name

-- the token names no column
abbrev pub IsUnknown : List ℕ → Schema → Token → Type 0
IsUnknown source schema t = ¬ Contains schema.columns (text_of source t)

-- the query names columns of a table with so many
pub record IsAskedOver (columns : ℕ) (q : Asked) : Type 0 where
  pub items : All (λ item. IsItemOver columns item) q.items
  pub filter : IfSome q.filter (λ c. IsOver columns c)
  pub group : All (λ column. column < columns) q.group
  pub order : All (λ key. IsItemOver columns key.item) q.order

-- nothing for which a statement is refused before what it selects with groups: so its names are known
abbrev pub IsNamed : List ℕ → Schema → Select → Type 0
IsNamed source schema s = (fault : SqlFault) → rank fault < 8 → ¬ IsMisfit source schema s fault
