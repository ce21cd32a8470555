-- What a statement of a script is told: what it asks, or why it is refused.
use Rattle.std.specs.Prelude.{◌≡◌, ℕ, ℤ, Bool, true, false, List, [], length, None, Result, Ok, Err}
use Rattle.std.specs.List.{All, enumerate_from}
use Rattle.ub_lexer.specs.declared.token.Token.{Token}
use Rattle.ub_syntax.specs.Grammar.{lexemes, IsStatement}
use Rattle.ub_syntax.specs.Tree.{Stated, selects, inserts, deletes}
use Rattle.ub_query.specs.Shape.{Asked, asked}
use Rattle.ub_query.specs.Posed.{IsPosed}
use Rattle.ub_parser.specs.Sense.{sense_of, all_columns, values_of}
use Rattle.ub_parser.specs.Refusals.{IsFault, IsFirstFault}
use Rattle.ub_parser.specs.declared.fault.SqlFault.{SqlFault}
use Rattle.ub_parser.specs.declared.statement.Statement.{Statement}
use Rattle.ub_parser.specs.declared.statement.Statement.TheVariants as statement
use Rattle.ub_table.specs.Value.{fits}
use Rattle.ub_table.specs.declared.schema.Schema.{Schema}

-- what a SELECT asks, and whether that is to be explained
pub record Told : Type 0 where
  pub is_explained : Bool
  pub asked : Asked

-- a statement without the boxes in which its condition lies in memory: it asks, or puts in a row of these values, or takes out
-- the rows for which this asks
pub data Command : Type 0 where
  asks : Told → Command
  puts : List ℤ → Command
  takes : Asked → Command

abbrev pub command : Statement → Command
command (statement.Select query) = asks (record { is_explained = false; asked = asked query })
command (statement.Explain query) = asks (record { is_explained = true; asked = asked query })
command (statement.Insert values) = puts values
command (statement.Delete query) = takes (asked query)

-- what the syntax of a statement says
abbrev pub command_of : List ℕ → Schema → Stated → Command
command_of source schema (selects s) = asks (record { is_explained = s.is_explained; asked = sense_of source schema s })
command_of source schema (inserts i) = puts (values_of source i)
command_of source schema (deletes s) = takes (sense_of source schema s)

-- the query asks for the rows of a condition, all columns of each, and nothing else
pub record IsOfRows (schema : Schema) (q : Asked) : Type 0 where
  pub items : q.items ≡ all_columns schema
  pub group : q.group ≡ []
  pub order : q.order ≡ []
  pub limit : q.limit ≡ None

-- one value for each column, which that can hold
abbrev pub AreGiven : Schema → List ℤ → Type 0
AreGiven schema values = (length values ≡ length schema.columns) × All (λ v. fits schema v.0 v.1 ≡ true) (enumerate_from 0 values)

-- what may be given to a table of the schema: a query that may be posed, or such values
abbrev pub IsGiven : Schema → Command → Type 0
IsGiven schema (asks t) = IsPosed (length schema.columns) t.asked
IsGiven schema (puts values) = AreGiven schema values
IsGiven schema (takes q) = IsPosed (length schema.columns) q × IsOfRows schema q

-- the tokens are a statement of the grammar, none of the conditions holds for which one is refused, and this is what it says
pub record IsAccepted (source : List ℕ) (schema : Schema) (tokens : List Token) (c : Command) : Type 0 where
  pub syntax : Stated
  pub is : IsStatement 64 (lexemes source tokens) syntax
  pub fits : (fault : SqlFault) → ¬ IsFault source schema tokens fault
  pub says : c ≡ command_of source schema syntax

-- what the tokens of one statement are told
abbrev pub IsOutcome : List ℕ → Schema → List Token → Result Command SqlFault → Type 0
IsOutcome source schema tokens (Ok c) = IsAccepted source schema tokens c
IsOutcome source schema tokens (Err fault) = IsFirstFault source schema tokens fault
