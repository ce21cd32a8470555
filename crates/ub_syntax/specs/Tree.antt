-- The syntax of a statement without the boxes in which it lies in memory.
use Rattle.std.specs.Prelude.{Bool, false, List, [], Option, None}
use Rattle.std.specs.Option.{option_map}
use Rattle.ub_lexer.specs.declared.token.Token.{Token}
use Rattle.ub_query.specs.declared.condition.Operator.{Operator}
use Rattle.ub_syntax.specs.declared.syntax.Literal.{Literal}
use Rattle.ub_syntax.specs.declared.syntax.OrderKey.{OrderKey}
use Rattle.ub_syntax.specs.declared.syntax.Insertion.{Insertion}
use Rattle.ub_syntax.specs.declared.syntax.Selection.{Selection}
use Rattle.ub_syntax.specs.declared.syntax.Selection.TheVariants.{All}
use Rattle.ub_syntax.specs.declared.syntax.Sentence.{Sentence}
use Rattle.ub_syntax.specs.declared.syntax.Sentence.TheVariants as sentence
use Rattle.ub_syntax.specs.declared.syntax.Condition.{Condition, And', Or', Not', Compare, Between}
use Rattle.ub_syntax.specs.declared.syntax.Syntax.{Syntax}

-- a condition: names and numbers are the tokens that spell them
pub data Shape : Type 0 where
  both : Shape → Shape → Shape
  either : Shape → Shape → Shape
  neither : Shape → Shape
  compares : Token → Operator → Literal → Shape
  between : Token → Literal → Literal → Shape

-- a SELECT
pub record Select : Type 0 where
  pub is_explained : Bool
  pub selection : Selection
  pub table : Token
  pub filter : Option Shape
  pub group : List Token
  pub order : List OrderKey
  pub limit : Option Token

-- the SELECT of the rows that a DELETE takes out: of `*`, for which its first token stands, with its condition and nothing else
abbrev pub rows_of : Token → Token → Option Shape → Select
rows_of word table filter = record {
  is_explained = false;
  selection = All word;
  table = table;
  filter = filter;
  group = [];
  order = [];
  limit = None;
}

-- a statement; a DELETE stands as the SELECT of the rows that it takes out
pub data Stated : Type 0 where
  selects : Select → Stated
  inserts : Insertion → Stated
  deletes : Select → Stated

abbrev pub shape : Condition → Shape
shape (And' p a q b) = both (shape a) (shape b)
shape (Or' p a q b) = either (shape a) (shape b)
shape (Not' p a) = neither (shape a)
shape (Compare column operator literal) = compares column operator literal
shape (Between column low high) = between column low high

abbrev pub select_of : Syntax → Select
select_of s = record {
  is_explained = s.is_explained;
  selection = s.selection;
  table = s.table;
  filter = option_map shape s.filter;
  group = s.group;
  order = s.order;
  limit = s.limit;
}

abbrev pub stated_of : Sentence → Stated
stated_of (sentence.Select s) = selects (select_of s)
stated_of (sentence.Insert i) = inserts i
stated_of (sentence.Delete s) = deletes (select_of s)
