-- Why a statement is refused: eleven conditions, the first of which is told.
use Rattle.std.specs.Prelude.{◌≡◌, ◌≢◌, ◌<◌, ◌⊎◌, ℕ, false, List, [], ◌∷◌, ◌++◌, map, length, Some, slice_get, slice_index_or, Contains}
use Rattle.std.specs.List.{All, enumerate_from, flat_map}
use Rattle.ub_lexer.specs.Tokens.{text_of}
use Rattle.ub_lexer.specs.declared.token.Token.{Token}
use Rattle.ub_lexer.specs.declared.token.TokenKind.TheVariants as kind
use Rattle.ub_query.specs.Posed.{greatest_number}
use Rattle.ub_syntax.specs.Grammar.{lexemes, IsStatement}
use Rattle.ub_syntax.specs.Limits.{first_token, listed, comparisons, key_items, past_limits}
use Rattle.ub_syntax.specs.Stop.{IsRefusedAt, IsTooDeepAt}
use Rattle.ub_syntax.specs.Tree.{Select, Stated, selects, inserts, deletes}
use Rattle.ub_syntax.specs.declared.syntax.Insertion.{Insertion}
use Rattle.ub_syntax.specs.declared.syntax.Item.{Item}
use Rattle.ub_syntax.specs.declared.syntax.Item.TheVariants.{Column, Count, Aggregate}
use Rattle.ub_syntax.specs.declared.syntax.Selection.{Selection}
use Rattle.ub_syntax.specs.declared.syntax.Selection.TheVariants.{All as Star, Listed}
use Rattle.ub_syntax.specs.declared.syntax.Value.{Value}
use Rattle.ub_parser.specs.Sense.{item_of, number_of, value_of}
use Rattle.ub_parser.specs.declared.fault.SqlFault.{SqlFault}
use Rattle.ub_parser.specs.declared.fault.SqlFault.TheVariants.{BadByte, Syntax, NumberTooLarge, TooDeep, TooMany, UnknownTable, UnknownColumn, NotGrouped, NotSelected, ValueCount, ValueRange, Memory}
use Rattle.ub_table.specs.Value.{fits}
use Rattle.ub_table.specs.declared.schema.Schema.{Schema}

-- the first of some things of which P holds
abbrev pub IsFirst : {A : Type 0} → (A → Type 0) → List A → A → Type 0
IsFirst {A = A} P xs x = (before after : List A) × (xs ≡ before ++ x ∷ after) × All (λ y. ¬ P y) before × P x

abbrev pub IsTooLarge : List ℕ → Token → Type 0
IsTooLarge source t = (t.kind ≡ kind.Number) × (greatest_number < number_of source t)

-- the columns that an item names
abbrev pub item_names : Item → List Token
item_names (Column name) = name ∷ []
item_names (Count first) = []
item_names (Aggregate aggregate first name) = name ∷ []

-- the names of a statement but that of its table, in the order of its tokens
abbrev pub names : Select → List Token
names s = flat_map item_names (listed s.selection) ++ (comparisons s.filter ++ (s.group ++ flat_map item_names (key_items s.order)))

abbrev pub IsAggregate : Item → Type 0
IsAggregate (Column name) = ⊥
IsAggregate _ = Unit {0}

-- a query with GROUP BY or with an aggregate among its items
abbrev pub IsGrouping : Select → Type 0
IsGrouping s = (s.group ≢ []) ⊎ ((item : Item) × Contains (listed s.selection) item × IsAggregate item)

-- the item is a column by which is not grouped
abbrev pub IsUngrouped : List ℕ → Select → Item → Type 0
IsUngrouped source s (Column name) = ¬ Contains (map (text_of source) s.group) (text_of source name)
IsUngrouped source s _ = ⊥

-- in a grouping query the key is none of the items, in another it is an aggregate
abbrev pub IsUnselected : List ℕ → Schema → Select → Item → Type 0
IsUnselected source schema s key =
    (IsGrouping s × (¬ Contains (map (item_of source schema) (listed s.selection)) (item_of source schema key)))
    ⊎ ((¬ IsGrouping s) × IsAggregate key)

-- in a grouping query, the `*`, or the first item that is a column by which is not grouped
abbrev pub IsNotGrouped : List ℕ → Select → Selection → Token → Type 0
IsNotGrouped source s (Star star) t = t ≡ star
IsNotGrouped source s (Listed items) t = (item : Item) × IsFirst (IsUngrouped source s) items item × (t ≡ first_token item)

-- the refusals of a SELECT, or of a DELETE of the rows that it asks for, each with the token where it is seen
abbrev pub IsMisfit : List ℕ → Schema → Select → SqlFault → Type 0
IsMisfit source schema s (TooMany at) = (t : Token) × (slice_get (past_limits s) 0 ≡ Some t) × (at ≡ t.from)
IsMisfit source schema s (UnknownTable at) = (text_of source s.table ≢ schema.name) × (at ≡ s.table.from)
IsMisfit source schema s (UnknownColumn at) =
    (t : Token) × IsFirst (λ name. ¬ Contains schema.columns (text_of source name)) (names s) t × (at ≡ t.from)
IsMisfit source schema s (NotGrouped at) = IsGrouping s × (t : Token) × IsNotGrouped source s s.selection t × (at ≡ t.from)
IsMisfit source schema s (NotSelected at) =
    (key : Item) × IsFirst (IsUnselected source schema s) (key_items s.order) key × (at ≡ (first_token key).from)
IsMisfit source schema s _ = ⊥

-- where an INSERT has not as many values as there are columns: the first value too many, or else the `)`
abbrev pub miscounted : Schema → Insertion → Token
miscounted schema i = slice_index_or (map (λ v. v.first) i.values) (length schema.columns) i.close

-- the value stands in the place of a column, which can't hold it
abbrev pub IsUnfit : List ℕ → Schema → ℕ × Value → Type 0
IsUnfit source schema v = (v.0 < length schema.columns) × (fits schema v.0 (value_of source v.1.literal) ≡ false)

-- the refusals of an INSERT
abbrev pub IsInsertMisfit : List ℕ → Schema → Insertion → SqlFault → Type 0
IsInsertMisfit source schema i (UnknownTable at) = (text_of source i.table ≢ schema.name) × (at ≡ i.table.from)
IsInsertMisfit source schema i (ValueCount at) = (length i.values ≢ length schema.columns) × (at ≡ (miscounted schema i).from)
IsInsertMisfit source schema i (ValueRange at) =
    (v : ℕ × Value) × IsFirst (IsUnfit source schema) (enumerate_from 0 i.values) v × (at ≡ v.1.first.from)
IsInsertMisfit source schema i _ = ⊥

-- the refusals of a statement whose syntax this is
abbrev pub IsStatedMisfit : List ℕ → Schema → Stated → SqlFault → Type 0
IsStatedMisfit source schema (selects s) fault = IsMisfit source schema s fault
IsStatedMisfit source schema (inserts i) fault = IsInsertMisfit source schema i fault
IsStatedMisfit source schema (deletes s) fault = IsMisfit source schema s fault

-- the conditions, each with the offset where it is seen
abbrev pub IsFault : List ℕ → Schema → List Token → SqlFault → Type 0
IsFault source schema tokens (BadByte at) = (t : Token) × IsFirst (λ t. t.kind ≡ kind.Bad) tokens t × (at ≡ t.from)
IsFault source schema tokens (Syntax at) = IsRefusedAt 64 (lexemes source tokens) at
IsFault source schema tokens (NumberTooLarge at) = (t : Token) × IsFirst (IsTooLarge source) tokens t × (at ≡ t.from)
IsFault source schema tokens (TooDeep at) = IsTooDeepAt 64 (lexemes source tokens) at
IsFault source schema tokens fault = (s : Stated) × IsStatement 64 (lexemes source tokens) s × IsStatedMisfit source schema s fault

-- the order in which they are told
abbrev pub rank : SqlFault → ℕ
rank (BadByte at) = 1
rank (Syntax at) = 2
rank (NumberTooLarge at) = 3
rank (TooDeep at) = 4
rank (TooMany at) = 5
rank (UnknownTable at) = 6
rank (UnknownColumn at) = 7
rank (NotGrouped at) = 8
rank (NotSelected at) = 9
rank (ValueCount at) = 10
rank (ValueRange at) = 11
rank Memory = 12

-- the first misfit of a syntax
abbrev pub IsFirstMisfit : List ℕ → Schema → Select → SqlFault → Type 0
IsFirstMisfit source schema s fault =
    IsMisfit source schema s fault × ((other : SqlFault) → rank other < rank fault → ¬ IsMisfit source schema s other)

-- the same of an INSERT
abbrev pub IsFirstInsertMisfit : List ℕ → Schema → Insertion → SqlFault → Type 0
IsFirstInsertMisfit source schema i fault =
    IsInsertMisfit source schema i fault × ((other : SqlFault) → rank other < rank fault → ¬ IsInsertMisfit source schema i other)

-- the first fault of a statement
abbrev pub IsFirstFault : List ℕ → Schema → List Token → SqlFault → Type 0
IsFirstFault source schema tokens fault =
    IsFault source schema tokens fault × ((other : SqlFault) → rank other < rank fault → ¬ IsFault source schema tokens other)
