-- The text of a statement's result: a title line, a line for each row of cells, and a line of counts; or why it is refused.
use Rattle.std.specs.Prelude.{◌≡◌, ℕ, Bool, true, false, List, [], ◌∷◌, ◌++◌, length, map, codes, count_by, decimal}
use Rattle.std.specs.Fmt.{signed_decimal}
use Rattle.std.specs.List.{flat_map, join_with_byte, sum_by}
use Rattle.ub_parser.specs.declared.fault.SqlFault.{SqlFault}
use Rattle.ub_parser.specs.declared.fault.SqlFault.TheVariants.{BadByte, Syntax, NumberTooLarge, TooDeep, TooMany, UnknownTable, UnknownColumn, NotGrouped, NotSelected, ValueCount, ValueRange, Memory}
use Rattle.ub_plan.specs.Explained.{IsExplained}
use Rattle.ub_planning.specs.Plan.{plan_of}
use Rattle.ub_planning.specs.Visits.{Span, AreVisits}
use Rattle.ub_query.specs.Meaning.{IsMeaning, titles}
use Rattle.ub_query.specs.Shape.{Asked}
use Rattle.ub_query.specs.declared.cell.Cell.{Cell}
use Rattle.ub_query.specs.declared.cell.Cell.TheVariants.{Number, Null}
use Rattle.ub_table.specs.Region.{RegionRows}
use Rattle.ub_table.specs.Table.{Table}
use Rattle.ub_table.specs.declared.schema.Schema.{Schema}

-- texts joined by commas, and a line feed
abbrev pub comma_line : List (List ℕ) → List ℕ
comma_line texts = join_with_byte 44 texts ++ 10 ∷ []

-- a number in decimal, or NULL
abbrev pub cell_text : Cell → List ℕ
cell_text (Number v) = signed_decimal v
cell_text Null = codes "NULL"

abbrev pub row_line : List Cell → List ℕ
row_line cells = comma_line (map cell_text cells)

-- how many rows were written and how many region pages were fetched for them
abbrev pub counts_line : ℕ → ℕ → List ℕ
counts_line rows pages = codes "-- rows " ++ decimal rows ++ codes ", pages " ++ decimal pages ++ 10 ∷ []

-- these rows of cells as the answer of a query for which so many region pages were fetched
unfoldable pub answer_text : Schema → Asked → List (List Cell) → ℕ → List ℕ
answer_text schema q rows pages = comma_line (titles schema q) ++ flat_map row_line rows ++ counts_line (length rows) pages

unfoldable pub refusal_text : List ℕ → ℕ → List ℕ
refusal_text name at = codes "! " ++ name ++ codes " at " ++ decimal at ++ 10 ∷ []

-- what a refused statement writes: the refusal's name, and where it is seen; want of memory is no refusal
abbrev pub refused_text : SqlFault → List ℕ
refused_text (BadByte at) = refusal_text (codes "BadByte") at
refused_text (Syntax at) = refusal_text (codes "Syntax") at
refused_text (NumberTooLarge at) = refusal_text (codes "NumberTooLarge") at
refused_text (TooDeep at) = refusal_text (codes "TooDeep") at
refused_text (TooMany at) = refusal_text (codes "TooMany") at
refused_text (UnknownTable at) = refusal_text (codes "UnknownTable") at
refused_text (UnknownColumn at) = refusal_text (codes "UnknownColumn") at
refused_text (NotGrouped at) = refusal_text (codes "NotGrouped") at
refused_text (NotSelected at) = refusal_text (codes "NotSelected") at
refused_text (ValueCount at) = refusal_text (codes "ValueCount") at
refused_text (ValueRange at) = refusal_text (codes "ValueRange") at
refused_text Memory = []

-- which number the row got that was put in
unfoldable pub inserted_text : ℕ → List ℕ
inserted_text number = codes "-- inserted " ++ decimal number ++ 10 ∷ []

-- how many rows were taken out
unfoldable pub deleted_text : ℕ → List ℕ
deleted_text count = codes "-- deleted " ++ decimal count ++ 10 ∷ []

-- what is done for a statement: its text is written, so many region pages are fetched, it may be refused, and so many rows are
-- put in or taken out
pub record Reply : Type 0 where
  pub text : List ℕ
  pub pages : ℕ
  pub is_refused : Bool
  pub changed : ℕ

abbrev pub reply : List ℕ → ℕ → Bool → ℕ → Reply
reply text pages is_refused changed = record { text = text; pages = pages; is_refused = is_refused; changed = changed }

-- so many regions of a table are visited by the plan of a query, and so many pages are fetched for it
pub record ArePages (schema : Schema) (regions : List RegionRows) (q : Asked) (pages : ℕ) : Type 0 where
  pub visits : List Span
  pub visits_are : AreVisits schema (plan_of schema q) regions visits
  pub pages_are : pages ≡ length visits

-- the reply to a query on a table in these regions: the rows of cells that it means, and how many pages are fetched for it
pub record IsQueryReply (table : Table) (regions : List RegionRows) (q : Asked) (r : Reply) : Type 0 where
  pub rows : List (List Cell)
  pub meant : IsMeaning table q rows
  pub pages_are : ArePages table.schema regions q r.pages
  pub text_is : r.text ≡ answer_text table.schema q rows r.pages
  pub accepted : r.is_refused ≡ false

-- the reply to an EXPLAIN of a query: how its plan reads the regions, of which none is fetched
pub record IsExplainReply (table : Table) (regions : List RegionRows) (q : Asked) (r : Reply) : Type 0 where
  pub explained : IsExplained table.schema (plan_of table.schema q) regions r.text
  pub pages_are : r.pages ≡ 0
  pub accepted : r.is_refused ≡ false

-- the reply to a query that is explained, or answered
abbrev pub IsTableReply : Bool → Table → List RegionRows → Asked → Reply → Type 0
IsTableReply true table regions q r = IsExplainReply table regions q r
IsTableReply false table regions q r = IsQueryReply table regions q r

-- of several replies the texts, one after the other, the number of pages, how many of them are refused, and how many rows they
-- change
abbrev pub texts_of : List Reply → List ℕ
texts_of replies = flat_map (λ r. r.text) replies

abbrev pub pages_of : List Reply → ℕ
pages_of replies = sum_by (λ r. r.pages) replies

abbrev pub refused_in : List Reply → ℕ
refused_in replies = count_by (λ r. r.is_refused) replies

abbrev pub changed_by : List Reply → ℕ
changed_by replies = sum_by (λ r. r.changed) replies
