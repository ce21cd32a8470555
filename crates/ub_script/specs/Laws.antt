-- The laws of the definitions. Each is what the function of its name in `law` ensures.
use Rattle.std.specs.Prelude.{◌≡◌, ◌≤◌, ◌+◌, ◌++◌, ◌↔◌, ℕ, List, ◌∷◌, length, take}
use Rattle.std.specs.List.{AllByRecursion, flat_map}
use Rattle.ub_exec.specs.Stand.{Stand, IsStand}
use Rattle.ub_load.specs.LoadedTable.{IsLoaded}
use Rattle.ub_query.specs.Meaning.{IsMeaning, titles}
use Rattle.ub_query.specs.Shape.{Asked}
use Rattle.ub_query.specs.declared.cell.Cell.{Cell}
use Rattle.ub_region.specs.Regions.{AreRegions}
use Rattle.ub_script.specs.Basis.{Basis, on_stand, over_any, schema_of, IsReply}
use Rattle.ub_script.specs.Exports.{all_rows, renumbered}
use Rattle.ub_script.specs.Formed.{IsSameBut}
use Rattle.ub_script.specs.Output.{IsFrontOf}
use Rattle.ub_script.specs.Parts.{answers_in, notes_in}
use Rattle.ub_script.specs.Replies.{AreFirstReplies}
use Rattle.ub_script.specs.Run.{EndedOver, FirstOver, IsCutOff, IsStopped, IsWhole}
use Rattle.ub_script.specs.Script.{Outcome}
use Rattle.ub_script.specs.Text.{ArePages, Reply, answer_text, changed_by, comma_line, counts_line, row_line, texts_of}
use Rattle.ub_script.specs.declared.fault.RunFault.{RunFault}
use Rattle.ub_script.specs.declared.fault.RunFault.TheVariants.{Tree}
use Rattle.ub_script.specs.declared.script.Summary.{Summary}
use Rattle.ub_table.specs.Name.{IsName}
use Rattle.ub_table.specs.Region.{RegionRows, IsRow, measures_of}
use Rattle.ub_table.specs.Table.{Table, IsInOrder}
use Rattle.ub_table.specs.Value.{axes_of}
use Rattle.ub_table.specs.declared.row.Row.{Row}
use Rattle.ub_table.specs.declared.schema.Schema.{Schema}
use Rattle.ub_tree.specs.View.{TreeView}
use Rattle.ub_tree.specs.declared.fault.TreeFault.TheVariants.{Full}

-- no two numbers of pages are fetched for the same query
abbrev pub QueriesFetchOneNumberOfPages : Type 0
QueriesFetchOneNumberOfPages = (schema : Schema) (next : ℕ) (regions : List RegionRows) (q : Asked) (first second : ℕ)
    → AreRegions schema next regions
    → ArePages schema regions q first → ArePages schema regions q second → first ≡ second

-- to a statement with an outcome there are no two replies, and it leaves a table in one way
abbrev pub OutcomesHaveOneReply : Type 0
OutcomesHaveOneReply = (s : Stand) (outcome : Outcome) (first second : Reply) (now other : Basis)
    → IsStand s → IsReply (on_stand s) outcome first now → IsReply (on_stand s) outcome second other
    → (first ≡ second) × (now ≡ other)

-- nor to the first statements of a script, as many as leave so many
abbrev pub StatementsHaveOneReplyEach : Type 0
StatementsHaveOneReplyEach = (s : Stand) (script : List ℕ) (first second : List Reply) (left : ℕ) (now other : Basis)
    → FirstOver (on_stand s) script first left now → FirstOver (on_stand s) script second left other
    → (first ≡ second) × (now ≡ other)

-- so a script that is run to its end writes one text, fetches one number of pages, has one summary, and leaves the table in one way
abbrev pub ScriptsHaveOneEnd : Type 0
ScriptsHaveOneEnd =
    (s : Stand) (script : List ℕ) (summary also : Summary) (now other : Basis) (first second : List ℕ) (pages others : ℕ)
    → IsWhole (FirstOver (on_stand s) script) summary now first pages
    → IsWhole (FirstOver (on_stand s) script) also other second others
    → (summary ≡ also) × (now ≡ other) × (first ≡ second) × (pages ≡ others)

-- how many statements a script has, and how many of them are refused, doesn't depend on what it is run on, but for the schema
abbrev pub ScriptsHaveOneSummary : Type 0
ScriptsHaveOneSummary =
    (basis other : Basis) (script : List ℕ) (s t : Summary) (now later : Basis) (first second : List ℕ) (pages others : ℕ)
    → schema_of basis ≡ schema_of other → IsWhole (FirstOver basis script) s now first pages
    → IsWhole (FirstOver other script) t later second others → s ≡ t

-- what is written up to a failed write is the first part of that text, and not all of it
abbrev pub CutTextsAreAFront : Type 0
CutTextsAreAFront =
    (s : Stand) (script : List ℕ) (summary : Summary) (now later : Basis) (bytes text : List ℕ) (pages all : ℕ)
    → IsCutOff (FirstOver (on_stand s) script) now bytes pages
    → IsWhole (FirstOver (on_stand s) script) summary later text all → IsFrontOf bytes text

-- and what is written up to a statement that another fault ends is the first part of it
abbrev pub StoppedTextsAreAFront : Type 0
StoppedTextsAreAFront =
    (s : Stand) (script : List ℕ) (summary : Summary) (fault : RunFault) (now later : Basis) (bytes text : List ℕ) (pages all : ℕ)
    → IsStopped (EndedOver (on_stand s) script fault) now bytes pages
    → IsWhole (FirstOver (on_stand s) script) summary later text all → (count : ℕ) × (count ≤ length text) × (bytes ≡ take count text)

-- and these are the whole texts of its first statements, which stand so in that text
abbrev pub StoppedTextsAreWhole : Type 0
StoppedTextsAreWhole =
    (s : Stand) (script : List ℕ) (summary : Summary) (fault : RunFault) (now later : Basis) (bytes text : List ℕ) (pages all : ℕ)
    → IsStopped (EndedOver (on_stand s) script fault) now bytes pages
    → IsWhole (FirstOver (on_stand s) script) summary later text all
    → (replies : List Reply) × (more : List Reply) × FirstOver (on_stand s) script (replies ++ more) 0 later
    × (bytes ≡ texts_of replies) × (text ≡ texts_of (replies ++ more))

-- on the basis of a table the replies to the first statements of a script are those on that table alone
abbrev pub RepliesOnATableAreThose : Type 0
RepliesOnATableAreThose = (s : Stand) (script : List ℕ) (replies : List Reply) (left : ℕ) (now : Stand)
    → FirstOver (on_stand s) script replies left (on_stand now)
    ↔ ((first : AreFirstReplies s script replies now) × (length replies + left ≡ length first.ranges))

-- nothing but its trace tells what a tree is now from what it was, or a table stands where it stood
abbrev pub IsUnchanged : Basis → Basis → Type 0
IsUnchanged (on_stand s) (on_stand now) = now ≡ s
IsUnchanged (over_any seen) (over_any now) = IsSameBut seen now
IsUnchanged (on_stand s) (over_any now) = ⊥
IsUnchanged (over_any seen) (on_stand now) = ⊥

-- statements that put in no row and take out none change nothing, on a table or on any tree
abbrev pub UnchangedTablesStay : Type 0
UnchangedTablesStay = (basis : Basis) (script : List ℕ) (replies : List Reply) (left : ℕ) (now : Basis)
    → FirstOver basis script replies left now → changed_by replies ≡ 0 → IsUnchanged basis now

-- nor does an INSERT, after such statements, that finds no number left or no room in the index
abbrev pub FullTablesStay : Type 0
FullTablesStay = (seen : TreeView) (script : List ℕ) (replies : List Reply) (left pages : ℕ) (now : Basis)
    → EndedOver (over_any seen) script (Tree Full) replies left pages now → changed_by replies ≡ 0 → IsUnchanged (over_any seen) now

-- of the text of an answer the line of counts tells, and the lines that are answers are its title and its rows, over a schema whose
-- columns' names are names, whatever the query and the rows are
abbrev pub AnswersAreTheirLines : Type 0
AnswersAreTheirLines = (schema : Schema) (q : Asked) (rows : List (List Cell)) (pages : ℕ) → AllByRecursion IsName schema.columns
    → (answers_in (answer_text schema q rows pages) ≡ comma_line (titles schema q) ++ flat_map row_line rows)
    × (notes_in (answer_text schema q rows pages) ≡ counts_line (length rows) pages)

-- so the answer to a query for all columns of all rows of a table, without the line that tells, is a text that is loaded as the same
-- table, by the same words: nothing is wrong with it, its schema is the table's, and its rows are the table's in their order, numbered
-- from 1
abbrev pub ExportsAreLoaded : Type 0
ExportsAreLoaded = (table : Table) (rows : List (List Cell)) (pages : ℕ)
    → AllByRecursion IsName (table.schema.name ∷ table.schema.columns) → IsInOrder table.rows
    → AllByRecursion (IsRow table.schema.dims (measures_of table.schema)) table.rows
    → IsMeaning table (all_rows table.schema) rows
    → IsLoaded (answers_in (answer_text table.schema (all_rows table.schema) rows pages)) (axes_of table.schema)
    table.schema.page_rows table.schema.name table.schema (renumbered table.rows)
