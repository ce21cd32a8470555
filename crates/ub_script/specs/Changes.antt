-- What an INSERT and a DELETE make of a table, and of any tree.
use Rattle.std.specs.Prelude.{◌≡◌, ◌≤◌, ◌+◌, ℕ, ℤ, false, IsTrue, List, Result, Ok, Err, IfOk, OnOk, drop, length, map, take}
use Rattle.std.specs.List.{enumerate_from}
use Rattle.std.specs.Option.{unwrap_or}
use Rattle.ub_exec.specs.Answers.{begun}
use Rattle.ub_exec.specs.Deleting.{Deletes, ReadsFirst}
use Rattle.ub_exec.specs.Stand.{Stand, selected_of, with_row, without_selected}
use Rattle.ub_parser.specs.Outcome.{AreGiven}
use Rattle.ub_planning.specs.Plan.{plan_of}
use Rattle.ub_query.specs.Shape.{Asked}
use Rattle.ub_script.specs.Formed.{IsSameBut}
use Rattle.ub_script.specs.Text.{ArePages, Reply, reply, deleted_text, inserted_text}
use Rattle.ub_table.specs.Region.{key_of}
use Rattle.ub_table.specs.Value.{coordinate}
use Rattle.ub_table.specs.declared.row.Row.{Row}
use Rattle.ub_table.specs.declared.row.TheConstants.{MAX_ROW_NUMBER}
use Rattle.ub_table.specs.declared.schema.Schema.{Schema}
use Rattle.ub_tree.specs.Change as tree
use Rattle.ub_tree.specs.Effects.{Changes}
use Rattle.ub_tree.specs.Holding.{AnswersRow, GrowsAt}
use Rattle.ub_tree.specs.View.{TreeView}
use Rattle.ub_tree.specs.declared.fault.TreeFault.{TreeFault}
use Rattle.ub_tree.specs.declared.fault.TreeFault.TheVariants.{Failed}
use Rattle.ub_tree.specs.declared.read_fault.ReadFault.{ReadFault}

-- ---- the row of an INSERT

-- the coordinates that stand for the values of the dimensions, which come first
abbrev pub coordinates_of : Schema → List ℤ → List ℕ
coordinates_of schema values = map (λ v. unwrap_or (coordinate schema v.0 v.1) 0) (enumerate_from 0 (take schema.dims values))

-- the row of this number that these values make, one for each column
abbrev pub row_of : Schema → ℕ → List ℤ → Row
row_of schema number values = tree.row_of number (coordinates_of schema values) (drop schema.dims values)

-- ---- what is made of a table

-- the reply to an INSERT of values that the columns can hold, where a number is left: the row gets that number, and is put in
pub record IsTableInsert (s : Stand) (values : List ℤ) (r : Reply) (now : Stand) : Type 0 where
  pub given : AreGiven s.table.schema values
  pub left : s.next ≤ MAX_ROW_NUMBER
  pub reply_is : r ≡ reply (inserted_text s.next) 0 false 1
  pub now_is : now ≡ with_row (row_of s.table.schema s.next values) s

-- the reply to a DELETE of the rows for which this asks: all of them are taken out, in ascending order of number; the regions that
-- its plan visits are those of the table before
pub record IsTableDelete (s : Stand) (q : Asked) (r : Reply) (now : Stand) : Type 0 where
  pub pages_are : ArePages s.table.schema s.regions q r.pages
  pub text_is : r.text ≡ deleted_text r.changed
  pub changed_is : r.changed ≡ length (selected_of q s)
  pub accepted : r.is_refused ≡ false
  pub now_is : now ≡ without_selected q s

-- ---- what is made of any tree, also of one that isn't sound

-- a row was asked to be put into a tree, with this answer: what `Tree::insert` says of any tree
pub record PutsIn (row : Row) (old new : TreeView) (result : Result ℕ TreeFault) : Type 0 where
  pub number : IfOk result (λ n. n ≡ old.next)
  pub counted : OnOk result ((new.next ≡ old.next + 1) × (new.rows ≡ old.rows + 1) × (new.is_failed ≡ false)
      × GrowsAt (key_of old.schema.dims row) old new)
  pub failed : IsTrue old.is_failed → result ≡ Err Failed
  pub refused : old.is_failed ≡ false → AnswersRow old (key_of old.schema.dims row) result
  pub effect : Changes old new result

-- the same of this tree, or of one that nothing but its trace tells from it
pub record HasPutRow (seen : TreeView) (row : Row) (result : Result ℕ TreeFault) (new : TreeView) : Type 0 where
  pub old : TreeView
  pub same : IsSameBut seen old
  pub puts_in : PutsIn row old new result

-- the row of these values was, with the number that was next
pub record HasPutIn (seen : TreeView) (values : List ℤ) (result : Result ℕ TreeFault) (new : TreeView) : Type 0 where
  pub given : AreGiven seen.schema values
  pub put : HasPutRow seen (row_of seen.schema seen.next values) result new

-- the rows for which this asks were asked to be taken out of a tree, with this answer: what `delete` says of any tree. Each of those
-- that the regions show was asked to be, unless a fault ended that
pub record HasTakenOut (seen : TreeView) (q : Asked) (result : Result ℕ ReadFault) (new : TreeView) : Type 0 where
  pub old : TreeView
  pub same : IsSameBut seen old
  pub reads : ReadsFirst (plan_of seen.schema q) (begun old) new result
  pub deletes : Deletes old new result
  pub untouched : result ≡ Ok 0 → new ≡ record old { trace = new.trace }

-- the reply to an INSERT
pub record IsFormedInsert (seen : TreeView) (values : List ℤ) (r : Reply) (now : TreeView) : Type 0 where
  pub put : HasPutIn seen values (Ok seen.next) now
  pub reply_is : r ≡ reply (inserted_text seen.next) 0 false 1

-- the reply to a DELETE: so many pages were noted for it
pub record IsFormedDelete (seen : TreeView) (q : Asked) (r : Reply) (now : TreeView) : Type 0 where
  pub taken : HasTakenOut seen q (Ok r.changed) now
  pub pages_are : r.pages ≡ length now.trace.pages
  pub text_is : r.text ≡ deleted_text r.changed
  pub accepted : r.is_refused ≡ false
