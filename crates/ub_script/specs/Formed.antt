-- What is said of a reply over any tree, also over one that isn't sound: that its text is whole and in form, and that the pages
-- that were read for it were taken in.
use Rattle.std.specs.Prelude.{◌≡◌, ℕ, Bool, true, false, List, Ok, length}
use Rattle.ub_answer.specs.Shaped.{IsShaped}
use Rattle.ub_exec.specs.Answers.{begun}
use Rattle.ub_exec.specs.Reading.{CarriesOut}
use Rattle.ub_exec.specs.Scanned.{IsOfRead, IsScanOf}
use Rattle.ub_plan.specs.Counted.{AreCounted}
use Rattle.ub_plan.specs.Explained.{explain_text}
use Rattle.ub_planning.specs.Plan.{plan_of}
use Rattle.ub_query.specs.Shape.{Asked}
use Rattle.ub_query.specs.declared.cell.Cell.{Cell}
use Rattle.ub_script.specs.Text.{Reply, answer_text}
use Rattle.ub_tree.specs.View.{TreeView, region_count}

-- nothing but their traces tells these two trees apart
abbrev pub IsSameBut : TreeView → TreeView → Type 0
IsSameBut seen t = t ≡ record seen { trace = t.trace }

-- the plan of a query was carried out over a tree, whatever its trace, with these rows of cells, and so many pages were noted for it: each
-- was taken in, and no region was passed over, by a scan, nor by a sweep before it had all rows that the limit asks for; what a scan
-- answers is of the rows that were read
pub record IsCarriedOut (seen : TreeView) (q : Asked) (cells : List (List Cell)) (pages : ℕ) : Type 0 where
  pub old : TreeView
  pub new : TreeView
  pub same : IsSameBut seen old
  pub carried : CarriesOut (plan_of seen.schema q) (begun old) new (λ _. length cells) (Ok (tt {0}))
  pub scanned : IsScanOf seen.schema (plan_of seen.schema q) → IsOfRead (plan_of seen.schema q) (begun old) new cells
  pub pages_are : pages ≡ length new.trace.pages

-- the reply to a query over a tree that hasn't failed: the whole text of some rows of cells, each with as many cells as the query
-- has items, and no more than its limit says
pub record IsFormedAnswer (seen : TreeView) (q : Asked) (r : Reply) : Type 0 where
  pub working : seen.is_failed ≡ false
  pub rows : List (List Cell)
  pub shaped : IsShaped q rows
  pub carried : IsCarriedOut seen q rows r.pages
  pub text_is : r.text ≡ answer_text seen.schema q rows r.pages
  pub accepted : r.is_refused ≡ false

-- the reply to an EXPLAIN of a query over a tree that hasn't failed: how its plan reads the regions that the tree tells of
pub record IsFormedExplain (seen : TreeView) (q : Asked) (r : Reply) : Type 0 where
  pub working : seen.is_failed ≡ false
  pub met : ℕ
  pub met_are : AreCounted (plan_of seen.schema q).covering.boxes seen met
  pub text_is : r.text ≡ explain_text seen.schema (plan_of seen.schema q) met (region_count seen)
  pub pages_are : r.pages ≡ 0
  pub accepted : r.is_refused ≡ false

-- the reply to a query that is explained, or answered
abbrev pub IsFormedReply : Bool → TreeView → Asked → Reply → Type 0
IsFormedReply true seen q r = IsFormedExplain seen q r
IsFormedReply false seen q r = IsFormedAnswer seen q r
