-- A sweep that was ended by a fault has fetched the first of the visits.
use Rattle.std.proofs.Common.{◌≡◌, ◌<◌, ◌∙◌, ◌++◌, ◌∷◌, ℕ, List, [], IfSome, length, map, refl}
use Rattle.ub_exec.proofs.FirstFacts.{swept_first}
use Rattle.ub_tree.proofs.Laws.{Keeps, Keeps-by, begun_traced}
use Rattle.ub_exec.proofs.SweptFacts.{HasSwept, over, row_visits, short, visits_at}
use Rattle.ub_exec.specs.Answers.{IsReady, begun}
use Rattle.ub_exec.specs.Visits.{HasFetchedFirst, fetches_then}
use Rattle.ub_planning.specs.Plan.{PlanView}
use Rattle.ub_query.specs.declared.cell.Cell.{Cell}
use Rattle.ub_table.specs.declared.row.Row.{Row}
use Rattle.ub_tetris.proofs.Laws.{broken_after, broken_before}
use Rattle.ub_tetris.specs.Held.{rows_held}
use Rattle.ub_tetris.specs.Sweep.{HasBroken, HasGiven, SweepView}
use Rattle.ub_tree.specs.View.{TreeView, regions}

pub ready_begun : (t : TreeView) (p : PlanView) → IsReady t p → IsReady (begun t) p
ready_begun t p ready = record { sound = (Keeps-by t (begun t) (begun_traced t (begun t) refl)).sound ready.sound; planned = ready.planned }

-- it was while the next row was looked for
pub swept_before : (plan : PlanView) (start t new : TreeView) (s : SweepView) (rows : List (List Cell)) → plan.asked.group ≡ [] → Keeps start t → (swept : HasSwept plan t s rows)
    → new.placed ≡ t.placed → new.trace.fetches ≡ fetches_then start.trace.fetches (length new.trace.pages) → IfSome plan.asked.limit (λ most. length rows < most)
    → HasBroken new s swept.rest swept.fetched swept.unread → (count : ℕ) × HasFetchedFirst plan (begun start) new count
swept_before plan start t new s rows plain kept swept placed fetches left broken =
    let (later, visits) = broken_before t.schema plan s.dim s.is_descending t.next (regions t) (rows_held s.held) swept.given swept.rest swept.fetched swept.unread broken.read broken.left
    (over plan t s swept.given swept.rest swept.fetched swept.unread swept.sweeping) swept.sweeping.under_way (short plan t s rows swept left) broken.parts
    broken.reached in
    let events = (swept.fetched ++ broken.read) ++ later in
    swept_first plan start new (swept.fetched ++ broken.read) later (placed ∙ kept.regions.placed) broken.noted fetches
    (visits_at plan start t events kept (row_visits plan s.dim s.is_descending t.schema (regions t) (map (λ event. event.span) events) swept.sweeping.swept.kind plain visits))

-- it was after the next row was given
pub swept_after : (plan : PlanView) (start t new : TreeView) (s new_s : SweepView) (rows : List (List Cell)) → plan.asked.group ≡ [] → (swept : HasSwept plan t s rows) → Keeps start new
    → new.trace.fetches ≡ fetches_then start.trace.fetches (length new.trace.pages) → IfSome plan.asked.limit (λ most. length rows < most) → (row : Row)
    → HasGiven plan new new_s swept.given swept.rest swept.fetched swept.unread row → (count : ℕ) × HasFetchedFirst plan (begun start) new count
swept_after plan start t new s new_s rows plain swept kept fetches left row gives =
    let (later, visits) = broken_after new.schema plan new_s.dim new_s.is_descending new.next (regions new) (rows_held new_s.held) swept.given gives.more (swept.fetched ++ gives.read) gives.left row
    (over plan new new_s (swept.given ++ row ∷ []) gives.more (swept.fetched ++ gives.read) gives.left gives.sweeping) gives.sweeping.under_way
    (short plan t s rows swept left) gives.reached in
    let events = (swept.fetched ++ gives.read) ++ later in
    swept_first plan start new (swept.fetched ++ gives.read) later kept.regions.placed gives.sweeping.noted fetches
    (visits_at plan start new events kept (row_visits plan new_s.dim new_s.is_descending new.schema (regions new) (map (λ event. event.span) events) gives.sweeping.swept.kind plain visits))
