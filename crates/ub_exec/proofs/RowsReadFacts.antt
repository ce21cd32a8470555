-- The rows of the regions that were taken in, one after the other, over any tree; and which of them a choice takes.
use Rattle.std.proofs.Common.{◌≡◌, ◌≢◌, ◌∙◌, ◌++◌, ◌∷◌, Bool, List, [], Option, Some, None, filter, refl, sym, ap, subst, append_assoc}
use Rattle.std.proofs.lemmas.List.{append-nil}
use Rattle.std.proofs.lemmas.List.Elements.{Contains-append_left, filter-append}
use Rattle.std.specs.List.{Contains}
use Rattle.ub_bigmin.specs.Box.{Corners}
use Rattle.ub_exec.proofs.NotedFacts.{HasReadUpTo, HasReadUpTo-begun, all_told, come_with}
use Rattle.ub_exec.specs.Reading.{AreRowsIn, AreRowsOfNext, HasReadNext, HasReadRows}
use Rattle.ub_filter.specs.Choice.{is_chosen}
use Rattle.ub_filter.specs.declared.choice.Choice.{Choice}
use Rattle.ub_filter.specs.declared.choice.Choice.TheVariants.{Boxes, Condition}
use Rattle.ub_planning.proofs.Laws.{row_is_told, rows_are_points}
use Rattle.ub_planning.specs.Plan.{PlanView, plan_of}
use Rattle.ub_query.proofs.Laws.{contains_here, contains_later}
use Rattle.ub_query.specs.Groups.{is_selected}
use Rattle.ub_query.specs.Shape.{Asked}
use Rattle.ub_store.specs.View.{Trace}
use Rattle.ub_table.specs.Region.{RegionRows, IsRegion}
use Rattle.ub_table.specs.declared.row.Row.{Row}
use Rattle.ub_table.specs.declared.schema.Schema.{Schema}
use Rattle.ub_tree.proofs.Laws.{IsTraced}
use Rattle.ub_tree.specs.Effects.{IsTakenIn}
use Rattle.ub_tree.specs.Spans.{Region}
use Rattle.ub_tree.specs.View.{TreeView}

-- ---- one region more

rows_in_more : (t : TreeView) (spans : List Region) (rows : List Row) (span : Region) (region : RegionRows) → AreRowsIn t spans rows → IsTakenIn t span region
    → AreRowsIn t (spans ++ span ∷ []) (rows ++ region.rows)
rows_in_more t [] rows span region none taken = (region, [], taken, refl, ap (λ (rs : List Row). rs ++ region.rows) none ∙ sym (append-nil region.rows))
rows_in_more t (first ∷ spans) rows span region (front, more, held, rest, is) taken = (
  front,
  more ++ region.rows,
  held,
  rows_in_more t spans more span region rest taken,
  ap (λ (rs : List Row). rs ++ region.rows) is ∙ append_assoc front.rows more region.rows,
)

-- so far as a walk has come, these are the rows
pub record HasRowsUpTo (boxes : List Corners) (start now : TreeView) (after : Option Region) (rows : List Row) : Type 0 where
  pub read : HasReadUpTo boxes start now after
  pub rows_are : AreRowsIn start read.spans rows

pub HasRowsUpTo-none : (boxes : List Corners) (t : TreeView) → HasRowsUpTo boxes t t None []
HasRowsUpTo-none boxes t = record { read = (HasReadUpTo-begun boxes t).0; rows_are = subst (λ (spans : List Region). AreRowsIn t spans []) (sym (HasReadUpTo-begun boxes t).1) refl }

module _ (boxes : List Corners) (start now new : TreeView) (traced : IsTraced start now) (after : Option Region) (rows more : List Row) (come : HasRowsUpTo boxes start now after rows) where
  pub rows_on : (span : Region) (copied : Option Region) → copied ≡ after → HasReadNext boxes copied now new (Some span) → AreRowsOfNext now (Some span) more
      → HasRowsUpTo boxes start new (Some span) (rows ++ more)
  rows_on span copied same next (region, taken, is) =
      let (read, spans) = come_with boxes start now new traced after come.read span copied same next in
      let all = rows_in_more start come.read.spans rows span region come.rows_are (subst (λ (t : TreeView). IsTakenIn t span region) traced taken) in
      record {
        read = read;
        rows_are = subst (λ (ss : List Region). AreRowsIn start ss (rows ++ more)) (sym spans)
            (subst (λ (rs : List Row). AreRowsIn start (come.read.spans ++ span ∷ []) (rows ++ rs)) (sym is) all);
      }

  pub rows_whole : (found copied : Option Region) → copied ≡ after → ((span : Region) → found ≡ Some span → ⊥) → HasReadNext boxes copied now new found → AreRowsOfNext now found more
      → HasReadRows boxes start new (rows ++ more)
  rows_whole None copied same none next is = record {
    spans = come.read.spans;
    all = all_told boxes start now new traced after come.read copied same next;
    rows_are = subst (λ (rs : List Row). AreRowsIn start come.read.spans rs) (sym (ap (λ (rs : List Row). rows ++ rs) is ∙ append-nil rows)) come.rows_are;
    trace_is = ap (λ (t : Trace). t.pages) next.1 ∙ come.read.trace_is;
  }
  rows_whole (Some span) copied same none next is = absurd (none span refl)

-- ---- which of them a choice takes

-- of the rows of a region each choice takes the selected ones, whatever stands beside it
told_alike : (choice : Choice) (schema : Schema) (q : Asked) (region : RegionRows) → q.limit ≢ Some 0 → IsRegion schema region → (row : Row) → Contains region.rows row
    → is_chosen choice schema (plan_of schema q) row ≡ is_selected schema q.filter row
told_alike Boxes schema q region some is row there =
    row_is_told schema q row some (rows_are_points schema (region ∷ []) row (is, tt, tt) (Contains-append_left region.rows [] row there))
told_alike Condition schema q region some is row there = refl

filter_alike : (f g : Row → Bool) (rows : List Row) → ((row : Row) → Contains rows row → f row ≡ g row) → filter f rows ≡ filter g rows
filter_alike f g [] alike = refl
filter_alike f g (row ∷ rows) alike =
    let rest = filter_alike f g rows (λ r there. alike r (contains_later row rows r there)) in
    let first = alike row (contains_here row rows) in
    rw (first, rest) refl

chosen_in : (choice : Choice) (q : Asked) (t : TreeView) (spans : List Region) (rows : List Row) → q.limit ≢ Some 0 → AreRowsIn t spans rows
    → filter (is_chosen choice t.schema (plan_of t.schema q)) rows ≡ filter (is_selected t.schema q.filter) rows
chosen_in choice q t [] rows some are = rw are refl
chosen_in choice q t (span ∷ spans) rows some (region, more, taken, rest, is) =
    let f = is_chosen choice t.schema (plan_of t.schema q) in
    let g = is_selected t.schema q.filter in
    let first : filter f region.rows ≡ filter g region.rows = filter_alike f g region.rows (told_alike choice t.schema q region some taken.0) in
    let later : filter f more ≡ filter g more = chosen_in choice q t spans more some rest in
    ap (filter f) is ∙ filter-append f region.rows more ∙ ap (λ (rs : List Row). rs ++ filter f more) first ∙ ap (λ (rs : List Row). filter g region.rows ++ rs) later
    ∙ sym (filter-append g region.rows more) ∙ ap (filter g) (sym is)

-- so it is of all rows that a walk hands over
pub chosen_read : (choice : Choice) (p : PlanView) (old new : TreeView) (rows : List Row) → HasReadRows p.covering.boxes old new rows → p ≡ plan_of old.schema p.asked → p.asked.limit ≢ Some 0
    → filter (is_chosen choice old.schema p) rows ≡ filter (is_selected old.schema p.asked.filter) rows
chosen_read choice p old new rows read is some =
    ap (λ (x : PlanView). filter (is_chosen choice old.schema x) rows) is ∙ chosen_in choice p.asked old read.spans rows some read.rows_are
