-- A region is fetched, or a stretch opened: how many rows can still be given then.
use Rattle.std.proofs.Common.{◌≡◌, ◌<◌, ◌≤◌, ◌+◌, ◌^◌, ◌∙◌, ◌∷◌, ◌++◌, Bool, List, length, map, inl, inr, sym, ap, subst, arith}
use Rattle.std.proofs.lemmas.List.{length-append, length-map}
use Rattle.std.proofs.lemmas.List.Sorted.{length_permutation}
use Rattle.std.proofs.lemmas.List.Sums.{count_by-le-length, length-filter}
use Rattle.std.specs.List.{filter}
use Rattle.ub_filter.specs.Choice.{is_chosen}
use Rattle.ub_planning.specs.Plan.{PlanView}
use Rattle.ub_query.specs.declared.query.SortKey.{SortKey}
use Rattle.ub_table.specs.Region.{IsRegion, RegionRows}
use Rattle.ub_table.specs.declared.row.Row.{Row}
use Rattle.ub_table.specs.declared.schema.Schema.{Schema}
use Rattle.ub_tetris.proofs.StretchFacts.{parts_below}
use Rattle.ub_tetris.proofs.TimesFacts.{most_append, most_cons, most_parts, most_same, some_power}
use Rattle.ub_tetris.specs.Awaited.{AwaitedStretch, most_regions}
use Rattle.ub_tetris.specs.Held.{HeldRow, held_row}
use Rattle.ub_tetris.specs.Sweep.{SweepView, rows_left}
use Rattle.ub_tetris.specs.inner.Kept.{HoldsAlso}
use Rattle.ub_tetris.specs.inner.Turns.{HasComeTo, HasOpened, HasRead, HasTakenNext}
use Rattle.ub_tree.specs.View.{TreeView}

-- reading it leaves the schema
pub schema_read : (t new : TreeView) (next : AwaitedStretch) (region : RegionRows) (schema : Schema) → HasRead t new next region → schema ≡ new.schema → schema ≡ t.schema
schema_read t new next region schema read is = is ∙ ap (λ (v : TreeView). v.schema) read.same

-- ---- how many rows are left

-- no more are held beside those that were than the region's page has room for
held_few : (choice : Row → Bool) (schema of_tree : Schema) (keys : List SortKey) (region : RegionRows) (old new : List HeldRow) → IsRegion of_tree region
    → HoldsAlso schema keys (filter choice region.rows) old new → length new ≤ length old + 64
held_few choice schema of_tree keys region old new is holds =
    let chosen = filter choice region.rows in
    let same : length new ≡ length (old ++ map (held_row schema keys) chosen) = length_permutation (old ++ map (held_row schema keys) chosen) new holds in
    let parts = length-append old (map (held_row schema keys) chosen) in
    let each = length-map chosen (held_row schema keys) in
    let passed : length (filter choice region.rows) ≤ length region.rows = rw (length-filter choice region.rows) (count_by-le-length choice region.rows) in
    let few = is.few in
    let most : of_tree.page_rows ≤ 64 = of_tree.counts.few_rows in
    omega arith

-- ---- how many regions there can be

fetched_fewer : (next : AwaitedStretch) (awaited : List AwaitedStretch) → most_regions awaited < most_regions (next ∷ awaited)
fetched_fewer next awaited =
    let both = most_cons next awaited in
    let some = some_power next.stretch.level in
    omega (arith, both, some)

pub fewer_fetched : (next : AwaitedStretch) (awaited now : List AwaitedStretch) → now ≡ awaited → most_regions now < most_regions (next ∷ awaited)
fewer_fetched next awaited now same = subst (λ (those : List AwaitedStretch). most_regions those < most_regions (next ∷ awaited)) (sym same) (fetched_fewer next awaited)

-- those that came in the place of a stretch can have fewer
pub fewer_opened : (plan : PlanView) (t new : TreeView) (s new_s : SweepView) (next : AwaitedStretch) → HasOpened plan t new s new_s next → most_regions new_s.awaited < most_regions (next ∷ s.awaited)
fewer_opened plan t new s new_s next opened =
    let both = most_cons next s.awaited in
    let after = most_same (s.awaited ++ opened.queued) new_s.awaited opened.now_are in
    let parts = most_append s.awaited opened.queued in
    let less : most_regions opened.queued < 171 ^ next.stretch.level = elim opened.parts [
      | inl are ↦ let (all, few) = parts_below t plan.covering.boxes next.stretch opened.queued opened.upper are in most_parts next opened.queued opened.upper all few
      | inr none ↦
          let zero_left : most_regions opened.queued ≡ 0 = ap most_regions none.0 in
          let some = some_power next.stretch.level in
          omega (arith, zero_left, some)
    ] in
    omega (arith, both, after, parts, less)

-- ---- so there are no more rows to give than before

few_rows : (plan : PlanView) (t new : TreeView) (s new_s : SweepView) (next : AwaitedStretch) (rows : List Row) (keys : List SortKey) → HasComeTo plan t new s new_s next rows
    → HoldsAlso t.schema keys rows s.held new_s.held → length new_s.held ≤ length s.held + 64
few_rows plan t new s new_s next rows keys come holds = elim come.how [
  | inl opened ↦ let same : length new_s.held ≡ length s.held = ap length opened.0.held in omega (arith, same)
  | inr fetched ↦
      let has = fetched.1 in
      held_few (is_chosen has.choice t.schema plan) t.schema t.schema keys has.region s.held new_s.held has.read.taken.0
      (subst (λ (rs : List Row). HoldsAlso t.schema keys rs s.held new_s.held) has.rows_are holds)
]

pub few_come : (plan : PlanView) (t new : TreeView) (s s_then new_s : SweepView) (next : AwaitedStretch) (rows : List Row) (keys : List SortKey) → HasTakenNext s s_then next
    → HasComeTo plan t new s_then new_s next rows → HoldsAlso t.schema keys rows s_then.held new_s.held → rows_left new_s ≤ rows_left s
few_come plan t new s s_then new_s next rows keys taken come holds =
    let few = few_rows plan t new s_then new_s next rows keys come holds in
    let same = most_same s.awaited (next ∷ s_then.awaited) taken.parts in
    let less = come.fewer in
    let held : length s_then.held ≡ length s.held = ap (λ (v : SweepView). length v.held) taken.same in
    omega (arith, few, same, less, held)

-- with each turn fewer regions can be left
pub fewer_left : (plan : PlanView) (t new : TreeView) (s s_then new_s : SweepView) (next : AwaitedStretch) (rows : List Row) → HasTakenNext s s_then next → HasComeTo plan t new s_then new_s next rows
    → most_regions new_s.awaited < most_regions s.awaited
fewer_left plan t new s s_then new_s next rows taken come =
    let same = most_same s.awaited (next ∷ s_then.awaited) taken.parts in
    let less = come.fewer in
    omega (arith, same, less)
