-- Which rows came to a sweep over any tree, and which of them it gave.
use Rattle.std.proofs.Common.{◌≡◌, ◌∙◌, ◌++◌, ◌∷◌, ℕ, Bool, List, [], Some, filter, map, inl, inr, refl, sym, ap, subst, append_assoc}
use Rattle.std.proofs.lemmas.List.{append-nil, map-append}
use Rattle.std.proofs.lemmas.List.Sorted.{IsPermutation-append_left, IsPermutation-append_right, IsPermutation-cons, IsPermutation-map, IsPermutation-refl, IsPermutation-trans}
use Rattle.std.specs.List.Sorted.{IsPermutation}
use Rattle.ub_filter.specs.Choice.{is_chosen}
use Rattle.ub_planning.specs.Plan.{PlanView}
use Rattle.ub_query.specs.declared.query.SortKey.{SortKey}
use Rattle.ub_table.specs.declared.row.Row.{Row}
use Rattle.ub_table.specs.declared.schema.Schema.{Schema}
use Rattle.ub_tetris.proofs.AlongFacts.{keys_of}
use Rattle.ub_tetris.proofs.EffectFacts.{AwaitsThese, place_before}
use Rattle.ub_tetris.proofs.PlaceFacts.{place_from, place_none, place_opened, place_then, same_lowest}
use Rattle.ub_tetris.proofs.StepFacts.{rows_of_held}
use Rattle.ub_tetris.specs.Effects.{AreRowsOf, GivesRows, HasFound}
use Rattle.ub_tetris.specs.Held.{HeldRow, held_row, rows_held}
use Rattle.ub_tetris.specs.Awaited.{AreInPlaceOf, AwaitedRegion, AwaitedStretch, as_lowest, lowest}
use Rattle.ub_tetris.specs.Sweep.{SweepView}
use Rattle.ub_tetris.specs.inner.Kept.{AreTakenAt, HoldsAlso, TakesFirst}
use Rattle.ub_tetris.specs.inner.Turns.{HasComeTo, HasFetched, HasOpened, HasTakenNext}
use Rattle.ub_tree.proofs.Laws.{IsTraced}
use Rattle.ub_tree.specs.Effects.{IsTakenIn}
use Rattle.ub_tree.specs.View.{TreeView}

-- ---- rows that came

pub found_none : (plan : PlanView) (t : TreeView) (s : SweepView) → HasFound plan t s s []
found_none plan t s = record { come = []; left = place_none t plan.covering.boxes s.dim s.is_descending s.awaited; are = refl }

-- the rows of regions after those of others
rows_joined : (plan : PlanView) (t : TreeView) (some more : List AwaitedRegion) (xs ys : List Row) → AreRowsOf plan t some xs → AreRowsOf plan t more ys
    → AreRowsOf plan t (some ++ more) (xs ++ ys)
rows_joined plan t [] more xs ys none are = subst (λ (rows : List Row). AreRowsOf plan t more (rows ++ ys)) (sym none) are
rows_joined plan t (a ∷ some) more xs ys (region, taken, choice, rest, rows_are, others) are = (
  region,
  taken,
  choice,
  rest ++ ys,
  ap (λ (rows : List Row). rows ++ ys) rows_are ∙ append_assoc (filter (is_chosen choice t.schema plan) region.rows) rest ys,
  rows_joined plan t some more rest ys others are,
)

-- one turn
module _ (plan : PlanView) (t new : TreeView) (s s_then new_s : SweepView) (next : AwaitedStretch) (rows : List Row) (taken : HasTakenNext s s_then next) where
  found_opened : HasOpened plan t new s_then new_s next → rows ≡ [] → HasFound plan t s new_s rows
  found_opened opened none =
      let dim_is : s_then.dim ≡ s.dim = ap (λ (v : SweepView). v.dim) taken.same in
      let down_is : s_then.is_descending ≡ s.is_descending = ap (λ (v : SweepView). v.is_descending) taken.same in
      record {
        come = [];
        left = place_from t plan.covering.boxes s.dim s.is_descending s.awaited (next ∷ s_then.awaited) new_s.awaited taken.parts
            (rw (← dim_is, ← down_is) (place_opened t plan.covering.boxes s_then.dim s_then.is_descending next s_then.awaited opened.queued new_s.awaited opened.now_are opened.valued opened.parts));
        are = none;
      }

  found_fetched : new_s.awaited ≡ s_then.awaited → HasFetched plan t new next rows → HasFound plan t s new_s rows
  found_fetched still has =
      let a : AwaitedRegion = record { value = next.value; region = next.stretch.span } in
      let own : AreInPlaceOf t plan.covering.boxes s.dim s.is_descending (next ∷ s_then.awaited) (as_lowest a ∷ s_then.awaited) =
      subst (λ (x : AwaitedStretch). AreInPlaceOf t plan.covering.boxes s.dim s.is_descending (next ∷ s_then.awaited) (x ∷ s_then.awaited)) (same_lowest next has.read.lowest)
      (place_none t plan.covering.boxes s.dim s.is_descending (next ∷ s_then.awaited)) in
      record {
        come = a ∷ [];
        left = place_from t plan.covering.boxes s.dim s.is_descending s.awaited (next ∷ s_then.awaited) (as_lowest a ∷ new_s.awaited) taken.parts
            (subst (λ (those : List AwaitedStretch). AreInPlaceOf t plan.covering.boxes s.dim s.is_descending (next ∷ s_then.awaited) (as_lowest a ∷ those)) (sym still) own);
        are = (has.region, has.read.taken, has.choice, [], has.rows_are ∙ sym (append-nil (filter (is_chosen has.choice t.schema plan) has.region.rows)), refl);
      }

  pub found_turn : HasComeTo plan t new s_then new_s next rows → HasFound plan t s new_s rows
  found_turn come = elim come.how [
    | inl opened ↦ found_opened opened.0 opened.1
    | inr has ↦ found_fetched has.0 has.1
  ]

rows_before : (plan : PlanView) (t now : TreeView) (come : List AwaitedRegion) (rows : List Row) → IsTraced t now → AreRowsOf plan now come rows → AreRowsOf plan t come rows
rows_before plan t now [] rows traced are = are
rows_before plan t now (a ∷ come) rows traced (region, taken, choice, more, is, others) = (
  region,
  subst (λ (v : TreeView). IsTakenIn v a.region region) traced taken,
  choice,
  more,
  is ∙ ap (λ (v : TreeView). filter (is_chosen choice v.schema plan) region.rows ++ more) traced,
  rows_before plan t now come more traced others,
)

-- one turn after others
pub found_then : (plan : PlanView) (t now : TreeView) (s mid new_s : SweepView) (rows more : List Row) → IsTraced t now → AwaitsThese s mid mid.awaited → HasFound plan t s mid rows → HasFound plan now mid new_s more
    → HasFound plan t s new_s (rows ++ more)
found_then plan t now s mid new_s rows more traced awaits first second =
    let place = place_before t now plan.covering.boxes s.dim s.is_descending mid.awaited (lowest second.come ++ new_s.awaited) traced
    (subst (λ (d : ℕ). AreInPlaceOf now plan.covering.boxes d s.is_descending mid.awaited (lowest second.come ++ new_s.awaited)) awaits.0
    (subst (λ (b : Bool). AreInPlaceOf now plan.covering.boxes mid.dim b mid.awaited (lowest second.come ++ new_s.awaited)) awaits.1 second.left)) in
    record {
      come = first.come ++ second.come;
      left = subst (λ (those : List AwaitedStretch). AreInPlaceOf t plan.covering.boxes s.dim s.is_descending s.awaited (those ++ new_s.awaited)) (sym (map-append as_lowest first.come second.come))
          (place_then t plan.covering.boxes s.dim s.is_descending s.awaited (lowest first.come) mid.awaited (lowest second.come) new_s.awaited first.left place);
      are = rows_joined plan t first.come second.come rows more first.are (rows_before plan t now second.come more traced second.are);
    }

-- ---- rows that were held, and given

pub gives_none : (plan : PlanView) (t : TreeView) (s : SweepView) → GivesRows plan t s s []
gives_none plan t s = record {
  came = [];
  found = found_none plan t s;
  kept = subst (λ (rows : List Row). IsPermutation rows (rows_held s.held)) (sym (append-nil (rows_held s.held))) (IsPermutation-refl (rows_held s.held));
}

-- rows held beside those that were
rows_also : (schema : Schema) (keys : List SortKey) (rows : List Row) (old new : List HeldRow) → HoldsAlso schema keys rows old new → IsPermutation (rows_held old ++ rows) (rows_held new)
rows_also schema keys rows old new holds =
    let same : rows_held (old ++ map (held_row schema keys) rows) ≡ rows_held old ++ rows =
    map-append (λ (h : HeldRow). h.row) old (map (held_row schema keys) rows) ∙ ap (λ (rs : List Row). rows_held old ++ rs) (rows_of_held schema keys rows) in
    subst (λ (rs : List Row). IsPermutation rs (rows_held new)) same (IsPermutation-map (λ (h : HeldRow). h.row) (old ++ map (held_row schema keys) rows) new holds)

-- those that came by one turn more are held too
pub gives_more : (plan : PlanView) (t now new : TreeView) (s s_now s_then new_s : SweepView) (next : AwaitedStretch) (rows : List Row) → IsTraced t now → AwaitsThese s s_now s_now.awaited
    → HasTakenNext s_now s_then next → HasComeTo plan now new s_then new_s next rows → HoldsAlso now.schema (keys_of plan.asked) rows s_then.held new_s.held
    → GivesRows plan t s s_now [] → GivesRows plan t s new_s []
gives_more plan t now new s s_now s_then new_s next rows traced awaits taken come holds so_far =
    let before : List Row = rows_held s.held in
    let from : HoldsAlso now.schema (keys_of plan.asked) rows s_now.held new_s.held =
    subst (λ (held : List HeldRow). HoldsAlso now.schema (keys_of plan.asked) rows held new_s.held) (ap (λ (v : SweepView). v.held) taken.same) holds in
    record {
      came = so_far.came ++ rows;
      found = found_then plan t now s s_now new_s so_far.came rows traced awaits so_far.found (found_turn plan now new s_now s_then new_s next rows taken come);
      kept = subst (λ (all : List Row). IsPermutation all (rows_held new_s.held)) (append_assoc before so_far.came rows)
          (IsPermutation-trans ((before ++ so_far.came) ++ rows) (rows_held s_now.held ++ rows) (rows_held new_s.held)
          (IsPermutation-append_left rows (before ++ so_far.came) (rows_held s_now.held) so_far.kept)
          (rows_also now.schema (keys_of plan.asked) rows s_now.held new_s.held from));
    }

-- more of those held were given
pub gives_then : (plan : PlanView) (t : TreeView) (s mid new_s : SweepView) (given more : List Row) → mid.awaited ≡ new_s.awaited
    → IsPermutation (rows_held mid.held) (more ++ rows_held new_s.held) → GivesRows plan t s mid given → GivesRows plan t s new_s (given ++ more)
gives_then plan t s mid new_s given more same takes so_far = record {
  came = so_far.came;
  found = record {
    come = so_far.found.come;
    left = subst (λ (those : List AwaitedStretch). AreInPlaceOf t plan.covering.boxes s.dim s.is_descending s.awaited (lowest so_far.found.come ++ those)) same so_far.found.left;
    are = so_far.found.are;
  };
  kept = subst (λ (rows : List Row). IsPermutation (rows_held s.held ++ so_far.came) rows) (sym (append_assoc given more (rows_held new_s.held)))
      (IsPermutation-trans (rows_held s.held ++ so_far.came) (given ++ rows_held mid.held) (given ++ (more ++ rows_held new_s.held)) so_far.kept
      (IsPermutation-append_right given (rows_held mid.held) (more ++ rows_held new_s.held) takes));
}

-- the first was taken
pub takes_row : (held left : List HeldRow) (row : Row) → TakesFirst held left (Some row) → IsPermutation (rows_held held) (row ∷ rows_held left)
takes_row held left row (g, same, is, least) =
    subst (λ (r : Row). IsPermutation (rows_held held) (r ∷ rows_held left)) is (IsPermutation-map (λ (h : HeldRow). h.row) held (g ∷ left) same)

-- and those of its coordinate after it
pub takes_rows : (dim value : ℕ) (rows : List Row) (held left : List HeldRow) → AreTakenAt dim value held left rows → IsPermutation (rows_held held) (rows ++ rows_held left)
takes_rows dim value [] held left same = subst (λ (hs : List HeldRow). IsPermutation (rows_held held) (rows_held hs)) (sym same) (IsPermutation-refl (rows_held held))
takes_rows dim value (row ∷ rows) held left (mid, (found, takes), others) =
    IsPermutation-trans (rows_held held) (row ∷ rows_held mid) (row ∷ (rows ++ rows_held left)) (takes_row held mid row takes)
    (IsPermutation-cons row (rows_held mid) (rows ++ rows_held left) (takes_rows dim value rows mid left others))
