-- The count of the regions that meet some boxes, which a tree hands over one after the other.
use Rattle.std.proofs.Common.{◌≡◌, ◌≤◌, ◌<◌, ◌+◌, ◌++◌, inl, inr, ℕ, Bool, true, false, not, suc, List, [], ◌∷◌, Option, Some, None, IfSome, is_some, Result, Ok, Err, length, map, min, ◌∙◌, sym, ap, refl, arith, subst, rules}
use Rattle.std.proofs.lemmas.List.{length-append}
use Rattle.std.specs.Result.{IsErrAnd}
use Rattle.ub_bigmin.specs.Box.{Corners}
use Rattle.ub_plan.specs.Explained.{AreMet}
use Rattle.ub_plan.specs.inner.Counting.{last_or}
use Rattle.ub_planning.specs.Visits as plan
use Rattle.ub_planning.specs.Visits.{spans_up_to}
use Rattle.ub_region.specs.Those.{AreThose}
use Rattle.ub_region.specs.Regions.{firsts_of}
use Rattle.ub_region.specs.Spans.{span_end}
use Rattle.ub_table.specs.declared.row.Key.{Key}
use Rattle.ub_tree.proofs.Laws.{answers_are_those_that_meet, answers_ended, counted_of, firsts_placed, left_after, left_less, met_few, next_is_later}
use Rattle.ub_tree.specs.Effects.{IsSearchFault, SearchesFor}
use Rattle.ub_tree.specs.Handing.{AreMetBy, AreNext}
use Rattle.ub_tree.specs.Placed.{Placed, regions_in, entry_of}
use Rattle.ub_tree.specs.Reading.{IsWalkFault, SearchesTree, fault_of_tree}
use Rattle.ub_tree.specs.Spans.{regions_of, Meets, Region}
use Rattle.ub_tree.specs.Told.{AreFirst, IsRegionOf, SeeksNext}
use Rattle.ub_tree.specs.View.{TreeView, IsSound, regions, spans_of}
use Rattle.ub_tree.specs.declared.fault.TreeFault.{TreeFault}
use Rattle.ub_tree.specs.declared.read_fault.ReadFault.{ReadFault}
use Rattle.ub_zaddr.specs.Address.{last_address}

-- the spans that meet the boxes as the tree tells them, and as the plan does
met_in_step : (last : ℕ) (boxes : List Corners) (placed : List Placed) (those : List Region) → AreThose (Meets boxes) (regions_of last (map entry_of placed)) those
    → (meeting : List plan.Span) × AreThose (λ (span : plan.Span). plan.Meets boxes span.from span.to) (spans_up_to last (regions_in placed)) meeting × (length those ≡ length meeting)
met_in_step last boxes [] those are = ([], refl, ap (λ (xs : List Region). length xs) are)
met_in_step last boxes (p ∷ placed) those (inl are) =
    let (meeting, more, long) = met_in_step last boxes placed are.1 are.3 in
    let here : plan.Meets boxes p.region.first.z (span_end last (firsts_of (regions_in placed))) =
    subst (λ (keys : List Key). plan.Meets boxes p.region.first.z (span_end last keys)) (firsts_placed placed) are.0 in (
      record { region = p.region; from = p.region.first.z; to = span_end last (firsts_of (regions_in placed)) } ∷ meeting,
      inl (here, meeting, refl, more),
      ap (λ (xs : List Region). length xs) are.2 ∙ ap suc long,
    )
met_in_step last boxes (p ∷ placed) those (inr are) =
    let (meeting, more, long) = met_in_step last boxes placed those are.1 in
    let out : ¬ (plan.Meets boxes p.region.first.z (span_end last (firsts_of (regions_in placed)))) =
    λ meets. are.0 (subst (λ (keys : List Key). plan.Meets boxes p.region.first.z (span_end last keys)) (sym (firsts_placed placed)) meets) in
    (meeting, inr (out, more), long)

met_are : (t : TreeView) (boxes : List Corners) (those : List Region) (n : ℕ) → length those ≡ n → AreThose (Meets boxes) (spans_of t) those → AreMet t.schema boxes (regions t) n
met_are t boxes those n count are =
    let (meeting, is, long) = met_in_step (last_address t.schema.dims) boxes t.placed those are in
    (meeting, is, sym count ∙ long)

-- ---- answers asked for one leaf after the other

-- behind the others one more came, which is the last
pub last_more : (first : Option Region) (taken : List Region) (region : Region) → Some region ≡ last_or first (taken ++ region ∷ [])
last_more first [] region = refl
last_more first (x ∷ taken) region = last_more (Some x) taken region

-- where no last one is kept there are none
none_kept : (first : Option Region) (met : List Region) → last_or first met ≡ None → first ≡ None
none_kept first [] same = same
none_kept first (x ∷ met) same = let never : Some x ≡ None = none_kept (Some x) met same in cc

pub none_met : (met : List Region) → last_or None met ≡ None → met ≡ []
none_met [] same = refl
none_met (x ∷ met) same = let never : Some x ≡ None = none_kept (Some x) met same in cc

module _ (boxes : List Corners) (t : TreeView) where
  -- the first answers end with the one that is kept
  ends_kept : (after : Option Region) (met : List Region) (last : Option Region) → AreFirst boxes t after met last → last ≡ last_or after met
  ends_kept after [] last same = sym same
  ends_kept after (x ∷ met) last (gives, first) = ends_kept (Some x) met last first

  -- after the first answers come others
  pub first_then : (from : Option Region) (found : List Region) (after : Option Region) (met : List Region) (last : Option Region) → AreFirst boxes t from found after → AreFirst boxes t after met last
      → AreFirst boxes t from (found ++ met) last
  first_then from [] after met last same more = subst (λ (o : Option Region). AreFirst boxes t o met last) (sym same) more
  first_then from (x ∷ found) after met last (gives, first) more = (gives, first_then (Some x) found after met last first more)

  -- the tree tells of the last of them
  pub last_told : (after : Option Region) (met : List Region) (last : Option Region) → IfSome after (IsRegionOf t) → AreFirst boxes t after met last → IfSome last (IsRegionOf t)
  last_told after [] last told same = subst (λ (o : Option Region). IfSome o (IsRegionOf t)) same told
  last_told after (x ∷ met) last told (gives, first) = last_told (Some x) met last (next_is_later t boxes after x gives).0 first

  -- and no more are left after it than after the one before them
  left_up_to : (after : Option Region) (met : List Region) (last : Option Region) → AreFirst boxes t after met last → left_after t last ≤ left_after t after
  left_up_to after [] last same = subst (λ (o : Option Region). left_after t o ≤ left_after t after) same (omega arith)
  left_up_to after (x ∷ met) last (gives, first) =
      let one = left_less boxes t after x gives in
      let more = left_up_to (Some x) met last first in
      omega arith

  -- fewer, where there are some
  pub left_fewer : (after : Option Region) (met : List Region) → ¬ (last_or None met ≡ None) → (last : Option Region) → AreFirst boxes t after met last → left_after t (last_or None met) < left_after t after
  left_fewer after [] some last first = absurd (some refl)
  left_fewer after (x ∷ met) some last (gives, first) =
      let one = left_less boxes t after x gives in
      let more = subst (λ (o : Option Region). left_after t o ≤ left_after t (Some x)) (ends_kept (Some x) met last first) (left_up_to (Some x) met last first) in
      omega arith

  -- where there are some, the one that is kept is the last
  pub kept_last : (after : Option Region) (met : List Region) → ¬ (last_or None met ≡ None) → (last : Option Region) → AreFirst boxes t after met last → AreFirst boxes t after met (last_or None met)
  kept_last after [] some last first = absurd (some refl)
  kept_last after (x ∷ met) some last first = subst (λ (o : Option Region). AreFirst boxes t after (x ∷ met) o) (ends_kept after (x ∷ met) last first) first

  walk_fault : (e : TreeFault) (found : List Region) (after : Option Region) → AreFirst boxes t None found after → IsSearchFault (SeeksNext boxes t after) t e → IsWalkFault boxes t (fault_of_tree e)
  walk_fault e found after first h = search rules

  -- a search that is refused after the first answers
  pub refused_then : {T U : Type 0} (r : Result T ReadFault) (e : TreeFault) (found : List Region) (after : Option Region) (new : TreeView) → IsErrAnd r (λ x. x ≡ fault_of_tree e)
      → AreFirst boxes t None found after → SearchesFor {A = U} (SeeksNext boxes t after) t new (Err e) → SearchesTree boxes t new r
  refused_then (Ok x) e found after new is first h = absurd is
  refused_then {T} (Err f) e found after new is first h = rw is (record {
    same = h.same ∙ ap (λ (n : ℕ). record t { store = record t.store { failed_reads = n } }) (sym (counted_of T e t.store.failed_reads));
    faults = walk_fault e found after first h.faults;
  })

  -- and after one leaf's answers, of which the last is kept
  module _ (found met : List Region) (after last : Option Region) (before count : ℕ) (first : AreFirst boxes t None found after) (counted : before ≡ min (length found) 18446744073709551615)
      (next : AreNext boxes t after met) (more : count ≡ min (before + length met) 18446744073709551615) (kept : last ≡ last_or None met) where
    -- there are more, which are counted
    pub counted_on : ¬ (last ≡ None) → (all : List Region) × AreFirst boxes t None all last × (count ≡ min (length all) 18446744073709551615)
    counted_on some =
        let ((end, ahead), ends) = next in
        let is : AreFirst boxes t after met last = subst (λ (o : Option Region). AreFirst boxes t after met o) (sym kept) (kept_last after met (λ none. some (kept ∙ none)) end ahead) in
        let long : length (found ++ met) ≡ length found + length met = length-append found met in
        (found ++ met, first_then None found after met last first is, omega arith)

    pub counted_less : ¬ (last ≡ None) → left_after t last < left_after t after
    counted_less some =
        let ((end, ahead), ends) = next in
        subst (λ (o : Option Region). left_after t o < left_after t after) (sym kept) (left_fewer after met (λ none. some (kept ∙ none)) end ahead)

    -- there are no more, so these are all
    pub counted_all : last ≡ None → AreMetBy boxes t found × (count ≡ min (length found) 18446744073709551615)
    counted_all is =
        let none : met ≡ [] = none_met met (sym kept ∙ is) in
        let long : length met ≡ 0 = ap (λ (l : List Region). length l) none in
        (answers_ended boxes t None found after first (next.1 none), omega arith)

-- ---- their count

-- whether one is kept
pub none_is : (o : Option Region) (none : Bool) → is_some o ≡ not none → none ≡ true → o ≡ None
none_is None none told is = refl
none_is (Some x) none told is = cc

pub some_is : (o : Option Region) (none : Bool) → is_some o ≡ not none → none ≡ false → ¬ (o ≡ None)
some_is o none told is same = cc

-- of a sound tree those that meet the boxes, few enough to be counted
pub counted_met : (t : TreeView) (boxes : List Corners) (met : List Region) (n : ℕ) → IsSound t → AreMetBy boxes t met → n ≡ min (length met) 18446744073709551615 → AreMet t.schema boxes (regions t) n
counted_met t boxes met n sound by counted =
    let few = met_few boxes t met sound by in
    let all : length met ≡ n = omega arith in
    met_are t boxes met n all (answers_are_those_that_meet t boxes met sound by)
