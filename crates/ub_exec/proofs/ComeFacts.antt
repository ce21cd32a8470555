-- A sweep over any tree, asked for more until the limit is filled or it has none: to which regions it has come, and that it passed over
-- none.
use Rattle.std.proofs.Common.{◌≡◌, ◌<◌, ◌≤◌, ◌∙◌, ◌++◌, ◌∷◌, inl, inr, ℕ, Bool, false, List, [], Option, Some, None, Result, Ok, IfSome, length, map, refl, sym, ap, subst, arith, append_assoc}
use Rattle.std.proofs.lemmas.List.{append-nil, length-map, map-append, take_all}
use Rattle.std.specs.Option.{option_map}
use Rattle.std.specs.List.{AllByRecursion}
use Rattle.ub_bigmin.specs.Box.{Corners, IsValueInSpan}
use Rattle.ub_exec.proofs.NotedFacts.{all_joined}
use Rattle.ub_exec.specs.Answers.{begun}
use Rattle.ub_exec.specs.Reading.{HasSweptFirst, HasSweptSome, HasSweptTo, IsFilled, IsIn}
use Rattle.ub_planning.specs.Plan.{PlanView}
use Rattle.ub_query.proofs.Laws.{contains_here}
use Rattle.ub_table.proofs.Laws.{not_before_origin}
use Rattle.ub_table.specs.declared.row.Row.{Row}
use Rattle.ub_tetris.proofs.Laws.{all_told, asked_more, have_dimension, held_once, met_first, order_then, place_before, times_append, times_cons, weight_most}
use Rattle.ub_tetris.specs.Awaited.{AreInOrder, AreInPlaceOf, AreStretchesOf, AreValued, AwaitedRegion, AwaitedStretch, HaveDimension, IsFirstOn, IsFirstValue, IsWholeAwaited, as_lowest, awaited_at, lowest, times_held}
use Rattle.ub_tetris.specs.Effects.{AreAsked, HasAnswered, Sweeps}
use Rattle.ub_tetris.specs.Sweep.{AreItsStretches, IsSweepOf, SweepView, rows_left}
use Rattle.ub_tetris.specs.declared.fault.SweepFault.{SweepFault}
use Rattle.ub_tree.proofs.Laws.{IsTraced, held_key, whole_is_told}
use Rattle.ub_tree.specs.Stretches.{IsStretchOf, whole_of}
use Rattle.ub_tree.specs.View.{TreeView}

-- ---- one call

-- it hasn't failed, and awaits stretches that the tree tells of
abbrev pub IsAtWork : TreeView → SweepView → Type 0
IsAtWork t s = (s.is_failed ≡ false) × AreItsStretches t s

-- over any tree it came to these regions, and with what it awaits then they came in the place of what it awaited
pub record Comes (p : PlanView) (s : SweepView) (t : TreeView) (come : List AwaitedRegion) (ahead : List AwaitedStretch) : Type 0 where
  pub left : AreInPlaceOf t p.covering.boxes s.dim s.is_descending s.awaited (lowest come ++ ahead)
  pub ordered : AreValued p.covering.boxes s.dim s.is_descending s.awaited → AreInOrder s.is_descending come ahead

-- asked for a row, or for the rows of a value, it came to some regions: each was taken in, and their pages were noted, and no others.
-- Where it finds none it awaits nothing; else there are fewer rows that it can still give
pub record ComesOn {A : Type 0} (p : PlanView) (s new_s : SweepView) (old new : TreeView) (found : Option A) : Type 0 where
  pub come : List AwaitedRegion
  pub comes : Comes p s old come new_s.awaited
  pub course : (new_s.dim ≡ s.dim) × (new_s.is_descending ≡ s.is_descending)
  pub taken : AllByRecursion (λ a. IsIn old a.region) come
  pub trace_is : new.trace.pages ≡ old.trace.pages ++ map (λ a. a.region.page) come
  pub ended : found ≡ None → new_s.awaited ≡ []
  pub fewer : IfSome found (λ given. rows_left new_s < rows_left s)

-- a fault ended that: the pages of the regions to which it came were noted, each once and in their order, and no others; that of the last one
-- alone may be missing
pub record BreaksOff (p : PlanView) (s : SweepView) (old new : TreeView) : Type 0 where
  pub come : List AwaitedRegion
  pub ahead : List AwaitedStretch
  pub comes : Comes p s old come ahead
  pub noted : List ℕ
  pub once : AreAsked come noted
  pub trace_is : new.trace.pages ≡ old.trace.pages ++ noted

-- it came to all regions that were left: each was taken in, and their pages were noted, in its order, and no others
pub record ComesToAll (p : PlanView) (s : SweepView) (old new : TreeView) : Type 0 where
  pub come : List AwaitedRegion
  pub comes : Comes p s old come []
  pub taken : AllByRecursion (λ a. IsIn old a.region) come
  pub trace_is : new.trace.pages ≡ old.trace.pages ++ map (λ a. a.region.page) come

module _ {A : Type 0} (plan : PlanView) (r : Result A SweepFault) (s new_s : SweepView) (old new : TreeView) (told : AreItsStretches old s) (sweeps : Sweeps plan s new_s old new r) where
  comes_to : (ahead : List AwaitedStretch) → ahead ≡ sweeps.ahead → Comes plan s old sweeps.come ahead
  comes_to ahead same = subst (λ (those : List AwaitedStretch). Comes plan s old sweeps.come those) (sym same) (record { left = sweeps.left; ordered = sweeps.ordered told })

  -- what one call says that was ended by a fault
  pub breaks_off : BreaksOff plan s old new
  breaks_off = record { come = sweeps.come; ahead = sweeps.ahead; comes = comes_to sweeps.ahead refl; noted = sweeps.noted; once = sweeps.once; trace_is = sweeps.trace_is }

-- what one call says
pub comes_on : {A : Type 0} (rows : A → List Row) (plan : PlanView) (found : Option A) (s new_s : SweepView) (old new : TreeView) → AreItsStretches old s → Sweeps plan s new_s old new (Ok found)
    → HasAnswered plan old s new_s (option_map rows found) → ComesOn plan s new_s old new found
comes_on rows plan found s new_s old new told sweeps answered =
    let (dim_is, down_is, ahead_is) = sweeps.still in
    record {
      come = sweeps.come;
      comes = comes_to plan (Ok found) s new_s old new told sweeps new_s.awaited ahead_is;
      course = (dim_is, down_is);
      taken = sweeps.taken.1;
      trace_is = sweeps.trace_is ∙ ap (λ (pages : List ℕ). old.trace.pages ++ pages) sweeps.taken.0;
      ended = ended found answered;
      fewer = fewer found answered;
    }
  where
    ended : (found : Option _) → HasAnswered plan old s new_s (option_map rows found) → found ≡ None → new_s.awaited ≡ []
    ended None answered none = answered.0
    ended (Some given) answered none = cc

    fewer : (found : Option _) → HasAnswered plan old s new_s (option_map rows found) → IfSome found (λ given. rows_left new_s < rows_left s)
    fewer None answered = tt
    fewer (Some given) answered = answered.1

-- all at once
pub comes_to_all : (plan : PlanView) (s new_s : SweepView) (old new : TreeView) → AreItsStretches old s → Sweeps {A = Unit {0}} plan s new_s old new (Ok tt) → new_s ≡ record s { awaited = [] }
    → ComesToAll plan s old new
comes_to_all plan s new_s old new told sweeps left =
    let (dim_is, down_is, ahead_is) = sweeps.still in
    record {
      come = sweeps.come;
      comes = comes_to plan (Ok tt) s new_s old new told sweeps [] (sym (ap (λ (v : SweepView). v.awaited) left) ∙ ahead_is);
      taken = sweeps.taken.1;
      trace_is = sweeps.trace_is ∙ ap (λ (pages : List ℕ). old.trace.pages ++ pages) sweeps.taken.0;
    }

-- ---- the regions come to, and what is awaited

all_left : {E : Type 0} (P : E → Type 0) (xs ys : List E) → AllByRecursion P (xs ++ ys) → AllByRecursion P xs
all_left P [] ys all = tt
all_left P (x ∷ xs) ys all = (all.0, all_left P xs ys all.1)

all_right : {E : Type 0} (P : E → Type 0) (xs ys : List E) → AllByRecursion P (xs ++ ys) → AllByRecursion P ys
all_right P [] ys all = all
all_right P (x ∷ xs) ys all = all_right P xs ys all.1

module _ (t : TreeView) (boxes : List Corners) (dim : ℕ) (down : Bool) where
  -- none come to, and the whole awaited
  pub swept_none : (awaited : List AwaitedStretch) → IsWholeAwaited boxes dim down t awaited → HasSweptTo boxes dim down t [] awaited
  swept_none awaited whole = subst (λ (those : List AwaitedStretch). HasSweptTo boxes dim down t [] those) (sym whole.is) (by_value whole.value whole.first)
    where
      by_value : (value : Option ℕ) → IsFirstOn down (IsValueInSpan boxes (whole_of t).span.from (whole_of t).span.to dim) value → HasSweptTo boxes dim down t [] (awaited_at (whole_of t) value)
      by_value None first = record {
        told = tt;
        valued = tt;
        apart = λ key. omega arith;
        all = λ key held upto. let low : 0 ≤ key.z = omega arith in absurd (met_first boxes (whole_of t).span dim down None (key.z, held, low, upto) first refl);
        ordered = tt;
      }
      by_value (Some value) first =
          let whole : AwaitedStretch = record { value = value; stretch = whole_of t } in
          record {
            told = (whole_is_told t, tt);
            valued = (first, tt);
            apart = λ key. let both = times_cons key whole [] in let one = weight_most key whole in omega (arith, both, one);
            all = λ key held upto. held_once key (whole ∷ []) whole (contains_here whole []) (held_key (whole_of t) key (record { from = not_before_origin key; to = tt }));
            ordered = tt;
          }

  -- more come to, over plain variables
  pub swept_more : HaveDimension dim boxes → (come more : List AwaitedRegion) (mid left : List AwaitedStretch) → HasSweptTo boxes dim down t come mid
      → AreInPlaceOf t boxes dim down mid (lowest more ++ left) → (AreValued boxes dim down mid → AreInOrder down more left) → HasSweptTo boxes dim down t (come ++ more) left
  swept_more within come more mid left swept place ordered =
      let told = all_right (λ (a : AwaitedStretch). IsStretchOf t a.stretch) (lowest come) mid swept.told in
      let valued = all_right (λ (a : AwaitedStretch). IsFirstValue boxes dim down a.stretch.span a.value) (lowest come) mid swept.valued in
      record {
        told = subst (λ (those : List AwaitedStretch). AreStretchesOf t those) whole
            (all_joined (λ (a : AwaitedStretch). IsStretchOf t a.stretch) (lowest come) (lowest more ++ left)
            (all_left (λ (a : AwaitedStretch). IsStretchOf t a.stretch) (lowest come) mid swept.told) (all_told t boxes mid (lowest more ++ left) told place.below));
        valued = subst (λ (those : List AwaitedStretch). AreValued boxes dim down those) whole
            (all_joined (λ (a : AwaitedStretch). IsFirstValue boxes dim down a.stretch.span a.value) (lowest come) (lowest more ++ left)
            (all_left (λ (a : AwaitedStretch). IsFirstValue boxes dim down a.stretch.span a.value) (lowest come) mid swept.valued) (place.valued valued));
        apart = λ key.
            let few = swept.apart key in
            let fewer = place.fewer told key in
            let before = times_append key (lowest come) mid in
            let after = times_append key (lowest come) (lowest more ++ left) in
            let same = ap (times_held key) whole in
            omega (arith, few, fewer, before, after, same);
        all = λ key held upto.
            let some = swept.all key held upto in
            let no_fewer = place.all told within key held upto in
            let before = times_append key (lowest come) mid in
            let after = times_append key (lowest come) (lowest more ++ left) in
            let same = ap (times_held key) whole in
            omega (arith, some, no_fewer, before, after, same);
        ordered = order_then down come more mid left swept.ordered (ordered valued) (place.later told valued);
      }
    where
      whole : lowest come ++ (lowest more ++ left) ≡ lowest (come ++ more) ++ left
      whole = sym (append_assoc (lowest come) (lowest more) left) ∙ ap (λ (those : List AwaitedStretch). those ++ left) (sym (map-append as_lowest come more))

-- ---- call after call

-- so far as it has come: these regions were taken in, and their pages noted
pub record HasComeOn (p : PlanView) (start now : TreeView) (s : SweepView) : Type 0 where
  pub come : List AwaitedRegion
  pub swept : (dim : ℕ) (is_descending : Bool) → IsSweepOf start.schema p dim is_descending
      → (s.dim ≡ dim) × (s.is_descending ≡ is_descending) × HasSweptTo p.covering.boxes dim is_descending start come s.awaited
  pub taken : AllByRecursion (λ a. IsIn start a.region) come
  pub trace_is : now.trace.pages ≡ start.trace.pages ++ map (λ a. a.region.page) come

-- it was begun
abbrev pub IsBegunOver : PlanView → TreeView → TreeView → SweepView → Type 0
IsBegunOver p old now s = (dim : ℕ) (is_descending : Bool) → IsSweepOf old.schema p dim is_descending
    → (s.dim ≡ dim) × (s.is_descending ≡ is_descending) × IsWholeAwaited p.covering.boxes dim is_descending now s.awaited

pub HasComeOn-begun : (p : PlanView) (t : TreeView) (s : SweepView) → IsBegunOver p t t s → HasComeOn p t t s
HasComeOn-begun p t s met = record {
  come = [];
  swept = λ dim is_descending of.
      let (dim_is, down_is, whole) = met dim is_descending of in
      (dim_is, down_is, swept_none t p.covering.boxes dim is_descending s.awaited whole);
  taken = tt;
  trace_is = sym (append-nil t.trace.pages);
}

pub HasComeOn-none : (p : PlanView) (old now : TreeView) (s : SweepView) → now ≡ begun old → IsBegunOver p old now s → HasComeOn p (begun old) now s
HasComeOn-none p old now s same met =
    subst (λ (t : TreeView). HasComeOn p t now s) same
    (HasComeOn-begun p now s (λ dim is_descending of. met dim is_descending (subst (λ (t : TreeView). IsSweepOf t.schema p dim is_descending) same of)))

-- regions taken in after others
joined : (start now : TreeView) → IsTraced start now → (some more : List AwaitedRegion) → AllByRecursion (λ a. IsIn start a.region) some → AllByRecursion (λ a. IsIn now a.region) more
    → AllByRecursion (λ a. IsIn start a.region) (some ++ more)
joined start now traced some more first second =
    all_joined (λ (a : AwaitedRegion). IsIn start a.region) some more first (subst (λ (t : TreeView). AllByRecursion (λ (a : AwaitedRegion). IsIn t a.region) more) traced second)

-- and their pages noted
noted : (start now new : TreeView) (some more : List AwaitedRegion) → now.trace.pages ≡ start.trace.pages ++ map (λ a. a.region.page) some
    → new.trace.pages ≡ now.trace.pages ++ map (λ a. a.region.page) more → new.trace.pages ≡ start.trace.pages ++ map (λ a. a.region.page) (some ++ more)
noted start now new some more first second =
    second ∙ ap (λ (pages : List ℕ). pages ++ map (λ (a : AwaitedRegion). a.region.page) more) first
    ∙ append_assoc start.trace.pages (map (λ (a : AwaitedRegion). a.region.page) some) (map (λ (a : AwaitedRegion). a.region.page) more)
    ∙ ap (λ (pages : List ℕ). start.trace.pages ++ pages) (sym (map-append (λ (a : AwaitedRegion). a.region.page) some more))

-- the pages of all regions are those that it asked for
all_asked : (come : List AwaitedRegion) → AreAsked come (map (λ a. a.region.page) come)
all_asked come =
    let long = length-map come (λ (a : AwaitedRegion). a.region.page) in
    record {
      first = sym (ap (map (λ (a : AwaitedRegion). a.region.page)) (take_all (length (map (λ (a : AwaitedRegion). a.region.page) come)) come (omega (arith, long))));
      most = omega (arith, long);
    }

module _ (p : PlanView) (start now : TreeView) (s : SweepView) (so_far : HasComeOn p start now s) (dim : ℕ) (is_descending : Bool) (of : IsSweepOf start.schema p dim is_descending) where
  -- no more is asked of it
  pub swept_full : (limit : Option ℕ) (rows : ℕ) → IsFilled limit rows → HasSweptSome p.covering.boxes dim is_descending limit start now rows
  swept_full limit rows full = record {
    come = so_far.come;
    left = s.awaited;
    swept = (so_far.swept dim is_descending of).2;
    taken = so_far.taken;
    trace_is = so_far.trace_is;
    ended = inr full;
  }

  -- it has none left
  pub swept_whole : (limit : Option ℕ) (rows : ℕ) → s.awaited ≡ [] → HasSweptSome p.covering.boxes dim is_descending limit start now rows
  swept_whole limit rows none = record {
    come = so_far.come;
    left = s.awaited;
    swept = (so_far.swept dim is_descending of).2;
    taken = so_far.taken;
    trace_is = so_far.trace_is;
    ended = inl none;
  }

  -- memory was refused for what it gave
  pub swept_first : HasSweptFirst p.covering.boxes dim is_descending start now
  swept_first = record {
    come = so_far.come;
    left = s.awaited;
    swept = (so_far.swept dim is_descending of).2;
    noted = map (λ (a : AwaitedRegion). a.region.page) so_far.come;
    once = all_asked so_far.come;
    trace_is = so_far.trace_is;
  }

-- by a dimension and a direction that are the same
turned : (P : ℕ → Bool → Type 0) (a c : ℕ) (b d : Bool) → a ≡ c → b ≡ d → P a b → P c d
turned P a c b d first second is = subst (λ (n : ℕ). P n d) first (subst (λ (x : Bool). P a x) second is)

module _ (p : PlanView) (start now : TreeView) (s : SweepView) (traced : IsTraced start now) (so_far : HasComeOn p start now s) (new : TreeView) where
  -- it came further
  further : (more : List AwaitedRegion) (ahead : List AwaitedStretch) → Comes p s now more ahead → (dim : ℕ) (is_descending : Bool) → IsSweepOf start.schema p dim is_descending
      → HasSweptTo p.covering.boxes dim is_descending start (so_far.come ++ more) ahead
  further more ahead comes dim is_descending of =
      let (dim_is, down_is, swept) = so_far.swept dim is_descending of in
      swept_more start p.covering.boxes dim is_descending (have_dimension start.schema p dim is_descending of.0 of.1) so_far.come more s.awaited ahead swept
      (turned (λ (d : ℕ) (down : Bool). AreInPlaceOf start p.covering.boxes d down s.awaited (lowest more ++ ahead)) s.dim dim s.is_descending is_descending dim_is down_is
      (place_before start now p.covering.boxes s.dim s.is_descending s.awaited (lowest more ++ ahead) traced comes.left))
      (turned (λ (d : ℕ) (down : Bool). AreValued p.covering.boxes d down s.awaited → AreInOrder down more ahead) s.dim dim s.is_descending is_descending dim_is down_is comes.ordered)

  -- asking it for more was ended by a fault
  pub swept_broken : BreaksOff p s now new → (dim : ℕ) (is_descending : Bool) → IsSweepOf start.schema p dim is_descending → HasSweptFirst p.covering.boxes dim is_descending start new
  swept_broken broken dim is_descending of = record {
    come = so_far.come ++ broken.come;
    left = broken.ahead;
    swept = further broken.come broken.ahead broken.comes dim is_descending of;
    noted = map (λ (a : AwaitedRegion). a.region.page) so_far.come ++ broken.noted;
    once = asked_more so_far.come broken.come (map (λ (a : AwaitedRegion). a.region.page) so_far.come) broken.noted refl broken.once;
    trace_is = broken.trace_is ∙ ap (λ (pages : List ℕ). pages ++ broken.noted) so_far.trace_is
        ∙ append_assoc start.trace.pages (map (λ (a : AwaitedRegion). a.region.page) so_far.come) broken.noted;
  }

  -- it was asked for more
  pub HasComeOn-more : {A : Type 0} (found : Option A) (new_s : SweepView) → ComesOn p s new_s now new found → HasComeOn p start new new_s
  HasComeOn-more found new_s comes = record {
    come = so_far.come ++ comes.come;
    swept = λ dim is_descending of.
        let (dim_is, down_is, swept) = so_far.swept dim is_descending of in
        (comes.course.0 ∙ dim_is, comes.course.1 ∙ down_is, further comes.come new_s.awaited comes.comes dim is_descending of);
    taken = joined start now traced so_far.come comes.come so_far.taken comes.taken;
    trace_is = noted start now new so_far.come comes.come so_far.trace_is comes.trace_is;
  }

  -- or for all that was left
  pub HasComeOn-all : ComesToAll p s now new → HasComeOn p start new (record s { awaited = [] })
  HasComeOn-all comes = record {
    come = so_far.come ++ comes.come;
    swept = λ dim is_descending of.
        let (dim_is, down_is, swept) = so_far.swept dim is_descending of in
        (dim_is, down_is, further comes.come [] comes.comes dim is_descending of);
    taken = joined start now traced so_far.come comes.come so_far.taken comes.taken;
    trace_is = noted start now new so_far.come comes.come so_far.trace_is comes.trace_is;
  }
