-- The clock of a place in memory that keeps its calls: what is seen is one of the outcomes of a crash.
use Rattle.std.proofs.Common.{Bool, ◌≡◌, ◌≢◌, ◌<◌, ◌++◌, ◌∷◌, [], ℕ, zero, suc, List, length, take, replicate, slice_get, slice_set, inr, ap, arith, refl, sym, subst, length-set, length-take, ◌∙◌}
use Rattle.std.proofs.lemmas.List.{take_all}
use Rattle.ub_store.specs.Facts.{zero_page}
use Rattle.ub_journal.specs.Image.{Image}
use Rattle.ub_journal.specs.Place.{IsClock}
use Rattle.ub_journal.specs.Torn.{done, facts_after, left_after, seen_after, torn}
use Rattle.ub_journal.specs.declared.torn.Deed.{Deed}
use Rattle.ub_journal.specs.declared.torn.Deed.TheVariants as deed

pub get_set_other : {X : Type 0} (xs : List X) (n m : ℕ) (x : X) → m ≢ n → slice_get (slice_set xs n x) m ≡ slice_get xs m
get_set_other [] n m x h = refl
get_set_other (y ∷ xs) zero zero x h = absurd (h refl)
get_set_other (y ∷ xs) zero (suc m) x h = refl
get_set_other (y ∷ xs) (suc n) zero x h = refl
get_set_other (y ∷ xs) (suc n) (suc m) x h = get_set_other xs n m x (λ e. h (ap suc e))

get_take : {X : Type 0} (k m : ℕ) (xs : List X) → m < k → slice_get (take k xs) m ≡ slice_get xs m
get_take zero m xs h = absurd (omega arith)
get_take (suc k) m [] h = refl
get_take (suc k) zero (x ∷ xs) h = refl
get_take (suc k) (suc m) (x ∷ xs) h = get_take k m xs (omega arith)

get_append : {X : Type 0} (xs ys : List X) (m : ℕ) → m < length xs → slice_get (xs ++ ys) m ≡ slice_get xs m
get_append [] ys m h = absurd (omega arith)
get_append (x ∷ xs) ys zero h = refl
get_append (x ∷ xs) ys (suc m) h = get_append xs ys m (omega arith)

pub get_resized : {X : Type 0} (k m : ℕ) (xs : List X) (z : X) → m < k → m < length xs → slice_get (take k (xs ++ replicate k z)) m ≡ slice_get xs m
get_resized k m xs z in_k in_xs = get_take k m (xs ++ replicate k z) in_k ∙ get_append xs (replicate k z) m in_xs

-- a call that was done in full is one of the outcomes of it
torn_done : (d : Deed) (i : Image) → torn d i i (done d i)
torn_done (deed.Write n page) i = record {
  same = refl;
  no_shorter = rw (length-set i.table n page) (omega arith);
  no_longer = rw (length-set i.table n page) (omega arith);
  others = λ m ne less. get_set_other i.table n m page ne;
  rest = λ less. refl;
}
torn_done deed.Mark i = record { same = refl; byte = 1; table = refl; rest = λ some. refl }
torn_done (deed.Resize count) i = record { same = refl; no_longer = rw (length-take count (i.table ++ replicate count zero_page)) (omega arith); kept = λ m in_count in_table. get_resized count m i.table zero_page in_count in_table }
torn_done deed.Sync i = (refl, (refl, refl))
torn_done (deed.Draft j) i = refl
torn_done deed.SyncDraft i = (refl, refl)
torn_done deed.Publish i = inr refl
torn_done deed.Remove i = inr refl
torn_done deed.SyncFolder i = (refl, refl)

-- what is seen may be left
seen_left : (P : Image → Type 0) (i : Image) (ds : List Deed) → P i → left_after P i ds (seen_after i ds)
seen_left P i [] now = now
seen_left P i (d ∷ ds) now = seen_left (λ new. (old : Image) × P old × torn d i old new) (done d i) ds (i, now, torn_done d i)

pub torn_clock : (honest : Bool) (first : Image) (ds : List Deed) (failures : ℕ) → IsClock (facts_after honest first ds failures)
torn_clock honest first ds failures = record {
  counts_now = λ t c le left. (length ds, le, omega arith, subst (λ l. left_after (λ i. i ≡ first) first l c) (sym (take_all (length ds) ds (omega arith))) left);
  only_now = λ c left. subst (λ l. left_after (λ i. i ≡ first) first l c) (take_all left.0 ds (omega (arith, left.1))) left.3;
  seen_may_stay = seen_left (λ i. i ≡ first) first ds refl;
}
