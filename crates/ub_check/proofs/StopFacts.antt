-- The page at which a check stops: it is there, or isn't, and isn't the first, but where there is one region more than is counted.
use Rattle.std.proofs.Common.{rules, ◌≡◌, ◌≤◌, ◌<◌, ◌^◌, ◌⊎◌, inl, inr, ℕ, zero, suc, List, [], ◌∷◌, Option, Some, None, length, slice_get, sym, subst, arith}
use Rattle.ub_check.proofs.Common.{all_left, all_right, AllByRecursion, Asked, BadCount, EachTo, entries_of, Entry, first_or, flat_map, IsEntry, IsNotTaken}
use Rattle.ub_check.proofs.Common.{IsUnder, Key, named_not_refused, origin, PageFault, Placed, StopsAtRegion, StopsEach, StopsIn, TakesAll, under}

-- a page that is refused is there, and else it isn't
abbrev pub IsThere : List (List ℕ) → ℕ → Option PageFault → Type 0
IsThere pages n None = length pages ≤ n
IsThere pages n (Some fault) = (page : List ℕ) × (slice_get pages n ≡ Some page)

-- it is told of page 0 that there is one region more than is counted
abbrev pub IsOneMore : ℕ → Option PageFault → Type 0
IsOneMore n fault = (n ≡ 0) × (fault ≡ Some BadCount)

abbrev pub StopsThere : List (List ℕ) → ℕ → Option PageFault → Type 0
StopsThere pages n fault = IsOneMore n fault ⊎ ((1 ≤ n) × IsThere pages n fault)

module _ (asked : Asked) where
  there_at : (n m : ℕ) (a b : Option PageFault) → n ≡ m → a ≡ b → 1 ≤ m → IsThere asked.pages m b → StopsThere asked.pages n a
  there_at n m a b is fault some h = inr (omega arith, subst (λ (x : Option PageFault). IsThere asked.pages n x) (sym fault) (subst (λ (k : ℕ). IsThere asked.pages k b) (sym is) h))

  at_region : (e : Entry) (end : Option Key) (before : List Placed) (n : ℕ) (fault : Option PageFault) → 1 ≤ e.page → StopsAtRegion asked e end before n fault → StopsThere asked.pages n fault
  at_region e end before n fault some (inl full) = search (rules, there_at)
  at_region e end before n fault some (inr (less, is, inl (none, past))) = search (rules, there_at)
  at_region e end before n fault some (inr (less, is, inr (inl (page, at, of_page, fault_is, refused)))) = search (rules, there_at)
  at_region e end before n fault some (inr (less, is, inr (inr (fault_is, region, stands, old)))) = search (rules, there_at)

  at_index : (level : ℕ) (e : Entry) (end : Option Key) (fault : Option PageFault) → IsNotTaken asked.last asked.pages level e end fault → IsThere asked.pages e.page fault
  at_index level e end fault h = search rules

  each_there : (level : ℕ) → ((e : Entry) (end : Option Key) (before : List Placed) (n : ℕ) (fault : Option PageFault) → 1 ≤ e.page → StopsIn asked level e end before n fault
      → StopsThere asked.pages n fault)
      → (xs : List Entry) (end : Option Key) (before : List Placed) (n : ℕ) (fault : Option PageFault) → AllByRecursion (IsEntry asked.last) xs
      → StopsEach (TakesAll asked level) (StopsIn asked level) xs end before n fault → StopsThere asked.pages n fault
  each_there level one [] end before n fault all h = absurd h
  each_there level one (x ∷ xs) end before n fault all (inl h) = one x (first_or xs end) before n fault all.0.some_page h
  each_there level one (x ∷ xs) end before n fault all (inr (between, takes, h)) = each_there level one xs end between n fault all.1 h

  pub stops_there : (level : ℕ) (e : Entry) (end : Option Key) (before : List Placed) (n : ℕ) (fault : Option PageFault) → 1 ≤ e.page → StopsIn asked level e end before n fault
      → StopsThere asked.pages n fault
  stops_there zero e end before n fault some h = at_region e end before n fault some h
  stops_there (suc level) e end before n fault some (inl (is, refused)) =
      inr (omega arith, subst (λ (k : ℕ). IsThere asked.pages k fault) (sym is) (at_index (suc level) e end fault refused))
  stops_there (suc level) e end before n fault some (inr (named, h)) =
      each_there level (stops_there level) (entries_of asked.pages e.page) end before n fault named.fits.is.is.entries h

  -- where an index stands whose entries name pages below some number, it stops below that
  module _ (small : asked.last < 2 ^ 128) (most : ℕ) where
    abbrev IsLow : Entry → Type 0
    IsLow e = e.page < most

    region_low : (e : Entry) (end : Option Key) (before : List Placed) (n : ℕ) (fault : Option PageFault) → IsLow e → StopsAtRegion asked e end before n fault → IsOneMore n fault ⊎ (n < most)
    region_low e end before n fault h k = search rules

    each_low : (level : ℕ) → ((e : Entry) (end : Option Key) (before : List Placed) (n : ℕ) (fault : Option PageFault) → IsUnder asked.last asked.pages level e end
        → AllByRecursion IsLow (under asked.pages level e) → StopsIn asked level e end before n fault → IsOneMore n fault ⊎ (n < most))
        → (xs : List Entry) (end : Option Key) (before : List Placed) (n : ℕ) (fault : Option PageFault) → EachTo (IsUnder asked.last asked.pages level) xs end
        → AllByRecursion IsLow (flat_map (under asked.pages level) xs) → StopsEach (TakesAll asked level) (StopsIn asked level) xs end before n fault → IsOneMore n fault ⊎ (n < most)
    each_low level one [] end before n fault each low h = absurd h
    each_low level one (x ∷ xs) end before n fault each low (inl h) = search (rules, all_left)
    each_low level one (x ∷ xs) end before n fault each low (inr (between, takes, h)) = search (rules, (each_low level one xs end between n fault each.1 (all_right IsLow (under asked.pages level x) (flat_map (under asked.pages level) xs) low) h))

    pub stops_low : (level : ℕ) (e : Entry) (end : Option Key) (before : List Placed) (n : ℕ) (fault : Option PageFault) → IsUnder asked.last asked.pages level e end
        → AllByRecursion IsLow (under asked.pages level e) → StopsIn asked level e end before n fault → IsOneMore n fault ⊎ (n < most)
    stops_low zero e end before n fault is low h = region_low e end before n fault low.0 h
    stops_low (suc level) e end before n fault is low (inl refused) = absurd (named_not_refused asked.last small asked.pages origin (suc level) e end fault is.0 refused.1)
    stops_low (suc level) e end before n fault is low (inr h) = each_low level (stops_low level) (entries_of asked.pages e.page) end before n fault is.1 low h.1
