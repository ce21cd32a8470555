-- A check stops at one page alone, for one fault.
use Rattle.std.proofs.Common.{◌≡◌, ◌≢◌, ◌≤◌, ◌<◌, ◌^◌, ◌⊎◌, inl, inr, ℕ, zero, suc, List, [], ◌∷◌, Option, Some, None, length, slice_get, ap, refl, sym, ◌∙◌, arith, rules, subst}
use Rattle.ub_check.proofs.Common.{AreWell, Asked, BadCount, EndsMiscounted, entries_of, Entry, first_or, IndexFault, IsFirst, IsIndexFault, IsIndexPage}
use Rattle.ub_check.proofs.Common.{IsNotTaken, IsRegionFault, IsRegionRefused, IsUnfit, Key, length-append, named_not_refused, node_not_refused, node_on}
use Rattle.ub_check.proofs.Common.{not_refused, origin, OutOfRegion, PageFault, Placed, region_page, Schema, slice_get_within, StopsAtRegion, StopsEach}
use Rattle.ub_check.proofs.Common.{StopsIn, StopsTable, TakesAll, TakesEach, Told, top}
use Rattle.ub_check.proofs.PlacedFacts.{some_one}
use Rattle.ub_check.proofs.TakenFacts.{region_good, walk_never, walk_taken}

-- a page is refused for one fault alone, as one of a region
region_once : (schema : Schema) (page : List ℕ) (f g : PageFault) → IsRegionFault schema page f → IsRegionFault schema page g → f ≡ g
region_once schema page f g h k = search rules

refused_once : (schema : Schema) (first : Key) (end : Option Key) (page : List ℕ) (f g : PageFault) → IsRegionRefused schema first end page f → IsRegionRefused schema first end page g → f ≡ g
refused_once schema first end page f g h k = search (rules, not_refused, region_once)

-- and as one of an index
index_once : (last : ℕ) (page : List ℕ) (f g : PageFault) → IsIndexFault last page f → IsIndexFault last page g → f ≡ g
index_once last page f g h k = grind arith

-- why a page doesn't fit
abbrev IsMisfit : ℕ → List ℕ → ℕ → PageFault → Type 0
IsMisfit last page level fault =
    IsIndexFault last page fault
    ⊎ (IsIndexPage last page × (((fault ≡ BadCount) × ((node_on page).level ≢ level)) ⊎ ((fault ≡ OutOfRegion) × ((node_on page).level ≡ level))))

misfit : (last : ℕ) (page : List ℕ) (level : ℕ) (entry : Entry) (end : Option Key) (fault : PageFault) → IsUnfit last page level entry end fault → IsMisfit last page level fault
misfit last page level entry end fault h = search rules

module _ (last : ℕ) (small : last < 2 ^ 128) (page : List ℕ) (level : ℕ) where
  misfit_once : (f g : PageFault) → IsMisfit last page level f → IsMisfit last page level g → f ≡ g
  misfit_once f g (inl h) (inl k) = index_once last page f g h k
  misfit_once f g (inl h) (inr (is, k)) = absurd (node_not_refused (node_on page) page last small is.is is.spelled f h)
  misfit_once f g (inr (is, h)) (inl k) = absurd (node_not_refused (node_on page) page last small is.is is.spelled g k)
  misfit_once f g (inr (is, inl h)) (inr (also, inl k)) = h.0 ∙ sym k.0
  misfit_once f g (inr (is, inl h)) (inr (also, inr k)) = absurd (h.1 k.1)
  misfit_once f g (inr (is, inr h)) (inr (also, inl k)) = absurd (k.1 h.1)
  misfit_once f g (inr (is, inr h)) (inr (also, inr k)) = h.0 ∙ sym k.0

taken_once : (last : ℕ) → last < 2 ^ 128 → (pages : List (List ℕ)) (level : ℕ) (entry : Entry) (end : Option Key) (a b : Option PageFault)
    → IsNotTaken last pages level entry end a → IsNotTaken last pages level entry end b → a ≡ b
taken_once last small pages level entry end None None h k = refl
taken_once last small pages level entry end (Some f) None h k = search (rules, misfit, misfit_once, slice_get_within)
taken_once last small pages level entry end a b h k = search (rules, misfit, misfit_once, slice_get_within)

module _ (asked : Asked) where
  at_once : (e : Entry) (end : Option Key) (before : List Placed) (n m : ℕ) (a b : Option PageFault) → StopsAtRegion asked e end before n a → StopsAtRegion asked e end before m b
      → (n ≡ m) × (a ≡ b)
  at_once e end before n m a b (inl h) (inl k) = (h.1 ∙ sym k.1, h.2 ∙ sym k.2)
  at_once e end before n m a b (inl h) (inr k) = let full = h.0 in let less = k.0 in absurd (omega arith)
  at_once e end before n m a b (inr h) (inl k) = let full = k.0 in let less = h.0 in absurd (omega arith)
  at_once e end before n m a b (inr (less, is, inl h)) (inr (lower, also, inl k)) = (is ∙ sym also, h.0 ∙ sym k.0)
  at_once e end before n m a b (inr (less, is, inl h)) (inr (lower, also, inr (inl (page, at, g, gault, k)))) =
      let near = slice_get_within asked.pages e.page page at in let past = h.1 in absurd (omega arith)
  at_once e end before n m a b (inr (less, is, inl h)) (inr (lower, also, inr (inr (k, region, stands, old)))) =
      let near = slice_get_within asked.pages e.page (region_page asked.schema region) stands.spelled in let past = h.1 in absurd (omega arith)
  at_once e end before n m a b (inr (less, is, inr (inl (page, at, f, fault, h)))) (inr (lower, also, inl k)) =
      let near = slice_get_within asked.pages e.page page at in let past = k.1 in absurd (omega arith)
  at_once e end before n m a b (inr (less, is, inr (inl (page, at, f, fault, h)))) (inr (lower, also, inr (inl (other, there, g, gault, k)))) =
      let one = some_one (slice_get asked.pages e.page) page other at there in
      let same = refused_once asked.schema e.first end other f g (subst (λ (p : List ℕ). IsRegionRefused asked.schema e.first end p f) one h) k in
      (is ∙ sym also, fault ∙ (ap (λ (x : PageFault). Some x) same ∙ sym gault))
  at_once e end before n m a b (inr (less, is, inr (inl (page, at, f, fault, h)))) (inr (lower, also, inr (inr (k, region, stands, old)))) =
      absurd (region_good asked e end region page f stands at h)
  at_once e end before n m a b (inr (less, is, inr (inr (h, region, stands, old)))) (inr (lower, also, inl k)) =
      let near = slice_get_within asked.pages e.page (region_page asked.schema region) stands.spelled in let past = k.1 in absurd (omega arith)
  at_once e end before n m a b (inr (less, is, inr (inr (h, region, stands, old)))) (inr (lower, also, inr (inl (page, at, f, fault, k)))) =
      absurd (region_good asked e end region page f stands at k)
  at_once e end before n m a b (inr (less, is, inr (inr (h, region, stands, old)))) (inr (lower, also, inr (inr (k, other, there, new)))) = (is ∙ sym also, h ∙ sym k)

  -- what is taken isn't more than is counted
  each_few : (level : ℕ) → ((e : Entry) (end : Option Key) (before after : List Placed) → TakesAll asked level e end before after → length before ≤ asked.count → length after ≤ asked.count)
      → (xs : List Entry) (end : Option Key) (before after : List Placed) → TakesEach (TakesAll asked level) xs end before after → length before ≤ asked.count → length after ≤ asked.count
  each_few level one [] end before after h few = let long = ap (λ (ps : List Placed). length ps) h in omega arith
  each_few level one (x ∷ xs) end before after h few = each_few level one xs end h.0 after h.2 (one x (first_or xs end) before h.0 h.1 few)

  takes_few : (level : ℕ) (e : Entry) (end : Option Key) (before after : List Placed) → TakesAll asked level e end before after → length before ≤ asked.count → length after ≤ asked.count
  takes_few zero e end before after h few =
      let less = h.counted in
      let long = ap (λ (ps : List Placed). length ps) h.after_is ∙ length-append before (record { page = e.page; region = h.region } ∷ []) in
      omega arith
  takes_few (suc level) e end before after h few = each_few level (takes_few level) (entries_of asked.pages e.page) end before after h.1 few

  module _ (small : asked.last < 2 ^ 128) where
    -- where all is taken it doesn't stop
    takes_never : (level : ℕ) (e : Entry) (end : Option Key) (before after : List Placed) (n : ℕ) (fault : Option PageFault) → length before ≤ asked.count
        → TakesAll asked level e end before after → ¬ (StopsIn asked level e end before n fault)
    takes_never level e end before after n fault h k = search (rules, takes_few, walk_never, walk_taken)

    each_once : (level : ℕ) → ((e : Entry) (end : Option Key) (before : List Placed) (n m : ℕ) (a b : Option PageFault) → length before ≤ asked.count
        → StopsIn asked level e end before n a → StopsIn asked level e end before m b → (n ≡ m) × (a ≡ b))
        → (xs : List Entry) (end : Option Key) (before : List Placed) (n m : ℕ) (a b : Option PageFault) → length before ≤ asked.count
        → StopsEach (TakesAll asked level) (StopsIn asked level) xs end before n a → StopsEach (TakesAll asked level) (StopsIn asked level) xs end before m b → (n ≡ m) × (a ≡ b)
    each_once level one [] end before n m a b few h k = absurd h
    each_once level one (x ∷ xs) end before n m a b few (inl h) (inl k) = one x (first_or xs end) before n m a b few h k
    each_once level one (x ∷ xs) end before n m a b few (inl h) (inr (between, takes, k)) = absurd (takes_never level x (first_or xs end) before between n a few takes h)
    each_once level one (x ∷ xs) end before n m a b few (inr (between, takes, h)) (inl k) = absurd (takes_never level x (first_or xs end) before between m b few takes k)
    each_once level one (x ∷ xs) end before n m a b few (inr (between, takes, h)) (inr (other, also, k)) =
        let same : other ≡ between = (walk_taken asked level x (first_or xs end) before other also).1.after_is ∙ sym (walk_taken asked level x (first_or xs end) before between takes).1.after_is in
        each_once level one xs end between n m a b (takes_few level x (first_or xs end) before between takes few) h
        (subst (λ (ps : List Placed). StopsEach (TakesAll asked level) (StopsIn asked level) xs end ps m b) same k)

    pub walk_once : (level : ℕ) (e : Entry) (end : Option Key) (before : List Placed) (n m : ℕ) (a b : Option PageFault) → length before ≤ asked.count
        → StopsIn asked level e end before n a → StopsIn asked level e end before m b → (n ≡ m) × (a ≡ b)
    walk_once zero e end before n m a b few h k = at_once e end before n m a b h k
    walk_once (suc level) e end before n m a b few (inl h) (inl k) = (h.0 ∙ sym k.0, taken_once asked.last small asked.pages (suc level) e end a b h.1 k.1)
    walk_once (suc level) e end before n m a b few (inl h) (inr k) = absurd (named_not_refused asked.last small asked.pages origin (suc level) e end a k.0 h.1)
    walk_once (suc level) e end before n m a b few (inr h) (inl k) = absurd (named_not_refused asked.last small asked.pages origin (suc level) e end b h.0 k.1)
    walk_once (suc level) e end before n m a b few (inr h) (inr k) = each_once level (walk_once level) (entries_of asked.pages e.page) end before n m a b few h.1 k.1

-- so the first fault of a table's check is one
module _ (asked : Asked) (told : Told) (small : asked.last < 2 ^ 128) where
  none_more : 0 ≤ asked.count
  none_more = omega arith

  stops_once : (n m : ℕ) (a b : Option PageFault) → StopsTable asked told n a → StopsTable asked told m b → (n ≡ m) × (a ≡ b)
  stops_once n m a b h k = walk_once asked small told.levels (top told.root) None [] n m a b none_more h k

  counts_apart : (n m : ℕ) (fault : PageFault) (a : Option PageFault) → EndsMiscounted asked told n fault → ¬ (StopsTable asked told m a)
  counts_apart n m fault a h stops = takes_never asked small told.levels (top told.root) None [] h.after m a none_more h.takes stops

  pub first_once : (f g : IndexFault) → IsFirst asked told f → IsFirst asked told g → f ≡ g
  first_once f g h k = search (rules, counts_apart, stops_once)

  -- where the pages are well there is none
  module _ (placed : List Placed) (well : AreWell asked told placed) where
    well_counts : (n : ℕ) (fault : PageFault) → ¬ (EndsMiscounted asked told n fault)
    well_counts n fault = search (rules, walk_taken)

    well_stops : (n : ℕ) (fault : Option PageFault) → ¬ (StopsTable asked told n fault)
    well_stops n fault h = takes_never asked small told.levels (top told.root) None [] placed n fault none_more well.takes h

    pub well_first : (fault : IndexFault) → ¬ (IsFirst asked told fault)
    well_first fault = search (rules, well_counts, well_stops)
