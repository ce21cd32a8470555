-- The region that a key falls into, and what calls must answer.
use Rattle.std.proofs.Common.{rules, ◌≡◌, ◌≢◌, ◌/◌, ◌≤◌, ◌<◌, ◌^◌, ◌++◌, inl, inr, ℕ, Bool, true, false, List, [], ◌∷◌, Result, Ok, Err, IfErr, MatchResult, length, map, ◌∙◌, sym, ap, subst, arith, nat_eq, IfOk, ◌⊎◌}
use Rattle.ub_tree.proofs.Common.{all_append, AllByRecursion, Answers, AnswersKey, AnswersRemoval, BadCount, BadOrder, cases_Bool, eqb-true, FallsInto, FallsTo}
use Rattle.ub_tree.proofs.Common.{has_key, HasReadAt, IsErrAnd, IsHonest, IsJoined, IsPassing, IsSound, IsTakenIn, Key, key_of, length-append, length-map, Page}
use Rattle.ub_tree.proofs.Common.{page_count, Placed, recursion_from_All, Region, region_count, RegionRows, RegionView, remove_row, reserved, Row, Schema}
use Rattle.ub_tree.proofs.Common.{slice_get_within, TreeFault, TreeView}
use Rattle.std.proofs.lemmas.Map.Steps.{length-le_from_distinct_below}
use Rattle.std.specs.List.{list_any}
use Rattle.ub_tree.proofs.CallFacts.{one_falls}
use Rattle.ub_tree.proofs.StoredFacts.{IsSpelled}

each_below : (n q : ℕ) (xs : List ℕ) → AllByRecursion (λ m. m < n) xs → list_any (nat_eq q) xs ≡ true → q < n
each_below n q [] all t = cc
each_below n q (x ∷ xs) all t = elim (cases_Bool (nat_eq q x)) [
  | inl e ↦ let same = eqb-true q x e in let lt = all.0 in omega arith
  | inr f ↦ each_below n q xs all.1 (rw f at t)
]

-- each region's page is there
pub pages_there : (schema : Schema) (pages : List (List ℕ)) (ps : List Placed) → AllByRecursion (IsSpelled schema pages) ps → AllByRecursion (λ n. n < length pages) (map (λ p. p.page) ps)
pages_there schema pages [] h = tt
pages_there schema pages (p ∷ ps) h = (slice_get_within pages p.page _ h.0, pages_there schema pages ps h.1)

-- the regions of a sound tree are fewer than the pages of its store
pub never_full : (t : TreeView) → page_count t.store < 2 ^ 32 → region_count t ≡ 4294967295 → ¬ (IsSound t)
never_full t small many sound =
    let pages = t.store.pages in
    let numbers = map (λ (p : Placed). p.page) t.placed in
    let others = reserved t.inner.index pages in
    let within = all_append (λ n. n < length pages) others numbers (recursion_from_All (λ n. n < length pages) others sound.placed_are.within)
    (pages_there t.schema pages t.placed (recursion_from_All (IsSpelled t.schema pages) t.placed sound.placed_are.spelled)) in
    let most = length-le_from_distinct_below (others ++ numbers) (length pages) sound.placed_are.own (λ q. each_below (length pages) q (others ++ numbers) within) in
    let long = length-append others numbers in
    let mapped = length-map t.placed (λ (p : Placed). p.page) in
    let count = sound.count_is in
    absurd (omega arith)

-- the region that a key falls into is that of the span to which it falls
pub on_region : (t : TreeView) (key : Key) (page : ℕ) (region : RegionRows) (span : Region) → IsHonest t.store → FallsInto t key page region → FallsTo t key span → IsTakenIn t span region × (span.page ≡ page)
on_region t key page region span h k j = search (rules, one_falls)

pub passing_by : {T : Type 0} (r : Result T TreeFault) (e : TreeFault) (P : T → Type 0) → IsErrAnd r (λ x. x ≡ e) → IsPassing e → MatchResult r P IsPassing
passing_by (Ok x) e P is h = absurd is
passing_by (Err f) e P is h = rw is h

pub passing_answers : {A : Type 0} (r : Result A TreeFault) (e told : TreeFault) → IsErrAnd r (λ x. x ≡ e) → IsPassing e → Answers r told
passing_answers (Ok x) e told is h = absurd is
passing_answers (Err f) e told is h = rw is (inr h)

pub passing_fault : {A : Type 0} (r : Result A TreeFault) (e : TreeFault) → IsErrAnd r (λ x. x ≡ e) → IsPassing e → IfErr r IsPassing
passing_fault (Ok x) e is h = tt
passing_fault (Err f) e is h = rw is h

pub fault_answers : {A : Type 0} (r : Result A TreeFault) (told : TreeFault) → IsErrAnd r (λ x. x ≡ told) → Answers r told
fault_answers (Ok x) told is = absurd is
fault_answers (Err f) told is = inl is

-- what was answered within is answered
pub fault_told : {A : Type 0} (r : Result A TreeFault) (e told : TreeFault) → IsErrAnd r (λ x. x ≡ e) → (e ≡ told) ⊎ IsPassing e → Answers r told
fault_told (Ok x) e told is h = absurd is
fault_told (Err f) e told is h = rw is h

pub no_answer : {A : Type 0} (r : Result A TreeFault) (e : TreeFault) (P : A → Type 0) → IsErrAnd r (λ x. x ≡ e) → IfOk r P
no_answer (Ok x) e P is = absurd is
no_answer (Err f) e P is = tt

-- where memory was refused or the device failed nothing more is asked of a removal
pub passing_removal : (a : TreeView) (key : Key) (r : Result Bool TreeFault) (e : TreeFault) → IsErrAnd r (λ x. x ≡ e)
    → ((number : ℕ) (region : RegionRows) → IsHonest a.store → FallsInto a key number region → IsPassing e) → IsHonest a.store → AnswersRemoval a key r
passing_removal a key r e told led honest number region into =
    let passing = led number region honest into in
    (λ has none. passing_answers r e _ told passing, λ none. passing_fault r e told passing, no_answer r e _ told, λ some many. passing_fault r e told passing, λ has some one joined. passing_answers r e _ told passing)

-- the region that a key falls to was read
module _ (a : TreeView) (key : Key) (span : Region) (page : RegionView) (read : HasReadAt a key span page) where
  -- it is the one that the key falls into
  pub read_region : IsHonest a.store → (number : ℕ) (region : RegionRows) → FallsInto a key number region → (page.region.rows ≡ region.rows) × (span.page ≡ number)
  read_region honest number region into =
      let on = on_region a key number region span honest into read.falls in
      (ap (λ (r : RegionRows). r.rows) (read.taken honest region on.0), on.1)

  pub key_is_there : (A : Type 0) → has_key a.schema.dims key page.region.rows ≡ true → IsHonest a.store → AnswersKey {A = A} a key (Err (Page span.page BadOrder))
  key_is_there A there honest number region into =
      let on = read_region honest number region into in
      let here : has_key a.schema.dims key region.rows ≡ true = rw (← on.0) there in (
        λ has. inl (ap (λ (n : ℕ). Page n BadOrder) on.1),
        λ none full many. absurd (let bad : true ≡ false = sym here ∙ none in cc),
        λ none page fault is. absurd (let bad : true ≡ false = sym here ∙ none in cc),
        λ none full few levels way. absurd (let bad : true ≡ false = sym here ∙ none in cc),
        tt,
      )

  pub removal_answers : (r : Result Bool TreeFault) → (has_key a.schema.dims key page.region.rows ≡ true → a.rows ≡ 0 → IsErrAnd r (λ x. x ≡ Page 0 BadCount))
      → (has_key a.schema.dims key page.region.rows ≡ false → IfErr r IsPassing) → IfOk r (λ found. found ≡ has_key a.schema.dims key page.region.rows)
      → (a.rows ≢ 0 → a.schema.page_rows / 2 ≤ length (remove_row a.schema.dims key page.region.rows) → IfErr r IsPassing)
      → (has_key a.schema.dims key page.region.rows ≡ true → a.rows ≢ 0 → region_count a ≡ 1 → IsJoined a span (length (remove_row a.schema.dims key page.region.rows)) → IsHonest a.store → Answers r (Page 0 BadCount))
      → IsHonest a.store → AnswersRemoval a key r
  removal_answers r none passing found left alone honest number region into =
      let same = (read_region honest number region into).0 in
      let one : into.span ≡ span = one_falls a key into.span span honest into.falls read.falls in (
        λ has zero. fault_answers r (Page 0 BadCount) (none (rw same has) zero),
        λ free. passing (rw same free),
        subst (λ (rs : List Row). IfOk r (λ found. found ≡ has_key a.schema.dims key rs)) same found,
        λ some many. left some (rw same many),
        λ has some count joined. alone (rw same has) some count (rw same (subst (λ (s : Region). IsJoined a s (length (remove_row a.schema.dims key region.rows))) one joined)) honest,
      )

-- whether the region has the key, which was told by other names
pub has_told : {read_dims dims : ℕ} {own key : Key} {told is : Bool} (rows : List Row) → read_dims ≡ dims → own ≡ key → told ≡ has_key read_dims own rows → told ≡ is → has_key dims key rows ≡ is
has_told rows same_dims same_key told is = rw (← same_dims, ← same_key) (sym told ∙ is)

-- the key of the row that is put in
pub next_key : (t a : TreeView) (shape : ℕ) (row : Row) (key : Key) → t ≡ a → shape ≡ t.schema.dims → key ≡ key_of shape row → key ≡ key_of a.schema.dims row
next_key t a shape row key same is of = of ∙ ap (λ (d : ℕ). key_of d row) is ∙ ap (λ (v : TreeView). key_of v.schema.dims row) same
