-- What a search after a region finds on an index: the first of its regions that has a property.
use Rattle.std.proofs.Common.{rules, ◌≡◌, ◌≤◌, ◌<◌, ◌↔◌, Bor, inl, inr, ℕ, zero, suc, max, true, List, [], ◌∷◌, Option, Some, None, IfOk, Result, Ok, Err, slice_get, drop, ◌∙◌, sym, ap, subst, refl, arith, nat_le, if◌then◌else◌}
use Rattle.ub_index.proofs.Common.{Aims, are_ascending, ascending_get, at_least, before_of, cases_Bool, Corners, end_before, entries_in, Entry, entry_at, First}
use Rattle.ub_index.proofs.Common.{first_keys, Gives, GivesAfter, HoldsAny, index_holding, IndexFault, IndexView, IsBefore, IsFrom, IsIndexOn, IsLater, IsMet}
use Rattle.ub_index.proofs.Common.{IsRegionAt, Key, le-leb, LeastFrom, lt-leb, Meets, not_before_origin, origin, precedes, precedes_of, precedes_trans, Region}
use Rattle.ub_index.proofs.Common.{regions_of, slice_get_cases, slice_get_within, span_end, StoreFacts}
use Rattle.ub_index.proofs.Laws.{next_meets, no_address, none_of, region_first, region_is, region_with, seek_first, with_span}
use Rattle.ub_index.specs.declared.goal.Goal.{Goal}
use Rattle.ub_index.specs.declared.goal.Goal.TheVariants.{Address, Boxes}
use Rattle.ub_index.proofs.PlaceFacts.{begins, index_below, index_ge, index_of_first, up, within}
use Rattle.ub_index.proofs.WayFacts.{way_ends_at}

-- a first key is later than another key exactly from the region behind the one that holds that key
later_than : (key : Key) (firsts : List Key) (i : ℕ) (first : Key) → are_ascending firsts ≡ true → slice_get firsts 0 ≡ Some origin → slice_get firsts i ≡ Some first
    → IsBefore key first ↔ (suc (index_holding key firsts) ≤ i)
later_than key firsts i first ascends begin at = (to i at, from)
  where
    to : (j : ℕ) → slice_get firsts j ≡ Some first → IsBefore key first → suc (index_holding key firsts) ≤ j
    to zero there sooner = let same : origin ≡ first = cc in absurd (not_before_origin key (subst (λ (k : Key). IsBefore key k) (sym same) sooner))
    to (suc j) there sooner = elim (index_below key firsts j (λ next here. let same : first ≡ next = cc in ap (precedes key) (sym same) ∙ precedes_of key first sooner)) [
      | inl le ↦ omega arith
      | inr far ↦ let near = slice_get_within firsts (suc j) first there in absurd (omega arith)
    ]

    from : suc (index_holding key firsts) ≤ i → IsBefore key first
    from lt = elim (cases_Bool (precedes key first)) [
      | inl t ↦ before_of key first t
      | inr f ↦ let ge = index_ge key firsts i first ascends at f in absurd (omega arith)
    ]

-- the later of a first key and the least key of an address is held by the later of their regions
holding_max : (firsts : List Key) (start : ℕ) (from : Key) (z : ℕ) → are_ascending firsts ≡ true → slice_get firsts start ≡ Some from
    → index_holding (at_least from z) firsts ≡ max start (index_holding (record { z = z; number = 0 }) firsts)
holding_max firsts start from z ascends at = elim (cases_Bool (precedes (record { z = z; number = 0 }) from)) [
  | inl t ↦
      let here : index_holding from firsts ≡ start = index_of_first firsts start from ascends at in
      let near = slice_get_within firsts start from at in
      elim (index_below (record { z = z; number = 0 }) firsts start
      (λ next there. precedes_trans (record { z = z; number = 0 }) from next t (ascending_get firsts ascends start (suc start) (omega arith) from next at there))) [
        | inl le ↦ rw t (omega arith)
        | inr far ↦ absurd (omega arith)
      ]
  | inr f ↦ let ge = index_ge (record { z = z; number = 0 }) firsts start from ascends at f in rw f (omega arith)
]

-- a region that has its span, among the regions
pub region_there : (last : ℕ) (entries : List Entry) (i : ℕ) (region : Region) → IsRegionAt entries i region → region.from ≡ region.first.z → region.to ≡ end_before last region.next
    → slice_get (regions_of last entries) i ≡ Some region
region_there last entries i region at from to =
    region_is last entries i (entry_at region) at.entry
    ∙ (ap (λ (to : ℕ). Some (region_with to (slice_get (first_keys entries) (suc i)) (entry_at region))) (end_is entries (suc i) ∙ ap (end_before last) (sym at.next))
    ∙ (ap (λ (next : Option Key). Some (region_with (end_before last region.next) next (entry_at region))) (sym at.next)
    ∙ ap (λ (r : Region). Some r) (sym (with_span last region from to))))
  where
    end_is : (es : List Entry) (j : ℕ) → span_end last (first_keys (drop j es)) ≡ end_before last (slice_get (first_keys es) j)
    end_is [] (suc j) = refl
    end_is (e ∷ es) (suc j) = end_is es j
    end_is es j = refl

-- from where the regions later than one are
record IsStarted (last : ℕ) (entries : List Entry) (after : Option Region) (from : Option Key) : Type 0 where
  start : ℕ
  at : from ≡ slice_get (first_keys entries) start
  later : (i : ℕ) (r : Region) → slice_get (regions_of last entries) i ≡ Some r → IsLater after r ↔ (start ≤ i)

entry_of : (entries : List Entry) (i : ℕ) (key : Key) → slice_get (first_keys entries) i ≡ Some key → (e : Entry) × (slice_get entries i ≡ Some e) × (e.first ≡ key)
entry_of [] i key at = cc
entry_of (e ∷ entries) zero key at = (e, refl, cc)
entry_of (e ∷ entries) (suc i) key at = entry_of entries i key at

-- the region that is given for an address and a key: that which holds the greater of both; none where the space ends before the address
abbrev Reaches : IndexView → StoreFacts → ℕ → Key → Option Region → Type 0
Reaches index store z from None = index.last < z
Reaches index store z from (Some region) = (z ≤ index.last) × Gives index store (at_least from z) region

module _ (index : IndexView) (store : StoreFacts) (is : IsIndexOn index store) (after : Option Region) where
  starts : (from : Option Key) → IsFrom index store after from → IsStarted index.last (entries_in index store) after from
  starts from h = search (rules, begins, way_ends_at, later_than, up, region_first)

  -- the region that is reached, as one of the list
  reached : (z start : ℕ) (from : Key) (found : Option Region) → slice_get (first_keys (entries_in index store)) start ≡ Some from → Reaches index store z from found
      → found ≡ (if nat_le z index.last then slice_get (regions_of index.last (entries_in index store))
      (max start (index_holding (record { z = z; number = 0 }) (first_keys (entries_in index store)))) else None)
  reached z start from found at past = search (rules, lt-leb, way_ends_at, holding_max, up, le-leb, region_there, slice_get)

  none_found : (P : Region → Type 0) → IsFrom index store after None → First (λ r. IsLater after r × P r) (regions_of index.last (entries_in index store)) None
  none_found P from =
      let s = starts None from in
      none_of index.last (entries_in index store) (up index store is) (λ r. IsLater after r × P r) (λ i r there p.
      let le = (s.later i r there).0 p.0 in
      let near = slice_get_within (first_keys (entries_in index store)) i r.first (region_first index.last (entries_in index store) i r there) in
      elim ((slice_get_cases (first_keys (entries_in index store)) s.start).1) [
        | inl some ↦ let here = some.2 in let none = s.at in cc
        | inr past ↦ let far = past.0 in omega arith
      ])

  seek_found : (z : ℕ) (from : Key) (found : Option Region) → IsFrom index store after (Some from) → Reaches index store z from found
      → First (λ r. IsLater after r × (z ≤ r.to)) (regions_of index.last (entries_in index store)) found
  seek_found z from found is_from reaches =
      let s = starts (Some from) is_from in
      subst (λ (o : Option Region). First (λ r. IsLater after r × (z ≤ r.to)) (regions_of index.last (entries_in index store)) o) (sym (reached z s.start from found (sym s.at) reaches))
      (seek_first index.last (entries_in index store) (up index store is) (within index store is) after s.start s.later z)

  module _ (boxes : List Corners) (from : Key) (is_from : IsFrom index store after (Some from)) where
    meets_none : LeastFrom (HoldsAny boxes) from.z None → First (λ r. IsLater after r × Meets boxes r) (regions_of index.last (entries_in index store)) None
    meets_none none =
        let s = starts (Some from) is_from in
        let e = entry_of (entries_in index store) s.start from (sym s.at) in
        no_address index.last (entries_in index store) (up index store is) (within index store is) after s.start s.later boxes e.0 e.1
        (subst (λ (k : Key). LeastFrom (HoldsAny boxes) k.z None) (sym e.2) none)

    meets_found : (z : ℕ) (found : Option Region) → LeastFrom (HoldsAny boxes) from.z (Some z) → Reaches index store z from found
        → First (λ r. IsLater after r × Meets boxes r) (regions_of index.last (entries_in index store)) found
    meets_found z found least reaches =
        let s = starts (Some from) is_from in
        let e = entry_of (entries_in index store) s.start from (sym s.at) in
        subst (λ (o : Option Region). First (λ r. IsLater after r × Meets boxes r) (regions_of index.last (entries_in index store)) o) (sym (reached z s.start from found (sym s.at) reaches))
        (next_meets index.last (entries_in index store) (up index store is) (within index store is) after s.start s.later boxes e.0 e.1 (begins index store is) z
        (subst (λ (k : Key). LeastFrom (HoldsAny boxes) k.z (Some z)) (sym e.2) least))

  -- what is given on an index is the first of its regions
  seek_given : (z : ℕ) (found : Option Region) → GivesAfter index store (Aims (Address z)) after found
      → First (λ r. IsLater after r × (z ≤ r.to)) (regions_of index.last (entries_in index store)) found
  seek_given z None (None, from, none) = none_found (λ r. z ≤ r.to) from
  seek_given z None (Some key, from, inl none) = let no : None ≡ Some z = none in cc
  seek_given z None (Some key, from, inr (y, to, past)) =
      let same : y ≡ z = (let e : Some y ≡ Some z = to in cc) in
      seek_found z key None from (subst (λ (n : ℕ). index.last < n) same past)
  seek_given z (Some region) (None, from, none) = absurd none
  seek_given z (Some region) (Some key, from, (aim, (y, to, le, is_aim), given)) =
      let same : y ≡ z = (let e : Some y ≡ Some z = to in cc) in
      let given' : Gives index store (at_least key z) region =
      subst (λ (n : ℕ). Gives index store (at_least key n) region) same (subst (λ (k : Key). Gives index store k region) is_aim given) in
      seek_found z key (Some region) from (subst (λ (n : ℕ). n ≤ index.last) same le, given')

  pub meeting_given : (boxes : Bor (List Corners)) (found : Option Region) → GivesAfter index store (Aims (Boxes boxes)) after found
      → First (λ r. IsLater after r × Meets boxes.now r) (regions_of index.last (entries_in index store)) found
  meeting_given boxes None (None, from, none) = none_found (λ r. Meets boxes.now r) from
  meeting_given boxes None (Some key, from, inl none) = meets_none boxes.now key from none
  meeting_given boxes None (Some key, from, inr (z, to, past)) = meets_found boxes.now key from z None to past
  meeting_given boxes (Some region) (None, from, none) = absurd none
  meeting_given boxes (Some region) (Some key, from, (aim, (z, to, le, is_aim), given)) =
      meets_found boxes.now key from z (Some region) to (le, subst (λ (k : Key). Gives index store k region) is_aim given)

  pub goal_given : (goal : Goal) (found : Option Region) → GivesAfter index store (Aims goal) after found
      → First (λ r. IsLater after r × IsMet goal r) (regions_of index.last (entries_in index store)) found
  goal_given (Address z) found given = seek_given z found given
  goal_given (Boxes boxes) found given = meeting_given boxes found given

-- what holds of each answer holds of the one that there is
pub if_ok : {T : Type 0} (r : Result T IndexFault) (P Q : T → Type 0) → ((x : T) → P x → Q x) → IfOk r P → IfOk r Q
if_ok (Ok x) P Q f h = f x h
if_ok (Err e) P Q f h = tt
