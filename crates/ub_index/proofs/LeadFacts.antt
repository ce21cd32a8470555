-- Which keys a region holds to which a way leads, and what becomes of ways where a store grows.
use Rattle.std.proofs.Common.{rules, ◌≡◌, ◌≤◌, ◌∙◌, ◌⊎◌, ◌↔◌, inl, inr, ℕ, zero, suc, List, [], ◌∷◌, ◌++◌, Option, Some, None, IfSome, length, ap, sym, subst, refl, arith, slice_get}
use Rattle.ub_index.proofs.Common.{AddsNoIndexPage, ascend_right, AscendTo, before_le, before_of, cases_Bool, cases_lt, entries_in, entries_of, Entry, entry_at}
use Rattle.ub_index.proofs.Common.{FallsTo, first_keys, first_or, Gives, HoldsKey, index_holding, IndexView, IsBefore, IsHonest, IsIndexOn, IsIndexPage}
use Rattle.ub_index.proofs.Common.{IsRegionAt, IsUnder, kept_named, Key, le_trans, Leads, LeadsTo, length-append, not_before_origin, not_before_self, number_at}
use Rattle.ub_index.proofs.Common.{OldStayOutside, page_in, precedes, precedes_of, Region, same_entries, slice_get_within, Stops, StopsAt, StoreFacts, top}
use Rattle.ub_index.proofs.Common.{zero_page}
use Rattle.ub_index.proofs.PlaceFacts.{region_found}
use Rattle.ub_index.proofs.SpanFacts.{with_span}
use Rattle.ub_index.proofs.WayFacts.{falls_from, holds_below, under_below, way_ends_at}
use Rattle.ub_index.proofs.WaysFacts.{compare, end_below, ends_from, ends_to, first_up_to}

some_first : (after : List Entry) (end : Option Key) (limit : Key) → end ≡ Some limit → (first : Key) × (first_or after end ≡ Some first)
some_first [] end limit e = (limit, e)
some_first (x ∷ after) end limit e = (x.first, refl)

-- what is before the first of entries in order is before each
later_than : (key : Key) (m : List Entry) (x : Entry) (a : List Entry) (end : Option Key) → AscendTo (m ++ (x ∷ a)) end → IfSome (first_or (m ++ (x ∷ a)) None) (IsBefore key)
    → IsBefore key x.first
later_than key [] x a end up h = h
later_than key (y ∷ m) x a end up h = before_le key y.first x.first h (first_up_to (y ∷ m) x a end up y.first refl)

-- the first of entries doesn't stand behind one of them
not_behind : (b : List Entry) (x : Entry) (m : List Entry) (y : Entry) (a : List Entry) → b ++ (x ∷ (m ++ (y ∷ a))) ≡ y ∷ a → ⊥
not_behind b x m y a e =
    let long = ap length e in
    omega (arith, length-append b (x ∷ (m ++ (y ∷ a))), length-append m (y ∷ a))

-- a key falls to one of entries in order
module _ (key : Key) (entries : List Entry) (end : Option Key) (ascends : AscendTo entries end) where
  apart : (a : Entry) (o : Option Key) (falls : FallsTo key entries end a o) (b : Entry) (p : Option Key) (other : FallsTo key entries end b p)
      → (m : List Entry) → falls.after ≡ m ++ (b ∷ other.after) → ⊥
  apart a o falls b p other m h = search (rules, ascend_right, later_than, not_behind)

  pub falls_once : (a : Entry) (o : Option Key) (falls : FallsTo key entries end a o) (b : Entry) (p : Option Key) (other : FallsTo key entries end b p) → (a ≡ b) × (o ≡ p)
  falls_once a o falls b p other =
      elim (compare falls.before a falls.after other.before b other.after (sym falls.parts ∙ other.parts)) [
        | inl same ↦ (same.0, falls.next_is ∙ (ap (λ (xs : List Entry). first_or xs end) same.1 ∙ sym other.next_is))
        | inr apart_so ↦ elim apart_so [
          | inl behind ↦ absurd (apart a o falls b p other behind.0 behind.1)
          | inr ahead ↦ absurd (apart b p other a o falls ahead.0 ahead.1)
        ]
      ]

module _ (last : ℕ) (pages : List (List ℕ)) where
  -- what a way leads to holds the key, where what it begins with does
  pub holds_found : (key : Key) (level : ℕ) (entry : Entry) (end : Option Key) (found : Entry) (next : Option Key) → HoldsKey key entry.first end
      → LeadsTo last pages key level entry end found next → HoldsKey key found.first next
  holds_found key zero entry end found next h leads = record {
    from = subst (λ (e : Entry). ¬ (IsBefore key e.first)) (sym leads.0) h.from;
    to = subst (λ (o : Option Key). IfSome o (IsBefore key)) (sym leads.1) h.to;
  }
  holds_found key (suc level) entry end found next h (named, below, beyond, falls, leads) =
      holds_found key level below beyond found next
      (record {
        from = falls_from key (entries_of pages entry.page) entry.first end beyond below named.fits.begins h.from falls;
        to = holds_below key (entries_of pages entry.page) entry.first end beyond below falls h.to;
      }) leads

  -- and begins before the next one
  pub before_next : (key : Key) (level : ℕ) (entry : Entry) (end : Option Key) (found : Entry) (next : Option Key) → IfSome end (IsBefore entry.first)
      → LeadsTo last pages key level entry end found next → IfSome next (IsBefore found.first)
  before_next key zero entry end found next h leads =
      subst (λ (o : Option Key). IfSome o (IsBefore found.first)) (sym leads.1) (subst (λ (e : Entry). IfSome end (IsBefore e.first)) (sym leads.0) h)
  before_next key (suc level) entry end found next h (named, below, beyond, falls, leads) =
      before_next key level below beyond found next (end_below last pages key (suc level) entry end below beyond named falls) leads

  -- something follows it, where something follows what the way begins with
  next_some : (key : Key) (level : ℕ) (entry : Entry) (end : Option Key) (found : Entry) (next : Option Key) → LeadsTo last pages key level entry end found next
      → (limit : Key) → end ≡ Some limit → (first : Key) × (next ≡ Some first)
  next_some key zero entry end found next leads limit e = (limit, leads.1 ∙ e)
  next_some key (suc level) entry end found next (named, below, beyond, falls, leads) limit e =
      let middle = some_first falls.after end limit e in
      next_some key level below beyond found next leads middle.0 (falls.next_is ∙ middle.1)

  -- each key that it holds falls to the same entry on the way to it
  pub falls_other : (key other : Key) (level : ℕ) (entry : Entry) (end : Option Key) (found : Entry) (next : Option Key) (below : Entry) (beyond : Option Key)
      → FallsTo key (entries_of pages entry.page) end below beyond → LeadsTo last pages key level below beyond found next → HoldsKey other found.first next
      → FallsTo other (entries_of pages entry.page) end below beyond
  falls_other key other level entry end found next below beyond falls leads h = record {
    before = falls.before;
    after = falls.after;
    parts = falls.parts;
    next_is = falls.next_is;
    from = inr (le_trans below.first found.first other (ends_from last pages key level below beyond found next leads) h.from);
    to = to_of falls.after falls.next_is;
  }
    where
      to_of : (after : List Entry) → beyond ≡ first_or after end → IfSome (first_or after None) (IsBefore other)
      to_of [] e = tt
      to_of (x ∷ after) e =
          let first = next_some key level below beyond found next leads x.first e in
          let sooner : IfSome (Some first.0) (IsBefore other) = subst (λ (o : Option Key). IfSome o (IsBefore other)) first.1 h.to in
          before_le other first.0 x.first sooner (ends_to last pages key level below beyond found next leads first.0 x.first first.1 e)

  -- so the way to that key leads to it
  pub held_way : (key other : Key) (level : ℕ) (entry : Entry) (end : Option Key) (found : Entry) (next : Option Key) → LeadsTo last pages key level entry end found next
      → HoldsKey other found.first next → LeadsTo last pages other level entry end found next
  held_way key other zero entry end found next leads h = leads
  held_way key other (suc level) entry end found next (named, below, beyond, falls, leads) h = (
    named,
    below,
    beyond,
    falls_other key other level entry end found next below beyond falls leads h,
    held_way key other level below beyond found next leads h,
  )

  -- the way to a key leads to one entry
  pub one_way : (key : Key) (level : ℕ) (entry : Entry) (end : Option Key) (f1 : Entry) (n1 : Option Key) (f2 : Entry) (n2 : Option Key) → LeadsTo last pages key level entry end f1 n1
      → LeadsTo last pages key level entry end f2 n2 → (f1 ≡ f2) × (n1 ≡ n2)
  one_way key zero entry end f1 n1 f2 n2 h1 h2 = (h1.0 ∙ sym h2.0, h1.1 ∙ sym h2.1)
  one_way key (suc level) entry end f1 n1 f2 n2 (named1, x1, o1, falls1, leads1) (named2, x2, o2, falls2, leads2) =
      let same = falls_once key (entries_of pages entry.page) end named1.fits.ascends x1 o1 falls1 x2 o2 falls2 in
      let leads : LeadsTo last pages key level x2 o2 f1 n1 =
      subst (λ (e : Entry). LeadsTo last pages key level e o2 f1 n1) same.0 (subst (λ (o : Option Key). LeadsTo last pages key level x1 o f1 n1) same.1 leads1) in
      one_way key level x2 o2 f1 n1 f2 n2 leads leads2

-- a key that isn't before the first of entries falls to one of them
falls_in : (key : Key) (xs : List Entry) (first : Key) (end : Option Key) → first_or xs None ≡ Some first → ¬ (IsBefore key first)
    → (below : Entry) × (next : Option Key) × FallsTo key xs end below next
falls_in key [] first end begins from = cc
falls_in key (x ∷ []) first end begins from = (x, end, record { before = []; after = []; parts = refl; next_is = refl; from = inl refl; to = tt })
falls_in key (x ∷ y ∷ ys) first end begins from = elim (cases_Bool (precedes key y.first)) [
  | inl t ↦ (x, Some y.first, record { before = []; after = y ∷ ys; parts = refl; next_is = refl; from = inl refl; to = before_of key y.first t })
  | inr f ↦
      let later : ¬ (IsBefore key y.first) = λ yes. let t = precedes_of key y.first yes in cc in
      let r = falls_in key (y ∷ ys) y.first end refl later in
      let is = r.2 in (
        r.0,
        r.1,
        record {
          before = x ∷ is.before;
          after = is.after;
          parts = ap (λ (zs : List Entry). x ∷ zs) is.parts;
          next_is = is.next_is;
          from = inr (falls_from key (y ∷ ys) y.first end r.1 r.0 refl later is);
          to = is.to;
        },
      )
]

-- on an index there is a way to each key
module _ (last : ℕ) (pages : List (List ℕ)) (key : Key) where
  way_there : (level : ℕ) (entry : Entry) (end : Option Key) → IsUnder last pages level entry end → ¬ (IsBefore key entry.first)
      → (found : Entry) × (next : Option Key) × LeadsTo last pages key level entry end found next
  way_there zero entry end is from = (entry, end, (refl, refl))
  way_there (suc level) entry end is from =
      let (below, beyond, falls) = falls_in key (entries_of pages entry.page) entry.first end is.0.fits.begins from in
      let later = falls_from key (entries_of pages entry.page) entry.first end beyond below is.0.fits.begins from falls in
      let way = way_there level below beyond (under_below last pages key level entry end below beyond is falls) later in
      (way.0, way.1, (is.0, below, beyond, falls, way.2))

-- and so each region is led to
pub led_to : (index : IndexView) (store : StoreFacts) (i : ℕ) (region : Region) → IsIndexOn index store → IsRegionAt (entries_in index store) i region
    → Leads index store region.first region
led_to index store i region is at =
    let way = way_there index.last store.pages region.first index.levels (top index.root) None is.under_it (not_before_origin region.first) in
    let same = region_found index store i region is at way.0 way.1 way.2 in
    subst (λ (o : Option Key). LeadsTo index.last store.pages region.first index.levels (top index.root) None (entry_at region) o) same.1
    (subst (λ (e : Entry). LeadsTo index.last store.pages region.first index.levels (top index.root) None e way.1) same.0 way.2)

pub regions_led_to : (index : IndexView) (store : StoreFacts) → IsIndexOn index store
    → ((key : Key) (region : Region) → Leads index store key region → IsRegionAt (entries_in index store) (index_holding key (first_keys (entries_in index store))) region)
    × ((i : ℕ) (region : Region) → IsRegionAt (entries_in index store) i region → Leads index store region.first region)
regions_led_to index store is = (λ key region leads. way_ends_at index store key region is leads, λ i region at. led_to index store i region is at)

-- where a page stays, a key falls to the entry to which it fell
pub moved : (key : Key) (a b : List (List ℕ)) (entry below : Entry) (end beyond : Option Key) → slice_get b entry.page ≡ slice_get a entry.page → FallsTo key (entries_of a entry.page) end below beyond
    → FallsTo key (entries_of b entry.page) end below beyond
moved key a b entry below end beyond same falls = subst (λ (xs : List Entry). FallsTo key xs end below beyond) (sym (same_entries a b entry.page same)) falls

abbrev IsIndexAt : ℕ → List (List ℕ) → ℕ → Type 0
IsIndexAt last pages n = (slice_get pages n ≡ Some (page_in pages n)) × IsIndexPage last (page_in pages n)

-- what becomes of ways where the pages that there were stay, and others may stand after them
module _ (last : ℕ) (old new : List (List ℕ)) (keeps : OldStayOutside [] old new) (key : Key) where
  -- one that led to an entry leads there still
  still_leads : (level : ℕ) (entry : Entry) (end : Option Key) (found : Entry) (next : Option Key) → LeadsTo last old key level entry end found next
      → LeadsTo last new key level entry end found next
  still_leads zero entry end found next leads = leads
  still_leads (suc level) entry end found next (named, below, beyond, falls, leads) =
      let same = keeps entry.page (slice_get_within old entry.page (page_in old entry.page) named.there) tt in
      (kept_named last old new (suc level) entry end same named, below, beyond, moved key old new entry below end beyond same falls, still_leads level below beyond found next leads)

  -- one that leads to an entry led there, or stopped where no page was and one of an index came
  led_or_stopped : (level : ℕ) (entry : Entry) (end : Option Key) (found : Entry) (next : Option Key) → LeadsTo last new key level entry end found next
      → LeadsTo last old key level entry end found next ⊎ ((n : ℕ) × StopsAt last old key level entry end n None × (length old ≤ n) × IsIndexAt last new n)
  led_or_stopped zero entry end found next leads = inl leads
  led_or_stopped (suc level) entry end found next (named, below, beyond, falls, leads) = elim (cases_lt entry.page (length old)) [
    | inl near ↦
        let same = sym (keeps entry.page near tt) in
        let was = kept_named last new old (suc level) entry end same named in
        let fell = moved key new old entry below end beyond same falls in
        elim (led_or_stopped level below beyond found next leads) [
          | inl led ↦ inl (was, below, beyond, fell, led)
          | inr stopped ↦ inr (stopped.0, inr (was, below, beyond, fell, stopped.1), stopped.2, stopped.3)
        ]
    | inr far ↦ inr (entry.page, inl (refl, far), far, (named.there, named.fits.is))
  ]

  -- so it led there, if no page that came is one of an index
  led : AddsNoIndexPage last old new → (level : ℕ) (entry : Entry) (end : Option Key) (found : Entry) (next : Option Key) → LeadsTo last new key level entry end found next
      → LeadsTo last old key level entry end found next
  led none level entry end found next leads = elim (led_or_stopped level entry end found next leads) [
    | inl was ↦ was
    | inr (n, stops, far, page) ↦ absurd (none n (page_in new n) far page.0 page.1)
  ]

-- a page of zeros is none of an index
pub blank_is_none : (last : ℕ) → ¬ (IsIndexPage last zero_page)
unfolding number_at
blank_is_none last h = search rules

-- the same of the regions of an index
pub ways_hold : (index : IndexView) (store : StoreFacts) (key : Key) (region : Region) → Leads index store key region
    → HoldsKey key region.first region.next × HoldsKey region.first region.first region.next
    × ((other : Key) → HoldsKey other region.first region.next → Leads index store other region)
ways_hold index store key region leads = search (rules, holds_found, not_before_origin, not_before_self, before_next, held_way)

pub ways_are_one : (index : IndexView) (store : StoreFacts) (key : Key) (a b : Region) → Leads index store key a → Leads index store key b
    → (entry_at a ≡ entry_at b) × (a.next ≡ b.next)
ways_are_one index store key a b to_a to_b = one_way index.last store.pages key index.levels (top index.root) None (entry_at a) a.next (entry_at b) b.next to_a to_b

-- so over an honest store one region is given for a key
pub one_given : (index : IndexView) (store : StoreFacts) (key : Key) (a b : Region) → IsHonest store → Gives index store key a → Gives index store key b → a ≡ b
one_given index store key a b honest given_a given_b = search (rules, ways_are_one, with_span)

pub ways_stay : (index : IndexView) (old new : StoreFacts) (key : Key) (region : Region) → OldStayOutside [] old.pages new.pages
    → (Leads index old key region → Leads index new key region)
    × (Leads index new key region → Leads index old key region ⊎ ((n : ℕ) × Stops index old key n None))
ways_stay index old new key region keeps = search (rules, still_leads, led_or_stopped, led)

pub ways_are_the_same : (index : IndexView) (old new : StoreFacts) (key : Key) (region : Region) → OldStayOutside [] old.pages new.pages → AddsNoIndexPage index.last old.pages new.pages
    → Leads index old key region ↔ Leads index new key region
ways_are_the_same index old new key region keeps none = (
  λ leads. still_leads index.last old.pages new.pages keeps key index.levels (top index.root) None (entry_at region) region.next leads,
  λ leads. led index.last old.pages new.pages keeps key none index.levels (top index.root) None (entry_at region) region.next leads,
)
