-- The way down to a key: its steps, and where it ends on pages on which an index stands.
use Rattle.std.proofs.Common.{rules, ◌≡◌, ◌<◌, ◌-◌, ◌^◌, ◌++◌, inl, inr, ℕ, zero, suc, false, List, [], ◌∷◌, Option, Some, None, IfSome, length, slice_get, ◌∙◌, sym, ap, subst, refl, arith, append_assoc}
use Rattle.ub_index.proofs.Common.{AscendTo, BadCount, before_of, before_trans, cases_Bool, each_right, EachTo, entries_in, entries_of, Entry, entry_at}
use Rattle.ub_index.proofs.Common.{FallsTo, first_append, first_keys, first_or, Fits, flat_map, flat_map-append, index_holding, IndexView, IsBefore}
use Rattle.ub_index.proofs.Common.{IsIndexFault, IsIndexOn, IsNotTaken, IsRegionAt, IsUnder, IsUnfit, Key, Leads, LeadsTo, NamesFitting, node_not_refused}
use Rattle.ub_index.proofs.Common.{node_on, not_before_origin, OutOfRegion, page_in, PageFault, precedes, precedes_of, Region, slice_get_within, StepsTo}
use Rattle.ub_index.proofs.Common.{StopsAt, StoreFacts, top, under}
use Rattle.ub_index.proofs.OrderFacts.{first_more, under_ascends, under_first}

module _ (store now : StoreFacts) (same : now ≡ store) (last : ℕ) (key : Key) where
  -- what lies below a step lies on the way from above it
  pub leads_on : (level : ℕ) (entry below found : Entry) (end next after : Option Key) → 0 < level → StepsTo last now key level entry end below next
      → LeadsTo last store.pages key (level - 1) below next found after → LeadsTo last store.pages key level entry end found after
  leads_on zero entry below found end next after some step h = absurd (omega arith)
  leads_on (suc level) entry below found end next after some step h =
      let one : suc level - 1 ≡ level = omega arith in
      let h' = subst (λ (s : StoreFacts). StepsTo last s key (suc level) entry end below next) same step in
      (h'.named, below, next, h'.falls, subst (λ (n : ℕ). LeadsTo last store.pages key n below next found after) one h)

  pub stops_on : (level : ℕ) (entry below : Entry) (end next : Option Key) (n : ℕ) (fault : Option PageFault) → 0 < level → StepsTo last now key level entry end below next
      → StopsAt last store.pages key (level - 1) below next n fault → StopsAt last store.pages key level entry end n fault
  stops_on zero entry below end next n fault some step h = absurd (omega arith)
  stops_on (suc level) entry below end next n fault some step h =
      let one : suc level - 1 ≡ level = omega arith in
      let h' = subst (λ (s : StoreFacts). StepsTo last s key (suc level) entry end below next) same step in
      inr (h'.named, below, next, h'.falls, subst (λ (m : ℕ). StopsAt last store.pages key m below next n fault) one h)

  pub stops_here : (level : ℕ) (entry : Entry) (end : Option Key) (fault : Option PageFault) → 0 < level → IsNotTaken last now.pages level entry end fault
      → StopsAt last store.pages key level entry end entry.page fault
  stops_here zero entry end fault some h = absurd (omega arith)
  stops_here (suc level) entry end fault some h = inl (refl, subst (λ (s : StoreFacts). IsNotTaken last s.pages (suc level) entry end fault) same h)

-- in a list of entries this one holds the key, and the next one begins there
record IsPlace (key : Key) (entries : List Entry) (end : Option Key) (found : Entry) (next : Option Key) : Type 0 where
  before : List Entry
  after : List Entry
  parts : entries ≡ before ++ (found ∷ after)
  next_is : next ≡ first_or after end
  from : ¬ (IsBefore key found.first)
  to : IfSome next (IsBefore key)

pub rest_begins : (last : ℕ) (pages : List (List ℕ)) (level : ℕ) (rest : List Entry) (end : Option Key) → EachTo (IsUnder last pages level) rest end
    → first_or rest end ≡ first_or (flat_map (under pages level) rest) end
rest_begins last pages level [] end each = refl
rest_begins last pages level (x ∷ xs) end each =
    sym (first_more (under pages level x) (flat_map (under pages level) xs) end x.first (under_first last pages level x (first_or xs end) each.0))

pub falls_from : (key : Key) (entries : List Entry) (first : Key) (end next : Option Key) (below : Entry) → first_or entries None ≡ Some first → ¬ (IsBefore key first)
    → FallsTo key entries end below next → ¬ (IsBefore key below.first)
falls_from key entries first end next below begins from h = search rules

pub falls_to : (key : Key) (after : List Entry) (end : Option Key) → IfSome end (IsBefore key) → IfSome (first_or after None) (IsBefore key) → IfSome (first_or after end) (IsBefore key)
falls_to key [] end to h = to
falls_to key (x ∷ xs) end to h = h

-- what the way down leads to holds the key
pub holds_below : (key : Key) (entries : List Entry) (first : Key) (end next : Option Key) (below : Entry) → FallsTo key entries end below next → IfSome end (IsBefore key)
    → IfSome next (IsBefore key)
holds_below key entries first end next below h to = subst (λ (o : Option Key). IfSome o (IsBefore key)) (sym h.next_is) (falls_to key h.after end to h.to)

-- below an entry to which a key falls stands what an index has there
pub under_below : (last : ℕ) (pages : List (List ℕ)) (key : Key) (level : ℕ) (entry : Entry) (end : Option Key) (below : Entry) (beyond : Option Key)
    → IsUnder last pages (suc level) entry end → FallsTo key (entries_of pages entry.page) end below beyond → IsUnder last pages level below beyond
under_below last pages key level entry end below beyond is falls =
    subst (λ (o : Option Key). IsUnder last pages level below o) (sym falls.next_is)
    (each_right (IsUnder last pages level) falls.before (below ∷ falls.after) end (subst (λ (xs : List Entry). EachTo (IsUnder last pages level) xs end) falls.parts is.1)).0

regroup : (b p q r : List Entry) (x : Entry) → b ++ ((p ++ (x ∷ q)) ++ r) ≡ (b ++ p) ++ (x ∷ (q ++ r))
regroup b p q r x = ap (λ (xs : List Entry). b ++ xs) (append_assoc p (x ∷ q) r) ∙ sym (append_assoc b p (x ∷ (q ++ r)))

place : (last : ℕ) (pages : List (List ℕ)) (key : Key) (level : ℕ) (entry : Entry) (end : Option Key) (found : Entry) (next : Option Key) → ¬ (IsBefore key entry.first)
    → IfSome end (IsBefore key) → IsUnder last pages level entry end → LeadsTo last pages key level entry end found next → IsPlace key (under pages level entry) end found next
place last pages key zero entry end found next from to is h = record {
  before = [];
  after = [];
  parts = ap (λ (e : Entry). e ∷ []) (sym h.0);
  next_is = h.1;
  from = subst (λ (e : Entry). ¬ (IsBefore key e.first)) (sym h.0) from;
  to = subst (λ (o : Option Key). IfSome o (IsBefore key)) (sym h.1) to;
}
place last pages key (suc level) entry end found next from to is (named, below, beyond, falls, leads) =
    let each : EachTo (IsUnder last pages level) (below ∷ falls.after) end =
    each_right (IsUnder last pages level) falls.before (below ∷ falls.after) end
    (subst (λ (xs : List Entry). EachTo (IsUnder last pages level) xs end) falls.parts is.1) in
    let in_it : IsPlace key (under pages level below) beyond found next =
    place last pages key level below beyond found next
    (falls_from key (entries_of pages entry.page) entry.first end beyond below is.0.fits.begins from falls)
    (holds_below key (entries_of pages entry.page) entry.first end beyond below falls to) (under_below last pages key level entry end below beyond is falls) leads in
    let u = flat_map (under pages level) falls.before in
    let v = flat_map (under pages level) falls.after in
    record {
      before = u ++ in_it.before;
      after = in_it.after ++ v;
      parts = ap (λ (xs : List Entry). flat_map (under pages level) xs) falls.parts
          ∙ (flat_map-append (under pages level) falls.before (below ∷ falls.after)
          ∙ (ap (λ (xs : List Entry). u ++ (xs ++ v)) in_it.parts ∙ regroup u in_it.before in_it.after v found));
      next_is = in_it.next_is
          ∙ (ap (λ (o : Option Key). first_or in_it.after o) (falls.next_is ∙ rest_begins last pages level falls.after end each.1) ∙ sym (first_append in_it.after v end));
      from = in_it.from;
      to = in_it.to;
    }

-- of entries in order one is before a later one
pub before_found : (b : Entry) (before : List Entry) (found : Entry) (after : List Entry) → AscendTo (b ∷ (before ++ (found ∷ after))) None → IsBefore b.first found.first
before_found b [] found after up = up.0
before_found b (x ∷ before) found after up = before_trans b.first x.first found.first up.0 (before_found x before found after up.1)

pub not_true : (key first : Key) → ¬ (IsBefore key first) → precedes key first ≡ false
not_true key first h = elim (cases_Bool (precedes key first)) [
  | inl t ↦ absurd (h (before_of key first t))
  | inr f ↦ f
]

holding : (key : Key) (before : List Entry) (found : Entry) (after : List Entry) → AscendTo (before ++ (found ∷ after)) None → ¬ (IsBefore key found.first)
    → IfSome (first_or after None) (IsBefore key) → index_holding key (first_keys (before ++ (found ∷ after))) ≡ length before
holding key [] found [] up from to = refl
holding key [] found (x ∷ after) up from to = rw (precedes_of key x.first to) refl
holding key (b ∷ []) found after up from to = rw (not_true key found.first from) (ap (λ (n : ℕ). suc n) (holding key [] found after up.1 from to))
holding key (b ∷ x ∷ before) found after up from to =
    let later : ¬ (IsBefore key x.first) = λ yes. from (before_trans key x.first found.first yes (before_found x before found after up.1)) in
    rw (not_true key x.first later) (ap (λ (n : ℕ). suc n) (holding key (x ∷ before) found after up.1 from to))

pub first_is : (xs : List Entry) → first_or xs None ≡ slice_get (first_keys xs) 0
first_is [] = refl
first_is (x ∷ xs) = refl

region_in : (before : List Entry) (region : Region) (after : List Entry) → region.next ≡ first_or after None
    → IsRegionAt (before ++ (entry_at region ∷ after)) (length before) region
region_in before region after is = record { within = within before; entry = entry before; next = is ∙ beyond before }
  where
    within : (b : List Entry) → length b < length (b ++ (entry_at region ∷ after))
    within [] = omega arith
    within (x ∷ b) = let more = within b in omega arith

    entry : (b : List Entry) → slice_get (b ++ (entry_at region ∷ after)) (length b) ≡ Some (entry_at region)
    entry [] = refl
    entry (x ∷ b) = entry b

    beyond : (b : List Entry) → first_or after None ≡ slice_get (first_keys (b ++ (entry_at region ∷ after))) (suc (length b))
    beyond [] = first_is after
    beyond (x ∷ b) = beyond b

-- the entries of an index are in order
pub in_order : (index : IndexView) (store : StoreFacts) → IsIndexOn index store → AscendTo (entries_in index store) None
in_order index store is = under_ascends index.last store.pages index.levels (top index.root) None tt is.under_it

-- on an index the way to a key ends at the region that holds it
pub way_ends_at : (index : IndexView) (store : StoreFacts) (key : Key) (region : Region) → IsIndexOn index store → Leads index store key region
    → IsRegionAt (entries_in index store) (index_holding key (first_keys (entries_in index store))) region
way_ends_at index store key region is leads =
    let there = place index.last store.pages key index.levels (top index.root) None (entry_at region) region.next (not_before_origin key) tt is.under_it leads in
    let up : AscendTo (there.before ++ (entry_at region ∷ there.after)) None =
    subst (λ (xs : List Entry). AscendTo xs None) there.parts (in_order index store is) in
    let to : IfSome (first_or there.after None) (IsBefore key) = subst (λ (o : Option Key). IfSome o (IsBefore key)) there.next_is there.to in
    let index_is : index_holding key (first_keys (entries_in index store)) ≡ length there.before =
    ap (λ (xs : List Entry). index_holding key (first_keys xs)) there.parts
    ∙ holding key there.before (entry_at region) there.after up there.from to in
    subst (λ (n : ℕ). IsRegionAt (entries_in index store) n region) (sym index_is)
    (subst (λ (xs : List Entry). IsRegionAt xs (length there.before) region) (sym there.parts)
    (region_in there.before region there.after there.next_is))

-- and it never stops
misfit_or_fault : (last : ℕ) (page : List ℕ) (level : ℕ) (entry : Entry) (end : Option Key) (fault : PageFault) → Fits last page level entry end
    → IsUnfit last page level entry end fault → IsIndexFault last page fault
misfit_or_fault last page level entry end BadCount fits (inl h) = h
misfit_or_fault last page level entry end BadCount fits (inr h) = absurd (h.1 fits.level_is)
misfit_or_fault last page level entry end OutOfRegion fits h = absurd (h.2 fits)
misfit_or_fault last page level entry end fault fits h = h

module _ (last : ℕ) (small : last < 2 ^ 128) (pages : List (List ℕ)) (key : Key) where
  pub named_not_refused : (level : ℕ) (entry : Entry) (end : Option Key) (fault : Option PageFault) → NamesFitting last pages level entry end
      → ¬ (IsNotTaken last pages level entry end fault)
  named_not_refused level entry end None h far = let near = slice_get_within pages entry.page (page_in pages entry.page) h.there in omega arith
  named_not_refused level entry end (Some fault) h refused =
      node_not_refused (node_on (page_in pages entry.page)) (page_in pages entry.page) last small h.fits.is.is h.fits.is.spelled fault
      (misfit_or_fault last (page_in pages entry.page) level entry end fault h.fits refused.1)

  pub never_stops : (level : ℕ) (entry : Entry) (end : Option Key) (n : ℕ) (fault : Option PageFault) → IsUnder last pages level entry end
      → ¬ (StopsAt last pages key level entry end n fault)
  never_stops zero entry end n fault is h = h
  never_stops (suc level) entry end n fault is (inl here) = named_not_refused (suc level) entry end fault is.0 here.1
  never_stops (suc level) entry end n fault is (inr (named, below, beyond, falls, stops)) =
      never_stops level below beyond n fault (under_below last pages key level entry end below beyond is falls) stops
