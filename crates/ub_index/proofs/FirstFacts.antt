-- No way goes over page 0.
use Rattle.std.proofs.Common.{rules, ◌≡◌, ◌≤◌, ◌↔◌, inl, inr, ℕ, zero, suc, List, Option, sym, subst, slice_get}
use Rattle.ub_index.proofs.Common.{entries_of, Entry, FallsTo, IndexView, IsNotTaken, kept_named, Key, Leads, LeadsTo, NamesFitting, PageFault, Region}
use Rattle.ub_index.proofs.Common.{same_page, slice_get_cases, slice_get_within, Stops, StopsAt, StoreFacts}
use Rattle.ub_index.proofs.LeadFacts.{moved}
use Rattle.ub_index.proofs.WaysFacts.{whole_below}

-- an entry of a page that fits doesn't name it
pub below_some : (last : ℕ) (pages : List (List ℕ)) (key : Key) (level : ℕ) (entry : Entry) (end : Option Key) (below : Entry) (next : Option Key) → NamesFitting last pages level entry end
    → FallsTo key (entries_of pages entry.page) end below next → 1 ≤ below.page
below_some last pages key level entry end below next named falls = (whole_below last pages key level entry end below next named falls).some_page

-- what a way leads to doesn't name it
found_some : (last : ℕ) (pages : List (List ℕ)) (key : Key) (level : ℕ) (entry : Entry) (end : Option Key) (found : Entry) (next : Option Key) → 1 ≤ entry.page
    → LeadsTo last pages key level entry end found next → 1 ≤ found.page
found_some last pages key zero entry end found next some leads = subst (λ (e : Entry). 1 ≤ e.page) (sym leads.0) some
found_some last pages key (suc level) entry end found next some (named, below, beyond, falls, leads) =
    found_some last pages key level below beyond found next (below_some last pages key (suc level) entry end below beyond named falls) leads

-- and it doesn't stop there
stops_some : (last : ℕ) (pages : List (List ℕ)) (key : Key) (level : ℕ) (entry : Entry) (end : Option Key) (n : ℕ) (fault : Option PageFault) → 1 ≤ entry.page
    → StopsAt last pages key level entry end n fault → 1 ≤ n
stops_some last pages key zero entry end n fault some stops = absurd stops
stops_some last pages key (suc level) entry end n fault some (inl here) = subst (λ (m : ℕ). 1 ≤ m) (sym here.0) some
stops_some last pages key (suc level) entry end n fault some (inr (named, below, beyond, falls, stops)) =
    stops_some last pages key level below beyond n fault (below_some last pages key (suc level) entry end below beyond named falls) stops

-- where a page stays, it is refused as it was
kept_refused : (last : ℕ) (old new : List (List ℕ)) (level : ℕ) (entry : Entry) (end : Option Key) (fault : Option PageFault)
    → slice_get new entry.page ≡ slice_get old entry.page → IsNotTaken last old level entry end fault → IsNotTaken last new level entry end fault
kept_refused last old new level entry end fault same far = search (rules, slice_get_cases, slice_get_within, same_page)

-- where the pages of the index stay, a way leads where it led
pub leads_kept : (last : ℕ) (old new : List (List ℕ)) (key : Key)
    → ((level : ℕ) (entry : Entry) (end : Option Key) → 1 ≤ entry.page → NamesFitting last old level entry end → slice_get new entry.page ≡ slice_get old entry.page)
    → (level : ℕ) (entry : Entry) (end : Option Key) (found : Entry) (next : Option Key) → 1 ≤ entry.page → LeadsTo last old key level entry end found next
    → LeadsTo last new key level entry end found next
leads_kept last old new key keeps zero entry end found next some leads = leads
leads_kept last old new key keeps (suc level) entry end found next some (named, below, beyond, falls, leads) =
    let same = keeps (suc level) entry end some named in
    let rest = leads_kept last old new key keeps level below beyond found next (below_some last old key (suc level) entry end below beyond named falls) leads in
    (kept_named last old new (suc level) entry end same named, below, beyond, moved key old new entry below end beyond same falls, rest)

-- where all pages but it stay, ways lead and stop as they did
module _ (last : ℕ) (old new : List (List ℕ)) (keeps : (n : ℕ) → 1 ≤ n → slice_get new n ≡ slice_get old n) (key : Key) where
  leads_past : (level : ℕ) (entry : Entry) (end : Option Key) (found : Entry) (next : Option Key) → 1 ≤ entry.page → LeadsTo last old key level entry end found next
      → LeadsTo last new key level entry end found next
  leads_past level entry end found next some leads = leads_kept last old new key (λ l x e some named. keeps x.page some) level entry end found next some leads

  stops_past : (level : ℕ) (entry : Entry) (end : Option Key) (n : ℕ) (fault : Option PageFault) → 1 ≤ entry.page → StopsAt last old key level entry end n fault
      → StopsAt last new key level entry end n fault
  stops_past zero entry end n fault some stops = stops
  stops_past (suc level) entry end n fault some (inl here) = inl (here.0, kept_refused last old new (suc level) entry end fault (keeps entry.page some) here.1)
  stops_past (suc level) entry end n fault some (inr (named, below, beyond, falls, stops)) =
      let same = keeps entry.page some in
      inr (kept_named last old new (suc level) entry end same named, below, beyond, moved key old new entry below end beyond same falls, stops_past level below beyond n fault (below_some last old key (suc level) entry end below beyond named falls) stops)

pub ways_miss : (index : IndexView) (old new : StoreFacts) (key : Key) → 1 ≤ index.root
    → ((region : Region) → Leads index old key region → 1 ≤ region.page) × ((n : ℕ) (fault : Option PageFault) → Stops index old key n fault → 1 ≤ n)
    × (((n : ℕ) → 1 ≤ n → slice_get new.pages n ≡ slice_get old.pages n)
    → ((region : Region) → Leads index old key region ↔ Leads index new key region)
    × ((n : ℕ) (fault : Option PageFault) → Stops index old key n fault ↔ Stops index new key n fault))
ways_miss index old new key some = search (rules, found_some, stops_some, leads_past, stops_past)
