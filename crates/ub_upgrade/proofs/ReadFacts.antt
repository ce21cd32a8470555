-- Reading a directory page by page.
use Rattle.std.proofs.Common.{rules, ◌≡◌, ◌<◌, ◌≤◌, ◌+◌, ◌-◌, ◌↔◌, ◌&&◌, ◌++◌, inl, inr, ℕ, suc, get_or, Bool, true, IsTrue, List, [], ◌∷◌, Some, None, Err, length, take, drop, ◌∙◌, ap, subst, refl, arith, slice_get, slice_index_or}
use Rattle.ub_upgrade.proofs.Common.{All, All-from_recursion, all_append, all_more, AllByRecursion, and_parts, are_ascending, AreAscending, AreBegun, AreBelow}
use Rattle.ub_upgrade.proofs.Common.{AreFull, ArePlaces, cases_eq, cases_lt, common_steps, directory_page, drop-append-le, drop_all, Entry, first_keys, HasPart}
use Rattle.ub_upgrade.proofs.Common.{HeadingView, IsAskedFor, IsBuildFault, IsChain, IsDirectory, IsEntry, IsErrOf, IsHonest, IsListing, IsNamed, IsPage}
use Rattle.ub_upgrade.proofs.Common.{IsReadUpTo, Key, last_address, last_first, length-append, length-take, Listing, Old, origin, page_count, precedes}
use Rattle.ub_upgrade.proofs.Common.{precedes_of, Spells, StoreFacts, StoreFault, take-append-le, take_all}
use Rattle.ub_table.specs.Keys.{is_same}
use Rattle.ub_index.proofs.Laws.{same_key}
use Rattle.ub_store.specs.declared.fault.StoreFault.TheVariants as store

-- a directory that was read whole
pub record IsReadWhole (store : StoreFacts) (heading : HeadingView) (chain : List ℕ) (entries : List Entry) : Type 0 where
  pub each : All (IsEntry (last_address heading.dims)) entries
  pub places : ArePlaces (last_address heading.dims) entries
  pub regions_are : heading.regions ≡ length entries
  pub root_is : slice_get chain 0 ≡ Some heading.root
  pub some_chain : 1 ≤ length chain
  pub directory : IsHonest store → IsDirectory store.pages heading chain entries

and_true : (b : Bool) → (b && true) ≡ b
and_true b = search rules

-- entries after others are in order where the first of them is after the last of those
joined : (xs ys : List Entry) (key : Key) (f : Entry) → are_ascending (first_keys xs) ≡ true → are_ascending (first_keys ys) ≡ true → last_first xs ≡ Some key → slice_get ys 0 ≡ Some f
    → are_ascending (first_keys (xs ++ ys)) ≡ precedes key f.first
joined (x ∷ []) (y ∷ ys) key f up rest last first =
    let same : x.first ≡ key = cc in
    let also : y ≡ f = cc in
    ap (λ (b : Bool). precedes x.first y.first && b) rest ∙ and_true (precedes x.first y.first)
    ∙ ap (λ (k : Key). precedes k y.first) same ∙ ap (λ (e : Entry). precedes key e.first) also
joined (x ∷ z ∷ xs) ys key f up rest last first =
    let parts = and_parts _ _ up in
    ap (λ (b : Bool). b && are_ascending (first_keys ((z ∷ xs) ++ ys))) parts.0 ∙ joined (z ∷ xs) ys key f parts.1 rest last first
joined xs ys key f up rest last first = cc

pub ascends : (entries : List Entry) → AreAscending entries → are_ascending (first_keys entries) ≡ true
ascends (x ∷ y ∷ entries) up = search (rules, (ascends (y ∷ entries) up.1), precedes_of)
ascends entries up = refl

pub begun_after : (before entries : List Entry) (key : Key) (d : Entry) (b : Bool) → AreBegun before → AreAscending entries → last_first before ≡ Some key → 1 ≤ length entries
    → b ≡ precedes key (get_or entries 0 d).first → (b ≡ true) ↔ AreBegun (before ++ entries)
begun_after before entries key d b k j l m o = grind (arith, common_steps, ascends, joined)

some_last : (x : Entry) (xs : List Entry) → last_first (x ∷ xs) ≡ None → ⊥
some_last x [] e = cc
some_last x (y ∷ xs) e = some_last y xs e

pub begun_first : (before entries : List Entry) (d : Entry) (b : Bool) → last_first before ≡ None → AreAscending entries → 1 ≤ length entries
    → b ≡ is_same (get_or entries 0 d).first origin → (b ≡ true) ↔ AreBegun (before ++ entries)
begun_first [] [] d b none up some tells = grind (arith, common_steps, ascends, same_key, some_last)
begun_first before entries d b none up some tells = grind (arith, common_steps, ascends, same_key, some_last)

-- the last of entries after others
pub last_behind : (xs ys : List Entry) (d : Entry) → 1 ≤ length ys → last_first (xs ++ ys) ≡ Some (get_or ys (length ys - 1) d).first
last_behind [] (y ∷ []) d some = refl
last_behind [] (y ∷ z ∷ ys) d some = search (rules, (last_behind [] (z ∷ ys) d (omega arith)))
last_behind (x ∷ []) (y ∷ ys) d some = search (rules, (last_behind [] (y ∷ ys) d some))
last_behind (x ∷ z ∷ xs) ys d some = search (rules, (last_behind (z ∷ xs) ys d some))
last_behind xs ys d some = search rules

-- the first page of a chain that goes on
pub first_goes_on : (chain : List ℕ) (n m : ℕ) → slice_index_or (chain ++ n ∷ []) 0 m ≡ slice_index_or chain 0 n
first_goes_on chain n m = grind (arith, common_steps)

first_kept : (chain : List ℕ) (n m : ℕ) → slice_get ((chain ++ n ∷ []) ++ m ∷ []) 0 ≡ slice_get (chain ++ n ∷ []) 0
first_kept [] n m = refl
first_kept (a ∷ chain) n m = refl

long_front : (entries : List Entry) → length (take 170 entries) ≡ 170 → 170 ≤ length entries
long_front entries long = omega (arith, length-take 170 entries)

module _ (dims : ℕ) (pages : List (List ℕ)) where
  full_some : (chain : List ℕ) (entries : List Entry) (n : ℕ) → AreFull dims pages chain entries n → AllByRecursion (λ n. 1 ≤ n) chain
  full_some [] entries n h = tt
  full_some (a ∷ chain) entries n h = (h.0.some, full_some chain (drop 170 entries) n h.2)

  -- a full page more
  full_next : (chain : List ℕ) (entries : List Entry) (n : ℕ) (part : Listing) → AreFull dims pages chain entries n → Spells dims pages n part → length part.entries ≡ 170
      → AreFull dims pages (chain ++ n ∷ []) (entries ++ part.entries) part.next
  full_next [] entries n part h spells long =
      let whole : take 170 part.entries ≡ part.entries = take_all 170 part.entries (omega arith) in
      let none : drop 170 part.entries ≡ [] = drop_all 170 part.entries (omega arith) in
      rw h (rw whole spells, rw whole long, none)
  full_next (a ∷ chain) entries n part h spells long =
      let more = long_front entries h.1 in
      let front : take 170 (entries ++ part.entries) ≡ take 170 entries = take-append-le 170 entries part.entries more in
      let behind : drop 170 (entries ++ part.entries) ≡ drop 170 entries ++ part.entries = drop-append-le 170 entries part.entries more in
      (rw (front, first_goes_on chain n part.next) h.0, rw front h.1, rw behind (full_next chain (drop 170 entries) n part h.2 spells long))

  -- the last page
  chain_whole : (chain : List ℕ) (entries : List Entry) (n : ℕ) (part : Listing) → AreFull dims pages chain entries n → Spells dims pages n part → part.next ≡ 0
      → IsChain pages (chain ++ n ∷ []) (entries ++ part.entries)
  chain_whole [] entries n part h spells end = search (rules, drop-append-le, long_front, take-append-le)
  chain_whole (a ∷ []) entries n part h spells end = search (rules, (chain_whole [] (drop 170 entries) n part h.2 spells end), drop-append-le, long_front, take-append-le)
  chain_whole (a ∷ b ∷ chain) entries n part h spells end = search (rules, (chain_whole (b ∷ chain) (drop 170 entries) n part h.2 spells end), drop-append-le, long_front, take-append-le)

places_of : (last : ℕ) (entries : List Entry) → 1 ≤ length entries → AreBegun entries → AllByRecursion (IsEntry last) entries → ArePlaces last entries
places_of last entries k j l = search (rules, All-from_recursion, all_more)

-- a page of the directory was read that fits
module _ (old : StoreFacts) (heading : HeadingView) (chain : List ℕ) (entries : List Entry) (n : ℕ) (page : List ℕ) (part : Listing) (h : IsReadUpTo old heading chain entries n)
    (at : IsPage old n page) (range : IsListing heading.dims part) (page_is : page ≡ directory_page part) (fits : HasPart (heading.regions - length entries) part)
    (begun : AreBegun (entries ++ part.entries)) where
  spells : IsHonest old → Spells heading.dims old.pages n part
  spells is = record { some = h.some_page; range = range; page = at is ∙ ap (λ p. Some p) page_is }

  each_is : AllByRecursion (IsEntry (last_address heading.dims)) (entries ++ part.entries)
  each_is = all_append (IsEntry (last_address heading.dims)) entries part.entries h.each range.entries

  pub part_full : length entries + 170 < heading.regions → IsReadUpTo old heading (chain ++ n ∷ []) (entries ++ part.entries) part.next × (length (entries ++ part.entries) ≡ length entries + 170)
  part_full k = search (rules, cases_eq, each_is, first_kept, full_next, length-append, spells)

  pub part_whole : heading.regions ≤ length entries + 170 → IsReadWhole old heading (chain ++ n ∷ []) (entries ++ part.entries)
  part_whole k = search (rules, All-from_recursion, all_append, chain_whole, each_is, full_some, length-append, places_of, spells)

-- ---- a region's page that isn't there

pub not_below : (count : ℕ) (entries : List Entry) → ¬ (AreBelow count entries) → (i : ℕ) × (entry : Entry) × (slice_get entries i ≡ Some entry) × (count ≤ entry.page)
not_below count [] none = absurd (none tt)
not_below count (x ∷ entries) none = elim (cases_lt x.page count) [
  | inl less ↦ let rest = not_below count entries (λ all. none (less, all)) in (suc rest.0, rest.1, rest.2, rest.3)
  | inr past ↦ (0, x, refl, past)
]

pub named_missing : (heading : HeadingView) (old new : StoreFacts) (chain : List ℕ) (before : List Entry) (n met : ℕ) (page : List ℕ) (part : Listing) → IsReadUpTo old heading chain before n → met ≡ length before
    → IsPage old n page → IsListing heading.dims part → page ≡ directory_page part → HasPart (heading.regions - met) part → AreBegun (before ++ part.entries)
    → ¬ (AreBelow (page_count old) part.entries) → IsBuildFault heading old new (Old store.NoPage)
named_missing heading old new chain before n met page part up is at range page_is fits begun none =
    let far = not_below (page_count old) part.entries none in
    let named : IsNamed heading old far.1.page = record {
      chain = chain;
      before = before;
      number = n;
      asked = up;
      part = part;
      range = range;
      page = λ honest. at honest ∙ ap (λ (p : List ℕ). Some p) page_is;
      fits = subst (λ (m : ℕ). HasPart (heading.regions - m) part) is fits;
      begun = begun;
      index = far.0;
      first = far.1.first;
      names = far.2;
    } in
    (far.1.page, far.3, inr named)

pub read_refused : (U : Type 0) (fault : StoreFault) (heading : HeadingView) (old new : StoreFacts) (n : ℕ) → (IsErrOf {T = U} (Err fault) store.Device → IsTrue old.can_fail)
    → (IsErrOf {T = U} (Err fault) store.NoPage → page_count old ≤ n) → (¬ (IsErrOf {T = U} (Err fault) store.BadSize)) → IsAskedFor heading old n → IsBuildFault heading old new (Old fault)
read_refused U store.Device heading old new n device missing size asked = device refl
read_refused U store.NoPage heading old new n device missing size asked = (n, missing refl, inl asked)
read_refused U store.Memory heading old new n device missing size asked = tt
read_refused U store.BadSize heading old new n device missing size asked = absurd (size refl)
