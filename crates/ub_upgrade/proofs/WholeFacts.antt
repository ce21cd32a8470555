-- The pages of a store hold one directory of format 1 alone that begins on a page, and reading finds it.
use Rattle.std.proofs.Common.{rules, ◌≡◌, ◌<◌, ◌≤◌, ◌+◌, ◌-◌, ◌^◌, ◌++◌, inl, inr, ℕ, zero, suc, true, List, [], ◌∷◌, Some, None, Result, length, take, drop, ◌∙◌, sym, ap, subst, refl, arith, slice_get, slice_index_or, append_assoc}
use Rattle.ub_upgrade.proofs.Common.{all_right, AllByRecursion, and_from, and_parts, are_ascending, AreAscending, AreBegun, AreBelow, AreFull, ArePlaces}
use Rattle.ub_upgrade.proofs.Common.{ascend_of, common_steps, directory_page, Entry, first_keys, HasBuilt, HasPart, HeadingView, IsBuildFault, IsBuilt, IsChain}
use Rattle.ub_upgrade.proofs.Common.{IsDirectory, IsEntry, IsErrAnd, IsHonest, IsListing, IsMisfit, IsPartFault, IsPassing, IsReadUpTo, last_address}
use Rattle.ub_upgrade.proofs.Common.{length-append, length-drop, Listing, listing_not_refused, listing_parts, MatchResult, New, Old, Page, page_count}
use Rattle.ub_upgrade.proofs.Common.{PageFault, Root, slice_get_within, Spells, StoreFacts, take-append-drop, UpgradeFault}
use Rattle.std.proofs.Math.Seq.{take-append-add}
use Rattle.ub_region.proofs.Laws.{all_drop, all_take}
use Rattle.ub_upgrade.proofs.BringFacts.{some_same}
use Rattle.ub_index.proofs.Lists.{ascending_of}
use Rattle.ub_store.specs.declared.fault.StoreFault.TheVariants as store

ascending_take : (n : ℕ) (entries : List Entry) → AreAscending entries → AreAscending (take n entries)
ascending_take (suc (suc n)) (x ∷ y ∷ entries) up = (up.0, ascending_take (suc n) (y ∷ entries) up.1)
ascending_take (suc zero) (x ∷ entries) up = tt
ascending_take n entries up = tt

ascending_drop : (n : ℕ) (entries : List Entry) → AreAscending entries → AreAscending (drop n entries)
ascending_drop zero (x ∷ entries) up = up
ascending_drop (suc n) (x ∷ []) up = ascending_drop n [] tt
ascending_drop (suc n) (x ∷ y ∷ entries) up = ascending_drop n (y ∷ entries) up.1
ascending_drop n entries up = tt

ascends_back : (entries : List Entry) → are_ascending (first_keys entries) ≡ true → AreAscending entries
ascends_back entries up = ascending_of entries None (ascend_of entries up)

-- the first entries of a directory
begun_of : (last : ℕ) (entries : List Entry) → ArePlaces last entries → AreBegun entries
begun_of last entries j = search rules

begun_take : (n : ℕ) (entries : List Entry) → AreBegun entries → AreBegun (take n entries)
begun_take (suc n) (e ∷ entries) h = (h.0, keys_up (suc n) (e ∷ entries) h.1)
  where
    keys_up : (n : ℕ) (entries : List Entry) → are_ascending (first_keys entries) ≡ true → are_ascending (first_keys (take n entries)) ≡ true
    keys_up (suc (suc n)) (x ∷ y ∷ entries) up =
        let parts = and_parts _ _ up in
        and_from _ _ parts.0 (keys_up (suc n) (y ∷ entries) parts.1)
    keys_up (suc zero) (x ∷ entries) up = refl
    keys_up n entries up = refl
begun_take n entries h = tt

module _ (dims : ℕ) (few : dims ≤ 4) (pages : List (List ℕ)) where
  -- the pages of this chain spell the entries, as parts of a directory in range
  abbrev pub AreListed : List ℕ → List Entry → Type 0
  AreListed [] entries = ⊥
  AreListed (n ∷ []) entries = Spells dims pages n (record { entries = entries; next = 0 })
  AreListed (n ∷ m ∷ chain) entries =
      Spells dims pages n (record { entries = take 170 entries; next = m }) × (length (take 170 entries) ≡ 170) × AreListed (m ∷ chain) (drop 170 entries)

  listings_same : (n m : ℕ) (a b : Listing) → n ≡ m → Spells dims pages n a → Spells dims pages m b → a ≡ b
  listings_same n m a b same at_a at_b =
      let page : directory_page a ≡ directory_page b = some_same (slice_get pages n) (directory_page a) (directory_page b) at_a.page (ap (slice_get pages) same ∙ at_b.page) in
      sym (listing_parts a (directory_page a) dims few at_a.range refl).on ∙ (listing_parts b (directory_page a) dims few at_b.range page).on

  listed_some : (n : ℕ) (chain : List ℕ) (entries : List Entry) → AreListed (n ∷ chain) entries → 1 ≤ n
  listed_some n chain entries j = search rules

  listed_in : (n : ℕ) (chain : List ℕ) (entries : List Entry) → AreListed (n ∷ chain) entries → n < length pages
  listed_in n [] entries h = slice_get_within pages n _ h.page
  listed_in n (m ∷ chain) entries h = slice_get_within pages n _ h.0.page

  listed_more : (n : ℕ) (chain : List ℕ) (entries : List Entry) → AreListed (n ∷ chain) entries → 1 ≤ length entries
  listed_more n chain entries j = search rules

  chain_in : (n : ℕ) (chain : List ℕ) (entries : List Entry) → IsChain pages (n ∷ chain) entries → n < length pages
  chain_in n chain entries j = search (rules, slice_get_within)

  listed_of : length pages < 2 ^ 32 → (chain : List ℕ) (entries : List Entry) → IsChain pages chain entries → AllByRecursion (λ n. 1 ≤ n) chain
      → AllByRecursion (IsEntry (last_address dims)) entries → AreAscending entries → AreListed chain entries
  listed_of small [] entries h some each up = h
  listed_of small (n ∷ []) entries h some each up = record {
    some = some.0;
    range = record { some = h.0; few = h.1; entries = each; ascending = up; next = omega arith };
    page = h.2;
  }
  listed_of small (n ∷ m ∷ chain) entries h some each up =
      let long = h.1 in
      let within = chain_in m chain (drop 170 entries) h.2 in (
        record {
          some = some.0;
          range = record {
            some = omega arith;
            few = omega arith;
            entries = all_take (IsEntry (last_address dims)) 170 entries each;
            ascending = ascending_take 170 entries up;
            next = omega arith;
          };
          page = h.0;
        },
        long,
        listed_of small (m ∷ chain) (drop 170 entries) h.2 some.1 (all_drop (IsEntry (last_address dims)) 170 entries each) (ascending_drop 170 entries up),
      )

  -- of two directories whose first page is one, both are one
  listed_same : (chain full : List ℕ) (entries all : List Entry) → AreListed chain entries → AreListed full all → slice_get chain 0 ≡ slice_get full 0 → (chain ≡ full) × (entries ≡ all)
  listed_same [] full entries all h k first = absurd h
  listed_same (a ∷ chain) [] entries all h k first = absurd k
  listed_same (a ∷ []) (b ∷ []) entries all h k first =
      let same : a ≡ b = cc in
      (ap (λ (n : ℕ). n ∷ []) same, ap (λ (l : Listing). l.entries) (listings_same a b _ _ same h k))
  listed_same (a ∷ []) (b ∷ c ∷ full) entries all h k first =
      let same : a ≡ b = cc in
      let next : 0 ≡ c = ap (λ (l : Listing). l.next) (listings_same a b _ _ same h k.0) in
      let some = listed_some c full (drop 170 all) k.2 in
      absurd (omega arith)
  listed_same (a ∷ c ∷ chain) (b ∷ []) entries all h k first =
      let same : a ≡ b = cc in
      let next : c ≡ 0 = ap (λ (l : Listing). l.next) (listings_same a b _ _ same h.0 k) in
      let some = listed_some c chain (drop 170 entries) h.2 in
      absurd (omega arith)
  listed_same (a ∷ c ∷ chain) (b ∷ d ∷ full) entries all h k first =
      let same : a ≡ b = cc in
      let one = listings_same a b _ _ same h.0 k.0 in
      let next : c ≡ d = ap (λ (l : Listing). l.next) one in
      let front : take 170 entries ≡ take 170 all = ap (λ (l : Listing). l.entries) one in
      let rest = listed_same (c ∷ chain) (d ∷ full) (drop 170 entries) (drop 170 all) h.2 k.2 (ap (λ (n : ℕ). Some n) next) in (
        ap (λ (n : ℕ). n ∷ c ∷ chain) same ∙ ap (λ (ns : List ℕ). b ∷ ns) rest.0,
        sym (take-append-drop 170 entries) ∙ ap (λ (es : List Entry). es ++ drop 170 entries) front ∙ ap (λ (es : List Entry). take 170 all ++ es) rest.1 ∙ take-append-drop 170 all,
      )

  -- full pages that were read are the first of a directory, which goes on with the page that the last one names
  record IsAligned (done full : List ℕ) (entries all : List Entry) (n : ℕ) : Type 0 where
    rest : List ℕ
    more : List Entry
    entries_are : all ≡ entries ++ more
    listed : AreListed (n ∷ rest) more

  first_or : (done : List ℕ) (n : ℕ) → slice_get (done ++ n ∷ []) 0 ≡ Some (slice_index_or done 0 n)
  first_or done n = grind (arith, common_steps)

  next_some : (done : List ℕ) (entries : List Entry) (n : ℕ) → AreFull dims pages done entries n → 1 ≤ n → 1 ≤ slice_index_or done 0 n
  next_some done entries n j l = grind (arith, common_steps)

  aligned : (done full : List ℕ) (entries all : List Entry) (n : ℕ) → AreFull dims pages done entries n → AreListed full all → 1 ≤ n → slice_get (done ++ n ∷ []) 0 ≡ slice_get full 0
      → IsAligned done full entries all n
  aligned done [] entries all n h k some first = absurd k
  aligned [] (f ∷ full) entries all n h k some first =
      let same : n ≡ f = cc in
      record { rest = full; more = all; entries_are = rw h refl; listed = subst (λ (m : ℕ). AreListed (m ∷ full) all) (sym same) k }
  aligned (d ∷ done) (f ∷ []) entries all n h k some first =
      let same : d ≡ f = cc in
      let next : slice_index_or done 0 n ≡ 0 = ap (λ (l : Listing). l.next) (listings_same d f _ _ same h.0 k) in
      let some_next = next_some done (drop 170 entries) n h.2 some in
      absurd (omega arith)
  aligned (d ∷ done) (f ∷ m ∷ full) entries all n h k some first =
      let same : d ≡ f = cc in
      let one = listings_same d f _ _ same h.0 k.0 in
      let next : slice_index_or done 0 n ≡ m = ap (λ (l : Listing). l.next) one in
      let front : take 170 entries ≡ take 170 all = ap (λ (l : Listing). l.entries) one in
      let on = aligned done (m ∷ full) (drop 170 entries) (drop 170 all) n h.2 k.2 some (first_or done n ∙ ap (λ (x : ℕ). Some x) next) in
      record {
        rest = on.rest;
        more = on.more;
        entries_are = sym (take-append-drop 170 all) ∙ ap (λ (es : List Entry). es ++ drop 170 all) (sym front) ∙ ap (λ (es : List Entry). take 170 entries ++ es) on.entries_are
            ∙ sym (append_assoc (take 170 entries) (drop 170 entries) on.more) ∙ ap (λ (es : List Entry). es ++ on.more) (take-append-drop 170 entries);
        listed = on.listed;
      }

  -- a page that goes on with a directory fits where it goes on
  record Fits (entries more : List Entry) (left n : ℕ) : Type 0 where
    listing : Listing
    spells : Spells dims pages n listing
    part : HasPart left listing
    begun : AreBegun (entries ++ listing.entries)
    of_all : (count : ℕ) → AreBelow count more → AreBelow count listing.entries

  fits : (entries more : List Entry) (n : ℕ) (rest : List ℕ) → AreListed (n ∷ rest) more → AreBegun (entries ++ more) → Fits entries more (length more) n
  fits entries more n [] h begun =
      let short = h.range.few in
      record { listing = record { entries = more; next = 0 }; spells = h; part = (omega arith, (λ _. short, λ _. refl)); begun = begun; of_all = λ count all. all }
  fits entries more n (m ∷ rest) h begun =
      let long = h.1 in
      let some = listed_some m rest (drop 170 more) h.2 in
      let longer = listed_more m rest (drop 170 more) h.2 in
      let behind = length-drop 170 more in
      record {
        listing = record { entries = take 170 more; next = m };
        spells = h.0;
        part = (omega arith, (λ e. absurd (omega arith), λ le. absurd (omega arith)));
        begun = subst AreBegun (take-append-add entries more 170) (begun_take (length entries + 170) (entries ++ more) begun);
        of_all = λ count all. all_take (λ (e : Entry). e.page < count) 170 more all;
      }

  part_not_refused : (entries more : List Entry) (left n : ℕ) (page : List ℕ) (fault : PageFault) → Fits entries more left n → slice_get pages n ≡ Some page
      → (listing : Listing) → IsListing dims listing → page ≡ directory_page listing → IsMisfit left entries listing fault → ⊥
  part_not_refused entries more left n page fault j l listing m o p = search (rules, listings_same)

-- what is known of a directory
module _ (heading : HeadingView) (few : heading.dims ≤ 4) (pages : List (List ℕ)) (small : length pages < 2 ^ 32) (full : List ℕ) (all : List Entry) (k : IsDirectory pages heading full all) where
  directory_listed : AreListed heading.dims few pages full all
  directory_listed = listed_of heading.dims few pages small full all k.directory k.some_pages k.each (ascends_back all k.places.2)

  one_directory : (chain : List ℕ) (entries : List Entry) → IsDirectory pages heading chain entries → (chain ≡ full) × (entries ≡ all)
  one_directory chain entries j = search (rules, ascends_back, directory_listed, listed_of, listed_same)

module _ (heading : HeadingView) (few : heading.dims ≤ 4) (old : StoreFacts) (honest : IsHonest old) (small : page_count old < 2 ^ 32) (full : List ℕ) (all : List Entry) (k : IsDirectory old.pages heading full all) where
  module _ (done : List ℕ) (entries : List Entry) (n : ℕ) (h : IsReadUpTo old heading done entries n) where
    aligned_there : IsAligned heading.dims few old.pages done full entries all n
    aligned_there = aligned heading.dims few old.pages done full entries all n (h.full honest) (directory_listed heading few old.pages small full all k) h.some_page (h.root_is ∙ sym k.root_is)

    fits_there : Fits heading.dims few old.pages entries aligned_there.more (heading.regions - length entries) n
    fits_there =
        let on = aligned_there in
        let begun : AreBegun (entries ++ on.more) = subst AreBegun on.entries_are (begun_of (last_address heading.dims) all k.places) in
        let long = length-append entries on.more in
        let count = ap length on.entries_are in
        let regions_are = k.regions_are in
        let left : length on.more ≡ heading.regions - length entries = omega arith in
        subst (λ (m : ℕ). Fits heading.dims few old.pages entries on.more m n) left (fits heading.dims few old.pages entries on.more n on.rest on.listed begun)

    never_part : (page : List ℕ) (fault : PageFault) → slice_get old.pages n ≡ Some page → IsPartFault heading entries page fault → ⊥
    never_part page fault at (inl of_reader) =
        let f = fits_there in
        listing_not_refused f.listing page heading.dims few f.spells.range (some_same (slice_get old.pages n) page (directory_page f.listing) at f.spells.page) fault of_reader
    never_part page fault at (inr bad) =
        part_not_refused heading.dims few old.pages entries aligned_there.more (heading.regions - length entries) n page fault fits_there at bad.0 bad.1 bad.2 bad.3

    -- no region's page is missing that is named there
    never_named : (part : Listing) (i m : ℕ) (entry : Entry) → AreBelow (page_count old) all → IsListing heading.dims part → slice_get old.pages n ≡ Some (directory_page part)
        → slice_get part.entries i ≡ Some entry → entry.page ≡ m → page_count old ≤ m → ⊥
    never_named part i m entry below range at there is past =
        let f = fits_there in
        let same : f.listing ≡ part = listings_same heading.dims few old.pages n n f.listing part refl f.spells (record { some = f.spells.some; range = range; page = at }) in
        let more : AreBelow (page_count old) aligned_there.more =
        all_right (λ (e : Entry). e.page < page_count old) entries aligned_there.more (subst (λ (es : List Entry). AreBelow (page_count old) es) aligned_there.entries_are below) in
        let part_below : AreBelow (page_count old) part.entries = subst (λ (l : Listing). AreBelow (page_count old) l.entries) same (f.of_all (page_count old) more) in
        let less = one_below part.entries i entry part_below there in
        omega arith
      where
        one_below : (es : List Entry) (i : ℕ) (e : Entry) → AreBelow (page_count old) es → slice_get es i ≡ Some e → e.page < page_count old
        one_below [] i e h at = cc
        one_below (x ∷ es) zero e h at = let same : x ≡ e = cc in subst (λ (y : Entry). y.page < page_count old) same h.0
        one_below (x ∷ es) (suc i) e h at = one_below es i e h.1 at

  -- a directory that is there, all of whose regions have pages, is not refused but for want of memory or of numbers, or where a store failed
  pub not_refused : (new : StoreFacts) (fault : UpgradeFault) → AreBelow (page_count old) all → IsBuildFault heading old new fault → IsPassing fault
  not_refused new (Old store.BadSize) below h = absurd h
  not_refused new (Old store.NoPage) below (n, past, inl asked) =
      let on = aligned_there asked.0 asked.1 n asked.2 in
      let within = listed_in heading.dims few old.pages n on.rest on.more on.listed in
      absurd (omega arith)
  not_refused new (Old store.NoPage) below (n, past, inr h) =
      absurd (never_named h.chain h.before h.number h.asked h.part h.index n (record { first = h.first; page = n }) below h.range (h.page honest) h.names refl past)
  not_refused new (New store.NoPage) below h = absurd h
  not_refused new (Page n fault) below (page, at, r) = absurd (never_part r.0 r.1 n r.2 page fault (at honest) r.3)
  not_refused new fault below h = tt

  -- what was built is the index of that directory
  pub built_same : (new then : StoreFacts) (root : Root) → IsBuilt heading old new then root → HasBuilt heading new then root all
  built_same new then root j = search (rules, one_directory)

  pub exactly_refused : (P : Root → Type 0) (new : StoreFacts) (r : Result Root UpgradeFault) (e : UpgradeFault) → AreBelow (page_count old) all → IsErrAnd r (λ x. x ≡ e) → IsBuildFault heading old new e
      → MatchResult r P IsPassing
  exactly_refused P new r e j l m = search (rules, not_refused)
