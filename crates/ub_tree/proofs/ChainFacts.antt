-- The pages of a directory of format 1 differ from each other, by the keys with which they begin, and from those of regions.
use Rattle.std.proofs.Common.{rules, ◌≡◌, ◌≢◌, ◌<◌, ◌-◌, ◌^◌, ◌++◌, ◌∙◌, ℕ, zero, suc, List, [], ◌∷◌, Some, nat_eq, length, map, take, drop, replicate, slice_get, ap, refl, sym, arith, subst, append_assoc}
use Rattle.ub_tree.proofs.Common.{all_after, all_drop, all_more, all_take, AllByRecursion, AreKeysAscending, directory_page, distinct_cons, Entry, first_keys}
use Rattle.ub_tree.proofs.Common.{flat_map, IsBefore, IsChain, IsDistinct, IsEntry, IsOutside, Key, layout, not_before_self, number_at, number_bytes, page_in}
use Rattle.ub_tree.proofs.Common.{page_is, Placed, region_parts, Schema, slice_get_within, StandApart, up_tail}
use Rattle.ub_bytes.proofs.BytesFacts.{length-layout, read_at}
use Rattle.ub_page.proofs.EntryFacts.{entries_read}
use Rattle.ub_page.specs.Entries.{entry_bytes, entry_on, key_on, page_fields}
use Rattle.ub_tree.proofs.ApartFacts.{IsOnPage}

-- how a page of a directory begins, and what comes then
module _ (entries : List Entry) (next : ℕ) where
  abbrev body : List ℕ
  body = flat_map entry_bytes entries

  abbrev zeros : List ℕ
  zeros = replicate (4096 - length (layout (page_fields 0x44 0 (length entries) next) ++ body)) 0

  abbrev heading : List ℕ
  heading = layout (page_fields 0x44 0 (length entries) next)

  parted : (page : List ℕ) → page ≡ directory_page (record { entries = entries; next = next }) → page ≡ heading ++ (body ++ zeros)
  unfolding directory_page
  parted page e = e ∙ append_assoc heading body zeros

  listing_kind : (page : List ℕ) → page ≡ directory_page (record { entries = entries; next = next }) → number_at 1 0 page ≡ 0x44
  listing_kind page e =
      let rest = layout ((1, 0) ∷ (2, length entries) ∷ (4, next) ∷ (8, 0) ∷ []) in
      let whole : page ≡ number_bytes 1 0x44 ++ (rest ++ (body ++ zeros)) = parted page e ∙ append_assoc (number_bytes 1 0x44) rest (body ++ zeros) in
      read_at page [] (rest ++ (body ++ zeros)) 0 1 0x44 refl (omega arith) whole

module _ (pages : List (List ℕ)) (last : ℕ) (small : last < 256 ^ 16) where
  abbrev key_of : ℕ → Key
  key_of n = key_on 16 (page_in pages n)

  -- a page begins with the key of its first entry
  begins : (n : ℕ) (x : Entry) (xs : List Entry) (next : ℕ) → AllByRecursion (IsEntry last) (x ∷ xs)
      → slice_get pages n ≡ Some (directory_page (record { entries = x ∷ xs; next = next })) → key_of n ≡ x.first
  begins n x xs next good at =
      let page = page_in pages n in
      let e : page ≡ directory_page (record { entries = x ∷ xs; next = next }) = page_is pages n (directory_page (record { entries = x ∷ xs; next = next })) at in
      let read = entries_read (x ∷ xs) page (heading (x ∷ xs) next) (zeros (x ∷ xs) next) 16 last small (sym (length-layout (page_fields 0x44 0 (length (x ∷ xs)) next))) good (parted (x ∷ xs) next page e) in
      let same : entry_on 16 page ≡ x = cc in
      ap (λ (y : Entry). y.first) same

  -- the pages of a chain begin after what its entries begin after
  chain_after : (key : Key) (chain : List ℕ) (entries : List Entry) → IsChain pages chain entries → AllByRecursion (IsEntry last) entries
      → AllByRecursion (λ y. IsBefore key y.first) entries → AllByRecursion (λ n. IsBefore key (key_of n)) chain
  chain_after key [] entries h good all = absurd h
  chain_after key (n ∷ []) [] h good all = (let some = h.0 in absurd (omega arith))
  chain_after key (n ∷ []) (x ∷ xs) h good all = (subst (λ (k : Key). IsBefore key k) (sym (begins n x xs 0 good h.2)) all.0, tt)
  chain_after key (n ∷ m ∷ chain) [] h good all = (let long = h.1 in absurd (omega arith))
  chain_after key (n ∷ m ∷ chain) (x ∷ xs) h good all = (
    subst (λ (k : Key). IsBefore key k) (sym (begins n x (take 169 xs) m (all_take (IsEntry last) 170 (x ∷ xs) good) h.0)) all.0,
    chain_after key (m ∷ chain) (drop 169 xs) h.2 (all_drop (IsEntry last) 169 xs good.1) (all_drop (λ y. IsBefore key y.first) 169 xs all.1),
  )

  each_key : (P : Key → Type 0) (xs : List Entry) → AllByRecursion P (first_keys xs) → AllByRecursion (λ y. P y.first) xs
  each_key P [] h = tt
  each_key P (x ∷ xs) h = (h.0, each_key P xs h.1)

  up_behind : (k : ℕ) (xs : List Entry) → AreKeysAscending (first_keys xs) → AreKeysAscending (first_keys (drop k xs))
  up_behind zero xs up = up
  up_behind (suc k) [] up = up
  up_behind (suc k) (x ∷ xs) up = up_behind k xs (up_tail x.first (first_keys xs) up)

  -- so they differ
  pub chain_differ : (chain : List ℕ) (entries : List Entry) → IsChain pages chain entries → AllByRecursion (IsEntry last) entries → AreKeysAscending (first_keys entries)
      → IsDistinct nat_eq chain
  unfolding IsDistinct
  chain_differ [] entries h good up = absurd h
  chain_differ (n ∷ []) entries h good up = distinct_cons n [] tt tt
  chain_differ (n ∷ m ∷ chain) [] h good up = (let long = h.1 in absurd (omega arith))
  chain_differ (n ∷ m ∷ chain) (x ∷ xs) h good up =
      let here = begins n x (take 169 xs) m (all_take (IsEntry last) 170 (x ∷ xs) good) h.0 in
      let after = each_key (IsBefore x.first) xs (all_after x.first (first_keys xs) up) in
      distinct_cons n (m ∷ chain)
      (all_more (λ k. IsBefore x.first (key_of k)) (λ k. n ≢ k)
      (λ k later same. not_before_self x.first (subst (λ (y : Key). IsBefore x.first y) (ap key_of (sym same) ∙ here) later)) (m ∷ chain)
      (chain_after x.first (m ∷ chain) (drop 169 xs) h.2 (all_drop (IsEntry last) 169 xs good.1) (all_drop (λ y. IsBefore x.first y.first) 169 xs after)))
      (chain_differ (m ∷ chain) (drop 169 xs) h.2 (all_drop (IsEntry last) 169 xs good.1) (up_behind 169 xs (up_tail x.first (first_keys xs) up)))

-- a page of a directory is there
pub record IsOfChain (pages : List (List ℕ)) (n : ℕ) : Type 0 where
  pub page : List ℕ
  pub there : slice_get pages n ≡ Some page
  pub kind : number_at 1 0 page ≡ 0x44

module _ (pages : List (List ℕ)) where
  of_chain : (n : ℕ) (entries : List Entry) (next : ℕ) → slice_get pages n ≡ Some (directory_page (record { entries = entries; next = next })) → IsOfChain pages n
  of_chain n entries next h = search (rules, listing_kind)

  pub each_of_chain : (chain : List ℕ) (entries : List Entry) → IsChain pages chain entries → AllByRecursion (IsOfChain pages) chain
  each_of_chain [] entries h = absurd h
  each_of_chain (n ∷ []) entries h = (of_chain n entries 0 h.2, tt)
  each_of_chain (n ∷ m ∷ chain) entries h = (of_chain n (take 170 entries) m h.0, each_of_chain (m ∷ chain) (drop 170 entries) h.2)

  -- and is none of a region
  none_of_region : (schema : Schema) (n : ℕ) (ps : List Placed) → IsOfChain pages n → AllByRecursion (IsOnPage schema pages) ps → IsOutside n (map (λ (q : Placed). q.page) ps)
  none_of_region schema n [] h all = tt
  none_of_region schema n (p ∷ ps) h all = search (rules, (none_of_region schema n ps h all.1), region_parts)

  pub chain_apart : (schema : Schema) (chain : List ℕ) (ps : List Placed) → AllByRecursion (IsOfChain pages) chain → AllByRecursion (IsOnPage schema pages) ps
      → StandApart chain (map (λ (q : Placed). q.page) ps)
  chain_apart schema [] ps h all = tt
  chain_apart schema (n ∷ chain) ps h all = (none_of_region schema n ps h.0 all, chain_apart schema chain ps h.1 all)

  pub chain_within : (chain : List ℕ) → AllByRecursion (IsOfChain pages) chain → AllByRecursion (λ n. n < length pages) chain
  chain_within chain h = all_more (IsOfChain pages) (λ n. n < length pages) (λ n k. slice_get_within pages n k.page k.there) chain h
