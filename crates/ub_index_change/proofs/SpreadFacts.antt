-- What is spelled of a page's entries stands on the later pages as it is named.
use Rattle.std.proofs.Common.{nat_eq, ◌≡◌, ◌≢◌, ◌≤◌, ◌<◌, ◌^◌, ◌++◌, ◌+◌, inl, inr, ℕ, suc, List, [], ◌∷◌, Option, Some, None, length, take, drop, slice_get, ◌∙◌, sym, ap, subst, refl, arith, take-append-drop}
use Rattle.ub_index_change.proofs.Common.{all_left, all_right, AllByRecursion, append-nil, AreOnce, ascend_left, ascend_right, ascending_of, AscendTo}
use Rattle.ub_index_change.proofs.Common.{distinct_cons, Entry, first_or, flat_map, flat_map-append, Gone, index_page, IsDistinct, IsEntry, IsNode, IsNoNew}
use Rattle.ub_index_change.proofs.Common.{IsOutside, IsTold, IsUnspelled, Key, length-drop, length-take-le, named_as, NamesPage, node, One, origin, pages_under}
use Rattle.ub_index_change.proofs.Common.{Same, Sheet, sheet_of, some_entries, Spelled, Spreads, Stand, StandOn, Told, told_there, top, Two}
use Rattle.ub_index_change.proofs.SheetNumbers.{distinct_put, outside_put}

-- what is spelled of entries that are named so
abbrev pub new_sheets : ℕ → Entry → List Entry → ℕ → Told → List Sheet
new_sheets level entry entries next Same = sheet_of entry.page level entries ∷ []
new_sheets level entry entries next Gone = []
new_sheets level entry entries next (One other) = sheet_of entry.page level entries ∷ []
new_sheets level entry entries next (Two left right) = sheet_of next level (drop 86 entries) ∷ sheet_of entry.page level (take 86 entries) ∷ []

pub spread_sheets : (level : ℕ) (entry : Entry) (entries : List Entry) (from to : Spelled) (told : Told) → Spreads level entry entries from to told
    → to.sheets ≡ from.sheets ++ new_sheets level entry entries from.next told
spread_sheets level entry entries from to Same h = ap (λ (s : Spelled). s.sheets) h.2
spread_sheets level entry entries from to Gone h = ap (λ (s : Spelled). s.sheets) h.1 ∙ sym (append-nil from.sheets)
spread_sheets level entry entries from to (One other) h = ap (λ (s : Spelled). s.sheets) h.3
spread_sheets level entry entries from to (Two left right) h = ap (λ (s : Spelled). s.sheets) h.4

pub spread_next : (level : ℕ) (entry : Entry) (entries : List Entry) (from to : Spelled) (told : Told) → Spreads level entry entries from to told
    → from.next ≤ to.next
spread_next level entry entries from to Same h = let e = ap (λ (s : Spelled). s.next) h.2 in omega arith
spread_next level entry entries from to Gone h = let e = ap (λ (s : Spelled). s.next) h.1 in omega arith
spread_next level entry entries from to (One other) h = let e = ap (λ (s : Spelled). s.next) h.3 in omega arith
spread_next level entry entries from to (Two left right) h = let e = ap (λ (s : Spelled). s.next) h.4 in omega arith

pub spread_outside : (level : ℕ) (entry : Entry) (entries : List Entry) (from to : Spelled) (told : Told) → Spreads level entry entries from to told → (n : ℕ) → n ≢ entry.page
    → IsNoNew from.next to.next n → IsUnspelled n (new_sheets level entry entries from.next told)
spread_outside level entry entries from to Gone h n p q = tt
spread_outside level entry entries from to (Two left right) h n p q =
    let same = ap (λ (s : Spelled). s.next) h.4 in (
      (λ e. elim q [
        | inl less ↦ omega arith
        | inr more ↦ omega arith
      ]),
      (p, tt),
    )
spread_outside level entry entries from to told h n p q = (p, tt)

-- each number is spelled once
pub spread_once : (level : ℕ) (entry : Entry) (entries : List Entry) (next : ℕ) (told : Told) → entry.page < next → AreOnce (new_sheets level entry entries next told)
spread_once level entry entries next Gone less = tt
spread_once level entry entries next (Two left right) less = (((λ e. omega arith), tt), (tt, tt))
spread_once level entry entries next told less = (tt, tt)

pub spread_apart : (level : ℕ) (entry : Entry) (entries : List Entry) (next : ℕ) (told : Told) (sheets : List Sheet) → IsUnspelled entry.page sheets → IsUnspelled next sheets
    → AllByRecursion (λ (y : Sheet). IsUnspelled y.number sheets) (new_sheets level entry entries next told)
spread_apart level entry entries next Gone sheets p q = tt
spread_apart level entry entries next (Two left right) sheets p q = (q, (p, tt))
spread_apart level entry entries next told sheets p q = (p, tt)

pub node_so : (last level : ℕ) (entries : List Entry) (end : Option Key) (first : Key) → suc level ≤ 16 → first_or entries None ≡ Some first → length entries ≤ 170
    → AllByRecursion (IsEntry last) entries → AscendTo entries end → IsNode last (node (suc level) entries)
node_so last level entries end first high begins few all up = record {
  low = omega arith;
  high = high;
  some = some_entries entries first begins;
  few = few;
  entries = all;
  ascending = ascending_of entries end up;
}

-- the two pages on which entries are spread that are one more than a page has
pub nodes_so : (last level : ℕ) (entry : Entry) (entries : List Entry) (end : Option Key) (from to : Spelled) (left right : Entry) → suc level ≤ 16
    → Spreads (suc level) entry entries from to (Two left right) → AllByRecursion (IsEntry last) entries → AscendTo entries end
    → IsNode last (node (suc level) (take 86 entries)) × IsNode last (node (suc level) (drop 86 entries))
nodes_so last level entry entries end from to left right high h all up =
    let parts : entries ≡ take 86 entries ++ drop 86 entries = sym (take-append-drop 86 entries) in
    let all_parts : AllByRecursion (IsEntry last) (take 86 entries ++ drop 86 entries) = subst (λ (xs : List Entry). AllByRecursion (IsEntry last) xs) parts all in
    let up_parts : AscendTo (take 86 entries ++ drop 86 entries) end = subst (λ (xs : List Entry). AscendTo xs end) parts up in
    let full : length entries ≡ 171 = h.0 in
    let few_left : length (take 86 entries) ≤ 170 = (let e = length-take-le 86 entries (omega arith) in omega arith) in
    let few_right : length (drop 86 entries) ≤ 170 = (let e = length-drop 86 entries in omega arith) in (
      node_so last level (take 86 entries) (first_or (drop 86 entries) end) left.first high h.2.begins few_left
          (all_left (IsEntry last) (take 86 entries) (drop 86 entries) all_parts) (ascend_left (take 86 entries) (drop 86 entries) end up_parts),
      node_so last level (drop 86 entries) end right.first high h.3.begins few_right
          (all_right (IsEntry last) (take 86 entries) (drop 86 entries) all_parts) (ascend_right (take 86 entries) (drop 86 entries) end up_parts),
    )

-- an entry that names a page of entries in range is in range
pub entry_named : (last n : ℕ) (entries : List Entry) (entry : Entry) → NamesPage n entries entry → AllByRecursion (IsEntry last) entries → 1 ≤ n → n < 2 ^ 32
    → IsEntry last entry
entry_named last n [] entry names all low high = let no : None ≡ Some entry.first = names.begins in cc
entry_named last n (x ∷ xs) entry names all low high =
    let begins : Some x.first ≡ Some entry.first = names.begins in
    let same : x.first ≡ entry.first = cc in
    record {
      z = subst (λ (k : Key). k.z ≤ last) same all.0.z;
      number = subst (λ (k : Key). k.number ≤ 16777215) same all.0.number;
      some_page = subst (λ (m : ℕ). 1 ≤ m) (sym names.page_is) low;
      page = subst (λ (m : ℕ). m < 2 ^ 32) (sym names.page_is) high;
    }

-- the entries by which what is spread is named are in range
pub spread_named : (last level : ℕ) (entry : Entry) (entries : List Entry) (from to : Spelled) (told : Told) → Spreads level entry entries from to told → IsEntry last entry
    → 1 ≤ from.next → AllByRecursion (IsEntry last) entries → AllByRecursion (IsEntry last) (named_as told entry)
spread_named last level entry entries from to Same h is low all = (is, tt)
spread_named last level entry entries from to Gone h is low all = tt
spread_named last level entry entries from to (One other) h is low all = (entry_named last entry.page entries other h.2 all is.some_page is.page, tt)
spread_named last level entry entries from to (Two left right) h is low all =
    let parts : AllByRecursion (IsEntry last) (take 86 entries ++ drop 86 entries) = subst (λ (xs : List Entry). AllByRecursion (IsEntry last) xs) (sym (take-append-drop 86 entries)) all in
    let less : from.next < 2 ^ 32 = (let k = h.1 in omega arith) in (
      entry_named last entry.page (take 86 entries) left h.2 (all_left (IsEntry last) (take 86 entries) (drop 86 entries) parts) is.some_page is.page,
      (entry_named last from.next (drop 86 entries) right h.3 (all_right (IsEntry last) (take 86 entries) (drop 86 entries) parts) low less, tt),
    )

module _ (last : ℕ) (small : last < 2 ^ 128) where
  pub told_on : (later : List (List ℕ)) (n level : ℕ) (entries : List Entry) (entry : Entry) → slice_get later n ≡ Some (index_page (node level entries))
      → IsNode last (node level entries) → NamesPage n entries entry → IsTold last later level entries entry
  told_on later n level entries entry at is names =
      told_there last small later level entries entry (ap (λ (m : ℕ). slice_get later m) names.page_is ∙ at) is names.begins

  -- the page of a new root names both
  pub root_told : (later : List (List ℕ)) (n levels : ℕ) (left right : Entry) → levels < 16 → AllByRecursion (IsEntry last) (left ∷ right ∷ []) → AscendTo (left ∷ right ∷ []) None
      → left.first ≡ origin → Stand later (sheet_of n (levels + 1) (left ∷ right ∷ []) ∷ []) → IsTold last later (suc levels) (left ∷ right ∷ []) (top n)
  root_told later n levels left right less all up first stands =
      let one : levels + 1 ≡ suc levels = omega arith in
      let two : length (left ∷ right ∷ []) ≤ 170 = omega arith in
      told_on later n (suc levels) (left ∷ right ∷ []) (top n) (subst (λ (l : ℕ). Stand later (sheet_of n l (left ∷ right ∷ []) ∷ [])) one stands).0
      (node_so last levels (left ∷ right ∷ []) None left.first (omega arith) refl two all up) (record { page_is = refl; begins = ap (λ (k : Key). Some k) first })

  -- what stands on the later pages of what is spread
  abbrev pub ToldOn : List (List ℕ) → ℕ → Entry → List Entry → ℕ → Told → Type 0
  ToldOn later level entry entries next Same = IsTold last later level entries entry
  ToldOn later level entry entries next Gone = entries ≡ []
  ToldOn later level entry entries next (One other) = (other.page ≡ entry.page) × IsTold last later level entries other
  ToldOn later level entry entries next (Two left right) =
      (length entries ≡ 171) × (left.page ≡ entry.page) × (right.page ≡ next) × IsTold last later level (take 86 entries) left × IsTold last later level (drop 86 entries) right

  pub told_spread : (later : List (List ℕ)) (level : ℕ) (entry : Entry) (entries : List Entry) (end : Option Key) (from to : Spelled) (told : Told) → suc level ≤ 16
      → Spreads (suc level) entry entries from to told → AllByRecursion (IsEntry last) entries → AscendTo entries end
      → Stand later (new_sheets (suc level) entry entries from.next told) → ToldOn later (suc level) entry entries from.next told
  told_spread later level entry entries end from to Same high h all up stand =
      let names : NamesPage entry.page entries entry = record { page_is = refl; begins = h.1 } in
      told_on later entry.page (suc level) entries entry stand.0 (node_so last level entries end entry.first high h.1 h.0 all up) names
  told_spread later level entry entries end from to Gone high h all up stand = h.0
  told_spread later level entry entries end from to (One other) high h all up stand =
      (h.2.page_is, told_on later entry.page (suc level) entries other stand.0 (node_so last level entries end other.first high h.2.begins h.0 all up) h.2)
  told_spread later level entry entries end from to (Two left right) high h all up stand =
      let on = nodes_so last level entry entries end from to left right high h all up in (
        h.0,
        h.2.page_is,
        h.3.page_is,
        told_on later entry.page (suc level) (take 86 entries) left stand.1.0 on.0 h.2,
        told_on later from.next (suc level) (drop 86 entries) right stand.0 on.1 h.3,
      )

  pub stand_told : (later : List (List ℕ)) (level : ℕ) (entry : Entry) (entries : List Entry) (next : ℕ) (told : Told) → ToldOn later level entry entries next told
      → StandOn last later level entry.page entries (named_as told entry)
  stand_told later level entry entries next Same h = inr (inl (entry, refl, refl, h))
  stand_told later level entry entries next Gone h = inl (h, refl)
  stand_told later level entry entries next (One other) h = inr (inl (other, refl, h.0, h.1))
  stand_told later level entry entries next (Two left right) h = inr (inr (left, right, h.0, refl, h.1, h.3, h.4))

  -- the pages under what is told are the page of the entry, a new one, and those under the entries
  pub one_pages : (later : List (List ℕ)) (level : ℕ) (entries : List Entry) (entry : Entry) → IsTold last later (suc level) entries entry
      → flat_map (pages_under later (suc level)) (entry ∷ []) ≡ entry.page ∷ flat_map (pages_under later level) entries
  one_pages later level entries entry h =
      append-nil (pages_under later (suc level) entry) ∙ ap (λ (xs : List Entry). entry.page ∷ flat_map (pages_under later level) xs) h.entries_are

  two_pages : (later : List (List ℕ)) (level : ℕ) (entries : List Entry) (left right : Entry) → IsTold last later (suc level) (take 86 entries) left
      → IsTold last later (suc level) (drop 86 entries) right → flat_map (pages_under later (suc level)) (left ∷ right ∷ [])
      ≡ left.page ∷ (flat_map (pages_under later level) (take 86 entries) ++ (right.page ∷ flat_map (pages_under later level) (drop 86 entries)))
  two_pages later level entries left right h k =
      ap (λ (ns : List ℕ). pages_under later (suc level) left ++ ns) (one_pages later level (drop 86 entries) right k)
      ∙ ap (λ (xs : List Entry). left.page ∷ (flat_map (pages_under later level) xs ++ (right.page ∷ flat_map (pages_under later level) (drop 86 entries)))) h.entries_are

  halves : (later : List (List ℕ)) (level : ℕ) (entries : List Entry)
      → flat_map (pages_under later level) entries ≡ flat_map (pages_under later level) (take 86 entries) ++ flat_map (pages_under later level) (drop 86 entries)
  halves later level entries =
      ap (λ (xs : List Entry). flat_map (pages_under later level) xs) (sym (take-append-drop 86 entries)) ∙ flat_map-append (pages_under later level) (take 86 entries) (drop 86 entries)

  pub pages_own : (later : List (List ℕ)) (level : ℕ) (entry : Entry) (entries : List Entry) (next : ℕ) (told : Told) → ToldOn later (suc level) entry entries next told
      → IsDistinct nat_eq (flat_map (pages_under later level) entries) → IsOutside entry.page (flat_map (pages_under later level) entries)
      → IsOutside next (flat_map (pages_under later level) entries) → entry.page < next
      → IsDistinct nat_eq (flat_map (pages_under later (suc level)) (named_as told entry))
  unfolding IsDistinct
  pages_own later level entry entries next Same h own p q less =
      subst (λ (ns : List ℕ). IsDistinct nat_eq ns) (sym (one_pages later level entries entry h)) (distinct_cons entry.page (flat_map (pages_under later level) entries) p own)
  pages_own later level entry entries next Gone h own p q less = tt
  pages_own later level entry entries next (One other) h own p q less =
      subst (λ (ns : List ℕ). IsDistinct nat_eq ns) (sym (one_pages later level entries other h.1))
      (distinct_cons other.page (flat_map (pages_under later level) entries) (subst (λ (m : ℕ). IsOutside m (flat_map (pages_under later level) entries)) (sym h.0) p) own)
  pages_own later level entry entries next (Two left right) h own p q less =
      let L = flat_map (pages_under later level) (take 86 entries) in
      let R = flat_map (pages_under later level) (drop 86 entries) in
      let own_parts : IsDistinct nat_eq (flat_map (pages_under later level) (take 86 entries) ++ flat_map (pages_under later level) (drop 86 entries)) =
      subst (λ (ns : List ℕ). IsDistinct nat_eq ns) (halves later level entries) own in
      let p_parts : IsOutside entry.page (flat_map (pages_under later level) (take 86 entries) ++ flat_map (pages_under later level) (drop 86 entries)) =
      subst (λ (ns : List ℕ). IsOutside entry.page ns) (halves later level entries) p in
      let q_parts : IsOutside next (flat_map (pages_under later level) (take 86 entries) ++ flat_map (pages_under later level) (drop 86 entries)) =
      subst (λ (ns : List ℕ). IsOutside next ns) (halves later level entries) q in
      let all : IsDistinct nat_eq (entry.page ∷ (flat_map (pages_under later level) (take 86 entries) ++ (next ∷ flat_map (pages_under later level) (drop 86 entries)))) =
      distinct_cons entry.page (L ++ (next ∷ R)) (outside_put entry.page next L R (λ e. omega arith) p_parts) (distinct_put next L R own_parts q_parts) in
      subst (λ (ns : List ℕ). IsDistinct nat_eq ns) (sym (two_pages later level entries left right h.3 h.4))
      (subst (λ (m : ℕ). IsDistinct nat_eq (m ∷ (flat_map (pages_under later level) (take 86 entries) ++ (right.page ∷ flat_map (pages_under later level) (drop 86 entries))))) (sym h.1)
      (subst (λ (m : ℕ). IsDistinct nat_eq (entry.page ∷ (flat_map (pages_under later level) (take 86 entries) ++ (m ∷ flat_map (pages_under later level) (drop 86 entries))))) (sym h.2) all))

  pub pages_among : (later : List (List ℕ)) (level : ℕ) (entry : Entry) (entries : List Entry) (from to : Spelled) (told : Told) → Spreads (suc level) entry entries from to told
      → ToldOn later (suc level) entry entries from.next told → (n : ℕ) → n ≢ entry.page → IsNoNew from.next to.next n → IsOutside n (flat_map (pages_under later level) entries)
      → IsOutside n (flat_map (pages_under later (suc level)) (named_as told entry))
  pages_among later level entry entries from to Same s h n p new out =
      subst (λ (ns : List ℕ). IsOutside n ns) (sym (one_pages later level entries entry h)) (p, out)
  pages_among later level entry entries from to Gone s h n p new out = tt
  pages_among later level entry entries from to (One other) s h n p new out =
      subst (λ (ns : List ℕ). IsOutside n ns) (sym (one_pages later level entries other h.1)) (subst (λ (m : ℕ). n ≢ m) (sym h.0) p, out)
  pages_among later level entry entries from to (Two left right) s h n p new out =
      let q : n ≢ from.next = (spread_outside (suc level) entry entries from to (Two left right) s n p new).0 in
      subst (λ (ns : List ℕ). IsOutside n ns) (sym (two_pages later level entries left right h.3 h.4)) (
        subst (λ (m : ℕ). n ≢ m) (sym h.1) p,
        outside_put n right.page (flat_map (pages_under later level) (take 86 entries)) (flat_map (pages_under later level) (drop 86 entries)) (subst (λ (m : ℕ). n ≢ m) (sym h.2) q)
            (subst (λ (ns : List ℕ). IsOutside n ns) (halves later level entries) out),
      )
