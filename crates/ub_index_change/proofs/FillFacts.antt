-- How full the pages are of an index that has only grown.
use Rattle.std.proofs.Common.{◌≡◌, ◌≤◌, ◌<◌, ◌+◌, ◌*◌, ◌^◌, ◌++◌, ◌⊎◌, inl, inr, ℕ, zero, suc, List, [], ◌∷◌, Option, length, take, drop, slice_get, sym, ap, subst, refl, arith, take-append-drop, None}
use Rattle.ub_index_change.proofs.Common.{all_append, all_left, all_right, AllByRecursion, apart_swap, Becomes, cases_lt, entries_in, entries_of, Entry}
use Rattle.ub_index_change.proofs.Common.{first_or, flat_map, IndexView, IsFilled, IsFilledRoot, IsHalfFull, IsHonest, IsIndexOn, IsOutside, IsReachedOnce}
use Rattle.ub_index_change.proofs.Common.{IsTold, Key, length-append, length-drop, length-take-le, OldStayOutside, pages_of_index, pages_under, PagesStay}
use Rattle.ub_index_change.proofs.Common.{same_entries, StandOn, stay_apart, StoreFacts, top, under, within_store}
use Rattle.std.proofs.Math.Nat.{pow-le-pow_right, pow-suc, suc-mul}

-- a property that each entry has of which the numbers have another one
each_kept : (P : ℕ → Type 0) (numbers : Entry → List ℕ) (A B : Entry → Type 0) → ((x : Entry) → AllByRecursion P (numbers x) → A x → B x)
    → (xs : List Entry) → AllByRecursion P (flat_map numbers xs) → AllByRecursion A xs → AllByRecursion B xs
each_kept P numbers A B f [] h k = tt
each_kept P numbers A B f (x ∷ xs) h k =
    (f x (all_left P (numbers x) (flat_map numbers xs) h) k.0, each_kept P numbers A B f xs (all_right P (numbers x) (flat_map numbers xs) h) k.1)

-- where the pages under an entry stay, they are as full as they were
pub kept_half : (old new : List (List ℕ)) (level : ℕ) (entry : Entry) → PagesStay old new (pages_under old level entry) → IsHalfFull old level entry → IsHalfFull new level entry
kept_half old new zero entry h k = tt
kept_half old new (suc level) entry h k =
    subst (λ (xs : List Entry). (85 ≤ length xs) × AllByRecursion (IsHalfFull new level) xs) (sym (same_entries old new entry.page h.0))
    (k.0, each_kept (λ n. slice_get new n ≡ slice_get old n) (pages_under old level) (IsHalfFull old level) (IsHalfFull new level) (kept_half old new level) (entries_of old entry.page) h.1 k.1)

kept_halves : (old new : List (List ℕ)) (level : ℕ) (entries : List Entry) → PagesStay old new (flat_map (pages_under old level) entries)
    → AllByRecursion (IsHalfFull old level) entries → AllByRecursion (IsHalfFull new level) entries
kept_halves old new level entries h k =
    each_kept (λ n. slice_get new n ≡ slice_get old n) (pages_under old level) (IsHalfFull old level) (IsHalfFull new level) (kept_half old new level) entries h k

-- and so it is of a root
pub kept_filled : (old new : List (List ℕ)) (level : ℕ) (root : Entry) → PagesStay old new (pages_under old level root) → IsFilledRoot old level root → IsFilledRoot new level root
kept_filled old new zero root h k = absurd k
kept_filled old new (suc level) root h k =
    subst (λ (xs : List Entry). ((level ≡ 0) ⊎ (2 ≤ length xs)) × AllByRecursion (IsHalfFull new level) xs) (sym (same_entries old new root.page h.0))
    (k.0, kept_halves old new level (entries_of old root.page) h.1 k.1)

-- an entry of level 0 names no page of an index
halves_low : (pages : List (List ℕ)) (xs : List Entry) → AllByRecursion (IsHalfFull pages zero) xs
halves_low pages [] = tt
halves_low pages (x ∷ xs) = (tt, halves_low pages xs)

-- a root of level 1 has no pages below it
pub filled_low : (pages : List (List ℕ)) (level : ℕ) (root : Entry) → level ≡ 1 → IsFilledRoot pages level root
filled_low pages zero root h = absurd (omega arith)
filled_low pages (suc zero) root h = (inl refl, halves_low pages (entries_of pages root.page))
filled_low pages (suc (suc level)) root h = absurd (omega arith)

-- a page on which so many entries stand is half full
told_half : (last : ℕ) (pages : List (List ℕ)) (level : ℕ) (entries : List Entry) (entry : Entry) → IsTold last pages (suc level) entries entry → 85 ≤ length entries
    → AllByRecursion (IsHalfFull pages level) entries → IsHalfFull pages (suc level) entry
told_half last pages level entries entry h many all =
    subst (λ (xs : List Entry). (85 ≤ length xs) × AllByRecursion (IsHalfFull pages level) xs) (sym h.entries_are) (many, all)

-- one entry more than a page has stand on two that are half full
parted_half : (last : ℕ) (pages : List (List ℕ)) (level : ℕ) (entries : List Entry) (left right : Entry) → length entries ≡ 171
    → IsTold last pages (suc level) (take 86 entries) left → IsTold last pages (suc level) (drop 86 entries) right
    → AllByRecursion (IsHalfFull pages level) entries → AllByRecursion (IsHalfFull pages (suc level)) (left ∷ right ∷ [])
parted_half last pages level entries left right full on_left on_right all =
    let parts : AllByRecursion (IsHalfFull pages level) (take 86 entries ++ drop 86 entries) =
    subst (λ (xs : List Entry). AllByRecursion (IsHalfFull pages level) xs) (sym (take-append-drop 86 entries)) all in
    let many_left : 85 ≤ length (take 86 entries) = (let e = length-take-le 86 entries (omega arith) in omega arith) in
    let many_right : 85 ≤ length (drop 86 entries) = (let e = length-drop 86 entries in omega arith) in (
      told_half last pages level (take 86 entries) left on_left many_left (all_left (IsHalfFull pages level) (take 86 entries) (drop 86 entries) parts),
      (told_half last pages level (drop 86 entries) right on_right many_right (all_right (IsHalfFull pages level) (take 86 entries) (drop 86 entries) parts), tt),
    )

half_stood : (last : ℕ) (pages : List (List ℕ)) (level n : ℕ) (entries told : List Entry) → 85 ≤ length entries → AllByRecursion (IsHalfFull pages level) entries
    → StandOn last pages (suc level) n entries told → AllByRecursion (IsHalfFull pages (suc level)) told × (1 ≤ length told)
half_stood last pages level n entries told many all h = elim h [
  | inl none ↦ absurd (let e = ap (λ (xs : List Entry). length xs) none.0 in omega arith)
  | inr more ↦ elim more [
    | inl one ↦
        subst (λ (xs : List Entry). AllByRecursion (IsHalfFull pages (suc level)) xs × (1 ≤ length xs)) (sym one.1)
        ((told_half last pages level entries one.0 one.3 many all, tt), omega arith)
    | inr two ↦
        subst (λ (xs : List Entry). AllByRecursion (IsHalfFull pages (suc level)) xs × (1 ≤ length xs)) (sym two.3)
        (parted_half last pages level entries two.0 two.1 two.2 two.5 two.6 all, omega arith)
  ]
]

-- the entries of a page of which one became others that are half full: they are no fewer, and half full too
halves_mended : (old new : List (List ℕ)) (level : ℕ) (entries before after news : List Entry) (below : Entry) → entries ≡ before ++ (below ∷ after)
    → PagesStay old new (flat_map (pages_under old level) before) → PagesStay old new (flat_map (pages_under old level) after) → AllByRecursion (IsHalfFull old level) entries
    → AllByRecursion (IsHalfFull new level) news × (1 ≤ length news) → AllByRecursion (IsHalfFull new level) (before ++ (news ++ after)) × (length entries ≤ length (before ++ (news ++ after)))
halves_mended old new level entries before after news below parts kept_before kept_after all in_it =
    let all_parts : AllByRecursion (IsHalfFull old level) (before ++ (below ∷ after)) = subst (λ (xs : List Entry). AllByRecursion (IsHalfFull old level) xs) parts all in
    let count : length entries ≡ length (before ++ (below ∷ after)) = ap (λ (xs : List Entry). length xs) parts in
    let some = in_it.1 in (
      all_append (IsHalfFull new level) before (news ++ after)
          (kept_halves old new level before kept_before (all_left (IsHalfFull old level) before (below ∷ after) all_parts))
          (all_append (IsHalfFull new level) news after in_it.0
          (kept_halves old new level after kept_after (all_right (IsHalfFull old level) before (below ∷ after) all_parts).1)),
      omega (arith, count, some, length-append before (below ∷ after), length-append before (news ++ after), length-append news after),
    )

-- the entry that is half full at the place of a part
half_below : (pages : List (List ℕ)) (level : ℕ) (entries before after : List Entry) (below : Entry) → entries ≡ before ++ (below ∷ after)
    → AllByRecursion (IsHalfFull pages level) entries → IsHalfFull pages level below
half_below pages level entries before after below parts all =
    (all_right (IsHalfFull pages level) before (below ∷ after) (subst (λ (xs : List Entry). AllByRecursion (IsHalfFull pages level) xs) parts all)).0

-- what a half full entry becomes where something comes in the place of a region's entry is half full
pub half_becomes : (last : ℕ) (old new : List (List ℕ)) (f : Entry) (fs : List Entry) (next : Option Key) (level : ℕ) (entry : Entry) (end : Option Key) (told : List Entry)
    → 1 ≤ length fs → Becomes last old new f fs next level entry end told → IsHalfFull old level entry → AllByRecursion (IsHalfFull new level) told × (1 ≤ length told)
half_becomes last old new f fs next zero entry end told some h half = (halves_low new told, subst (λ (xs : List Entry). 1 ≤ length xs) (sym h.2) some)
half_becomes last old new f fs next (suc level) entry end told some (before, after, below, news, parts, becomes, kept_before, kept_after, stand) half =
    let in_it = half_becomes last old new f fs next level below (first_or after end) news some becomes (half_below old level (entries_of old entry.page) before after below parts half.1) in
    let mended = halves_mended old new level (entries_of old entry.page) before after news below parts kept_before kept_after half.1 in_it in
    let count = mended.1 in
    half_stood last new level entry.page (before ++ (news ++ after)) told (let had = half.0 in omega arith) mended.0 stand

-- what a filled root becomes: it is filled still, or two that are half full
abbrev pub AreFilled : List (List ℕ) → ℕ → List Entry → Type 0
AreFilled pages level [] = ⊥
AreFilled pages level (entry ∷ []) = IsFilledRoot pages level entry
AreFilled pages level (entry ∷ other ∷ entries) = AllByRecursion (IsHalfFull pages level) (entry ∷ other ∷ entries)

filled_stood : (last : ℕ) (pages : List (List ℕ)) (level n : ℕ) (entries told : List Entry) → 1 ≤ length entries → (level ≡ 0) ⊎ (2 ≤ length entries)
    → AllByRecursion (IsHalfFull pages level) entries → StandOn last pages (suc level) n entries told → AreFilled pages (suc level) told
filled_stood last pages level n entries told some two_or all h = elim h [
  | inl none ↦ absurd (let e = ap (λ (xs : List Entry). length xs) none.0 in omega arith)
  | inr more ↦ elim more [
    | inl one ↦
        subst (λ (xs : List Entry). AreFilled pages (suc level) xs) (sym one.1)
        (subst (λ (xs : List Entry). ((level ≡ 0) ⊎ (2 ≤ length xs)) × AllByRecursion (IsHalfFull pages level) xs) (sym one.3.entries_are) (two_or, all))
    | inr two ↦
        subst (λ (xs : List Entry). AreFilled pages (suc level) xs) (sym two.3)
        (parted_half last pages level entries two.0 two.1 two.2 two.5 two.6 all)
  ]
]

more_still : (level m n : ℕ) → m ≤ n → (level ≡ 0) ⊎ (2 ≤ m) → (level ≡ 0) ⊎ (2 ≤ n)
more_still level m n h (inl low) = inl low
more_still level m n h (inr two) = inr (omega arith)

pub filled_becomes : (last : ℕ) (old new : List (List ℕ)) (f : Entry) (fs : List Entry) (next : Option Key) (level : ℕ) (root : Entry) (end : Option Key) (told : List Entry)
    → 1 ≤ length fs → Becomes last old new f fs next level root end told → IsFilledRoot old level root → AreFilled new level told
filled_becomes last old new f fs next zero root end told some h filled = absurd filled
filled_becomes last old new f fs next (suc level) root end told some (before, after, below, news, parts, becomes, kept_before, kept_after, stand) filled =
    let in_it = half_becomes last old new f fs next level below (first_or after end) news some becomes (half_below old level (entries_of old root.page) before after below parts filled.1) in
    let mended = halves_mended old new level (entries_of old root.page) before after news below parts kept_before kept_after filled.1 in_it in
    let some_news = in_it.1 in
    filled_stood last new level root.page (before ++ (news ++ after)) told (omega (arith, some_news, length-append before (news ++ after), length-append news after))
    (more_still level (length (entries_of old root.page)) (length (before ++ (news ++ after))) mended.1 filled.0) mended.0 stand

-- a root that names two half full pages is filled
pub filled_over : (last : ℕ) (pages : List (List ℕ)) (level : ℕ) (left right root : Entry) → IsTold last pages (suc level) (left ∷ right ∷ []) root → AreFilled pages level (left ∷ right ∷ [])
    → IsFilledRoot pages (suc level) root
filled_over last pages level left right root h filled =
    subst (λ (xs : List Entry). ((level ≡ 0) ⊎ (2 ≤ length xs)) × AllByRecursion (IsHalfFull pages level) xs) (sym h.entries_are) (inr (omega arith), filled)

-- where each of k entries leads to so many regions at least, they lead to k times as many
each_many : (A : Entry → Type 0) (f : Entry → List Entry) (p : ℕ) → ((x : Entry) → A x → p ≤ length (f x)) → (k : ℕ) (xs : List Entry) → k ≤ length xs → AllByRecursion A xs
    → k * p ≤ length (flat_map f xs)
each_many A f p h zero xs few all = omega arith
each_many A f p h (suc k) [] few all = absurd (omega arith)
each_many A f p h (suc k) (x ∷ xs) few all =
    let here : p ≤ length (f x) = h x all.0 in
    let rest : k * p ≤ length (flat_map f xs) = each_many A f p h k xs (omega arith) all.1 in
    let count : length (f x ++ flat_map f xs) ≡ length (f x) + length (flat_map f xs) = length-append (f x) (flat_map f xs) in
    let more : suc k * p ≡ k * p + p = suc-mul k p in
    let sum : k * p + p ≤ length (f x ++ flat_map f xs) = omega arith in
    subst (λ (n : ℕ). n ≤ length (f x ++ flat_map f xs)) (sym more) sum

-- a half full entry leads to 85 regions at least for each of as many pages as there can be on each level
halves_many : (pages : List (List ℕ)) (level : ℕ) (entry : Entry) → IsHalfFull pages level entry → 85 ^ level ≤ length (under pages level entry)
halves_many pages zero entry half = omega arith
halves_many pages (suc level) entry half =
    let many = each_many (IsHalfFull pages level) (under pages level) (85 ^ level) (halves_many pages level) 85 (entries_of pages entry.page) half.0 half.1 in
    let more : 85 ^ suc level ≡ 85 ^ level * 85 = pow-suc 85 level in
    omega arith

-- a filled root of level 6 or more leads to 8874106250 regions and more
filled_many : (pages : List (List ℕ)) (level : ℕ) (root : Entry) → 6 ≤ level → IsFilledRoot pages level root → 4294967296 ≤ length (under pages level root)
filled_many pages zero root high filled = absurd filled
filled_many pages (suc level) root high filled =
    let many = each_many (IsHalfFull pages level) (under pages level) (85 ^ level) (halves_many pages level) 2 (entries_of pages root.page) (two_there filled.0) filled.1 in
    let least : 85 ^ 5 ≤ 85 ^ level = pow-le-pow_right {n = 85} (omega arith) {i = 5} {j = level} (omega arith) in
    omega arith
  where
    two_there : {n : ℕ} → (level ≡ 0) ⊎ (2 ≤ n) → 2 ≤ n
    two_there (inl low) = absurd (omega arith)
    two_there (inr more) = more

-- an index that is filled has fewer levels than there can be
pub filled_low_levels : (index : IndexView) (store : StoreFacts) → IsIndexOn index store → IsFilled index store.pages → length (entries_in index store) < 2 ^ 32 → index.levels < 16
filled_low_levels index store is filled few = elim (cases_lt index.levels 16) [
  | inl less ↦ less
  | inr more ↦ absurd (let many = filled_many store.pages index.levels (top index.root) (omega arith) filled in omega arith)
]

-- and is filled as it was
pub stands_filled : (index : IndexView) (old new : StoreFacts) (numbers : List ℕ) → IsIndexOn index old → IsReachedOnce index old → IsHonest new → OldStayOutside numbers old.pages new.pages
    → AllByRecursion (λ n. IsOutside n (pages_of_index index old)) numbers → IsFilled index old.pages → IsFilled index new.pages
stands_filled index old new numbers is own honest keeps outside filled =
    let stay : PagesStay old.pages new.pages (pages_of_index index old) =
    stay_apart old.pages new.pages numbers (pages_of_index index old) keeps (within_store index.last old.pages index.levels (top index.root) None is.under_it)
    (apart_swap numbers (pages_of_index index old) outside) in
    kept_filled old.pages new.pages index.levels (top index.root) stay filled
