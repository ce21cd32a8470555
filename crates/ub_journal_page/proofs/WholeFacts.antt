-- What the pages of a journal of version 1 read as.
use Rattle.std.proofs.Common.{◌≡◌, ◌<◌, ◌≤◌, ◌+◌, ◌-◌, ◌*◌, min, ℕ, zero, suc, List, [], ◌∷◌, ◌++◌, Some, length, take, drop, slice_get, get_or, refl, sym, ap, arith, ◌∙◌, append_assoc}
use Rattle.std.proofs.lemmas.List.{drop-drop, drop_at, length-append, length-drop, length-map, length-take, map-append, take-append-drop, take_all, take_at, take_more}
use Rattle.std.proofs.lemmas.List.FromFn.{length-map-range_with_len, map-range_with_len_more}
use Rattle.ub_journal.specs.Image.{numbers_of}
use Rattle.ub_journal.specs.declared.journal.Change.{Change}
use Rattle.ub_journal_page.specs.Pages.{number_page}
use Rattle.ub_journal_page.specs.Whole.{number_pages, pages_in, parts_of}
use Rattle.ub_journal_page.specs.inner.Numbers.{number_at, numbers_on}
use Rattle.ub_journal_page.specs.inner.Parts.{AreListed, AreSmall, AreSoMany, HasNumbers}
use Rattle.ub_journal_page.proofs.Lists.{get_drop, get_front, take_both, take_next}
use Rattle.ub_journal_page.proofs.NumberFacts.{numbers_back}
use Rattle.ub_journal_page.proofs.PageFacts.{get_numbers, length_number_pages}

pub small_take : (n : ℕ) (numbers : List ℕ) → AreSmall numbers → AreSmall (take n numbers)
small_take zero [] are = tt
small_take zero (x ∷ numbers) are = tt
small_take (suc n) [] are = tt
small_take (suc n) (x ∷ numbers) are = (are.0, small_take n numbers are.1)

pub small_drop : (n : ℕ) (numbers : List ℕ) → AreSmall numbers → AreSmall (drop n numbers)
small_drop zero numbers are = are
small_drop (suc n) [] are = tt
small_drop (suc n) (x ∷ numbers) are = small_drop n numbers are.1

-- one page more of those from a page on
pub page_more : (pages before : List (List ℕ)) (from i n : ℕ) (page : List ℕ) → n ≡ from + i → slice_get pages n ≡ Some page
    → before ≡ take i (drop from pages) → before ++ page ∷ [] ≡ take (i + 1) (drop from pages)
page_more pages before from i n page at is so_far =
    let next : suc i ≡ i + 1 = omega arith in
    ap (λ (ps : List (List ℕ)). ps ++ page ∷ []) so_far
    ∙ sym (take_next (drop from pages) i page (get_drop pages from i n at ∙ is))
    ∙ ap (λ (k : ℕ). take k (drop from pages)) next

-- one change more
pub changes_more : (old new : List Change) (number : ℕ) (page : List ℕ) (numbers : List ℕ) (pages : List (List ℕ)) (from i n : ℕ)
    → new ≡ old ++ (record { number = number; page = page }) ∷ [] → i < length numbers → number ≡ get_or numbers i 0 → numbers_of old ≡ take i numbers → numbers_of new ≡ take (i + 1) numbers
changes_more old new number page numbers pages from i n is less this so_far =
    ap numbers_of is ∙ map-append (λ (c : Change). c.number) old ((record { number = number; page = page }) ∷ [])
    ∙ ap (λ (ns : List ℕ). ns ++ number ∷ []) so_far ∙ ap (λ (x : ℕ). take i numbers ++ x ∷ []) this ∙ sym (take_more numbers i 0 less)

pub pages_more : (old new : List Change) (number : ℕ) (page : List ℕ) (pages : List (List ℕ)) (from i n : ℕ)
    → new ≡ old ++ (record { number = number; page = page }) ∷ [] → n ≡ from + i → slice_get pages n ≡ Some page
    → pages_in old ≡ take i (drop from pages) → pages_in new ≡ take (i + 1) (drop from pages)
pages_more old new number page pages from i n is at there so_far =
    ap pages_in is ∙ map-append (λ (c : Change). c.page) old ((record { number = number; page = page }) ∷ [])
    ∙ page_more pages (pages_in old) from i n page at there so_far

-- one number more of a page
pub on_more : (i : ℕ) (page : List ℕ) → numbers_on (i + 1) page ≡ numbers_on i page ++ number_at (4 * i) page ∷ []
on_more i page = map-range_with_len_more (λ (k : ℕ). number_at (4 * k) page) 0 i i (omega arith)

pub length_on : (i : ℕ) (page : List ℕ) → length (numbers_on i page) ≡ i
length_on i page = length-map-range_with_len (λ (k : ℕ). number_at (4 * k) page) 0 i

-- a page that isn't spelled again of what stands on it is spelled of no so many numbers
pub not_spelled : (page spelled xs : List ℕ) (i count : ℕ) → spelled ≡ number_page (numbers_on i page) → i ≡ count
    → length xs ≡ count → AreSmall xs → page ≡ number_page xs → spelled ≡ page
not_spelled page spelled xs i count is all long small e =
    is ∙ ap (λ (k : ℕ). number_page (numbers_on k page)) all ∙ ap number_page (numbers_back xs page count long small e) ∙ sym e

-- the page of numbers that stands at this place
pub record IsPart (numbers : List ℕ) (k m : ℕ) (page : List ℕ) : Type 0 where
  pub is : page ≡ number_page (take 1024 (drop (1024 * k) numbers))
  pub long : length (take 1024 (drop (1024 * k) numbers)) ≡ m
  pub small : AreSmall (take 1024 (drop (1024 * k) numbers))

pub part_on : (pages : List (List ℕ)) (page numbers : List ℕ) (changes k n m : ℕ) → HasNumbers changes pages numbers → k < parts_of changes → n ≡ 3 + k
    → slice_get pages n ≡ Some page → m ≡ min (changes - 1024 * k) 1024 → IsPart numbers k m page
part_on pages page numbers changes k n m has less at there much =
    let parts = parts_of changes in
    let whole : drop 3 pages ≡ number_pages parts numbers ++ drop parts (drop 3 pages) =
    sym (take-append-drop parts (drop 3 pages)) ∙ ap (λ (ps : List (List ℕ)). ps ++ drop parts (drop 3 pages)) has.are in
    let got : Some page ≡ Some (number_page (take 1024 (drop (1024 * k) numbers))) =
    sym there ∙ sym (get_drop pages 3 k n at) ∙ ap (λ (ps : List (List ℕ)). slice_get ps k) whole
    ∙ get_front (number_pages parts numbers) (drop parts (drop 3 pages)) k _ (get_numbers parts numbers k less) in
    let count = has.count in
    record {
      is = cc;
      long = omega (arith, length-take 1024 (drop (1024 * k) numbers), length-drop (1024 * k) numbers);
      small = small_take 1024 (drop (1024 * k) numbers) (small_drop (1024 * k) numbers has.small);
    }

-- the numbers of a page more are these
pub part_more : (ns page old new : List ℕ) (k m : ℕ) → IsPart ns k m page → old ≡ take (1024 * k) ns → new ≡ old ++ numbers_on m page
    → new ≡ take (1024 * (k + 1)) ns
part_more ns page old new k m part so_far is =
    let all : 1024 * k + 1024 ≡ 1024 * (k + 1) = omega arith in
    is ∙ ap (λ (xs : List ℕ). xs ++ numbers_on m page) so_far
    ∙ ap (λ (xs : List ℕ). take (1024 * k) ns ++ xs) (numbers_back (take 1024 (drop (1024 * k) ns)) page m part.long part.small part.is)
    ∙ take_both (1024 * k) 1024 ns ∙ ap (λ (n : ℕ). take n ns) all

number_pages_more : (k : ℕ) (old more : List ℕ) → length old ≡ 1024 * k → length more ≤ 1024 → number_pages (suc k) (old ++ more) ≡ number_pages k old ++ number_page more ∷ []
number_pages_more zero [] more long few = ap (λ (xs : List ℕ). number_page xs ∷ []) (take_all 1024 more few)
number_pages_more zero (x ∷ old) more long few = absurd (omega arith)
number_pages_more (suc k) old more long few =
    let front : List ℕ = take 1024 old in
    let back : List ℕ = drop 1024 old in
    let whole : old ≡ front ++ back = sym (take-append-drop 1024 old) in
    let counted : length front ≡ 1024 = omega (arith, length-take 1024 old) in
    let left : length back ≡ 1024 * k = omega (arith, length-drop 1024 old) in
    let joined : old ++ more ≡ front ++ (back ++ more) = ap (λ (xs : List ℕ). xs ++ more) whole ∙ append_assoc front back more in
    let first : take 1024 (old ++ more) ≡ front = ap (take 1024) joined ∙ take_at front (back ++ more) 1024 counted in
    let rest : drop 1024 (old ++ more) ≡ back ++ more = ap (drop 1024) joined ∙ drop_at front (back ++ more) 1024 counted in
    ap (λ (xs : List ℕ). number_page xs ∷ number_pages (suc k) (drop 1024 (old ++ more))) first
    ∙ ap (λ (xs : List ℕ). number_page front ∷ number_pages (suc k) xs) rest
    ∙ ap (λ (ps : List (List ℕ)). number_page front ∷ ps) (number_pages_more k back more left few)

-- one page of numbers more
pub parts_more : (pages : List (List ℕ)) (page old new : List ℕ) (k n m : ℕ) → length old ≡ 1024 * k → m ≤ 1024 → n ≡ 3 + k → slice_get pages n ≡ Some page
    → page ≡ number_page (numbers_on m page) → new ≡ old ++ numbers_on m page → take k (drop 3 pages) ≡ number_pages k old
    → take (k + 1) (drop 3 pages) ≡ number_pages (k + 1) new
parts_more pages page old new k n m long few at there is put so_far =
    let next : suc k ≡ k + 1 = omega arith in
    let much = length_on m page in
    sym (page_more pages (number_pages k old) 3 k n page at there (sym so_far))
    ∙ ap (λ (p : List ℕ). number_pages k old ++ p ∷ []) is
    ∙ sym (number_pages_more k old (numbers_on m page) long (omega arith))
    ∙ ap (number_pages (suc k)) (sym put) ∙ ap (λ (i : ℕ). number_pages i new) next

-- how many numbers there are then
pub count_more : (old new page : List ℕ) (k m changes : ℕ) → length old ≡ min (1024 * k) changes → k < parts_of changes → m ≡ min (changes - 1024 * k) 1024 → new ≡ old ++ numbers_on m page
    → length new ≡ min (1024 * (k + 1)) changes
count_more old new page k m changes long less much is =
    let all = ap length is in
    omega (arith, all, length-append old (numbers_on m page), length_on m page)

-- a page of numbers is spelled of no others
page_back : (xs ys : List ℕ) → length xs ≡ length ys → AreSmall xs → AreSmall ys → number_page xs ≡ number_page ys → xs ≡ ys
page_back xs ys long small small_ys is =
    sym (numbers_back xs (number_page xs) (length xs) refl small refl) ∙ numbers_back ys (number_page xs) (length xs) (sym long) small_ys is

-- and so are many
parts_back : (k : ℕ) (xs ys : List ℕ) → length xs ≡ length ys → length xs ≤ 1024 * k → AreSmall xs → AreSmall ys → number_pages k xs ≡ number_pages k ys → xs ≡ ys
parts_back zero [] [] long few small small_ys is = refl
parts_back zero [] (y ∷ ys) long few small small_ys is = absurd (omega arith)
parts_back zero (x ∷ xs) ys long few small small_ys is = absurd (omega arith)
parts_back (suc k) xs ys long few small small_ys is =
    let first : number_page (take 1024 xs) ≡ number_page (take 1024 ys) = cc in
    let later : number_pages k (drop 1024 xs) ≡ number_pages k (drop 1024 ys) = cc in
    let front = page_back (take 1024 xs) (take 1024 ys) (omega (arith, length-take 1024 xs, length-take 1024 ys)) (small_take 1024 xs small) (small_take 1024 ys small_ys) first in
    let back = parts_back k (drop 1024 xs) (drop 1024 ys) (omega (arith, length-drop 1024 xs, length-drop 1024 ys)) (omega (arith, length-drop 1024 xs))
    (small_drop 1024 xs small) (small_drop 1024 ys small_ys) later in
    sym (take-append-drop 1024 xs) ∙ ap (λ (zs : List ℕ). zs ++ drop 1024 xs) front ∙ ap (λ (zs : List ℕ). take 1024 ys ++ zs) back ∙ take-append-drop 1024 ys

-- changes with the same numbers and the same pages are the same
pub changes_back : (a b : List Change) → numbers_of a ≡ numbers_of b → pages_in a ≡ pages_in b → a ≡ b
changes_back [] [] numbers pages = refl
changes_back [] (d ∷ b) numbers pages = absurd (let wrong = numbers in cc)
changes_back (c ∷ a) [] numbers pages = absurd (let wrong = numbers in cc)
changes_back (c ∷ a) (d ∷ b) numbers pages =
    let number : c.number ≡ d.number = cc in
    let page : c.page ≡ d.page = cc in
    let more = changes_back a b (let e : numbers_of a ≡ numbers_of b = cc in e) (let e : pages_in a ≡ pages_in b = cc in e) in
    rw (number, page, more) refl

-- the pages of changes begin with their numbers
pub listed_numbers : (changes : ℕ) (pages : List (List ℕ)) (cs : List Change) → AreSoMany changes cs → AreListed pages cs → HasNumbers changes pages (numbers_of cs)
listed_numbers changes pages cs so_many are =
    let count = so_many.count in
    let k = parts_of changes in
    let all : length (numbers_of cs) ≡ changes = length-map cs (λ (c : Change). c.number) ∙ count in
    record {
      count = all;
      small = so_many.small;
      are = ap (take k) are ∙ ap (λ (n : ℕ). take k (number_pages (parts_of n) (numbers_of cs) ++ pages_in cs)) count
          ∙ take_at (number_pages k (numbers_of cs)) (pages_in cs) k (length_number_pages k (numbers_of cs));
    }

-- and end with their pages
pub listed_pages : (changes : ℕ) (pages : List (List ℕ)) (cs : List Change) (from : ℕ) → length cs ≡ changes → AreListed pages cs → from ≡ 3 + parts_of changes → drop from pages ≡ pages_in cs
listed_pages changes pages cs from count are at =
    let k = parts_of changes in
    let turned : 3 + k ≡ from = omega arith in
    ap (λ (n : ℕ). drop n pages) (sym turned) ∙ sym (drop-drop k 3 pages) ∙ ap (drop k) are
    ∙ ap (λ (n : ℕ). drop k (number_pages (parts_of n) (numbers_of cs) ++ pages_in cs)) count
    ∙ drop_at (number_pages k (numbers_of cs)) (pages_in cs) k (length_number_pages k (numbers_of cs))

-- what was read part by part are the pages of changes
pub listed_of : (changes : ℕ) (pages : List (List ℕ)) (cs : List Change) (numbers : List ℕ) (from : ℕ) → length numbers ≡ changes
    → take (parts_of changes) (drop 3 pages) ≡ number_pages (parts_of changes) numbers → numbers_of cs ≡ numbers → from ≡ 3 + parts_of changes → pages_in cs ≡ drop from pages
    → AreListed pages cs
listed_of changes pages cs numbers from long parts are at rest =
    let k = parts_of changes in
    let many : length cs ≡ changes = sym (length-map cs (λ (c : Change). c.number)) ∙ ap length are ∙ long in
    let turned : from ≡ 3 + k = at in
    let behind : drop k (drop 3 pages) ≡ pages_in cs = drop-drop k 3 pages ∙ ap (λ (n : ℕ). drop n pages) (sym turned) ∙ sym rest in
    sym (take-append-drop k (drop 3 pages)) ∙ ap (λ (ps : List (List ℕ)). ps ++ drop k (drop 3 pages)) parts
    ∙ ap (λ (ps : List (List ℕ)). number_pages k numbers ++ ps) behind ∙ ap (λ (ns : List ℕ). number_pages k ns ++ pages_in cs) (sym are)
    ∙ ap (λ (n : ℕ). number_pages (parts_of n) (numbers_of cs) ++ pages_in cs) (sym many)

-- the same pages are those of no two lists of changes
pub listed_back : (pages : List (List ℕ)) (changes : ℕ) (cs ds : List Change) → AreSoMany changes cs → AreSoMany changes ds → AreListed pages cs → AreListed pages ds → cs ≡ ds
listed_back pages changes cs ds many_c many_d are_c are_d =
    let k = parts_of changes in
    let has_c = listed_numbers changes pages cs many_c are_c in
    let has_d = listed_numbers changes pages ds many_d are_d in
    let long_c = has_c.count in
    let long_d = has_d.count in
    let numbers = parts_back k (numbers_of cs) (numbers_of ds) (long_c ∙ sym long_d) (omega arith) has_c.small has_d.small (sym has_c.are ∙ has_d.are) in
    changes_back cs ds numbers (sym (listed_pages changes pages cs (3 + k) many_c.count are_c refl) ∙ listed_pages changes pages ds (3 + k) many_d.count are_d refl)
