-- What is read byte by byte of the pages behind a journal's first three.
use Rattle.std.proofs.Common.{◌≡◌, ◌≢◌, ◌≤◌, ◌<◌, ◌+◌, ◌-◌, ◌*◌, ◌/◌, ◌%◌, ◌^◌, ◌↔◌, min, ℕ, zero, suc, List, [], ◌∷◌, ◌++◌, Some, length, take, drop, replicate, slice_get, get_or, refl, sym, ap, subst, arith, ◌∙◌, append_assoc}
use Rattle.std.proofs.lemmas.List.{append-nil, drop-drop, drop_all, drop_at, length-append, length-drop, length-take, take-append-drop, take_all, take_at}
use Rattle.ub_journal.specs.declared.journal.Change.{Change}
use Rattle.ub_journal_page.specs.Pages.{byte_parts, change_bytes, changes_bytes, held_of, joined, number_bytes}
use Rattle.ub_journal_page.specs.inner.Parts.{AreFull, ArePacked, AreSoMany, IsOn, IsRead, IsSound, stream}
use Rattle.ub_journal_page.proofs.HeldFacts.{held_few, held_is, held_last, held_whole, none_held}
use Rattle.ub_journal_page.proofs.Lists.{drop-replicate, drop_within, get_drop, put_over, take_both, take_next, take_within}
use Rattle.ub_journal_page.proofs.PackedFacts.{AreSound, by_front, fronts_back, joined_pages, length_cut, length_joined, pages_back, prefix_back, seam, sound_drop, sound_full, sound_of, two_bytes}
use borrow.Rule.Slice.PartMut.{put_mid, mid_of}

length_zeros : (n : ℕ) → length (replicate {A = ℕ} n 0) ≡ n
length_zeros zero = refl
length_zeros (suc n) = ap suc (length_zeros n)

full_less : (m n : ℕ) (pages : List (List ℕ)) → m ≤ n → AreFull (take n pages) → AreFull (take m pages)
full_less zero n [] le full = tt
full_less zero n (p ∷ pages) le full = tt
full_less (suc m) zero pages le full = absurd (omega arith)
full_less (suc m) (suc n) [] le full = tt
full_less (suc m) (suc n) (p ∷ pages) le full = (full.0, full_less m n pages (omega arith) full.1)

full_more : (pages : List (List ℕ)) (page : List ℕ) → AreFull pages → length page ≡ 4096 → AreFull (pages ++ page ∷ [])
full_more [] page full long = (long, tt)
full_more (p ∷ pages) page full long = (full.0, full_more pages page full.1 long)

full_at : (pages : List (List ℕ)) (i : ℕ) (page : List ℕ) → AreFull (take (suc i) pages) → slice_get pages i ≡ Some page → length page ≡ 4096
full_at [] i page full is = absurd (let wrong = is in cc)
full_at (p ∷ pages) zero page full is = let same : p ≡ page = cc in ap length (sym same) ∙ full.0
full_at (p ∷ pages) (suc i) page full is = full_at pages i page full.1 is

-- the bytes from a page on
from_page : (pages : List (List ℕ)) (i n : ℕ) (page : List ℕ) → n ≡ 4096 * i → AreFull (take (suc i) pages) → slice_get pages i ≡ Some page
    → drop n (joined pages) ≡ page ++ joined (drop (suc i) pages)
from_page [] i n page at full is = absurd (let wrong = is in cc)
from_page (p ∷ pages) zero n page at full is =
    let same : p ≡ page = cc in
    let none : n ≡ 0 = omega arith in
    ap (λ (k : ℕ). drop k (joined (p ∷ pages))) none ∙ ap (λ (q : List ℕ). q ++ joined pages) same
from_page (p ∷ pages) (suc i) n page at full is =
    let cut : n ≡ 4096 + 4096 * i = omega arith in
    ap (λ (k : ℕ). drop k (joined (p ∷ pages))) cut ∙ sym (drop-drop (4096 * i) 4096 (p ++ joined pages))
    ∙ ap (drop (4096 * i)) (drop_at p (joined pages) 4096 full.0) ∙ from_page pages i (4096 * i) page refl full.1 is

-- the bytes behind so many on the last page
pub rest_on : (pages : List (List ℕ)) (place : ℕ) (page : List ℕ) → IsRead pages place page → place % 4096 ≢ 0 → length pages ≡ 3 + byte_parts place
    → drop place (stream pages) ≡ take (4096 - place % 4096) (drop (place % 4096) page)
rest_on pages place page read some count =
    let i = place / 4096 in
    let rest : List (List ℕ) = drop 3 pages in
    let left = length-drop 3 pages in
    let all : byte_parts place ≡ suc i = omega (arith, some) in
    let full : AreFull (take (suc i) rest) = subst (λ (n : ℕ). AreFull (take n rest)) all read.full in
    let there : slice_get rest i ≡ Some page = get_drop pages 3 i (3 + i) refl ∙ read.last some in
    let long = full_at rest i page full there in
    let none : drop (suc i) rest ≡ [] = drop_all (suc i) rest (omega arith) in
    let from = from_page rest i (4096 * i) page refl full there ∙ ap (λ (ps : List (List ℕ)). page ++ joined ps) none ∙ append-nil page in
    let at : 4096 * i + place % 4096 ≡ place = omega arith in
    ap (λ (n : ℕ). drop n (joined rest)) (sym at) ∙ sym (drop-drop (place % 4096) (4096 * i) (joined rest)) ∙ ap (drop (place % 4096)) from
    ∙ sym (take_all (4096 - place % 4096) (drop (place % 4096) page) (omega (arith, length-drop (place % 4096) page)))

-- none stand there where the last page is full
pub full_on : (pages : List (List ℕ)) (place : ℕ) (page : List ℕ) → IsRead pages place page → place % 4096 ≡ 0 → length pages ≡ 3 + byte_parts place
    → drop place (stream pages) ≡ replicate (length (stream pages) - place) 0
full_on pages place page read none count =
    let left = length-drop 3 pages in
    let whole : take (byte_parts place) (drop 3 pages) ≡ drop 3 pages = take_all (byte_parts place) (drop 3 pages) (omega arith) in
    let size = length_joined (drop 3 pages) (subst AreFull whole read.full) in
    let much : 0 ≡ length (stream pages) - place = omega (arith, size, left) in
    drop_all place (stream pages) (omega (arith, size, left)) ∙ ap (λ (n : ℕ). replicate n 0) much

-- whether the rest is zeros, as a look at the last page tells
pub rest_blank : (pages : List (List ℕ)) (place : ℕ) (page : List ℕ) → IsRead pages place page → place % 4096 ≢ 0 → length pages ≡ 3 + byte_parts place
    → (take (4096 - place % 4096) (drop (place % 4096) page) ≡ replicate (length (take (4096 - place % 4096) (drop (place % 4096) page))) 0)
    ↔ (drop place (stream pages) ≡ replicate (length (stream pages) - place) 0)
rest_blank pages place page read some count =
    let is = rest_on pages place page read some count in
    let size : length (take (4096 - place % 4096) (drop (place % 4096) page)) ≡ length (stream pages) - place = ap length (sym is) ∙ length-drop place (stream pages) in
    ((λ blank. is ∙ blank ∙ ap (λ (n : ℕ). replicate n 0) size), (λ blank. sym is ∙ blank ∙ ap (λ (n : ℕ). replicate n 0) (sym size)))

-- bytes of the page are those of the stream
pub bytes_on : (pages : List (List ℕ)) (place k : ℕ) (page : List ℕ) → IsOn pages place page → k ≤ 4096 - place % 4096
    → (take k (drop (place % 4096) page) ≡ take k (drop place (stream pages))) × (place + k ≤ length (stream pages))
bytes_on pages place k page on few =
    let i = place / 4096 in
    let rest : List (List ℕ) = drop 3 pages in
    let full : AreFull (take (suc i) rest) = let next : i + 1 ≡ suc i = omega arith in subst (λ (n : ℕ). AreFull (take n rest)) next on.full in
    let there : slice_get rest i ≡ Some page = get_drop pages 3 i (3 + i) refl ∙ on.here in
    let long = full_at rest i page full there in
    let from = from_page rest i (4096 * i) page refl full there in
    let behind : List ℕ = joined (drop (suc i) rest) in
    let cut : 4096 * i + place % 4096 ≡ place = omega arith in
    let at : drop place (joined rest) ≡ drop (place % 4096) page ++ behind =
    ap (λ (n : ℕ). drop n (joined rest)) (sym cut) ∙ sym (drop-drop (place % 4096) (4096 * i) (joined rest)) ∙ ap (drop (place % 4096)) from
    ∙ drop_within (place % 4096) page behind (omega arith) in
    let much = ap length from in (
      sym (ap (take k) at ∙ take_within k (drop (place % 4096) page) behind (omega (arith, length-drop (place % 4096) page))),
      omega (arith, much, length-drop (4096 * i) (joined rest), length-append page behind),
    )

-- the page of the next byte was read
pub load_more : (pages : List (List ℕ)) (place : ℕ) (old page : List ℕ) → IsRead pages place old → place % 4096 ≡ 0 → slice_get pages (3 + place / 4096) ≡ Some page → length page ≡ 4096
    → IsOn pages place page
load_more pages place old page read none is long =
    let i = place / 4096 in
    let there : slice_get (drop 3 pages) i ≡ Some page = get_drop pages 3 i (3 + i) refl ∙ is in
    let all : byte_parts place ≡ i = omega arith in
    let next : suc i ≡ i + 1 = omega arith in
    let so_far : AreFull (take i (drop 3 pages)) = subst (λ (n : ℕ). AreFull (take n (drop 3 pages))) all read.full in
    let more : take (suc i) (drop 3 pages) ≡ take i (drop 3 pages) ++ page ∷ [] = take_next (drop 3 pages) i page there in
    record {
      full = subst (λ (n : ℕ). AreFull (take n (drop 3 pages))) next (subst AreFull (sym more) (full_more (take i (drop 3 pages)) page so_far long));
      here = is;
    }

-- there is none
pub load_none : (pages : List (List ℕ)) (place : ℕ) (old : List ℕ) → IsRead pages place old → place % 4096 ≡ 0 → length pages ≤ 3 + place / 4096 → length (stream pages) ≤ place
load_none pages place old read none past =
    let left = length-drop 3 pages in
    let whole : take (byte_parts place) (drop 3 pages) ≡ drop 3 pages = take_all (byte_parts place) (drop 3 pages) (omega arith) in
    omega (arith, left, length_joined (drop 3 pages) (subst AreFull whole read.full))

-- it was read before
pub load_kept : (pages : List (List ℕ)) (place : ℕ) (page : List ℕ) → IsRead pages place page → place % 4096 ≢ 0 → IsOn pages place page
load_kept pages place page read some =
    let all : byte_parts place ≡ place / 4096 + 1 = omega (arith, some) in
    record { full = subst (λ (n : ℕ). AreFull (take n (drop 3 pages))) all read.full; here = read.last some }

-- more bytes of it were read
pub read_more : (pages : List (List ℕ)) (place k next : ℕ) (page : List ℕ) → IsOn pages place page → k ≤ 4096 - place % 4096 → next ≡ place + k → IsRead pages next page
read_more pages place k next page on few is =
    let there = (bytes_on pages place k page on few).1 in
    record {
      there = omega arith;
      full = full_less (byte_parts next) (place / 4096 + 1) (drop 3 pages) (omega arith) on.full;
      last = λ some. let same : 3 + next / 4096 ≡ 3 + place / 4096 = omega (arith, some) in ap (λ (n : ℕ). slice_get pages n) same ∙ on.here;
    }

-- and more of the target is filled
pub filled_more : (bytes target buf part : List ℕ) (from filled k : ℕ) → filled ≤ length target → buf ≡ part ++ drop k (mid_of filled (length target - filled) target)
    → take filled target ≡ take filled (drop from bytes) → part ≡ take k (drop (from + filled) bytes) → (from + filled) + k ≤ length bytes
    → take (filled + k) (put_mid filled (length target - filled) target buf) ≡ take (filled + k) (drop from bytes)
filled_more bytes target buf part from filled k within put so_far is fits =
    let whole = put_over filled k target part buf within put in
    let size = ap length is in
    let long : length (take filled target ++ part) ≡ filled + k =
    omega (arith, size, length-append (take filled target) part, length-take filled target, length-take k (drop (from + filled) bytes), length-drop (from + filled) bytes) in
    ap (take (filled + k)) whole ∙ take_at (take filled target ++ part) (drop (filled + k) target) (filled + k) long
    ∙ ap (λ (s : List ℕ). s ++ part) so_far ∙ ap (λ (s : List ℕ). take filled (drop from bytes) ++ s) (is ∙ ap (take k) (sym (drop-drop filled from bytes)))
    ∙ take_both filled k (drop from bytes)

-- where bytes go on with some, there are so many
pub bytes_there : (bytes front rest : List ℕ) (place : ℕ) → drop place bytes ≡ front ++ rest → 0 < length front → place + length front ≤ length bytes
bytes_there bytes front rest place is some = let all = ap length is in omega (arith, all, length-drop place bytes, length-append front rest)

-- what was read of a change is what the change has
pub front_agrees : (bytes : List ℕ) (place number held : ℕ) (c : Change) (rest : List ℕ) → number < 2 ^ 32 → held ≤ 4096 → IsSound c
    → take 8 (drop place bytes) ≡ number_bytes number ++ number_bytes held → drop place bytes ≡ change_bytes c ++ rest
    → (number ≡ c.number) × (held ≡ held_of c.page) × (drop (place + 8) bytes ≡ take (held_of c.page) c.page ++ rest)
front_agrees bytes place number held c rest small few sound front is =
    let held_c = held_few c.page in
    let full = sound.full in
    let both = seam (take 8 (drop place bytes)) (number_bytes c.number ++ number_bytes (held_of c.page)) (drop 8 (drop place bytes)) (take (held_of c.page) c.page ++ rest)
    (ap length front ∙ two_bytes number held ∙ sym (two_bytes c.number (held_of c.page))) (take-append-drop 8 (drop place bytes) ∙ is ∙ by_front c rest) in
    let a = fronts_back (take 8 (drop place bytes)) number held small (omega arith) front in
    let b = fronts_back (take 8 (drop place bytes)) c.number (held_of c.page) sound.small (omega arith) both.0 in
    (sym a.0 ∙ b.0, sym a.1 ∙ b.1, sym (drop-drop 8 place bytes) ∙ both.1)

-- bytes on a page, and zeros behind them
pub page_of_bytes : (held : ℕ) (page bytes : List ℕ) → page ≡ bytes ++ replicate (4096 - held) 0 → length bytes ≡ held → held ≤ 4096 → (0 < held → get_or page (held - 1) 0 ≢ 0)
    → (held_of page ≡ held) × (take held page ≡ bytes) × (length page ≡ 4096)
page_of_bytes zero page bytes is long few last =
    let blank : List ℕ = replicate (4096 - 0) 0 in
    let left : length blank ≡ 4096 - 0 = length_zeros (4096 - 0) in
    let size : length page ≡ 4096 = omega (arith, ap length is, length-append bytes blank, left) in
    let none : bytes ≡ [] = sym (take_all 0 bytes (omega arith)) ∙ nothing bytes in
    let all : 4096 - 0 ≡ length page = omega arith in
    (none_held page (is ∙ ap (λ (s : List ℕ). s ++ blank) none ∙ ap (λ (n : ℕ). replicate n 0) all), nothing page ∙ sym none, size)
  where
    nothing : (xs : List ℕ) → take 0 xs ≡ []
    nothing [] = refl
    nothing (x ∷ xs) = refl
page_of_bytes (suc held) page bytes is long few last =
    let blank : List ℕ = replicate (4096 - suc held) 0 in
    let left : length blank ≡ 4096 - suc held = length_zeros (4096 - suc held) in
    let size : length page ≡ 4096 = omega (arith, ap length is, length-append bytes blank, left) in
    let behind : drop (suc held) page ≡ blank = ap (drop (suc held)) is ∙ drop_at bytes blank (suc held) long in
    let before : suc held - 1 ≡ held = omega arith in
    (held_is held page (4096 - suc held) behind (subst (λ (n : ℕ). get_or page n 0 ≢ 0) before (last (omega arith))), ap (take (suc held)) is ∙ take_at bytes blank (suc held) long, size)

-- what was read is the change
pub change_read : (bytes : List ℕ) (place number held next : ℕ) (page part : List ℕ) → take 8 (drop place bytes) ≡ number_bytes number ++ number_bytes held
    → part ≡ take held (drop (place + 8) bytes) → held_of page ≡ held → take held page ≡ part → next ≡ place + 8 + held
    → drop place bytes ≡ change_bytes (record { number = number; page = page }) ++ drop next bytes
change_read bytes place number held next page part front is holds first at =
    let rest : List ℕ = drop next bytes in
    let c : Change = record { number = number; page = page } in
    let tail : drop (place + 8) bytes ≡ take held page ++ rest =
    sym (take-append-drop held (drop (place + 8) bytes)) ∙ ap (λ (s : List ℕ). s ++ drop held (drop (place + 8) bytes)) (sym is ∙ sym first)
    ∙ ap (λ (s : List ℕ). take held page ++ s) (drop-drop held (place + 8) bytes ∙ ap (λ (n : ℕ). drop n bytes) (sym at)) in
    sym (take-append-drop 8 (drop place bytes)) ∙ ap (λ (s : List ℕ). s ++ drop 8 (drop place bytes)) front
    ∙ ap (λ (s : List ℕ). (number_bytes number ++ number_bytes held) ++ s) (drop-drop 8 place bytes ∙ tail)
    ∙ ap (λ (n : ℕ). (number_bytes number ++ number_bytes n) ++ (take n page ++ rest)) (sym holds)
    ∙ sym (by_front c rest)

-- where the bytes are those that a change has, the page is the change's
pub page_agrees : (c : Change) (page part rest bytes : List ℕ) (held : ℕ) → IsSound c → held ≡ held_of c.page → page ≡ part ++ replicate (4096 - held) 0
    → part ≡ take held bytes → bytes ≡ take (held_of c.page) c.page ++ rest → page ≡ c.page
page_agrees c page part rest bytes held sound same is read go_on =
    let held_c = held_few c.page in
    let full = sound.full in
    let first : part ≡ take (held_of c.page) c.page =
    read ∙ ap (take held) go_on ∙ take_at (take (held_of c.page) c.page) rest held (omega (arith, same, length-take (held_of c.page) c.page)) in
    let left : 4096 - held ≡ length c.page - held_of c.page = omega arith in
    is ∙ ap (λ (s : List ℕ). s ++ replicate (4096 - held) 0) first ∙ ap (λ (n : ℕ). take (held_of c.page) c.page ++ replicate n 0) left ∙ held_whole c.page

-- its last byte is no zero
pub last_agrees : (c : Change) (page : List ℕ) (held : ℕ) → page ≡ c.page → held ≡ held_of c.page → 0 < held → get_or page (held - 1) 0 ≢ 0
last_agrees c page held same is some =
    let at : held_of c.page ≡ suc (held - 1) = omega arith in
    λ e. held_last c.page (held - 1) at (ap (λ (p : List ℕ). get_or p (held - 1) 0) (sym same) ∙ e)

-- what stands behind the first changes of those that pages have
pub packed_on : (pages : List (List ℕ)) (changes place : ℕ) (cs ds : List Change) → AreSound cs → AreSoMany changes ds → ArePacked pages ds → length cs ≤ changes
    → stream pages ≡ changes_bytes cs ++ drop place (stream pages)
    → (cs ≡ take (length cs) ds) × (drop place (stream pages) ≡ changes_bytes (drop (length cs) ds) ++ replicate (4096 * byte_parts (length (changes_bytes ds)) - length (changes_bytes ds)) 0)
packed_on pages changes place cs ds sound many are few is =
    let count = many.count in
    let bytes : List ℕ = changes_bytes ds in
    let all : stream pages ≡ bytes ++ replicate (4096 * byte_parts (length bytes) - length bytes) 0 = ap joined are.1 ∙ joined_pages bytes in
    prefix_back cs ds (drop place (stream pages)) (replicate (4096 * byte_parts (length bytes) - length bytes) 0) sound (sound_of ds many.small are.0) (omega arith) (sym is ∙ all)

next_of : (ds : List Change) (n : ℕ) → n < length ds → (d : Change) × (more : List Change) × (drop n ds ≡ d ∷ more)
next_of [] n less = absurd (omega arith)
next_of (d ∷ ds) zero less = (d, ds, refl)
next_of (d ∷ ds) (suc n) less = next_of ds n (omega arith)

-- so one more is read where there is one more
pub one_more : (pages : List (List ℕ)) (changes place : ℕ) (cs ds : List Change) → AreSound cs → AreSoMany changes ds → ArePacked pages ds → length cs < changes
    → stream pages ≡ changes_bytes cs ++ drop place (stream pages)
    → (d : Change) × (rest : List ℕ) × IsSound d × (drop place (stream pages) ≡ change_bytes d ++ rest)
one_more pages changes place cs ds sound many are less is =
    let count = many.count in
    let on = packed_on pages changes place cs ds sound many are (omega arith) is in
    let next = next_of ds (length cs) (omega arith) in
    let blank : List ℕ = replicate (4096 * byte_parts (length (changes_bytes ds)) - length (changes_bytes ds)) 0 in
    let sound_d : AreSound (next.0 ∷ next.1) = subst AreSound next.2 (sound_drop (length cs) ds (sound_of ds many.small are.0)) in (
      next.0,
      changes_bytes next.1 ++ blank,
      sound_d.0,
      on.1 ∙ ap (λ (es : List Change). changes_bytes es ++ blank) next.2 ∙ append_assoc (change_bytes next.0) (changes_bytes next.1) blank,
    )

-- how many bytes were read
pub read_place : (bytes front : List ℕ) (place : ℕ) → place ≤ length bytes → bytes ≡ front ++ drop place bytes → length front ≡ place
read_place bytes front place within is = let all = ap length is in omega (arith, all, length-append front (drop place bytes), length-drop place bytes)

-- where all are read, nothing but zeros stands behind them
pub end_of : (pages : List (List ℕ)) (changes place : ℕ) (cs ds : List Change) (page : List ℕ) → AreSound cs → AreSoMany changes ds → ArePacked pages ds → length cs ≡ changes
    → stream pages ≡ changes_bytes cs ++ drop place (stream pages) → IsRead pages place page → 3 ≤ length pages
    → (length pages ≡ 3 + byte_parts place) × (drop place (stream pages) ≡ replicate (length (stream pages) - place) 0)
end_of pages changes place cs ds page sound many are count is read three =
    let much = many.count in
    let on = packed_on pages changes place cs ds sound many are (omega arith) is in
    let none : drop (length cs) ds ≡ [] = drop_all (length cs) ds (omega arith) in
    let same : cs ≡ ds = on.0 ∙ take_all (length cs) ds (omega arith) in
    let size : length (changes_bytes ds) ≡ place = ap (λ (es : List Change). length (changes_bytes es)) (sym same) ∙ read_place (stream pages) (changes_bytes cs) place read.there is in
    let n = 4096 * byte_parts (length (changes_bytes ds)) - length (changes_bytes ds) in
    let rest : drop place (stream pages) ≡ replicate n 0 = on.1 ∙ ap (λ (es : List Change). changes_bytes es ++ replicate n 0) none in
    let blank : List ℕ = replicate n 0 in
    let much : length blank ≡ n = length_zeros n in
    let long : n ≡ length (stream pages) - place = sym much ∙ ap length (sym rest) ∙ length-drop place (stream pages) in
    let pages_d = ap length are.1 in
    (omega (arith, pages_d, size, length-drop 3 pages, length_cut (byte_parts (length (changes_bytes ds))) (changes_bytes ds ++ replicate 4096 0)), rest ∙ ap (λ (k : ℕ). replicate k 0) long)

-- and then the pages are those of what was read
pub packed_of : (pages : List (List ℕ)) (place : ℕ) (cs : List Change) (page : List ℕ) → AreSound cs → stream pages ≡ changes_bytes cs ++ drop place (stream pages) → IsRead pages place page
    → 3 ≤ length pages → length pages ≡ 3 + byte_parts place → drop place (stream pages) ≡ replicate (length (stream pages) - place) 0 → ArePacked pages cs
packed_of pages place cs page sound is read three count blank =
    let size = read_place (stream pages) (changes_bytes cs) place read.there is in
    let left = length-drop 3 pages in
    let parts : length (drop 3 pages) ≡ byte_parts (length (changes_bytes cs)) = omega (arith, size) in
    let whole : take (byte_parts place) (drop 3 pages) ≡ drop 3 pages = take_all (byte_parts place) (drop 3 pages) (omega arith) in (
      sound_full cs sound,
      pages_back (drop 3 pages) (changes_bytes cs) (length (stream pages) - place) (subst AreFull whole read.full) parts (is ∙ ap (λ (s : List ℕ). changes_bytes cs ++ s) blank),
    )

changes_append : (cs : List Change) (c : Change) → changes_bytes (cs ++ c ∷ []) ≡ changes_bytes cs ++ change_bytes c
changes_append [] c = append-nil (change_bytes c)
changes_append (d ∷ cs) c = ap (λ (s : List ℕ). change_bytes d ++ s) (changes_append cs c) ∙ sym (append_assoc (change_bytes d) (changes_bytes cs) (change_bytes c))

-- one change more was read
pub stream_more : (bytes : List ℕ) (old new : List Change) (c : Change) (place next : ℕ) → new ≡ old ++ c ∷ [] → bytes ≡ changes_bytes old ++ drop place bytes
    → drop place bytes ≡ change_bytes c ++ drop next bytes → bytes ≡ changes_bytes new ++ drop next bytes
stream_more bytes old new c place next is so_far more =
    so_far ∙ ap (λ (s : List ℕ). changes_bytes old ++ s) more ∙ sym (append_assoc (changes_bytes old) (change_bytes c) (drop next bytes))
    ∙ ap (λ (s : List ℕ). s ++ drop next bytes) (sym (changes_append old c) ∙ ap changes_bytes (sym is))

-- a part that was written is as long as it was
pub length_put : (offset : ℕ) (target buf : List ℕ) → offset ≤ length target → length buf ≡ length (mid_of offset (length target - offset) target)
    → length (put_mid offset (length target - offset) target buf) ≡ length target
length_put offset target buf within same =
    let part : List ℕ = mid_of offset (length target - offset) target in
    let none : drop (length buf) part ≡ [] = drop_all (length buf) part (omega (arith, same)) in
    let whole = put_over offset (length buf) target buf buf within (sym (ap (λ (s : List ℕ). buf ++ s) none ∙ append-nil buf)) in
    let size : length part ≡ length target - offset = omega (arith, length-take (length target - offset) (drop offset target), length-drop offset target) in
    omega (
      arith,
      ap length whole,
      size,
      same,
      length-append (take offset target ++ buf) (drop (offset + length buf) target),
      length-append (take offset target) buf,
      length-take offset target,
      length-drop (offset + length buf) target,
    )

-- fewer bytes are left
pub left_less : (long len filled k : ℕ) → long ≡ len → filled < len → 0 < k → long - (filled + k) < len - filled
left_less long len filled k same less some = omega arith

-- how many bytes a copy takes
pub copied_few : (k filled place : ℕ) (target : List ℕ) → k ≡ min (length (mid_of filled (length target - filled) target)) (4096 - place % 4096) → filled < length target
    → (0 < k) × (k ≤ 4096 - place % 4096) × (filled + k ≤ length target)
copied_few k filled place target is less =
    let size : length (mid_of filled (length target - filled) target) ≡ length target - filled = omega (arith, length-take (length target - filled) (drop filled target), length-drop filled target) in
    (omega (arith, is, size), omega (arith, is, size), omega (arith, is, size))

-- bytes of a page in the place of zeros
pub held_read : (page target bytes : List ℕ) (held : ℕ) → page ≡ replicate 4096 0 → held ≤ 4096 → target ≡ take (length (mid_of 0 held page)) bytes
    → target ++ drop held page ≡ take held bytes ++ replicate (4096 - held) 0
held_read page target bytes held blank few is =
    let size : length page ≡ 4096 = ap length blank ∙ length_zeros 4096 in
    let all : length (mid_of 0 held page) ≡ held = omega (arith, size, length-take held page) in
    ap (λ (s : List ℕ). s ++ drop held page) (is ∙ ap (λ (n : ℕ). take n bytes) all) ∙ ap (λ (s : List ℕ). take held bytes ++ drop held s) blank
    ∙ ap (λ (s : List ℕ). take held bytes ++ s) (drop-replicate held 4096 0)
