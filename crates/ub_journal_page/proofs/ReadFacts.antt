-- What the pages of a journal read as.
use Rattle.std.proofs.Common.{◌≡◌, ◌<◌, ◌^◌, inl, inr, ℕ, List, [], ◌∷◌, ◌++◌, Some, length, drop, replicate, slice_get, get_or, refl, subst, sym, ap, arith, ◌∙◌}
use Rattle.std.proofs.lemmas.List.{length-append, length-map}
use Rattle.ub_journal.specs.Image.{Journal, AreAscending, IsJournal, numbers_of}
use Rattle.ub_journal.specs.declared.journal.Change.{Change}
use Rattle.ub_store.specs.Facts.{StoreFacts, IsHonest, IsPage}
use Rattle.ub_journal_page.specs.Pages.{byte_pages, byte_parts, changes_bytes, head_of, number_page}
use Rattle.ub_journal_page.specs.Reading.{BearsOut, IsHead, Spells}
use Rattle.ub_journal_page.specs.Whole.{listed, number_pages, pages_in, parts_of}
use Rattle.ub_journal_page.specs.inner.Numbers.{number_at}
use Rattle.ub_journal_page.specs.inner.Parts.{AreBody, AreSmall, AreSoMany}
use Rattle.ub_journal_page.proofs.NumberFacts.{numbers_back}
use Rattle.ub_journal_page.proofs.PackedFacts.{length_changes, length_cut, packed_back, sound_of}
use Rattle.ub_journal_page.proofs.PageFacts.{few_changes, length_number_pages}
use Rattle.ub_journal_page.proofs.WholeFacts.{listed_back}

small_of : (above count : ℕ) (numbers : List ℕ) → count < 2 ^ 32 → AreAscending above count numbers → AreSmall numbers
small_of above count [] few are = tt
small_of above count (n ∷ numbers) few are = (let less = are.1 in omega arith, small_of n count numbers few are.2)

-- a journal's numbers fit their bytes
pub small_numbers : (j : Journal) → IsJournal j → AreSmall (numbers_of j.changes)
small_numbers j is = small_of 0 j.count (numbers_of j.changes) is.few is.ascending

-- what a head tells is what it was spelled of
pub head_back : (page : List ℕ) (version count changes : ℕ) → version < 2 ^ 32 → count < 2 ^ 32 → changes < 2 ^ 32 → page ≡ number_page (head_of version count changes)
    → (number_at 4 page ≡ version) × (number_at 8 page ≡ count) × (number_at 12 page ≡ changes)
head_back page version count changes known few less is =
    let four = numbers_back (head_of version count changes) page 4 refl (omega arith, (known, (few, (less, tt)))) is in
    (ap (λ (ns : List ℕ). get_or ns 1 0) four, ap (λ (ns : List ℕ). get_or ns 2 0) four, ap (λ (ns : List ℕ). get_or ns 3 0) four)

pub heads_agree : (v count changes w other more : ℕ) → v < 2 ^ 32 → count < 2 ^ 32 → changes < 2 ^ 32 → w < 2 ^ 32 → other < 2 ^ 32 → more < 2 ^ 32
    → number_page (head_of v count changes) ≡ number_page (head_of w other more) → (v ≡ w) × (count ≡ other) × (changes ≡ more)
heads_agree v count changes w other more known few less known_other few_other less_more is =
    let a = head_back (number_page (head_of v count changes)) v count changes known few less refl in
    let b = head_back (number_page (head_of v count changes)) w other more known_other few_other less_more is in
    (sym a.0 ∙ b.0, sym a.1 ∙ b.1, sym a.2 ∙ b.2)

-- a page that was read of one store stands in another one with the same facts
pub there_on : (a b : StoreFacts) (n : ℕ) (page : List ℕ) → a ≡ b → IsPage a n page → IsHonest b → slice_get b.pages n ≡ Some page
there_on a b n page same is = subst (λ (f : StoreFacts). IsHonest f → slice_get f.pages n ≡ Some page) same is

-- what pages are that spell a journal, in whichever version
pub record IsSpelled (pages : List (List ℕ)) (j : Journal) : Type 0 where
  pub version : ℕ
  pub known : version < 2 ^ 32
  pub journal : IsJournal j
  pub are : pages ≡ number_page (head_of version j.count (length j.changes)) ∷ j.before ∷ j.head ∷ drop 3 pages
  pub bears : BearsOut (length pages) version (length j.changes)
  pub body : AreBody version pages j.changes

-- a journal's changes are so many
pub so_many : (j : Journal) → IsJournal j → AreSoMany (length j.changes) j.changes
so_many j is = record { count = refl; small = small_numbers j is }

pub spelled : (pages : List (List ℕ)) (j : Journal) → Spells pages j → IsSpelled pages j
spelled pages j (is, inl packed) =
    let bytes : List ℕ = changes_bytes j.changes in
    let rest : drop 3 pages ≡ byte_pages bytes = ap (drop 3) packed.0 in
    let much = length_cut (byte_parts (length bytes)) (bytes ++ replicate 4096 0) in
    let all = ap length packed.0 in
    record {
      version = 2;
      known = omega arith;
      journal = is;
      are = packed.0 ∙ ap (λ (ps : List (List ℕ)). number_page (head_of 2 j.count (length j.changes)) ∷ j.before ∷ j.head ∷ ps) (sym rest);
      bears = inr (refl, omega (arith, all, much, length_changes j.changes packed.1));
      body = inr (refl, (packed.1, rest));
    }
spelled pages j (is, inr whole) =
    let rest : drop 3 pages ≡ listed j.changes = ap (drop 3) whole in
    let all = ap length whole in
    let counted = length_number_pages (parts_of (length j.changes)) (numbers_of j.changes) in
    let long = length-append (number_pages (parts_of (length j.changes)) (numbers_of j.changes)) (pages_in j.changes) in
    record {
      version = 1;
      known = omega arith;
      journal = is;
      are = whole ∙ ap (λ (ps : List (List ℕ)). number_page (head_of 1 j.count (length j.changes)) ∷ j.before ∷ j.head ∷ ps) (sym rest);
      bears = inl (refl, omega (arith, all, long, counted, length-map j.changes (λ (c : Change). c.page)));
      body = inl (refl, rest);
    }

-- the first page of a journal is its head
pub first_is : (j : Journal) (pages : List (List ℕ)) (page : List ℕ) (s : IsSpelled pages j) → slice_get pages 0 ≡ Some page → page ≡ number_page (head_of s.version j.count (length j.changes))
first_is j pages page s there = let both = sym there ∙ ap (λ (ps : List (List ℕ)). slice_get ps 0) s.are in cc

-- the version of a head that is borne out fits four bytes
pub bears_known : (total version changes : ℕ) → BearsOut total version changes → version < 2 ^ 32
bears_known total version changes (inl one) = let is = one.0 in omega arith
bears_known total version changes (inr two) = let is = two.0 in omega arith

-- what the head tells is so of each journal that the pages spell
pub head_same : (j : Journal) (pages : List (List ℕ)) (version count changes : ℕ) → IsHead version count changes pages → BearsOut (length pages) version changes → changes < 2 ^ 32
    → (s : IsSpelled pages j) → (version ≡ s.version) × (count ≡ j.count) × (changes ≡ length j.changes)
head_same j pages version count changes head bears less s =
    heads_agree version count changes s.version j.count (length j.changes) (bears_known (length pages) version changes bears) head.few less
    s.known s.journal.few (few_changes j s.journal) (first_is j pages (number_page (head_of version count changes)) s head.first)

-- the same pages are those of no two lists of changes, in whichever version
pub body_back : (version : ℕ) (pages : List (List ℕ)) (changes : ℕ) (cs ds : List Change) → AreSoMany changes cs → AreSoMany changes ds → AreBody version pages cs → AreBody version pages ds → cs ≡ ds
body_back version pages changes cs ds many_c many_d (inl a) (inl b) = listed_back pages changes cs ds many_c many_d a.1 b.1
body_back version pages changes cs ds many_c many_d (inr a) (inr b) = packed_back pages changes cs ds many_c.count (sound_of cs many_c.small a.1.0) many_d a.1 b.1
body_back version pages changes cs ds many_c many_d (inl a) (inr b) = absurd (let one = a.0 in let two = b.0 in omega arith)
body_back version pages changes cs ds many_c many_d (inr a) (inl b) = absurd (let one = b.0 in let two = a.0 in omega arith)

conses : {X : Type 0} {a b c p q s : X} {r t : List X} → a ≡ p → b ≡ q → c ≡ s → r ≡ t → a ∷ b ∷ c ∷ r ≡ p ∷ q ∷ s ∷ t
conses e f g h = rw (e, f, g, h) refl

with_body : (version : ℕ) (pages : List (List ℕ)) (j : Journal) → IsJournal j → pages ≡ number_page (head_of version j.count (length j.changes)) ∷ j.before ∷ j.head ∷ drop 3 pages
    → AreBody version pages j.changes → Spells pages j
with_body version pages j is are (inl one) =
    (is, inr (are ∙ conses (ap (λ (v : ℕ). number_page (head_of v j.count (length j.changes))) one.0) refl refl one.1))
with_body version pages j is are (inr two) =
    (is, inl (are ∙ conses (ap (λ (v : ℕ). number_page (head_of v j.count (length j.changes))) two.0) refl refl two.1.1, two.1.0))

front_of : (pages : List (List ℕ)) (a b c : List ℕ) → slice_get pages 0 ≡ Some a → slice_get pages 1 ≡ Some b → slice_get pages 2 ≡ Some c → pages ≡ a ∷ b ∷ c ∷ drop 3 pages
front_of [] a b c zero one two = absurd (let wrong = zero in cc)
front_of (p ∷ []) a b c zero one two = absurd (let wrong = one in cc)
front_of (p ∷ q ∷ []) a b c zero one two = absurd (let wrong = two in cc)
front_of (p ∷ q ∷ r ∷ pages) a b c zero one two =
    let is_a : p ≡ a = cc in
    let is_b : q ≡ b = cc in
    let is_c : r ≡ c = cc in
    conses is_a is_b is_c refl

-- what was read part by part is what the pages spell
pub assembled : (pages : List (List ℕ)) (version count changes : ℕ) (before head : List ℕ) (cs : List Change) → IsHead version count changes pages
    → slice_get pages 1 ≡ Some before → slice_get pages 2 ≡ Some head → length cs ≡ changes → AreBody version pages cs
    → IsJournal (record { before = before; head = head; count = count; changes = cs }) → Spells pages (record { before = before; head = head; count = count; changes = cs })
assembled pages version count changes before head cs first one two many body is =
    with_body version pages (record { before = before; head = head; count = count; changes = cs }) is
    (front_of pages (number_page (head_of version count changes)) before head first.first one two
    ∙ conses (ap (λ (n : ℕ). number_page (head_of version count n)) (sym many)) refl refl refl)
    body

-- a journal with the count and the changes of one is one
pub same_journal : (j : Journal) (before head : List ℕ) (count : ℕ) (cs : List Change) → IsJournal j → count ≡ j.count → cs ≡ j.changes → IsJournal (record { before = before; head = head; count = count; changes = cs })
same_journal j before head count cs is same are =
    let some = is.some in let few = is.few in
    record { some = omega arith; few = omega arith; ascending = rw (same, are) is.ascending }
