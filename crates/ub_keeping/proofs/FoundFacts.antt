-- What is found at a place.
use Rattle.std.proofs.Common.{◌≡◌, ◌<◌, ◌≤◌, length, ◌∙◌, ℕ, List, Some, ap, inl, inr, sym, subst}
use Rattle.ub_journal.specs.Image.{ChangesOthers, Finds, Fits, Image, Journal, Stands, applied}
use Rattle.ub_journal.specs.Place.{Heals, IsHonest, IsLeft, LeavesOnly, PlaceFacts}
use Rattle.ub_journal.proofs.Applied.{length_applied}
use Rattle.ub_journal.proofs.Moments.{joined}
use Rattle.ub_keeping.specs.Calm.{IsCalm}
use Rattle.ub_keeping.specs.Found.{IsItsJournal, IsUnsized, MayFinish, StandsForFound}

-- what stands for the pages that a journal makes of its table stands for what is found there
pub stands_found : (old image : Image) (j : Journal) → IsItsJournal old j → Stands image (applied j old.table) 0 → StandsForFound old image
stands_found old image j is stands pages after finds = elim finds [
  | inl some ↦
      let both : Some some.0 ≡ Some j = sym some.1 ∙ is.0 in
      let same : some.0 ≡ j = cc in
      subst (λ (n : ℕ). Stands image pages n) (sym some.4) (subst (λ (p : List (List ℕ)). Stands image p 0) (sym (some.3 ∙ ap (λ (k : Journal). applied k old.table) same)) stands)
  | inr none ↦ absurd (none.0 j is.0 is.1)
]

-- what a crash leaves while a journal is finished
pub heals_finish : (j : Journal) (old : PlaceFacts) → IsLeft j old → (image : Image) → Heals j old image → MayFinish old image
heals_finish j old left image heals = elim heals [
  | inl was ↦ inl was
  | inr new ↦ inr (stands_found old.seen image j (left.journal, left.fits) new.0)
]

-- a look before that changes nothing of it
pub finish_after : (a b : PlaceFacts) → IsHonest a → IsCalm a b → (image : Image) → MayFinish b image → MayFinish a image
finish_after a b honest calm image may = elim may [
  | inl was ↦ inl (calm.quiet.leaves honest image was)
  | inr new ↦ inr (subst (λ (i : Image). StandsForFound i image) (calm.seen honest) new)
]

pub finish_joined : (a b c : PlaceFacts) → IsHonest a → IsCalm a b → LeavesOnly (MayFinish b) b c → LeavesOnly (MayFinish a) a c
finish_joined a b c honest calm run = joined (calm.quiet.any_moment honest) run (λ i is. inl is) (finish_after a b honest calm)

-- the journal of the table is still there after a look
pub left_after : (j : Journal) (a b : PlaceFacts) → b.seen ≡ a.seen → a.seen.journal ≡ Some j → Fits j a.seen.table a.seen.rest → ChangesOthers j → IsLeft j b
left_after j a b same beside fits others = record {
  journal = ap (λ (i : Image). i.journal) same ∙ beside;
  fits = subst (λ (i : Image). Fits j i.table i.rest) (sym same) fits;
  others = others;
}

-- one thing is found
pub finds_one : (image : Image) (p q : List (List ℕ)) (a b : ℕ) → Finds image p a → Finds image q b → (p ≡ q) × (a ≡ b)
finds_one image p q a b one two = elim one [
  | inl here ↦ elim two [
    | inl there ↦
        let both : Some here.0 ≡ Some there.0 = sym here.1 ∙ there.1 in
        let same : here.0 ≡ there.0 = cc in
        (here.3 ∙ ap (λ (k : Journal). applied k image.table) same ∙ sym there.3, here.4 ∙ sym there.4)
    | inr none ↦ absurd (none.0 here.0 here.1 here.2)
  ]
  | inr none ↦ elim two [
    | inl there ↦ absurd (none.0 there.0 there.1 there.2)
    | inr also ↦ (none.1 ∙ sym also.1, none.2 ∙ sym also.2)
  ]
]

-- what is found has too many pages
pub unsized_pages : (image : Image) (table : List (List ℕ)) (rest : ℕ) → Finds image table rest → 4294967295 < length table → IsUnsized image
unsized_pages image table rest found many = inr (λ pages after finds.
    inr (subst (λ (p : List (List ℕ)). 4294967295 < length p) (finds_one image table pages rest after found finds).0 many))

-- where there is a page, one is found
pub found_some : (image : Image) (pages : List (List ℕ)) (after : ℕ) → Finds image pages after → 1 ≤ length image.table → 1 ≤ length pages
found_some image pages after finds some = elim finds [
  | inl here ↦
      let long = length_applied here.0 image.table in
      subst (λ (p : List (List ℕ)). 1 ≤ length p) (sym here.3) (subst (λ (n : ℕ). 1 ≤ n) (sym long) here.2.some.0)
  | inr none ↦ subst (λ (p : List (List ℕ)). 1 ≤ length p) (sym none.1) some
]

-- what stands for what is there once a journal is finished stands for what was found
pub stands_after : (old image : Image) (table : List (List ℕ)) (rest : ℕ) → Finds old table rest → Stands image table rest → StandsForFound old image
stands_after old image table rest found stands pages after finds =
    let same = finds_one old table pages rest after found finds in
    subst (λ (n : ℕ). Stands image pages n) same.1 (subst (λ (p : List (List ℕ)). Stands image p rest) same.0 stands)
