-- Which pages a call puts.
use Rattle.std.specs.Prelude.{◌≡◌, ◌≢◌, ◌<◌, ◌⊎◌, ℕ, List, Some, Contains, slice_get}
use Rattle.ub_page.specs.Header.{IsHeader, header_page}
use Rattle.ub_page.specs.declared.header.Header.{Header}
use Rattle.ub_store.specs.Facts.{StoreFacts, IsHonest, page_count}

-- one of these pages, or one that spells a header
abbrev pub IsPutPage : List (List ℕ) → List ℕ → Type 0
IsPutPage pages page = Contains pages page ⊎ ((header : Header) × IsHeader header × (page ≡ header_page header))

-- this page stands at the number now, and the others but the first are as they were
pub record Puts (n : ℕ) (page : List ℕ) (old new : StoreFacts) : Type 0 where
  pub there : n < page_count old
  pub count : page_count new ≡ page_count old
  pub written : IsHonest old → slice_get new.pages n ≡ Some page
  pub others : IsHonest old → (m : ℕ) → m ≢ 0 → m ≢ n → slice_get new.pages m ≡ slice_get old.pages m

-- these pages stand at the numbers now, where the numbers differ, and the others but the first are as they were
pub record PutsTwo (n : ℕ) (page : List ℕ) (m : ℕ) (other : List ℕ) (old new : StoreFacts) : Type 0 where
  pub count : page_count new ≡ page_count old
  pub written : IsHonest old → n ≢ 0 → n ≢ m → slice_get new.pages n ≡ Some page
  pub written_other : IsHonest old → slice_get new.pages m ≡ Some other
  pub others : IsHonest old → (k : ℕ) → k ≢ 0 → k ≢ n → k ≢ m → slice_get new.pages k ≡ slice_get old.pages k
