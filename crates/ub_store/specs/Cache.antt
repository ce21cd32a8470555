-- What a cache of pages holds.
use Rattle.std.specs.Prelude.{◌≡◌, ◌≢◌, ◌<◌, ◌⊎◌, List, ◌∷◌, ℕ, Option, Some, None, Box, cond, map, nat_eq}
use Rattle.std.specs.Map.{lookup}
use Rattle.std.specs.declared.alloc.Global.{Global}
use Rattle.ub_store.specs.declared.cache.Passing.{Passing}
use Rattle.ub_store.specs.Facts.{StoreFacts, page_count, IsPage}

-- the pages that stand in boxes, each with its number
abbrev pub pages_of : List (ℕ × Box (List ℕ) Global) → List (ℕ × List ℕ)
pages_of entries = map (λ entry. (entry.0, entry.1.value)) entries

-- the page that is held under this number
abbrev pub page_at : List (ℕ × List ℕ) → ℕ → Option (List ℕ)
page_at pages n = lookup (nat_eq n) pages

-- the pages that are kept, and before them the one that passes, if one does
abbrev pub with_passing : Option Passing → List (ℕ × List ℕ) → List (ℕ × List ℕ)
with_passing None kept = kept
with_passing (Some passing) kept = (passing.number, passing.page.value) ∷ kept

-- the page that passes, where it has this number
abbrev pub passing_page : Option Passing → ℕ → Option (List ℕ)
passing_page None n = None
passing_page (Some passing) n = cond (nat_eq n passing.number) (Some passing.page.value) None

-- the page that passes, if one does, isn't among those that are kept
abbrev pub IsApart : Option Passing → List (ℕ × List ℕ) → Type 0
IsApart None kept = Unit {0}
IsApart (Some passing) kept = page_at kept passing.number ≡ None

-- under each number but this one the same is held
abbrev pub SameBut : ℕ → List (ℕ × List ℕ) → List (ℕ × List ℕ) → Type 0
SameBut n old new = (m : ℕ) → m ≢ n → page_at new m ≡ page_at old m

-- under each number but this one no page is held that wasn't
abbrev pub NoneMoreBut : ℕ → List (ℕ × List ℕ) → List (ℕ × List ℕ) → Type 0
NoneMoreBut n old new = (m : ℕ) (page : List ℕ) → m ≢ n → page_at new m ≡ Some page → page_at old m ≡ Some page

-- under no number a page is held that wasn't
abbrev pub NoneMore : List (ℕ × List ℕ) → List (ℕ × List ℕ) → Type 0
NoneMore old new = (m : ℕ) (page : List ℕ) → page_at new m ≡ Some page → page_at old m ≡ Some page

-- each page that is held was held so before, or stands in the place of one that was, and has the property
abbrev pub Renews : (List ℕ → Type 0) → List (ℕ × List ℕ) → List (ℕ × List ℕ) → Type 0
Renews P old new = (m : ℕ) (page : List ℕ) → page_at new m ≡ Some page → (was : List ℕ) × (page_at old m ≡ Some was) × ((page ≡ was) ⊎ P page)

-- each page that is held is one of the store, and of an honest store the one of its number
abbrev pub IsCacheOf : StoreFacts → List (ℕ × List ℕ) → Type 0
IsCacheOf facts pages = (n : ℕ) (page : List ℕ) → page_at pages n ≡ Some page
    → (n < page_count facts) × IsPage facts n page
