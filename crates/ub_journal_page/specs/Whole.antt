-- A journal of version 1 as pages: each page that changes stands there whole.
use Rattle.std.specs.Prelude.{◌+◌, ◌/◌, ◌++◌, ℕ, zero, suc, List, [], ◌∷◌, length, map, take, drop}
use Rattle.ub_journal.specs.Image.{Journal, numbers_of}
use Rattle.ub_journal.specs.declared.journal.Change.{Change}
use Rattle.ub_journal_page.specs.Pages.{head_of, number_page}

-- numbers on so many pages, 1024 on each but the last
abbrev pub number_pages : ℕ → List ℕ → List (List ℕ)
number_pages zero numbers = []
number_pages (suc n) numbers = number_page (take 1024 numbers) ∷ number_pages n (drop 1024 numbers)

-- on how many pages so many numbers stand
abbrev pub parts_of : ℕ → ℕ
parts_of numbers = (numbers + 1023) / 1024

-- how many pages a journal of so many changes has
abbrev pub total_of : ℕ → ℕ
total_of changes = 3 + (parts_of changes + changes)

-- the pages that change
abbrev pub pages_in : List Change → List (List ℕ)
pages_in changes = map (λ change. change.page) changes

-- the numbers of the pages that change, and these pages
abbrev pub listed : List Change → List (List ℕ)
listed changes =
    number_pages (parts_of (length changes)) (numbers_of changes) ++ pages_in changes

-- the one spelling of version 1: the head, the table's first page from before, the one that it is to have, the numbers of the other
-- pages that change, and these pages
abbrev pub whole_pages_of : Journal → List (List ℕ)
whole_pages_of j =
    number_page (head_of 1 j.count (length j.changes)) ∷ j.before ∷ j.head ∷ listed j.changes
