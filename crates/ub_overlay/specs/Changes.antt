-- Changed pages by their numbers, in ascending order.
use Rattle.std.specs.Prelude.{◌<◌, ◌+◌, ℕ, List, [], ◌∷◌, Option, Some, None, Box, map, nat_eq, cond}
use Rattle.std.specs.Ordering.{match_ordering, nat_cmp}
use Rattle.std.specs.declared.alloc.Global.{Global}
use Rattle.ub_journal.specs.declared.journal.Change.{Change}

-- this page, to stand at this number
abbrev pub change : ℕ → List ℕ → Change
change n page = record { number = n; page = page }

-- the pages that stand in boxes under their numbers
abbrev pub changes_of : List (ℕ × Box (List ℕ) Global) → List Change
changes_of entries = map (λ entry. change entry.0 entry.1.value) entries

-- of slots for the numbers from this one on, the pages that are there, each with its number
abbrev pub held_from : ℕ → List (Option (Box (List ℕ) Global)) → List Change
held_from n [] = []
held_from n (None ∷ slots) = held_from (n + 1) slots
held_from n (Some page ∷ slots) = change n page.value ∷ held_from (n + 1) slots

-- the page of this number among the changes
abbrev pub changed_page : List Change → ℕ → Option (List ℕ)
changed_page [] n = None
changed_page (c ∷ cs) n = cond (nat_eq n c.number) (Some c.page) (changed_page cs n)

-- the changes with this one: in the place of the one of its number, or before the first of a greater number
abbrev pub put_change : Change → List Change → List Change
put_change c [] = c ∷ []
put_change c (d ∷ ds) = match_ordering (nat_cmp c.number d.number) (c ∷ d ∷ ds) (c ∷ ds) (d ∷ put_change c ds)

-- the changes with these, one after the other
abbrev pub put_each : List Change → List Change → List Change
put_each [] cs = cs
put_each (d ∷ ds) cs = put_each ds (put_change (change d.number d.page) cs)

-- each change is of a page with a number above this one
abbrev pub AreAbove : ℕ → List Change → Type 0
AreAbove n [] = Unit {0}
AreAbove n (c ∷ cs) = (n < c.number) × AreAbove n cs

-- each change is of a page with a number below this one
abbrev pub AreBelow : ℕ → List Change → Type 0
AreBelow n [] = Unit {0}
AreBelow n (c ∷ cs) = (c.number < n) × AreBelow n cs

-- the numbers ascend, and none stands twice
abbrev pub Ascend : List Change → Type 0
Ascend [] = Unit {0}
Ascend (c ∷ cs) = AreAbove c.number cs × Ascend cs
