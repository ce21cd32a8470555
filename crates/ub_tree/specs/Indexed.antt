-- What the contracts of a tree see of its index, and crates above the tree do not: where it stands in the store.
use Rattle.std.specs.Prelude.{◌≡◌, ◌≤◌, ℕ, List, ◌∷◌, None}
use Rattle.ub_index.specs.Index.{IsUnder, pages_under, top}
use Rattle.ub_index.specs.View.{IndexView, entries_under}
use Rattle.ub_region.specs.declared.entry.Entry.{Entry}

-- where the root of the index stands, and of which level it is; and how many regions the tree counts
pub record Inner : Type 0 where
  pub index : IndexView
  pub count : ℕ

-- the pages that hold no region: the first, and those of the index
abbrev pub reserved : IndexView → List (List ℕ) → List ℕ
reserved index pages = 0 ∷ pages_under pages index.levels (top index.root)

-- on these pages an index stands, which tells these entries
pub record HasIndex (index : IndexView) (pages : List (List ℕ)) (entries : List Entry) : Type 0 where
  pub some : 1 ≤ index.levels
  pub under_it : IsUnder index.last pages index.levels (top index.root) None
  pub entries_are : entries_under index pages ≡ entries
