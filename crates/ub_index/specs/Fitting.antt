-- Whether a page of an index is taken where an entry names it, and why it is refused.
use Rattle.std.specs.Prelude.{◌≡◌, ◌≢◌, ◌≤◌, ◌-◌, ◌⊎◌, ◌++◌, ℕ, List, [], ◌∷◌, Option, Some, None, IfSome, length, slice_get}
use Rattle.ub_index.specs.Index.{first_or, page_in, Fits, IsIndexPage}
use Rattle.ub_page.specs.Index.{head_on, node_on, HasHead, IsHeadFault, IsIndexFault, IsIndexKind}
use Rattle.ub_page.specs.Slots.{first_in}
use Rattle.ub_region.specs.declared.entry.Entry.{Entry}
use Rattle.ub_table.specs.Keys.{IsBefore}
use Rattle.ub_table.specs.declared.fault.PageFault.TheVariants.{BadCount, OutOfRegion}
use Rattle.ub_table.specs.declared.fault.PageFault.{PageFault}
use Rattle.ub_table.specs.declared.row.Key.{Key}

-- why a page is refused, the first reason first: its reader's; another level; or it doesn't begin with the entry's key, or doesn't end before the end
abbrev pub IsUnfit : ℕ → List ℕ → ℕ → Entry → Option Key → PageFault → Type 0
IsUnfit last page level entry end BadCount = IsIndexFault last page BadCount ⊎ (IsIndexPage last page × ((node_on page).level ≢ level))
IsUnfit last page level entry end OutOfRegion = IsIndexPage last page × ((node_on page).level ≡ level) × (¬ (Fits last page level entry end))
IsUnfit last page level entry end fault = IsIndexFault last page fault

-- the page fits an entry as far as its head, its first entry and its last one tell
pub record FitsAtEnds (page : List ℕ) (level : ℕ) (entry : Entry) (end : Option Key) : Type 0 where
  pub kind : IsIndexKind page
  pub head : HasHead page
  pub level_is : (node_on page).level ≡ level
  pub begins : first_in 0 page ≡ entry.first
  pub ends : IfSome end (IsBefore (first_in ((head_on page).count - 1) page))

-- why it is refused for these, the first reason first: as above, with its head's refusals in the place of its reader's
abbrev pub IsUnfitAtEnds : List ℕ → ℕ → Entry → Option Key → PageFault → Type 0
IsUnfitAtEnds page level entry end BadCount = IsHeadFault page BadCount ⊎ (IsIndexKind page × HasHead page × ((node_on page).level ≢ level))
IsUnfitAtEnds page level entry end OutOfRegion =
    IsIndexKind page × HasHead page × ((node_on page).level ≡ level) × (¬ (FitsAtEnds page level entry end))
IsUnfitAtEnds page level entry end fault = IsHeadFault page fault

-- why the page that an entry of this level names can't be taken: there is none; or it is refused so
abbrev pub IsNotTaken : ℕ → List (List ℕ) → ℕ → Entry → Option Key → Option PageFault → Type 0
IsNotTaken last pages level entry end None = length pages ≤ entry.page
IsNotTaken last pages level entry end (Some fault) =
    (slice_get pages entry.page ≡ Some (page_in pages entry.page)) × IsUnfit last (page_in pages entry.page) level entry end fault

-- of entries that end before `end`, a key falls to the last that doesn't begin after it, or else to the first; the next one begins at `next`
pub record FallsTo (key : Key) (entries : List Entry) (end : Option Key) (below : Entry) (next : Option Key) : Type 0 where
  pub before : List Entry
  pub after : List Entry
  pub parts : entries ≡ before ++ below ∷ after
  pub next_is : next ≡ first_or after end
  pub from : (before ≡ []) ⊎ (¬ (IsBefore key below.first))
  pub to : IfSome (first_or after None) (IsBefore key)
