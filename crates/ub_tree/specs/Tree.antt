-- A tree's parts, as contracts see them together.
use Rattle.std.specs.Prelude.{◌+◌, ◌≡◌, ◌≤◌, ◌<◌, ◌^◌, ℕ, Bool, if◌then◌else◌, List, []}
use Rattle.ub_tree.specs.Common.{AreChecked, entries_under, IndexView, IsMarkOf, last_address, MAX_ROW_NUMBER, PagerView, Placed, placed_of, Schema}
use Rattle.ub_tree.specs.Common.{StoreFacts, TreeView}
use Rattle.ub_writing.specs.declared.mark.Mark.{Mark}

-- the pages of an honest store; of another one nothing is known
abbrev pub known_pages : StoreFacts → List (List ℕ)
known_pages facts = if facts.honest then facts.pages else []

-- the regions that an index tells on the pages of a store, each with the rows of its page
abbrev pub placed_in : Schema → IndexView → StoreFacts → List Placed
placed_in schema index store = placed_of schema (known_pages store) (entries_under index (known_pages store))

abbrev pub tree_view : Schema → IndexView → ℕ → ℕ → ℕ → Bool → Bool → PagerView → TreeView
tree_view schema index count next rows is_changed is_failed pager = record {
  schema = schema;
  placed = placed_in schema index pager.store;
  rows = rows;
  next = next;
  is_changed = is_changed;
  is_failed = is_failed;
  store = pager.store;
  trace = pager.trace;
  inner = record { index = index; count = count };
}

-- what is true of any tree's parts: its counts are such as a header can tell, and over an honest store the pages that its pager holds are checked
pub record IsTree (schema : Schema) (index : IndexView) (count next rows : ℕ) (mark : Mark) (pager : PagerView) : Type 0 where
  pub last_is : index.last ≡ last_address schema.dims
  pub some : 1 ≤ count
  pub few : count < 2 ^ 32
  pub fewer : rows < next
  pub last_next : next ≤ MAX_ROW_NUMBER + 1
  pub mark_is : IsMarkOf schema mark
  pub checked : AreChecked index.last pager
