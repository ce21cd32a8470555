-- What is read of a region of a sound tree.
use Rattle.std.proofs.Common.{◌≡◌, ◌∙◌, ℕ, Bool, List, Some, sym, ap, subst, refl, slice_get}
use Rattle.ub_tree.proofs.Common.{ArePlaced, Contains, entries_under, Entry, entry_at, IndexView, IsHonest, IsRegionIn, IsSound, known_pages, PagerView, Placed}
use Rattle.ub_tree.proofs.Common.{placed_of, Region, region_on, RegionRows, reserved, Schema, spans_of, tree_view, TreeView}
use Rattle.ub_tree.proofs.SearchFacts.{known_is}
use Rattle.ub_tree.proofs.TreeFacts.{IsKnown, entries_back, rows_read, span_known, spans_are}

module _ (schema : Schema) (index : IndexView) (count next rows : ℕ) (changed failed : Bool) (pager : PagerView) where
  abbrev tree : TreeView
  tree = tree_view schema index count next rows changed failed pager

  abbrev pages : List (List ℕ)
  pages = known_pages pager.store

  abbrev entries : List Entry
  entries = entries_under index pages

  pub tree_known : (span : Region) → IsSound tree → Contains (spans_of tree) span → (p : Placed) × IsKnown schema entries pages span p
  tree_known span sound there =
      let known = known_is pager.store sound.honest in
      let placed : ArePlaced schema (placed_of schema pages entries) (reserved index pager.store.pages) pages =
      subst (λ (ps : List (List ℕ)). ArePlaced schema (placed_of schema pages entries) (reserved index pager.store.pages) ps) (sym known) sound.placed_are in
      let spans = spans_are schema pages entries index.last sound.last_is in
      span_known schema entries pages next index.last (reserved index pager.store.pages) span sound.regions_are placed (rw (← spans) at there)

  -- the rows that the page of a span tells are those of its region
  pub rows_there : (i : ℕ) (span : Region) (page : List ℕ) (region : RegionRows) (p : Placed) → IsHonest pager.store → IsRegionIn tree i span → slice_get tree.placed i ≡ Some p
      → slice_get pager.store.pages span.page ≡ Some page → region ≡ region_on schema page → region.rows ≡ p.region.rows
  rows_there i span page region p honest at there at_page on =
      let known = known_is pager.store honest in
      let entry : slice_get entries i ≡ Some (entry_at span) = ap (λ (es : List Entry). slice_get es i) (sym (entries_back schema pages entries)) ∙ at.entry in
      rows_read schema pages entries i (entry_at span) page region.rows region p entry (ap (λ (ps : List (List ℕ)). slice_get ps span.page) known ∙ at_page) refl on there
