-- How full the pages of a tree's index are, where the page of a region was put.
use Rattle.std.proofs.Common.{rules, ◌∙◌, ℕ, [], ◌∷◌, Result, ap, sym, subst}
use Rattle.ub_tree.proofs.Common.{AllByRecursion, each_get, IndexView, IsFilled, IsOutside, IsRegionIn, IsStored, KeepsGrown, own_apart, pages_of_index, Region}
use Rattle.ub_tree.proofs.Common.{stands_filled, TreeFault, TreeView, Writes}
use Rattle.ub_tree.proofs.CallFacts.{stored_on}
use Rattle.ub_tree.proofs.IndexedFacts.{reached_once}
use Rattle.ub_tree.proofs.PutFacts.{page_at}
use Rattle.ub_tree.proofs.SplitFacts.{pages_by}

-- neither the first page nor that of a span is one of the index
page_apart : (t : TreeView) (i : ℕ) (span : Region) → IsStored t → IsRegionIn t i span → AllByRecursion (λ n. IsOutside n (pages_of_index t.inner.index t.store)) (0 ∷ span.page ∷ [])
page_apart t i span h k = search (rules, each_get, own_apart, page_at, pages_by)

-- where only the page of a region is written, and the first, the pages of the index are as full as before
pub writes_grown : {A : Type 0} (old new : TreeView) (i : ℕ) (span : Region) (r : Result A TreeFault) → IsStored old → IsRegionIn old i span → Writes span old new r → KeepsGrown old new
writes_grown old new i span r stored at writes was =
    subst (λ (x : IndexView). IsFilled x new.store.pages) (sym (ap (λ (v : TreeView). v.inner.index) writes.frame))
    (stands_filled old.inner.index old.store new.store (0 ∷ span.page ∷ []) (stored_on old stored) (reached_once old.inner.index old.store _ stored.placed_are.own)
    (ap (λ (v : TreeView). v.store.honest) writes.frame ∙ stored.honest) (λ m lt out. writes.kept.kept stored.honest m out lt) (page_apart old i span stored at) was)
