-- The pages that a tree's pager holds stay checked.
use Rattle.std.specs.Prelude.{Contains}
use Rattle.std.proofs.Common.{rules, ◌≡◌, ◌∙◌, ◌⊎◌, ℕ, List, Some, sym, refl, arith}
use Rattle.ub_tree.proofs.Common.{AllByRecursion, common_steps, Header, header_page, IndexView, IsHonest, IsIndexKind, IsPutPage, IsTree, KeepsChecked, Mark}
use Rattle.ub_tree.proofs.Common.{NoneMoreBut, number_at, number_bytes, page_at, page_of, PagerView, Schema, Written}
use Rattle.ub_store.specs.Cache.{Renews}

-- what is true of a tree's parts stays so where its pages stay checked, and the mark is the same, or written
module _ (schema : Schema) (index : IndexView) (count next rows : ℕ) (mark : Mark) (old new : PagerView) (is : IsTree schema index count next rows mark old) (kept : KeepsChecked index.last old new) where
  pub tree_kept : IsTree schema index count next rows mark new
  tree_kept = search rules

  pub tree_written : (now : Mark) → (now ≡ mark) ⊎ (now ≡ Written) → IsTree schema index count next rows now new
  tree_written now h = search rules

-- where a page was brought that doesn't begin as one of an index
module _ (last n : ℕ) (old mid : PagerView) (reads : ℕ) (same : mid.store ≡ record old.store { failed_reads = reads }) (others : NoneMoreBut n old.cached mid.cached) where
  pub kind_checked : (page : List ℕ) → page_at mid.cached n ≡ Some page → ¬ (IsIndexKind page) → KeepsChecked last old mid
  kind_checked page h k = search rules

-- the page of a header doesn't begin as one of an index
header_first : (header : Header) → number_at 1 0 (header_page header) ≡ 0x55
unfolding number_at number_bytes page_of
header_first header = refl

pub header_no_kind : (header : Header) → ¬ (IsIndexKind (header_page header))
header_no_kind header other = let e = sym (header_first header) ∙ other in absurd (omega arith)

-- where pages are put that are none of an index
all_of : (P : List ℕ → Type 0) (pages : List (List ℕ)) (page : List ℕ) → AllByRecursion P pages → Contains pages page → P page
all_of P pages page h k = grind (arith, common_steps)

pub written_checked : (last : ℕ) (pages : List (List ℕ)) (old new : PagerView) → (IsHonest new.store → IsHonest old.store) → AllByRecursion (λ page. ¬ (IsIndexKind page)) pages
    → Renews (IsPutPage pages) old.cached new.cached → KeepsChecked last old new
written_checked last pages old new h k j = grind (arith, common_steps, all_of, header_no_kind)
