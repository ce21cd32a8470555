-- What stands in a store once a table is closed, and where that is refused.
use Rattle.std.specs.Prelude.{◌≡◌, ◌≢◌, ◌⊎◌, ℕ, [], ◌∷◌, Some, false, IsTrue, slice_get}
use Rattle.ub_store.specs.Writing.{KeepsFirst, SameBut}
use Rattle.ub_page.specs.Header.{IsHeader, header_page}
use Rattle.ub_page.specs.declared.header.Header.{Header}
use Rattle.ub_store.specs.Facts.{StoreFacts, page_count}
use Rattle.ub_store.specs.declared.fault.StoreFault.{StoreFault}
use Rattle.ub_store.specs.declared.fault.StoreFault.TheVariants.{Device, NoPage}

-- each page but the first is as it was
abbrev pub KeepsRest : StoreFacts → StoreFacts → Type 0
KeepsRest old new = (m : ℕ) → m ≢ 0 → slice_get new.pages m ≡ slice_get old.pages m

-- this header stands in the store, which is clean, and each other page is as it was
pub record IsClosed (header : Header) (old new : StoreFacts) : Type 0 where
  pub spelled : slice_get new.pages 0 ≡ Some (header_page header)
  pub in_range : IsHeader header
  pub clean : header.unclean ≡ false
  pub kept : KeepsRest old new

-- no call of the store failed; all pages last, and there are as many as before
pub record IsSaved (old new : StoreFacts) : Type 0 where
  pub same : new ≡ record old { pages = new.pages; synced = new.synced }
  pub synced : new.synced ≡ new.pages
  pub count : page_count new ≡ page_count old

-- a closing that was refused leaves each page but the first as it was; and the first too, of the pages and of those that last,
-- unless all others last
pub record IsUnclosed (old new : StoreFacts) : Type 0 where
  pub kept : KeepsRest old new
  pub header : ((slice_get new.pages 0 ≡ slice_get old.pages 0) × KeepsFirst old new) ⊎ SameBut (0 ∷ []) old.pages new.synced

-- why a header isn't written: the store failed, which it then can; or it has no page
abbrev pub IsSaveFault : StoreFacts → StoreFault → Type 0
IsSaveFault old Device = IsTrue old.can_fail
IsSaveFault old NoPage = page_count old ≡ 0
IsSaveFault old _ = ⊥
