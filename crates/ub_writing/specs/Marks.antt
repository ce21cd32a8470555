-- The mark of a table that is being changed, and when it is put.
use Rattle.std.specs.Prelude.{◌≡◌, ◌≢◌, ◌<◌, ◌⊎◌, ℕ, Bool, true, false, List, ◌∷◌, Option, Some, None, MatchOption, slice_get}
use Rattle.std.specs.List.{AllByRecursion}
use Rattle.ub_store.specs.Writing.{KeepsBut}
use Rattle.ub_page.specs.Header.{IsHeader, header_page}
use Rattle.ub_page.specs.declared.header.Header.{Header}
use Rattle.ub_store.specs.Facts.{StoreFacts, IsHonest, page_count}
use Rattle.ub_table.specs.declared.schema.Schema.{Schema}
use Rattle.ub_writing.specs.declared.mark.Mark.{Mark}
use Rattle.ub_writing.specs.declared.mark.Mark.TheVariants.{Due, Written}

-- a header that marks a table of this schema as changed: it is unclean, and in range; its counts, and where it says that the
-- directory begins, mean nothing
pub record IsMark (schema : Schema) (header : Header) : Type 0 where
  pub in_range : IsHeader header
  pub unclean : header.unclean ≡ true
  pub schema_is : header.schema ≡ schema

-- the page spells such a header
abbrev pub IsMarkPage : Schema → List ℕ → Type 0
IsMarkPage schema page = (header : Header) × IsMark schema header × (page ≡ header_page header)

-- the first of the pages does
abbrev pub HasMark : Schema → List (List ℕ) → Type 0
HasMark schema pages = (page : List ℕ) × IsMarkPage schema page × (slice_get pages 0 ≡ Some page)

-- whether a table's mark is written; the page that is to be written first while it isn't; and that it is one of this schema
abbrev pub is_written : Mark → Bool
is_written (Due header) = false
is_written Written = true

abbrev pub first_page : Mark → Option (List ℕ)
first_page (Due header) = Some (header_page header)
first_page Written = None

abbrev pub IsMarkOf : Schema → Mark → Type 0
IsMarkOf schema (Due header) = IsMark schema header
IsMarkOf schema Written = Unit {0}

-- where a mark is given it is the first page now, and else the first page is as it was
abbrev pub PutsMark : Option (List ℕ) → StoreFacts → StoreFacts → Type 0
PutsMark mark old new = MatchOption mark (slice_get new.pages 0 ≡ slice_get old.pages 0) (λ page. slice_get new.pages 0 ≡ Some page)

-- unless the table is marked as changed, the pages but the first are as they were
abbrev pub KeepsUnless : Bool → StoreFacts → StoreFacts → Type 0
KeepsUnless is_changed old new = IsHonest old → is_changed ≡ false → (m : ℕ) → m ≢ 0 → m < page_count old → slice_get new.pages m ≡ slice_get old.pages m

-- what a write of the pages of these numbers does, before which the mark is put that is due: no page is written but the
-- first and these, nor does another one last; until the mark is written no page but the first is, and from then on that is the
-- mark, unless another page stands there
pub record Marks (numbers : List ℕ) (was now : Mark) (old new : StoreFacts) : Type 0 where
  pub others : KeepsBut (0 ∷ numbers) old new
  pub stays : (now ≡ was) ⊎ (now ≡ Written)
  pub kept : KeepsUnless (is_written now) old new
  pub first : IsHonest old → AllByRecursion (λ n. n ≢ 0) numbers → is_written now ≡ true → PutsMark (first_page was) old new
