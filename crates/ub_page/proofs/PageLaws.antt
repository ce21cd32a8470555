-- What the proofs of crates above use of pages: what the page of a value tells of it, that a page of a value is not refused (of an
-- unclean header, that it is refused as Unclean alone), in which ranges the numbers of an old header are, and how entries and other fields stand on a page.
use Rattle.std.proofs.Common.{◌≡◌, ◌≢◌, ℕ, ◌≤◌, List, true, false, arith}
use Rattle.ub_page.proofs.DirectoryFacts as directory
use Rattle.ub_page.proofs.HeaderFacts as headers
use Rattle.ub_region.proofs.RegionFacts as regions
use Rattle.ub_page.specs.Directory.{Listing, IsListing, IsDirectoryFault, directory_page}
use Rattle.ub_page.specs.Header.{AreSame, IsHeader, IsHeaderFault, IsOldHeader, header_page, numbers_of}
use Rattle.ub_region.specs.RegionPage.{region_page}
use Rattle.ub_page.specs.declared.header.Header.{Header}
use Rattle.ub_page.specs.declared.header.OldHeader.{OldHeader}
use Rattle.ub_page.specs.declared.header.TheConstants.{MAX_LEVEL, VERSION}
use Rattle.ub_table.specs.Region.{RegionRows, IsRegion}
use Rattle.ub_table.specs.declared.fault.PageFault.TheVariants.{Unclean}
use Rattle.ub_table.specs.declared.fault.PageFault.{PageFault}
use Rattle.ub_table.specs.declared.schema.Schema.{Schema}
pub use Rattle.ub_page.proofs.DirectoryFacts.{HasListing}
pub use Rattle.ub_page.proofs.EntryFacts.{HasFields, fields_read, length-entries_on, entries_next, short_ascending}
pub use Rattle.ub_region.proofs.AddressFacts.{small_address}
pub use Rattle.ub_page.proofs.HeaderFacts.{HasParts, HasPartsOf}
pub use Rattle.ub_region.proofs.RegionFacts.{HasRegion, number_lt}
pub use Rattle.ub_region.proofs.SpelledFacts.{layout_back, joined}

pub listing_parts : (listing : Listing) (page : List ℕ) (d : ℕ) → d ≤ 4 → IsListing d listing → page ≡ directory_page listing → HasListing listing page
listing_parts = directory.parts

pub listing_not_refused : (listing : Listing) (page : List ℕ) (d : ℕ) → d ≤ 4 → IsListing d listing → page ≡ directory_page listing → (e : PageFault) → IsDirectoryFault d page e → ⊥
listing_not_refused = directory.not_refused

pub header_parts : (h : Header) (page : List ℕ) → IsHeader h → page ≡ header_page h → HasParts h page
header_parts h page is e = headers.parts VERSION h page (omega arith) is e

pub header_not_refused : (h : Header) (page : List ℕ) → IsHeader h → h.unclean ≡ false → page ≡ header_page h → (e : PageFault) → IsHeaderFault page e → ⊥
header_not_refused = headers.not_refused

pub unclean_refused : (h : Header) (page : List ℕ) → IsHeader h → h.unclean ≡ true → page ≡ header_page h → (e : PageFault) → IsHeaderFault page e → e ≡ Unclean
unclean_refused = headers.unclean_refused

pub old_level : (old : OldHeader) → IsOldHeader old → old.version ≢ 1 → (1 ≤ old.header.levels) × (old.header.levels ≤ MAX_LEVEL)
old_level = headers.old_level

pub same_header : (a b : Header) → numbers_of a ≡ numbers_of b → a.schema.name ≡ b.schema.name → a.schema.columns ≡ b.schema.columns → a.unclean ≡ b.unclean → AreSame a b
same_header = headers.same

pub region_parts : (schema : Schema) (region : RegionRows) (page : List ℕ) → IsRegion schema region → page ≡ region_page schema region → HasRegion schema region page
region_parts = regions.parts
