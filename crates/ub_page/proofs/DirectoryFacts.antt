-- What a page of the directory reads as.
use Rattle.std.proofs.Common.{rules, ◌≡◌, ◌≢◌, ◌≤◌, ◌<◌, ◌^◌, ℕ, List, length, refl, sym, ap, arith, ◌∙◌}
use Rattle.ub_zaddr.specs.Address.{last_address}
use Rattle.ub_bytes.specs.Bytes.{number_at}
use Rattle.ub_page.specs.Directory.{Listing, IsListing, directory_page, listing_on, IsDirectoryKind, HasCount, HasEntries, IsDirectoryFault}
use Rattle.ub_page.specs.Entries.{AreAscending, entries_page}
use Rattle.ub_region.specs.declared.entry.Entry.{Entry}
use Rattle.ub_page.proofs.EntryFacts.{fields_read, length-entries_on}
use Rattle.ub_region.proofs.AddressFacts.{small_address}
use Rattle.ub_table.specs.declared.fault.PageFault.TheVariants.{WrongKind, OldFormat, Unclean, BadCount, BadName, BadRow, BadOrder, OutOfRegion, BadPadding}
use Rattle.ub_table.specs.declared.fault.PageFault.{PageFault}

pub record HasListing (listing : Listing) (page : List ℕ) : Type 0 where
  pub kind : IsDirectoryKind page
  pub on : listing_on page ≡ listing

-- what a page was written of is what stands on it
pub parts : (listing : Listing) (page : List ℕ) (d : ℕ) → d ≤ 4 → IsListing d listing → page ≡ directory_page listing → HasListing listing page
unfolding directory_page
parts listing page d few is e =
    let small = small_address d (last_address d) few (omega arith) in
    let has = fields_read 0x44 0 listing.next listing.entries page (last_address d) (omega arith) (omega arith) is.next is.few small is.entries e in
    let count = has.count_is in
    let next = has.next_is in
    let entries = has.entries_are in
    record { kind = has.kind_is; on = rw (count, next, entries) refl }

-- the page of a listing is not refused
pub not_refused : (listing : Listing) (page : List ℕ) (d : ℕ) → d ≤ 4 → IsListing d listing → page ≡ directory_page listing → (e : PageFault) → IsDirectoryFault d page e → ⊥
not_refused listing page d few is same WrongKind fault = fault (parts listing page d few is same).kind
not_refused listing page d few is same BadCount fault =
    let read = (parts listing page d few is same).on in
    let count : number_at 2 2 page ≡ length listing.entries = sym (length-entries_on 16 (number_at 2 2 page) page) ∙ ap (λ (l : Listing). length l.entries) read in
    fault.1 (rw count (is.some, is.few))
not_refused listing page d few is same BadRow fault =
    fault.2 (rw (ap (λ (l : Listing). l.entries) (parts listing page d few is same).on) is.entries)
not_refused listing page d few is same BadOrder fault =
    fault.3 (rw (ap (λ (l : Listing). l.entries) (parts listing page d few is same).on) is.ascending)
not_refused listing page d few is same BadPadding fault = fault.4 listing is same
not_refused listing page d few is same OldFormat fault = fault
not_refused listing page d few is same Unclean fault = fault
not_refused listing page d few is same BadName fault = fault
not_refused listing page d few is same OutOfRegion fault = fault

-- a page that is not written of what stands on it is written of nothing
pub padding_fault : (listing : Listing) (page : List ℕ) (d : ℕ) → d ≤ 4 → listing ≡ listing_on page → IsDirectoryKind page → HasCount page → HasEntries d page
    → AreAscending (listing_on page).entries → directory_page listing ≢ page → IsDirectoryFault d page BadPadding
padding_fault listing page d few on kind count entries ascending other =
    (kind, count, entries, ascending, λ l is e. other (ap directory_page (on ∙ (parts l page d few is e).on) ∙ sym e))

-- what stands on a page in range and in order can be spelled
pub is_listing : (listing : Listing) (page : List ℕ) (d : ℕ) → listing ≡ listing_on page → HasCount page → HasEntries d page → AreAscending (listing_on page).entries → listing.next < 2 ^ 32
    → IsListing d listing
is_listing listing page d h k j l m = search (rules, length-entries_on)

-- a page of a directory's entries is the spelling of its listing
pub spelled : (entries : List Entry) (next : ℕ) → entries_page 0x44 0 next entries ≡ directory_page (record { entries = entries; next = next })
unfolding directory_page
spelled entries next = refl
