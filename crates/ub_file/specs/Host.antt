-- What contracts see of a medium on a file, and what is not known of a file of the system.
use Rattle.std.specs.Prelude.{◌≡◌, ℕ, zero, suc, ◌/◌, ◌||◌, Bool, false, true, if◌then◌else◌, IsTrue, List, [], ◌∷◌, length, drop, replicate, refl}
use Rattle.std.specs.Coded.{Coded, code_by, coded×, coded_ℕ, coded_bool}
use Rattle.std.specs.Fs.{asks_append, asks_create, asks_create_new, asks_truncate}
use Rattle.std.specs.declared.fs.options.OpenOptions.{OpenOptions}
use Rattle.ub_file.specs.Raw.{RawFacts, with_length}
use Rattle.ub_file.specs.declared.system.Opened.{Opened}
use Rattle.ub_file.specs.declared.system.Opened.TheVariants.{Found, Made}
use Rattle.ub_store.specs.Facts.{StoreFacts}

-- the facts of a file of the system are not known, nor whether it gives back what was written to it: that it does is a premise, which
-- nothing in the language can show. What stands here is opened by the proofs that such a file meets the contract of a file, and that
-- its length is what the system tells where it is opened, and by no other
unfoldable pub system_facts : {F : Type 0} → F → RawFacts
system_facts file = record {
  honest = false;
  bytes = [];
  synced = [];
  changes = 0;
  failed_reads = 0;
  failed_writes = 0;
}

-- how a file that is opened in this way comes to be open: where it may be made, it isn't told from one that was
abbrev pub opened_by : OpenOptions → Opened
opened_by how = if asks_create how || asks_create_new how then Made else Found

-- a file that is opened in this way is not emptied, and each write goes to its place
abbrev pub AsksInPlace : OpenOptions → Type 0
AsksInPlace how = (asks_truncate how ≡ false) × (asks_append how ≡ false)

-- the first pages of these bytes, so many and each so many bytes wide, with zeros where there are no bytes
unfoldable pub pages_of : ℕ → ℕ → List ℕ → List (List ℕ)
pages_of wide zero bytes = []
pages_of wide (suc count) bytes = with_length wide bytes ∷ pages_of wide count (drop wide bytes)

-- so many pages, of which nothing but their number is known
unfoldable pub unknown_pages : ℕ → List (List ℕ)
unknown_pages count = replicate count []

-- the pages of a medium of so many bytes on a file where these stand: of one that isn't honest their number alone is known
unfoldable pub host_pages : Bool → ℕ → List ℕ → List (List ℕ)
host_pages true length_kept bytes = pages_of 4096 (length_kept / 4096) bytes
host_pages false length_kept bytes = unknown_pages (length_kept / 4096)

-- the pages that last, on a file where these bytes do
unfoldable pub host_synced : Bool → ℕ → List ℕ → List (List ℕ)
host_synced true length_kept synced = pages_of 4096 (length synced / 4096) synced
host_synced false length_kept synced = unknown_pages (length_kept / 4096)

-- what contracts see of a medium on a file: the file, how many bytes are counted, whether the file is surely so long (no call that set its
-- length was refused since), how often reads and other calls of it were refused, how it came to be open, and how many calls were made to
-- change it (counts that stay at the greatest u64)
pub record HostView (R : Type 0) : Type 0 where
  pub file : R
  pub length : ℕ
  pub sure : Bool
  pub reads : ℕ
  pub writes : ℕ
  pub opened : Opened
  pub changes : ℕ

abbrev is_made : Opened → Bool
is_made Found = false
is_made Made = true

abbrev opened_of : Bool → Opened
opened_of made = if made then Made else Found

pub opened_back : (opened : Opened) → opened_of (is_made opened) ≡ opened
opened_back Found = refl
opened_back Made = refl

abbrev pub opened_code : Coded Opened
opened_code = code_by Bool coded_bool is_made opened_of opened_back

module _ {R : Type 0} where
  -- the view of its parts
  abbrev pub host_view : R → ℕ → Bool → ℕ → ℕ → Opened → ℕ → HostView R
  host_view file length sure reads writes opened changes = record {
    file = file;
    length = length;
    sure = sure;
    reads = reads;
    writes = writes;
    opened = opened;
    changes = changes;
  }

  -- a view is stored as the tuple of its parts
  abbrev pub host_code : Coded R → Coded (HostView R)
  host_code code = code_by (R × (ℕ × (Bool × (ℕ × (ℕ × (Opened × ℕ))))))
      (coded× code (coded× coded_ℕ (coded× coded_bool (coded× coded_ℕ (coded× coded_ℕ (coded× opened_code coded_ℕ))))))
      (λ v. (v.file, (v.length, (v.sure, (v.reads, (v.writes, (v.opened, v.changes)))))))
      (λ p. host_view p.0 p.1.0 p.1.1.0 p.1.1.1.0 p.1.1.1.1.0 p.1.1.1.1.1.0 p.1.1.1.1.1.1) (λ _. refl)

-- however long they are made, these bytes are zeros
abbrev pub IsBlank : List ℕ → Type 0
IsBlank bytes = (n : ℕ) → with_length n bytes ≡ replicate n 0

-- of an honest file the refusals and changes that are counted are those of the file, what stands past the length that is counted is zeros, and
-- where that is sure, it is the file's
pub record IsTold (file : RawFacts) (counted : ℕ) (sure : Bool) (reads writes changes : ℕ) : Type 0 where
  pub length_is : IsTrue sure → counted ≡ length file.bytes
  pub blank : IsBlank (drop counted file.bytes)
  pub reads_are : reads ≡ file.failed_reads
  pub writes_are : writes ≡ file.failed_writes
  pub changes_are : changes ≡ file.changes

-- the facts of a medium on a file with these facts, of so many bytes, and of so many failed reads and other calls
abbrev pub facts_on : RawFacts → ℕ → ℕ → ℕ → StoreFacts
facts_on file length reads writes = record {
  honest = file.honest;
  can_fail = true;
  pages = host_pages file.honest length file.bytes;
  synced = host_synced file.honest length file.synced;
  failed_reads = reads;
  failed_writes = writes;
}

-- the facts of the medium with this view
abbrev pub facts_of_view : {R : Type 0} → (R → RawFacts) → HostView R → StoreFacts
facts_of_view facts v = facts_on (facts v.file) v.length v.reads v.writes

-- no call has failed yet
abbrev pub IsUnfailed : StoreFacts → Type 0
IsUnfailed facts = (facts.failed_reads ≡ 0) × (facts.failed_writes ≡ 0)
