-- Opening a store: which pages tell of a table, what is made of them, and why others are refused.
use Rattle.std.specs.Prelude.{◌≡◌, ◌≤◌, ◌⊎◌, ℕ, false, IsTrue, List, Result, Err, IfErr, IfOk, IsErrAnd, MatchResult, Some, None, slice_get}
use Rattle.ub_tree.specs.Common.{AreSoundPages, HasMark, Header, header_page, index_of, IsHeader, IsHeaderFault, IsHonest, IsPage, IsSound, IsUnfit}
use Rattle.ub_tree.specs.Common.{Memory, NamesFitting, Page, page_count, PageFault, Placed, region_count, Rejected, Schema, Store, StoreFacts, top}
use Rattle.ub_tree.specs.Common.{TreeFault, TreeView, Unclean, untouched}
use Rattle.ub_tree.specs.Effects.{read_store}
use Rattle.ub_store.specs.declared.fault.StoreFault.TheVariants as store

-- the first page of the store is this header, and it is clean
pub record HasHeader (store : StoreFacts) (header : Header) : Type 0 where
  pub spelled : IsPage store 0 (header_page header)
  pub in_range : IsHeader header
  pub clean : header.unclean ≡ false

-- the pages tell of a table that can be opened: a clean header, and the root of an index, of the level that it tells
pub record IsRooted (pages : List (List ℕ)) (header : Header) : Type 0 where
  pub spelled : slice_get pages 0 ≡ Some (header_page header)
  pub in_range : IsHeader header
  pub clean : header.unclean ≡ false
  pub root : NamesFitting (index_of header).last pages header.levels (top header.root) None

-- what opening a store with these facts makes
pub record IsOpened (store : StoreFacts) (t : TreeView) : Type 0 where
  pub header : Header
  pub rooted : IsHonest store → IsRooted store.pages header
  pub schema_is : t.schema ≡ header.schema
  pub index_is : t.inner.index ≡ index_of header
  pub count_is : region_count t ≡ header.regions
  pub rows_are : t.rows ≡ header.rows
  pub next_is : t.next ≡ header.next
  pub unchanged : t.is_changed ≡ false
  pub working : t.is_failed ≡ false
  pub store_is : t.store ≡ store
  pub trace_is : t.trace ≡ untouched

-- the page of this number is asked for: it is the first, or the one that the header tells as the root's
abbrev pub IsAskedFor : StoreFacts → ℕ → Type 0
IsAskedFor store n = (n ≡ 0) ⊎ ((header : Header) × HasHeader store header × (n ≡ header.root))

-- this page is refused: as the header, or as the root of which that tells
abbrev pub IsRefused : StoreFacts → ℕ → List ℕ → PageFault → Type 0
IsRefused store n page fault =
    ((n ≡ 0) × IsHeaderFault page fault)
    ⊎ ((header : Header) × HasHeader store header × (n ≡ header.root)
    × IsUnfit (index_of header).last page header.levels (top header.root) None fault)

-- why opening is refused: for want of memory; as the store failed, which it then can, or hasn't a page that is asked for; or as a page is refused
abbrev pub IsOpenFault : StoreFacts → TreeFault → Type 0
IsOpenFault old Memory = Unit {0}
IsOpenFault old (Store store.Device) = IsTrue old.can_fail
IsOpenFault old (Store store.NoPage) = (n : ℕ) × IsAskedFor old n × (page_count old ≤ n)
IsOpenFault old (Page n fault) = (page : List ℕ) × IsPage old n page × IsRefused old n page fault
IsOpenFault old _ = ⊥

-- why a table isn't opened that is marked as changed: for its header, for want of memory, or as the store failed
abbrev pub IsMarkFault : TreeFault → Type 0
IsMarkFault Memory = Unit {0}
IsMarkFault (Store store.Device) = Unit {0}
IsMarkFault (Page n fault) = (n ≡ 0) × (fault ≡ Unclean)
IsMarkFault _ = ⊥

-- why a closed table isn't opened: for want of memory, or as the store failed
abbrev pub IsPassing : TreeFault → Type 0
IsPassing fault = (fault ≡ Memory) ⊎ (fault ≡ Store store.Device)

-- a store was to be opened, with this answer: its tree, or why not, with the store; where it is honest, a closed table is opened, and no marked one
pub record OpensTree {S : Type 0} (facts : S → StoreFacts) (old : StoreFacts) (result : Result TreeView (Rejected S TreeFault)) : Type 0 where
  pub opened : IfOk result (IsOpened old)
  pub exact : (header : Header) → IsHonest old → IsRooted old.pages header → IfErr result (λ refused. IsPassing refused.fault)
  pub sound : (schema : Schema) (placed : List Placed) (next : ℕ) → IsHonest old → AreSoundPages old.pages schema placed next
      → MatchResult result (λ t. IsSound t × (t.schema ≡ schema) × (t.placed ≡ placed) × (t.next ≡ next)) (λ refused. IsPassing refused.fault)
  pub unclean : (schema : Schema) → IsHonest old → HasMark schema old.pages → IsErrAnd result (λ refused. IsMarkFault refused.fault)
  pub kept : IfErr result (λ refused. facts refused.store ≡ read_store {A = S} (Err refused.fault) old)
  pub refused : IfErr result (λ refused. IsOpenFault old refused.fault)
