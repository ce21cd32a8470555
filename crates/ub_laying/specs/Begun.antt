-- A table that is loaded: how it is begun over a store, and what stands there once its regions are laid.
use Rattle.std.specs.Prelude.{◌≡◌, ◌≤◌, ◌<◌, ◌+◌, ℕ, true, List, None, Result, Err, IfErr, IfOk, length}
use Rattle.ub_index.specs.View.{IndexView, index_view}
use Rattle.ub_laying.specs.Effects.{Counts, written}
use Rattle.ub_laying.specs.Laying.{AreLaid, most_laid}
use Rattle.ub_laying.specs.Levels.{IsRoot}
use Rattle.ub_laying.specs.declared.levels.Root.{Root}
use Rattle.ub_page.specs.declared.header.Header.{Header}
use Rattle.ub_region.specs.Regions.{AreRegions, rows_of}
use Rattle.ub_store.specs.Cache.{page_at}
use Rattle.ub_store.specs.Facts.{StoreFacts, IsHonest, page_count}
use Rattle.ub_store.specs.View.{PagerView, untouched}
use Rattle.ub_store.specs.Writing.{put_store}
use Rattle.ub_store.specs.declared.fault.Rejected.{Rejected}
use Rattle.ub_store.specs.declared.fault.StoreFault.{StoreFault}
use Rattle.ub_table.specs.Region.{RegionRows}
use Rattle.ub_table.specs.declared.row.TheConstants.{MAX_ROW_NUMBER}
use Rattle.ub_table.specs.declared.schema.Schema.{Schema}
use Rattle.ub_writing.specs.Creation.{IsLayoutFault}
use Rattle.ub_writing.specs.Marks.{HasMark}
use Rattle.ub_zaddr.specs.Address.{last_address}

-- a table that is begun: what it is made of, and the facts of its store
pub record BegunView : Type 0 where
  pub schema : Schema
  pub store : StoreFacts

abbrev pub begun_view : Schema → StoreFacts → BegunView
begun_view schema store = record { schema = schema; store = store }

-- the store behind a pager has one page alone, which marks a table of this schema as changed; no page is held, nor was any asked for
pub record IsFresh (schema : Schema) (pager : PagerView) : Type 0 where
  pub count : page_count pager.store ≡ 1
  pub marked : IsHonest pager.store → HasMark schema pager.store.pages
  pub held : (n : ℕ) → page_at pager.cached n ≡ None
  pub trace : pager.trace ≡ untouched

-- what is begun over a store with these facts: a table of this schema, whose first page marks it as changed, and stands alone
pub record IsBegun (store : StoreFacts) (schema : Schema) (b : BegunView) : Type 0 where
  pub schema_is : b.schema ≡ schema
  pub store_is : b.store ≡ record store { pages = b.store.pages; synced = b.store.synced }
  pub count : page_count b.store ≡ 1
  pub marked : IsHonest store → HasMark schema b.store.pages

-- a table of this schema was to be begun over a store with these facts, and this was answered: it was; or why not, with the store, in
-- which no page stands but the first
pub record Begins {S : Type 0} (facts : S → StoreFacts) (old : StoreFacts) (schema : Schema) (result : Result BegunView (Rejected S StoreFault)) : Type 0 where
  pub begun : IfOk result (IsBegun old schema)
  pub first : IfErr result (λ refused. page_count (facts refused.store) ≤ 1)
  pub refused : IfErr result (λ refused. IsLayoutFault old refused.fault)
  pub left : IfErr result (λ refused. facts refused.store ≡ put_store {A = S} (Err refused.fault) old (facts refused.store))

-- regions that can be laid as a table whose next row gets this number: they are regions of one, they have fewer rows than that, and
-- there are no more of them than the first one and one for each row number before it
pub record CanLay (schema : Schema) (next : ℕ) (grown : List RegionRows) : Type 0 where
  pub regions_are : AreRegions schema next grown
  pub fewer : length (rows_of grown) < next
  pub last_next : next ≤ MAX_ROW_NUMBER + 1
  pub few : length grown ≤ next

-- the root that a header tells of
abbrev pub root_in : Header → Root
root_in header = record { page = header.root; level = header.levels }

-- what stands where these regions were laid behind the one page of a table that was begun: this header tells of them, and of the next
-- row's number; over an honest store each is on a page, from page 1 on, and behind them their index, whose root it tells of. The first page
-- is the mark still, and the pager holds no page
pub record IsLaidFor (begun : BegunView) (next : ℕ) (grown : List RegionRows) (header : Header) (index : IndexView) (pager : PagerView) : Type 0 where
  pub schema_is : header.schema ≡ begun.schema
  pub next_is : header.next ≡ next
  pub rows_are : header.rows ≡ length (rows_of grown)
  pub regions_are : header.regions ≡ length grown
  pub unclean : header.unclean ≡ true
  pub index_is : index ≡ index_view header.root header.levels (last_address begun.schema.dims)
  pub root : IsRoot (page_count pager.store) (root_in header)
  pub one : page_count begun.store ≡ 1
  pub count : page_count pager.store ≤ 1 + most_laid (length grown)
  pub laid : IsHonest begun.store → AreLaid begun.schema grown begun.store.pages pager.store.pages (root_in header)
  pub marked : IsHonest begun.store → HasMark begun.schema pager.store.pages
  pub store_is : pager.store ≡ record begun.store { pages = pager.store.pages; synced = pager.store.synced }
  pub held : (n : ℕ) → page_at pager.cached n ≡ None
  pub trace_is : pager.trace ≡ untouched

-- these regions were to be laid where a table was begun, and this was answered: their header, their index, and a pager over their pages; or
-- why not, with the store, which isn't opened as a table, and of which the pages, and those that last, may be others
pub record LaysBegun {S : Type 0} (facts : S → StoreFacts) (begun : BegunView) (next : ℕ) (grown : List RegionRows) (result : Result (Header × IndexView × PagerView) (Rejected S StoreFault)) : Type 0 where
  pub laid : IfOk result (λ laid. IsLaidFor begun next grown laid.0 laid.1 laid.2)
  pub unopened : IsHonest begun.store → IfErr result (λ refused. HasMark begun.schema (facts refused.store).pages)
  pub refused : IfErr result (λ refused. IsLayoutFault begun.store refused.fault)
  pub same : IfErr result (λ refused. facts refused.store ≡ written begun.store (facts refused.store))
  pub counts : IfErr result (λ refused. Counts {A = Root} (Err refused.fault) begun.store (facts refused.store))
