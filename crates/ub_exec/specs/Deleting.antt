-- What a deletion does to a tree, also to one that isn't sound.
use Rattle.std.specs.Prelude.{◌≡◌, ◌≢◌, ◌+◌, ◌++◌, ◌∷◌, ◌⊎◌, [], ℕ, suc, Bool, true, if◌then◌else◌, IsTrue, List, Some, None, Result, Ok, Err, IfErr, IfOk, OnOk}
use Rattle.ub_exec.specs.Common.{Asked, Failed, fault_of_tree, filter, is_selected, IsPermutation, IsSound, KeepsUnless, Key, keys_of, Memory}
use Rattle.ub_exec.specs.Common.{plan_of, PlanView, raised, ReadFault, ReadsTree, Row, Tree, TreeView}
use Rattle.std.specs.List.Sorted.{IsNonDecreasingBy}
use Rattle.ub_exec.specs.Answers.{IsReady, begun}
use Rattle.ub_exec.specs.Reading.{HasReadRows, NotesPages}
use Rattle.ub_tree.specs.Effects.{KeepsMark, Works}
use Rattle.ub_tree.specs.Removal.{Removes}
use Rattle.ub_tree.specs.declared.fault.TreeFault.{TreeFault}
use Rattle.ub_tree.specs.declared.fault.TreeFault.TheVariants.{Full, Page, Store, Memory as no_memory}
use Rattle.ub_store.specs.declared.fault.StoreFault.TheVariants as store

-- a deletion asks for no groups, no order and no limit: each selected row is taken out
abbrev pub IsDeletion : Asked → Type 0
IsDeletion q = (q.group ≡ []) × (q.order ≡ []) × (q.limit ≡ None)

-- the plan is that of a deletion from this tree, which is sound
pub record IsDeletionOf (t : TreeView) (p : PlanView) : Type 0 where
  pub ready : IsReady t p
  pub plain : IsDeletion p.asked

-- ---- rows taken out of any tree

-- the rows of these keys were taken out, one after the other, but for those that weren't there; so many were
abbrev pub TakesOut : List Key → TreeView → TreeView → ℕ → Type 0
TakesOut [] old new count = (count ≡ 0) × (new ≡ old)
TakesOut (key ∷ keys) old new count =
    (found : Bool) × (mid : TreeView) × (more : ℕ) × Removes key old mid (Ok found) × TakesOut keys mid new more
    × (count ≡ (if found then suc more else more))

-- so it was with the first of these keys; the next one met this fault
pub record StopsAt (keys : List Key) (old new : TreeView) (fault : TreeFault) : Type 0 where
  pub front : List Key
  pub key : Key
  pub left : List Key
  pub parts : keys ≡ front ++ key ∷ left
  pub mid : TreeView
  pub count : ℕ
  pub taken : TakesOut front old mid count
  pub ended : Removes key mid new (Err fault)

-- so it was with all of them, or a fault ended it
abbrev pub TakesOutBy : List Key → TreeView → TreeView → Result ℕ TreeFault → Type 0
TakesOutBy keys old new (Ok count) = TakesOut keys old new count
TakesOutBy keys old new (Err fault) = StopsAt keys old new fault

-- ---- a deletion from any tree

abbrev pub answer_of : Result ℕ TreeFault → Result ℕ ReadFault
answer_of (Ok count) = Ok count
answer_of (Err fault) = Err (fault_of_tree fault)

-- no region that the tree tells of for the plan's boxes was passed over, and these are the keys of the selected rows in them, in order of number; a
-- row in two regions is there twice. By its boxes alone rows are told from others only where the plan is that of its query and some row is asked for
pub record HasReadKeys (p : PlanView) (old new : TreeView) (keys : List Key) : Type 0 where
  pub rows : List Row
  pub read : HasReadRows p.covering.boxes old new rows
  pub keys_are : p ≡ plan_of old.schema p.asked → p.asked.limit ≢ Some 0
      → IsPermutation keys (keys_of old.schema.dims (filter (is_selected old.schema p.asked.filter) rows))
  pub ordered : IsNonDecreasingBy (λ key. key.number) keys

-- the keys of the selected rows were read, and only then the rows of all these keys taken out, in this order, or a fault ended that, which is told
pub record TakesOutAfter (p : PlanView) (old new : TreeView) (result : Result ℕ ReadFault) : Type 0 where
  pub mid : TreeView
  pub same : mid ≡ record old { trace = mid.trace }
  pub keys : List Key
  pub read : HasReadKeys p old mid keys
  pub told : Result ℕ TreeFault
  pub taken : TakesOutBy keys mid new told
  pub result_is : result ≡ answer_of told

-- pages were noted, and where a fault ended that, the tree was read and no more; else rows were taken out
pub record ReadsFirst (p : PlanView) (old new : TreeView) (result : Result ℕ ReadFault) : Type 0 where
  pub notes : NotesPages old new result
  pub first : (OnOk result ⊥ × ReadsTree old new result) ⊎ TakesOutAfter p old new result

-- a call of the store failed: a read, and the tree works as it did; or a write, an extension or a sync, and it has failed
abbrev pub HasMetDevice : TreeView → TreeView → Type 0
HasMetDevice old new =
    ((new.is_failed ≡ old.is_failed)
    × (new.store ≡ record old.store {
      pages = new.store.pages;
      synced = new.store.synced;
      failed_reads = raised old.store.failed_reads 1;
    }))
    ⊎ ((new.is_failed ≡ true)
    × (new.store ≡ record old.store {
      pages = new.store.pages;
      synced = new.store.synced;
      failed_writes = raised old.store.failed_writes 1;
    }))

-- what can end a deletion, and what it leaves then
abbrev pub IsDeletionFault : TreeView → TreeView → ReadFault → Type 0
IsDeletionFault old new Memory = Works old new
IsDeletionFault old new (Tree Full) = ⊥
IsDeletionFault old new (Tree Failed) = IsTrue old.is_failed × (new ≡ begun old)
IsDeletionFault old new (Tree no_memory) = ⊥
IsDeletionFault old new (Tree (Page page fault)) = (¬ (IsSound old)) × Works old new
IsDeletionFault old new (Tree (Store store.Device)) = IsTrue old.store.can_fail × HasMetDevice old new
IsDeletionFault old new (Tree (Store store.NoPage)) = (¬ (IsSound old)) × Works old new
IsDeletionFault old new (Tree (Store _)) = ⊥

-- a deletion from a tree: where a row is gone the table is marked as changed, and until it is so marked no page but the first is written; from then
-- on the first page of an honest store marks it, if it did where the table was changed before
pub record Deletes (old new : TreeView) (result : Result ℕ ReadFault) : Type 0 where
  pub frame : new ≡ record old {
    placed = new.placed;
    rows = new.rows;
    is_changed = new.is_changed;
    is_failed = new.is_failed;
    store = new.store;
    trace = new.trace;
    inner = new.inner;
  }
  pub counted : IfOk result (λ count. new.rows + count ≡ old.rows)
  pub stays : old.is_changed ≡ true → new.is_changed ≡ true
  pub marks : IfOk result (λ count. count ≢ 0 → new.is_changed ≡ true)
  pub kept : KeepsUnless new.is_changed old.store new.store
  pub marked : KeepsMark old new
  pub done : OnOk result (Works old new)
  pub left : IfErr result (IsDeletionFault old new)
  pub failed : IsTrue old.is_failed → result ≡ Err (Tree Failed)
