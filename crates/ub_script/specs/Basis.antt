-- What the replies to the statements of a script rest on: the table of a sound tree, or what any tree shows, sound or not.
use Rattle.std.specs.Prelude.{◌≡◌, ◌≤◌, ◌⊎◌, ℕ, ℤ, Bool, true, false, IsTrue, List, Result, Ok, Err, take}
use Rattle.ub_exec.specs.Stand.{Stand, IsStand, IsStandOf, selected_of, without_rows}
use Rattle.ub_parser.specs.Outcome.{Command, asks, puts, takes}
use Rattle.ub_query.specs.Shape.{Asked}
use Rattle.ub_script.specs.Changes.{HasPutIn, HasTakenOut, IsFormedDelete, IsFormedInsert}
use Rattle.ub_script.specs.Faults.{IsGiven, counted, fault_of_read, fault_of_tree}
use Rattle.ub_script.specs.Formed.{IsFormedReply, IsSameBut}
use Rattle.ub_script.specs.Replies.{IsReplyOn}
use Rattle.ub_script.specs.Script.{Outcome}
use Rattle.ub_script.specs.Text.{Reply, reply, refused_text, IsTableReply}
use Rattle.ub_script.specs.declared.fault.RunFault.{RunFault}
use Rattle.ub_script.specs.declared.fault.RunFault.TheVariants.{Memory, Tree}
use Rattle.ub_store.specs.declared.fault.StoreFault.TheVariants.{BadSize, Device}
use Rattle.ub_table.specs.declared.schema.Schema.{Schema}
use Rattle.ub_tree.specs.View.{TreeView}
use Rattle.ub_tree.specs.declared.fault.TreeFault.{TreeFault}
use Rattle.ub_tree.specs.declared.fault.TreeFault.TheVariants.{Failed, Full, Store}
use Rattle.ub_tree.specs.declared.read_fault.ReadFault.{ReadFault}

-- where a table stands; or any tree
pub data Basis : Type 0 where
  on_stand : Stand → Basis
  over_any : TreeView → Basis

abbrev pub schema_of : Basis → Schema
schema_of (on_stand s) = s.table.schema
schema_of (over_any seen) = seen.schema

-- the regions of the table are its own
abbrev pub Stands : Basis → Type 0
Stands (on_stand s) = IsStand s
Stands (over_any seen) = Unit {0}

-- what replies over a tree rest on: where it is sound, on where its table stands; and always on what it shows
abbrev pub IsBasisOf : TreeView → Basis → Type 0
IsBasisOf t (on_stand s) = IsStandOf t s
IsBasisOf t (over_any seen) = IsSameBut seen t

-- what is left of a tree after a fault: its table stands there, unless the tree has failed; and always what it shows
abbrev pub IsRestOf : TreeView → Basis → Type 0
IsRestOf t (on_stand s) = t.is_failed ≡ false → IsStandOf t s
IsRestOf t (over_any seen) = IsSameBut seen t

-- ---- the replies, each with what the next one rests on

-- the reply to a query that is explained, or answered
abbrev pub IsAskedReply : Bool → Basis → Asked → Reply → Type 0
IsAskedReply is_explained (on_stand s) q r = IsTableReply is_explained s.table s.regions q r
IsAskedReply is_explained (over_any seen) q r = IsFormedReply is_explained seen q r

-- the reply to a statement with this outcome over any tree; for a refused one no page is fetched, and nothing is changed
abbrev pub IsReplyOver : TreeView → Outcome → Reply → TreeView → Type 0
IsReplyOver seen (Ok (asks t)) r now = IsFormedReply t.is_explained seen t.asked r × (r.changed ≡ 0) × (now ≡ seen)
IsReplyOver seen (Ok (puts values)) r now = IsFormedInsert seen values r now
IsReplyOver seen (Ok (takes q)) r now = IsFormedDelete seen q r now
IsReplyOver seen (Err fault) r now = (r ≡ reply (refused_text fault) 0 true 0) × (now ≡ seen)

-- the reply to a statement with this outcome: on a table that stands somewhere, or over any tree
abbrev pub IsReply : Basis → Outcome → Reply → Basis → Type 0
IsReply (on_stand s) outcome r now = (after : Stand) × IsReplyOn s outcome r after × (now ≡ on_stand after)
IsReply (over_any seen) outcome r now = (after : TreeView) × IsReplyOver seen outcome r after × (now ≡ over_any after)

-- the reply to an INSERT
abbrev pub IsInsertReply : Basis → List ℤ → Reply → Basis → Type 0
IsInsertReply basis values r now = IsReply basis (Ok (puts values)) r now

-- the reply to a DELETE
abbrev pub IsDeleteReply : Basis → Asked → Reply → Basis → Type 0
IsDeleteReply basis q r now = IsReply basis (Ok (takes q)) r now

-- ---- the ends by a fault, each with what is left

-- so many pages can have been fetched for a query that has no reply: on a table some of those of a reply, or none; over any tree
-- none for an EXPLAIN
abbrev pub AreSomeOf : Bool → Basis → Asked → ℕ → Type 0
AreSomeOf is_explained (on_stand s) q pages =
    1 ≤ pages → (r : Reply) × IsTableReply is_explained s.table s.regions q r × (pages ≤ r.pages)
AreSomeOf is_explained (over_any seen) q pages = 1 ≤ pages → is_explained ≡ false

-- an INSERT was ended by a fault: the table is as it was; over any tree, memory was refused before it, or the tree refused
abbrev pub IsInsertEnd : Basis → List ℤ → RunFault → Basis → Type 0
IsInsertEnd (on_stand s) values fault now = now ≡ on_stand s
IsInsertEnd (over_any seen) values fault now =
    ((fault ≡ Memory) × (now ≡ over_any seen))
    ⊎ ((after : TreeView) × (of_tree : TreeFault) × HasPutIn seen values (Err of_tree) after × (fault ≡ fault_of_tree of_tree)
    × (now ≡ over_any after))

-- a DELETE with this answer is ended by a fault: by its own, or memory was refused for its line
abbrev pub IsEndOf : Result ℕ ReadFault → RunFault → Type 0
IsEndOf (Ok count) fault = fault ≡ Memory
IsEndOf (Err of_tree) fault = fault ≡ fault_of_read of_tree

-- a DELETE was ended by a fault: of the rows for which it asks the first ones by number are gone, or none; over any tree, memory was
-- refused before it or after it, or the tree refused
abbrev pub IsDeleteEnd : Basis → Asked → RunFault → Basis → Type 0
IsDeleteEnd (on_stand s) q fault now = (j : ℕ) × (now ≡ on_stand (without_rows (take j (selected_of q s)) s))
IsDeleteEnd (over_any seen) q fault now =
    ((fault ≡ Memory) × (now ≡ over_any seen))
    ⊎ ((after : TreeView) × (told : Result ℕ ReadFault) × HasTakenOut seen q told after × IsEndOf told fault × (now ≡ over_any after))

-- what a query leaves that was ended by a fault: where a read failed, that is counted
abbrev pub asked_left : Basis → RunFault → Basis
asked_left (on_stand s) fault = on_stand s
asked_left (over_any seen) fault = over_any (record seen { store = record seen.store { failed_reads = counted {A = Unit {0}} (Err fault) seen.store.failed_reads } })

-- over any tree it is one that its reading calls answer
abbrev pub IsAskedFault : Basis → RunFault → Type 0
IsAskedFault (on_stand s) fault = Unit {0}
IsAskedFault (over_any seen) fault = IsGiven seen fault

-- memory was refused, or the store failed
abbrev pub IsPassingFault : RunFault → Type 0
IsPassingFault fault = (fault ≡ Memory) ⊎ (fault ≡ Tree (Store Device))

-- a row has no place: no number is left, the index has no room, or the store can't have another page
abbrev pub IsPlaceFault : RunFault → Type 0
IsPlaceFault fault = (fault ≡ Tree Full) ⊎ (fault ≡ Tree (Store BadSize))

-- on a table a statement is ended by want of memory, or as the store failed; and an INSERT also where its row has no place
abbrev pub IsFaultOn : Command → RunFault → Type 0
IsFaultOn (asks t) fault = IsPassingFault fault
IsFaultOn (puts values) fault = IsPassingFault fault ⊎ IsPlaceFault fault
IsFaultOn (takes q) fault = IsPassingFault fault

-- so it is on a table; over a tree that has failed a fault is that, or want of memory
abbrev pub IsFaultOver : Basis → Command → RunFault → Type 0
IsFaultOver (on_stand s) says fault = IsFaultOn says fault
IsFaultOver (over_any seen) says fault = IsTrue seen.is_failed → (fault ≡ Memory) ⊎ (fault ≡ Tree Failed)

-- a statement that is accepted was ended by a fault, so many pages were fetched for it, and this is left
abbrev pub IsCommandEnd : Basis → Command → RunFault → ℕ → Basis → Type 0
IsCommandEnd basis (asks t) fault pages now =
    AreSomeOf t.is_explained basis t.asked pages × IsAskedFault basis fault × (now ≡ asked_left basis fault)
IsCommandEnd basis (puts values) fault pages now = (pages ≡ 0) × IsInsertEnd basis values fault now
IsCommandEnd basis (takes q) fault pages now = AreSomeOf false basis q pages × IsDeleteEnd basis q fault now
