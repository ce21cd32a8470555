-- What the proofs of crates above use of the pages of an index: what the page of a node tells of it, that it is not refused, and
-- which entry stands in a slot.
use Rattle.std.proofs.Common.{rules, ◌≡◌, ◌<◌, ◌+◌, ◌*◌, ◌^◌, ℕ, zero, suc, List, length, Some, slice_get, arith}
use Rattle.ub_page.proofs.IndexFacts as facts
use Rattle.ub_page.specs.Index.{Node, IsNode, IsIndexFault, index_page, node_on}
use Rattle.ub_page.specs.Slots.{entry_in}
use Rattle.ub_page.proofs.PageLaws.{length-entries_on}
use Rattle.ub_bytes.specs.Bytes.{number_at}
use Rattle.ub_page.specs.Entries.{entry_on, entries_on}
use Rattle.ub_table.specs.declared.fault.PageFault.{PageFault}
pub use Rattle.ub_page.proofs.IndexFacts.{HasNode}

pub node_parts : (node : Node) (page : List ℕ) (last : ℕ) → last < 256 ^ 16 → IsNode last node → page ≡ index_page node → HasNode node page
node_parts = facts.parts

pub node_not_refused : (node : Node) (page : List ℕ) (last : ℕ) → last < 256 ^ 16 → IsNode last node → page ≡ index_page node → (e : PageFault) → IsIndexFault last page e → ⊥
node_not_refused = facts.not_refused

-- a page tells of as many entries as it counts
pub length-node_on : (page : List ℕ) → length (node_on page).entries ≡ number_at 2 2 page
length-node_on page = length-entries_on 16 (number_at 2 2 page) page

entries_get : (offset n slot : ℕ) (page : List ℕ) → slot < n → slice_get (entries_on offset n page) slot ≡ Some (entry_on (offset + 24 * slot) page)
entries_get offset zero slot page less = search rules
entries_get offset (suc n) zero page less = search rules
entries_get offset (suc n) (suc slot) page less = search (rules, (entries_get (offset + 24) n slot page (omega arith)))

-- the entry in a slot is the one that the page tells there
pub node_get : (page : List ℕ) (slot : ℕ) → slot < number_at 2 2 page → slice_get (node_on page).entries slot ≡ Some (entry_in slot page)
node_get page slot less = entries_get 16 (number_at 2 2 page) slot page less
