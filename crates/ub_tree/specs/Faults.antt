-- The faults of a store, of an index and of an upgrade, as those of a tree.
use Rattle.ub_index.specs.declared.fault.IndexFault.TheVariants as index
use Rattle.ub_tree.specs.Common.{Full, Memory, Page, Store, StoreFault, TreeFault}
use Rattle.ub_index.specs.declared.fault.IndexFault.{IndexFault}
use Rattle.ub_upgrade.specs.declared.fault.UpgradeFault.{UpgradeFault}
use Rattle.ub_store.specs.declared.fault.StoreFault.TheVariants as store
use Rattle.ub_upgrade.specs.declared.fault.UpgradeFault.TheVariants as upgrade

-- a store's fault, and an index's, as one of a tree
abbrev pub tree_fault : StoreFault → TreeFault
tree_fault store.Memory = Memory
tree_fault fault = Store fault

abbrev pub index_fault : IndexFault → TreeFault
index_fault (index.Page page fault) = Page page fault
index_fault (index.Store fault) = tree_fault fault
index_fault index.Full = Full

-- a fault of an upgrade, as one of a tree: which of the two stores refused is left out
abbrev pub upgrade_fault : UpgradeFault → TreeFault
upgrade_fault (upgrade.Page page fault) = Page page fault
upgrade_fault (upgrade.Old fault) = tree_fault fault
upgrade_fault (upgrade.New fault) = tree_fault fault
