-- What a run tells of a table that isn't loaded into memory.
use Rattle.std.proofs.Common.{◌≡◌, ◌≢◌, ◌⊎◌, ◌∙◌, sym, Option, Some, Result, Err, inl, inr, subst}
use Rattle.ub_load.specs.Loading.{IsToldOf}
use Rattle.ub_load.specs.declared.fault.LoadFault.{LoadFault}
use Rattle.ub_load.specs.declared.fault.LoadFault.TheVariants as load
use Rattle.ub_load.proofs.Laws.{told_sure, told_tree}
use Rattle.ub_tree.specs.declared.fault.TreeFault.{TreeFault}
use Rattle.ub_tree.specs.declared.fault.TreeFault.TheVariants as tree
use Rattle.ub_script.specs.Faults.{fault_of_load}
use Rattle.ub_script.specs.declared.fault.RunFault.{RunFault}
use Rattle.ub_script.specs.declared.fault.RunFault.TheVariants.{Load, Tree, Write}

-- a fault of loading that a run gives is none of memory
given_load : (f fault : LoadFault) → fault_of_load f ≡ Load fault → (f ≡ fault) × (fault ≢ load.Memory)
given_load load.NoHeader fault e = let same : load.NoHeader ≡ fault = cc in (same, λ bad. cc)
given_load (load.BadName n) fault e = let same : load.BadName n ≡ fault = cc in (same, λ bad. cc)
given_load load.ColumnCount fault e = let same : load.ColumnCount ≡ fault = cc in (same, λ bad. cc)
given_load (load.BadNumber row column) fault e = let same : load.BadNumber row column ≡ fault = cc in (same, λ bad. cc)
given_load (load.OutOfRange row column) fault e = let same : load.OutOfRange row column ≡ fault = cc in (same, λ bad. cc)
given_load load.Csv fault e = let same : load.Csv ≡ fault = cc in (same, λ bad. cc)
given_load (load.Tree of_tree) fault e = let same : load.Tree of_tree ≡ fault = cc in (same, λ bad. cc)
given_load load.Memory fault e = cc

-- nor is it a failed write
pub load_no_write : (f : LoadFault) → fault_of_load f ≢ Write
load_no_write load.NoHeader e = cc
load_no_write (load.BadName n) e = cc
load_no_write load.ColumnCount e = cc
load_no_write (load.BadNumber row column) e = cc
load_no_write (load.OutOfRange row column) e = cc
load_no_write load.Csv e = cc
load_no_write (load.Tree fault) e = cc
load_no_write load.Memory e = cc

-- nor one of a tree that is there
load_no_tree : (f : LoadFault) (fault : TreeFault) → fault_of_load f ≢ Tree fault
load_no_tree load.NoHeader fault e = cc
load_no_tree (load.BadName n) fault e = cc
load_no_tree load.ColumnCount fault e = cc
load_no_tree (load.BadNumber row column) fault e = cc
load_no_tree (load.OutOfRange row column) fault e = cc
load_no_tree load.Csv fault e = cc
load_no_tree (load.Tree of_tree) fault e = cc
load_no_tree load.Memory fault e = cc

pub no_tree_by : {T : Type 0} (r : Result T RunFault) (given : RunFault) (f : LoadFault) → r ≡ Err given → given ≡ fault_of_load f → (fault : TreeFault) → r ≢ Err (Tree fault)
no_tree_by r given f is of_load fault same =
    let both : Err given ≡ Err (Tree fault) = sym is ∙ same in
    let one : given ≡ Tree fault = cc in
    load_no_tree f fault (sym of_load ∙ one)

module _ {T : Type 0} (r : Result T RunFault) (given : RunFault) (f : LoadFault) (is : r ≡ Err given) (of_load : given ≡ fault_of_load f)
    (first : Option LoadFault) (F B : Type 0) (reliable : ¬ F) (honest : ¬ B) (told : (f ≡ load.Csv) ⊎ IsToldOf first F B f) where
  the_fault : (fault : LoadFault) → r ≡ Err (Load fault) → (f ≡ fault) × (fault ≢ load.Memory)
  the_fault fault same =
      let both : Err given ≡ Err (Load fault) = sym is ∙ same in
      let one : given ≡ Load fault = cc in
      given_load f fault (sym of_load ∙ one)

  the_reason : (fault : LoadFault) → f ≡ fault → (fault ≡ load.Csv) ⊎ IsToldOf first F B fault
  the_reason fault same = subst (λ (g : LoadFault). (g ≡ load.Csv) ⊎ IsToldOf first F B g) same told

  -- it is the first thing wrong, unless `csv` refused a record
  pub first_wrong : (fault : LoadFault) → r ≡ Err (Load fault) → fault ≢ load.Csv → first ≡ Some fault
  first_wrong fault same other =
      let parts = the_fault fault same in
      elim (the_reason fault parts.0) [
        | inl csv ↦ absurd (other csv)
        | inr wrong ↦ told_sure reliable honest fault wrong parts.1
      ]

  -- of the tree's it is this one
  pub tree_wrong : (fault : TreeFault) → r ≡ Err (Load (load.Tree fault)) → fault ≡ tree.Full
  tree_wrong fault same =
      elim (the_reason (load.Tree fault) (the_fault (load.Tree fault) same).0) [
        | inl csv ↦ cc
        | inr wrong ↦ told_tree _ reliable honest fault wrong
      ]
