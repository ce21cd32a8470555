-- A fault that is handed on: nothing is promised of an answer, and what was read before it is all that was read.
use Rattle.std.proofs.Common.{◌≡◌, ◌∙◌, Result, Ok, Err, refl, sym, ap}
use Rattle.std.specs.Prelude.{IfOk, OnOk}
use Rattle.std.specs.Result.{IsErrAnd}
use Rattle.ub_table.specs.declared.row.Key.{Key}
use Rattle.ub_tree.proofs.Laws.{IsTraced, searched_fault, tree_reads}
use Rattle.ub_tree.specs.Effects.{SearchesFor, raised_by}
use Rattle.ub_tree.specs.Reading.{ReadsTree, fault_of_tree}
use Rattle.ub_tree.specs.View.{TreeView}
use Rattle.ub_tree.specs.declared.fault.TreeFault.{TreeFault}
use Rattle.ub_tree.specs.declared.read_fault.ReadFault.{ReadFault}
use Rattle.ub_tree.specs.declared.read_fault.ReadFault.TheVariants as read

-- what is promised of the answer
pub no_answer : {T E : Type 0} (r : Result T E) (P : E → Type 0) (Q : T → Type 0) → IsErrAnd r P → IfOk r Q
no_answer (Ok x) P Q is = absurd is
no_answer (Err e) P Q is = tt

-- what is promised where there is an answer
pub no_result : {T E : Type 0} (r : Result T E) (P : E → Type 0) (Q : Type 0) → IsErrAnd r P → OnOk r Q
no_result (Ok x) P Q is = absurd is
no_result (Err e) P Q is = tt

-- it is no answer
pub not_answered : {T E X : Type 0} (r : Result T E) (P : E → Type 0) (x : T) → IsErrAnd r P → r ≡ Ok x → X
not_answered (Ok x) P y is same = absurd is
not_answered (Err e) P y is same = cc

-- memory was refused after some reading
pub memory_reads : {T : Type 0} (r : Result T ReadFault) (a b : TreeView) → IsErrAnd r (λ x. x ≡ read.Memory) → IsTraced a b → ReadsTree a b r
memory_reads (Ok x) a b is traced = absurd is
memory_reads (Err f) a b is traced = rw is (record { same = traced; faults = tt })

-- the fault of a search handed on
pub search_reads : {T U : Type 0} {Sought : Key → Type 0} (r : Result T ReadFault) (e : TreeFault) (a b : TreeView) → IsErrAnd r (λ x. x ≡ fault_of_tree e)
    → SearchesFor {A = U} Sought a b (Err e) → ReadsTree a b r
search_reads {Sought = Sought} r e a b is searches =
    tree_reads r e a a b is refl
    (searches.same ∙ ap (λ (t : TreeView). record a { store = record a.store { failed_reads = raised_by e a.store.failed_reads }; trace = t.trace }) (sym searches.same)) (searched_fault Sought a e searches.faults)

-- the same fault of a search handed on
pub same_search : {T U : Type 0} {Sought : Key → Type 0} (r : Result T TreeFault) (e : TreeFault) (a b : TreeView) → IsErrAnd r (λ x. x ≡ e)
    → SearchesFor {A = U} Sought a b (Err e) → SearchesFor Sought a b r
same_search (Ok x) e a b is searches = absurd is
same_search (Err f) e a b is searches = rw is (record { same = searches.same; faults = searches.faults })
