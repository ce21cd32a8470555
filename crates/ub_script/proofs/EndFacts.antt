-- What follows of a call that a fault ended: it answers nothing, and what it leaves is that of a run.
use Rattle.std.proofs.Common.{◌≡◌, ◌≢◌, ◌∙◌, IsTrue, Result, Ok, Err, IfErr, IfOk, IsErrOf, List, ℕ, ap, sym, refl}
use Rattle.std.specs.Result.{IsErrAnd}
use Rattle.ub_exec.specs.Deleting.{Deletes}
use Rattle.ub_script.proofs.KeptFacts.{runs_memory}
use Rattle.ub_script.specs.Faults.{Runs, RunsReading, failures_after, fault_of_read, fault_of_tree}
use Rattle.ub_script.specs.Output.{OutFacts, Breaks}
use Rattle.ub_script.specs.declared.fault.RunFault.{RunFault}
use Rattle.ub_script.specs.declared.fault.RunFault.TheVariants as run
use Rattle.ub_table.specs.declared.row.Row.{Row}
use Rattle.ub_tree.specs.Change.{IsInserted}
use Rattle.ub_tree.specs.Effects.{Changes}
use Rattle.ub_tree.specs.Reading.{ReadsTree}
use Rattle.ub_tree.specs.View.{TreeView, IsSound}
use Rattle.ub_tree.specs.declared.fault.TreeFault.{TreeFault}
use Rattle.ub_tree.specs.declared.fault.TreeFault.TheVariants as tree
use Rattle.ub_tree.specs.declared.read_fault.ReadFault.{ReadFault}
use Rattle.ub_tree.specs.declared.read_fault.ReadFault.TheVariants as read

-- nothing is told of what a call gives that a fault ended
pub no_answer : {T E : Type 0} (r : Result T E) (Q : E → Type 0) (P : T → Type 0) → IsErrAnd r Q → IfOk r P
no_answer (Ok x) Q P is = absurd is
no_answer (Err e) Q P is = tt

-- its fault is no failed write where it comes of another one
pub no_write_by : {T : Type 0} (r : Result T RunFault) (e : RunFault) → IsErrAnd r (λ x. x ≡ e) → e ≢ run.Write → ¬ (IsErrOf r run.Write)
no_write_by (Ok x) e is differs same = cc
no_write_by (Err f) e is differs same = differs (let one : f ≡ run.Write = cc in sym is ∙ one)

pub memory_no_write : run.Memory ≢ run.Write
memory_no_write same = cc

pub read_no_write : (e : ReadFault) → fault_of_read e ≢ run.Write
read_no_write read.Memory same = cc
read_no_write (read.Tree fault) same = cc

pub tree_no_write : (e : TreeFault) → fault_of_tree e ≢ run.Write
tree_no_write tree.Full same = cc
tree_no_write tree.Failed same = cc
tree_no_write tree.Memory same = cc
tree_no_write (tree.Page page fault) same = cc
tree_no_write (tree.Store fault) same = cc

-- an answer is no failed write
pub no_write_ok : {T : Type 0} (x : T) → ¬ (IsErrOf {E = RunFault} (Ok x) run.Write)
no_write_ok x same = cc

-- nor is want of memory
pub refused_no_write : {T : Type 0} (r : Result T RunFault) → IfErr r (λ e. e ≡ run.Memory) → ¬ (IsErrOf r run.Write)
refused_no_write (Ok x) memory same = cc
refused_no_write (Err f) memory same = memory_no_write (let one : f ≡ run.Write = cc in sym memory ∙ one)

-- memory was refused before anything was done
pub runs_unbegun : {T : Type 0} (r : Result T RunFault) (a : TreeView) → IsErrAnd r (λ x. x ≡ run.Memory) → Runs a a r
runs_unbegun (Ok x) a is = absurd is
runs_unbegun (Err f) a is = rw is (runs_memory (Err run.Memory) a refl)

pub reads_unbegun : {T : Type 0} (r : Result T RunFault) (a : TreeView) → IsErrAnd r (λ x. x ≡ run.Memory) → RunsReading a a r
reads_unbegun (Ok x) a is = absurd is
reads_unbegun (Err f) a is = rw is (record { same = refl; faults = tt })

-- memory was refused after rows were taken out
pub runs_untold : {T : Type 0} (r : Result T RunFault) (count : ℕ) (a b : TreeView) → IsErrAnd r (λ x. x ≡ run.Memory) → Deletes a b (Ok count) → Runs a b r
runs_untold (Ok x) count a b is deletes = absurd is
runs_untold (Err f) count a b is deletes = rw is (record {
  schema = ap (λ (t : TreeView). t.schema) deletes.frame;
  sound = λ sound. tt;
  marked = deletes.marked;
  done = tt;
  left = deletes.done;
})

-- what is answered where the tree has failed, and where a fault came
abbrev fails : (A : Type 0) → Result A ReadFault
fails A = Err (read.Tree tree.Failed)

abbrev ends : (A : Type 0) → ReadFault → Result A ReadFault
ends A e = Err e

-- the tree was read, or searched, and then a fault came of it
reads_left : (A T : Type 0) (e : ReadFault) (a b : TreeView) → ReadsTree {A = A} a b (Err e) → (IsTrue a.is_failed → ends A e ≡ fails A) → RunsReading {A = T} a b (Err (fault_of_read e))
reads_left A T read.Memory a b h failed = record { same = h.same; faults = tt }
reads_left A T (read.Tree fault) a b h failed = record { same = h.same; faults = (h.faults.0, h.faults.1, λ is. one fault (failed is)) }
  where
    one : (fault : TreeFault) → ends A (read.Tree fault) ≡ fails A → fault ≡ tree.Failed
    one fault same = cc

pub reads_refused : {A T : Type 0} (r : Result T RunFault) (e : ReadFault) (a b : TreeView) → IsErrAnd r (λ x. x ≡ fault_of_read e) → ReadsTree {A = A} a b (Err e)
    → (IsTrue a.is_failed → ends A e ≡ fails A) → RunsReading a b r
reads_refused (Ok x) e a b is h failed = absurd is
reads_refused {A = A} {T = T} (Err f) e a b is h failed = rw is (reads_left A T e a b h failed)

-- it was read to the end
pub reads_done : {A T : Type 0} (x : A) (y : T) (a b : TreeView) → ReadsTree a b (Ok x) → RunsReading a b (Ok y)
reads_done x y a b h = record { same = h.same; faults = tt }

-- and then memory was refused
pub reads_untold : {A T : Type 0} (r : Result T RunFault) (x : A) (a b : TreeView) → IsErrAnd r (λ e. e ≡ run.Memory) → ReadsTree a b (Ok x) → RunsReading a b r
reads_untold (Ok y) x a b is h = absurd is
reads_untold (Err e) x a b is h = rw is (record { same = h.same; faults = tt })

-- a row was put in
pub runs_put : {T : Type 0} (x : T) (n : ℕ) (row : Row) (a b : TreeView) → (IsSound a → IsInserted row a b) → Changes a b (Ok n) → Runs a b (Ok x)
runs_put x n row a b inserted changes = record {
  schema = ap (λ (t : TreeView). t.schema) changes.frame;
  sound = λ sound. (inserted sound).sound;
  marked = changes.marked.marked;
  done = changes.done;
  left = tt;
}

-- ---- what is told of an output

-- a fault that is no failed write is counted nowhere
kept_by : (U : Type 0) (e : RunFault) (n : ℕ) → e ≢ run.Write → n ≡ failures_after {A = U} (Err e) n
kept_by U run.Memory n differs = refl
kept_by U run.Write n differs = absurd (differs refl)
kept_by U (run.Load fault) n differs = refl
kept_by U (run.Tree fault) n differs = refl

pub failures_kept : {T : Type 0} (r : Result T RunFault) (e : RunFault) (n : ℕ) → IsErrAnd r (λ x. x ≡ e) → e ≢ run.Write → n ≡ failures_after r n
failures_kept (Ok x) e n is differs = absurd is
failures_kept {T = T} (Err f) e n is differs = rw is (kept_by T e n differs)

-- after a failed write one more is counted, and nothing is told of other faults
pub failures_raised : {T : Type 0} (r : Result T RunFault) (a b : OutFacts) (bytes : List ℕ) → IsErrAnd r (λ x. x ≡ run.Write) → Breaks bytes a b → b.failures ≡ failures_after r a.failures
failures_raised (Ok x) a b bytes is broken = absurd is
failures_raised (Err f) a b bytes is (front, cut, taken) = rw is taken.failures

pub only_write : {T : Type 0} (r : Result T RunFault) (X : RunFault → Type 0) → IsErrAnd r (λ x. x ≡ run.Write) → IfErr r (λ e. e ≢ run.Write → X e)
only_write (Ok x) X is = absurd is
only_write (Err e) X is = λ differs. absurd (differs is)
