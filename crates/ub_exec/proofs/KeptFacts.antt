-- What a sweep leaves of a tree is what a call leaves that reads it.
use Rattle.std.proofs.Common.{◌≡◌, ◌∙◌, Bool, false, Result, Ok, Err, refl, sym, ap}
use Rattle.std.specs.Result.{IsErrAnd}
use Rattle.ub_planning.specs.Plan.{PlanView}
use Rattle.ub_store.specs.Facts.{StoreFacts}
use Rattle.ub_tetris.specs.Effects.{Begins, IsBeginFault, IsSweepFault, Sweeps, as_read}
use Rattle.ub_tetris.specs.Sweep.{AreItsStretches, SweepView}
use Rattle.ub_tetris.specs.declared.fault.SweepFault.{SweepFault}
use Rattle.ub_tetris.specs.declared.fault.SweepFault.TheVariants as sweep
use Rattle.ub_tree.specs.Reading.{IsGiven, ReadsTree, read_store}
use Rattle.ub_tree.specs.View.{TreeView}
use Rattle.ub_tree.specs.declared.fault.TreeFault.TheVariants as tree
use Rattle.ub_tree.specs.declared.read_fault.ReadFault.{ReadFault}

-- the fault of a sweep that hasn't failed before
given_of : (failed : Bool) (old : TreeView) (e : SweepFault) → failed ≡ false → IsSweepFault failed old e → IsGiven old (as_read e)
given_of failed old sweep.Memory working is = tt
given_of failed old (sweep.Tree fault) working is = is
given_of failed old sweep.Failed working is = cc

-- or one of its beginning
given_first : (old : TreeView) (e : SweepFault) → IsBeginFault old e → IsGiven old (as_read e)
given_first old sweep.Memory is = tt
given_first old (sweep.Tree tree.Failed) is = (is, λ x. cc)
given_first old (sweep.Tree tree.Full) is = absurd is
given_first old (sweep.Tree tree.Memory) is = absurd is
given_first old (sweep.Tree (tree.Page page fault)) is = absurd is
given_first old (sweep.Tree (tree.Store fault)) is = absurd is
given_first old sweep.Failed is = absurd is

-- which leaves the store as it was
first_store : (T : Type 0) (old : TreeView) (e : SweepFault) → IsBeginFault old e → read_store {A = T} (Err (as_read e)) old.store ≡ old.store
first_store T old sweep.Memory is = refl
first_store T old (sweep.Tree tree.Failed) is = refl
first_store T old (sweep.Tree tree.Full) is = absurd is
first_store T old (sweep.Tree tree.Memory) is = absurd is
first_store T old (sweep.Tree (tree.Page page fault)) is = absurd is
first_store T old (sweep.Tree (tree.Store fault)) is = absurd is
first_store T old sweep.Failed is = absurd is

-- the fault of a sweep's call handed on
pub begins_reads : {T U : Type 0} (r : Result T ReadFault) (e : SweepFault) (old new : TreeView) → IsErrAnd r (λ x. x ≡ as_read e) → Begins {A = U} old new (Err e) → ReadsTree old new r
begins_reads (Ok x) e old new is begins = absurd is
begins_reads {T = T} (Err f) e old new is begins = rw is (record {
  same = begins.same ∙ ap (λ (t : TreeView). record old { trace = t.trace }) (sym begins.same)
      ∙ ap (λ (store : StoreFacts). record old { store = store; trace = new.trace }) (sym (first_store T old e begins.faults));
  faults = given_first old e begins.faults;
})

pub sweeps_reads : {T U : Type 0} (plan : PlanView) (r : Result T ReadFault) (e : SweepFault) (s new_s : SweepView) (old new : TreeView) → IsErrAnd r (λ x. x ≡ as_read e) → s.is_failed ≡ false
    → AreItsStretches old s → Sweeps {A = U} plan s new_s old new (Err e) → ReadsTree old new r
sweeps_reads plan (Ok x) e s new_s old new is working told sweeps = absurd is
sweeps_reads {T = T} plan (Err f) e s new_s old new is working told sweeps = rw is (record {
  same = sweeps.same ∙ ap (λ (t : TreeView). record old { store = read_store {A = T} (Err (as_read e)) old.store; trace = t.trace }) (sym sweeps.same);
  faults = given_of s.is_failed old e working (sweeps.faults told);
})
