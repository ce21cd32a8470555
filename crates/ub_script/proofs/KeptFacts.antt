-- What a tree keeps over several statements.
use Rattle.std.proofs.Common.{◌≡◌, ◌∙◌, inl, inr, ◌⊎◌, ℕ, Bool, true, false, IsTrue, Result, Ok, Err, subst, sym, ap, refl}
use Rattle.std.specs.Result.{IsErrAnd}
use Rattle.ub_exec.specs.Deleting.{HasMetDevice}
use Rattle.ub_exec.proofs.Laws.{read_stand, stand_by, trees_stand_soundly}
use Rattle.ub_script.specs.Basis.{Basis, on_stand, over_any, IsBasisOf, IsRestOf, Stands, asked_left}
use Rattle.ub_script.specs.Faults.{IsGiven, IsRunLeft, Runs, RunsReading, counted}
use Rattle.ub_script.specs.declared.fault.RunFault.{RunFault}
use Rattle.ub_script.specs.declared.fault.RunFault.TheVariants as run
use Rattle.ub_store.specs.Facts.{StoreFacts, IsHonest, raised}
use Rattle.ub_store.specs.declared.fault.StoreFault.TheVariants as store
use Rattle.ub_tree.proofs.Laws.{IsTraced, Keeps, Keeps-by, mark_then, read_fault_before}
use Rattle.ub_tree.specs.Effects.{KeepsMark, Works}
use Rattle.ub_tree.specs.View.{TreeView, IsSound}
use Rattle.ub_tree.specs.declared.fault.TreeFault.{TreeFault}
use Rattle.ub_tree.specs.declared.fault.TreeFault.TheVariants as tree
use Rattle.ub_tree.specs.declared.read_fault.ReadFault.TheVariants as read

-- ---- calls that only read

-- what replies over a tree rest on is kept
pub basis_kept : (a b : TreeView) (basis : Basis) → Keeps a b → IsBasisOf a basis → IsBasisOf b basis
basis_kept a b (on_stand s) h is = stand_by a b s h is
basis_kept a b (over_any seen) h is = h.traced ∙ ap (λ (t : TreeView). record t { trace = b.trace }) is

-- the regions of what replies over a tree rest on are its own
pub stands_of : (t : TreeView) (basis : Basis) → IsBasisOf t basis → Stands basis
stands_of t (on_stand s) is = trees_stand_soundly t s is
stands_of t (over_any seen) is = tt

-- it is left where a fault came
pub rest_of : (t : TreeView) (basis : Basis) → IsBasisOf t basis → IsRestOf t basis
rest_of t (on_stand s) is = λ working. is
rest_of t (over_any seen) is = is

-- what a count says doesn't depend on what might have been answered
counted_alike : (A B : Type 0) (fault : RunFault) (n : ℕ) → counted {A = A} (Err fault) n ≡ counted {A = B} (Err fault) n
counted_alike A B run.Memory n = refl
counted_alike A B run.Write n = refl
counted_alike A B (run.Load fault) n = refl
counted_alike A B (run.Tree fault) n = refl

-- also where a run that reads was ended by that
pub rest_reading : (A : Type 0) (a b : TreeView) (basis : Basis) (fault : RunFault) → IsBasisOf a basis → RunsReading {A = A} a b (Err fault) → IsRestOf b (asked_left basis fault)
rest_reading A a b (over_any seen) fault is h =
    h.same ∙ ap (λ (n : ℕ). record a { store = record a.store { failed_reads = n }; trace = b.trace }) (counted_alike A (Unit {0}) fault a.store.failed_reads)
    ∙ ap (λ (t : TreeView). record t { store = record t.store { failed_reads = counted {A = Unit {0}} (Err fault) t.store.failed_reads }; trace = b.trace }) is
rest_reading A a b (on_stand s) run.Memory is h = λ working. stand_by a b s (Keeps-by a b h.same) is
rest_reading A a b (on_stand s) run.Write is h = λ working. stand_by a b s (Keeps-by a b h.same) is
rest_reading A a b (on_stand s) (run.Load fault) is h = absurd h.faults
rest_reading A a b (on_stand s) (run.Tree fault) is h = λ working. read_stand {A = A} a b s (read.Tree fault) (record { same = h.same; faults = (h.faults.0, h.faults.1) }) is

-- a run's fault, seen from before an earlier call that only read
pub given_before : (a b : TreeView) (fault : RunFault) → IsTraced a b → IsGiven b fault → IsGiven a fault
given_before a b run.Memory h is = tt
given_before a b run.Write h is = tt
given_before a b (run.Load fault) h is = is
given_before a b (run.Tree fault) h is =
    (read_fault_before a b fault h is.0, is.1, λ failed. is.2 (subst IsTrue (sym (ap (λ (t : TreeView). t.is_failed) h)) failed))

-- a run that reads after one that reads is one that reads
pub reads_by : {T U : Type 0} (r : Result T RunFault) (e : RunFault) (a b c : TreeView) → IsErrAnd r (λ x. x ≡ e) → IsTraced a b → RunsReading {A = U} b c (Err e) → RunsReading a c r
reads_by (Ok x) e a b c is h runs = absurd is
reads_by {T = T} (Err f) e a b c is h runs = rw is (record {
  same = runs.same ∙ ap (λ (t : TreeView). record t { store = record t.store { failed_reads = counted {A = T} (Err e) t.store.failed_reads }; trace = c.trace }) h;
  faults = given_before a b e h runs.faults;
})

-- ---- a run that reads is a run

-- the store has the pages that it had
works_by : (a b : TreeView) → b.is_failed ≡ a.is_failed → b.store ≡ a.store → Works a b
works_by a b failed same = (failed, same ∙ ap (λ (s : StoreFacts). record a.store { pages = s.pages; synced = s.synced }) (sym same))

works_traced : (a b : TreeView) → IsTraced a b → Works a b
works_traced a b same = works_by a b (ap (λ (t : TreeView). t.is_failed) same) (ap (λ (t : TreeView). t.store) same)

-- a read failed
missed : (a b : TreeView) → b ≡ record a { store = record a.store { failed_reads = raised a.store.failed_reads 1 }; trace = b.trace } → HasMetDevice a b
missed a b same =
    let store : b.store ≡ record a.store { failed_reads = raised a.store.failed_reads 1 } = ap (λ (t : TreeView). t.store) same in
    inl (
      ap (λ (t : TreeView). t.is_failed) same,
      store ∙ ap (λ (s : StoreFacts). record a.store { pages = s.pages; synced = s.synced; failed_reads = raised a.store.failed_reads 1 }) (sym store),
    )

-- what a fault leaves
left_reading : (A : Type 0) (a b : TreeView) (fault : RunFault) → b ≡ record a { store = record a.store { failed_reads = counted {A = A} (Err fault) a.store.failed_reads }; trace = b.trace }
    → IsGiven a fault → IsRunLeft a b fault
left_reading A a b run.Memory same is = works_traced a b same
left_reading A a b run.Write same is = works_traced a b same
left_reading A a b (run.Load fault) same is = is
left_reading A a b (run.Tree tree.Full) same is = absurd is.0
left_reading A a b (run.Tree tree.Failed) same is = (is.0, works_traced a b same)
left_reading A a b (run.Tree tree.Memory) same is = absurd (is.1 refl)
left_reading A a b (run.Tree (tree.Page page fault)) same is = (is.0.0, works_traced a b same)
left_reading A a b (run.Tree (tree.Store store.Device)) same is = (is.0, missed a b same)
left_reading A a b (run.Tree (tree.Store store.NoPage)) same is = (is.0.0, works_traced a b same)
left_reading A a b (run.Tree (tree.Store store.BadSize)) same is = absurd is.0
left_reading A a b (run.Tree (tree.Store store.Memory)) same is = absurd is.0

-- what it keeps of a tree's mark
marked_reading : {A : Type 0} (r : Result A RunFault) (a b : TreeView) → RunsReading a b r → KeepsMark a b
marked_reading r a b h = subst (λ (t : TreeView). KeepsMark a t) (sym h.same) (λ honest had changed. had changed)

pub runs_of : {A : Type 0} (r : Result A RunFault) (a b : TreeView) → RunsReading a b r → Runs a b r
runs_of (Ok x) a b h = record {
  schema = ap (λ (t : TreeView). t.schema) h.same;
  sound = λ sound. (Keeps-by a b h.same).sound sound;
  marked = marked_reading (Ok x) a b h;
  done = works_traced a b h.same;
  left = tt;
}
runs_of {A = A} (Err e) a b h = record {
  schema = ap (λ (t : TreeView). t.schema) h.same;
  sound = λ sound. tt;
  marked = marked_reading (Err e) a b h;
  done = tt;
  left = left_reading A a b e h.same h.faults;
}

-- ---- a run after a run

pub works_more : (a b c : TreeView) → Works a b → Works b c → Works a c
works_more a b c h k = (k.0 ∙ h.0, k.1 ∙ ap (λ (s : StoreFacts). record s { pages = c.store.pages; synced = c.store.synced }) h.1)

device_more : (a b c : TreeView) → Works a b → HasMetDevice b c → HasMetDevice a c
device_more a b c h (inl k) =
    inl (k.0 ∙ h.0, k.1 ∙ ap (λ (s : StoreFacts). record s { pages = c.store.pages; synced = c.store.synced; failed_reads = raised s.failed_reads 1 }) h.1)
device_more a b c h (inr k) =
    inr (k.0, k.1 ∙ ap (λ (s : StoreFacts). record s { pages = c.store.pages; synced = c.store.synced; failed_writes = raised s.failed_writes 1 }) h.1)

pub honest_before : (a b : TreeView) → Works a b → IsHonest a.store → IsHonest b.store
honest_before a b h honest = subst (λ (s : StoreFacts). IsHonest s) (sym h.1) honest

left_more : (a b c : TreeView) (fault : RunFault) → (IsSound a → IsSound b) → Works a b → IsRunLeft b c fault → IsRunLeft a c fault
left_more a b c run.Memory sound h k = works_more a b c h k
left_more a b c run.Write sound h k = works_more a b c h k
left_more a b c (run.Load fault) sound h k = k
left_more a b c (run.Tree tree.Full) sound h k = (k.0, works_more a b c h k.1)
left_more a b c (run.Tree tree.Failed) sound h k = (subst (λ (x : Bool). IsTrue x) h.0 k.0, works_more a b c h k.1)
left_more a b c (run.Tree tree.Memory) sound h k = k
left_more a b c (run.Tree (tree.Page page fault)) sound h k = (λ is. k.0 (sound is), works_more a b c h k.1)
left_more a b c (run.Tree (tree.Store store.Device)) sound h k =
    (subst (λ (x : Bool). IsTrue x) (ap (λ (s : StoreFacts). s.can_fail) h.1) k.0, device_more a b c h k.1)
left_more a b c (run.Tree (tree.Store store.NoPage)) sound h k = (λ is. k.0 (sound is), works_more a b c h k.1)
left_more a b c (run.Tree (tree.Store store.BadSize)) sound h (k, mid, full, leaves) = (works_more a b c h k, mid, full, leaves)
left_more a b c (run.Tree (tree.Store store.Memory)) sound h k = k

-- after a run that came to its end
pub runs_more : {T U : Type 0} (x : T) (r : Result U RunFault) (a b c : TreeView) → Runs a b (Ok x) → Runs b c r → Runs a c r
runs_more x (Ok y) a b c h k = record {
  schema = k.schema ∙ h.schema;
  sound = λ sound. k.sound (h.sound sound);
  marked = mark_then a b c (honest_before a b h.done) h.schema h.marked k.marked;
  done = works_more a b c h.done k.done;
  left = tt;
}
runs_more x (Err e) a b c h k = record {
  schema = k.schema ∙ h.schema;
  sound = λ sound. tt;
  marked = mark_then a b c (honest_before a b h.done) h.schema h.marked k.marked;
  done = tt;
  left = left_more a b c e h.sound h.done k.left;
}

-- what it says doesn't depend on what is answered
pub runs_ok : {T U : Type 0} (x : T) (y : U) (a b : TreeView) → Runs a b (Ok x) → Runs a b (Ok y)
runs_ok x y a b h = record { schema = h.schema; sound = h.sound; marked = h.marked; done = h.done; left = tt }

pub runs_err : {T : Type 0} (U : Type 0) (r : Result T RunFault) (e : RunFault) (a b : TreeView) → IsErrAnd r (λ x. x ≡ e) → Runs {A = U} a b (Err e) → Runs a b r
runs_err U (Ok x) e a b is h = absurd is
runs_err U (Err f) e a b is h = rw is (record { schema = h.schema; sound = λ sound. tt; marked = h.marked; done = tt; left = h.left })

-- nothing was done
pub runs_none : {T : Type 0} (x : T) (a : TreeView) → Runs a a (Ok x)
runs_none x a = record { schema = refl; sound = λ sound. sound; marked = λ honest had changed. had changed; done = (refl, refl); left = tt }

pub runs_memory : {T : Type 0} (r : Result T RunFault) (a : TreeView) → r ≡ Err run.Memory → Runs a a r
runs_memory {T = T} r a is = subst (λ (q : Result T RunFault). Runs a a q) (sym is) (record {
  schema = refl;
  sound = λ sound. tt;
  marked = λ honest had changed. had changed;
  done = tt;
  left = (refl, refl);
})

-- the tree was read to the end, or it was run on, and then a write failed
pub runs_write : {T U : Type 0} (x : T) (r : Result U RunFault) (a b : TreeView) → IsErrAnd r (λ e. e ≡ run.Write) → Runs a b (Ok x) → Runs a b r
runs_write x (Ok y) a b is h = absurd is
runs_write x (Err e) a b is h = rw is (record { schema = h.schema; sound = λ sound. tt; marked = h.marked; done = tt; left = h.done })

pub reads_write : {T U : Type 0} (x : T) (r : Result U RunFault) (a b : TreeView) → IsErrAnd r (λ e. e ≡ run.Write) → RunsReading a b (Ok x) → RunsReading a b r
reads_write x (Ok y) a b is h = absurd is
reads_write x (Err e) a b is h = rw is (record { same = h.same; faults = tt })

pub reads_ok : {T U : Type 0} (x : T) (y : U) (a b : TreeView) → RunsReading a b (Ok x) → RunsReading a b (Ok y)
reads_ok x y a b h = record { same = h.same; faults = tt }

pub reads_err : {T : Type 0} (U : Type 0) (r : Result T RunFault) (e : RunFault) (a b : TreeView) → IsErrAnd r (λ x. x ≡ e) → RunsReading {A = U} a b (Err e) → RunsReading a b r
reads_err U (Ok x) e a b is h = absurd is
reads_err U (Err f) e a b is h = rw is (record { same = h.same; faults = h.faults })

both : (x : Bool) → IsTrue x → x ≡ false → ⊥
both true is not = cc
both false is not = cc

-- over a sound tree whose store never fails a run ends by want of room alone
pub sound_left : (a b : TreeView) (fault : TreeFault) → IsSound a → a.store.can_fail ≡ false → IsRunLeft a b (run.Tree fault)
    → (fault ≡ tree.Full) ⊎ (fault ≡ tree.Store store.BadSize)
sound_left a b tree.Full sound never left = inl refl
sound_left a b tree.Failed sound never left = absurd (both a.is_failed left.0 sound.working)
sound_left a b tree.Memory sound never left = absurd left
sound_left a b (tree.Page page fault) sound never left = absurd (left.0 sound)
sound_left a b (tree.Store store.Device) sound never left = absurd (both a.store.can_fail left.0 never)
sound_left a b (tree.Store store.NoPage) sound never left = absurd (left.0 sound)
sound_left a b (tree.Store store.BadSize) sound never left = inr refl
sound_left a b (tree.Store store.Memory) sound never left = absurd left
