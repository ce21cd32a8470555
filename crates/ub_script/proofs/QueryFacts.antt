-- How the reply to a statement says what its outcome is.
use Rattle.std.proofs.Common.{◌≡◌, ◌≢◌, ◌⊎◌, ◌∙◌, inl, inr, Result, Ok, Err, IfErr, IfOk, IsErrOf, IsTrue, ℕ, ℤ, Bool, true, false, List, refl, sym, ap, subst}
use Rattle.std.specs.Prelude.{OnErr}
use Rattle.ub_lexer.specs.declared.token.Token.{Token}
use Rattle.ub_parser.specs.Outcome.{Told, Command, asks, puts, takes, IsAccepted}
use Rattle.ub_parser.specs.Refusals.{IsFirstFault}
use Rattle.ub_parser.specs.declared.fault.SqlFault.{SqlFault}
use Rattle.ub_parser.specs.declared.fault.SqlFault.TheVariants.{Memory}
use Rattle.ub_query.specs.Shape.{Asked}
use Rattle.ub_script.proofs.KeptFacts.{basis_kept, given_before, rest_of, rest_reading, runs_memory, runs_none, stands_of}
use Rattle.ub_script.specs.Basis.{Basis, on_stand, over_any, schema_of, AreSomeOf, IsAskedFault, IsAskedReply, IsBasisOf, IsCommandEnd, IsEndOf, IsFaultOn, IsFaultOver, IsPassingFault, IsPlaceFault, IsReply, asked_left}
use Rattle.ub_script.specs.Changes.{HasPutIn, HasTakenOut}
use Rattle.ub_script.specs.Faults.{IsGiven, Runs, RunsReading, fault_of_read, fault_of_tree}
use Rattle.ub_script.specs.Formed.{IsSameBut}
use Rattle.ub_script.specs.Loop.{Fetches, Makes, Replies, Stops}
use Rattle.ub_script.specs.Run.{IsAnswer, IsEnded}
use Rattle.ub_script.specs.Script.{IsOutcome, IsTheOutcome, Outcome}
use Rattle.ub_script.specs.Text.{Reply, reply, refused_text}
use Rattle.ub_script.specs.declared.fault.RunFault.{RunFault}
use Rattle.ub_script.specs.declared.fault.RunFault.TheVariants as run
use Rattle.ub_store.specs.declared.fault.StoreFault.TheVariants as store
use Rattle.ub_table.specs.declared.schema.Schema.{Schema}
use Rattle.ub_tree.proofs.Laws.{Keeps-by}
use Rattle.ub_tree.specs.View.{TreeView, IsSound}
use Rattle.ub_tree.specs.declared.fault.TreeFault.{TreeFault}
use Rattle.ub_tree.specs.declared.fault.TreeFault.TheVariants as tree
use Rattle.ub_tree.specs.declared.read_fault.ReadFault.{ReadFault}
use Rattle.ub_tree.specs.declared.read_fault.ReadFault.TheVariants as read

module _ (schema : Schema) (source : List ℕ) (tokens : List Token) where
  -- what is accepted and says nothing else is told nothing else
  accepted_outcome : (c : Command) → IsAccepted source schema tokens c → ((d : Command) → IsAccepted source schema tokens d → c ≡ d)
      → IsTheOutcome schema source tokens (Ok c)
  accepted_outcome c accepted same = record { told = inr (c, accepted, refl); only = only }
    where
      only : (other : Outcome) → IsOutcome schema source tokens other → other ≡ Ok c
      only other (inl (fault, first, e)) = absurd (accepted.fits fault first.0)
      only other (inr (d, is, e)) = e ∙ ap (λ (x : Command). Ok x) (sym (same d is))

  -- nor what is refused for the first of its faults
  refused_outcome : (fault : SqlFault) → fault ≢ Memory → IsFirstFault source schema tokens fault → ((c : Command) → IsAccepted source schema tokens c → fault ≡ Memory)
      → ((f : SqlFault) → IsFirstFault source schema tokens f → (fault ≡ Memory) ⊎ (fault ≡ f)) → IsTheOutcome schema source tokens (Err fault)
  refused_outcome fault differs first none same = record { told = inl (fault, first, refl); only = only }
    where
      one : (f : SqlFault) → (fault ≡ Memory) ⊎ (fault ≡ f) → f ≡ fault
      one f (inl memory) = absurd (differs memory)
      one f (inr is) = sym is

      only : (other : Outcome) → IsOutcome schema source tokens other → other ≡ Err fault
      only other (inl (f, is, e)) = e ∙ ap (λ (g : SqlFault). Err g) (one f (same f is))
      only other (inr (d, is, e)) = absurd (differs (none d is))

-- the schema of a tree is that of what its replies rest on
pub schema_of_basis : (t : TreeView) (basis : Basis) → IsBasisOf t basis → t.schema ≡ schema_of basis
schema_of_basis t (on_stand s) is = sym is.schema_is
schema_of_basis t (over_any seen) is = ap (λ (u : TreeView). u.schema) is

-- ---- a query

-- its reply leaves what it rests on
asked_reply : (basis : Basis) (t : Told) (r : Reply) → IsAskedReply t.is_explained basis t.asked r → r.changed ≡ 0 → IsReply basis (Ok (asks t)) r basis
asked_reply (on_stand s) t r is none = (s, (is, none, refl), refl)
asked_reply (over_any seen) t r is none = (seen, (is, none, refl), refl)

-- and so does the reply to a statement that is refused
refused_reply : (basis : Basis) (fault : SqlFault) (r : Reply) → r ≡ reply (refused_text fault) 0 true 0 → IsReply basis (Err fault) r basis
refused_reply (on_stand s) fault r is = (s, (is, refl), refl)
refused_reply (over_any seen) fault r is = (seen, (is, refl), refl)

-- what is made of it is the reply to it, and leaves what it rested on
asked_replies : {A : Type 0} (basis : Basis) (t : Told) (old new : TreeView) (x : A) (text : List ℕ) (is_refused : Bool) → IsBasisOf old basis → RunsReading old new (Ok x)
    → Makes (IsAskedReply t.is_explained basis t.asked) text is_refused old.trace.fetches new.trace.fetches → Replies (IsReply basis (Ok (asks t))) text is_refused old new
asked_replies basis t old new x text is_refused of h (pages, is, fetched) =
    (pages, 0, basis, asked_reply basis t (reply text pages is_refused 0) is refl, basis_kept old new basis (Keeps-by old new h.same) of, fetched)

pub asked_answer : {A : Type 0} (r : Result A RunFault) (text : A → List ℕ) (is_refused : A → Bool) (basis : Basis) (t : Told) (old new : TreeView) → IsBasisOf old basis → RunsReading old new r
    → IfOk r (λ a. Makes (IsAskedReply t.is_explained basis t.asked) (text a) (is_refused a) old.trace.fetches new.trace.fetches)
    → IfOk r (λ a. Replies (IsReply basis (Ok (asks t))) (text a) (is_refused a) old new)
asked_answer (Ok a) text is_refused basis t old new of h made = asked_replies basis t old new a (text a) (is_refused a) of h made
asked_answer (Err e) text is_refused basis t old new of h made = made

asked_fault : (A : Type 0) (basis : Basis) (old new : TreeView) (fault : RunFault) → IsBasisOf old basis → RunsReading {A = A} old new (Err fault) → IsAskedFault basis fault
asked_fault A (on_stand s) old new fault of h = tt
asked_fault A (over_any seen) old new fault of h = given_before seen old fault of h.faults

-- where a fault ended it
asked_stops : (A : Type 0) (basis : Basis) (t : Told) (old new : TreeView) (fault : RunFault) → IsBasisOf old basis → RunsReading {A = A} old new (Err fault)
    → Fetches (AreSomeOf t.is_explained basis t.asked) old.trace.fetches new.trace.fetches → Stops (IsCommandEnd basis (asks t) fault) old new
asked_stops A basis t old new fault of h (pages, some, fetched) =
    (pages, asked_left basis fault, (some, asked_fault A basis old new fault of h, refl), rest_reading A old new basis fault of h, fetched)

pub asked_ended : {A : Type 0} (r : Result A RunFault) (basis : Basis) (t : Told) (old new : TreeView) → IsBasisOf old basis → RunsReading old new r
    → OnErr r (Fetches (AreSomeOf t.is_explained basis t.asked) old.trace.fetches new.trace.fetches) → IfErr r (λ fault. Stops (IsCommandEnd basis (asks t) fault) old new)
asked_ended (Ok a) basis t old new of h some = tt
asked_ended {A = A} (Err e) basis t old new of h some = asked_stops A basis t old new e of h some

-- what is said of one query, said of another one that is the same
module _ {A : Type 0} (r : Result A RunFault) (basis : Basis) (b c : Bool) (p q : Asked) (before after : ℕ) (e : b ≡ c) (k : p ≡ q) where
  pub same_answer : (text : A → List ℕ) (is_refused : A → Bool) → IfOk r (λ a. Makes (IsAskedReply c basis p) (text a) (is_refused a) before after)
      → IfOk r (λ a. Makes (IsAskedReply b basis q) (text a) (is_refused a) before after)
  same_answer text is_refused h =
      subst (λ (x : Bool). IfOk r (λ a. Makes (IsAskedReply x basis q) (text a) (is_refused a) before after)) (sym e)
      (subst (λ (x : Asked). IfOk r (λ a. Makes (IsAskedReply c basis x) (text a) (is_refused a) before after)) k h)

  pub same_stop : OnErr r (Fetches (AreSomeOf c basis p) before after) → OnErr r (Fetches (AreSomeOf b basis q) before after)
  same_stop h =
      subst (λ (x : Bool). OnErr r (Fetches (AreSomeOf x basis q) before after)) (sym e)
      (subst (λ (x : Asked). OnErr r (Fetches (AreSomeOf c basis x) before after)) k h)

-- ---- what is said of one command, said of another one that is the same

pub said_answer : {A : Type 0} (r : Result A RunFault) (text : A → List ℕ) (is_refused : A → Bool) (basis : Basis) (c d : Command) (old new : TreeView) → c ≡ d
    → IfOk r (λ a. Replies (IsReply basis (Ok d)) (text a) (is_refused a) old new) → IfOk r (λ a. Replies (IsReply basis (Ok c)) (text a) (is_refused a) old new)
said_answer r text is_refused basis c d old new e h = rw e h

pub said_ended : {A : Type 0} (r : Result A RunFault) (basis : Basis) (c d : Command) (old new : TreeView) → c ≡ d
    → IfErr r (λ fault. Stops (IsCommandEnd basis d fault) old new) → IfErr r (λ fault. Stops (IsCommandEnd basis c fault) old new)
said_ended r basis c d old new e h = rw e h

-- ---- over a tree that has failed

-- a query's fault
asked_failed : (seen : TreeView) (fault : RunFault) → fault ≢ run.Write → IsGiven seen fault → IsTrue seen.is_failed → (fault ≡ run.Memory) ⊎ (fault ≡ run.Tree tree.Failed)
asked_failed seen run.Memory apart given failed = inl refl
asked_failed seen run.Write apart given failed = absurd (apart refl)
asked_failed seen (run.Load fault) apart given failed = absurd given
asked_failed seen (run.Tree fault) apart given failed = inr (ap (λ (f : TreeFault). run.Tree f) (given.2 failed))

failed_same : (seen old : TreeView) → IsSameBut seen old → IsTrue seen.is_failed → IsTrue old.is_failed
failed_same seen old same failed = subst IsTrue (sym (ap (λ (t : TreeView). t.is_failed) same)) failed

-- an INSERT's
abbrev puts_fault : TreeFault → Result ℕ TreeFault
puts_fault fault = Err fault

only_failed : (fault : TreeFault) → puts_fault fault ≡ puts_fault tree.Failed → fault_of_tree fault ≡ run.Tree tree.Failed
only_failed fault same = let one : fault ≡ tree.Failed = cc in ap fault_of_tree one

-- a DELETE's
abbrev takes_fault : ReadFault → Result ℕ ReadFault
takes_fault fault = Err fault

delete_failed : (told : Result ℕ ReadFault) (fault : RunFault) → told ≡ takes_fault (read.Tree tree.Failed) → IsEndOf told fault → fault ≡ run.Tree tree.Failed
delete_failed (Ok count) fault same ended = cc
delete_failed (Err e) fault same ended = let one : e ≡ read.Tree tree.Failed = cc in ended ∙ ap fault_of_read one

-- ---- on the table of a sound tree

never_failed : (t : TreeView) → IsSound t → IsTrue t.is_failed → ⊥
never_failed t sound failed = failed_and_not t.is_failed failed sound.working
  where
    failed_and_not : (x : Bool) → IsTrue x → x ≡ false → ⊥
    failed_and_not true is not = cc
    failed_and_not false is not = cc

-- the tree is sound whatever its trace
sound_same : (seen old : TreeView) → IsSameBut seen old → IsSound seen → IsSound old
sound_same seen old same sound = (Keeps-by seen old same).sound sound

-- a query's fault
asked_met : (t : TreeView) (fault : RunFault) → IsSound t → fault ≢ run.Write → IsGiven t fault → IsPassingFault fault
asked_met t run.Memory sound apart given = inl refl
asked_met t run.Write sound apart given = absurd (apart refl)
asked_met t (run.Load fault) sound apart given = absurd given
asked_met t (run.Tree tree.Full) sound apart given = absurd given.0
asked_met t (run.Tree tree.Failed) sound apart given = absurd (never_failed t sound given.0)
asked_met t (run.Tree tree.Memory) sound apart given = absurd (given.1 refl)
asked_met t (run.Tree (tree.Page page fault)) sound apart given = absurd (given.0.0 sound)
asked_met t (run.Tree (tree.Store store.Device)) sound apart given = inr refl
asked_met t (run.Tree (tree.Store store.NoPage)) sound apart given = absurd (given.0.0 sound)
asked_met t (run.Tree (tree.Store store.BadSize)) sound apart given = absurd given.0
asked_met t (run.Tree (tree.Store store.Memory)) sound apart given = absurd given.0

-- an INSERT's
put_met : (t : TreeView) (values : List ℤ) (fault : RunFault) (after : TreeView) (e : TreeFault) → IsSound t → HasPutIn t values (Err e) after → fault ≡ fault_of_tree e
    → IsPassingFault fault ⊎ IsPlaceFault fault
put_met t values fault after tree.Full sound h is = inr (inl is)
put_met t values fault after tree.Failed sound h is =
    absurd (never_failed h.put.old (sound_same t h.put.old h.put.same sound) h.put.puts_in.effect.left.0)
put_met t values fault after tree.Memory sound h is = inl (inl is)
put_met t values fault after (tree.Page page of_page) sound h is = absurd (h.put.puts_in.effect.left.0 (sound_same t h.put.old h.put.same sound))
put_met t values fault after (tree.Store store.Device) sound h is = inl (inr is)
put_met t values fault after (tree.Store store.NoPage) sound h is = absurd (h.put.puts_in.effect.left.0 (sound_same t h.put.old h.put.same sound))
put_met t values fault after (tree.Store store.BadSize) sound h is = inr (inr is)
put_met t values fault after (tree.Store store.Memory) sound h is = absurd h.put.puts_in.effect.left

-- a DELETE's
taken_met : (t : TreeView) (q : Asked) (fault : RunFault) (after : TreeView) (told : Result ℕ ReadFault) → IsSound t → HasTakenOut t q told after → IsEndOf told fault
    → IsPassingFault fault
taken_met t q fault after (Ok count) sound h ended = inl ended
taken_met t q fault after (Err read.Memory) sound h ended = inl ended
taken_met t q fault after (Err (read.Tree tree.Full)) sound h ended = absurd h.deletes.left
taken_met t q fault after (Err (read.Tree tree.Failed)) sound h ended = absurd (never_failed h.old (sound_same t h.old h.same sound) h.deletes.left.0)
taken_met t q fault after (Err (read.Tree tree.Memory)) sound h ended = absurd h.deletes.left
taken_met t q fault after (Err (read.Tree (tree.Page page of_page))) sound h ended = absurd (h.deletes.left.0 (sound_same t h.old h.same sound))
taken_met t q fault after (Err (read.Tree (tree.Store store.Device))) sound h ended = inr ended
taken_met t q fault after (Err (read.Tree (tree.Store store.NoPage))) sound h ended = absurd (h.deletes.left.0 (sound_same t h.old h.same sound))
taken_met t q fault after (Err (read.Tree (tree.Store store.BadSize))) sound h ended = absurd h.deletes.left
taken_met t q fault after (Err (read.Tree (tree.Store store.Memory))) sound h ended = absurd h.deletes.left

met_on : (t : TreeView) (c : Command) (fault : RunFault) (pages : ℕ) (now : Basis) → IsSound t → fault ≢ run.Write → IsCommandEnd (over_any t) c fault pages now → IsFaultOn c fault
met_on t (asks told) fault pages now sound apart ended = asked_met t fault sound apart ended.1
met_on t (puts values) fault pages now sound apart (none, inl memory) = inl (inl memory.0)
met_on t (puts values) fault pages now sound apart (none, inr (after, of_tree, put, is, left)) = put_met t values fault after of_tree sound put is
met_on t (takes q) fault pages now sound apart (some, inl memory) = inl memory.0
met_on t (takes q) fault pages now sound apart (some, inr (after, told, taken, is, left)) = taken_met t q fault after told sound taken is

-- what ended a statement, by what that is on its basis, and over the tree
failed_over : (t : TreeView) (basis : Basis) (c : Command) (fault : RunFault) (pages more : ℕ) (now later : Basis) → IsBasisOf t basis → fault ≢ run.Write
    → IsCommandEnd basis c fault pages now → IsCommandEnd (over_any t) c fault more later → IsFaultOver basis c fault
failed_over t (on_stand s) c fault pages more now later of apart ended over = met_on t c fault more later of.sound apart over
failed_over t (over_any seen) (asks told) fault pages more now later of apart ended over = asked_failed seen fault apart ended.1
failed_over t (over_any seen) (puts values) fault pages more now later of apart (none, inl memory) over = λ failed. inl memory.0
failed_over t (over_any seen) (puts values) fault pages more now later of apart (none, inr (after, of_tree, put, is, left)) over =
    λ failed. inr (is ∙ only_failed of_tree (put.put.puts_in.failed (failed_same seen put.put.old put.put.same failed)))
failed_over t (over_any seen) (takes q) fault pages more now later of apart (some, inl memory) over = λ failed. inl memory.0
failed_over t (over_any seen) (takes q) fault pages more now later of apart (some, inr (after, told, taken, is, left)) over =
    λ failed. inr (delete_failed told fault (taken.deletes.failed (failed_same seen taken.old taken.same failed)) is)

-- ---- a statement

module _ (t : TreeView) (basis : Basis) (source : List ℕ) (tokens : List Token) (schema : Schema) (of : IsBasisOf t basis) (told : schema ≡ t.schema) where
  same_schema : schema ≡ schema_of basis
  same_schema = told ∙ schema_of_basis t basis of

  module _ (c : Command) (accepted : IsAccepted source schema tokens c) (only : (d : Command) → IsAccepted source schema tokens d → c ≡ d) where
    heard_so : IsTheOutcome (schema_of basis) source tokens (Ok c)
    heard_so = subst (λ (s : Schema). IsTheOutcome s source tokens (Ok c)) same_schema (accepted_outcome schema source tokens c accepted only)

    -- what is made of an accepted statement answers it
    pub accepted_answer : (text : List ℕ) (is_refused : Bool) (new : TreeView) → Replies (IsReply basis (Ok c)) text is_refused t new
        → Replies (IsAnswer basis source tokens) text is_refused t new
    accepted_answer text is_refused new (pages, changed, now, is, left, fetched) =
        (pages, changed, now, record { outcome = Ok c; heard = heard_so; stands = stands_of t basis of; reply_is = is }, left, fetched)

    -- where no reply is made of it, it is unanswered
    accepted_ended : (fault : RunFault) (new : TreeView) → fault ≢ run.Write → Stops (IsCommandEnd basis c fault) t new → Stops (IsCommandEnd (over_any t) c fault) t new
        → Stops (IsEnded basis source tokens fault) t new
    accepted_ended fault new apart (pages, now, ended, rest, fetched) (more, later, over, others, read) =
        (pages, now, inr (record { says = c; heard = heard_so; ended = ended; failed = failed_over t basis c fault pages more now later of apart ended over }), rest, fetched)

    pub accepted_stops : {A : Type 0} (r : Result A RunFault) (new : TreeView) → ¬ (IsErrOf r run.Write) → IfErr r (λ fault. Stops (IsCommandEnd basis c fault) t new)
        → IfErr r (λ fault. Stops (IsCommandEnd (over_any t) c fault) t new) → IfErr r (λ fault. Stops (IsEnded basis source tokens fault) t new)
    accepted_stops (Ok x) new apart h over = tt
    accepted_stops (Err e) new apart h over = accepted_ended e new (λ same. apart (rw same refl)) h over

  -- a refusal answers a statement that is refused
  pub refused_answer : (fault : SqlFault) (text : List ℕ) (is_refused : Bool)
      → (fault ≡ Memory) ⊎ IsFirstFault source schema tokens fault → ((c : Command) → IsAccepted source schema tokens c → fault ≡ Memory)
      → ((f : SqlFault) → IsFirstFault source schema tokens f → (fault ≡ Memory) ⊎ (fault ≡ f))
      → (text ≡ refused_text fault) × (is_refused ≡ true) × (fault ≢ Memory) → Replies (IsAnswer basis source tokens) text is_refused t t
  refused_answer fault text is_refused (inl memory) none only is = absurd (is.2 memory)
  refused_answer fault text is_refused (inr first) none only is = (
    0,
    0,
    basis,
    record {
      outcome = Err fault;
      heard = subst (λ (s : Schema). IsTheOutcome s source tokens (Err fault)) same_schema (refused_outcome schema source tokens fault is.2 first none only);
      stands = stands_of t basis of;
      reply_is = refused_reply basis fault (reply text 0 is_refused 0) (rw (is.0, is.1) refl);
    },
    of,
    refl,
  )

  -- want of memory before any page
  pub memory_ended : {T : Type 0} (r : Result T RunFault) → IfErr r (λ e. e ≡ run.Memory) → IfErr r (λ fault. Stops (IsEnded basis source tokens fault) t t)
  memory_ended (Ok x) h = tt
  memory_ended (Err e) h = (0, basis, inl (h, refl, refl), rest_of t basis of, refl)

-- ---- a refusal, or want of memory: nothing is done

pub refused_runs : {T : Type 0} (r : Result T RunFault) (t : TreeView) → IfErr r (λ e. e ≡ run.Memory) → Runs t t r
refused_runs (Ok x) t h = runs_none x t
refused_runs (Err e) t h = runs_memory (Err e) t (rw h refl)

pub refused_reads : {T : Type 0} (r : Result T RunFault) (t : TreeView) → IfErr r (λ e. e ≡ run.Memory) → RunsReading t t r
refused_reads (Ok x) t h = record { same = refl; faults = tt }
refused_reads (Err e) t h = rw h (record { same = refl; faults = tt })
