-- What `run` does on a sound table, put together of what is promised of any.
use Rattle.std.proofs.Common.{append-nil, ◌≡◌, ◌≢◌, ◌≤◌, ◌<◌, ◌⊎◌, ◌∙◌, ◌+◌, ◌++◌, ◌==◌, ℕ, ℤ, Bool, false, true, List, [], ◌∷◌, Option, Some, Result, Ok, Err, if◌then◌else◌, inl, inr, ap, arith, codes, length, refl, slice_range, subst, sym, take}
use Rattle.std.proofs.lemmas.Bool.{cases_Bool, false≢true}
use Rattle.std.proofs.lemmas.List.{flat_map_more}
use Rattle.std.proofs.lemmas.Slice.Eq.{bytes_eq-Decides}
use Rattle.std.specs.Prelude.{Contains, IfErr, IsOk, IsTrue, unwrap_or}
use Rattle.std.specs.Str.{bytes_eq}
use Rattle.ub_exec.proofs.Laws.{trees_stand_soundly}
use Rattle.ub_exec.specs.Stand.{Stand, IsStandOf}
use Rattle.ub_files.specs.Files.{AreRead, FilesFacts, HasPages, Held, IsTorn, absent, bytes, counted_open, pages, raised_by, standard_input, torn, untold}
use Rattle.ub_files.specs.declared.fault.OpenFault.{OpenFault}
use Rattle.ub_lexer.specs.declared.token.Token.{Token}
use Rattle.ub_parser.specs.Outcome.{Command, asks, puts, takes}
use Rattle.ub_script.proofs.Laws.{front_after, on_table, replies_on_a_table_are_those}
use Rattle.ub_script.specs.Basis.{Basis, on_stand, IsCommandEnd, IsFaultOn, IsPlaceFault, IsRestOf}
use Rattle.ub_script.specs.Output.{OutFacts, Breaks, HasTaken, IsFrontOf, Puts}
use Rattle.ub_script.specs.Replies.{AreFirstReplies, AreReplies, AreRepliesBefore}
use Rattle.ub_script.specs.Run.{AreAnswers, EndedOver, FirstOver, IsEnded, IsRun, IsStopped, IsUnbegun, Ran}
use Rattle.ub_script.specs.Script.{HasChangeWord, IsTheOutcome}
use Rattle.ub_script.specs.Text.{Reply, refused_in, texts_of}
use Rattle.ub_script.specs.declared.fault.RunFault.{RunFault}
use Rattle.ub_script.specs.declared.fault.RunFault.TheVariants as run
use Rattle.ub_script.specs.declared.script.Summary.{Summary}
use Rattle.ub_shell.proofs.AppendLaws.{opened_stand}
use Rattle.ub_shell.proofs.EndFacts.{told_after, told_since}
use Rattle.ub_shell.proofs.Laws.{held_same, kept_either, kept_pages, left_by_opening, left_by_reading, what_was_done_stands}
use Rattle.ub_shell.proofs.LeftFacts.{after_answers, run_leaves}
use Rattle.ub_table_file.proofs.Laws.{where_ok}
use Rattle.ub_table_file.specs.Commands.{Closes, IsAskedOf, IsKept, IsKeptRun, IsRunOf, IsUnlent, IsUnopened, IsUnread, IsUnready, IsUntold, IsWeighed, OpensFor, RunsFile, RunsScript, TellsClosed, TellsRan, both_ended, status_after}
use Rattle.ub_table_file.specs.Status.{Tells, open_fault_status, open_fault_text, status_code, store_fault_status, store_fault_text, summary_status, tree_fault_status, tree_fault_text}
use Rattle.ub_shell.specs.Laws.{AreBothInput, HasStopped}
use Rattle.ub_shell.specs.Ran.{Does, HasEnded, HasNoMemory}
use Rattle.ub_shell.specs.Short.{AreFirstTexts, AreStanding, EndsRight, HasFailed, HasReadScript, IsLeftAt, IsPlaceLine, KeepsShortPromise, Lends, RunsRight, WritesSome, fault_lines}
use Rattle.ub_table_file.specs.declared.status.Status.{Status}
use Rattle.ub_table_file.specs.declared.status.Status.TheVariants.{Done, Refused, Data, Device, Memory}
use Rattle.ub_store.specs.Facts.{StoreFacts, page_count, raised}
use Rattle.ub_store.specs.declared.fault.StoreFault.{StoreFault}
use Rattle.ub_store.specs.declared.fault.StoreFault.TheVariants as store
use Rattle.ub_table.specs.declared.schema.Schema.{Schema}
use Rattle.ub_tree.specs.Closing.{IsCloseFault}
use Rattle.ub_tree.specs.Effects.{Works}
use Rattle.ub_tree.specs.Opened.{IsOpenFault, IsPassing}
use Rattle.ub_tree.specs.Stored.{AreSoundPages}
use Rattle.ub_tree.specs.View.{TreeView, IsSound}
use Rattle.ub_tree.specs.declared.fault.TreeFault.{TreeFault}
use Rattle.ub_tree.specs.declared.fault.TreeFault.TheVariants as tree
use Rattle.ub_words.proofs.AskFacts.{apart}
use Rattle.ub_words.specs.Asked.{IsAskedBy}
use Rattle.ub_words.specs.CommandLine.{AsksHelp, AsksNext, AsksRun, IsRunGiven, table_name}
use Rattle.ub_words.specs.declared.words.Asked.{Asked}
use Rattle.ub_words.specs.declared.words.Asked.TheVariants.{Help, Next, Run, Table, Wrong}

-- ---- the words

-- what is found in them is one thing
abbrev found : {R : Type 0} → List ℕ → List R → Option (List ℕ × List R)
found name rows = Some (name, rows)

one_name : {R : Type 0} (name other : List ℕ) (rows more : List R) → found name rows ≡ found other more → name ≡ other
one_name {R = R} name other rows more e =
    let first : List ℕ × List R = (name, rows) in
    ap (λ (o : Option (List ℕ × List R)). (unwrap_or o first).0) e

one_given : {R : Type 0} (name other : List ℕ) (rows more : List R) → found name rows ≡ found other more → rows ≡ more
one_given {R = R} name other rows more e =
    let first : List ℕ × List R = (name, rows) in
    ap (λ (o : Option (List ℕ × List R)). (unwrap_or o first).1) e

clash : {R : Type 0} (name other : List ℕ) (rows more : List R) → found name rows ≡ found other more → bytes_eq name other ≡ false → ⊥
clash name other rows more e unlike = false≢true (sym unlike ∙ (bytes_eq-Decides name other).1 (one_name name other rows more e))

abbrev some_text : List ℕ → Option (List ℕ)
some_text text = Some text

one_text : (a b : List ℕ) → some_text a ≡ some_text b → a ≡ b
one_text a b e = ap (λ (o : Option (List ℕ)). unwrap_or o a) e

same_run : (words : List (List ℕ)) (t s u v : List ℕ) → AsksRun words t s → AsksRun words u v → (t ≡ u) × (s ≡ v)
same_run words t s u v a b =
    let rows = one_given (codes "run") (codes "run") a.0 b.0 (sym a.1.1 ∙ b.1.1) in
    let given = subst (λ r. IsRunGiven r t s) rows a.2 in
    (one_text t u (sym given.table_is ∙ b.2.table_is), one_text s v (sym given.script_is ∙ b.2.script_is))

-- words that ask for a run ask for nothing else
module _ (words : List (List ℕ)) (table script : List ℕ) (old new : FilesFacts) (out out_now : OutFacts) (status : Status) (ours : AsksRun words table script) where
  never_next : (lo hi z : List ℕ) → AsksNext words lo hi z → ⊥
  never_next lo hi z (inl by_clap) = clash (codes "run") (codes "next") ours.0 by_clap.0 (sym ours.1.1 ∙ by_clap.1.1) refl
  never_next lo hi z (inr by_place) = by_place.0 ours.1.0

  never_help : AsksHelp words → ⊥
  never_help (inl help) = rw ours.1.0 at help
  never_help (inr version) = rw ours.1.0 at version

  ran_as : (a : Asked) (notes notes_now : OutFacts) → IsAskedBy words a → Does a old new out out_now notes notes_now status → RunsFile table script old new out out_now status
  ran_as (Run r) notes notes_now by does =
      let same = same_run words r.table.now r.script.now table script by ours in
      subst (λ (s : List ℕ). RunsFile table s old new out out_now status) same.1
      (subst (λ (t : List ℕ). RunsFile t r.script.now old new out out_now status) same.0 does.1)
  ran_as (Table t) notes notes_now by does = absurd (clash (codes "run") (table_name t.command) ours.0 by.0 (sym ours.1.1 ∙ by.1.1) (apart t.command).2)
  ran_as (Next n) notes notes_now by does = absurd (never_next _ _ _ by)
  ran_as (Help text) notes notes_now by does = absurd (never_help by.0)
  ran_as (Wrong text) notes notes_now by does = absurd (by.0.no_run table script ours)
  ran_as a notes notes_now by does = absurd (clash (codes "run") _ ours.0 by.0 (sym ours.1.1 ∙ by.1.1) refl)

  ran_or_memory : (notes notes_now : OutFacts) → HasEnded words old new out out_now notes notes_now status
      → RunsFile table script old new out out_now status ⊎ HasNoMemory old new out out_now status
  ran_or_memory notes notes_now (inl done) = inl (ran_as done.asked notes notes_now done.asks done.does)
  ran_or_memory notes notes_now (inr memory) = inr memory.1

-- ---- the paths but for the table's

record Stays (table : List ℕ) (a b : FilesFacts) : Type 0 where
  pub readings : b.readings ≡ a.readings
  pub others : (other : List ℕ) → other ≢ table → b.holds other ≡ a.holds other

stays_same : (table : List ℕ) (a b : FilesFacts) → b ≡ a → Stays table a b
stays_same table a b same = record { readings = ap (λ (f : FilesFacts). f.readings) same; others = λ other apart. held_same other a b same }

stays_then : (table : List ℕ) (a b c : FilesFacts) → Stays table a b → Stays table b c → Stays table a c
stays_then table a b c h k = record { readings = k.readings ∙ h.readings; others = λ other apart. k.others other apart ∙ h.others other apart }

stays_opened : (changes : Bool) (table : List ℕ) (a b : FilesFacts) → OpensFor changes table a b → Stays table a b
stays_opened true table a b opens = record { readings = ap (λ (f : FilesFacts). f.readings) opens.same; others = λ other apart. (opens.others other apart).0 }
stays_opened false table a b opens = stays_same table a b opens

stays_unlent : (changes : Bool) (table : List ℕ) (a b : FilesFacts) (out out_now : OutFacts) (status : Status) → IsUnlent changes table a b out out_now status → Stays table a b
stays_unlent true table a b out out_now status unready =
    record { readings = ap (λ (f : FilesFacts). f.readings) unready.files.same; others = λ other apart. (unready.files.others other apart).0 }
stays_unlent false table a b out out_now status unopened =
    record { readings = ap (λ (f : FilesFacts). f.readings) unopened.files; others = λ other apart. ap (λ (f : FilesFacts). f.holds other) unopened.files }

stays_kept : (changes : Bool) (table : List ℕ) (left : List (List ℕ)) (closing : Result (Unit {0}) TreeFault) (keeping : Result (Unit {0}) StoreFault) (a b : FilesFacts)
    → IsKept changes table left closing keeping a b → Stays table a b
stays_kept true table left (Ok done) keeping a b h = record { readings = ap (λ (f : FilesFacts). f.readings) h.same; others = λ other apart. (h.others other apart).0 }
stays_kept true table left (Err fault) keeping a b h = stays_same table a b h.1
stays_kept false table left closing keeping a b h = stays_same table a b h.1

stays_script : (table script : List ℕ) (a b : FilesFacts) (out out_now : OutFacts) (status : Status) → RunsScript table script a b out out_now status → Stays table a b
stays_script table script a b out out_now status (inl unweighed) = stays_same table a b unweighed.files
stays_script table script a b out out_now status (inr (changes, weighed, inr unlent)) = stays_unlent changes table a b out out_now status unlent
stays_script table script a b out out_now status (inr (changes, weighed, inl asked)) =
    let opened = stays_opened changes table a asked.mid asked.opens in
    elim asked.asks [
      | inl kept ↦ stays_then table a asked.mid b opened
          (stays_kept changes table kept.left.pages kept.run.ran.closing kept.run.ran.keeping asked.mid b kept.kept)
      | inr none ↦ stays_then table a asked.mid b opened (stays_same table asked.mid b none.1)
    ]

-- ---- the pages that are lent

-- what a path lends where it is told
abbrev pub lent_by : Held → List (List ℕ)
lent_by (pages all) = all
lent_by _ = []

pub lends_by : (held : Held) → Lends held (lent_by held)
lends_by untold = tt
lends_by absent = refl
lends_by (bytes text) = refl
lends_by (pages all) = refl
lends_by torn = refl

pub lends_stored : (held : Held) (all : List (List ℕ)) → HasPages held all → Lends held all
lends_stored untold all h = tt
lends_stored (pages now) all h = h
lends_stored absent all h = absurd h
lends_stored (bytes text) all h = absurd h
lends_stored torn all h = absurd h

-- no page is no table
none_stands : (s : Stand) → AreStanding [] s → ⊥
none_stands s (placed, sound, regions_are, is) = let bad = sound.spelled in cc

pub torn_lends : (held : Held) (s : Stand) → IsTorn held → AreStanding (lent_by held) s → ⊥
torn_lends untold s is stands = none_stands s stands
torn_lends absent s is stands = absurd is
torn_lends (bytes text) s is stands = absurd is
torn_lends (pages all) s is stands = absurd is
torn_lends torn s is stands = none_stands s stands

-- pages of a closed table whose tree stands so
pub standing_of : (all : List (List ℕ)) (t : TreeView) (s : Stand) → AreSoundPages all t.schema t.placed t.next → IsStandOf t s → AreStanding all s
standing_of all t s sound is =
    let of_schema = subst (λ (x : Schema). AreSoundPages all x t.placed t.next) (sym is.schema_is) sound in
    (t.placed, subst (λ (n : ℕ). AreSoundPages all s.table.schema t.placed n) (sym is.next_is) of_schema, is.regions_are, trees_stand_soundly t s is)

-- ---- how it ends early

no_line : Contains fault_lines []
no_line = (0, omega arith, refl)

device_line : Contains fault_lines (codes "! Device\n")
device_line = (1, omega arith, refl)

memory_line : Contains fault_lines (codes "! Memory\n")
memory_line = (2, omega arith, refl)

full_line : Contains fault_lines (codes "! Full\n")
full_line = (3, omega arith, refl)

size_line : Contains fault_lines (codes "! BadSize\n")
size_line = (4, omega arith, refl)

journal_line : Contains fault_lines (codes "! BadJournal\n")
journal_line = (5, omega arith, refl)

-- with 4 or with 5
abbrev EndedBy : FilesFacts → FilesFacts → OutFacts → OutFacts → ℕ → List ℕ → List ℕ → Type 0
EndedBy old new out out_now code texts line =
    ((code ≡ 4) × HasFailed old new out out_now × Contains fault_lines line × WritesSome (texts ++ line) out out_now)
    ⊎ ((code ≡ 5) × (line ≡ codes "! Memory\n") × Puts (texts ++ line) out out_now)

module _ (old new : FilesFacts) (out out_now : OutFacts) (status : Status) (code : ℕ) (is : code ≡ status_code status) where
  code_of : (wanted : Status) → status ≡ wanted → code ≡ status_code wanted
  code_of wanted same = is ∙ ap status_code same

  broken_off : (texts line : List ℕ) → Contains fault_lines line → status ≡ Device → Breaks (texts ++ line) out out_now → EndedBy old new out out_now code texts line
  broken_off texts line among failed (front, cut, taken) = inl (code_of Device failed, inr (inr (inr taken.failures)), among, inr (front, cut, taken))

  by_device : (texts line : List ℕ) → Contains fault_lines line → HasFailed old new out out_now → Tells out out_now (texts ++ line) Device status
      → EndedBy old new out out_now code texts line
  by_device texts line among why (inl told) = inl (code_of Device told.0, why, among, inl told.1)
  by_device texts line among why (inr broke) = broken_off texts line among broke.0 broke.1

  by_memory : (texts : List ℕ) → Tells out out_now (texts ++ codes "! Memory\n") Memory status → EndedBy old new out out_now code texts (codes "! Memory\n")
  by_memory texts (inl told) = inr (code_of Memory told.0, refl, told.1)
  by_memory texts (inr broke) = broken_off texts (codes "! Memory\n") memory_line broke.0 broke.1

  module _ (table script : List ℕ) (s : Stand) (held : (new.holds table ≡ old.holds table) ⊎ ((now : Stand) × IsLeftAt table new now)) where
    early : (texts line : List ℕ) → AreFirstTexts script s old new texts → EndedBy old new out out_now code texts line → EndsRight table script s old new out out_now code
    early texts line first by = inr (record { texts = texts; first = first; line = line; ended = by; held = held })

    -- before the first statement
    memory_first : Tells out out_now (codes "! Memory\n") Memory status → EndsRight table script s old new out out_now code
    memory_first told = early [] (codes "! Memory\n") (inl refl) (by_memory [] told)

    device_first : HasFailed old new out out_now → Tells out out_now (codes "! Device\n") Device status → EndsRight table script s old new out out_now code
    device_first why told = early [] (codes "! Device\n") (inl refl) (by_device [] (codes "! Device\n") device_line why told)

    store_first : (fault : StoreFault) → (fault ≡ store.Device) ⊎ (fault ≡ store.Memory) → (fault ≡ store.Device → HasFailed old new out out_now)
        → Tells out out_now (store_fault_text fault) (store_fault_status fault) status → EndsRight table script s old new out out_now code
    store_first fault (inl device) why told =
        device_first (why device) (subst (λ (f : StoreFault). Tells out out_now (store_fault_text f) (store_fault_status f) status) device told)
    store_first fault (inr memory) why told = memory_first (subst (λ (f : StoreFault). Tells out out_now (store_fault_text f) (store_fault_status f) status) memory told)

    tree_first : (fault : TreeFault) → IsPassing fault → (fault ≡ tree.Store store.Device → HasFailed old new out out_now)
        → Tells out out_now (tree_fault_text fault) (tree_fault_status fault) status → EndsRight table script s old new out out_now code
    tree_first fault (inl memory) why told = memory_first (subst (λ (f : TreeFault). Tells out out_now (tree_fault_text f) (tree_fault_status f) status) memory told)
    tree_first fault (inr device) why told =
        device_first (why device) (subst (λ (f : TreeFault). Tells out out_now (tree_fault_text f) (tree_fault_status f) status) device told)

    -- a journal is in the way
    journal_first : (text : List ℕ) → HasReadScript script text old new → HasChangeWord text → new.holds table ≡ old.holds table
        → Tells out out_now (codes "! BadJournal\n") Data status → EndsRight table script s old new out out_now code
    journal_first text read may same (inl told) =
        inl (text, read, inr (inr (record { may_change = may; held = same; written = told.1; code_is = code_of Data told.0 })))
    journal_first text read may same (inr broke) = early [] (codes "! BadJournal\n") (inl refl) (broken_off [] (codes "! BadJournal\n") journal_line broke.0 broke.1)

-- ---- closing

never_failed : (t : TreeView) → IsSound t → IsTrue t.is_failed → ⊥
never_failed t sound failed = false≢true (sym sound.working ∙ failed)

never_bare : (t : TreeView) → IsSound t → page_count t.store ≡ 0 → ⊥
never_bare t sound none = let some = sound.placed_are.within 0 0 (omega arith) in omega (arith, some, none)

-- the closing of a sound tree is refused only as its store failed
close_met : (t : TreeView) (fault : TreeFault) → IsSound t → IsCloseFault t fault → (fault ≡ tree.Store store.Device) × IsTrue t.store.can_fail
close_met t tree.Full sound is = absurd is
close_met t tree.Failed sound is = absurd (never_failed t sound is)
close_met t tree.Memory sound is = absurd is
close_met t (tree.Page page fault) sound is = absurd is
close_met t (tree.Store store.Device) sound is = (refl, is)
close_met t (tree.Store store.NoPage) sound is = absurd (never_bare t sound is)
close_met t (tree.Store store.BadSize) sound is = absurd is
close_met t (tree.Store store.Memory) sound is = absurd is

-- both were done, or the file failed, which is told
abbrev IsClosedSo : Result (Unit {0}) TreeFault → Result (Unit {0}) StoreFault → FilesFacts → FilesFacts → OutFacts → OutFacts → Type 0
IsClosedSo closing keeping old new out out_now =
    ((both_ended closing keeping ≡ Ok tt) × IsOk closing × IsOk keeping)
    ⊎ ((both_ended closing keeping ≡ Err (tree.Store store.Device)) × HasFailed old new out out_now)

closed_so : (changes : Bool) (table : List ℕ) (old opened new : FilesFacts) (out out_now : OutFacts) (now : TreeView) (left : StoreFacts) (closing : Result (Unit {0}) TreeFault)
    (keeping : Result (Unit {0}) StoreFault) → IsSound now → (IsTrue now.store.can_fail → IsTrue old.can_fail) → opened.failed_tables ≡ old.failed_tables
    → Closes now left closing → IfErr keeping (λ fault. fault ≡ store.Device) → IsKept changes table left.pages closing keeping opened new
    → IsClosedSo closing keeping old new out out_now
closed_so changes table old opened new out out_now now left (Ok done) (Ok kept) sound fails tables closes faults h = inl (refl, refl, refl)
closed_so true table old opened new out out_now now left (Ok done) (Err fault) sound fails tables closes faults h =
    inr (
      ap (λ (f : StoreFault). both_ended (Ok done) (Err f)) faults,
      inr (inl (ap (λ (f : FilesFacts). f.failed_tables) h.same ∙ ap (λ (f : StoreFault). raised_by f opened.failed_tables) faults ∙ ap (λ (n : ℕ). raised n 1) tables)),
    )
closed_so false table old opened new out out_now now left (Ok done) (Err fault) sound fails tables closes faults h = let bad = h.0 in cc
closed_so changes table old opened new out out_now now left (Err fault) keeping sound fails tables closes faults h =
    let (device, can) = close_met now fault sound closes.refused in
    inr (ap (λ (f : TreeFault). both_ended (Err f) keeping) device, inr (inr (inl (fails can))))

-- ---- replies on the table alone

all_replies : (s : Stand) (text : List ℕ) (replies : List Reply) (now : Stand) → FirstOver (on_stand s) text replies 0 (on_stand now) → AreReplies s text replies now
all_replies s text replies now h =
    let (first, count) = (replies_on_a_table_are_those s text replies 0 now).0 h in
    record { first = first; all = omega (arith, count) }

some_replies : (s : Stand) (text : List ℕ) (replies : List Reply) (left : ℕ) (now : Stand) → FirstOver (on_stand s) text replies left (on_stand now) → AreFirstReplies s text replies now
some_replies s text replies left now h = ((replies_on_a_table_are_those s text replies left now).0 h).0

-- where a fault ended a statement after them
before_end : (s : Stand) (text : List ℕ) (fault : RunFault) (replies : List Reply) (left count : ℕ) (now : Basis) → EndedOver (on_stand s) text fault replies left count now
    → (mid : Stand) × AreFirstReplies s text replies mid
before_end s text fault replies left count now h =
    let (mid, first, (range, there, ended)) = h.ended in
    let step = after_answers s text h.tokens (take (length replies) h.ranges) replies mid first.1 in
    let are = subst (λ (b : Basis). AreAnswers (on_stand s) text h.tokens (take (length replies) h.ranges) replies b) step.1 first.1 in
    (step.0, record { tokens = h.tokens; ranges = h.ranges; tokens_are = h.tokens_are; ranges_are = h.ranges_are; first = on_table text h.tokens s (take (length replies) h.ranges) replies step.0 are })

abbrev stand_of : Stand → Basis → Stand
stand_of s (on_stand now) = now
stand_of s _ = s

never_both : (fault : RunFault) → IsPlaceFault fault → (fault ≡ run.Memory) ⊎ (fault ≡ run.Tree (tree.Store store.Device)) → ⊥
never_both fault (inl full) (inl memory) = let bad = sym full ∙ memory in cc
never_both fault (inl full) (inr device) = let bad = sym full ∙ device in cc
never_both fault (inr size) (inl memory) = let bad = sym size ∙ memory in cc
never_both fault (inr size) (inr device) = let bad = sym size ∙ device in cc

-- that a row has no place ends an INSERT alone, which leaves the table as it was
said_insert : (s now : Stand) (says : Command) (fault : RunFault) (count : ℕ) → IsPlaceFault fault → IsFaultOn says fault → IsCommandEnd (on_stand s) says fault count (on_stand now)
    → (values : List ℤ) × (says ≡ puts values) × (now ≡ s)
said_insert s now (asks t) fault count place on ended = absurd (never_both fault place on)
said_insert s now (puts values) fault count place on ended = (values, refl, ap (stand_of s) ended.1)
said_insert s now (takes q) fault count place on ended = absurd (never_both fault place on)

insert_end : (s mid now : Stand) (text : List ℕ) (tokens : List Token) (fault : RunFault) (count : ℕ) → IsPlaceFault fault → IsEnded (on_stand mid) text tokens fault count (on_stand now)
    → (values : List ℤ) × IsTheOutcome mid.table.schema text tokens (Ok (puts values)) × (now ≡ mid)
insert_end s mid now text tokens fault count place (inl memory) = absurd (never_both fault place (inl memory.0))
insert_end s mid now text tokens fault count place (inr u) =
    let (values, says, same) = said_insert mid now u.says fault count place u.failed u.ended in
    (values, subst (λ (c : Command). IsTheOutcome mid.table.schema text tokens (Ok c)) says u.heard, same)

before_insert : (s : Stand) (text : List ℕ) (fault : RunFault) (replies : List Reply) (left count : ℕ) (now : Stand) → IsPlaceFault fault
    → EndedOver (on_stand s) text fault replies left count (on_stand now) → (values : List ℤ) × AreRepliesBefore s text (puts values) replies now
before_insert s text fault replies left count now place h =
    let (mid, first, (range, there, ended)) = h.ended in
    let tokens = slice_range h.tokens range.0 range.1 in
    let step = after_answers s text h.tokens (take (length replies) h.ranges) replies mid first.1 in
    let are = subst (λ (b : Basis). AreAnswers (on_stand s) text h.tokens (take (length replies) h.ranges) replies b) step.1 first.1 in
    let (values, next, same) = insert_end s step.0 now text tokens fault count place (subst (λ (b : Basis). IsEnded b text tokens fault count (on_stand now)) step.1 ended) in
    let before : AreRepliesBefore s text (puts values) replies step.0 = record {
      first = record { tokens = h.tokens; ranges = h.ranges; tokens_are = h.tokens_are; ranges_are = h.ranges_are; first = on_table text h.tokens s (take (length replies) h.ranges) replies step.0 are };
      range = range;
      there = there;
      next = next;
    } in
    (values, subst (λ (x : Stand). AreRepliesBefore s text (puts values) replies x) (sym same) before)

-- ---- a run on a tree

-- so it is known whether a row has a place
longer : (mid now levels left : ℕ) → levels ≤ 16 → 4294967295 < mid + 1 + (levels + 1) → mid ≤ now → left ≡ now → 4294967295 < left + 18
longer mid now levels left few many more same = omega (arith, few, many, more, same)

code_so : (b : Bool) → status_code (if b then Done else Refused) ≡ (if b then 0 else 1)
code_so true = refl
code_so false = refl

device_after : (closed : Result (Unit {0}) TreeFault) → status_after closed Device ≡ Device
device_after (Ok done) = refl
device_after (Err fault) = refl

module _ (changes : Bool) (table script text : List ℕ) (s : Stand) (from left : StoreFacts) (old opened new : FilesFacts) (t now : TreeView) (closing : Result (Unit {0}) TreeFault)
    (keeping : Result (Unit {0}) StoreFault) (out mid out_now : OutFacts) (status : Status) (code : ℕ) (is : code ≡ status_code status) (read : HasReadScript script text old new)
    (fails : IsTrue from.can_fail → IsTrue old.can_fail) (tables : opened.failed_tables ≡ old.failed_tables) (store_is : t.store ≡ from) (stand : IsStandOf t s)
    (closes : Closes now left closing) (faults : IfErr keeping (λ fault. fault ≡ store.Device)) (kept : IsKept changes table left.pages closing keeping opened new)
    (holds : IsOk closing → IsOk keeping → HasPages (new.holds table) left.pages)
    (held : (new.holds table ≡ old.holds table) ⊎ ((later : Stand) × IsLeftAt table new later)) where
  tree_fails : IsTrue t.store.can_fail → IsTrue old.can_fail
  tree_fails can = fails (subst (λ (x : StoreFacts). IsTrue x.can_fail) store_is can)

  now_fails : Works t now → IsTrue now.store.can_fail → IsTrue old.can_fail
  now_fails works can = tree_fails (subst (λ (b : Bool). IsTrue b) (ap (λ (x : StoreFacts). x.can_fail) works.1) can)

  so : (later : Stand) → IsStandOf now later → Works t now → IsClosedSo closing keeping old new out out_now
  so later at works = closed_so changes table old opened new out out_now now left closing keeping at.sound (now_fails works) tables closes faults kept

  left_at : (later : Stand) → IsStandOf now later → IsOk closing → IsOk keeping → IsLeftAt table new later
  left_at later at closed also =
      record { all = left.pages; stands = standing_of left.pages now later (where_ok closing closed (closes.closed at.sound)).1 at; held = holds closed also }

  first_texts : (replies : List Reply) (later : Stand) → AreFirstReplies s text replies later → AreFirstTexts script s old new (texts_of replies)
  first_texts replies later first = inr (text, read, replies, later, first, refl)

  ends_early : (texts line : List ℕ) → AreFirstTexts script s old new texts → EndedBy old new out out_now code texts line → EndsRight table script s old new out out_now code
  ends_early texts line first by = early old new out out_now status code is table script s held texts line first by

  -- to its end
  done_ends : (summary : Summary) → IsRun t now text (Ok summary) out mid → TellsRan (Ok summary) (both_ended closing keeping) mid out_now status
      → EndsRight table script s old new out out_now code
  done_ends summary h tells =
      let (later, has, at) = run_leaves t now text (Ok summary) out mid s h stand (h.effect.sound stand.sound).working in
      let (replies, first, counts, wrote) = has in
      elim (so later at h.effect.done) [
        | inl closed ↦
            let told : TellsClosed summary (Ok tt) mid out_now status = subst (λ (r : Result (Unit {0}) TreeFault). TellsClosed summary r mid out_now status) closed.0 tells in
            inl (
              text,
              read,
              inl (record {
                replies = replies;
                now = later;
                replies_are = all_replies s text replies later first;
                written = subst (λ (o : OutFacts). Puts (texts_of replies) out o) (sym told.1) wrote;
                left = left_at later at closed.1 closed.2;
                code_is = is ∙ ap status_code (told.0 ∙ ap summary_status counts) ∙ code_so (refused_in replies == 0);
              }),
            )
        | inr failed ↦
            let told : Tells mid out_now (codes "! Device\n") Device status = subst (λ (r : Result (Unit {0}) TreeFault). TellsClosed summary r mid out_now status) failed.0 tells in
            ends_early (texts_of replies) (codes "! Device\n") (first_texts replies later (some_replies s text replies 0 later first))
            (by_device old new out out_now status code is (texts_of replies) (codes "! Device\n") device_line failed.1 (told_after out mid out_now (texts_of replies) (codes "! Device\n") Device status wrote told))
      ]

  -- up to a write that failed
  cut_ends : IsRun t now text (Err run.Write) out mid → TellsRan (Err run.Write) (both_ended closing keeping) mid out_now status → EndsRight table script s old new out out_now code
  cut_ends h tells =
      let (later, has, at) = run_leaves t now text (Err run.Write) out mid s h stand (h.effect.left.0 ∙ stand.sound.working) in
      let (replies, next, more, front, first, cut, wrote) = has in
      let rs : List Reply = replies ++ next ∷ [] in
      let all : texts_of replies ++ next.text ≡ texts_of rs ++ [] = flat_map_more (λ (x : Reply). x.text) [] replies next ∙ sym (append-nil (texts_of rs)) in
      let off : IsFrontOf (texts_of replies ++ front) (texts_of rs ++ []) =
      subst (λ (bs : List ℕ). IsFrontOf (texts_of replies ++ front) bs) all (front_after front next.text (texts_of replies) cut) in
      let broke : Breaks (texts_of rs ++ []) out out_now = (texts_of replies ++ front, off, subst (λ (o : OutFacts). HasTaken (texts_of replies ++ front) true out o) (sym tells.1) wrote) in
      ends_early (texts_of rs) [] (first_texts rs later (some_replies s text rs more later first)) (broken_off old new out out_now status code is (texts_of rs) [] no_line tells.0 broke)

  -- what was written up to a statement that a fault ended
  abbrev Begins : Type 0
  Begins = (texts : List ℕ) × AreFirstTexts script s old new texts
      × ((line : List ℕ) (wanted : Status) → Tells mid out_now line wanted status → Tells out out_now (texts ++ line) wanted status)

  begins : (fault : RunFault) → IsUnbegun t now fault out mid ⊎ Ran (IsStopped (EndedOver (on_stand s) text fault)) (IsRestOf now) false out mid t.trace.fetches now.trace.fetches → Begins
  begins fault (inl unbegun) = ([], inl refl, λ line wanted told. told_since out mid out_now line wanted status unbegun.2 told)
  begins fault (inr (basis, bs, count, (replies, rest, more, ended, text_is, pages_are), left_is, taken, fetched)) =
      let first = before_end s text fault replies rest more basis ended in
      let wrote = subst (λ (b : List ℕ). HasTaken b false out mid) text_is taken in
      (texts_of replies, first_texts replies first.0 first.1, λ line wanted told. told_after out mid out_now (texts_of replies) line wanted status wrote told)

  -- for want of memory
  memory_ends : IsRun t now text (Err run.Memory) out mid → TellsRan (Err run.Memory) (both_ended closing keeping) mid out_now status → EndsRight table script s old new out out_now code
  memory_ends h tells =
      let (later, has, at) = run_leaves t now text (Err run.Memory) out mid s h stand (h.effect.left.0 ∙ stand.sound.working) in
      let (texts, first, more) = begins run.Memory (h.stopped (on_stand s) stand (λ same. cc)) in
      elim (so later at h.effect.left) [
        | inl closed ↦
            let told = subst (λ (r : Result (Unit {0}) TreeFault). TellsRan (Err run.Memory) r mid out_now status) closed.0 tells in
            ends_early texts (codes "! Memory\n") first (by_memory old new out out_now status code is texts (more (codes "! Memory\n") Memory told))
        | inr failed ↦
            let told = subst (λ (r : Result (Unit {0}) TreeFault). TellsRan (Err run.Memory) r mid out_now status) failed.0 tells in
            ends_early texts (codes "! Memory\n") first (by_device old new out out_now status code is texts (codes "! Memory\n") memory_line failed.1 (more (codes "! Memory\n") Device told))
      ]

  -- as the store failed
  device_ends : IsRun t now text (Err (run.Tree (tree.Store store.Device))) out mid
      → TellsRan (Err (run.Tree (tree.Store store.Device))) (both_ended closing keeping) mid out_now status → EndsRight table script s old new out out_now code
  device_ends h tells =
      let (texts, first, more) = begins (run.Tree (tree.Store store.Device)) (h.stopped (on_stand s) stand (λ same. cc)) in
      let told : Tells mid out_now (codes "! Device\n") Device status =
      subst (λ (x : Status). Tells mid out_now (codes "! Device\n") x status) (device_after (both_ended closing keeping)) tells in
      ends_early texts (codes "! Device\n") first
      (by_device old new out out_now status code is texts (codes "! Device\n") device_line (inr (inr (inl (tree_fails h.effect.left.0)))) (more (codes "! Device\n") Device told))

  -- as the row of an INSERT has no place
  module _ (fault : RunFault) (line : List ℕ) (place : IsPlaceFault fault) (among : Contains fault_lines line)
      (why : (later : Stand) → IsStandOf now later → IsOk closing → IsPlaceLine later left.pages line) where
    place_ends : (later : Stand) → HasStopped text fault s later out mid → IsStandOf now later → Works t now
        → ((closed : Result (Unit {0}) TreeFault) → both_ended closing keeping ≡ closed → Tells mid out_now line (status_after closed Data) status)
        → EndsRight table script s old new out out_now code
    unfolding left_at
    place_ends later (inl unbegun) at works tells = absurd (never_both fault place (inl unbegun.0))
    place_ends later (inr (replies, rest, count, ended, wrote)) at works tells =
        let (values, before) = before_insert s text fault replies rest count later place ended in
        elim (so later at works) [
          | inl closed ↦ elim (told_after out mid out_now (texts_of replies) line Data status wrote (tells (Ok tt) closed.0)) [
            | inl told ↦ inl (
              text,
              read,
              inr (inl (record {
                replies = replies;
                now = later;
                values = values;
                before = before;
                left = left_at later at closed.1 closed.2;
                line = line;
                line_is = why later at closed.1;
                written = told.1;
                code_is = code_of old new out out_now status code is Data told.0;
              })),
            )
            | inr broke ↦ ends_early (texts_of replies) line (first_texts replies later before.first)
                (broken_off old new out out_now status code is (texts_of replies) line among broke.0 broke.1)
          ]
          | inr failed ↦ ends_early (texts_of replies) line (first_texts replies later before.first)
              (by_device old new out out_now status code is (texts_of replies) line among failed.1
              (told_after out mid out_now (texts_of replies) line Device status wrote (tells (Err (tree.Store store.Device)) failed.0)))
        ]

  -- there are as many pages as the tree had
  page_count_is : IsSound now → IsOk closing → length left.pages ≡ page_count now.store
  page_count_is sound closed = elim (cases_Bool now.is_changed) [
    | inl changed ↦ (where_ok closing closed (closes.saved changed)).0.count
    | inr same ↦ ap (λ (x : StoreFacts). page_count x) (closes.unchanged same sound.working).1
  ]

  full_ends : IsRun t now text (Err (run.Tree tree.Full)) out mid → TellsRan (Err (run.Tree tree.Full)) (both_ended closing keeping) mid out_now status
      → EndsRight table script s old new out out_now code
  full_ends h tells =
      let (later, has, at) = run_leaves t now text (Err (run.Tree tree.Full)) out mid s h stand (h.effect.left.1.0 ∙ stand.sound.working) in
      place_ends (run.Tree tree.Full) (codes "! Full\n") (inl refl) full_line full_why later has at h.effect.left.1
      (λ closed same. subst (λ (r : Result (Unit {0}) TreeFault). TellsRan (Err (run.Tree tree.Full)) r mid out_now status) same tells)
    where
      full_why : (later : Stand) → IsStandOf now later → IsOk closing → IsPlaceLine later left.pages (codes "! Full\n")
      full_why later at closed = elim h.effect.left.0 [
        | inl last ↦ inl (refl, inl (at.next_is ∙ last))
        | inr index ↦ inl (refl, inr (record { tree = now; honest = at.sound.honest; regions_are = at.regions_are; indexed = at.sound.indexed; full = index }))
      ]

  size_ends : IsRun t now text (Err (run.Tree (tree.Store store.BadSize))) out mid
      → TellsRan (Err (run.Tree (tree.Store store.BadSize))) (both_ended closing keeping) mid out_now status → EndsRight table script s old new out out_now code
  size_ends h tells =
      let (later, has, at) = run_leaves t now text (Err (run.Tree (tree.Store store.BadSize))) out mid s h stand (h.effect.left.0.0 ∙ stand.sound.working) in
      place_ends (run.Tree (tree.Store store.BadSize)) (codes "! BadSize\n") (inr refl) size_line size_why later has at h.effect.left.0
      (λ closed same. subst (λ (r : Result (Unit {0}) TreeFault). TellsRan (Err (run.Tree (tree.Store store.BadSize))) r mid out_now status) same tells)
    where
      size_why : (later : Stand) → IsStandOf now later → IsOk closing → IsPlaceLine later left.pages (codes "! BadSize\n")
      size_why later at closed =
          let (works, before, full, leaves) = h.effect.left in
          inr (refl, longer (page_count before.store) (page_count now.store) before.inner.index.levels (length left.pages) full.0 full.1 leaves.grows.more (page_count_is at.sound closed))

  run_ends : (result : Result Summary RunFault) → IsRun t now text result out mid → TellsRan result (both_ended closing keeping) mid out_now status
      → EndsRight table script s old new out out_now code
  run_ends (Ok summary) h tells = done_ends summary h tells
  run_ends (Err run.Memory) h tells = memory_ends h tells
  run_ends (Err run.Write) h tells = cut_ends h tells
  run_ends (Err (run.Load fault)) h tells = absurd h.effect.left
  run_ends (Err (run.Tree tree.Full)) h tells = full_ends h tells
  run_ends (Err (run.Tree tree.Failed)) h tells = absurd (never_failed t stand.sound h.effect.left.0)
  run_ends (Err (run.Tree tree.Memory)) h tells = absurd h.effect.left
  run_ends (Err (run.Tree (tree.Page page fault))) h tells = absurd (h.effect.left.0 stand.sound)
  run_ends (Err (run.Tree (tree.Store store.Device))) h tells = device_ends h tells
  run_ends (Err (run.Tree (tree.Store store.NoPage))) h tells = absurd (h.effect.left.0 stand.sound)
  run_ends (Err (run.Tree (tree.Store store.BadSize))) h tells = size_ends h tells
  run_ends (Err (run.Tree (tree.Store store.Memory))) h tells = absurd h.effect.left

-- ---- a script on a table file

-- the pages that are left are those that the path holds
left_held : (changes : Bool) (table : List ℕ) (left from : List (List ℕ)) (closing : Result (Unit {0}) TreeFault) (keeping : Result (Unit {0}) StoreFault) (opened new : FilesFacts)
    → HasPages (opened.holds table) from → (changes ≡ false → left ≡ from) → IsKept changes table left closing keeping opened new → IsOk closing → IsOk keeping
    → HasPages (new.holds table) left
left_held true table left from closing keeping opened new stored same h closed also = (kept_pages table left closing keeping opened new closed also h).0
left_held false table left from closing keeping opened new stored same h closed also =
    let there : HasPages (opened.holds table) left = subst (λ (ps : List (List ℕ)). HasPages (opened.holds table) ps) (sym (same refl)) stored in
    subst (λ (x : Held). HasPages x left) (sym (held_same table opened new h.1)) there

same_pages : (left from : StoreFacts) (n : ℕ) → left ≡ record from { failed_reads = n } → left.pages ≡ from.pages
same_pages left from n same = ap (λ (x : StoreFacts). x.pages) same

-- nothing is counted that failed where a table file was opened
same_tables : (changes : Bool) (table : List ℕ) (a b : FilesFacts) → OpensFor changes table a b → b.failed_tables ≡ a.failed_tables
same_tables true table a b opens = ap (λ (f : FilesFacts). f.failed_tables) opens.same
same_tables false table a b opens = ap (λ (f : FilesFacts). f.failed_tables) opens

-- how often a table file has failed, after it wasn't opened for this fault
abbrev opened_count : OpenFault → ℕ → ℕ
opened_count fault n = counted_open {A = OutFacts} (Err fault) n

module _ (table script text : List ℕ) (old mid new : FilesFacts) (out out_now : OutFacts) (status : Status) (code : ℕ) (is : code ≡ status_code status)
    (read : HasReadScript script text old new) (honest : IsTrue mid.honest) (can_fail : mid.can_fail ≡ old.can_fail) (tables : mid.failed_tables ≡ old.failed_tables)
    (there : mid.holds table ≡ old.holds table) (others : (other : List ℕ) → other ≢ table → ¬ (AreBothInput other script) → new.holds other ≡ old.holds other) where
  -- it is right where these pages were lent
  right_on : (all : List (List ℕ)) → Lends (old.holds table) all → ((s : Stand) → AreStanding all s → EndsRight table script s old new out out_now code)
      → RunsRight table script old new out out_now code
  right_on all lends ends = record { all = all; lent = lends; ends = ends; others = λ other apart no_input. others other apart no_input }

  right_unlent : new.holds table ≡ mid.holds table → ((s : Stand) → AreStanding (lent_by (old.holds table)) s → (new.holds table ≡ old.holds table) → EndsRight table script s old new out out_now code)
      → RunsRight table script old new out out_now code
  right_unlent same ends = right_on (lent_by (old.holds table)) (lends_by (old.holds table)) (λ s stands. ends s stands (same ∙ there))

  memory_right : new.holds table ≡ mid.holds table → Tells out out_now (codes "! Memory\n") Memory status → RunsRight table script old new out out_now code
  memory_right same told = right_unlent same (λ s stands still. memory_first old new out out_now status code is table script s (inl still) told)

  -- the table file wasn't opened
  tables_failed : (n : ℕ) → new.failed_tables ≡ raised n 1 → n ≡ mid.failed_tables → HasFailed old new out out_now
  tables_failed n failed same = inr (inl (failed ∙ ap (λ (x : ℕ). raised x 1) (same ∙ tables)))

  torn_right : new.holds table ≡ mid.holds table → IsTorn (mid.holds table) → RunsRight table script old new out out_now code
  torn_right same is_torn = right_unlent same (λ s stands still. absurd (torn_lends (old.holds table) s (subst (λ (h : Held). IsTorn h) there is_torn) stands))

  unopened_right : IsUnopened table mid new out out_now status → RunsRight table script old new out out_now code
  unopened_right unopened =
      let same : new.holds table ≡ mid.holds table = ap (λ (f : FilesFacts). f.holds table) unopened.files in
      let why : unopened.fault ≡ store.Device → HasFailed old new out out_now =
      λ device. tables_failed mid.failed_tables (ap (λ (f : FilesFacts). f.failed_tables) unopened.files ∙ ap (λ (f : StoreFault). raised_by f mid.failed_tables) device) refl in
      elim unopened.is [
        | inl device ↦ right_unlent same (λ s stands still. store_first old new out out_now status code is table script s (inl still) unopened.fault (inl device) why unopened.tells)
        | inr more ↦ elim more [
          | inl size ↦ torn_right same size.1
          | inr memory ↦ right_unlent same (λ s stands still. store_first old new out out_now status code is table script s (inl still) unopened.fault (inr memory) why unopened.tells)
        ]
      ]

  unready_right : HasChangeWord text → IsUnready table mid new out out_now status → RunsRight table script old new out out_now code
  unready_right may unready =
      let same : new.holds table ≡ mid.holds table = ap (λ (f : FilesFacts). f.holds table) unready.files.same in
      elim unready.is [
        | inl journal ↦
            let told = subst (λ (f : OpenFault). Tells out out_now (open_fault_text f) (open_fault_status f) status) journal unready.tells in
            right_unlent same (λ s stands still. journal_first old new out out_now status code is table script s (inl still) text read may still told)
        | inr more ↦ elim more [
          | inl device ↦
              let told = subst (λ (f : OpenFault). Tells out out_now (open_fault_text f) (open_fault_status f) status) device unready.tells in
              let failed = subst (λ (f : OpenFault). new.failed_tables ≡ opened_count f mid.failed_tables) device (ap (λ (f : FilesFacts). f.failed_tables) unready.files.same) in
              right_unlent same (λ s stands still. device_first old new out out_now status code is table script s (inl still) (tables_failed mid.failed_tables failed refl) told)
          | inr others ↦ elim others [
            | inl size ↦ torn_right same size.1
            | inr memory ↦ memory_right same (subst (λ (f : OpenFault). Tells out out_now (open_fault_text f) (open_fault_status f) status) memory unready.tells)
          ]
        ]
      ]

  unlent_right : (changes : Bool) → IsWeighed text changes → IsUnlent changes table mid new out out_now status → RunsRight table script old new out out_now code
  unlent_right true weighed unready = unready_right (weighed.exact.0 refl) unready
  unlent_right false weighed unopened = unopened_right unopened

  -- or it was
  module _ (changes : Bool) (weighed : IsWeighed text changes) (asked : IsAskedOf changes table text mid new out out_now status) where
    store_fails : IsTrue asked.store.can_fail → IsTrue old.can_fail
    store_fails can = subst (λ (b : Bool). IsTrue b) (asked.lent.lent.can_fail ∙ can_fail) can

    opened_holds : asked.mid.holds table ≡ mid.holds table
    opened_holds = left_by_opening changes table mid asked.mid asked.opens

    untold_ends : (s : Stand) → AreStanding asked.store.pages s → IsUntold asked.store out out_now status → new ≡ asked.mid → EndsRight table script s old new out out_now code
    untold_ends s (placed, sound, regions_are, stands) none same =
        tree_first old new out out_now status code is table script s (inl (held_same table asked.mid new same ∙ opened_holds ∙ there)) none.fault
        (none.passing s.table.schema placed s.next (asked.lent.lent.honest honest) sound)
        (λ device. inr (inr (inl (store_fails (subst (λ (f : TreeFault). IsOpenFault asked.store f) device none.is))))) none.tells

    kept_ends : (s : Stand) → AreStanding asked.store.pages s → IsKeptRun changes table text asked.store asked.mid new out out_now status
        → EndsRight table script s old new out out_now code
    kept_ends s (placed, sound, regions_are, stands) k =
        let ran = k.run.ran in
        let from_honest = asked.lent.lent.honest honest in
        let (tree_sound, of_schema, of_placed, of_next) = k.run.tree_is.sound s.table.schema placed s.next from_honest sound in
        let stand = opened_stand k.run.tree s placed tree_sound of_schema of_placed of_next regions_are stands in
        let stored : HasPages (asked.mid.holds table) asked.store.pages = subst (λ (h : Held). HasPages h asked.store.pages) (sym opened_holds) asked.lent.stored in
        let held : (new.holds table ≡ old.holds table) ⊎ ((later : Stand) × IsLeftAt table new later) =
        elim (kept_either changes table k.left.pages ran.closing ran.keeping asked.mid new k.kept) [
          | inl same ↦ inl (same ∙ opened_holds ∙ there)
          | inr done ↦
              let (before, after, was, has, at, left_honest, left_sound) =
              what_was_done_stands asked.store k.left s.table.schema placed s.next text out out_now status from_honest sound k.run done.0 in
              inr (after, record { all = k.left.pages; stands = standing_of k.left.pages ran.now after left_sound at; held = done.1 })
        ] in
        run_ends changes table script text s asked.store k.left old asked.mid new k.run.tree ran.now ran.closing ran.keeping out ran.mid out_now status code is read store_fails
        (same_tables changes table mid asked.mid asked.opens ∙ tables) k.run.tree_is.opened.store_is stand ran.closes ran.faults k.kept
        (left_held changes table k.left.pages asked.store.pages ran.closing ran.keeping asked.mid new stored
        (λ no_change. same_pages k.left asked.store _ (k.run.left_is (weighed.asks no_change k.run.tree.schema))) k.kept)
        held ran.result ran.ran ran.tells

    asked_right : RunsRight table script old new out out_now code
    asked_right =
        right_on asked.store.pages (lends_stored (old.holds table) asked.store.pages (subst (λ (h : Held). HasPages h asked.store.pages) there asked.lent.stored))
        (λ s stands. elim asked.asks [
          | inl kept ↦ kept_ends s stands kept
          | inr none ↦ untold_ends s stands none.0 none.1
        ])

  script_right : RunsScript table text mid new out out_now status → RunsRight table script old new out out_now code
  script_right (inl unweighed) = memory_right (held_same table mid new unweighed.files) unweighed.tells
  script_right (inr (changes, weighed, inl asked)) = asked_right changes weighed asked
  script_right (inr (changes, weighed, inr unlent)) = unlent_right changes weighed unlent

-- ---- the promise

module _ (table script : List ℕ) (old new : FilesFacts) (out out_now : OutFacts) (status : Status) (code : ℕ) (is : code ≡ status_code status) (apart : table ≢ standard_input)
    (honest : IsTrue old.honest) where
  unread_right : IsUnread script old new out out_now status → RunsRight table script old new out out_now code
  unread_right unread =
      let still : new.holds table ≡ old.holds table = left_by_reading script table old new _ (λ both. apart both.0) unread.reads in
      let why : unread.fault ≡ store.Device → HasFailed old new out out_now =
      λ device. inl (ap (λ (f : FilesFacts). f.failed_reads) unread.reads.same ∙ ap (λ (f : StoreFault). raised_by f old.failed_reads) device) in
      record {
        all = lent_by (old.holds table);
        lent = lends_by (old.holds table);
        ends = λ s stands. store_first old new out out_now status code is table script s (inl still) unread.fault unread.is why unread.tells;
        others = λ other other_apart no_input. left_by_reading script other old new _ no_input unread.reads;
      }

  run_right : IsRunOf table script old new out out_now status → RunsRight table script old new out out_now code
  run_right ran =
      let same = ran.read.reads.same in
      let stays = stays_script table ran.asked ran.mid new out out_now status ran.ran in
      let read : HasReadScript script ran.asked old new = record {
        text_is = ran.read.text_is;
        readings = subst (λ (r : Option (List (List ℕ))). AreRead (script ∷ []) old.readings r) (sym stays.readings) ran.read.reads.readings;
      } in
      script_right table script ran.asked old ran.mid new out out_now status code is read (rw (ap (λ (f : FilesFacts). f.honest) same) honest)
      (ap (λ (f : FilesFacts). f.can_fail) same) (ap (λ (f : FilesFacts). f.failed_tables) same) (left_by_reading script table old ran.mid _ (λ both. apart both.0) ran.read.reads)
      (λ other other_apart no_input. stays.others other other_apart ∙ left_by_reading script other old ran.mid _ no_input ran.read.reads) ran.ran

  memory_is_right : HasNoMemory old new out out_now status → RunsRight table script old new out out_now code
  memory_is_right none = record {
    all = lent_by (old.holds table);
    lent = lends_by (old.holds table);
    ends = λ s stands. memory_first old new out out_now status code is table script s (inl (held_same table old new none.files)) none.tells;
    others = λ other other_apart no_input. held_same other old new none.files;
  }

pub short_promise : (words : List (List ℕ)) (old new : FilesFacts) (out out_now notes notes_now : OutFacts) (status : Status) (code : ℕ) → code ≡ status_code status
    → HasEnded words old new out out_now notes notes_now status → KeepsShortPromise words old new out out_now code
short_promise words old new out out_now notes notes_now status code is ended table script ours apart honest =
    elim (ran_or_memory words table script old new out out_now status ours notes notes_now ended) [
      | inl (inl ran) ↦ run_right table script old new out out_now status code is apart honest ran
      | inl (inr unread) ↦ unread_right table script old new out out_now status code is apart honest unread
      | inr none ↦ memory_is_right table script old new out out_now status code is apart honest none
    ]
