-- The laws of how a command ends, as specs/Laws.antt states them.
use Rattle.std.proofs.Common.{◌≡◌, ◌≢◌, ◌⊎◌, ◌∙◌, ℕ, Bool, true, false, List, [], Some, Ok, Err, inl, inr, ap, arith, length, refl, subst, sym}
use Rattle.std.proofs.lemmas.Bool.{cases_Bool, false≢true}
use Rattle.std.proofs.lemmas.Slice.Eq.{bytes_eq-Decides}
use Rattle.std.specs.Str.{bytes_eq}
use Rattle.std.specs.Prelude.{IsOk, IsTrue, Result}
use Rattle.ub_store.specs.Facts.{StoreFacts, IsHonest}
use Rattle.ub_store.specs.declared.fault.StoreFault.{StoreFault}
use Rattle.ub_store.specs.declared.fault.StoreFault.TheVariants as store
use Rattle.ub_files.specs.Files.{standard_input, FilesFacts, HasPages, Held, IsEmpty, IsStored, IsTorn, MakesFile, ReadsFile, absent, bytes, pages, torn, untold}
use Rattle.ub_files.specs.declared.fault.OpenFault.{OpenFault}
use Rattle.ub_files.specs.declared.fault.OpenFault.TheVariants as opening
use Rattle.ub_words.proofs.Laws.{help_is_help, nothing_asked}
use Rattle.ub_words.specs.Asked.{IsAskedBy}
use Rattle.ub_words.specs.CommandLine.{AsksHelp, AsksNothing, AsksQuery}
use Rattle.ub_words.specs.Laws.{IsHelp}
use Rattle.ub_words.specs.declared.words.Asked.{Asked}
use Rattle.ub_words.specs.declared.words.Asked.TheVariants.{Help, Query, Wrong}
use Rattle.ub_table_file.specs.Commands.{IsKept, IsUnlent, IsUnopened, IsUnready, MakesTable, OpensFor, RunsFile, RunsScript, TellsMade, loaded_line}
use Rattle.ub_table_file.proofs.Laws.{appended_sound, says_done, store_not_done, tree_not_done, where_ok}
use Rattle.ub_shell.proofs.LeftFacts.{full_stays, run_leaves, run_stays}
use Rattle.ub_shell.specs.Laws.{AreBothInput, AskingLeavesTheTable, AskingQueriesLeaveTheTable, AskingRunsLeaveTheTable, CheckedTablesAreRunAsSound, CheckedTablesAreSound, CheckingLeavesTheTable, CrashesLeaveATable, DescribingLeavesTheTable, FailedQueriesLoseNothing, FailedRunsLoseNothing, FailedScriptsLoseNothing, FullTablesAreLeft, IsClosedTable, IsHeldStill, IsHeldTable, IsOldIfTold, IsOldTable, IsRunOfTable, IsScriptOfTable, IsSoundTable, KeptQueriesLast, KeptRunsLast, KeptScriptsLast, LoadsLoseNoTable, OldTablesAreNotLost, OnlyHelpIsWritten, OnlyQueriesNote, OnlySoundTablesAreUpgraded, SoundTablesPass, TellsBadJournal, TellsPassing, UnchangedTablesAreLeft, UpgradedTablesAreTheSame, UpgradesLoseNoTable, UpgradingLeavesTheOldTable, WhatWasDoneStands, WrongWordsAreTold, row_count}
use Rattle.ub_table_file.specs.Crashes.{SaysKept, HoldsAsked, HoldsRun}
use Rattle.ub_table_file.specs.Appended.{HoldsAppended}
use Rattle.ub_table_file.specs.Asking.{ChecksFile, IsAnswered}
use Rattle.ub_table_file.specs.Status.{Tells, open_fault_status, open_fault_text, store_fault_status, store_fault_text, tree_fault_status, tree_fault_text}
use Rattle.ub_shell.proofs.UpgradeFacts.{some_page}
use Rattle.ub_table_file.specs.Queried.{IsShown}
use Rattle.ub_shell.specs.Ran.{Does, HasHelped, HasRefused}
use Rattle.ub_shell.specs.Upgrading.{IsFileAnew}
use Rattle.ub_table_file.specs.declared.status.Status.{Status}
use Rattle.ub_table_file.specs.declared.status.Status.TheVariants as ended
use Rattle.ub_table_file.specs.declared.status.Status.TheVariants.{Done}
use Rattle.ub_exec.proofs.Laws.{sound_trees_stand}
use Rattle.ub_script.specs.Output.{OutFacts, out_facts}
use Rattle.ub_script.specs.Script.{OnlyAsks}
use Rattle.ub_script.specs.declared.fault.RunFault.{RunFault}
use Rattle.ub_script.specs.declared.script.Summary.{Summary}
use Rattle.ub_table.specs.declared.schema.Schema.{Schema}
use Rattle.ub_tree.proofs.Laws.{well_pages_are_sound}
use Rattle.ub_tree.specs.declared.fault.TreeFault.{TreeFault}
use Rattle.ub_tree.specs.declared.fault.TreeFault.TheVariants.{Failed}
use Rattle.ub_tree.specs.Old.{AreOldPages}
use Rattle.ub_tree.specs.Opened.{IsPassing}
use Rattle.ub_tree.specs.Placed.{Placed, regions_in}
use Rattle.ub_tree.specs.Stored.{AreSoundPages}
use Rattle.ub_tree.specs.View.{region_count}
use Rattle.ub_words.specs.declared.given.TableCommand.TheVariants.{Check}
use Rattle.ub_table.specs.Region.{RegionRows}

-- ---- what the words ask for

-- the help was asked for, and was told
helped : (words : List (List ℕ)) (a : Asked) (old new : FilesFacts) (out out_now notes notes_now : OutFacts) (status : Status) → IsHelp a → IsAskedBy words a
    → Does a old new out out_now notes notes_now status → (notes_now ≡ notes) × HasHelped words old new out out_now status
helped words (Help text) old new out out_now notes notes_now status is by does =
    (does.0, record { asks = by.0; text = text.items; lines = by.1; tells = does.1.0; files = does.1.1 })
helped words a old new out out_now notes notes_now status is by does = absurd is

pub only_help_is_written : OnlyHelpIsWritten
only_help_is_written words old new out out_now notes notes_now status alone (inl done) =
    let told = helped words done.asked old new out out_now notes notes_now status (help_is_help words done.asked alone done.asks) done.asks done.does in
    (told.0, inl told.1)
only_help_is_written words old new out out_now notes notes_now status alone (inr memory) = (memory.0, inr memory.1)

-- nothing was asked for, nor the help, and that was told
refused : (words : List (List ℕ)) (a : Asked) (old new : FilesFacts) (out out_now notes notes_now : OutFacts) (status : Status) → AsksNothing words → ¬ (AsksHelp words)
    → IsAskedBy words a → Does a old new out out_now notes notes_now status → (notes_now ≡ notes) × HasRefused words old new out out_now status
refused words (Help text) old new out out_now notes notes_now status nothing no_help by does = absurd (no_help by.0)
refused words (Wrong text) old new out out_now notes notes_now status nothing no_help by does =
    (does.0, record { asks = by.0; text = text.items; lines = by.1; tells = does.1.0; files = does.1.1 })
refused words a old new out out_now notes notes_now status nothing no_help by does = absurd (nothing_asked words a nothing by)

pub wrong_words_are_told : WrongWordsAreTold
wrong_words_are_told words old new out out_now notes notes_now status nothing no_help (inl done) =
    let told = refused words done.asked old new out out_now notes notes_now status nothing no_help done.asks done.does in
    (told.0, inl told.1)
wrong_words_are_told words old new out out_now notes notes_now status nothing no_help (inr memory) = (memory.0, inr memory.1)

-- no query was asked for
quiet : (words : List (List ℕ)) (a : Asked) (old new : FilesFacts) (out out_now notes notes_now : OutFacts) (status : Status)
    → ((table statements : List ℕ) → ¬ (AsksQuery words table statements)) → IsAskedBy words a → Does a old new out out_now notes notes_now status → notes_now ≡ notes
quiet words (Query a) old new out out_now notes notes_now status no_query by does = absurd (no_query _ _ by)
quiet words a old new out out_now notes notes_now status no_query by does = does.0

pub only_queries_note : OnlyQueriesNote
only_queries_note words old new out out_now notes notes_now status no_query (inl done) =
    quiet words done.asked old new out out_now notes notes_now status no_query done.asks done.does
only_queries_note words old new out out_now notes notes_now status no_query (inr memory) = memory.0

-- ---- a table file on which a script was run

still : (held : Held) → IsHeldStill held held
still untold = tt
still absent = refl
still (bytes text) = refl
still (pages all) = refl
still torn = refl

still_same : (a b : Held) → b ≡ a → IsHeldStill a b
still_same a b same = subst (λ (held : Held). IsHeldStill a held) (sym same) (still a)

-- a path holds what it did where the files are as they were
pub held_same : (path : List ℕ) (old new : FilesFacts) → new ≡ old → new.holds path ≡ old.holds path
held_same path old new same = ap (λ (f : FilesFacts). f.holds path) same

-- reading a text leaves each file but standard input
pub left_by_reading : {A : Type 0} (path table : List ℕ) (old new : FilesFacts) (r : Result A StoreFault) → ¬ (AreBothInput table path) → ReadsFile path old new r
    → new.holds table ≡ old.holds table
left_by_reading path table old new r other h = elim (cases_Bool (bytes_eq table path)) [
  | inl same ↦
      let is : table ≡ path = (bytes_eq-Decides table path).0 same in
      ap (λ holds. holds table) (h.kept (λ input. other (is ∙ input, input))).0
  | inr apart ↦ (h.others table (λ is. let same = (bytes_eq-Decides table path).1 is in cc)).0
]

-- so does its opening
pub left_by_opening : (changes : Bool) (table : List ℕ) (old new : FilesFacts) → OpensFor changes table old new → new.holds table ≡ old.holds table
left_by_opening true table old new opens = ap (λ (f : FilesFacts). f.holds table) opens.same
left_by_opening false table old new opens = held_same table old new opens

left_unlent : (changes : Bool) (table : List ℕ) (old new : FilesFacts) (out out_now : OutFacts) (status : Status) → IsUnlent changes table old new out out_now status
    → new.holds table ≡ old.holds table
left_unlent true table old new out out_now status unready = ap (λ (f : FilesFacts). f.holds table) unready.files.same
left_unlent false table old new out out_now status unopened = ap (λ (f : FilesFacts). f.holds table) unopened.files

-- and where pages were to be kept it holds what it did, or them
pub kept_either : (changes : Bool) (table : List ℕ) (left : List (List ℕ)) (closing : Result (Unit {0}) TreeFault) (keeping : Result (Unit {0}) StoreFault) (old new : FilesFacts)
    → IsKept changes table left closing keeping old new → (new.holds table ≡ old.holds table) ⊎ (IsOk closing × HasPages (new.holds table) left)
kept_either true table left (Ok done) (Ok kept) old new h = inr (refl, h.kept.0)
kept_either true table left (Ok done) (Err fault) old new h = elim h.either [
  | inl same ↦ inl same
  | inr held ↦ inr (refl, held)
]
kept_either true table left (Err fault) keeping old new h = inl (held_same table old new h.1)
kept_either false table left closing keeping old new h = inl (held_same table old new h.1)

-- so where a script was run on it
script_either : (table script : List ℕ) (old new : FilesFacts) (out out_now : OutFacts) (status : Status) → RunsScript table script old new out out_now status
    → (new.holds table ≡ old.holds table) ⊎ HoldsAsked table script old out out_now status (new.holds table)
script_either table script old new out out_now status (inl unweighed) = inl (held_same table old new unweighed.files)
script_either table script old new out out_now status (inr (changes, weighed, inr unlent)) = inl (left_unlent changes table old new out out_now status unlent)
script_either table script old new out out_now status (inr (changes, weighed, inl asked)) =
    let opened = left_by_opening changes table old asked.mid asked.opens in
    elim asked.asks [
      | inl kept ↦ elim (kept_either changes table kept.left.pages kept.run.ran.closing kept.run.ran.keeping asked.mid new kept.kept) [
        | inl same ↦ inl (same ∙ opened)
        | inr held ↦ inr (asked.store, asked.lent, (kept.left, kept.run, held.0, held.1))
      ]
      | inr none ↦ inl (held_same table asked.mid new none.1 ∙ opened)
    ]

failed_scripts_lose_nothing : FailedScriptsLoseNothing
failed_scripts_lose_nothing table script old new out out_now status other (inr unread) = inl (left_by_reading script table old new _ other unread.reads)
failed_scripts_lose_nothing table script old new out out_now status other (inl run) =
    let mid : run.mid.holds table ≡ old.holds table = left_by_reading script table old run.mid _ other run.read.reads in
    elim (script_either table run.asked run.mid new out out_now status run.ran) [
      | inl same ↦ inl (same ∙ mid)
      | inr (store, lent, (left, ran, closed, holds)) ↦ inr (record {
        asked = run.asked;
        mid = run.mid;
        store = store;
        left = left;
        read = run.read;
        lent = lent;
        run = ran;
        closed = closed;
        holds = holds;
      })
    ]

failed_queries_lose_nothing : FailedQueriesLoseNothing
failed_queries_lose_nothing table statements old new out out_now notes notes_now status q =
    elim (script_either table statements old new (out_facts (Some []) 0) (out_facts (Some q.text) q.failed) q.ended q.asked) [
      | inl same ↦ inl same
      | inr held ↦ inr (record { text = q.text; failed = q.failed; ended = q.ended; asked = held; shown = q.shown })
    ]

pub failed_runs_lose_nothing : FailedRunsLoseNothing
failed_runs_lose_nothing = (failed_scripts_lose_nothing, failed_queries_lose_nothing)

-- what is kept with the pages that were there
kept_same : (before after : Held) (held left : List (List ℕ)) → HasPages before held → HasPages after left → left ≡ held → IsHeldStill before after
kept_same untold after held left stored kept same = tt
kept_same (pages all) untold held left stored kept same = tt
kept_same (pages all) (pages now) held left stored kept same = ap pages (sym kept ∙ same ∙ stored)
kept_same (pages all) torn held left stored kept same = absurd kept
kept_same (pages all) absent held left stored kept same = absurd kept
kept_same (pages all) (bytes text) held left stored kept same = absurd kept
kept_same absent after held left stored kept same = absurd stored
kept_same (bytes text) after held left stored kept same = absurd stored
kept_same torn after held left stored kept same = absurd stored

-- where a script only asks
asked_still : (table script : List ℕ) (old : FilesFacts) (out out_now : OutFacts) (status : Status) (after : Held) → ((schema : Schema) → OnlyAsks schema script)
    → HoldsAsked table script old out out_now status after → IsHeldStill (old.holds table) after
asked_still table script old out out_now status after asks (store, lent, (left, run, closed, holds)) =
    kept_same (old.holds table) after store.pages left.pages lent.stored holds (ap (λ (s : StoreFacts). s.pages) (run.left_is (asks run.tree.schema)))

asking_runs_leave_the_table : AskingRunsLeaveTheTable
asking_runs_leave_the_table table script old new out out_now status other asks ran =
    elim (failed_scripts_lose_nothing table script old new out out_now status other ran) [
      | inl same ↦ still_same (old.holds table) (new.holds table) same
      | inr held ↦
          let mid : held.mid.holds table ≡ old.holds table = left_by_reading script table old held.mid _ other held.read.reads in
          subst (λ (h : Held). IsHeldStill h (new.holds table)) mid
          (asked_still table held.asked held.mid out out_now status (new.holds table) (λ schema. asks held.asked schema held.read.text_is)
          (held.store, held.lent, (held.left, held.run, held.closed, held.holds)))
    ]

asking_queries_leave_the_table : AskingQueriesLeaveTheTable
asking_queries_leave_the_table table statements old new out out_now notes notes_now status asks q =
    elim (script_either table statements old new (out_facts (Some []) 0) (out_facts (Some q.text) q.failed) q.ended q.asked) [
      | inl same ↦ still_same (old.holds table) (new.holds table) same
      | inr held ↦ asked_still table statements old (out_facts (Some []) 0) (out_facts (Some q.text) q.failed) q.ended (new.holds table) asks held
    ]

pub asking_leaves_the_table : AskingLeavesTheTable
asking_leaves_the_table = (asking_runs_leave_the_table, asking_queries_leave_the_table)

-- ---- a table file that was described, or checked

pub describing_leaves_the_table : DescribingLeavesTheTable
describing_leaves_the_table table old new out out_now status (inl told) = still_same (old.holds table) (new.holds table) (held_same table old new told.files)
describing_leaves_the_table table old new out out_now status (inr unopened) =
    still_same (old.holds table) (new.holds table) (ap (λ (f : FilesFacts). f.holds table) unopened.files)

pub checking_leaves_the_table : CheckingLeavesTheTable
checking_leaves_the_table table old new out out_now status (inl told) = still_same (old.holds table) (new.holds table) (held_same table old new told.files)
checking_leaves_the_table table old new out out_now status (inr unopened) =
    still_same (old.holds table) (new.holds table) (ap (λ (f : FilesFacts). f.holds table) unopened.files)

-- ---- a table file of an older version that was made anew

pub upgrading_leaves_the_old_table : UpgradingLeavesTheOldTable
upgrading_leaves_the_old_table source table old new out out_now status apart (inl same) = absurd (apart same.same)
upgrading_leaves_the_old_table source table old new out out_now status apart (inr (ne, inl anew)) = elim anew.upgrades [
  | inl file ↦ still_same (old.holds source) (new.holds source) (file.makes.makes.others source apart).0
  | inr none ↦ still_same (old.holds source) (new.holds source) (held_same source old new none.files)
]
upgrading_leaves_the_old_table source table old new out out_now status apart (inr (ne, inr unopened)) =
    still_same (old.holds source) (new.holds source) (ap (λ (f : FilesFacts). f.holds source) unopened.files)

-- a fault never ends as all that was to be done
pub told_done : (out out_now : OutFacts) (text : List ℕ) (wanted : Status) → Tells out out_now text wanted Done → Done ≡ wanted
told_done out out_now text wanted (inl told) = told.0
told_done out out_now text wanted (inr broken) = let bad = broken.0 in cc

-- the pages of a closed table of an older version are those of the store that was lent
module _ (version next : ℕ) (schema : Schema) (placed : List Placed) where
  old_pages : (held : Held) (from : StoreFacts) → IsStored held from → IsOldTable held version schema placed next → AreOldPages version from.pages schema placed next
  old_pages (pages all) from stored is = subst (λ (ps : List (List ℕ)). AreOldPages version ps schema placed next) (sym stored) is
  old_pages untold from stored is = absurd is
  old_pages absent from stored is = absurd is
  old_pages (bytes text) from stored is = absurd is
  old_pages torn from stored is = absurd is

-- a table file that holds the pages of a closed table is told so
closed_table : (held : Held) (left : List (List ℕ)) (schema : Schema) (placed : List Placed) (regions : List RegionRows) (next : ℕ) → HasPages held left
    → AreSoundPages left schema placed next → regions_in placed ≡ regions → IsClosedTable held schema regions next
closed_table untold left schema placed regions next holds sound same = tt
closed_table (pages all) left schema placed regions next holds sound same =
    (placed, subst (λ (ps : List (List ℕ)). AreSoundPages ps schema placed next) holds sound, same)
closed_table torn left schema placed regions next holds sound same = absurd holds
closed_table absent left schema placed regions next holds sound same = absurd holds
closed_table (bytes text) left schema placed regions next holds sound same = absurd holds

-- a table file was made where all was done
made_done : (rows regions : ℕ) (r : Result (Unit {0}) OpenFault) (out out_now : OutFacts) → TellsMade rows regions r out out_now Done → IsOk r
made_done rows regions (Ok made) out out_now told = refl
made_done rows regions (Err (opening.Store fault)) out out_now told = absurd (store_not_done fault (told_done out out_now _ _ told))
made_done rows regions (Err opening.BadJournal) out out_now told = let bad = told_done out out_now _ _ told in cc

pub made_pages : (table : List ℕ) (all : List (List ℕ)) (rows regions : ℕ) (old new : FilesFacts) (out out_now : OutFacts) → MakesTable table all rows regions old new out out_now Done
    → HasPages (new.holds table) all
made_pages table all rows regions old new out out_now m = (where_ok m.result (made_done rows regions m.result out out_now m.tells) m.makes.made).0

-- a table file that was made anew of a closed table
file_anew : (table : List ℕ) (from : StoreFacts) (version next : ℕ) (schema : Schema) (placed : List Placed) (old new : FilesFacts) (out out_now : OutFacts)
    → IsHonest from → AreOldPages version from.pages schema placed next → IsFileAnew table from old new out out_now Done → IsClosedTable (new.holds table) schema (regions_in placed) next
file_anew table from version next schema placed old new out out_now from_honest sound file =
    let has = file.table_is.upgrade.made version next schema placed from_honest sound in
    let t = file.table_is.tree in
    let of_schema = subst (λ (s : Schema). AreSoundPages file.pages s t.placed t.next) has.schema_is file.table_is.closed in
    let of_next = subst (λ (n : ℕ). AreSoundPages file.pages schema t.placed n) has.next_is of_schema in
    closed_table (new.holds table) file.pages schema t.placed (regions_in placed) next (made_pages table file.pages file.rows file.regions old new out out_now file.makes) of_next has.regions_are

-- the new table file is a closed table, of the regions of the tree that was made
file_sound : (table : List ℕ) (from : StoreFacts) (old new : FilesFacts) (out out_now : OutFacts) → (file : IsFileAnew table from old new out out_now Done)
    → IsClosedTable (new.holds table) file.table_is.tree.schema (regions_in file.table_is.tree.placed) file.table_is.tree.next
file_sound table from old new out out_now file =
    let t = file.table_is.tree in
    closed_table (new.holds table) file.pages t.schema t.placed (regions_in t.placed) t.next (made_pages table file.pages file.rows file.regions old new out out_now file.makes) file.table_is.closed refl

-- and the old one was a closed table of them
was_old : (version next : ℕ) (schema : Schema) (placed : List Placed) (held : Held) (from : StoreFacts) → IsStored held from → AreOldPages version from.pages schema placed next
    → IsOldIfTold held version schema placed next
was_old version next schema placed untold from stored sound = tt
was_old version next schema placed (pages all) from stored sound = subst (λ (ps : List (List ℕ)). AreOldPages version ps schema placed next) stored sound
was_old version next schema placed absent from stored sound = absurd stored
was_old version next schema placed (bytes text) from stored sound = absurd stored
was_old version next schema placed torn from stored sound = absurd stored

pub only_sound_tables_are_upgraded : OnlySoundTablesAreUpgraded
only_sound_tables_are_upgraded source table old new out out_now honest (inl same) =
    let bad = told_done _ _ _ _ same.tells in cc
only_sound_tables_are_upgraded source table old new out out_now honest (inr (ne, inr unopened)) =
    absurd (store_not_done unopened.fault (told_done _ _ _ _ unopened.tells))
only_sound_tables_are_upgraded source table old new out out_now honest (inr (ne, inl anew)) = elim anew.upgrades [
  | inl file ↦
      let t = file.table_is.tree in
      let upgraded = file.table_is.upgrade.upgraded in
      let was = upgraded.old_pages (anew.lent.lent.honest honest) refl in (
        upgraded.head.version,
        t.schema,
        t.placed,
        t.next,
        was_old upgraded.head.version t.next t.schema t.placed (old.holds source) anew.store anew.lent.stored was,
        file_sound table anew.store old new out out_now file,
      )
  | inr none ↦ absurd (tree_not_done none.fault (told_done _ _ _ _ none.tells))
]

pub upgraded_tables_are_the_same : UpgradedTablesAreTheSame
upgraded_tables_are_the_same source table old new out out_now version next schema placed honest sound (inl same) =
    let bad = told_done _ _ _ _ same.tells in cc
upgraded_tables_are_the_same source table old new out out_now version next schema placed honest sound (inr (ne, inr unopened)) =
    absurd (store_not_done unopened.fault (told_done _ _ _ _ unopened.tells))
upgraded_tables_are_the_same source table old new out out_now version next schema placed honest sound (inr (ne, inl anew)) =
    let here = old_pages version next schema placed (old.holds source) anew.store anew.lent.stored sound in
    elim anew.upgrades [
      | inl file ↦ file_anew table anew.store version next schema placed old new out out_now (anew.lent.lent.honest honest) here file
      | inr none ↦ absurd (tree_not_done none.fault (told_done _ _ _ _ none.tells))
    ]

-- ---- a table file that was checked, with nothing wrong

sound_table : (held : Held) (from : List (List ℕ)) (schema : Schema) (placed : List Placed) (next : ℕ) → HasPages held from → AreSoundPages from schema placed next
    → IsSoundTable held
sound_table untold from schema placed next stored sound = tt
sound_table (pages all) from schema placed next stored sound =
    (schema, placed, next, subst (λ (ps : List (List ℕ)). AreSoundPages ps schema placed next) stored sound)
sound_table absent from schema placed next stored sound = absurd stored
sound_table (bytes text) from schema placed next stored sound = absurd stored
sound_table torn from schema placed next stored sound = absurd stored

-- a store that was checked, with nothing wrong
well_store : {out out_now : OutFacts} {status : Status} (from : StoreFacts) → IsHonest from → (well : IsAnswered Check from out out_now status)
    → AreSoundPages from.pages well.is.tree.schema well.is.tree.placed well.is.tree.next
well_store from honest well =
    let opened = well.is.tree_is.opened in
    let there : IsHonest well.is.tree.store = subst (λ (s : StoreFacts). IsHonest s) (sym opened.store_is) honest in
    (well_pages_are_sound from well.is.tree honest opened (well.is.well there)).0

pub checked_tables_are_sound : CheckedTablesAreSound
checked_tables_are_sound table old new out out_now honest (inr unopened) =
    absurd (store_not_done unopened.fault (told_done _ _ _ _ unopened.tells))
checked_tables_are_sound table old new out out_now honest (inl told) = elim told.ended [
  | inl well ↦
      let t = well.is.tree in
      let sound = well_store told.store (told.lent.lent.honest honest) well in
      sound_table (old.holds table) told.store.pages t.schema t.placed t.next told.lent.stored sound
  | inr ill ↦ absurd (tree_not_done ill.fault (told_done _ _ _ _ ill.tells))
]

-- ---- a closed table that is checked

module _ (schema : Schema) (placed : List Placed) (next : ℕ) where
  -- its pages are those of the store that was lent
  held_pages : (held : Held) (from : StoreFacts) → IsStored held from → IsHeldTable held schema placed next → AreSoundPages from.pages schema placed next
  held_pages (pages all) from stored is = subst (λ (ps : List (List ℕ)). AreSoundPages ps schema placed next) (sym stored) is
  held_pages untold from stored is = absurd is
  held_pages absent from stored is = absurd is
  held_pages (bytes text) from stored is = absurd is
  held_pages torn from stored is = absurd is

  -- and where it is told what the path holds, it is that table
  told_pages : (held : Held) (all : List (List ℕ)) → HasPages held all → AreSoundPages all schema placed next → held ≢ untold → IsHeldTable held schema placed next
  told_pages (pages now) all holds sound told = subst (λ (ps : List (List ℕ)). AreSoundPages ps schema placed next) holds sound
  told_pages untold all holds sound told = absurd (told refl)
  told_pages torn all holds sound told = absurd holds
  told_pages absent all holds sound told = absurd holds
  told_pages (bytes text) all holds sound told = absurd holds

  -- it is a whole number of pages
  never_torn : (held : Held) → IsHeldTable held schema placed next → IsTorn held → ⊥
  never_torn (pages all) is bad = bad
  never_torn untold is bad = is
  never_torn torn is bad = is
  never_torn absent is bad = is
  never_torn (bytes text) is bad = is

  -- so it isn't opened only where the device failed, or memory was refused
  passing_alone : {out out_now : OutFacts} {status : Status} (table : List ℕ) (old new : FilesFacts) → IsHeldTable (old.holds table) schema placed next
      → (unopened : IsUnopened table old new out out_now status) → (unopened.fault ≡ store.Device) ⊎ (unopened.fault ≡ store.Memory)
  passing_alone table old new held unopened = elim unopened.is [
    | inl device ↦ inl device
    | inr others ↦ elim others [
      | inl size ↦ absurd (never_torn (old.holds table) held size.1)
      | inr memory ↦ inr memory
    ]
  ]

  -- nor to be changed only there, or where a journal stands beside it
  unready_told : (out out_now : OutFacts) (status : Status) (table : List ℕ) (old new : FilesFacts) → IsHeldTable (old.holds table) schema placed next
      → IsUnready table old new out out_now status → TellsPassing out out_now status ⊎ TellsBadJournal out out_now status
  unready_told out out_now status table old new held unready = elim unready.is [
    | inl journal ↦ inr (subst (λ (f : OpenFault). Tells out out_now (open_fault_text f) (open_fault_status f) status) journal unready.tells)
    | inr some ↦ elim some [
      | inl device ↦ inl (inl (subst (λ (f : OpenFault). Tells out out_now (open_fault_text f) (open_fault_status f) status) device unready.tells))
      | inr others ↦ elim others [
        | inl size ↦ absurd (never_torn (old.holds table) held size.1)
        | inr memory ↦ inl (inr (subst (λ (f : OpenFault). Tells out out_now (open_fault_text f) (open_fault_status f) status) memory unready.tells))
      ]
    ]
  ]

pub passing_told : (out out_now : OutFacts) (status : Status) (fault : TreeFault) → IsPassing fault → Tells out out_now (tree_fault_text fault) (tree_fault_status fault) status
    → TellsPassing out out_now status
passing_told out out_now status fault (inl memory) told = inr (subst (λ (f : TreeFault). Tells out out_now (tree_fault_text f) (tree_fault_status f) status) memory told)
passing_told out out_now status fault (inr device) told = inl (subst (λ (f : TreeFault). Tells out out_now (tree_fault_text f) (tree_fault_status f) status) device told)

pub store_passing_told : (out out_now : OutFacts) (status : Status) (fault : StoreFault) → (fault ≡ store.Device) ⊎ (fault ≡ store.Memory)
    → Tells out out_now (store_fault_text fault) (store_fault_status fault) status → TellsPassing out out_now status
store_passing_told out out_now status fault (inl device) told = inl (subst (λ (f : StoreFault). Tells out out_now (store_fault_text f) (store_fault_status f) status) device told)
store_passing_told out out_now status fault (inr memory) told = inr (subst (λ (f : StoreFault). Tells out out_now (store_fault_text f) (store_fault_status f) status) memory told)

-- what is told of it
same_line : (out out_now : OutFacts) (status : Status) (rows regions some others : ℕ) → rows ≡ some → regions ≡ others → Tells out out_now (loaded_line rows regions) Done status
    → Tells out out_now (loaded_line some others) Done status
same_line out out_now status rows regions some others is are told =
    subst (λ (n : ℕ). Tells out out_now (loaded_line some n) Done status) are (subst (λ (n : ℕ). Tells out out_now (loaded_line n regions) Done status) is told)

pub sound_tables_pass : SoundTablesPass
sound_tables_pass table old new out out_now status schema placed next honest held (inr unopened) =
    inr (store_passing_told out out_now status unopened.fault (passing_alone schema placed next table old new held unopened) unopened.tells)
sound_tables_pass table old new out out_now status schema placed next honest held (inl told) =
    let from_honest = told.lent.lent.honest honest in
    let here = held_pages schema placed next (old.holds table) told.store told.lent.stored held in
    elim told.ended [
      | inl well ↦
          let (sound, of_schema, of_placed, of_next) = well.is.tree_is.sound schema placed next from_honest here in
          let t = well.is.tree in
          let rows = sound.rows_are ∙ ap (λ (p : List Placed). row_count p) of_placed in
          let regions = sound.count_is ∙ ap (λ (p : List Placed). length p) of_placed in
          inl (same_line out out_now status t.rows (region_count t) _ _ rows regions
          (subst (λ (text : List ℕ). Tells out out_now text Done status) well.is.text_is well.tells))
      | inr ill ↦ inr (passing_told out out_now status ill.fault (ill.is.1 schema placed next from_honest here) ill.tells)
    ]

-- ---- a script that is run on a table that was checked

-- what the path holds then is a closed table
checked_held : (table : List ℕ) (old new : FilesFacts) (out out_now : OutFacts) → IsTrue old.honest → ChecksFile table old new out out_now Done → new.holds table ≢ untold
    → (schema : Schema) × (placed : List Placed) × (next : ℕ) × IsHeldTable (new.holds table) schema placed next
checked_held table old new out out_now honest (inr unopened) told = absurd (store_not_done unopened.fault (told_done _ _ _ _ unopened.tells))
checked_held table old new out out_now honest (inl check) told = elim check.ended [
  | inl well ↦
      let t = well.is.tree in
      let sound = well_store check.store (check.lent.lent.honest honest) well in
      let holds = subst (λ (f : FilesFacts). HasPages (f.holds table) check.store.pages) (sym check.files) check.lent.stored in
      (t.schema, t.placed, t.next, told_pages t.schema t.placed t.next (new.holds table) check.store.pages holds sound told)
  | inr ill ↦ absurd (tree_not_done ill.fault (told_done _ _ _ _ ill.tells))
]

-- a table file that wasn't opened for a script
unlent_told : (schema : Schema) (placed : List Placed) (next : ℕ) (changes : Bool) (table : List ℕ) (old new : FilesFacts) (out out_now : OutFacts) (status : Status)
    → IsHeldTable (old.holds table) schema placed next → IsUnlent changes table old new out out_now status → TellsPassing out out_now status ⊎ TellsBadJournal out out_now status
unlent_told schema placed next true table old new out out_now status held unready = unready_told schema placed next out out_now status table old new held unready
unlent_told schema placed next false table old new out out_now status held unopened =
    inl (store_passing_told out out_now status unopened.fault (passing_alone schema placed next table old new held unopened) unopened.tells)

script_of_table : (table script : List ℕ) (schema : Schema) (placed : List Placed) (next : ℕ) (old new : FilesFacts) (out out_now : OutFacts) (status : Status)
    → IsTrue old.honest → IsHeldTable (old.holds table) schema placed next → RunsScript table script old new out out_now status
    → IsScriptOfTable table script schema placed next old new out out_now status ⊎ (TellsPassing out out_now status ⊎ TellsBadJournal out out_now status)
script_of_table table script schema placed next old new out out_now status honest held (inl unweighed) = inr (inl (inr unweighed.tells))
script_of_table table script schema placed next old new out out_now status honest held (inr (changes, weighed, inr unlent)) =
    inr (unlent_told schema placed next changes table old new out out_now status held unlent)
script_of_table table script schema placed next old new out out_now status honest held (inr (changes, weighed, inl asked)) =
    let from_honest = asked.lent.lent.honest honest in
    let here = held_pages schema placed next (old.holds table) asked.store asked.lent.stored held in
    elim asked.asks [
      | inl kept ↦
          let (sound, of_schema, of_placed, of_next) = kept.run.tree_is.sound schema placed next from_honest here in
          inl (record {
            store = asked.store;
            left = kept.left;
            changes = changes;
            opened = asked.mid;
            weighed = weighed;
            lent = asked.lent;
            opens = asked.opens;
            honest = from_honest;
            pages_are = here;
            run = kept.run;
            kept = kept.kept;
            sound = sound;
            schema_is = of_schema;
            placed_is = of_placed;
            next_is = of_next;
          })
      | inr none ↦ inr (inl (passing_told out out_now status none.0.fault (none.0.passing schema placed next from_honest here) none.0.tells))
    ]

run_of_table : (table script : List ℕ) (schema : Schema) (placed : List Placed) (next : ℕ) (old new : FilesFacts) (out out_now : OutFacts) (status : Status)
    → IsTrue old.honest → IsHeldTable (old.holds table) schema placed next → ¬ (AreBothInput table script) → RunsFile table script old new out out_now status
    → IsRunOfTable table script schema placed next old new out out_now status ⊎ (TellsPassing out out_now status ⊎ TellsBadJournal out out_now status)
run_of_table table script schema placed next old new out out_now status honest held apart (inr unread) =
    inr (inl (store_passing_told out out_now status unread.fault unread.is unread.tells))
run_of_table table script schema placed next old new out out_now status honest held apart (inl run) =
    let mid = left_by_reading script table old run.mid _ apart run.read.reads in
    let there = subst (λ (h : Held). IsHeldTable h schema placed next) (sym mid) held in
    let mid_honest : IsTrue run.mid.honest = rw (ap (λ (f : FilesFacts). f.honest) run.read.reads.same) honest in
    elim (script_of_table table run.asked schema placed next run.mid new out out_now status mid_honest there run.ran) [
      | inl ran ↦ inl (record { asked = run.asked; mid = run.mid; read = run.read; ran = ran })
      | inr told ↦ inr told
    ]

pub checked_tables_are_run_as_sound : CheckedTablesAreRunAsSound
checked_tables_are_run_as_sound table script statements old mid later new out out_mid out_later out_now status honest check later_honest same told =
    let (schema, placed, next, held) = checked_held table old mid out out_mid honest check (λ none. told (same ∙ none)) in
    let there = subst (λ (h : Held). IsHeldTable h schema placed next) (sym same) held in (
      schema,
      placed,
      next,
      there,
      λ apart run. run_of_table table script schema placed next later new out_later out_now status later_honest there apart run,
      λ run. script_of_table table statements schema placed next later new out_later out_now status later_honest there run,
    )

-- ---- a table on which a script was run

-- a closing that was done is that of a tree that hasn't failed
works_on : (b : Bool) (r : Result (Unit {0}) TreeFault) → IsOk r → (IsTrue b → r ≡ Err Failed) → b ≡ false
works_on false r done failed = refl
works_on true r done failed = let same = failed refl in cc

pub what_was_done_stands : WhatWasDoneStands
what_was_done_stands store left schema placed next script out out_now status honest sound run closed =
    let ran = run.ran in
    let (s, stands) = sound_trees_stand run.tree (run.tree_is.sound schema placed next honest sound).0 in
    let working = works_on ran.now.is_failed ran.closing closed (λ failed. (ran.closes.failed failed).0) in
    let (now, has, is) = run_leaves run.tree ran.now script ran.result out ran.mid s ran.ran stands working in
    let there = where_ok ran.closing closed (ran.closes.closed is.sound) in
    (s, now, stands, has, is, there.0, there.1)

pub unchanged_tables_are_left : UnchangedTablesAreLeft
unchanged_tables_are_left store left script out out_now status run done =
    let ran = run.ran in
    run_stays store left run.tree ran.now script ran.result ran.closing out ran.mid run.tree_is.opened ran.closes ran.ran done

pub full_tables_are_left : FullTablesAreLeft
full_tables_are_left store left script out out_now status run full =
    let ran = run.ran in
    full_stays store left run.tree ran.now script ran.result ran.closing out ran.mid run.tree_is.opened ran.closes ran.ran full

-- ---- what a run that may change the table has kept

pub kept_pages : (table : List ℕ) (left : List (List ℕ)) (closing : Result (Unit {0}) TreeFault) (keeping : Result (Unit {0}) StoreFault) (old new : FilesFacts)
    → IsOk closing → IsOk keeping → IsKept true table left closing keeping old new → HasPages (new.holds table) left × HasPages (new.lasts table) left
kept_pages table left (Ok done) (Ok kept) old new closed also h = h.kept
kept_pages table left (Ok done) (Err fault) old new closed also h = absurd (false≢true also)
kept_pages table left (Err fault) keeping old new closed also h = absurd (false≢true closed)

kept_scripts_last : KeptScriptsLast
kept_scripts_last table script store old new out out_now status kept says =
    let ran = kept.run.ran in
    let done = says_done ran.result ran.closing ran.keeping ran.mid out_now status ran.tells says in
    let there = kept_pages table kept.left.pages ran.closing ran.keeping old new done.0 done.1 kept.kept in
    (done.0, there.0, there.1)

-- a status that says so of a query is that of its run
says_still : (result : Result Summary RunFault) (of_run status : Status) → status ≡ of_run → SaysKept result status → SaysKept result of_run
says_still result of_run status same says = subst (λ (s : Status). SaysKept result s) same says

never_device : (result : Result Summary RunFault) (status : Status) → status ≡ ended.Device → SaysKept result status → ⊥
never_device (Ok summary) status same (inl done) = let bad = sym same ∙ done in cc
never_device (Ok summary) status same (inr refused) = let bad = sym same ∙ refused in cc
never_device (Err fault) status same says = says same

says_of_run : (result : Result Summary RunFault) (text : List ℕ) (failed : ℕ) (of_run status : Status) (out out_now notes notes_now : OutFacts)
    → IsShown text failed of_run out out_now notes notes_now status → SaysKept result status → status ≢ ended.Memory → SaysKept result of_run
says_of_run result text failed of_run status out out_now notes notes_now (inl (whole, inl shown)) says other = says_still result of_run status shown.0 says
says_of_run result text failed of_run status out out_now notes notes_now (inl (whole, inr broken)) says other = absurd (never_device result status broken.0 says)
says_of_run result text failed of_run status out out_now notes notes_now (inr (some, none)) says other = absurd (other none.0)

kept_queries_last : KeptQueriesLast
kept_queries_last table statements text failed store old new of_run status out out_now notes notes_now kept shown says other =
    kept_scripts_last table statements store old new (out_facts (Some []) 0) (out_facts (Some text) failed) of_run kept
    (says_of_run kept.run.ran.result text failed of_run status out out_now notes notes_now shown says other)

pub kept_runs_last : KeptRunsLast
kept_runs_last = (kept_scripts_last, kept_queries_last)

-- ---- a table that was there before a load or an upgrade

-- where a table file was to be made, the path holds what it did, or the new pages; or there was none, and it holds a part of them
made_either : (table : List ℕ) (all : List (List ℕ)) (old new : FilesFacts) (r : Result (Unit {0}) OpenFault) → ¬ (IsEmpty (old.holds table)) → MakesFile table all old new r
    → (new.holds table ≡ old.holds table) ⊎ HasPages (new.holds table) all
made_either table all old new (Ok made) some h = inr h.made.0
made_either table all old new (Err fault) some h = elim h.either [
  | inl same ↦ inl same
  | inr others ↦ elim others [
    | inl held ↦ inr held
    | inr part ↦ absurd (some part.0)
  ]
]

loads_lose_no_table : LoadsLoseNoTable
loads_lose_no_table source table name axes page_rows old new out out_now status some (inl bad) = inl (held_same table old new bad.files)
loads_lose_no_table source table name axes page_rows old new out out_now status some (inr (mask, inl same)) = inl (held_same table old new same.files)
loads_lose_no_table source table name axes page_rows old new out out_now status some (inr (mask, inr (ne, inr unread))) =
    inl (unread.reads.others table (λ is. ne (sym is))).0
loads_lose_no_table source table name axes page_rows old new out out_now status some (inr (mask, inr (ne, inl load))) =
    let mid = (load.read.reads.others table (λ is. ne (sym is))).0 in
    elim load.ended [
      | inl file ↦
          let there : ¬ (IsEmpty (load.mid.holds table)) = subst (λ (h : Held). ¬ (IsEmpty h)) (sym mid) some in
          elim (made_either table file.pages load.mid new file.makes.result there file.makes.makes) [
            | inl same ↦ inl (same ∙ mid)
            | inr held ↦ inr (record { text = load.text; text_is = load.read.text_is; table = (file.rows, file.regions, file.pages, file.table_is, held) })
          ]
      | inr none ↦ inl (held_same table load.mid new none.files ∙ mid)
    ]

upgrades_lose_no_table : UpgradesLoseNoTable
upgrades_lose_no_table source table old new out out_now status some (inl same) = inl (held_same table old new same.files)
upgrades_lose_no_table source table old new out out_now status some (inr (ne, inr unopened)) = inl (ap (λ (f : FilesFacts). f.holds table) unopened.files)
upgrades_lose_no_table source table old new out out_now status some (inr (ne, inl anew)) = elim anew.upgrades [
  | inl file ↦ elim (made_either table file.pages old new file.makes.result some file.makes.makes) [
    | inl same ↦ inl same
    | inr held ↦ inr (record { from = anew.store; lent = anew.lent; table = (file.rows, file.regions, file.pages, file.table_is, held) })
  ]
  | inr none ↦ inl (held_same table old new none.files)
]

pub old_tables_are_not_lost : OldTablesAreNotLost
old_tables_are_not_lost = (loads_lose_no_table, upgrades_lose_no_table)

-- ---- a crash while a command works

-- a closed table has a page
never_empty : (schema : Schema) (placed : List Placed) (next : ℕ) (held : Held) → IsHeldTable held schema placed next → IsEmpty held → ⊥
never_empty schema placed next (pages all) is none =
    let some = some_page all _ is.spelled in
    let zero = ap (λ (ps : List (List ℕ)). length ps) none in
    omega arith
never_empty schema placed next untold is none = is
never_empty schema placed next absent is none = is
never_empty schema placed next (bytes text) is none = is
never_empty schema placed next torn is none = is

-- what is left of a run on a closed table is one
asked_sound : (schema : Schema) (placed : List Placed) (next : ℕ) (table script : List ℕ) (old : FilesFacts) (out out_now : OutFacts) (status : Status) (held : Held) → IsTrue old.honest
    → IsHeldTable (old.holds table) schema placed next → HoldsAsked table script old out out_now status held → IsSoundTable held
asked_sound schema placed next table script old out out_now status held honest was (store, lent, (left, run, closed, holds)) =
    let from_honest = lent.lent.honest honest in
    let here = held_pages schema placed next (old.holds table) store lent.stored was in
    let (s, now, stands, has, is, left_honest, sound) = what_was_done_stands store left schema placed next script out out_now status from_honest here run closed in
    sound_table held left.pages run.ran.now.schema run.ran.now.placed run.ran.now.next holds sound

run_sound : (schema : Schema) (placed : List Placed) (next : ℕ) (table script : List ℕ) (old : FilesFacts) (out out_now : OutFacts) (status : Status) (held : Held) → IsTrue old.honest
    → table ≢ standard_input → IsHeldTable (old.holds table) schema placed next → HoldsRun table script old out out_now status held → IsSoundTable held
run_sound schema placed next table script old out out_now status held honest told was h =
    let mid : h.mid.holds table ≡ old.holds table = left_by_reading script table old h.mid _ (λ both. told both.0) h.read.reads in
    let there = subst (λ (x : Held). IsHeldTable x schema placed next) (sym mid) was in
    let mid_honest : IsTrue h.mid.honest = rw (ap (λ (f : FilesFacts). f.honest) h.read.reads.same) honest in
    asked_sound schema placed next table h.asked h.mid out out_now status held mid_honest there (h.store, h.lent, (h.left, h.run, h.closed, h.holds))

-- so is what is left of one to which rows were appended
more_sound : (schema : Schema) (placed : List Placed) (next : ℕ) (table source : List ℕ) (old : FilesFacts) (out out_now : OutFacts) (status : Status) (held : Held) → IsTrue old.honest
    → table ≢ standard_input → IsHeldTable (old.holds table) schema placed next → HoldsAppended table source old out out_now status held → IsSoundTable held
more_sound schema placed next table source old out out_now status held honest told was h =
    let mid : h.mid.holds table ≡ old.holds table = left_by_reading source table old h.mid _ (λ both. told both.0) h.read.reads in
    let there = subst (λ (x : Held). IsHeldTable x schema placed next) (sym mid) was in
    let mid_honest : IsTrue h.mid.honest = rw (ap (λ (f : FilesFacts). f.honest) h.read.reads.same) honest in
    let here = held_pages schema placed next (h.mid.holds table) h.store h.lent.stored there in
    let sound = appended_sound schema placed next h.store h.left h.text out out_now status (h.lent.lent.honest mid_honest) here h.appended h.closed in
    let now = h.appended.put.now in
    sound_table held h.left.pages now.schema now.placed now.next h.holds sound

pub crashes_leave_a_table : CrashesLeaveATable
crashes_leave_a_table words table old out out_now notes notes_now status before after schema placed next honest told was sound step = elim (step table told) [
  | inl same ↦ subst (λ (h : Held). IsSoundTable h) (sym same) sound
  | inr kept ↦ elim kept [
    | inl ran ↦ run_sound schema placed next table ran.0 old out out_now status (after table) honest told was ran.2
    | inr others ↦ elim others [
      | inl queried ↦
          let q = queried.2 in
          asked_sound schema placed next table queried.0 old (out_facts (Some []) 0) (out_facts (Some q.text) q.failed) q.ended (after table) honest was q.asked
      | inr made ↦ elim made [
        | inl load ↦
            let (source, name, axes, page_rows, asks, has) = load in
            let (rows, regions, all, is, stands) = has.table in
            elim stands [
              | inl holds ↦ sound_table (after table) all is.tree.schema is.tree.placed is.tree.next holds is.closed
              | inr part ↦ absurd (never_empty schema placed next (old.holds table) was part.0)
            ]
        | inr others ↦ elim others [
          | inl anew ↦
              let (source, asks, has) = anew in
              let (rows, regions, all, is, stands) = has.table in
              elim stands [
                | inl holds ↦ sound_table (after table) all is.tree.schema is.tree.placed is.tree.next holds is.closed
                | inr part ↦ absurd (never_empty schema placed next (old.holds table) was part.0)
              ]
          | inr append ↦ more_sound schema placed next table append.0 old out out_now status (after table) honest told was append.2
        ]
      ]
    ]
  ]
]
