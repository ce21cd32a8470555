-- The laws of rows that are appended, as specs/Laws.antt states them.
use Rattle.std.proofs.Common.{append-nil, ◌≡◌, ◌≤◌, ◌⊎◌, ◌∙◌, ◌+◌, ◌++◌, ℕ, Bool, false, true, List, [], ◌∷◌, Result, Ok, Err, inl, inr, ap, arith, length, refl, subst, suc, sym}
use Rattle.std.proofs.lemmas.Bool.{lt-ltb}
use Rattle.std.specs.Prelude.{IfErr, IsOk, IsTrue, nat_lt}
use Rattle.ub_exec.proofs.Laws.{trees_stand_soundly}
use Rattle.ub_exec.specs.Stand.{Stand, IsStand, IsStandOf}
use Rattle.ub_files.specs.Files.{FilesFacts, HasPages, Held, IsStored, absent, bytes, pages, torn, untold}
use Rattle.ub_files.specs.declared.fault.OpenFault.{OpenFault}
use Rattle.ub_files.specs.declared.fault.OpenFault.TheVariants as opening
use Rattle.ub_load.specs.Appending.{appended_rows, AreRowsOf}
use Rattle.ub_load.specs.LoadedTable.{records_of, rows_of}
use Rattle.ub_load.specs.declared.fault.LoadFault.{LoadFault}
use Rattle.ub_load.specs.declared.fault.LoadFault.TheVariants as load
use Rattle.ub_region.specs.Regions.{AreTableRows, numbered_from}
use Rattle.ub_script.specs.Appending.{AreAppended}
use Rattle.ub_script.specs.Output.{OutFacts}
use Rattle.ub_table_file.proofs.Laws.{rows_for, store_not_done, tree_not_done, where_ok}
use Rattle.ub_shell.proofs.Laws.{held_same, kept_pages, told_done}
use Rattle.ub_table_file.specs.Appended.{TellsAppended}
use Rattle.ub_table_file.specs.Commands.{both_ended, IsKept}
use Rattle.ub_table_file.specs.Status.{Tells, load_fault_status, open_fault_status, tree_fault_status}
use Rattle.ub_shell.specs.Laws.{AppendedTablesHaveTheRows, HasMore, IsHeldStand, NoRowsNoChange, RefusedDataLeavesTheTable, SaysRefused, StandsAs}
use Rattle.ub_shell.specs.Short.{AreStanding}
use Rattle.ub_table_file.specs.declared.status.Status.{Status}
use Rattle.ub_table_file.specs.declared.status.Status.TheVariants as ended
use Rattle.ub_table_file.specs.declared.status.Status.TheVariants.{Done}
use Rattle.ub_store.specs.Facts.{StoreFacts}
use Rattle.ub_store.specs.declared.fault.StoreFault.{StoreFault}
use Rattle.ub_store.specs.declared.fault.StoreFault.TheVariants.{Device}
use Rattle.ub_table.specs.declared.row.Row.{Row}
use Rattle.ub_table.specs.declared.schema.Schema.{Schema}
use Rattle.ub_tree.specs.Faults.{tree_fault}
use Rattle.ub_tree.specs.Placed.{Placed, regions_in}
use Rattle.ub_tree.specs.Stored.{AreSoundPages}
use Rattle.ub_tree.specs.View.{TreeView, IsSound, regions}
use Rattle.ub_tree.specs.declared.fault.TreeFault.{TreeFault}

-- ---- a table file to which no row was appended

-- the status of a line that was told, or of a write that failed
pub told_either : (out out_now : OutFacts) (line : List ℕ) (wanted status : Status) → Tells out out_now line wanted status → (status ≡ wanted) ⊎ (status ≡ ended.Device)
told_either out out_now line wanted status (inl told) = inl told.0
told_either out out_now line wanted status (inr broken) = inr broken.0

never_refused : (status : Status) → SaysRefused status → (status ≡ Done) ⊎ (status ≡ ended.Device) → ⊥
never_refused status (inl says) (inl done) = let bad = sym says ∙ done in cc
never_refused status (inl says) (inr failed) = let bad = sym says ∙ failed in cc
never_refused status (inr (inl says)) (inl done) = let bad = sym says ∙ done in cc
never_refused status (inr (inl says)) (inr failed) = let bad = sym says ∙ failed in cc
never_refused status (inr (inr says)) (inl done) = let bad = sym says ∙ done in cc
never_refused status (inr (inr says)) (inr failed) = let bad = sym says ∙ failed in cc

-- a keeping that failed ends as a file that did
failed_either : (fault : StoreFault) (out out_now : OutFacts) (line : List ℕ) (status : Status) → fault ≡ Device → Tells out out_now line (tree_fault_status (tree_fault fault)) status
    → (status ≡ Done) ⊎ (status ≡ ended.Device)
failed_either fault out out_now line status is (inl told) = inr (told.0 ∙ ap (λ (f : StoreFault). tree_fault_status (tree_fault f)) is)
failed_either fault out out_now line status is (inr broken) = inr broken.0

-- where something was refused, what was left of a table with its rows wasn't kept
kept_not : (changes : Bool) (table : List ℕ) (left : List (List ℕ)) (closing : Result (Unit {0}) TreeFault) (keeping : Result (Unit {0}) StoreFault) (count rows : ℕ) (old new : FilesFacts)
    (out out_now : OutFacts) (status : Status) → IsKept changes table left closing keeping old new → IfErr keeping (λ fault. fault ≡ Device)
    → TellsAppended count rows (both_ended closing keeping) out out_now status → SaysRefused status → new.holds table ≡ old.holds table
kept_not true table left (Ok done) (Ok kept) count rows old new out out_now status h faults told says = absurd (never_refused status says (told_either out out_now _ Done status told))
kept_not true table left (Ok done) (Err fault) count rows old new out out_now status h faults told says = absurd (never_refused status says (failed_either fault out out_now _ status faults told))
kept_not true table left (Err fault) keeping count rows old new out out_now status h faults told says = held_same table old new h.1
kept_not false table left closing keeping count rows old new out out_now status h faults told says = held_same table old new h.1

pub refused_data_leaves_the_table : RefusedDataLeavesTheTable
refused_data_leaves_the_table table source old new out out_now status says (inl same) = held_same table old new same.files
refused_data_leaves_the_table table source old new out out_now status says (inr (apart, inr unread)) = (unread.reads.others table (λ is. apart (sym is))).0
refused_data_leaves_the_table table source old new out out_now status says (inr (apart, inl append)) =
    let mid : append.mid.holds table ≡ old.holds table = (append.read.reads.others table (λ is. apart (sym is))).0 in
    elim append.appends [
      | inl to ↦
          let opened : to.mid.holds table ≡ append.mid.holds table = ap (λ (f : FilesFacts). f.holds table) to.opens.same in
          elim to.appends [
            | inl kept ↦
                let closed = kept.appended.put.closed in
                kept_not (nat_lt 0 (length kept.appended.rows)) table kept.left.pages closed.closing closed.keeping _ _ to.mid new out out_now status kept.kept closed.faults closed.tells says ∙ opened ∙ mid
            | inr none ↦ held_same table to.mid new none.1 ∙ opened ∙ mid
          ]
      | inr unready ↦ ap (λ (f : FilesFacts). f.holds table) unready.files.same ∙ mid
    ]

-- ---- a text with no row

fewer : (a b : ℕ) → a ≡ suc b → a ≤ 1 → b ≤ 0
fewer a b is few = omega arith

never_fewer : (n : ℕ) → suc n ≤ 0 → ⊥
never_fewer n few = omega arith

no_rows : (schema : Schema) (names : List (List ℕ)) (rest : List (List (List ℕ))) (rows : List Row) → rows ≡ appended_rows schema names rest → length rest ≤ 0 → length rows ≡ 0
unfolding rows_of
no_rows schema names [] rows is few = ap (λ (rs : List Row). length rs) is
no_rows schema names (first ∷ rest) rows is few = absurd (never_fewer (length rest) few)

no_rows_of : (text : List ℕ) (schema : Schema) (next : ℕ) (rows : List Row) → AreRowsOf text schema next rows → length (records_of text) ≤ 1 → length rows ≡ 0
no_rows_of text schema next rows are few =
    no_rows schema _ are.rest rows are.rows_are (fewer (length (records_of text)) (length are.rest) (ap (λ (rs : List (List (List ℕ))). length rs) are.records) few)

pub no_rows_no_change : NoRowsNoChange
no_rows_no_change table source old new out out_now status none (inl same) = held_same table old new same.files
no_rows_no_change table source old new out out_now status none (inr (apart, inr unread)) = (unread.reads.others table (λ is. apart (sym is))).0
no_rows_no_change table source old new out out_now status none (inr (apart, inl append)) =
    let mid : append.mid.holds table ≡ old.holds table = (append.read.reads.others table (λ is. apart (sym is))).0 in
    elim append.appends [
      | inl to ↦
          let opened : to.mid.holds table ≡ append.mid.holds table = ap (λ (f : FilesFacts). f.holds table) to.opens.same in
          elim to.appends [
            | inl kept ↦
                let a = kept.appended in
                let few : length a.rows ≡ 0 = no_rows_of append.text a.tree.schema a.tree.next a.rows a.rows_are (none append.text append.read.text_is) in
                let not_kept = subst (λ (n : ℕ). IsKept (nat_lt 0 n) table kept.left.pages a.put.closed.closing a.put.closed.keeping to.mid new) few kept.kept in
                held_same table to.mid new not_kept.1 ∙ opened ∙ mid
            | inr refused ↦ held_same table to.mid new refused.1 ∙ opened ∙ mid
          ]
      | inr unready ↦ ap (λ (f : FilesFacts). f.holds table) unready.files.same ∙ mid
    ]

-- ---- a table to which rows were appended

next_same : (s : ℕ) → s ≡ s + 0
next_same s = omega arith

-- where there are none it is as it was
none_more : (s : Stand) → HasMore s [] s
none_more s = record {
  table_is = ap (λ (rows : List Row). record s.table { rows = rows }) (sym (append-nil s.table.rows));
  next_is = next_same s.next;
}

-- a table into which they were put has them
more_rows : (rows : List Row) (s : Stand) (t now : TreeView) → IsStandOf t s → AreAppended rows t now → now.next ≡ t.next + length rows → (after : Stand) × HasMore s rows after × IsStandOf now after
more_rows rows s t now is more next =
    let after : Stand = record {
      table = record s.table { rows = s.table.rows ++ numbered_from s.next rows };
      regions = regions now;
      next = s.next + length rows;
    } in (
      after,
      record { table_is = refl; next_is = refl },
      record {
        sound = more.sound;
        schema_is = is.schema_is ∙ sym more.schema;
        rows_are = subst (λ (n : ℕ). AreTableRows (regions now) (s.table.rows ++ numbered_from n rows)) (sym is.next_is) (more.table s.table.rows is.rows_are);
        regions_are = refl;
        next_is = ap (λ (n : ℕ). n + length rows) is.next_is ∙ sym next;
      },
    )

-- pages that are told are those of a table that stands so
stands_as : (held : Held) (all : List (List ℕ)) (t : TreeView) (s : Stand) → HasPages held all → AreSoundPages all t.schema t.placed t.next → IsStandOf t s → StandsAs held s
stands_as untold all t s holds sound is = tt
stands_as (pages now) all t s holds sound is =
    let of_schema = subst (λ (x : Schema). AreSoundPages all x t.placed t.next) (sym is.schema_is) sound in
    let of_next = subst (λ (n : ℕ). AreSoundPages all s.table.schema t.placed n) (sym is.next_is) of_schema in
    (t.placed, subst (λ (ps : List (List ℕ)). AreSoundPages ps s.table.schema t.placed s.next) holds of_next, is.regions_are, trees_stand_soundly t s is)
stands_as torn all t s holds sound is = absurd holds
stands_as absent all t s holds sound is = absurd holds
stands_as (bytes text) all t s holds sound is = absurd holds

stays_as : (before after : Held) (s : Stand) → after ≡ before → IsHeldStand before s → StandsAs after s
stays_as (pages all) after s same is = subst (λ (h : Held). StandsAs h s) (sym same) is
stays_as untold after s same is = absurd is
stays_as torn after s same is = absurd is
stays_as absent after s same is = absurd is
stays_as (bytes text) after s same is = absurd is

-- the store that was lent has them
standing_pages : (held : Held) (store : StoreFacts) (s : Stand) → IsStored held store → IsHeldStand held s → AreStanding store.pages s
standing_pages (pages all) store s stored is = subst (λ (ps : List (List ℕ)). AreStanding ps s) (sym stored) is
standing_pages untold store s stored is = absurd is
standing_pages torn store s stored is = absurd is
standing_pages absent store s stored is = absurd is
standing_pages (bytes text) store s stored is = absurd is

-- and the tree that was opened in it stands so
pub opened_stand : (t : TreeView) (s : Stand) (placed : List Placed) → IsSound t → t.schema ≡ s.table.schema → t.placed ≡ placed → t.next ≡ s.next → s.regions ≡ regions_in placed
    → IsStand s → IsStandOf t s
opened_stand t s placed sound of_schema of_placed of_next regions_are stands = record {
  sound = sound;
  schema_is = sym of_schema;
  rows_are = rw (regions_are ∙ ap regions_in (sym of_placed)) at stands.rows_are;
  regions_are = regions_are ∙ ap regions_in (sym of_placed);
  next_is = sym of_next;
}

-- where all was done, the closing was, and the keeping
all_done : (closing : Result (Unit {0}) TreeFault) (keeping : Result (Unit {0}) StoreFault) (count rows : ℕ) (out out_now : OutFacts)
    → TellsAppended count rows (both_ended closing keeping) out out_now Done → IsOk closing × IsOk keeping
all_done (Ok done) (Ok kept) count rows out out_now told = (refl, refl)
all_done (Ok done) (Err fault) count rows out out_now told = absurd (tree_not_done (tree_fault fault) (told_done out out_now _ _ told))
all_done (Err fault) keeping count rows out out_now told = absurd (tree_not_done fault (told_done out out_now _ _ told))

open_not_done : (fault : OpenFault) → Done ≡ open_fault_status fault → ⊥
open_not_done (opening.Store fault) e = store_not_done fault e
open_not_done opening.BadJournal e = let bad = e in cc

pub load_not_done : (fault : LoadFault) → Done ≡ load_fault_status fault → ⊥
load_not_done load.NoHeader e = let bad = e in cc
load_not_done (load.BadName n) e = let bad = e in cc
load_not_done load.ColumnCount e = let bad = e in cc
load_not_done (load.BadNumber row column) e = let bad = e in cc
load_not_done (load.OutOfRange row column) e = let bad = e in cc
load_not_done load.Csv e = let bad = e in cc
load_not_done (load.Tree fault) e = tree_not_done fault e
load_not_done load.Memory e = let bad = e in cc

some_rows : (n : ℕ) → nat_lt 0 (suc n) ≡ true
some_rows n = lt-ltb 0 (suc n) (omega arith)

-- what is kept then
more_kept : (rows : List Row) (table : List ℕ) (left : List (List ℕ)) (closing : Result (Unit {0}) TreeFault) (keeping : Result (Unit {0}) StoreFault) (old new : FilesFacts) (t now : TreeView)
    (s : Stand) → IsKept (nat_lt 0 (length rows)) table left closing keeping old new → IsOk closing → IsOk keeping → AreSoundPages left now.schema now.placed now.next
    → IsHeldStand (old.holds table) s → IsStandOf t s → AreAppended rows t now → now.next ≡ t.next + length rows → (after : Stand) × HasMore s rows after × StandsAs (new.holds table) after
more_kept [] table left closing keeping old new t now s kept done also sound held is more next =
    (s, none_more s, stays_as (old.holds table) (new.holds table) s (held_same table old new kept.1) held)
more_kept (row ∷ rows) table left closing keeping old new t now s kept done also sound held is more next =
    let (after, has, stands) = more_rows (row ∷ rows) s t now is more next in
    let is_kept = subst (λ (b : Bool). IsKept b table left closing keeping old new) (some_rows (length rows)) kept in
    let holds = (kept_pages table left closing keeping old new done also is_kept).0 in
    (after, has, stands_as (new.holds table) left now after holds sound stands)

pub appended_tables_have_the_rows : AppendedTablesHaveTheRows
appended_tables_have_the_rows table source s old new out out_now honest held (inl same) =
    let bad = told_done _ _ _ _ same.tells in cc
appended_tables_have_the_rows table source s old new out out_now honest held (inr (apart, inr unread)) =
    absurd (store_not_done unread.fault (told_done _ _ _ _ unread.tells))
appended_tables_have_the_rows table source s old new out out_now honest held (inr (apart, inl append)) =
    let mid : append.mid.holds table ≡ old.holds table = (append.read.reads.others table (λ is. apart (sym is))).0 in
    let here : IsHeldStand (append.mid.holds table) s = subst (λ (h : Held). IsHeldStand h s) (sym mid) held in
    let mid_honest : IsTrue append.mid.honest = rw (ap (λ (f : FilesFacts). f.honest) append.read.reads.same) honest in
    elim append.appends [
      | inl to ↦
          let opened : to.mid.holds table ≡ append.mid.holds table = ap (λ (f : FilesFacts). f.holds table) to.opens.same in
          let there : IsHeldStand (to.mid.holds table) s = subst (λ (h : Held). IsHeldStand h s) (sym opened) here in
          elim to.appends [
            | inl kept ↦
                let a = kept.appended in
                let (placed, sound_pages, regions_are, stands) = standing_pages (append.mid.holds table) to.store s to.lent.stored here in
                let (sound, of_schema, of_placed, of_next) = a.tree_is.sound s.table.schema placed s.next (to.lent.lent.honest mid_honest) sound_pages in
                let stand = opened_stand a.tree s placed sound of_schema of_placed of_next regions_are stands in
                let appended = a.put.puts.appended sound in
                let done = all_done a.put.closed.closing a.put.closed.keeping _ _ out out_now a.put.closed.tells in
                let left = where_ok a.put.closed.closing done.0 (a.put.closed.closes.closed appended.sound) in
                let more = more_kept a.rows table kept.left.pages a.put.closed.closing a.put.closed.keeping to.mid new a.tree a.put.now s kept.kept done.0 done.1 left.1 there stand appended a.put.puts.next in
                (append.text, a.rows, more.0, append.read.text_is, rows_for append.text a.tree.schema s.table.schema a.tree.next s.next a.rows a.rows of_schema of_next refl a.rows_are, more.1, more.2)
            | inr refused ↦ elim refused.0 [
              | inl none ↦ absurd (tree_not_done none.fault (told_done _ _ _ _ none.tells))
              | inr unchanged ↦ elim unchanged.is [
                | inl untaken ↦ absurd (load_not_done untaken.fault (told_done _ _ _ _ untaken.tells))
                | inr unput ↦ absurd (tree_not_done unput.2.fault (told_done _ _ _ _ unput.2.tells))
              ]
            ]
          ]
      | inr unready ↦ absurd (open_not_done unready.fault (told_done _ _ _ _ unready.tells))
    ]
