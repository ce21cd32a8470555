-- The laws of the tables of which the short promise speaks, as specs/Laws.antt states them.
use Rattle.std.proofs.Common.{◌≡◌, ◌⊎◌, ℕ, List, inl, inr, refl, subst, sym}
use Rattle.ub_exec.proofs.Laws.{sound_trees_stand}
use Rattle.ub_exec.specs.Stand.{IsStandOf}
use Rattle.ub_files.specs.Files.{FilesFacts}
use Rattle.ub_load.specs.LoadedTable.{IsLoaded}
use Rattle.ub_load.specs.LoadedTree.{IsLoadedTree}
use Rattle.ub_script.specs.Output.{OutFacts}
use Rattle.ub_script.specs.Run.{loaded_stand}
use Rattle.ub_shell.proofs.AppendLaws.{load_not_done, told_either}
use Rattle.ub_table_file.proofs.Laws.{store_not_done, tree_not_done}
use Rattle.ub_shell.proofs.Laws.{made_pages, passing_told, store_passing_told, told_done}
use Rattle.ub_shell.proofs.ShortFacts.{lends_by, lends_stored, lent_by, standing_of, torn_lends}
use Rattle.ub_shell.specs.Loaded.{IsFileOf, KeepsText}
use Rattle.ub_table_file.specs.Status.{Tells, store_fault_status, store_fault_text, tree_fault_status, tree_fault_text}
use Rattle.ub_shell.specs.Laws.{CheckedTablesStand, LoadedTablesStand, TellsPassing}
use Rattle.ub_shell.specs.Short.{IsLeftAt}
use Rattle.ub_table_file.specs.declared.status.Status.{Status}
use Rattle.ub_table_file.specs.declared.status.Status.TheVariants.{Done}
use Rattle.ub_table_file.specs.declared.status.Status.TheVariants as ended
use Rattle.ub_store.specs.Facts.{StoreFacts, IsHonest}
use Rattle.ub_table.specs.Table.{Table}
use Rattle.ub_table.specs.declared.axes.Axes.{Axes}
use Rattle.ub_tree.proofs.Laws.{well_pages_are_sound}
use Rattle.ub_tree.specs.View.{TreeView}

passing_says : (out out_now : OutFacts) (status : Status) → TellsPassing out out_now status → (status ≡ ended.Device) ⊎ (status ≡ ended.Memory)
passing_says out out_now status (inl told) = elim (told_either out out_now _ ended.Device status told) [
  | inl device ↦ inl device
  | inr failed ↦ inl failed
]
passing_says out out_now status (inr told) = elim (told_either out out_now _ ended.Memory status told) [
  | inl memory ↦ inr memory
  | inr failed ↦ inl failed
]

pub checked_tables_stand : CheckedTablesStand
checked_tables_stand table old new out out_now status honest (inr unopened) = (
  lent_by (old.holds table),
  lends_by (old.holds table),
  (λ done. absurd (store_not_done unopened.fault (told_done out out_now _ _
      (subst (λ (s : Status). Tells out out_now (store_fault_text unopened.fault) (store_fault_status unopened.fault) s) done unopened.tells)))),
  (λ s stands. elim unopened.is [
    | inl device ↦ inr (passing_says out out_now status (store_passing_told out out_now status unopened.fault (inl device) unopened.tells))
    | inr more ↦ elim more [
      | inl size ↦ absurd (torn_lends (old.holds table) s size.1 stands)
      | inr memory ↦ inr (passing_says out out_now status (store_passing_told out out_now status unopened.fault (inr memory) unopened.tells))
    ]
  ]),
)
checked_tables_stand table old new out out_now status honest (inl check) =
    let from_honest = check.lent.lent.honest honest in (
      check.store.pages,
      lends_stored (old.holds table) check.store.pages check.lent.stored,
      (λ done. elim check.ended [
        | inl well ↦
            let opened = well.is.tree_is.opened in
            let there : IsHonest well.is.tree.store = subst (λ (s : StoreFacts). IsHonest s) (sym opened.store_is) from_honest in
            let sound = well_pages_are_sound check.store well.is.tree from_honest opened (well.is.well there) in
            let (s, stand) = sound_trees_stand well.is.tree sound.1 in
            (s, standing_of check.store.pages well.is.tree s sound.0 stand)
        | inr ill ↦ absurd (tree_not_done ill.fault (told_done out out_now _ _
            (subst (λ (s : Status). Tells out out_now (tree_fault_text ill.fault) (tree_fault_status ill.fault) s) done ill.tells)))
      ]),
      (λ s stands. elim check.ended [
        | inl well ↦ elim (told_either out out_now _ Done status well.tells) [
          | inl done ↦ inl done
          | inr failed ↦ inr (inl failed)
        ]
        | inr ill ↦
            let (placed, sound, regions_are, is) = stands in
            inr (passing_says out out_now status (passing_told out out_now status ill.fault (ill.is.1 s.table.schema placed s.next from_honest sound) ill.tells))
      ]),
    )

-- the table of a text, in its tree
loaded_of : (axes : Axes) (page_rows : ℕ) (text name : List ℕ) (t : TreeView) (l : IsLoadedTree text axes page_rows name t)
    → IsStandOf t (loaded_stand axes.dims page_rows (record { schema = t.schema; rows = l.rows }))
loaded_of axes page_rows text name t l = record { sound = l.sound; schema_is = refl; rows_are = l.table; regions_are = sym l.regions_are; next_is = sym l.next }

file_stands : (table text name : List ℕ) (axes : Axes) (page_rows : ℕ) (old new : FilesFacts) (out out_now : OutFacts) → IsFileOf table text name axes page_rows old new out out_now Done
    → (loaded : Table) × IsLoaded text axes page_rows name loaded.schema loaded.rows × IsLeftAt table new (loaded_stand axes.dims page_rows loaded)
file_stands table text name axes page_rows old new out out_now file =
    let t = file.table_is.tree in
    let l = file.table_is.loaded in
    let stand = loaded_of axes page_rows text name t l in (
      record { schema = t.schema; rows = l.rows },
      l.loaded,
      record {
        all = file.pages;
        stands = standing_of file.pages t _ file.table_is.closed stand;
        held = made_pages table file.pages file.rows file.regions old new out out_now file.makes;
      },
    )

keeps_stands : (table text name : List ℕ) (axes : Axes) (page_rows : ℕ) (old new : FilesFacts) (out out_now : OutFacts) → KeepsText table text name axes page_rows old new out out_now Done
    → (loaded : Table) × IsLoaded text axes page_rows name loaded.schema loaded.rows × IsLeftAt table new (loaded_stand axes.dims page_rows loaded)
keeps_stands table text name axes page_rows old new out out_now (inl file) = file_stands table text name axes page_rows old new out out_now file
keeps_stands table text name axes page_rows old new out out_now (inr none) = absurd (load_not_done none.fault (told_done out out_now _ _ none.tells))

never_done : (out out_now : OutFacts) (line : List ℕ) → Tells out out_now line ended.CommandLine Done → ⊥
never_done out out_now line told = let no = told_done out out_now line ended.CommandLine told in cc

pub loaded_tables_stand : LoadedTablesStand
loaded_tables_stand source table name axes page_rows old new out out_now (inl bad) = absurd (never_done out out_now _ bad.tells)
loaded_tables_stand source table name axes page_rows old new out out_now (inr (mask, inl same)) = absurd (never_done out out_now _ same.tells)
loaded_tables_stand source table name axes page_rows old new out out_now (inr (mask, inr (apart, inr unread))) =
    absurd (store_not_done unread.fault (told_done out out_now _ _ unread.tells))
loaded_tables_stand source table name axes page_rows old new out out_now (inr (mask, inr (apart, inl load))) =
    let (loaded, is, left) = keeps_stands table load.text name axes page_rows load.mid new out out_now load.ended in
    (load.text, loaded, load.read.text_is, is, left)
