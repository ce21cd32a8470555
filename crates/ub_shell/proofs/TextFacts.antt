-- A text that is read as it comes: what it is, and what its reading leaves of files.
use Rattle.std.proofs.Common.{◌≡◌, ◌∙◌, ℕ, List, [], Option, None, Some, Result, Ok, Err, ap, subst, sym}
use Rattle.std.specs.Prelude.{IfErr, IfOk}
use Rattle.ub_files.specs.Files.{ClosesText, FilesFacts, Held, IsReadAs, IsText, ReadsFile, absent, bytes, counted, pages, torn, untold}
use Rattle.ub_load.specs.Calls.{MayGive}
use Rattle.ub_load.specs.Grown.{IsGrownTable, ReadsTable}
use Rattle.ub_load.specs.Loading.{IsLoadFault}
use Rattle.ub_load.specs.declared.fault.LoadFault.{LoadFault}
use Rattle.ub_load.specs.declared.grown.GrownTable.{GrownTable}
use Rattle.ub_store.specs.Facts.{memory_facts}
use Rattle.ub_store.specs.declared.fault.StoreFault.{StoreFault}
use Rattle.ub_table.specs.declared.axes.Axes.{Axes}

-- what a source may give that reads a file is the text of that
pub given_text : (held : Held) (known : Option (List ℕ)) (text : List ℕ) → IsReadAs held known → MayGive known text → IsText held text
given_text untold known text is may = tt
given_text absent known text is may = absurd is
given_text (bytes all) None text is may = cc is
given_text (bytes all) (Some known) text is may = let same : known ≡ all = cc in may ∙ same
given_text (pages all) known text is may = absurd is
given_text torn known text is may = absurd is

module _ {A B : Type 0} (path : List ℕ) (old mid new : FilesFacts) (a : A) (opens : ReadsFile path old mid (Ok a)) where
  -- it was read to where it was given back, or a read failed
  pub read_to_end : (b : B) → ClosesText {A = Unit {0}} mid new (Ok tt) → ReadsFile path old new (Ok b)
  read_to_end b closes =
      subst (λ (files : FilesFacts). ReadsFile {A = B} path old files (Ok b)) (sym closes)
      (record { same = opens.same; readings = opens.readings; kept = opens.kept; others = opens.others; used_up = opens.used_up })

  pub read_failed : (fault : StoreFault) → ClosesText {A = Unit {0}} mid new (Err fault) → ReadsFile {A = B} path old new (Err fault)
  read_failed fault closes =
      subst (λ (files : FilesFacts). ReadsFile {A = B} path old files (Err fault)) (sym closes) (record {
        same = ap (λ (files : FilesFacts). record files { failed_reads = counted {A = B} (Err fault) files.failed_reads }) opens.same;
        readings = opens.readings;
        kept = opens.kept;
        others = opens.others;
        used_up = tt;
      })

-- what was read of a text is its table, or it is why there is none
module _ (text : List ℕ) (axes : Axes) (page_rows : ℕ) (name : List ℕ) (read : Result GrownTable LoadFault) where
  pub was_read : (table : GrownTable) → read ≡ Ok table → ReadsTable text axes page_rows name read → IsGrownTable text axes page_rows name table
  was_read table is reads = subst (λ (r : Result GrownTable LoadFault). IfOk r (IsGrownTable text axes page_rows name)) is reads.read

  pub was_refused : (fault : LoadFault) → read ≡ Err fault → ReadsTable text axes page_rows name read → IsLoadFault axes name text (memory_facts []) fault
  was_refused fault is reads = subst (λ (r : Result GrownTable LoadFault). IfErr r (IsLoadFault axes name text (memory_facts []))) is reads.refused
