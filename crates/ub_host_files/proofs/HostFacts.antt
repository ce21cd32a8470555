-- Of the files of the system nothing is told but how many calls failed: so what calls say of them follows from these counts.
use Rattle.std.proofs.Common.{◌≡◌, ◌∙◌, ℕ, List, ap, inl, refl}
use Rattle.std.specs.Prelude.{Result, Ok, Err, IfOk, IsTrue, OnOk}
use Rattle.ub_files.specs.Clock.{FolderClock, Lasts}
use Rattle.ub_files.specs.Files.{ChangesFile, IsLent, IsText, KeepsFile, MakesFile, ReadsFile, counted, counted_open}
use Rattle.ub_files.specs.declared.fault.OpenFault.{OpenFault}
use Rattle.ub_host_files.specs.Host.{facts_of_host, is_honest_host}
use Rattle.ub_overlay.specs.Overlay.{OverlayView, overlay_facts}
use Rattle.ub_store.specs.declared.fault.StoreFault.{StoreFault}

-- nothing is to be shown of honest files
pub vacuous : {P : Type 0} → IsTrue is_honest_host → P
unfolding is_honest_host
vacuous honest = absurd (cc honest)

-- the same facts, by their counts
pub same_facts : {reads tables new_reads new_tables : ℕ} → new_reads ≡ reads → new_tables ≡ tables → facts_of_host new_reads new_tables ≡ facts_of_host reads tables
same_facts {reads} {tables} {new_reads} {new_tables} e1 e2 = ap (λ n. facts_of_host n new_tables) e1 ∙ ap (λ n. facts_of_host reads n) e2

pub any_text : {A : Type 0} (items : A → List ℕ) (reads tables : ℕ) (path : List ℕ) (result : Result A StoreFault)
    → IfOk result (λ text. IsText ((facts_of_host reads tables).holds path) (items text))
any_text items reads tables path (Ok text) = tt
any_text items reads tables path (Err fault) = tt

-- nor of the bytes that a reader of one gives
pub untold_bytes : {A E : Type 0} (result : Result A E) → IfOk result (λ text. Unit {0})
untold_bytes (Ok text) = tt
untold_bytes (Err fault) = tt

pub reads_file : {A : Type 0} (path : List ℕ) (reads tables new_reads new_tables : ℕ) (result : Result A StoreFault) → new_reads ≡ counted result reads → new_tables ≡ tables
    → ReadsFile path (facts_of_host reads tables) (facts_of_host new_reads new_tables) result
reads_file path reads tables new_reads new_tables (Ok text) e1 e2 = record {
  same = same_facts e1 e2;
  readings = tt;
  kept = λ ne. (refl, refl);
  others = λ other ne. (refl, refl);
  used_up = λ e. tt;
}
reads_file path reads tables new_reads new_tables (Err fault) e1 e2 = record {
  same = same_facts e1 e2;
  readings = tt;
  kept = λ ne. (refl, refl);
  others = λ other ne. (refl, refl);
  used_up = tt;
}

pub lent : {S E : Type 0} (reads tables : ℕ) (path : List ℕ) (result : Result (OverlayView S) E) → IfOk result (λ store. store.failed ≡ 0)
    → IfOk result (λ store. IsLent (facts_of_host reads tables) path (overlay_facts store))
lent reads tables path (Ok store) e = record { lent = record { honest = λ honest. vacuous honest; can_fail = refl; unfailed = e }; stored = tt }
lent reads tables path (Err fault) e = tt

pub changes_file : {A : Type 0} (path : List ℕ) (reads tables new_reads new_tables : ℕ) (result : Result A OpenFault) → new_reads ≡ reads → new_tables ≡ counted_open result tables
    → ChangesFile path (facts_of_host reads tables) (facts_of_host new_reads new_tables) result
changes_file path reads tables new_reads new_tables result e1 e2 = record { same = same_facts e1 e2; others = λ other ne. (refl, refl) }

pub keeps_file : {A : Type 0} (path : List ℕ) (all : List (List ℕ)) (reads tables new_reads new_tables : ℕ) (result : Result A StoreFault)
    → new_reads ≡ reads → new_tables ≡ counted result tables
    → KeepsFile path all (facts_of_host reads tables) (facts_of_host new_reads new_tables) result
keeps_file path all reads tables new_reads new_tables (Ok done) e1 e2 = record {
  same = same_facts e1 e2;
  others = λ other ne. (refl, refl);
  kept = (tt, tt);
  either = tt;
}
keeps_file path all reads tables new_reads new_tables (Err fault) e1 e2 = record {
  same = same_facts e1 e2;
  others = λ other ne. (refl, refl);
  kept = tt;
  either = inl refl;
}

pub makes_file : {A : Type 0} (path : List ℕ) (all : List (List ℕ)) (reads tables new_reads new_tables : ℕ) (result : Result A OpenFault)
    → new_reads ≡ reads → new_tables ≡ counted_open result tables
    → MakesFile path all (facts_of_host reads tables) (facts_of_host new_reads new_tables) result
makes_file path all reads tables new_reads new_tables (Ok done) e1 e2 = record {
  same = same_facts e1 e2;
  others = λ other ne. (refl, refl);
  made = (tt, tt);
  either = tt;
}
makes_file path all reads tables new_reads new_tables (Err fault) e1 e2 = record {
  same = same_facts e1 e2;
  others = λ other ne. (refl, refl);
  made = tt;
  either = inl refl;
}

pub lasting : {A E : Type 0} (path : List ℕ) (all : List (List ℕ)) (reads tables : ℕ) (clock : FolderClock) (result : Result A E)
    → OnOk result (Lasts path all (facts_of_host reads tables) clock)
lasting path all reads tables clock (Ok done) = λ honest. vacuous honest
lasting path all reads tables clock (Err fault) = tt
