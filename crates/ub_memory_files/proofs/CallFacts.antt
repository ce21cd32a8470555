-- Files in memory: what a call does, from what it does to their list.
use Rattle.std.proofs.Common.{◌≡◌, ◌∷◌, ℕ, List, Option, [], ap, refl}
use Rattle.std.specs.Prelude.{Err, IfOk, Ok, Result}
use Rattle.ub_files.specs.Files.{AreRead, IsLent, ReadsFile, counted}
use Rattle.ub_memory_files.specs.Memory.{facts_in_memory, held_in, IsReadIn}
use Rattle.ub_memory_files.specs.declared.entries.Entry.{Entry}
use Rattle.ub_memory_files.specs.Tables.{IsLentOf}
use Rattle.ub_store.specs.Facts.{StoreFacts}
use Rattle.ub_store.specs.declared.fault.StoreFault.{StoreFault}

pub reads_file : {A : Type 0} (path : List ℕ) (old new : List Entry) (reads tables new_reads : ℕ) (was now : Option (List (List ℕ))) (result : Result A StoreFault)
    → IsReadIn path old new result → AreRead (path ∷ []) was now → new_reads ≡ counted result reads
    → ReadsFile path (facts_in_memory old reads tables was) (facts_in_memory new new_reads tables now) result
reads_file path old new reads tables new_reads was now (Ok text) effect noted e = record {
  same = ap (λ n. facts_in_memory new n tables now) e;
  readings = noted;
  kept = λ ne. let same = effect.kept ne in (ap held_in same, ap held_in same);
  others = λ other ne. (effect.others other ne, effect.others other ne);
  used_up = λ is. rw (effect.used_up is) refl;
}
reads_file path old new reads tables new_reads was now (Err fault) effect noted e = record {
  same = ap (λ n. facts_in_memory new n tables now) e;
  readings = noted;
  kept = λ ne. let same = effect.kept ne in (ap held_in same, ap held_in same);
  others = λ other ne. (effect.others other ne, effect.others other ne);
  used_up = tt;
}

-- a store that is lent of what a path holds
pub lends : {S E : Type 0} (facts : S → StoreFacts) (path : List ℕ) (entries : List Entry) (reads tables : ℕ) (readings : Option (List (List ℕ))) (result : Result S E)
    → IfOk result (λ store. IsLentOf (held_in entries path) (facts store))
    → IfOk result (λ store. IsLent (facts_in_memory entries reads tables readings) path (facts store))
lends facts path entries reads tables readings (Ok store) lent = record {
  lent = record { honest = λ _. lent.honest; can_fail = lent.can_fail; unfailed = lent.unfailed };
  stored = lent.stored;
}
lends facts path entries reads tables readings (Err fault) lent = tt
