use Rattle.std.proofs.Common.{◌≡◌, ◌++◌, arith, drop, length, subst, take}
use Rattle.std.proofs.lemmas.Grind.{common_steps}
use Rattle.std.specs.Prelude.{IfOk, IsErrOf}
use Rattle.ub_files.specs.Files.{IsTorn}
use Rattle.ub_files.specs.declared.fault.OpenFault.TheVariants.{Store}
use Rattle.ub_memory_files.specs.Memory.{facts_in_memory, held_in, paths_told, HoldsAll}
use Rattle.ub_memory_files.specs.Tables.{IsLentOf}
use Rattle.ub_memory_files.proofs.CallFacts.{lends}
use Rattle.ub_memory_files.proofs.ClockFacts.{runs_same}
use Rattle.ub_overlay.specs.Overlay.{overlay_facts}
use Rattle.ub_store.specs.declared.fault.StoreFault.TheVariants.{BadSize}
use Rattle.ub_memory_files.proofs.memory.MemFilesFiles.change.Goals as goal

lent : (c : goal.After-self-2-1) → c.as_mut_slice.result.now ≡ c.args.self.now.entries.items
lent c = cc

pub returns-clause-lent : goal.returns-clause-lent
returns-clause-lent c =
    let files = c.args.self.now in
    let opened = subst (λ entries. IfOk c.change_at-opened.result (λ store. IsLentOf (held_in entries c.args.path.now) (overlay_facts store))) (lent c) c.change_at-opened.ensures.lent in
    lends overlay_facts c.args.path.now files.entries.items files.reads files.tables (paths_told files.readings) c.change_at-opened.result opened

pub returns-clause-torn : goal.returns-clause-torn
returns-clause-torn c = subst (λ entries. IsErrOf c.change_at-opened.result (Store BadSize) → IsTorn (held_in entries c.args.path.now)) (lent c) c.change_at-opened.ensures.torn

pub returns-clause-faults : goal.returns-clause-faults
returns-clause-faults c = c.change_at-opened.ensures.faults

pub returns-clause-crash : goal.returns-clause-crash
returns-clause-crash c =
    let files = c.args.self.now in
    let new = c.change_at-opened.new.entries in
    let back : take files.entries.len (new ++ drop (length new) files.entries.items) ≡ new = grind (arith, common_steps) in
    let all = subst (λ entries. HoldsAll entries new) (lent c) c.change_at-opened.ensures.kept in
    rw back (runs_same (facts_in_memory files.entries.items files.reads files.tables (paths_told files.readings)) files.entries.items new
    (λ path ne. all path))
