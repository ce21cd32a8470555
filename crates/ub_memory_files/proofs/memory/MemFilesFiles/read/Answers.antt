use Rattle.std.proofs.Common.{◌≡◌, ◌≢◌, ◌++◌, ◌∷◌, ◌↔◌, ℕ, List, [], arith, drop, length, rules, subst, take}
use Rattle.std.proofs.lemmas.Grind.{common_steps}
use Rattle.std.specs.Prelude.{IfOk, IsErrOf}
use Rattle.ub_files.specs.Files.{AreRead, bytes}
use Rattle.ub_memory_files.specs.Memory.{facts_in_memory, held_in, paths_told, IsReadIn}
use Rattle.ub_memory_files.proofs.CallFacts.{reads_file}
use Rattle.ub_memory_files.proofs.ClockFacts.{read_same, runs_same}
use Rattle.ub_store.specs.declared.fault.StoreFault.TheVariants.{Device}
use Rattle.ub_memory_files.proofs.memory.MemFilesFiles.read.Goals as goal

lent : (c : goal.After-self-3-1) → c.as_mut_slice.result.now ≡ c.args.self.now.entries.items
lent c = cc

-- what was lent as a slice stands in the list again
given_back : (c : goal.After-self-3-1) → take c.args.self.now.entries.len (c.read_text-read.new.entries ++ drop (length c.read_text-read.new.entries) c.args.self.now.entries.items)
    ≡ c.read_text-read.new.entries
given_back c = grind (arith, common_steps)

pub returns-clause-text : goal.returns-clause-text
returns-clause-text c =
    subst (λ entries. IfOk c.read_text-read.result (λ text. held_in entries c.args.path.now ≡ bytes text.items)) (lent c) c.read_text-read.ensures.text

pub returns-clause-device : goal.returns-clause-device
returns-clause-device c =
    subst (λ entries. IsErrOf c.read_text-read.result Device ↔ ((text : List ℕ) → held_in entries c.args.path.now ≢ bytes text)) (lent c) c.read_text-read.ensures.device

pub returns-clause-faults : goal.returns-clause-faults
returns-clause-faults c = c.read_text-read.ensures.faults

pub returns-clause-effect : goal.returns-clause-effect
returns-clause-effect c =
    let files = c.args.self.now in
    let new = c.read_text-read.new.entries in
    let effect = subst (λ entries. IsReadIn c.args.path.now entries new c.read_text-read.result) (lent c) c.read_text-read.ensures.effect in
    let noted : AreRead (c.args.path.now ∷ []) (paths_told files.readings) (paths_told c.noted.result) = search rules in
    rw (given_back c) (reads_file c.args.path.now files.entries.items new files.reads files.tables _ (paths_told files.readings) (paths_told c.noted.result) c.read_text-read.result effect noted c.count_fault-self.ensures)

pub returns-clause-crash : goal.returns-clause-crash
returns-clause-crash c =
    let files = c.args.self.now in
    let new = c.read_text-read.new.entries in
    let effect = subst (λ entries. IsReadIn c.args.path.now entries new c.read_text-read.result) (lent c) c.read_text-read.ensures.effect in
    rw (given_back c) (runs_same (facts_in_memory files.entries.items files.reads files.tables (paths_told files.readings)) files.entries.items new
    (read_same c.args.path.now files.entries.items new c.read_text-read.result effect))

pub returns-clause-kept : goal.returns-clause-kept
returns-clause-kept c =
    let files = c.args.self.now in
    let new = c.read_text-read.new.entries in
    let effect = subst (λ entries. IsReadIn c.args.path.now entries new c.read_text-read.result) (lent c) c.read_text-read.ensures.effect in
    rw (given_back c) effect.refused
