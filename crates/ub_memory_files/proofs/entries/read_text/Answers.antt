use Rattle.std.proofs.Common.{◌≡◌, ◌⊎◌, inl, refl, rules}
use Rattle.ub_files.specs.Files.{bytes, standard_input}
use Rattle.ub_memory_files.specs.Memory.{held_in}
use Rattle.ub_memory_files.proofs.EntryFacts.{fault_taken, none_taken, text_taken, used_up_read}
use Rattle.ub_store.specs.declared.fault.StoreFault.TheVariants.{Device, Memory}
use Rattle.ub_memory_files.proofs.entries.read_text.Goals as goal

pub returns-then-eq-clause-text : goal.returns-then-eq-clause-text
returns-then-eq-clause-text c =
    rw c.ok_or.ensures.value (text_taken (held_in c.args.entries.now c.args.path.now) (λ text. text.items) _ _ c.use_up.result Device c.use_up.ensures)

pub returns-then-eq-clause-device : goal.returns-then-eq-clause-device
returns-then-eq-clause-device c =
    rw c.ok_or.ensures.value (none_taken (held_in c.args.entries.now c.args.path.now) (λ text. text.items) _ _ c.use_up.result Device c.use_up.ensures)

pub returns-then-eq-clause-faults : goal.returns-then-eq-clause-faults
returns-then-eq-clause-faults c =
    rw c.ok_or.ensures.value (fault_taken (λ fault. (fault ≡ Device) ⊎ (fault ≡ Memory)) c.use_up.result Device (inl refl))

pub returns-then-eq-clause-effect : goal.returns-then-eq-clause-effect
returns-then-eq-clause-effect c =
    let is : c.args.path.now ≡ standard_input = search rules in
    rw c.ok_or.ensures.value
    (used_up_read c.args.path.now c.args.entries.now c.use_up.new.entries (λ text. held_in c.args.entries.now c.args.path.now ≡ bytes text.items) c.use_up.result _ is c.use_up.ensures)
