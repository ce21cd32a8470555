use Rattle.std.proofs.Common.{◌≡◌, ◌+◌, drop}
use Rattle.std.specs.Option.{option_map}
use Rattle.ub_memory_files.specs.Memory.{place_in}
use Rattle.ub_memory_files.proofs.entries.place_of.Given as goal

abbrev pub invariant-loop-entry : goal.invariant-loop-entry
invariant-loop-entry l = (l.place ≡ l.entry-index)
    × (place_in l.entries l.path ≡ option_map (λ i. i + l.entry-index) (place_in (drop l.entry-index l.entries) l.path))
