use Rattle.std.proofs.Common.{◌≡◌, ◌+◌, ◌*◌, ◌++◌, length, take}
use Rattle.std.specs.List.{AllByRecursion, flat_map}
use Rattle.ub_page.specs.Header.{name_bytes}
use Rattle.ub_table.specs.Name.{IsName}
use Rattle.ub_page.proofs.header.put_names.Given as goal

abbrev pub invariant-loop-name : goal.invariant-loop-name
invariant-loop-name l = record {
  bytes : l.draft ≡ l.initial.draft ++ flat_map (λ name. name_bytes name) (take l.name-index l.names);
  names : AllByRecursion IsName (take l.name-index l.names);
  len : length l.draft ≡ length l.initial.draft + 33 * l.name-index;
}
