use Rattle.ub_shell.proofs.loading.read_asked.Goals as goal

pub read_table-requires-clause-numbers : goal.read_table-requires-clause-numbers
read_table-requires-clause-numbers g c = c.requires.numbers

pub read_table-requires-clause-mask : goal.read_table-requires-clause-mask
read_table-requires-clause-mask g c = c.requires.mask

pub returns : goal.returns
returns g c = rw c.as_bytes.ensures.value at c.read_table.ensures
