-- The files that a command line names, of which a refusal may tell: each as the bytes of its path.
use Rattle.std.specs.Prelude.{ℕ, List, Option, Some, None}
use Rattle.ub_words.specs.declared.words.Asked.{Asked}
use Rattle.ub_words.specs.declared.words.Asked.TheVariants.{Try, Run, Query, Append}

-- the CSV file, where one is tried or appended
abbrev pub data_named : Asked → Option (List ℕ)
data_named (Try words) = Some words.source.path.now
data_named (Append words) = Some words.data.now
data_named _ = None

-- the script, where one is run or tried
abbrev pub script_named : Asked → Option (List ℕ)
script_named (Run words) = Some words.script.now
script_named (Try words) = Some words.script.now
script_named _ = None

-- the table file that is there already, and whose statements or rows are refused
abbrev pub table_named : Asked → Option (List ℕ)
table_named (Run words) = Some words.table.now
table_named (Query words) = Some words.table.now
table_named (Append words) = Some words.table.now
table_named _ = None
