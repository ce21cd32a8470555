-- What was read of the words of a command line, held against what they ask for.
use Rattle.std.specs.Prelude.{◌≡◌, ℕ, List, ◌++◌, codes}
use Rattle.ub_words.specs.CommandLine.{AsksAppend, AsksHelp, AsksLoad, AsksNext, AsksNothing, AsksQuery, AsksRun, AsksTable, AsksTry, AsksUpgrade}
use Rattle.ub_words.specs.declared.words.Asked.{Asked}
use Rattle.ub_words.specs.declared.words.Asked.TheVariants.{Try, Load, Run, Query, Append, Upgrade, Table, Next, Help, Wrong}

-- whole lines, one at least
abbrev pub AreLines : List ℕ → Type 0
AreLines text = (lines : List ℕ) × (text ≡ lines ++ codes "\n")

-- the words ask for this
abbrev pub IsAskedBy : List (List ℕ) → Asked → Type 0
IsAskedBy words (Try asked) = AsksTry words asked.source.path.now asked.script.now asked.source.name.now asked.source.dims asked.source.page_rows asked.source.signed
IsAskedBy words (Load asked) = AsksLoad words asked.source.path.now asked.table.now asked.source.name.now asked.source.dims asked.source.page_rows asked.source.signed
IsAskedBy words (Run asked) = AsksRun words asked.table.now asked.script.now
IsAskedBy words (Query asked) = AsksQuery words asked.table.now asked.statements.now
IsAskedBy words (Append asked) = AsksAppend words asked.table.now asked.data.now
IsAskedBy words (Upgrade asked) = AsksUpgrade words asked.old.now asked.new.now
IsAskedBy words (Table asked) = AsksTable words asked.command asked.table.now
IsAskedBy words (Next asked) = AsksNext words asked.low.now asked.high.now asked.address.now
IsAskedBy words (Help text) = AsksHelp words × AreLines text.items
IsAskedBy words (Wrong text) = AsksNothing words × AreLines text.items
