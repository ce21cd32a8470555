-- The laws of what words ask for. Each is what the function of its name in `law` ensures, and is proved in proofs/Laws.antt.
use Rattle.std.specs.Prelude.{◌≡◌, ℕ, List}
use Rattle.ub_words.specs.Asked.{IsAskedBy}
use Rattle.ub_words.specs.CommandLine.{AsksHelpAlone, table_name}
use Rattle.ub_words.specs.declared.given.DataWords.{DataWords}
use Rattle.ub_words.specs.declared.words.Asked.{Asked}
use Rattle.ub_words.specs.declared.words.Asked.TheVariants.{Try, Load, Run, Query, Append, Upgrade, Table, Next, Help, Wrong}

-- these name one CSV file, and make a table of it in one way
abbrev pub IsSameData : DataWords → DataWords → Type 0
IsSameData a b = (a.path.now ≡ b.path.now) × (a.name.now ≡ b.name.now) × (a.dims ≡ b.dims) × (a.page_rows ≡ b.page_rows) × (a.signed ≡ b.signed)

-- these ask for one thing, but for the text for words that ask for no command; `clap` may refuse some words in two ways,
-- one of which is the help
abbrev pub AreAlike : Asked → Asked → Type 0
AreAlike (Try a) (Try b) = IsSameData a.source b.source × (a.script.now ≡ b.script.now)
AreAlike (Load a) (Load b) = IsSameData a.source b.source × (a.table.now ≡ b.table.now)
AreAlike (Run a) (Run b) = (a.table.now ≡ b.table.now) × (a.script.now ≡ b.script.now)
AreAlike (Query a) (Query b) = (a.table.now ≡ b.table.now) × (a.statements.now ≡ b.statements.now)
AreAlike (Append a) (Append b) = (a.table.now ≡ b.table.now) × (a.data.now ≡ b.data.now)
AreAlike (Upgrade a) (Upgrade b) = (a.old.now ≡ b.old.now) × (a.new.now ≡ b.new.now)
AreAlike (Table a) (Table b) = (table_name a.command ≡ table_name b.command) × (a.table.now ≡ b.table.now)
AreAlike (Next a) (Next b) = (a.low.now ≡ b.low.now) × (a.high.now ≡ b.high.now) × (a.address.now ≡ b.address.now)
AreAlike (Next a) (Help text) = Unit {0}
AreAlike (Help text) (Next b) = Unit {0}
AreAlike (Help text) (Help more) = Unit {0}
AreAlike (Help text) (Wrong more) = Unit {0}
AreAlike (Wrong text) (Help more) = Unit {0}
AreAlike (Wrong text) (Wrong more) = Unit {0}
AreAlike a b = ⊥

-- the same words ask for one thing
abbrev pub OneThingIsAsked : Type 0
OneThingIsAsked = (words : List (List ℕ)) (a b : Asked) → IsAskedBy words a → IsAskedBy words b → AreAlike a b

-- this is the help
abbrev pub IsHelp : Asked → Type 0
IsHelp (Help text) = Unit {0}
IsHelp a = ⊥

-- words that ask for the help alone are told the help
abbrev pub HelpIsHelp : Type 0
HelpIsHelp = (words : List (List ℕ)) (a : Asked) → AsksHelpAlone words → IsAskedBy words a → IsHelp a
