-- What a list of tokens is to the grammar: a statement, or refused, and where.
use Rattle.std.specs.Prelude.{ℕ, List}
use Rattle.ub_syntax.specs.Tree.{Stated}
use Rattle.ub_syntax.specs.Grammar.{Lexeme, IsStatement}
use Rattle.ub_syntax.specs.Stop.{IsRefusedAt, IsTooDeepAt}
use Rattle.ub_syntax.specs.declared.recogniser.Verdict.{Verdict}
use Rattle.ub_syntax.specs.declared.recogniser.Verdict.TheVariants as verdict
use Rattle.ub_syntax.specs.declared.machine.Refusal.{Refusal}
use Rattle.ub_syntax.specs.declared.machine.Refusal.TheVariants as refusal

-- the verdict on these lexemes, with at most so many parentheses and NOTs round a place
abbrev pub IsVerdict : ℕ → List Lexeme → Verdict → Type 0
IsVerdict n ls verdict.Statement = (s : Stated) × IsStatement n ls s
IsVerdict n ls (verdict.Syntax at) = IsRefusedAt n ls at
IsVerdict n ls (verdict.TooDeep at) = IsTooDeepAt n ls at

-- the verdict where a token that begins here is refused
abbrev pub refused_at : Refusal → ℕ → Verdict
refused_at refusal.Syntax at = verdict.Syntax at
refused_at refusal.TooDeep at = verdict.TooDeep at
