-- What two tokens of a statement, one after the other, tell of its lists and comparisons, and which tokens are one too many.
use Rattle.std.specs.Prelude.{ℕ, zero, suc, Bool, true, false, List, [], ◌∷◌, ◌++◌, drop, Option, Some, None, if◌then◌else◌}
use Rattle.std.specs.Option.{option_to_list}
use Rattle.ub_lexer.specs.declared.token.Token.{Token}
use Rattle.ub_syntax.specs.Grammar.{Lexeme, symbol_of}
use Rattle.ub_syntax.specs.declared.limits.Mark.{Mark}
use Rattle.ub_syntax.specs.declared.limits.Mark.TheVariants.{First, Next, Column}
use Rattle.ub_syntax.specs.declared.symbol.Symbol.{Symbol}
use Rattle.ub_syntax.specs.declared.symbol.Symbol.TheVariants as symbol

-- it stands after the column of a comparison
abbrev pub is_sign : Symbol → Bool
is_sign (symbol.Operator _) = true
is_sign symbol.Between = true
is_sign _ = false

-- what a symbol tells of the token after it
abbrev pub mark_after : Symbol → Token → Option Mark
mark_after symbol.Select t = Some First
mark_after symbol.By t = Some First
mark_after symbol.Comma t = Some (Next t)
mark_after _ t = None

-- what a symbol and its token tell with the next
abbrev pub seen : Symbol → Token → Symbol → Token → Option Mark
seen before previous next t = if is_sign next then Some (Column previous) else mark_after before t

-- what each two lexemes tell, in order, where one stands before them
abbrev pub marks_after : Lexeme → List Lexeme → List Mark
marks_after p [] = []
marks_after p (l ∷ ls) = option_to_list (seen (symbol_of p) p.token (symbol_of l) l.token) ++ marks_after l ls

-- what each two lexemes tell, in order
abbrev pub marks : List Lexeme → List Mark
marks [] = []
marks (l ∷ ls) = marks_after l ls

-- one less, where there is one
abbrev pub less : ℕ → ℕ
less zero = zero
less (suc n) = n

-- the tokens that are one too many, where so many parts of a list and so many comparisons may still come; of a new list
-- seven after its first
abbrev pub past : ℕ → ℕ → List Mark → List Token
past parts comparisons [] = []
past parts comparisons (First ∷ ms) = past 7 comparisons ms
past parts comparisons (Next t ∷ ms) = drop parts (t ∷ []) ++ past (less parts) comparisons ms
past parts comparisons (Column t ∷ ms) = drop comparisons (t ∷ []) ++ past parts (less comparisons) ms
