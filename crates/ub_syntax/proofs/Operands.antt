-- How an operand of a condition is read.
use Rattle.std.proofs.Common.{◌≡◌, ◌≢◌, ◌-◌, ◌<◌, inl, inr, ℕ, zero, suc, true, false, List, [], ◌∷◌, ◌++◌, Some, refl, sym, ap, subst, ◌∙◌, arith}
use Rattle.ub_lexer.specs.declared.token.Token.{Token}
use Rattle.ub_syntax.specs.Grammar.{Lexeme, IsComparison, IsOperand, IsCondition}
use Rattle.ub_syntax.specs.Reading.{first_symbol, Reads, Advances, Accepts}
use Rattle.ub_syntax.specs.Tree.{Shape, both, either, neither, compares, between}
use Rattle.ub_syntax.specs.declared.symbol.Symbol.TheVariants as symbol
use Rattle.ub_syntax.proofs.Parts.{cut, recut, first_is, is_of, advance_is, accept_is}
use Rattle.ub_syntax.proofs.Chains.{Separates}

-- a comparison begins with a name
comparison_first : (old used rest : List Lexeme) (x : Shape) → old ≡ used ++ rest → IsComparison used x → first_symbol old ≡ Some symbol.Name
comparison_first old used rest (compares c o v) e w =
    first_is symbol.Name w.0 ((w.1 ++ w.2) ++ rest) old (is_of symbol.Name w.0 c w.4) (cut old used rest w.0 (w.1 ++ w.2) e w.3)
comparison_first old used rest (between c low high) e w =
    first_is symbol.Name w.0 ((w.1 ++ (w.2 ++ (w.3 ++ w.4))) ++ rest) old (is_of symbol.Name w.0 c w.6) (cut old used rest w.0 (w.1 ++ (w.2 ++ (w.3 ++ w.4))) e w.5)
comparison_first old used rest (both x y) e w = absurd w
comparison_first old used rest (either x y) e w = absurd w
comparison_first old used rest (neither x) e w = absurd w

pub plain_operand : (depth : ℕ) (old new : List Lexeme) (x : Shape) → depth ≡ 0 → Reads IsComparison [] old x new → Reads (IsOperand depth) [] old x new
plain_operand depth old new x zero_is r = rw zero_is r

negation : (n : ℕ) (old a new : List Lexeme) (x : Shape) → Accepts symbol.Not old true a → Reads (IsOperand n) [] a x new → Reads (IsOperand (suc n)) [] old (neither x) new
negation n old a new x A r used rest c e (inl w) end =
    let f = comparison_first old used rest c e w in
    let other : first_symbol old ≢ Some symbol.Not = λ h. cc in
    let bad = A.stays other in
    let never : ⊥ = cc in
    absurd never
negation n old a new x A r used rest c e (inr (inl w)) end =
    let s1 = accept_is symbol.Not w.0 (w.1 ++ rest) old true a A w.4 (cut old used rest w.0 w.1 e w.3) in
    let s2 = r w.1 rest w.2 s1.1 w.5 tt in
    (ap neither s2.0 ∙ sym w.6, s2.1)
negation n old a new x A r used rest c e (inr (inr w)) end =
    let f = first_is symbol.Open w.0 ((w.1 ++ w.2) ++ rest) old w.4 (cut old used rest w.0 (w.1 ++ w.2) e w.3) in
    let other : first_symbol old ≢ Some symbol.Not = λ h. cc in
    let bad = A.stays other in
    let never : ⊥ = cc in
    absurd never

nested : (n : ℕ) (old a b d new : List Lexeme) (x : Shape) (close : Token) → Accepts symbol.Not old false a → Accepts symbol.Open a true b
    → Reads (IsCondition n) (symbol.Or ∷ symbol.And ∷ []) b x d → Advances d close new → Reads (IsOperand (suc n)) [] old x new
nested n old a b d new x close A B r C used rest c e (inl w) end =
    let f = comparison_first old used rest c e w in
    let other : first_symbol old ≢ Some symbol.Not = λ h. cc in
    let same : a ≡ old = (A.stays other).1 in
    let g : first_symbol a ≡ Some symbol.Name = ap first_symbol same ∙ f in
    let shut : first_symbol a ≢ Some symbol.Open = λ h. cc in
    let bad = B.stays shut in
    let never : ⊥ = cc in
    absurd never
nested n old a b d new x close A B r C used rest c e (inr (inl w)) end =
    let s1 = accept_is symbol.Not w.0 (w.1 ++ rest) old false a A w.4 (cut old used rest w.0 w.1 e w.3) in
    let never : ⊥ = cc in
    absurd never
nested n old a b d new x close A B r C used rest c e (inr (inr w)) end =
    let whole = cut old used rest w.0 (w.1 ++ w.2) e w.3 in
    let f = first_is symbol.Open w.0 ((w.1 ++ w.2) ++ rest) old w.4 whole in
    let other : first_symbol old ≢ Some symbol.Not = λ h. cc in
    let same : a ≡ old = (A.stays other).1 in
    let s1 = accept_is symbol.Open w.0 ((w.1 ++ w.2) ++ rest) a true b B w.4 (same ∙ whole) in
    let g = first_is symbol.Close w.2 rest (w.2 ++ rest) w.6 refl in
    let not_or : first_symbol (w.2 ++ rest) ≢ Some symbol.Or = λ h. cc in
    let not_and : first_symbol (w.2 ++ rest) ≢ Some symbol.And = λ h. cc in
    let s2 = r w.1 (w.2 ++ rest) c (recut b w.1 w.2 rest s1.1) w.5 (not_or, (not_and, tt)) in
    (s2.0, advance_is symbol.Close w.2 rest d close new C w.6 s2.1)

compared : (n : ℕ) (old a b new : List Lexeme) (x : Shape) → Accepts symbol.Not old false a → Accepts symbol.Open a false b
    → Reads IsComparison [] b x new → Reads (IsOperand (suc n)) [] old x new
compared n old a b new x A B r used rest c e (inl w) end =
    let f = comparison_first old used rest c e w in
    let other : first_symbol old ≢ Some symbol.Not = λ h. cc in
    let same : a ≡ old = (A.stays other).1 in
    let g : first_symbol a ≡ Some symbol.Name = ap first_symbol same ∙ f in
    let shut : first_symbol a ≢ Some symbol.Open = λ h. cc in
    r used rest c ((B.stays shut).1 ∙ same ∙ e) w tt
compared n old a b new x A B r used rest c e (inr (inl w)) end =
    let s1 = accept_is symbol.Not w.0 (w.1 ++ rest) old false a A w.4 (cut old used rest w.0 w.1 e w.3) in
    let never : ⊥ = cc in
    absurd never
compared n old a b new x A B r used rest c e (inr (inr w)) end =
    let whole = cut old used rest w.0 (w.1 ++ w.2) e w.3 in
    let f = first_is symbol.Open w.0 ((w.1 ++ w.2) ++ rest) old w.4 whole in
    let other : first_symbol old ≢ Some symbol.Not = λ h. cc in
    let same : a ≡ old = (A.stays other).1 in
    let s1 = accept_is symbol.Open w.0 ((w.1 ++ w.2) ++ rest) a false b B w.4 (same ∙ whole) in
    let never : ⊥ = cc in
    absurd never

pub negated_operand : (depth : ℕ) (old a new : List Lexeme) (x : Shape) → 0 < depth → Accepts symbol.Not old true a
    → Reads (IsOperand (depth - 1)) [] a x new → Reads (IsOperand depth) [] old (neither x) new
negated_operand zero old a new x some A r = absurd (omega arith)
negated_operand (suc n) old a new x some A r =
    let e : suc n - 1 ≡ n = omega arith in
    negation n old a new x A (rw e at r)

pub nested_operand : (depth : ℕ) (old a b d new : List Lexeme) (x : Shape) (close : Token) → 0 < depth → Accepts symbol.Not old false a → Accepts symbol.Open a true b
    → Reads (IsCondition (depth - 1)) (symbol.Or ∷ symbol.And ∷ []) b x d → Advances d close new → Reads (IsOperand depth) [] old x new
nested_operand zero old a b d new x close some A B r C = absurd (omega arith)
nested_operand (suc n) old a b d new x close some A B r C =
    let e : suc n - 1 ≡ n = omega arith in
    let F : ℕ → Type 0 = λ k. Reads (IsCondition k) (symbol.Or ∷ symbol.And ∷ []) b x d in
    nested n old a b d new x close A B (subst F e r) C

pub compared_operand : (depth : ℕ) (old a b new : List Lexeme) (x : Shape) → 0 < depth → Accepts symbol.Not old false a → Accepts symbol.Open a false b
    → Reads IsComparison [] b x new → Reads (IsOperand depth) [] old x new
compared_operand zero old a b new x some A B r = absurd (omega arith)
compared_operand (suc n) old a b new x some A B r = compared n old a b new x A B r

-- what follows an operand of a conjunction, and a conjunction of a condition
pub and_separates : Separates symbol.And [] (symbol.And ∷ [])
and_separates = record {
  joint = λ ls h. tt;
  end = λ ls h. tt;
  other = λ ls h. h.0;
}

pub or_separates : Separates symbol.Or (symbol.And ∷ []) (symbol.Or ∷ symbol.And ∷ [])
or_separates = record {
  joint = λ ls h. ((λ k. cc), tt);
  end = λ ls h. h.1;
  other = λ ls h. h.0;
}
