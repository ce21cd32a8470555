-- There is one verdict on some lexemes, and only one.
use Rattle.std.proofs.Common.{◌≡◌, ◌<◌, ℕ, suc, ◌-◌, List, [], ◌++◌, length, take, drop, Option, Some, refl, sym, ap, arith, ◌∙◌, inl, inr, append_assoc, take-take, slice_get}
use Rattle.std.proofs.lemmas.List.{take-append-drop, append-nil}
use Rattle.std.proofs.lemmas.Bool.Decides.{leb_tells}
use Rattle.ub_syntax.specs.Grammar.{Lexeme, IsStatement}
use Rattle.ub_syntax.specs.Stop.{Begins, IsStop, IsRefusedAt, IsTooDeepAt}
use Rattle.ub_syntax.specs.Tree.{Stated}
use Rattle.ub_syntax.specs.Verdicts.{IsVerdict}
use Rattle.ub_syntax.specs.declared.recogniser.Verdict.{Verdict}
use Rattle.ub_syntax.specs.declared.recogniser.Verdict.TheVariants as verdict

-- a front of lexemes with which a statement begins is one, too
begins_front : (n : ℕ) (a b : List Lexeme) → Begins n (a ++ b) → Begins n a
begins_front n a b h = (b ++ h.0, h.1, rw (append_assoc a b h.0) at h.2)

begins_take : (n k : ℕ) (ls : List Lexeme) → Begins n ls → Begins n (take k ls)
begins_take n k ls h = begins_front n (take k ls) (drop k ls) (rw (sym (take-append-drop k ls)) at h)

statement_begins : (n : ℕ) (ls : List Lexeme) (s : Stated) → IsStatement n ls s → Begins n ls
statement_begins n ls s is = ([], s, rw (sym (append-nil ls)) at is)

-- two stops are at one place
not_later : (n : ℕ) (ls : List Lexeme) (i j : ℕ) (s t : Lexeme) → IsStop n ls i s → IsStop n ls j t → i < j → ⊥
not_later n ls i j s t a b h =
    let shorter : take (suc i) (take j ls) ≡ take (suc i) ls = take-take (suc i) j ls (omega arith) in
    a.not_with (rw shorter at (begins_take n (suc i) (take j ls) b.before))

no_stop : (n : ℕ) (ls : List Lexeme) (i : ℕ) (s : Lexeme) → IsStop n ls i s → Begins n ls → ⊥
no_stop n ls i s a h = a.not_with (begins_take n (suc i) ls h)

same_place : (n : ℕ) (ls : List Lexeme) (i j : ℕ) (s t : Lexeme) → IsStop n ls i s → IsStop n ls j t → i ≡ j
same_place n ls i j s t a b = elim (leb_tells (suc i) j) [
  | inl f ↦ absurd (not_later n ls i j s t a b f.1)
  | inr f ↦ elim (leb_tells (suc j) i) [
    | inl g ↦ absurd (not_later n ls j i t s b a g.1)
    | inr g ↦ let l = f.1 in let m = g.1 in omega arith
  ]
]

some_is : {A : Type 0} (a b : A) (o : Option A) → o ≡ Some a → o ≡ Some b → a ≡ b
some_is a b o h k = cc

same_stop : (n : ℕ) (ls : List Lexeme) (i j : ℕ) (s t : Lexeme) → IsStop n ls i s → IsStop n ls j t → s ≡ t
same_stop n ls i j s t a b =
    let place : i ≡ j = same_place n ls i j s t a b in
    let at : slice_get ls i ≡ Some t = ap (slice_get ls) place ∙ b.at in
    some_is s t (slice_get ls i) a.at at

-- where the nesting is at fault, the statement isn't refused otherwise
pub deep_alone : (n : ℕ) (ls : List Lexeme) (at other : ℕ) → IsTooDeepAt n ls at → IsRefusedAt n ls other → ⊥
deep_alone n ls at other (i, s, deep, e) (none, inl (j, t, stop, not_deep, f)) =
    let place : i ≡ j = same_place n ls i j s t deep.is_stop stop in
    let there = rw place at deep in
    let same : s ≡ t = same_stop n ls i j s t deep.is_stop stop in
    not_deep (rw same at there)
deep_alone n ls at other (i, s, deep, e) (none, inr (last, l, begins, f)) = no_stop n ls i s deep.is_stop begins

-- nor is it a statement
pub deep_no_statement : (n : ℕ) (ls : List Lexeme) (at : ℕ) (s : Stated) → IsTooDeepAt n ls at → IsStatement n ls s → ⊥
deep_no_statement n ls at s deep is = no_stop n ls deep.0 deep.1 deep.2.is_stop (statement_begins n ls s is)

pub one_depth : (n : ℕ) (ls : List Lexeme) (a b : ℕ) → IsTooDeepAt n ls a → IsTooDeepAt n ls b → a ≡ b
one_depth n ls a b h k =
    h.3 ∙ ap (λ (l : Lexeme). l.token.from) (same_stop n ls h.0 k.0 h.1 k.1 h.2.is_stop k.2.is_stop) ∙ sym k.3

pub one_refusal : (n : ℕ) (ls : List Lexeme) (a b : ℕ) → IsRefusedAt n ls a → IsRefusedAt n ls b → a ≡ b
one_refusal n ls a b (x, inl (i, s, stop, d, e)) (y, inl (j, t, other, f, g)) =
    e ∙ ap (λ (l : Lexeme). l.token.from) (same_stop n ls i j s t stop other) ∙ sym g
one_refusal n ls a b (x, inl (i, s, stop, d, e)) (y, inr (last, l, begins, g)) = absurd (no_stop n ls i s stop begins)
one_refusal n ls a b (x, inr (last, l, begins, e)) (y, inl (j, t, other, f, g)) = absurd (no_stop n ls j t other begins)
one_refusal n ls a b (x, inr (last, l, begins, e)) (y, inr (other, m, k, g)) =
    e ∙ ap (λ (l : Lexeme). l.token.to) (some_is last other (slice_get ls (length ls - 1)) l m) ∙ sym g

pub one_verdict : (n : ℕ) (ls : List Lexeme) (v w : Verdict) → IsVerdict n ls v → IsVerdict n ls w → v ≡ w
one_verdict n ls verdict.Statement verdict.Statement h k = refl
one_verdict n ls verdict.Statement (verdict.Syntax b) h k = absurd (k.0 h.0 h.1)
one_verdict n ls verdict.Statement (verdict.TooDeep b) h k = absurd (deep_no_statement n ls b h.0 k h.1)
one_verdict n ls (verdict.Syntax a) verdict.Statement h k = absurd (h.0 k.0 k.1)
one_verdict n ls (verdict.Syntax a) (verdict.Syntax b) h k = ap (λ (at : ℕ). verdict.Syntax at) (one_refusal n ls a b h k)
one_verdict n ls (verdict.Syntax a) (verdict.TooDeep b) h k = absurd (deep_alone n ls b a k h)
one_verdict n ls (verdict.TooDeep a) verdict.Statement h k = absurd (deep_no_statement n ls a k.0 h k.1)
one_verdict n ls (verdict.TooDeep a) (verdict.Syntax b) h k = absurd (deep_alone n ls a b h k)
one_verdict n ls (verdict.TooDeep a) (verdict.TooDeep b) h k = ap (λ (at : ℕ). verdict.TooDeep at) (one_depth n ls a b h k)
