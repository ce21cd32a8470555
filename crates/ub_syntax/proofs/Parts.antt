-- How a part of a list of lexemes is read off its front.
use Rattle.std.proofs.Common.{◌≡◌, ◌≢◌, ◌<◌, ◌≤◌, inl, inr, ℕ, Bool, true, false, List, [], ◌∷◌, ◌++◌, length, Some, refl, sym, ap, subst, ◌∙◌, append_assoc, arith}
use Rattle.std.proofs.lemmas.List.Elements.{All-tail}
use Rattle.ub_lexer.specs.Text.{IsSpelling}
use Rattle.ub_lexer.specs.Tokens.{text_of, AreSpelled}
use Rattle.ub_lexer.specs.declared.token.Token.{Token}
use Rattle.ub_syntax.specs.Grammar.{Lexeme, Is, IsToken, IsLiteral, IsComparison}
use Rattle.ub_syntax.specs.Reading.{first_symbol, Reads, Advances, Accepts}
use Rattle.ub_syntax.specs.Tree.{both, either, neither, compares, between}
use Rattle.ub_query.specs.declared.condition.Operator.{Operator}
use Rattle.ub_syntax.specs.declared.symbol.Symbol.{Symbol}
use Rattle.ub_syntax.specs.declared.symbol.Symbol.TheVariants as symbol
use Rattle.ub_syntax.specs.declared.syntax.Literal.{Literal}

pub spelled_rest : (source : List ℕ) (all left : List Token) (t : Token) → all ≡ t ∷ left → AreSpelled source all → AreSpelled source left
spelled_rest source all left t e h =
    let P : Token → Type 0 = λ t. (t.from < t.to) × (t.to ≤ length source) × IsSpelling t.kind (text_of source t) in
    let Q : List Token → Type 0 = λ ts. AreSpelled source ts in
    All-tail P t left (subst Q e h)

-- a lexeme that is the symbol is read
pub accepts_it : (s : Symbol) (old new : List Lexeme) (token : Token) → first_symbol old ≡ Some s → Advances old token new → Accepts s old true new
accepts_it s [] new token h a = let bad : ⊥ = cc in absurd bad
accepts_it s (m ∷ ms) new token h a =
    let after : new ≡ ms = (a.reads m ms refl).1 in
    let fewer : length new ≡ length ms = ap length after in
    record {
      reads = λ l ls e is. (refl, (a.reads l ls e).1);
      stays = λ other. absurd (other h);
      shorter = omega arith;
      less = λ yes. omega arith;
    }

-- another is left
pub leaves_it : (s : Symbol) (old : List Lexeme) → first_symbol old ≢ Some s → Accepts s old false old
leaves_it s old other =
    record {
      reads = λ l ls e is. absurd (other (ap first_symbol e ∙ ap Some is));
      stays = λ h. (refl, refl);
      shorter = omega arith;
      less = λ bad. let never : ⊥ = cc in absurd never;
    }

pub cut : (old used rest a b : List Lexeme) → old ≡ used ++ rest → used ≡ a ++ b → old ≡ a ++ (b ++ rest)
cut old used rest a b e f = e ∙ ap (λ (u : List Lexeme). u ++ rest) f ∙ append_assoc a b rest

pub is_of : (s : Symbol) (part : List Lexeme) (token : Token) → IsToken s part token → Is s part
is_of s part token w = (w.0, w.1, w.2)

pub first_is : (s : Symbol) (part tail old : List Lexeme) → Is s part → old ≡ part ++ tail → first_symbol old ≡ Some s
first_is s part tail old is e =
    let whole : old ≡ is.0 ∷ tail = e ∙ ap (λ (p : List Lexeme). p ++ tail) is.1 in
    ap first_symbol whole ∙ ap Some is.2

pub advance_token : (s : Symbol) (part tail old : List Lexeme) (token read : Token) (new : List Lexeme)
    → Advances old read new → IsToken s part token → old ≡ part ++ tail → (read ≡ token) × (new ≡ tail)
advance_token s part tail old token read new a is e =
    let whole : old ≡ is.0 ∷ tail = e ∙ ap (λ (p : List Lexeme). p ++ tail) is.1 in
    let r = a.reads is.0 tail whole in
    (r.0 ∙ is.3, r.1)

pub advance_is : (s : Symbol) (part tail old : List Lexeme) (read : Token) (new : List Lexeme)
    → Advances old read new → Is s part → old ≡ part ++ tail → new ≡ tail
advance_is s part tail old read new a is e =
    let whole : old ≡ is.0 ∷ tail = e ∙ ap (λ (p : List Lexeme). p ++ tail) is.1 in
    (a.reads is.0 tail whole).1

pub accept_is : (s : Symbol) (part tail old : List Lexeme) (read : Bool) (new : List Lexeme)
    → Accepts s old read new → Is s part → old ≡ part ++ tail → (read ≡ true) × (new ≡ tail)
accept_is s part tail old read new a is e =
    let whole : old ≡ is.0 ∷ tail = e ∙ ap (λ (p : List Lexeme). p ++ tail) is.1 in
    a.reads is.0 tail whole is.2

same_literal : (b : Bool) (digits : Token) (x : Literal) → b ≡ x.is_negative → digits ≡ x.digits → ◌≡◌ {A = Literal} (record { is_negative = b; digits = digits }) x
same_literal b digits x p q = rw (p, q) refl

pub literal_reads : (old mid new : List Lexeme) (b : Bool) (digits : Token) → Accepts symbol.Minus old b mid → Advances mid digits new
    → Reads IsLiteral [] old (record { is_negative = b; digits = digits }) new
literal_reads old mid new b digits a d used rest x e (inl w) end =
    let first = first_is symbol.Number used rest old (is_of symbol.Number used x.digits w.1) e in
    let other : first_symbol old ≢ Some symbol.Minus = λ h. cc in
    let s = a.stays other in
    let t = advance_token symbol.Number used rest mid x.digits digits new d w.1 (s.1 ∙ e) in
    (same_literal b digits x (s.0 ∙ sym w.0) t.0, t.1)
literal_reads old mid new b digits a d used rest x e (inr w) end =
    let s = accept_is symbol.Minus w.1 (w.2 ++ rest) old b mid a w.4 (cut old used rest w.1 w.2 e w.3) in
    let t = advance_token symbol.Number w.2 rest mid x.digits digits new d w.5 s.1 in
    (same_literal b digits x (s.0 ∙ sym w.0) t.0, t.1)

pub recut : (old a b rest : List Lexeme) → old ≡ (a ++ b) ++ rest → old ≡ a ++ (b ++ rest)
recut old a b rest e = e ∙ append_assoc a b rest

same_compares : (c d : Token) (o p : Operator) (v w : Literal) → c ≡ d → o ≡ p → v ≡ w → compares c o v ≡ compares d p w
same_compares c d o p v w e f g = rw (e, f, g) refl

same_between : (c d : Token) (v w x y : Literal) → c ≡ d → v ≡ w → x ≡ y → between c v x ≡ between d w y
same_between c d v w x y e f g = rw (e, f, g) refl

pub compares_read : (old a b new : List Lexeme) (column sign : Token) (operator : Operator) (value : Literal) → Advances old column a
    → first_symbol a ≡ Some (symbol.Operator operator) → Advances a sign b → Reads IsLiteral [] b value new
    → Reads IsComparison [] old (compares column operator value) new
compares_read old a b new column sign operator value A f B L used rest (compares c o v) e w end =
    let s1 = advance_token symbol.Name w.0 ((w.1 ++ w.2) ++ rest) old c column a A w.4 (cut old used rest w.0 (w.1 ++ w.2) e w.3) in
    let e2 = recut a w.1 w.2 rest s1.1 in
    let g = first_is (symbol.Operator o) w.1 (w.2 ++ rest) a w.5 e2 in
    let same : operator ≡ o = cc in
    let s2 = advance_is (symbol.Operator o) w.1 (w.2 ++ rest) a sign b B w.5 e2 in
    let s3 = L w.2 rest v s2 w.6 tt in
    (same_compares column c operator o value v s1.0 same s3.0, s3.1)
compares_read old a b new column sign operator value A f B L used rest (between c low high) e w end =
    let s1 = advance_token symbol.Name w.0 ((w.1 ++ (w.2 ++ (w.3 ++ w.4))) ++ rest) old c column a A w.6 (cut old used rest w.0 (w.1 ++ (w.2 ++ (w.3 ++ w.4))) e w.5) in
    let e2 = recut a w.1 (w.2 ++ (w.3 ++ w.4)) rest s1.1 in
    let g = first_is symbol.Between w.1 ((w.2 ++ (w.3 ++ w.4)) ++ rest) a w.7 e2 in
    let bad : ⊥ = cc in
    absurd bad
compares_read old a b new column sign operator value A f B L used rest (both x y) e w end = absurd w
compares_read old a b new column sign operator value A f B L used rest (either x y) e w end = absurd w
compares_read old a b new column sign operator value A f B L used rest (neither x) e w end = absurd w

pub between_read : (old a b c d new : List Lexeme) (column word and : Token) (low high : Literal) → Advances old column a
    → ((o : Operator) → first_symbol a ≢ Some (symbol.Operator o)) → Advances a word b → Reads IsLiteral [] b low c → Advances c and d → Reads IsLiteral [] d high new
    → Reads IsComparison [] old (between column low high) new
between_read old a b c d new column word and low high A f B L C M used rest (compares n o v) e w end =
    let s1 = advance_token symbol.Name w.0 ((w.1 ++ w.2) ++ rest) old n column a A w.4 (cut old used rest w.0 (w.1 ++ w.2) e w.3) in
    let e2 = recut a w.1 w.2 rest s1.1 in
    absurd (f o (first_is (symbol.Operator o) w.1 (w.2 ++ rest) a w.5 e2))
between_read old a b c d new column word and low high A f B L C M used rest (between n x y) e w end =
    let s1 = advance_token symbol.Name w.0 ((w.1 ++ (w.2 ++ (w.3 ++ w.4))) ++ rest) old n column a A w.6 (cut old used rest w.0 (w.1 ++ (w.2 ++ (w.3 ++ w.4))) e w.5) in
    let e2 = recut a w.1 (w.2 ++ (w.3 ++ w.4)) rest s1.1 in
    let s2 = advance_is symbol.Between w.1 ((w.2 ++ (w.3 ++ w.4)) ++ rest) a word b B w.7 e2 in
    let e3 = recut b w.2 (w.3 ++ w.4) rest s2 in
    let s3 = L w.2 ((w.3 ++ w.4) ++ rest) x e3 w.8 tt in
    let e4 = recut c w.3 w.4 rest s3.1 in
    let s4 = advance_is symbol.And w.3 (w.4 ++ rest) c and d C w.9 e4 in
    let s5 = M w.4 rest y s4 w.10 tt in
    (same_between column n low x high y s1.0 s3.0 s5.0, s5.1)
between_read old a b c d new column word and low high A f B L C M used rest (both x y) e w end = absurd w
between_read old a b c d new column word and low high A f B L C M used rest (either x y) e w end = absurd w
between_read old a b c d new column word and low high A f B L C M used rest (neither x) e w end = absurd w
