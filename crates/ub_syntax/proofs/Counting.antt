-- The tokens that are one too many, counted mark by mark, are those past the limits of the syntax.
use Rattle.std.proofs.Common.{◌≡◌, ◌≢◌, ◌<◌, ◌≤◌, ◌+◌, arith, ℕ, zero, suc, List, [], ◌∷◌, ◌++◌, length, map, drop, get_or, slice_get, Option, Some, None, refl, sym, ap, ◌∙◌, append_assoc}
use Rattle.std.proofs.lemmas.List.{append-nil, length-map, drop_all, drop-map, drop_more}
use Rattle.std.specs.Option.{option_to_list}
use Rattle.std.proofs.lemmas.List.Elements.{All-get_or}
use Rattle.ub_lexer.specs.Text.{IsSpelling}
use Rattle.ub_lexer.specs.Tokens.{text_of, AreSpelled}
use Rattle.ub_lexer.specs.declared.token.Token.{Token}
use Rattle.ub_syntax.specs.Grammar.{Lexeme, lexemes, symbol_of, IsDelete, IsStatement}
use Rattle.ub_syntax.specs.Limits.{first_token, listed, comparisons, key_items, past_limits, past_limits_of}
use Rattle.ub_syntax.specs.Marks.{seen, marks_after, marks, less, past}
use Rattle.ub_syntax.specs.Reading.{first_symbol}
use Rattle.ub_syntax.specs.Tree.{Select, Stated, selects, inserts, deletes}
use Rattle.ub_syntax.specs.declared.limits.Mark.{Mark}
use Rattle.ub_syntax.specs.declared.limits.Mark.TheVariants.{Next, Column}
use Rattle.ub_syntax.specs.declared.symbol.Symbol.{Symbol}
use Rattle.ub_syntax.specs.declared.symbol.Symbol.TheVariants.{Insert}
use Rattle.ub_syntax.proofs.Firsts.{insert_first, select_no_insert, delete_no_insert}
use Rattle.ub_syntax.proofs.Parts.{spelled_rest}
use Rattle.ub_syntax.proofs.Marking.{list_marks, statement_marks, marks_of, marks_of_delete}

-- the first, past a limit, and the others past one less
drop_none : {A : Type 0} (n : ℕ) → ◌≡◌ {A = List A} (drop n []) []
drop_none zero = refl
drop_none (suc n) = refl

drop_first : {A : Type 0} (n : ℕ) (x : A) (xs : List A) → drop n (x ∷ []) ++ drop (less n) xs ≡ drop n (x ∷ xs)
drop_first zero x xs = refl
drop_first {A} (suc n) x xs = ap (λ (ys : List A). ys ++ drop n xs) (drop_none n)

before_none : (n : ℕ) (ts : List Token) → ts ≡ drop n [] ++ ts
before_none zero ts = refl
before_none (suc n) ts = refl

next_past : (p c : ℕ) (ts : List Token) (ms : List Mark) → (q : ℕ) × (past p c (map Next ts ++ ms) ≡ drop p ts ++ past q c ms)
next_past p c [] ms = (p, before_none p (past p c ms))
next_past p c (t ∷ ts) ms =
    let h = next_past (less p) c ts ms in (
      h.0,
      ap (λ (us : List Token). drop p (t ∷ []) ++ us) h.1 ∙ sym (append_assoc (drop p (t ∷ [])) (drop (less p) ts) (past h.0 c ms))
          ∙ ap (λ (us : List Token). us ++ past h.0 c ms) (drop_first p t ts),
    )

column_past : (p c : ℕ) (ts : List Token) (ms : List Mark) → (d : ℕ) × (past p c (map Column ts ++ ms) ≡ drop c ts ++ past p d ms)
column_past p c [] ms = (c, before_none c (past p c ms))
column_past p c (t ∷ ts) ms =
    let h = column_past p (less c) ts ms in (
      h.0,
      ap (λ (us : List Token). drop c (t ∷ []) ++ us) h.1 ∙ sym (append_assoc (drop c (t ∷ [])) (drop (less c) ts) (past p h.0 ms))
          ∙ ap (λ (us : List Token). us ++ past p h.0 ms) (drop_first c t ts),
    )

list_past : (p c : ℕ) (ts : List Token) (ms : List Mark) → (q : ℕ) × (past p c (list_marks ts ++ ms) ≡ drop 8 ts ++ past q c ms)
list_past p c [] ms = (p, refl)
list_past p c (t ∷ ts) ms = next_past 7 c ts ms

dropped_twice : (ts : List Token) → drop 7 (drop 1 ts) ≡ drop 8 ts
dropped_twice [] = refl
dropped_twice (t ∷ ts) = refl

pub statement_past : (p : ℕ) (s : Select) → past p 64 (statement_marks s) ≡ past_limits s
statement_past p s =
    let items = map first_token (listed s.selection) in
    let columns = comparisons s.filter in
    let keys = map first_token (key_items s.order) in
    let a = next_past 7 64 (drop 1 items) (map Column columns ++ (list_marks s.group ++ list_marks keys)) in
    let b = column_past a.0 64 columns (list_marks s.group ++ list_marks keys) in
    let c = list_past a.0 b.0 s.group (list_marks keys) in
    let d = list_past c.0 b.0 keys [] in
    let last : past c.0 b.0 (list_marks keys) ≡ drop 8 keys = ap (past c.0 b.0) (sym (append-nil (list_marks keys))) ∙ d.1 ∙ append-nil (drop 8 keys) in
    a.1 ∙ ap (λ (ts : List Token). ts ++ past a.0 64 (map Column columns ++ (list_marks s.group ++ list_marks keys))) (dropped_twice items)
    ∙ ap (λ (ts : List Token). drop 8 items ++ ts)
    (b.1 ∙ ap (λ (ts : List Token). drop 64 columns ++ ts) (c.1 ∙ ap (λ (ts : List Token). drop 8 s.group ++ ts) last))

delete_past : (ls : List Lexeme) (s : Select) (is : IsDelete 64 ls s) → past 8 64 (map Column (comparisons s.filter)) ≡ past_limits s
delete_past ls s is =
    let columns = comparisons s.filter in
    let b = column_past 8 64 columns [] in
    let counted : past 8 64 (map Column columns) ≡ drop 64 columns ++ [] = ap (past 8 64) (sym (append-nil (map Column columns))) ∙ b.1 in
    let same : past_limits s ≡ drop 64 columns ++ [] = rw is.rows refl in
    counted ∙ sym same

-- the tokens of a statement that are one too many, but of an INSERT
marked : (ls : List Lexeme) (s : Stated) → first_symbol ls ≢ Some Insert → IsStatement 64 ls s → past 8 64 (marks ls) ≡ past_limits_of s
marked ls (selects s) other is = ap (past 8 64) (marks_of 64 ls s is) ∙ statement_past 8 s
marked ls (inserts i) other is = absurd (other (insert_first ls i is))
marked ls (deletes s) other is = ap (past 8 64) (marks_of_delete 64 ls s is) ∙ delete_past ls s is

abbrev pub lexeme : List ℕ → Token → Lexeme
lexeme source t = record { token = t; text = text_of source t }

-- what was counted up to a token, with what is still to be counted, are all marks
pub record Counted (source : List ℕ) (tokens others : List Token) (i : ℕ) (previous : Token) (symbol : Symbol) (parts columns : ℕ) : Type 0 where
  pub same : past 8 64 (marks (lexemes source tokens)) ≡ past parts columns (marks_after (lexeme source previous) (drop i (lexemes source others)))
  pub symbol_is : symbol ≡ symbol_of (lexeme source previous)

pub counted_start : (source : List ℕ) (tokens others : List Token) (first : Token) (symbol : Symbol) → tokens ≡ first ∷ others → symbol ≡ symbol_of (lexeme source first)
    → Counted source tokens others 0 first symbol 8 64
counted_start source tokens others first symbol e is = record {
  same = ap (λ (ts : List Token). past 8 64 (marks (lexemes source ts))) e;
  symbol_is = is;
}

dropped : (source : List ℕ) (others : List Token) (i : ℕ) (d : Token) → i < length others
    → drop i (lexemes source others) ≡ lexeme source (get_or others i d) ∷ drop (i + 1) (lexemes source others)
dropped source others i d h =
    drop-map (lexeme source) i others ∙ ap (map (lexeme source)) (drop_more others i d h)
    ∙ ap (λ (ls : List Lexeme). lexeme source (get_or others i d) ∷ ls) (sym (drop-map (lexeme source) (i + 1) others))

-- one token more, whatever it told
counted_step : (source : List ℕ) (tokens others : List Token) (i : ℕ) (previous : Token) (symbol : Symbol) (parts columns : ℕ) (d next : Token) (next_symbol : Symbol)
    (told : Option Token) (new_parts new_columns : ℕ) → Counted source tokens others i previous symbol parts columns → i < length others → next ≡ get_or others i d
    → next_symbol ≡ symbol_of (lexeme source next)
    → ((ms : List Mark) → past parts columns (option_to_list (seen symbol previous next_symbol next) ++ ms) ≡ option_to_list told ++ past new_parts new_columns ms)
    → past 8 64 (marks (lexemes source tokens)) ≡ option_to_list told ++ past new_parts new_columns (marks_after (lexeme source next) (drop (i + 1) (lexemes source others)))
counted_step source tokens others i previous symbol parts columns d next next_symbol told new_parts new_columns h below e is step =
    let there : drop i (lexemes source others) ≡ lexeme source next ∷ drop (i + 1) (lexemes source others) = rw e (dropped source others i d below) in
    let rest = marks_after (lexeme source next) (drop (i + 1) (lexemes source others)) in
    let first : seen symbol previous next_symbol next ≡ seen (symbol_of (lexeme source previous)) previous (symbol_of (lexeme source next)) next = rw (h.symbol_is, is) refl in
    h.same ∙ ap (λ (ls : List Lexeme). past parts columns (marks_after (lexeme source previous) ls)) there
    ∙ ap (λ (o : Option Mark). past parts columns (option_to_list o ++ rest)) (sym first) ∙ step rest

-- one that is not too many
pub counted_more : (source : List ℕ) (tokens others : List Token) (i : ℕ) (previous : Token) (symbol : Symbol) (parts columns : ℕ) (d next : Token) (next_symbol : Symbol)
    (told : Option Token) (new_previous : Token) (new_symbol : Symbol) (new_parts new_columns : ℕ) → Counted source tokens others i previous symbol parts columns → i < length others
    → next ≡ get_or others i d → next_symbol ≡ symbol_of (lexeme source next)
    → ((ms : List Mark) → past parts columns (option_to_list (seen symbol previous next_symbol next) ++ ms) ≡ option_to_list told ++ past new_parts new_columns ms)
    → new_previous ≡ next → new_symbol ≡ next_symbol → told ≡ None → Counted source tokens others (i + 1) new_previous new_symbol new_parts new_columns
counted_more source tokens others i previous symbol parts columns d next next_symbol told new_previous new_symbol new_parts new_columns h below e is step same same_symbol none =
    let there = counted_step source tokens others i previous symbol parts columns d next next_symbol told new_parts new_columns h below e is step in
    let all = marks_after (lexeme source next) (drop (i + 1) (lexemes source others)) in
    record {
      same = there ∙ ap (λ (o : Option Token). option_to_list o ++ past new_parts new_columns all) none
          ∙ ap (λ (t : Token). past new_parts new_columns (marks_after (lexeme source t) (drop (i + 1) (lexemes source others)))) (sym same);
      symbol_is = same_symbol ∙ is ∙ ap (λ (t : Token). symbol_of (lexeme source t)) (sym same);
    }

-- one that is too many
pub counted_told : (source : List ℕ) (tokens others : List Token) (i : ℕ) (previous : Token) (symbol : Symbol) (parts columns : ℕ) (d next : Token) (next_symbol : Symbol)
    (told : Option Token) (t : Token) (new_parts new_columns : ℕ) → Counted source tokens others i previous symbol parts columns → i < length others → next ≡ get_or others i d
    → next_symbol ≡ symbol_of (lexeme source next)
    → ((ms : List Mark) → past parts columns (option_to_list (seen symbol previous next_symbol next) ++ ms) ≡ option_to_list told ++ past new_parts new_columns ms)
    → told ≡ Some t → first_symbol (lexemes source tokens) ≢ Some Insert → (s : Stated) → IsStatement 64 (lexemes source tokens) s → Some t ≡ slice_get (past_limits_of s) 0
counted_told source tokens others i previous symbol parts columns d next next_symbol told t new_parts new_columns h below e is step tells other s is_statement =
    let there = counted_step source tokens others i previous symbol parts columns d next next_symbol told new_parts new_columns h below e is step in
    let all = past new_parts new_columns (marks_after (lexeme source next) (drop (i + 1) (lexemes source others))) in
    let same : past_limits_of s ≡ t ∷ all =
    sym (marked (lexemes source tokens) s other is_statement) ∙ there ∙ ap (λ (o : Option Token). option_to_list o ++ all) tells in
    sym (ap (λ (us : List Token). slice_get us 0) same)

-- nothing is one too many where all was counted
pub counted_all : (source : List ℕ) (tokens others : List Token) (i : ℕ) (previous : Token) (symbol : Symbol) (parts columns : ℕ) → length others ≤ i
    → Counted source tokens others i previous symbol parts columns → first_symbol (lexemes source tokens) ≢ Some Insert
    → (s : Stated) → IsStatement 64 (lexemes source tokens) s → None ≡ slice_get (past_limits_of s) 0
counted_all source tokens others i previous symbol parts columns all h other s is =
    let ended : drop i (lexemes source others) ≡ [] = drop_all i (lexemes source others) (rw length-map all) in
    let none : past 8 64 (marks (lexemes source tokens)) ≡ [] = h.same ∙ ap (λ (ls : List Lexeme). past parts columns (marks_after (lexeme source previous) ls)) ended in
    let same : past_limits_of s ≡ [] = sym (marked (lexemes source tokens) s other is) ∙ none in
    sym (ap (λ (ts : List Token). slice_get ts 0) same)

-- a token after the first lies in the source
pub span_of : (source : List ℕ) (tokens others : List Token) (first : Token) (i : ℕ) (d : Token) → tokens ≡ first ∷ others → AreSpelled source tokens → i < length others
    → ((get_or others i d).from ≤ (get_or others i d).to) × ((get_or others i d).to ≤ length source)
span_of source tokens others first i d e spelled below =
    let P : Token → Type 0 = λ t. (t.from < t.to) × (t.to ≤ length source) × IsSpelling t.kind (text_of source t) in
    let at = All-get_or P others i d below (spelled_rest source tokens others first e spelled) in
    let a = at.0 in
    (omega arith, at.1)

-- the first symbol of the tokens
pub first_of : (source : List ℕ) (tokens others : List Token) (first : Token) (s : Symbol) → tokens ≡ first ∷ others → s ≡ symbol_of (lexeme source first)
    → first_symbol (lexemes source tokens) ≡ Some s
first_of source tokens others first s e is = ap (λ (ts : List Token). first_symbol (lexemes source ts)) e ∙ ap Some (sym is)

-- an INSERT has nothing that is one too many
pub insert_told : (ls : List Lexeme) (s : Stated) → first_symbol ls ≡ Some Insert → IsStatement 64 ls s → None ≡ slice_get (past_limits_of s) 0
insert_told ls (selects s) first is = absurd (select_no_insert ls s is first)
insert_told ls (inserts i) first is = refl
insert_told ls (deletes s) first is = absurd (delete_no_insert ls s is first)
