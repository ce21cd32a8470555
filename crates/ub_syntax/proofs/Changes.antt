-- How an INSERT and a DELETE are read, and which of the three statements is read.
use Rattle.std.proofs.Common.{◌≡◌, ◌≢◌, ℕ, List, [], ◌∷◌, ◌++◌, Option, Some, refl, sym, ap, ◌∙◌}
use Rattle.std.proofs.lemmas.List.{append-nil}
use Rattle.ub_lexer.specs.declared.token.Token.{Token}
use Rattle.ub_syntax.specs.Grammar.{Lexeme, AreJoined, IsLiteral, IsValue, IsOptional, IsFilter, IsInsert, IsDelete, IsSelect, IsStatement}
use Rattle.ub_syntax.specs.Reading.{first_symbol, Reads, Advances}
use Rattle.ub_syntax.specs.Tree.{Shape, Select, rows_of, Stated, selects, inserts, deletes}
use Rattle.ub_syntax.specs.declared.symbol.Symbol.TheVariants as symbol
use Rattle.ub_syntax.specs.declared.syntax.Insertion.{Insertion}
use Rattle.ub_syntax.specs.declared.syntax.Literal.{Literal}
use Rattle.ub_syntax.specs.declared.syntax.Value.{Value}
use Rattle.ub_syntax.proofs.Parts.{first_is, is_of, advance_token, advance_is}
use Rattle.ub_syntax.proofs.Firsts.{select_no_insert, select_no_delete, delete_first, delete_no_insert, insert_first, insert_no_delete}

same_value : (t : Token) (v : Literal) (x : Value) → t ≡ x.first → v ≡ x.literal → ◌≡◌ {A = Value} (record { first = t; literal = v }) x
same_value t v x p q = rw (p, q) refl

-- a literal, of which the first token was looked at
pub value_reads : (old new : List Lexeme) (first : Token) (v : Literal) → ((l : Lexeme) (ls : List Lexeme) → old ≡ l ∷ ls → first ≡ l.token)
    → Reads IsLiteral [] old v new → Reads IsValue [] old (record { first = first; literal = v }) new
value_reads old new first v peek r used rest x e w end =
    let whole : old ≡ w.0 ∷ (w.1 ++ rest) = e ∙ ap (λ (k : List Lexeme). k ++ rest) w.2 in
    let s = r used rest x.literal e w.4 tt in
    (same_value first v x (peek w.0 (w.1 ++ rest) whole ∙ w.3) s.0, s.1)

same_insertion : (t c : Token) (vs : List Value) (i : Insertion) → t ≡ i.table → vs ≡ i.values → c ≡ i.close
    → ◌≡◌ {A = Insertion} (record { table = t; values = vs; close = c }) i
same_insertion t c vs i p q r = rw (p, q, r) refl

pub insert_reads : (old a b c d e f new : List Lexeme) (insert into table word left close : Token) (values : List Value)
    → Advances old insert a → Advances a into b → Advances b table c → Advances c word d → Advances d left e
    → Reads (AreJoined symbol.Comma IsValue) (symbol.Comma ∷ []) e values f → Advances f close new
    → (i : Insertion) → IsInsert old i → ◌≡◌ {A = Insertion} (record { table = table; values = values; close = close }) i
insert_reads old a b c d e f new insert into table word left close values A B C D E V F i is =
    let s1 = advance_is symbol.Insert is.insert _ old insert a A is.insert_is is.parts in
    let s2 = advance_is symbol.Into is.into _ a into b B is.into_is s1 in
    let s3 = advance_token symbol.Name is.name _ b i.table table c C is.name_is s2 in
    let s4 = advance_is symbol.Values is.word _ c word d D is.word_is s3.1 in
    let s5 = advance_is symbol.Open is.left (is.values ++ is.close) d left e E is.left_is s4 in
    let close_first = first_is symbol.Close is.close [] is.close (is_of symbol.Close is.close i.close is.close_is) (sym (append-nil is.close)) in
    let no_comma : first_symbol is.close ≢ Some symbol.Comma = λ k. cc in
    let s6 = V is.values is.close i.values s5 is.values_are (no_comma, tt) in
    let s7 = advance_token symbol.Close is.close [] f i.close close new F is.close_is (s6.1 ∙ sym (append-nil is.close)) in
    same_insertion table close values i s3.0 s6.0 s7.0

same_rows : (w v t u : Token) (c d : Option Shape) → w ≡ v → t ≡ u → c ≡ d → rows_of w t c ≡ rows_of v u d
same_rows w v t u c d p q r = rw (p, q, r) refl

pub delete_reads : (n : ℕ) (old a b c new : List Lexeme) (word from table : Token) (filter : Option Shape)
    → Advances old word a → Advances a from b → Advances b table c
    → Reads (IsOptional (IsFilter n)) (symbol.Where ∷ symbol.Or ∷ symbol.And ∷ []) c filter new
    → (s : Select) → IsDelete n old s → rows_of word table filter ≡ s
delete_reads n old a b c new word from table filter A B C F s is =
    let s1 = advance_token symbol.Delete is.delete _ old is.word word a A is.delete_is is.parts in
    let s2 = advance_is symbol.From is.from _ a from b B is.from_is s1.1 in
    let s3 = advance_token symbol.Name is.name is.filter b is.table table c C is.name_is s2 in
    let s4 = F is.filter [] is.condition (s3.1 ∙ sym (append-nil is.filter)) is.filter_is ((λ k. cc), ((λ k. cc), ((λ k. cc), tt))) in
    same_rows word is.word table is.table filter is.condition s1.0 s3.0 s4.0 ∙ sym is.rows

-- what is read where the statement begins so
pub insert_is_read : (old : List Lexeme) (i : Insertion) → first_symbol old ≡ Some symbol.Insert → ((j : Insertion) → IsInsert old j → i ≡ j)
    → (s : Stated) → IsStatement 64 old s → inserts i ≡ s
insert_is_read old i first same (selects s) is = absurd (select_no_insert old s is first)
insert_is_read old i first same (inserts j) is = ap inserts (same j is)
insert_is_read old i first same (deletes s) is = absurd (delete_no_insert old s is first)

pub delete_is_read : (old : List Lexeme) (r : Select) → first_symbol old ≡ Some symbol.Delete → ((s : Select) → IsDelete 64 old s → r ≡ s)
    → (s : Stated) → IsStatement 64 old s → deletes r ≡ s
delete_is_read old r first same (selects s) is = absurd (select_no_delete old s is first)
delete_is_read old r first same (inserts i) is = absurd (insert_no_delete old i is first)
delete_is_read old r first same (deletes s) is = ap deletes (same s is)

pub select_is_read : (old : List Lexeme) (r : Select) → first_symbol old ≢ Some symbol.Insert → first_symbol old ≢ Some symbol.Delete
    → ((s : Select) → IsSelect 64 old s → r ≡ s) → (s : Stated) → IsStatement 64 old s → selects r ≡ s
select_is_read old r a b same (selects s) is = ap selects (same s is)
select_is_read old r a b same (inserts i) is = absurd (a (insert_first old i is))
select_is_read old r a b same (deletes s) is = absurd (b (delete_first 64 old s is))
