-- Each part of a statement makes the marks of its lists and comparisons, and no others.
use Rattle.std.proofs.Common.{◌≡◌, ℕ, zero, suc, Bool, true, false, List, [], ◌∷◌, ◌++◌, map, drop, Option, Some, None, refl, sym, ap, ◌∙◌, inl, inr, append_assoc, subst}
use Rattle.std.proofs.lemmas.List.{append-nil}
use Rattle.std.specs.List.{fold}
use Rattle.ub_lexer.specs.declared.token.Token.{Token}
use Rattle.ub_syntax.specs.Grammar.{Lexeme, symbol_of, IsToken, Is, AreJoined, IsChain, IsOptional, IsLiteral, IsComparison, IsDisjunction, IsOperand, IsItem, IsSelection, IsKey, IsFilter, AreListedBy, IsLimit, IsExplain, IsSelect, IsDelete}
use Rattle.ub_syntax.specs.Limits.{first_token, listed, compared, comparisons, key_items}
use Rattle.ub_syntax.specs.Marks.{is_sign, mark_after, marks}
use Rattle.ub_syntax.specs.Tree.{Select, Shape, both, either, neither, compares, between}
use Rattle.ub_syntax.specs.declared.limits.Mark.{Mark}
use Rattle.ub_syntax.specs.declared.limits.Mark.TheVariants.{First, Next, Column}
use Rattle.ub_syntax.specs.declared.symbol.Symbol.{Symbol}
use Rattle.ub_syntax.specs.declared.symbol.Symbol.TheVariants as symbol
use Rattle.ub_syntax.specs.declared.syntax.Item.{Item}
use Rattle.ub_syntax.specs.declared.syntax.Item.TheVariants as item
use Rattle.ub_syntax.specs.declared.syntax.Literal.{Literal}
use Rattle.ub_syntax.specs.declared.syntax.OrderKey.{OrderKey}
use Rattle.ub_syntax.specs.declared.syntax.Selection.{Selection}
use Rattle.ub_syntax.specs.declared.syntax.Selection.TheVariants.{All as Star, Listed}
use Rattle.ub_syntax.proofs.Parts.{is_of}

-- the lexemes begin with the sign of a comparison
abbrev pub is_signed : List Lexeme → Bool
is_signed [] = false
is_signed (l ∷ ls) = is_sign (symbol_of l)

-- with whatever comes after them, that isn't a sign, the lexemes make these marks and then its; and they begin with no sign
pub record Makes (ls : List Lexeme) (ms : List Mark) : Type 0 where
  pub all : (rest : List Lexeme) → is_signed rest ≡ false → marks (ls ++ rest) ≡ ms ++ marks rest
  pub unsigned : (rest : List Lexeme) → is_signed rest ≡ false → is_signed (ls ++ rest) ≡ false

-- the lexemes begin with this token, which is no sign
pub record Heads (ls : List Lexeme) (t : Token) : Type 0 where
  pub head : Lexeme
  pub tail : List Lexeme
  pub is : ls ≡ head ∷ tail
  pub token : head.token ≡ t
  pub unsigned : is_sign (symbol_of head) ≡ false

pub nothing : Makes [] []
nothing = record { all = λ rest e. refl; unsigned = λ rest e. e }

pub go : {a b : List Lexeme} {xs ys : List Mark} → Makes a xs → Makes b ys → Makes (a ++ b) (xs ++ ys)
go {a} {b} {xs} {ys} h k = record {
  all = λ rest e.
      ap marks (append_assoc a b rest) ∙ h.all (b ++ rest) (k.unsigned rest e) ∙ ap (λ (ms : List Mark). xs ++ ms) (k.all rest e)
      ∙ sym (append_assoc xs ys (marks rest));
  unsigned = λ rest e. ap is_signed (append_assoc a b rest) ∙ h.unsigned (b ++ rest) (k.unsigned rest e);
}

-- the same lexemes
pub over : {a b : List Lexeme} {xs : List Mark} → a ≡ b → Makes b xs → Makes a xs
over {a} {b} {xs} e h = subst (λ (ls : List Lexeme). Makes ls xs) (sym e) h

-- the same marks
pub remark : {a : List Lexeme} {xs ys : List Mark} → xs ≡ ys → Makes a xs → Makes a ys
remark {a} {xs} {ys} e h = subst (λ (ms : List Mark). Makes a ms) e h

-- a lexeme that tells nothing of the next
plain_marks : (l : Lexeme) (rest : List Lexeme) → ((t : Token) → mark_after (symbol_of l) t ≡ None) → is_signed rest ≡ false → marks (l ∷ rest) ≡ marks rest
plain_marks l [] plain e = refl
plain_marks l (m ∷ rest) plain e = rw (e, plain m.token) refl

pub one : (s : Symbol) {ls : List Lexeme} → Is s ls → is_sign s ≡ false → ((t : Token) → mark_after s t ≡ None) → Makes ls []
one s {ls} is unsigned plain = record {
  all = λ rest e. ap (λ (xs : List Lexeme). marks (xs ++ rest)) is.1 ∙ plain_marks is.0 rest (λ t. ap (λ (x : Symbol). mark_after x t) is.2 ∙ plain t) e;
  unsigned = λ rest e. ap (λ (xs : List Lexeme). is_signed (xs ++ rest)) is.1 ∙ ap is_sign is.2 ∙ unsigned;
}

pub heads : (s : Symbol) (ls : List Lexeme) (t : Token) → IsToken s ls t → is_sign s ≡ false → Heads ls t
heads s ls t is unsigned = record { head = is.0; tail = []; is = is.1; token = is.3; unsigned = ap is_sign is.2 ∙ unsigned }

pub heads_more : {a : List Lexeme} (ls b : List Lexeme) {t : Token} → ls ≡ a ++ b → Heads a t → Heads ls t
heads_more ls b e h = record {
  head = h.head;
  tail = h.tail ++ b;
  is = e ∙ ap (λ (xs : List Lexeme). xs ++ b) h.is;
  token = h.token;
  unsigned = h.unsigned;
}

-- a symbol that tells of the token after it
marks_before : (w l : Lexeme) (rest : List Lexeme) (m : Mark) → mark_after (symbol_of w) l.token ≡ Some m → is_sign (symbol_of l) ≡ false
    → marks (w ∷ l ∷ rest) ≡ m ∷ marks (l ∷ rest)
marks_before w l rest m tells unsigned = rw (unsigned, tells) refl

pub before : (s : Symbol) {word ls : List Lexeme} {t : Token} {xs : List Mark} (m : Mark) → Is s word → is_sign s ≡ false → mark_after s t ≡ Some m
    → Heads ls t → Makes ls xs → Makes (word ++ ls) (m ∷ xs)
before s {word} {ls} {t} {xs} m is unsigned tells h k = record {
  all = λ rest e.
      let whole : (word ++ ls) ++ rest ≡ is.0 ∷ h.head ∷ (h.tail ++ rest) = rw (is.1, h.is) refl in
      let those : ls ++ rest ≡ h.head ∷ (h.tail ++ rest) = ap (λ (ys : List Lexeme). ys ++ rest) h.is in
      let told : mark_after (symbol_of is.0) h.head.token ≡ Some m = rw (is.2, h.token) tells in
      ap marks whole ∙ marks_before is.0 h.head (h.tail ++ rest) m told h.unsigned
      ∙ ap (λ (ys : List Lexeme). m ∷ marks ys) (sym those) ∙ ap (λ (ms : List Mark). m ∷ ms) (k.all rest e);
  unsigned = λ rest e. ap (λ (ys : List Lexeme). is_signed ((ys ++ ls) ++ rest)) is.1 ∙ ap is_sign is.2 ∙ unsigned;
}

-- parts with commas between them
pub joined_list : {A : Type 0} (P : List Lexeme → A → Type 0) (head : A → Token) → ((ls : List Lexeme) (x : A) → P ls x → Makes ls [] × Heads ls (head x))
    → (ls : List Lexeme) (x : A) (xs : List A) → AreJoined symbol.Comma P ls (x ∷ xs) → Makes ls (map Next (map head xs)) × Heads ls (head x)
joined_list P head part ls x [] is = part ls x is
joined_list P head part ls x (y ∷ xs) is =
    let first = part is.0 x is.4 in
    let others = joined_list P head part is.2 y xs is.6 in
    (over is.3 (go first.0 (before symbol.Comma (Next (head y)) is.5 refl refl others.1 others.0)), heads_more ls (is.1 ++ is.2) is.3 first.1)

-- the marks of things in a list
abbrev pub all_marks : {A : Type 0} → (A → List Mark) → List A → List Mark
all_marks f [] = []
all_marks f (x ∷ xs) = f x ++ all_marks f xs

-- parts with a symbol between each two that tells nothing
pub joined_parts : {A : Type 0} (s : Symbol) → is_sign s ≡ false → ((t : Token) → mark_after s t ≡ None) → (P : List Lexeme → A → Type 0) (f : A → List Mark)
    → ((ls : List Lexeme) (x : A) → P ls x → Makes ls (f x)) → (ls : List Lexeme) (xs : List A) → AreJoined s P ls xs → Makes ls (all_marks f xs)
joined_parts s unsigned plain P f part ls [] is = absurd is
joined_parts s unsigned plain P f part ls (x ∷ []) is = remark (sym (append-nil (f x))) (part ls x is)
joined_parts s unsigned plain P f part ls (x ∷ y ∷ xs) is =
    over is.3 (go (part is.0 x is.4) (go (one s is.5 unsigned plain) (joined_parts s unsigned plain P f part is.2 (y ∷ xs) is.6)))

-- the marks of a condition
abbrev pub columns : Shape → List Mark
columns c = map Column (compared c)

columns_append : (xs ys : List Token) → map Column (xs ++ ys) ≡ map Column xs ++ map Column ys
columns_append [] ys = refl
columns_append (x ∷ xs) ys = ap (λ (ms : List Mark). Column x ∷ ms) (columns_append xs ys)

fold_columns : (group : Shape → Shape → Shape) → ((a b : Shape) → columns (group a b) ≡ columns a ++ columns b) → (first : Shape) (others : List Shape)
    → columns first ++ all_marks columns others ≡ columns (fold group first others)
fold_columns group each first [] = append-nil (columns first)
fold_columns group each first (x ∷ xs) =
    sym (append_assoc (columns first) (columns x) (all_marks columns xs)) ∙ ap (λ (ms : List Mark). ms ++ all_marks columns xs) (sym (each first x))
    ∙ fold_columns group each (group first x) xs

chain_makes : (s : Symbol) → is_sign s ≡ false → ((t : Token) → mark_after s t ≡ None) → (group : Shape → Shape → Shape) → ((a b : Shape) → columns (group a b) ≡ columns a ++ columns b)
    → (P : List Lexeme → Shape → Type 0) → ((ls : List Lexeme) (c : Shape) → P ls c → Makes ls (columns c)) → (ls : List Lexeme) (c : Shape) → IsChain s group P ls c
    → Makes ls (columns c)
chain_makes s unsigned plain group each P part ls c is =
    remark (fold_columns group each is.0 is.1 ∙ ap columns (sym is.3)) (joined_parts s unsigned plain P columns part ls (is.0 ∷ is.1) is.2)

disjunction_makes : (P : List Lexeme → Shape → Type 0) → ((ls : List Lexeme) (c : Shape) → P ls c → Makes ls (columns c)) → (ls : List Lexeme) (c : Shape)
    → IsDisjunction P ls c → Makes ls (columns c)
disjunction_makes P part ls c is =
    chain_makes symbol.Or refl (λ t. refl) either (λ a b. columns_append (compared a) (compared b)) (IsChain symbol.And both P)
    (chain_makes symbol.And refl (λ t. refl) both (λ a b. columns_append (compared a) (compared b)) P part) ls c is

literal_makes : (ls : List Lexeme) (v : Literal) → IsLiteral ls v → Makes ls []
literal_makes ls v (inl is) = one symbol.Number (is_of symbol.Number ls v.digits is.1) refl (λ t. refl)
literal_makes ls v (inr is) =
    over is.3 (go (one symbol.Minus is.4 refl (λ t. refl)) (one symbol.Number (is_of symbol.Number is.2 v.digits is.5) refl (λ t. refl)))

marks_signed : (n l : Lexeme) (rest : List Lexeme) → is_sign (symbol_of l) ≡ true → marks (n ∷ l ∷ rest) ≡ Column n.token ∷ marks (l ∷ rest)
marks_signed n l rest signed = rw signed refl

-- a column, a sign and what is compared with it
column_makes : (s : Symbol) (name sign ls : List Lexeme) (column : Token) → IsToken symbol.Name name column → Is s sign → is_sign s ≡ true
    → ((t : Token) → mark_after s t ≡ None) → Makes ls [] → Makes (name ++ (sign ++ ls)) (Column column ∷ [])
column_makes s name sign ls column is sign_is signed plain k = record {
  all = λ rest e.
      let whole : (name ++ (sign ++ ls)) ++ rest ≡ is.0 ∷ sign_is.0 ∷ (ls ++ rest) = rw (is.1, sign_is.1) refl in
      let first = marks_signed is.0 sign_is.0 (ls ++ rest) (ap is_sign sign_is.2 ∙ signed) in
      let others = plain_marks sign_is.0 (ls ++ rest) (λ t. ap (λ (x : Symbol). mark_after x t) sign_is.2 ∙ plain t) (k.unsigned rest e) in
      ap marks whole ∙ first ∙ ap (λ (ms : List Mark). Column is.0.token ∷ ms) (others ∙ k.all rest e) ∙ ap (λ (t : Token). Column t ∷ marks rest) is.3;
  unsigned = λ rest e. ap (λ (ys : List Lexeme). is_signed ((ys ++ (sign ++ ls)) ++ rest)) is.1 ∙ ap is_sign is.2;
}

comparison_makes : (ls : List Lexeme) (c : Shape) → IsComparison ls c → Makes ls (columns c)
comparison_makes ls (compares column operator value) is =
    over is.3 (column_makes (symbol.Operator operator) is.0 is.1 is.2 column is.4 is.5 refl (λ t. refl) (literal_makes is.2 value is.6))
comparison_makes ls (between column low high) is =
    let high_makes = go (one symbol.And is.9 refl (λ t. refl)) (literal_makes is.4 high is.10) in
    over is.5 (column_makes symbol.Between is.0 is.1 (is.2 ++ (is.3 ++ is.4)) column is.6 is.7 refl (λ t. refl) (go (literal_makes is.2 low is.8) high_makes))
comparison_makes ls (both a b) is = absurd is
comparison_makes ls (either a b) is = absurd is
comparison_makes ls (neither a) is = absurd is

operand_makes : (n : ℕ) (ls : List Lexeme) (c : Shape) → IsOperand n ls c → Makes ls (columns c)
operand_makes zero ls c is = comparison_makes ls c is
operand_makes (suc n) ls c (inl is) = comparison_makes ls c is
operand_makes (suc n) ls c (inr (inl is)) =
    remark (ap columns (sym is.6)) (over is.3 (go (one symbol.Not is.4 refl (λ t. refl)) (operand_makes n is.1 is.2 is.5)))
operand_makes (suc n) ls c (inr (inr is)) =
    let inner = disjunction_makes (IsOperand n) (operand_makes n) is.1 c is.5 in
    remark (append-nil (columns c)) (over is.3 (go (one symbol.Open is.4 refl (λ t. refl)) (go inner (one symbol.Close is.6 refl (λ t. refl)))))

item_makes : (ls : List Lexeme) (x : Item) → IsItem ls x → Makes ls [] × Heads ls (first_token x)
item_makes ls (item.Column name) is = (one symbol.Name (is_of symbol.Name ls name is) refl (λ t. refl), heads symbol.Name ls name is refl)
item_makes ls (item.Count first) is =
    let rest = go (one symbol.Open is.6 refl (λ t. refl)) (go (one symbol.Star is.7 refl (λ t. refl)) (one symbol.Close is.8 refl (λ t. refl))) in (
      over is.4 (go (one symbol.Count (is_of symbol.Count is.0 first is.5) refl (λ t. refl)) rest),
      heads_more ls (is.1 ++ (is.2 ++ is.3)) is.4 (heads symbol.Count is.0 first is.5 refl),
    )
item_makes ls (item.Aggregate aggregate first name) is =
    let column = one symbol.Name (is_of symbol.Name is.2 name is.7) refl (λ t. refl) in
    let rest = go (one symbol.Open is.6 refl (λ t. refl)) (go column (one symbol.Close is.8 refl (λ t. refl))) in (
      over is.4 (go (one (symbol.Aggregate aggregate) (is_of (symbol.Aggregate aggregate) is.0 first is.5) refl (λ t. refl)) rest),
      heads_more ls (is.1 ++ (is.2 ++ is.3)) is.4 (heads (symbol.Aggregate aggregate) is.0 first is.5 refl),
    )

selection_makes : (ls : List Lexeme) (s : Selection) → IsSelection ls s → (t : Token) × Heads ls t × Makes ls (map Next (drop 1 (map first_token (listed s))))
selection_makes ls (Star star) is = (star, heads symbol.Star ls star is refl, one symbol.Star (is_of symbol.Star ls star is) refl (λ t. refl))
selection_makes ls (Listed []) is = absurd is
selection_makes ls (Listed (x ∷ xs)) is = let h = joined_list IsItem first_token item_makes ls x xs is in (first_token x, h.1, h.0)

name_makes : (ls : List Lexeme) (name : Token) → IsToken symbol.Name ls name → Makes ls [] × Heads ls name
name_makes ls name is = (one symbol.Name (is_of symbol.Name ls name is) refl (λ t. refl), heads symbol.Name ls name is refl)

key_makes : (ls : List Lexeme) (key : OrderKey) → IsKey ls key → Makes ls [] × Heads ls (first_token key.item)
key_makes ls key is =
    let h = item_makes is.0 key.item is.3 in
    let m : Makes is.1 [] = elim is.4 [
      | inl (no_is, inl none) ↦ over none nothing
      | inl (no_is, inr word) ↦ one symbol.Ascending word refl (λ t. refl)
      | inr (yes_is, word) ↦ one symbol.Descending word refl (λ t. refl)
    ] in
    (over is.2 (go h.0 m), heads_more ls is.1 is.2 h.1)

-- the marks of a list, of which these are the first tokens
abbrev pub list_marks : List Token → List Mark
list_marks [] = []
list_marks (t ∷ ts) = First ∷ map Next ts

filter_makes : (n : ℕ) (ls : List Lexeme) (f : Option Shape) → IsOptional (IsFilter n) ls f → Makes ls (map Column (comparisons f))
filter_makes n ls None is = over is nothing
filter_makes n ls (Some c) is = over is.2 (go (one symbol.Where is.3 refl (λ t. refl)) (disjunction_makes (IsOperand n) (operand_makes n) is.1 c is.4))

by_makes : (w : Symbol) (word by list : List Lexeme) (t : Token) (ms : List Mark) → is_sign w ≡ false → ((t : Token) → mark_after w t ≡ None) → Is w word
    → Is symbol.By by → Heads list t → Makes list ms → Makes (word ++ (by ++ list)) (First ∷ ms)
by_makes w word by list t ms unsigned plain is by_is h k = go (one w is unsigned plain) (before symbol.By First by_is refl refl h k)

identity_map : (ts : List Token) → map (λ t. t) ts ≡ ts
identity_map [] = refl
identity_map (t ∷ ts) = ap (λ (us : List Token). t ∷ us) (identity_map ts)

group_makes : (ls : List Lexeme) (names : List Token) → AreListedBy symbol.Group (IsToken symbol.Name) ls names → Makes ls (list_marks names)
group_makes ls [] is = over is nothing
group_makes ls (name ∷ names) is =
    let h = joined_list (IsToken symbol.Name) (λ t. t) name_makes is.2 name names is.6 in
    over is.3 (by_makes symbol.Group is.0 is.1 is.2 name (map Next names) refl (λ t. refl) is.4 is.5 h.1 (remark (ap (map Next) (identity_map names)) h.0))

keys_firsts : (keys : List OrderKey) → map (λ key. first_token key.item) keys ≡ map first_token (key_items keys)
keys_firsts [] = refl
keys_firsts (key ∷ keys) = ap (λ (ts : List Token). first_token key.item ∷ ts) (keys_firsts keys)

order_makes : (ls : List Lexeme) (keys : List OrderKey) → AreListedBy symbol.Order IsKey ls keys → Makes ls (list_marks (map first_token (key_items keys)))
order_makes ls [] is = over is nothing
order_makes ls (key ∷ keys) is =
    let h = joined_list IsKey (λ k. first_token k.item) key_makes is.2 key keys is.6 in
    over is.3 (by_makes symbol.Order is.0 is.1 is.2 (first_token key.item) (map Next (map first_token (key_items keys))) refl (λ t. refl) is.4 is.5 h.1
    (remark (ap (map Next) (keys_firsts keys)) h.0))

limit_makes : (ls : List Lexeme) (limit : Option Token) → IsOptional IsLimit ls limit → Makes ls []
limit_makes ls None is = over is nothing
limit_makes ls (Some number) is =
    over is.2 (go (one symbol.Limit is.3 refl (λ t. refl)) (one symbol.Number (is_of symbol.Number is.1 number is.4) refl (λ t. refl)))

explain_makes : (ls : List Lexeme) (b : Bool) → IsExplain ls b → Makes ls []
explain_makes ls b (inl is) = over is.1 nothing
explain_makes ls b (inr is) = one symbol.Explain is.1 refl (λ t. refl)

-- the marks of a SELECT
abbrev pub statement_marks : Select → List Mark
statement_marks s =
    First ∷ (map Next (drop 1 (map first_token (listed s.selection))) ++ (map Column (comparisons s.filter)
    ++ (list_marks s.group ++ list_marks (map first_token (key_items s.order)))))

pub statement_makes : (n : ℕ) (ls : List Lexeme) (s : Select) → IsSelect n ls s → Makes ls (statement_marks s)
statement_makes n ls s is =
    let selection = selection_makes is.items s.selection is.items_are in
    let begin = before symbol.Select First is.select_is refl refl selection.1 selection.2 in
    let order = go (order_makes is.order s.order is.order_is) (limit_makes is.limit s.limit is.limit_is) in
    let group = go (group_makes is.group s.group is.group_is) (remark (append-nil (list_marks (map first_token (key_items s.order)))) order) in
    let filter = go (filter_makes n is.filter s.filter is.filter_is) group in
    let table = go (one symbol.From is.from_is refl (λ t. refl)) (go (name_makes is.name s.table is.name_is).0 filter) in
    let both = go begin table in
    let tail = is.from ++ (is.name ++ (is.filter ++ (is.group ++ (is.order ++ is.limit)))) in
    over is.parts (go (explain_makes is.explain s.is_explained is.explain_is) (over (sym (append_assoc is.select is.items tail)) both))

-- of the whole of a SELECT
pub marks_of : (n : ℕ) (ls : List Lexeme) (s : Select) → IsSelect n ls s → marks ls ≡ statement_marks s
marks_of n ls s is = ap marks (sym (append-nil ls)) ∙ (statement_makes n ls s is).all [] refl ∙ append-nil (statement_marks s)

delete_makes : (n : ℕ) (ls : List Lexeme) (s : Select) (is : IsDelete n ls s) → Makes ls (map Column (comparisons is.condition))
delete_makes n ls s is =
    let table = go (one symbol.From is.from_is refl (λ t. refl)) (go (name_makes is.name is.table is.name_is).0 (filter_makes n is.filter is.condition is.filter_is)) in
    over is.parts (go (one symbol.Delete (is_of symbol.Delete is.delete is.word is.delete_is) refl (λ t. refl)) table)

-- of the whole of a DELETE
pub marks_of_delete : (n : ℕ) (ls : List Lexeme) (s : Select) → IsDelete n ls s → marks ls ≡ map Column (comparisons s.filter)
marks_of_delete n ls s is =
    ap marks (sym (append-nil ls)) ∙ (delete_makes n ls s is).all [] refl ∙ append-nil (map Column (comparisons is.condition))
    ∙ ap (λ (r : Select). map Column (comparisons r.filter)) (sym is.rows)
