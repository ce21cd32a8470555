-- Where none of its tokens is INSERT or DELETE, no statement of a script changes the table.
use Rattle.std.proofs.Common.{◌≡◌, ◌∙◌, ◌⊎◌, ◌↔◌, ◌<◌, ◌≤◌, ◌+◌, ◌||◌, ◌++◌, ◌∷◌, [], inl, inr, ℕ, Bool, true, false, cond, if◌then◌else◌, IsTrue, List, length, get_or, take, slice_index_or, take_all, codes, subst, sym, ap, refl}
use Rattle.std.proofs.lemmas.Bool.{true≢false}
use Rattle.std.proofs.lemmas.List.Elements.{All-drop, All-head, All-more, All-same, All-take}
use Rattle.std.specs.List.{All, Any, filter, list_any}
use Rattle.ub_lexer.specs.Tokens.{AreTokens, text_of}
use Rattle.ub_lexer.specs.declared.token.Token.{Token}
use Rattle.ub_lexer.specs.declared.token.TokenKind.{TokenKind}
use Rattle.ub_lexer.specs.declared.token.TokenKind.TheVariants.{Word}
use Rattle.ub_parser.specs.Outcome.{Command, command_of}
use Rattle.ub_script.specs.Script.{IsChange, IsChangeWord, OnlyAsks}
use Rattle.ub_syntax.specs.Grammar.{IsStatement, Lexeme, lexemes, symbol_of}
use Rattle.ub_syntax.specs.Symbols.{keywords, symbol, symbol_among}
use Rattle.ub_syntax.specs.Tree.{Stated, selects, inserts, deletes}
use Rattle.ub_syntax.specs.declared.symbol.Symbol.{Symbol}
use Rattle.ub_syntax.specs.declared.symbol.Symbol.TheVariants.{Delete, Insert, Name}
use Rattle.ub_table.specs.Name.{is_word}
use Rattle.ub_table.specs.declared.schema.Schema.{Schema}

-- the symbol is one with which a statement begins that changes the table
abbrev changes : Symbol → Bool
changes Insert = true
changes Delete = true
changes _ = false

module _ {X : Type 0} (p : X → Bool) (test : Symbol → Bool) where
  kept_step : (b t : Bool) (x : X) (rest : List X) (first later : Symbol) → p x ≡ b → test first ≡ t → test (if b then first else later) ≡ true
      → (test later ≡ true → list_any p rest ≡ true) → list_any p (cond t (x ∷ rest) rest) ≡ true
  kept_step true true x rest first later e h is more = rw e refl
  kept_step true false x rest first later e h is more = cc
  kept_step false true x rest first later e h is more = rw e (more is)
  kept_step false false x rest first later e h is more = more is

-- a text whose symbol passes a test is one of the words whose symbol does
among_kept : (test : Symbol → Bool) (words : List (List ℕ × Symbol)) (text : List ℕ) → test Name ≡ false → test (symbol_among words text) ≡ true
    → list_any (λ w. is_word w.0 text) (filter (λ w. test w.1) words) ≡ true
among_kept test [] text none is = cc
among_kept test (w ∷ words) text none is =
    kept_step (λ (v : List ℕ × Symbol). is_word v.0 text) test (is_word w.0 text) (test w.1) w (filter (λ v. test v.1) words) w.1 (symbol_among words text) refl refl is
    (among_kept test words text none)

one_of : (a b : Bool) → (a || (b || false)) ≡ true → IsTrue a ⊎ IsTrue b
one_of true b h = inl refl
one_of false true h = inr refl
one_of false false h = cc

change_word : (text : List ℕ) → changes (symbol_among keywords text) ≡ true → IsTrue (is_word (codes "INSERT") text) ⊎ IsTrue (is_word (codes "DELETE") text)
unfolding keywords
change_word text is = one_of (is_word (codes "INSERT") text) (is_word (codes "DELETE") text) (among_kept changes keywords text refl is)

change_token : (kind : TokenKind) (text : List ℕ) → changes (symbol kind text) ≡ true
    → (kind ≡ Word) × (IsTrue (is_word (codes "INSERT") text) ⊎ IsTrue (is_word (codes "DELETE") text))
change_token Word text is = (refl, change_word text is)
change_token _ text is = cc

-- tokens of which none is such a word don't begin with such a symbol
begins_with_none : (source : List ℕ) (tokens : List Token) (l : Lexeme) (rest : List Lexeme) → lexemes source tokens ≡ l ∷ rest → changes (symbol_of l) ≡ true
    → ¬ (All (λ t. ¬ IsChangeWord source t) tokens)
begins_with_none source [] l rest e is none = cc
begins_with_none source (t ∷ ts) l rest e is none =
    let first : Lexeme = record { token = t; text = text_of source t } in
    let same : first ≡ l = cc in
    All-head (λ u. ¬ IsChangeWord source u) t ts none
    (change_token t.kind (text_of source t) (subst (λ (x : Lexeme). changes (symbol_of x) ≡ true) (sym same) is))

says_no_change : (source : List ℕ) (schema : Schema) (tokens : List Token) (s : Stated) (c : Command) → IsStatement 64 (lexemes source tokens) s
    → c ≡ command_of source schema s → All (λ t. ¬ IsChangeWord source t) tokens → ¬ (IsChange c)
says_no_change source schema tokens (selects s) c is says none change = subst IsChange says change
says_no_change source schema tokens (inserts i) c is says none change =
    let (l, one, symbol_is) = is.insert_is in
    begins_with_none source tokens l _ (is.parts ∙ ap (λ (ls : List Lexeme). ls ++ (is.into ++ (is.name ++ (is.word ++ (is.left ++ (is.values ++ is.close)))))) one)
    (ap changes symbol_is) none
says_no_change source schema tokens (deletes s) c is says none change =
    let (l, one, symbol_is, token_is) = is.delete_is in
    begins_with_none source tokens l _ (is.parts ∙ ap (λ (ls : List Lexeme). ls ++ (is.from ++ (is.name ++ is.filter))) one) (ap changes symbol_is) none

pub only_asks : (script : List ℕ) (tokens : List Token) → ((ts : List Token) → AreTokens script ts → tokens ≡ ts)
    → All (λ t. ¬ IsChangeWord script t) tokens → (schema : Schema) → OnlyAsks schema script
only_asks script tokens only none schema ts ranges are statements k d below c accepted =
    let P : Token → Type 0 = λ t. ¬ IsChangeWord script t in
    let here = All-drop P (slice_index_or ranges k d).0 ts (subst (λ (us : List Token). All P us) (only ts are) none) in
    says_no_change script schema _ accepted.syntax c accepted.is accepted.says (All-take P _ _ here)

-- one of them is such a word, or none is
module _ {A : Type 0} (P : A → Type 0) where
  pub none_is : (b : Bool) (xs : List A) (i : ℕ) (d : A) → b ≡ false → (IsTrue b ↔ P (get_or xs i d)) → i < length xs
      → All (λ x. ¬ P x) (take i xs) → All (λ x. ¬ P x) (take (i + 1) xs)
  none_is b xs i d is test lt none = All-more (λ x. ¬ P x) xs i d lt none (λ p. true≢false (sym (test.1 p) ∙ is))

  pub none_of_all : (xs : List A) (i : ℕ) → length xs ≤ i → All (λ x. ¬ P x) (take i xs) → All (λ x. ¬ P x) xs
  none_of_all xs i le none = All-same (λ x. ¬ P x) xs (take i xs) (sym (take_all i xs le)) none

  -- so a test that tells either tells which
  pub found_if : (b : Bool) (xs : List A) → (b ≡ false → All (λ x. ¬ P x) xs) → Any P xs → IsTrue b
  found_if true xs none some = refl
  found_if false xs none (k, x, lt, at, p) = absurd (subst (λ (y : A). ¬ P y) at (none refl k x lt) p)
