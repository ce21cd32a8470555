-- Rows of pieces that grow at their end.
use Rattle.std.proofs.Common.{◌≡◌, ◌≤◌, ◌+◌, ℕ, suc, List, [], ◌∷◌, ◌++◌, length, drop, Option, Some, refl, sym, ap, arith, ◌∙◌, subst, append_assoc}
use Rattle.std.specs.List.{flat_map}
use Rattle.std.proofs.lemmas.List.{append-nil, length-append, flat_map_more, drop_all}
use Rattle.std.proofs.lemmas.List.Folds.{drop_split}
use Rattle.ub_lexer.specs.Tokens.{Piece, separator, comment, token, spelled, StandsBefore, AreInRow, tokens_from, AreTokens}
use Rattle.ub_lexer.specs.Pieces.{IsPieceAt, kind_of, token_if}
use Rattle.ub_lexer.specs.declared.token.TokenKind.{TokenKind}
use Rattle.ub_lexer.specs.declared.token.Token.{Token}

-- each piece can stand before what follows it, with these bytes behind the last
abbrev pub AreInRowBefore : List Piece → List ℕ → Type 0
AreInRowBefore [] rest = Unit {0}
AreInRowBefore (p ∷ ps) rest = StandsBefore p (flat_map spelled ps ++ rest) × AreInRowBefore ps rest

-- the source is a row of pieces up to a place, and these are their tokens
pub record IsCutUpTo (source : List ℕ) (at : ℕ) (tokens : List Token) : Type 0 where
  pub pieces : List Piece
  pub text : source ≡ flat_map spelled pieces ++ drop at source
  pub place : length (flat_map spelled pieces) ≡ at
  pub within : at ≤ length source
  pub row : AreInRowBefore pieces (drop at source)
  pub are : tokens ≡ tokens_from 0 pieces

spelled_more : (ps : List Piece) (p : Piece) → flat_map spelled ps ++ spelled p ≡ flat_map spelled (ps ++ p ∷ [])
spelled_more ps p = flat_map_more spelled [] ps p

spelled_before : (ps : List Piece) (p : Piece) (rest : List ℕ) → flat_map spelled ps ++ (spelled p ++ rest) ≡ flat_map spelled (ps ++ p ∷ []) ++ rest
spelled_before ps p rest = sym (append_assoc (flat_map spelled ps) (spelled p) rest) ∙ ap (λ (xs : List ℕ). xs ++ rest) (spelled_more ps p)

row_more : (ps : List Piece) (p : Piece) (rest : List ℕ) → AreInRowBefore ps (spelled p ++ rest) → StandsBefore p rest → AreInRowBefore (ps ++ p ∷ []) rest
row_more [] p rest h s = (s, tt)
row_more (q ∷ ps) p rest h s = (subst (StandsBefore q) (spelled_before ps p rest) h.0, row_more ps p rest h.1 s)

same_if : (kind : Option TokenKind) (a b c d : ℕ) → a ≡ c → b ≡ d → token_if kind a b ≡ token_if kind c d
same_if kind a b c d e f = cc

tokens_more : (ps : List Piece) (p : Piece) (at from to : ℕ) → at + length (flat_map spelled ps) ≡ from → from + length (spelled p) ≡ to
    → tokens_from at (ps ++ p ∷ []) ≡ tokens_from at ps ++ token_if (kind_of p) from to
tokens_more [] (separator c) at from to e f = refl
tokens_more [] (comment body) at from to e f = refl
tokens_more [] (token kind text) at from to e f = same_if (Some kind) at (at + length text) from to (omega arith) (omega arith)
tokens_more (separator c ∷ ps) p at from to e f = tokens_more ps p (at + 1) from to (omega arith) f
tokens_more (comment body ∷ ps) p at from to e f = tokens_more ps p (at + suc (suc (length body))) from to (omega (arith, length-append body (flat_map spelled ps))) f
tokens_more (token kind text ∷ ps) p at from to e f =
    ap (λ (ts : List Token). record { kind = kind; from = at; to = at + length text } ∷ ts)
    (tokens_more ps p (at + length text) from to (omega (arith, length-append text (flat_map spelled ps))) f)

-- nothing is cut yet
pub cut_none : (source : List ℕ) → IsCutUpTo source 0 []
cut_none source = record { pieces = []; text = refl; place = refl; within = omega arith; row = tt; are = refl }

-- one more piece
pub cut_more : (source : List ℕ) (tokens : List Token) (at to : ℕ) (kind : Option TokenKind)
    → IsCutUpTo source at tokens → IsPieceAt source at kind to → IsCutUpTo source to (tokens ++ token_if kind at to)
cut_more source tokens at to kind cut piece =
    let (p, is, place, of_kind, within, stands) = piece in
    let ps = cut.pieces in
    let rest : drop at source ≡ spelled p ++ drop to source = drop_split source at to (omega arith) ∙ ap (λ (xs : List ℕ). xs ++ drop to source) (sym is) in
    let long : length (flat_map spelled (ps ++ p ∷ [])) ≡ length (flat_map spelled ps) + length (spelled p) =
    ap length (sym (spelled_more ps p)) ∙ length-append (flat_map spelled ps) (spelled p) in
    let before = cut.place in
    record {
      pieces = ps ++ p ∷ [];
      text = cut.text ∙ ap (λ (xs : List ℕ). flat_map spelled ps ++ xs) rest ∙ spelled_before ps p (drop to source);
      place = omega arith;
      within = within;
      row = row_more ps p (drop to source) (subst (AreInRowBefore ps) rest cut.row) stands;
      are = ap (λ (ts : List Token). ts ++ token_if kind at to) cut.are ∙ ap (λ (k : Option TokenKind). tokens_from 0 ps ++ token_if k at to) (sym of_kind)
          ∙ sym (tokens_more ps p 0 at to (omega arith) place);
    }

row_at_end : (ps : List Piece) → AreInRowBefore ps [] → AreInRow ps
row_at_end [] h = tt
row_at_end (p ∷ ps) h = (subst (StandsBefore p) (append-nil (flat_map spelled ps)) h.0, row_at_end ps h.1)

-- all is cut
pub cut_all : (source : List ℕ) (tokens : List Token) (at : ℕ) → IsCutUpTo source at tokens → length source ≤ at → AreTokens source tokens
cut_all source tokens at cut past =
    let rest = drop_all at source past in (
      cut.pieces,
      cut.text ∙ ap (λ (xs : List ℕ). flat_map spelled cut.pieces ++ xs) rest ∙ append-nil (flat_map spelled cut.pieces),
      row_at_end cut.pieces (subst (AreInRowBefore cut.pieces) rest cut.row),
      cut.are,
    )
