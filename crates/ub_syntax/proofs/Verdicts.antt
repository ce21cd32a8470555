-- What the machine's answers tell of the lexemes.
use Rattle.std.proofs.Common.{◌≡◌, ℕ, suc, ◌+◌, ◌-◌, ◌<◌, ◌≤◌, true, false, List, [], ◌∷◌, ◌++◌, length, take, drop, get_or, Some, Result, Ok, Err, refl, sym, ap, ◌∙◌, inl, inr, arith, subst, add-one, append_assoc}
use Rattle.std.proofs.Math.Seq.{take-suc}
use Rattle.std.proofs.Math.Nat.{add_comm}
use Rattle.std.proofs.lemmas.List.{append-nil, take-append-drop, take_all}
use Rattle.std.proofs.lemmas.List.{length-map}
use Rattle.std.proofs.lemmas.Option.{slice_get_within, get_or_from_slice_get, slice_get-map, slice_get-get_or}
use Rattle.std.specs.List.{slice_get}
use Rattle.std.specs.Option.{option_map}
use Rattle.ub_lexer.specs.Tokens.{text_of}
use Rattle.ub_lexer.specs.declared.token.Token.{Token}
use Rattle.ub_syntax.specs.Symbols as of
use Rattle.ub_syntax.specs.declared.symbol.Symbol.{Symbol}
use Rattle.ub_syntax.specs.Tree.{Stated}
use Rattle.ub_syntax.specs.Grammar.{Lexeme, lexemes, symbol_of, IsStatement}
use Rattle.ub_syntax.specs.Stop.{Begins, IsStop, IsTooDeep}
use Rattle.ub_syntax.specs.Verdicts.{IsVerdict, refused_at}
use Rattle.ub_syntax.specs.Machine.{Config, config, and_then, if_ok, step, reads, start, can_end}
use Rattle.ub_syntax.specs.declared.machine.Refusal.{Refusal}
use Rattle.ub_syntax.specs.declared.machine.Refusal.TheVariants.{Syntax, TooDeep}
use Rattle.ub_syntax.specs.declared.recogniser.Verdict.TheVariants as verdict
use Rattle.ub_syntax.proofs.Moves.{reads-append}
use Rattle.ub_syntax.proofs.StatementDrives.{statement_moves}
use Rattle.ub_syntax.proofs.StatementSound.{accepted}
use Rattle.ub_syntax.proofs.Completions.{begins}
use Rattle.ub_syntax.proofs.Depths.{raised, step_raise, reads_raise, step_deep, first_ok}

-- the machine read so many of the lexemes
abbrev pub Ran : ℕ → List Lexeme → ℕ → Config → Type 0
Ran n ls i c = reads n start (take i ls) ≡ Ok c

up : (ls : List Lexeme) (i : ℕ) (l : Lexeme) → slice_get ls i ≡ Some l → take (suc i) ls ≡ take i ls ++ (l ∷ [])
up ls i l e =
    take-suc ls i l (slice_get_within ls i l e) ∙ ap (λ (x : Lexeme). take i ls ++ (x ∷ [])) (get_or_from_slice_get ls i l l e)

last_step : (n : ℕ) (c d : Config) (a : List Lexeme) (l : Lexeme) → reads n c a ≡ Ok d → reads n c (a ++ (l ∷ [])) ≡ and_then (step n d (symbol_of l)) (λ e. Ok e)
last_step n c d a l e = reads-append n c a (l ∷ []) ∙ ap (λ (t : Result Config Refusal). and_then t (λ k. reads n k (l ∷ []))) e

done_ok : (t : Result Config Refusal) (d : Config) → t ≡ Ok d → and_then t (λ e. let r : Result Config Refusal = Ok e in r) ≡ Ok d
done_ok t d e = ap (λ (u : Result Config Refusal). and_then u (λ e. let r : Result Config Refusal = Ok e in r)) e

done_err : (t : Result Config Refusal) (f : Refusal) → t ≡ Err f → and_then t (λ e. let r : Result Config Refusal = Ok e in r) ≡ Err f
done_err t f e = ap (λ (u : Result Config Refusal). and_then u (λ e. let r : Result Config Refusal = Ok e in r)) e

ran_up : (n : ℕ) (ls : List Lexeme) (i : ℕ) (l : Lexeme) (c d : Config) → Ran n ls i c → slice_get ls i ≡ Some l → step n c (symbol_of l) ≡ Ok d → Ran n ls (suc i) d
ran_up n ls i l c d ran at e = ap (reads n start) (up ls i l at) ∙ last_step n start c (take i ls) l ran ∙ done_ok _ d e

refused_up : (n : ℕ) (ls : List Lexeme) (i : ℕ) (l : Lexeme) (c : Config) (f : Refusal) → Ran n ls i c → slice_get ls i ≡ Some l → step n c (symbol_of l) ≡ Err f
    → reads n start (take (suc i) ls) ≡ Err f
refused_up n ls i l c f ran at e = ap (reads n start) (up ls i l at) ∙ last_step n start c (take i ls) l ran ∙ done_err _ f e

-- one lexeme more was read
pub ran_more : (n : ℕ) (ls : List Lexeme) (i : ℕ) (l : Lexeme) (c d : Config) → Ran n ls i c → slice_get ls i ≡ Some l → step n c (symbol_of l) ≡ Ok d → Ran n ls (i + 1) d
ran_more n ls i l c d ran at e = rw add-one (ran_up n ls i l c d ran at e)

-- the machine reads that with which a statement begins
front : (n : ℕ) (ls : List Lexeme) → Begins n ls → (c : Config) × (reads n start ls ≡ Ok c)
front n ls h =
    let m = statement_moves n (ls ++ h.0) h.1 h.2 in
    let whole : reads n start (ls ++ (h.0 ++ [])) ≡ Ok (config [] m.0) = ap (reads n start) (sym (append_assoc ls h.0 [])) ∙ m.2.reading [] in
    let f = first_ok (reads n start ls) (λ c. reads n c (h.0 ++ [])) (config [] m.0) (sym (reads-append n start ls (h.0 ++ [])) ∙ whole) in
    (f.0, f.1)

not_front : (n : ℕ) (ls : List Lexeme) (f : Refusal) → reads n start ls ≡ Err f → ¬ Begins n ls
not_front n ls f e h = let g = (front n ls h).1 in cc

no_statement : (n : ℕ) (ls : List Lexeme) (k : ℕ) → ¬ Begins n (take k ls) → (s : Stated) → ¬ IsStatement n ls s
no_statement n ls k h s is = h (drop k ls, s, subst (λ (xs : List Lexeme). IsStatement n xs s) (sym (take-append-drop k ls)) is)

stop : (n : ℕ) (ls : List Lexeme) (i : ℕ) (l : Lexeme) (c : Config) (f : Refusal) → Ran n ls i c → slice_get ls i ≡ Some l → step n c (symbol_of l) ≡ Err f
    → IsStop n ls i l
stop n ls i l c f ran at e = record {
  at = at;
  before = begins n (take i ls) c ran;
  not_with = not_front n (take (suc i) ls) f (refused_up n ls i l c f ran at e);
}

-- a step that is refused, and not for depth, is refused at each depth
not_deep : (n : ℕ) (ls : List Lexeme) (i : ℕ) (l : Lexeme) (c : Config) → Ran n ls i c → slice_get ls i ≡ Some l → step n c (symbol_of l) ≡ Err Syntax
    → ¬ IsTooDeep n ls i l
not_deep n ls i l c ran at e deep =
    let m = deep.depth in
    let g = front m (take (suc i) ls) deep.deeper in
    let there : reads (m + n) start (take (suc i) ls) ≡ Ok (raised n g.0) = reads_raise n m start g.0 (take (suc i) ls) g.1 in
    let here : reads (n + m) start (take i ls) ≡ Ok (raised m c) = reads_raise m n start c (take i ls) ran in
    let up : step (n + m) (raised m c) (symbol_of l) ≡ Err Syntax =
    step_raise m n c.goals c.rest (symbol_of l) (λ d. let d2 : step n c (symbol_of l) ≡ Err TooDeep = d in cc) ∙ ap (if_ok (raised m)) e in
    let refused : reads (n + m) start (take (suc i) ls) ≡ Err Syntax = refused_up (n + m) ls i l (raised m c) Syntax here at up in
    let same : reads (m + n) start (take (suc i) ls) ≡ reads (n + m) start (take (suc i) ls) = ap (λ (k : ℕ). reads k start (take (suc i) ls)) (add_comm m n) in
    cc

-- the verdict where a lexeme is refused
pub refused_verdict : (n : ℕ) (ls : List Lexeme) (i : ℕ) (l : Lexeme) (c : Config) (f : Refusal) → Ran n ls i c → slice_get ls i ≡ Some l → step n c (symbol_of l) ≡ Err f
    → IsVerdict n ls (refused_at f l.token.from)
refused_verdict n ls i l c Syntax ran at e =
    let s = stop n ls i l c Syntax ran at e in
    (no_statement n ls (suc i) s.not_with, inl (i, l, s, not_deep n ls i l c ran at e, refl))
refused_verdict n ls i l c TooDeep ran at e =
    let d = step_deep n c.goals c.rest (symbol_of l) e in
    let up : reads (n + 1) start (take i ls) ≡ Ok (raised 1 c) = reads_raise 1 n start c (take i ls) ran in
    let more : reads (n + 1) start (take (suc i) ls) ≡ Ok d.0 = ran_up (n + 1) ls i l (raised 1 c) d.0 up at d.1 in (
      i,
      l,
      record { is_stop = stop n ls i l c TooDeep ran at e; opens = d.2; depth = n + 1; deeper = begins (n + 1) (take (suc i) ls) d.0 more },
      refl,
    )

whole : (n : ℕ) (ls : List Lexeme) (i : ℕ) (c : Config) → length ls ≤ i → Ran n ls i c → reads n start ls ≡ Ok c
whole n ls i c all ran = ap (reads n start) (sym (take_all i ls all)) ∙ ran

pub accepted_verdict : (n : ℕ) (ls : List Lexeme) (i : ℕ) (c : Config) → length ls ≤ i → Ran n ls i c → can_end c ≡ true → IsVerdict n ls verdict.Statement
accepted_verdict n ls i c all ran e = accepted n ls c (whole n ls i c all ran) e

-- the verdict where the statement isn't complete
pub cut_verdict : (n : ℕ) (ls : List Lexeme) (i : ℕ) (c : Config) (last : Lexeme) → length ls ≤ i → Ran n ls i c → can_end c ≡ false
    → slice_get ls (length ls - 1) ≡ Some last → IsVerdict n ls (verdict.Syntax last.token.to)
cut_verdict n ls i c last all ran e at =
    let r = whole n ls i c all ran in (
      (λ s is.
          let m = statement_moves n ls s is in
          let ends : reads n start ls ≡ Ok (config [] m.0) = ap (reads n start) (sym (append-nil ls)) ∙ m.2.reading [] in
          let same : c ≡ config [] m.0 = cc in
          let end : can_end c ≡ true = ap can_end same ∙ m.1 in
          cc),
      inr (last, at, begins n ls c r, refl),
    )

at_token : (source : List ℕ) (tokens : List Token) (i : ℕ) (d : Token) → i < length tokens
    → slice_get (lexemes source tokens) i ≡ Some (record { token = get_or tokens i d; text = text_of source (get_or tokens i d) })
at_token source tokens i d h =
    slice_get-map (λ (t : Token). let l : Lexeme = record { token = t; text = text_of source t } in l) tokens i
    ∙ ap (option_map (λ (t : Token). let l : Lexeme = record { token = t; text = text_of source t } in l)) (slice_get-get_or tokens i d h)

-- the same over tokens
pub refused_token : (n : ℕ) (source : List ℕ) (tokens : List Token) (i : ℕ) (d : Token) (c : Config) (s : Symbol) (f : Refusal) → i < length tokens
    → Ran n (lexemes source tokens) i c → s ≡ of.symbol (get_or tokens i d).kind (text_of source (get_or tokens i d)) → step n c s ≡ Err f
    → IsVerdict n (lexemes source tokens) (refused_at f (get_or tokens i d).from)
refused_token n source tokens i d c s f h ran is e =
    refused_verdict n (lexemes source tokens) i (record { token = get_or tokens i d; text = text_of source (get_or tokens i d) }) c f ran
    (at_token source tokens i d h) (ap (step n c) (sym is) ∙ e)

pub read_token : (n : ℕ) (source : List ℕ) (tokens : List Token) (i : ℕ) (d : Token) (c e : Config) (s : Symbol) → i < length tokens
    → Ran n (lexemes source tokens) i c → s ≡ of.symbol (get_or tokens i d).kind (text_of source (get_or tokens i d)) → step n c s ≡ Ok e
    → Ran n (lexemes source tokens) (i + 1) e
read_token n source tokens i d c e s h ran is went =
    ran_more n (lexemes source tokens) i (record { token = get_or tokens i d; text = text_of source (get_or tokens i d) }) c e ran
    (at_token source tokens i d h) (ap (step n c) (sym is) ∙ went)

all_read : (source : List ℕ) (tokens : List Token) (i : ℕ) → length tokens ≤ i → length (lexemes source tokens) ≤ i
all_read source tokens i h = rw length-map h

pub accepted_tokens : (n : ℕ) (source : List ℕ) (tokens : List Token) (i : ℕ) (c : Config) → length tokens ≤ i → Ran n (lexemes source tokens) i c → can_end c ≡ true
    → IsVerdict n (lexemes source tokens) verdict.Statement
accepted_tokens n source tokens i c h ran e = accepted_verdict n (lexemes source tokens) i c (all_read source tokens i h) ran e

pub cut_tokens : (n : ℕ) (source : List ℕ) (tokens : List Token) (i : ℕ) (d : Token) (c : Config) → length tokens ≤ i → 0 < length tokens → Ran n (lexemes source tokens) i c
    → can_end c ≡ false → IsVerdict n (lexemes source tokens) (verdict.Syntax (get_or tokens (length tokens - 1) d).to)
cut_tokens n source tokens i d c h some ran e =
    cut_verdict n (lexemes source tokens) i c (record { token = get_or tokens (length tokens - 1) d; text = text_of source (get_or tokens (length tokens - 1) d) })
    (all_read source tokens i h) ran e (rw length-map (at_token source tokens (length tokens - 1) d (omega arith)))
