-- The machine goes from one state to another over lexemes.
use Rattle.std.proofs.Common.{◌≡◌, ℕ, List, [], ◌∷◌, ◌++◌, Result, Ok, Err, refl, ap, ◌∙◌, append_assoc}
use Rattle.ub_lexer.specs.declared.token.Token.{Token}
use Rattle.ub_syntax.specs.Grammar.{Lexeme, symbol_of, Is, IsToken, AreJoined}
use Rattle.ub_syntax.specs.Machine.{Config, and_then, step, reads}
use Rattle.ub_syntax.specs.declared.symbol.Symbol.{Symbol}
use Rattle.ub_syntax.specs.declared.machine.Refusal.{Refusal}

-- from one state the lexemes lead to another
pub record Moves (n : ℕ) (c d : Config) (ls : List Lexeme) : Type 0 where
  pub reading : (more : List Lexeme) → reads n c (ls ++ more) ≡ reads n d more

after : {T U V : Type 0} (r : Result T Refusal) (f : T → Result U Refusal) (g : U → Result V Refusal) (h : T → Result V Refusal)
    → ((x : T) → h x ≡ and_then (f x) g) → and_then r h ≡ and_then (and_then r f) g
after (Ok x) f g h same = same x
after (Err e) f g h same = refl

pub reads-append : (n : ℕ) (c : Config) (a b : List Lexeme) → reads n c (a ++ b) ≡ and_then (reads n c a) (λ d. reads n d b)
reads-append n c [] b = refl
reads-append n c (l ∷ a) b =
    after (step n c (symbol_of l)) (λ d. reads n d a) (λ d. reads n d b) (λ d. reads n d (a ++ b)) (λ d. reads-append n d a b)

pub stay : {n : ℕ} {c : Config} → Moves n c c []
stay = record { reading = λ more. refl }

pub go : {n : ℕ} {c d e : Config} {a b : List Lexeme} → Moves n c d a → Moves n d e b → Moves n c e (a ++ b)
go {n} {c} {d} {e} {a} {b} first second = record {
  reading = λ more. ap (reads n c) (append_assoc a b more) ∙ first.reading (b ++ more) ∙ second.reading more;
}

-- the same over lexemes that are equal
pub over : {n : ℕ} {c d : Config} {a b : List Lexeme} → a ≡ b → Moves n c d b → Moves n c d a
over {n} {c} same moves = record {
  reading = λ more. ap (λ (ls : List Lexeme). reads n c (ls ++ more)) same ∙ moves.reading more;
}

-- one symbol that leads to a state
pub by_step : {n : ℕ} {c d : Config} (s : Symbol) {ls : List Lexeme} → step n c s ≡ Ok d → Is s ls → Moves n c d ls
by_step {n} {c} {d} s {ls} e is = record {
  reading = λ more.
      ap (λ (xs : List Lexeme). reads n c (xs ++ more)) is.1
      ∙ ap (λ (t : Symbol). and_then (step n c t) (λ k. reads n k more)) is.2
      ∙ ap (λ (r : Result Config Refusal). and_then r (λ k. reads n k more)) e;
}

pub is_of : {s : Symbol} {ls : List Lexeme} (t : Token) → IsToken s ls t → Is s ls
is_of t h = (h.0, h.1, h.2)

-- parts with a symbol between each two, where each part leads from a state to one of some ends, and the symbol from these back
pub joined_moves : {A : Type 0} {n : ℕ} (s : Symbol) (P : List Lexeme → A → Type 0) (c : Config) (Ends : Config → Type 0)
    → ((ls : List Lexeme) (x : A) → P ls x → (e : Config) × Ends e × Moves n c e ls)
    → ((e : Config) (joint : List Lexeme) → Ends e → Is s joint → Moves n e c joint)
    → (ls : List Lexeme) (xs : List A) → AreJoined s P ls xs → (e : Config) × Ends e × Moves n c e ls
joined_moves s P c Ends part joint ls [] h = absurd h
joined_moves s P c Ends part joint ls (x ∷ []) h = part ls x h
joined_moves {n = n} s P c Ends part joint ls (x ∷ y ∷ xs) h =
    let first = part h.0 x h.4 in
    let back = joint first.0 h.1 first.1 h.5 in
    let others = joined_moves {n = n} s P c Ends part joint h.2 (y ∷ xs) h.6 in
    (others.0, others.1, over h.3 (go first.2 (go back others.2)))
