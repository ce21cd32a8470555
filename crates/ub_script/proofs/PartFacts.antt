-- How texts fall into lines, and lines into those that tell and those that answer.
use Rattle.std.proofs.Common.{◌≡◌, ◌<◌, ◌==◌, ℕ, Bool, true, false, not, eqb-true, List, [], ◌∷◌, ◌++◌, length, filter, inl, inr, ◌⊎◌, refl, sym, ap, ◌∙◌, append_assoc, append-nil, arith}
use Rattle.std.proofs.lemmas.Bool.{cases_Bool}
use Rattle.std.proofs.lemmas.Grind.{flat_map-append}
use Rattle.std.proofs.lemmas.List.Elements.{filter-append}
use Rattle.std.specs.List.{AllByRecursion, flat_map}
use Rattle.ub_script.specs.Parts.{answers_in, before_lines, is_note, lines_of, notes_in}

-- no line feed stands among the bytes
abbrev pub IsInLine : List ℕ → Type 0
IsInLine bytes = AllByRecursion (λ b. (b == 10) ≡ false) bytes

pub in_line-append : (xs ys : List ℕ) → IsInLine xs → IsInLine ys → IsInLine (xs ++ ys)
in_line-append [] ys h k = k
in_line-append (x ∷ xs) ys h k = (h.0, in_line-append xs ys h.1 k)

-- the text is whole lines, or none
abbrev pub IsOfLines : List ℕ → Type 0
IsOfLines text = (text ≡ []) ⊎ ((front : List ℕ) × (text ≡ front ++ 10 ∷ []))

-- ---- lines

-- bytes up to a line feed are the first line
pub lines-first : (line rest : List ℕ) → IsInLine line → lines_of (line ++ 10 ∷ rest) ≡ (line ++ 10 ∷ []) ∷ lines_of rest
unfolding lines_of
lines-first [] rest h = refl
lines-first (c ∷ line) rest h = rw h.0 (ap (before_lines c) (lines-first line rest h.1))

-- bytes with no line feed after them are the last line
pub lines-last : (c : ℕ) (line : List ℕ) → IsInLine (c ∷ line) → lines_of (c ∷ line) ≡ (c ∷ line) ∷ []
unfolding lines_of
lines-last c [] h = rw h.0 refl
lines-last c (d ∷ line) h = rw h.0 (ap (before_lines c) (lines-last d line h.1))

some_before : (c : ℕ) (lines : List (List ℕ)) → 0 < length (before_lines c lines)
some_before c [] = omega arith
some_before c (line ∷ lines) = omega arith

before-append : (c : ℕ) (xs ys : List (List ℕ)) → 0 < length xs → before_lines c (xs ++ ys) ≡ before_lines c xs ++ ys
before-append c [] ys h = absurd (omega (arith, h))
before-append c (x ∷ xs) ys h = refl

some_lines : (c : ℕ) (rest : List ℕ) → 0 < length (lines_of (c ∷ rest))
unfolding lines_of
some_lines c rest = elim (cases_Bool (c == 10)) [
  | inl t ↦ rw t (omega arith)
  | inr f ↦ rw f (some_before c (lines_of rest))
]

some_end : (front : List ℕ) → 0 < length (lines_of (front ++ 10 ∷ []))
some_end [] = some_lines 10 []
some_end (c ∷ front) = some_lines c (front ++ 10 ∷ [])

-- a line feed parts the lines before it from those after it
pub lines-append : (front rest : List ℕ) → lines_of ((front ++ 10 ∷ []) ++ rest) ≡ lines_of (front ++ 10 ∷ []) ++ lines_of rest
unfolding lines_of
lines-append [] rest = refl
lines-append (c ∷ front) rest = elim (cases_Bool (c == 10)) [
  | inl t ↦ rw t (ap (λ (lines : List (List ℕ)). (10 ∷ []) ∷ lines) (lines-append front rest))
  | inr f ↦ rw f (ap (before_lines c) (lines-append front rest) ∙ before-append c (lines_of (front ++ 10 ∷ [])) (lines_of rest) (some_end front))
]

pub no_lines : lines_of [] ≡ []
unfolding lines_of
no_lines = refl

-- so whole lines are parted from what stands after them
pub lines-more : (text rest : List ℕ) → IsOfLines text → lines_of (text ++ rest) ≡ lines_of text ++ lines_of rest
lines-more text rest (inl none) = rw none (ap (λ (lines : List (List ℕ)). lines ++ lines_of rest) (sym no_lines))
lines-more text rest (inr (front, is)) = rw is (lines-append front rest)

-- the lines of a text are all of it
joined-before : (c : ℕ) (lines : List (List ℕ)) → flat_map (λ line. line) (before_lines c lines) ≡ c ∷ flat_map (λ line. line) lines
joined-before c [] = refl
joined-before c (line ∷ lines) = refl

pub lines-joined : (text : List ℕ) → flat_map (λ line. line) (lines_of text) ≡ text
unfolding lines_of
lines-joined [] = refl
lines-joined (c ∷ rest) = elim (cases_Bool (c == 10)) [
  | inl t ↦ rw t (λ i. newline t i ∷ lines-joined rest i)
  | inr f ↦ rw f (joined-before c (lines_of rest) ∙ ap (λ (bytes : List ℕ). c ∷ bytes) (lines-joined rest))
]
  where
    newline : (c == 10) ≡ true → 10 ≡ c
    newline t = sym (eqb-true c 10 t)

-- ---- the lines of one kind

module _ (p : List ℕ → Bool) where
  -- the lines of a text for which this holds, in their order
  abbrev those : List ℕ → List ℕ
  those text = flat_map (λ line. line) (filter p (lines_of text))

  those-none : those [] ≡ []
  those-none = ap (λ (lines : List (List ℕ)). flat_map (λ line. line) (filter p lines)) no_lines

  those-taken : (line rest : List ℕ) → IsInLine line → p (line ++ 10 ∷ []) ≡ true → those (line ++ 10 ∷ rest) ≡ (line ++ 10 ∷ []) ++ those rest
  those-taken line rest h t = rw (lines-first line rest h, t) refl

  those-passed : (line rest : List ℕ) → IsInLine line → p (line ++ 10 ∷ []) ≡ false → those (line ++ 10 ∷ rest) ≡ those rest
  those-passed line rest h f = rw (lines-first line rest h, f) refl

  those-last_taken : (c : ℕ) (line : List ℕ) → IsInLine (c ∷ line) → p (c ∷ line) ≡ true → those (c ∷ line) ≡ c ∷ line
  those-last_taken c line h t = rw (lines-last c line h, t) (append-nil (c ∷ line))

  those-last_passed : (c : ℕ) (line : List ℕ) → IsInLine (c ∷ line) → p (c ∷ line) ≡ false → those (c ∷ line) ≡ []
  those-last_passed c line h f = rw (lines-last c line h, f) refl

  those-more : (text rest : List ℕ) → IsOfLines text → those (text ++ rest) ≡ those text ++ those rest
  those-more text rest whole =
      rw (lines-more text rest whole, filter-append p (lines_of text) (lines_of rest))
      (flat_map-append (λ line. line) (filter p (lines_of text)) (filter p (lines_of rest)))

-- ---- notes and answers

-- a line that is an answer
pub answer_first : (line rest : List ℕ) → IsInLine line → is_note (line ++ 10 ∷ []) ≡ false
    → (answers_in (line ++ 10 ∷ rest) ≡ (line ++ 10 ∷ []) ++ answers_in rest) × (notes_in (line ++ 10 ∷ rest) ≡ notes_in rest)
answer_first line rest h f = (those-taken (λ l. not (is_note l)) line rest h (ap not f), those-passed is_note line rest h f)

-- a line that tells
pub note_first : (line rest : List ℕ) → IsInLine line → is_note (line ++ 10 ∷ []) ≡ true
    → (answers_in (line ++ 10 ∷ rest) ≡ answers_in rest) × (notes_in (line ++ 10 ∷ rest) ≡ (line ++ 10 ∷ []) ++ notes_in rest)
note_first line rest h t = (those-passed (λ l. not (is_note l)) line rest h (ap not t), those-taken is_note line rest h t)

-- a last line without a line feed
pub answer_last : (c : ℕ) (line : List ℕ) → IsInLine (c ∷ line) → is_note (c ∷ line) ≡ false
    → (answers_in (c ∷ line) ≡ c ∷ line) × (notes_in (c ∷ line) ≡ [])
answer_last c line h f = (those-last_taken (λ l. not (is_note l)) c line h (ap not f), those-last_passed is_note c line h f)

pub note_last : (c : ℕ) (line : List ℕ) → IsInLine (c ∷ line) → is_note (c ∷ line) ≡ true
    → (answers_in (c ∷ line) ≡ []) × (notes_in (c ∷ line) ≡ c ∷ line)
note_last c line h t = (those-last_passed (λ l. not (is_note l)) c line h (ap not t), those-last_taken is_note c line h t)

-- no lines
pub answers-none : answers_in [] ≡ []
answers-none = those-none (λ l. not (is_note l))

pub notes-none : notes_in [] ≡ []
notes-none = those-none is_note

-- whole lines, and a text after them
pub answers-more : (text rest : List ℕ) → IsOfLines text → answers_in (text ++ rest) ≡ answers_in text ++ answers_in rest
answers-more text rest whole = those-more (λ l. not (is_note l)) text rest whole

pub notes-more : (text rest : List ℕ) → IsOfLines text → notes_in (text ++ rest) ≡ notes_in text ++ notes_in rest
notes-more text rest whole = those-more is_note text rest whole

-- more whole lines after whole lines
pub of_lines-append : (xs ys : List ℕ) → IsOfLines xs → IsOfLines ys → IsOfLines (xs ++ ys)
of_lines-append xs ys whole (inl none) = rw (none, append-nil xs) whole
of_lines-append xs ys whole (inr (front, is)) = inr (xs ++ front, ap (λ (bytes : List ℕ). xs ++ bytes) is ∙ sym (append_assoc xs front (10 ∷ [])))
