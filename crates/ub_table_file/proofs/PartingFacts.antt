-- How a text is parted: where its first line ends, and which lines of one kind stand together.
use Rattle.std.proofs.Common.{◌≡◌, ◌≤◌, ◌<◌, ◌+◌, ◌-◌, ◌==◌, ◌∙◌, ℕ, zero, suc, Bool, true, false, not, if◌then◌else◌, List, [], ◌∷◌, ◌++◌, length, take, drop, get_or, Result, Ok, Err, inl, inr, ap, arith, codes, eqb-true, nat_eq, refl, subst, sym, ◌||◌, append-nil, append_assoc, length-append, length-drop, drop-drop, take-add, take_all}
use Rattle.std.proofs.lemmas.Bool.{cases_Bool}
use Rattle.std.proofs.lemmas.List.{drop_all, take-append-le}
use Rattle.std.specs.List.{starts_with}
use Rattle.std.specs.Prelude.{OnErr, OnOk}
use Rattle.ub_script.proofs.HeldFacts.{Puts-more, Puts-none, front_after}
use Rattle.ub_script.specs.Output.{OutFacts, Breaks, IsFrontOf, Puts}
use Rattle.ub_script.specs.Parts.{answers_in, before_lines, is_note, lines_of, notes_in}
use Rattle.ub_table_file.specs.Queried.{Notes}
use mathlib.Core.Bool.{beq}

-- ---- where the first line ends

-- bytes before lines: they begin the first of them, or are a line of their own where there is none
abbrev before_all : List ℕ → List (List ℕ) → List (List ℕ)
before_all [] lines = lines
before_all (c ∷ bytes) lines = before_lines c (before_all bytes lines)

-- none of the first bytes ends the first line
pub record IsUnended (text : List ℕ) (at : ℕ) : Type 0 where
  pub within : at ≤ length text
  pub lines : lines_of text ≡ before_all (take at text) (lines_of (drop at text))

pub unended-none : (text : List ℕ) → IsUnended text 0
unended-none text = record { within = omega arith; lines = refl }

none_is : (c : ℕ) → (c ≡ 10 → ⊥) → (c == 10) ≡ false
none_is c other = elim (cases_Bool (c == 10)) [
  | inl feed ↦ absurd (other (eqb-true c 10 feed))
  | inr is ↦ is
]

one_more : (text : List ℕ) (at : ℕ) → at < length text → (get_or text at 0 ≡ 10 → ⊥)
    → before_all (take at text) (lines_of (drop at text)) ≡ before_all (take (suc at) text) (lines_of (drop (suc at) text))
unfolding lines_of
one_more [] at lt other = absurd (omega (arith, lt))
one_more (c ∷ rest) zero lt other = rw (none_is c other) refl
one_more (c ∷ rest) (suc at) lt other = ap (before_lines c) (one_more rest at (omega (arith, lt)) other)

pub unended-next : (text : List ℕ) (at : ℕ) → IsUnended text at → at < length text → (get_or text at 0 ≡ 10 → ⊥) → IsUnended text (at + 1)
unended-next text at h lt other =
    let next : suc at ≡ at + 1 = omega arith in
    subst (λ (n : ℕ). IsUnended text n) next (record { within = omega (arith, lt); lines = h.lines ∙ one_more text at lt other })

-- a line feed ends it
up_to_feed : (text : List ℕ) (at : ℕ) → at < length text → get_or text at 0 ≡ 10
    → before_all (take at text) (lines_of (drop at text)) ≡ take (suc at) text ∷ lines_of (drop (suc at) text)
unfolding lines_of
up_to_feed [] at lt feed = absurd (omega (arith, lt))
up_to_feed (c ∷ rest) zero lt feed = let ten : c ≡ 10 = feed in rw ten refl
up_to_feed (c ∷ rest) (suc at) lt feed = ap (before_lines c) (up_to_feed rest at (omega (arith, lt)) feed)

pub ended_by_feed : (text : List ℕ) (at : ℕ) → IsUnended text at → at < length text → get_or text at 0 ≡ 10
    → lines_of text ≡ take (at + 1) text ∷ lines_of (drop (at + 1) text)
ended_by_feed text at h lt feed =
    let next : suc at ≡ at + 1 = omega arith in
    subst (λ (n : ℕ). lines_of text ≡ take n text ∷ lines_of (drop n text)) next (h.lines ∙ up_to_feed text at lt feed)

-- and so does the text's end
one_line : (text : List ℕ) → 1 ≤ length text → before_all text [] ≡ text ∷ []
one_line [] some = absurd (omega (arith, some))
one_line (c ∷ []) some = refl
one_line (c ∷ d ∷ rest) some = ap (before_lines c) (one_line (d ∷ rest) (omega arith))

no_lines : lines_of [] ≡ []
unfolding lines_of
no_lines = refl

pub ended_by_end : (text : List ℕ) (at : ℕ) → 1 ≤ length text → IsUnended text at → length text ≤ at
    → lines_of text ≡ take at text ∷ lines_of (drop at text)
ended_by_end text at some h over =
    let whole : take at text ≡ text = take_all at text over in
    let none : drop at text ≡ [] = drop_all at text over in
    let lines : lines_of text ≡ before_all text (lines_of []) = rw (whole, none) at h.lines in
    rw (whole, none, no_lines) (lines ∙ ap (before_all text) no_lines ∙ one_line text some)

-- ---- the lines of one kind

-- the lines of a text that are notes, or those that aren't
abbrev pub part : Bool → List ℕ → List ℕ
part are_notes text = if are_notes then notes_in text else answers_in text

-- whether a line is one of them
abbrev pub wanted : Bool → List ℕ → Bool
wanted are_notes line = if are_notes then is_note line else not (is_note line)

-- a line is a note by the first of the two beginnings, or else by the second
pub is_first : (line : List ℕ) (r : Bool) → r ≡ starts_with nat_eq line (codes "-- ") → r ≡ true → r ≡ is_note line
is_first line r is so = so ∙ ap (λ (a : Bool). a || starts_with nat_eq line (codes "! ")) (sym so ∙ is)

pub is_second : (line : List ℕ) (r s : Bool) → r ≡ starts_with nat_eq line (codes "-- ") → r ≡ false → s ≡ starts_with nat_eq line (codes "! ") → s ≡ is_note line
is_second line r s is none second = second ∙ ap (λ (a : Bool). a || starts_with nat_eq line (codes "! ")) (sym none ∙ is)

-- and it is one of them where it is what is wanted
pub is_wanted_by : (line : List ℕ) (note are_notes : Bool) → note ≡ is_note line → beq note are_notes ≡ wanted are_notes line
is_wanted_by line true true is = is
is_wanted_by line false true is = is
is_wanted_by line true false is = ap not is
is_wanted_by line false false is = ap not is

-- a first line of this kind, and one of the other
part-taken : (b : Bool) (text line rest : List ℕ) → lines_of text ≡ line ∷ lines_of rest → wanted b line ≡ true → part b text ≡ line ++ part b rest
part-taken true text line rest first is = let note : is_note line ≡ true = is in rw (first, note) refl
part-taken false text line rest first is = let answer : not (is_note line) ≡ true = is in rw (first, answer) refl

part-passed : (b : Bool) (text line rest : List ℕ) → lines_of text ≡ line ∷ lines_of rest → wanted b line ≡ false → part b text ≡ part b rest
part-passed true text line rest first is = let answer : is_note line ≡ false = is in rw (first, answer) refl
part-passed false text line rest first is = let note : not (is_note line) ≡ false = is in rw (first, note) refl

part-none : (b : Bool) → part b [] ≡ []
part-none true = rw no_lines refl
part-none false = rw no_lines refl

-- what is left of a text from a place on, and the line there
rest_is : (text : List ℕ) (at : ℕ) → take (length text - at) (drop at text) ≡ drop at text
rest_is text at = take_all (length text - at) (drop at text) (omega (arith, length-drop at text))

line_is : (text : List ℕ) (at n : ℕ) → take (at + n - at) (drop at text) ≡ take n (drop at text)
line_is text at n = ap (λ (k : ℕ). take k (drop at text)) (let same : at + n - at ≡ n = omega arith in same)

-- a text was parted up to a place: these lines of it were put, those from another place on stand together and are still to be put
pub record IsParted (are_notes : Bool) (text : List ℕ) (from at : ℕ) (old now : OutFacts) : Type 0 where
  pub done : List ℕ
  pub ordered : from ≤ at
  pub within : at ≤ length text
  pub put : Puts done old now
  pub parted : part are_notes text ≡ done ++ (take (at - from) (drop from text) ++ part are_notes (drop at text))

pub parted-none : (b : Bool) (text : List ℕ) (o : OutFacts) → IsParted b text 0 0 o o
parted-none b text o = record { done = []; ordered = omega arith; within = omega arith; put = Puts-none o; parted = refl }

module _ (b : Bool) (text : List ℕ) (from at : ℕ) (old mid : OutFacts) (h : IsParted b text from at old mid) where
  -- a next line of this kind stands with those before it
  parted-with : (n : ℕ) → at + n ≤ length text → lines_of (drop at text) ≡ take n (drop at text) ∷ lines_of (drop n (drop at text))
      → wanted b (take n (drop at text)) ≡ true → IsParted b text from (at + n) old mid
  parted-with n within first is =
      let ordered = h.ordered in
      let here : drop (at - from) (drop from text) ≡ drop at text = drop-drop (at - from) from text ∙ ap (λ (k : ℕ). drop k text) (let on : from + (at - from) ≡ at = omega (arith, ordered) in on) in
      let count : at + n - from ≡ (at - from) + n = omega (arith, ordered) in
      let more : take (at + n - from) (drop from text) ≡ take (at - from) (drop from text) ++ take n (drop at text) =
      ap (λ (k : ℕ). take k (drop from text)) count ∙ take-add (at - from) n (drop from text) ∙ ap (λ (l : List ℕ). take (at - from) (drop from text) ++ take n l) here in
      let next : part b (drop at text) ≡ take n (drop at text) ++ part b (drop (at + n) text) =
      part-taken b (drop at text) (take n (drop at text)) (drop n (drop at text)) first is ∙ ap (λ (l : List ℕ). take n (drop at text) ++ part b l) (drop-drop n at text) in
      record {
        done = h.done;
        ordered = omega (arith, ordered);
        within = within;
        put = h.put;
        parted = h.parted
            ∙ ap (λ (l : List ℕ). h.done ++ l)
            (ap (λ (l : List ℕ). take (at - from) (drop from text) ++ l) next
            ∙ sym (append_assoc (take (at - from) (drop from text)) (take n (drop at text)) (part b (drop (at + n) text)))
            ∙ ap (λ (l : List ℕ). l ++ part b (drop (at + n) text)) (sym more));
      }

  -- one of the other kind is passed over, once those before it were put
  parted-over : (now : OutFacts) (n : ℕ) → at + n ≤ length text → lines_of (drop at text) ≡ take n (drop at text) ∷ lines_of (drop n (drop at text))
      → wanted b (take n (drop at text)) ≡ false → Puts (take (at - from) (drop from text)) mid now → IsParted b text (at + n) (at + n) old now
  parted-over now n within first is put =
      let next : part b (drop at text) ≡ part b (drop (at + n) text) =
      part-passed b (drop at text) (take n (drop at text)) (drop n (drop at text)) first is ∙ ap (λ (l : List ℕ). part b l) (drop-drop n at text) in
      let none : take (at + n - (at + n)) (drop (at + n) text) ≡ [] = ap (λ (k : ℕ). take k (drop (at + n) text)) (let zero_is : at + n - (at + n) ≡ 0 = omega arith in zero_is) in
      record {
        done = h.done ++ take (at - from) (drop from text);
        ordered = omega arith;
        within = within;
        put = Puts-more old mid now h.done (take (at - from) (drop from text)) false h.put put;
        parted = h.parted
            ∙ ap (λ (l : List ℕ). h.done ++ (take (at - from) (drop from text) ++ l)) next
            ∙ sym (append_assoc h.done (take (at - from) (drop from text)) (part b (drop (at + n) text)))
            ∙ ap (λ (l : List ℕ). (h.done ++ take (at - from) (drop from text)) ++ (l ++ part b (drop (at + n) text))) (sym none);
      }

  -- at the text's end all that is left stands together
  left : length text ≤ at → part b text ≡ h.done ++ (drop from text ++ [])
  left over =
      let ordered = h.ordered in
      let within = h.within in
      let whole : take (at - from) (drop from text) ≡ drop from text = take_all (at - from) (drop from text) (omega (arith, length-drop from text, over)) in
      let none : drop at text ≡ [] = drop_all at text over in
      h.parted ∙ ap (λ (l : List ℕ). h.done ++ (l ++ part b (drop at text))) whole
      ∙ ap (λ (l : List ℕ). h.done ++ (drop from text ++ l)) (ap (λ (l : List ℕ). part b l) none ∙ part-none b)

  parted-whole : (now : OutFacts) → length text ≤ at → Puts (drop from text) mid now → Puts (part b text) old now
  parted-whole now over put =
      let is : part b text ≡ h.done ++ drop from text = left over ∙ ap (λ (l : List ℕ). h.done ++ l) (append-nil (drop from text)) in
      rw is (Puts-more old mid now h.done (drop from text) false h.put put)

  -- bytes that break off among them
  front_before : (front bytes after : List ℕ) → IsFrontOf front bytes → IsFrontOf front (bytes ++ after)
  front_before front bytes after (count, fewer, is) =
      (count, rw (length-append bytes after) (omega (arith, fewer)), is ∙ sym (take-append-le count bytes after (omega (arith, fewer))))

  broken : (now : OutFacts) (bytes after : List ℕ) → part b text ≡ h.done ++ (bytes ++ after) → Breaks bytes mid now → Breaks (part b text) old now
  broken now bytes after is (front, cut, taken) = (
    h.done ++ front,
    rw is (front_after front (bytes ++ after) h.done (front_before front bytes after cut)),
    Puts-more old mid now h.done front true h.put taken,
  )

  pub parted-broken : (now : OutFacts) → Breaks (take (at - from) (drop from text)) mid now → Breaks (part b text) old now
  parted-broken now off = broken now (take (at - from) (drop from text)) (part b (drop at text)) h.parted off

  parted-cut : (now : OutFacts) → length text ≤ at → Breaks (drop from text) mid now → Breaks (part b text) old now
  parted-cut now over off = broken now (drop from text) [] (left over) off

  -- the same of a line that was cut out of what is left
  fits : (n : ℕ) → n ≤ length (take (length text - at) (drop at text)) → at + n ≤ length text
  fits n within =
      let whole = rest_is text at in
      let at_most = h.within in
      omega (arith, rw whole at within, length-drop at text)

  pub next-with : (n : ℕ) → n ≤ length (take (length text - at) (drop at text))
      → lines_of (take (length text - at) (drop at text)) ≡ take n (take (length text - at) (drop at text)) ∷ lines_of (drop n (take (length text - at) (drop at text)))
      → wanted b (take (at + n - at) (drop at text)) ≡ true → IsParted b text from (at + n) old mid
  next-with n within first is = parted-with n (fits n within) (rw (rest_is text at) at first) (rw (line_is text at n) at is)

  pub next-over : (now : OutFacts) (n : ℕ) → n ≤ length (take (length text - at) (drop at text))
      → lines_of (take (length text - at) (drop at text)) ≡ take n (take (length text - at) (drop at text)) ∷ lines_of (drop n (take (length text - at) (drop at text)))
      → wanted b (take (at + n - at) (drop at text)) ≡ false → Puts (take (at - from) (drop from text)) mid now → IsParted b text (at + n) (at + n) old now
  next-over now n within first is put = parted-over now n (fits n within) (rw (rest_is text at) at first) (rw (line_is text at n) at is) put

  pub all-whole : (now : OutFacts) → length text ≤ at → Puts (take (length text - from) (drop from text)) mid now → Puts (part b text) old now
  all-whole now over put = parted-whole now over (rw (rest_is text from) at put)

  pub all-cut : (now : OutFacts) → length text ≤ at → Breaks (take (length text - from) (drop from text)) mid now → Breaks (part b text) old now
  all-cut now over off = parted-cut now over (subst (λ (bytes : List ℕ). Breaks bytes mid now) (rest_is text from) off)

-- ---- what became of bytes that were put

pub where_ok : {A E : Type 0} {P Q : Type 0} (r : Result A E) → (P → Q) → OnOk r P → OnOk r Q
where_ok (Ok a) f p = f p
where_ok (Err e) f p = tt

pub where_err : {A E : Type 0} {P Q : Type 0} (r : Result A E) → (P → Q) → OnErr r P → OnErr r Q
where_err (Ok a) f p = tt
where_err (Err e) f p = f p

pub on_err : {A E : Type 0} (r : Result A E) (P : Type 0) → P → OnErr r P
on_err (Ok a) P p = tt
on_err (Err e) P p = p

pub noted : {A E : Type 0} (r : Result A E) (bytes : List ℕ) (old new : OutFacts) → OnOk r (Puts bytes old new) → OnErr r (Breaks bytes old new) → Notes bytes old new
noted (Ok a) bytes old new whole front = inl whole
noted (Err e) bytes old new whole front = inr front
