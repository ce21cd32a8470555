-- What is read of the matches of a command line.
use Rattle.std.proofs.Common.{codes, inl, inr, subst, ◌≡◌, ◌<◌, ◌^◌, ◌∙◌, ℕ, List, Option, Some, None, Result, Ok, ap, sym, refl, arith, true, false, [], ◌∷◌, ◌≤◌, map, length}
use Rattle.std.proofs.Math.ListN.{get_or}
use Rattle.std.proofs.lemmas.Bool.{false≢true}
use Rattle.std.specs.Option.{option_zip}
use Rattle.std.specs.Prelude.{◌⊎◌, MatchOption, is_some, option_map, unwrap_or}
use Rattle.std.specs.Str.Parse.{ParsesUnsigned, digits_value, without_leading_plus}
use Rattle.clap.specs.Words.{ReadsOne, Row, first_of, one_text, rows_of}
use Rattle.clap.specs.declared.parser.matches.Found.{Found}
use Rattle.clap.proofs.WalkLemmas.{one_text-rows}
use Rattle.ub_words.specs.CommandLine.{IsDataGiven, IsNumberGiven}

-- a number that was read is the one given
pub number_read : (E : Type 0) (G : List ℕ → Result ℕ E → Type 0) → ((text : List ℕ) (r : Result ℕ E) → G text r → ParsesUnsigned 32 10 text r)
    → (f : Found) (id : List ℕ) (n : ℕ) → (one_text f id ≡ None → Some n ≡ None) → ((text : List ℕ) → one_text f id ≡ Some text → ReadsOne G text (Some n))
    → IsNumberGiven (rows_of f) id n n n
number_read E G only f id n none value = go (one_text f id) refl
  where
    go : (o : Option (List ℕ)) → one_text f id ≡ o → IsNumberGiven (rows_of f) id n n n
    go None e =
        let bad : true ≡ false = ap is_some (none e) in
        absurd (false≢true (sym bad))
    go (Some text) e =
        let parsed = only text (Ok n) (value text e) in
        record {
          text = text;
          given = sym (one_text-rows f id) ∙ e;
          digits = parsed.0.0;
          value = parsed.1;
          at_least = omega arith;
          at_most = omega arith;
        }

-- where none was read, none is given
pub number_unread : (E : Type 0) (G : List ℕ → Result ℕ E → Type 0) → ((text : List ℕ) (r : Result ℕ E) → G text r → ParsesUnsigned 32 10 text r)
    → (f : Found) (id : List ℕ) → ((text : List ℕ) → one_text f id ≡ Some text → ReadsOne G text None)
    → (least most n : ℕ) → most < 2 ^ 32 → IsNumberGiven (rows_of f) id least most n → ⊥
number_unread E G only f id value least most n fits given =
    let failed = value given.text (one_text-rows f id ∙ given.given) in
    let value_is = given.value in
    let small = given.at_most in
    only given.text _ failed.1 (given.digits, omega arith)

-- one number is given
pub number_only : (rows : List Row) (id : List ℕ) (l m n least most other : ℕ) → IsNumberGiven rows id l m n → IsNumberGiven rows id least most other → n ≡ other
number_only rows id l m n least most other a b =
    let texts : Some a.text ≡ Some b.text = sym a.given ∙ b.given in
    let text : a.text ≡ b.text = ap (λ (o : Option (List ℕ)). unwrap_or o []) texts in
    a.value ∙ (ap (λ (t : List ℕ). digits_value 10 (without_leading_plus t)) text ∙ sym b.value)

-- and within its own bounds
pub number_within : (rows : List Row) (id : List ℕ) (l m n least most : ℕ) → IsNumberGiven rows id l m n → least ≤ n → n ≤ most → IsNumberGiven rows id least most n
number_within rows id l m n least most a low high =
    record { text = a.text; given = a.given; digits = a.digits; value = a.value; at_least = low; at_most = high }

-- five words, of which these are the last four
pub five : {X : Type 0} (g : X → List ℕ) (words : List X) (a b c d : X) → 5 ≤ length words → length words < 6
    → a ≡ get_or words 1 a → b ≡ get_or words 2 b → c ≡ get_or words 3 c → d ≡ get_or words 4 d
    → (first : List ℕ) × (map g words ≡ first ∷ g a ∷ g b ∷ g c ∷ g d ∷ [])
five g [] a b c d long short first second third fourth = absurd (omega (arith, long))
five g (p ∷ []) a b c d long short first second third fourth = absurd (omega (arith, long))
five g (p ∷ q ∷ []) a b c d long short first second third fourth = absurd (omega (arith, long))
five g (p ∷ q ∷ r ∷ []) a b c d long short first second third fourth = absurd (omega (arith, long))
five g (p ∷ q ∷ r ∷ s ∷ []) a b c d long short first second third fourth = absurd (omega (arith, long))
five g (p ∷ q ∷ r ∷ s ∷ t ∷ []) a b c d long short first second third fourth = (g p, rw (first, second, third, fourth) refl)
five g (p ∷ q ∷ r ∷ s ∷ t ∷ u ∷ rest) a b c d long short first second third fourth = absurd (omega (arith, short))

-- what is said of a value that may be there, where it is and where it isn't
pub at_some : {A : Type 0} (o : Option A) (x : A) (N : Type 0) (P : A → Type 0) → Some x ≡ o → MatchOption o N P → P x
at_some {A} o x N P e h = subst (λ (o : Option A). MatchOption o N P) (sym e) h

pub at_none : {A : Type 0} (o : Option A) (N : Type 0) (P : A → Type 0) → None ≡ o → MatchOption o N P → N
at_none {A} o N P e h = subst (λ (o : Option A). MatchOption o N P) (sym e) h

-- two of them
pub zipped : {A B : Type 0} (a : Option A) (b : Option B) (N M : Type 0) (P : A → Type 0) (Q : B → Type 0)
    → MatchOption a N P → MatchOption b M Q → MatchOption (option_zip a b) (N ⊎ M) (λ p. P p.0 × Q p.1)
zipped None b N M P Q left right = inl left
zipped (Some x) None N M P Q left right = inr right
zipped (Some x) (Some y) N M P Q left right = (left, right)

-- a text that may be given
pub text_read : {S : Type 0} (read : S → List ℕ) (o : Option S) (first : Option (List ℕ)) → option_map read o ≡ first
    → MatchOption o (first ≡ None) (λ s. first ≡ Some (read s))
text_read read None first e = sym e
text_read read (Some s) first e = sym e

-- two texts that may be
two_texts : {S : Type 0} (read : S → List ℕ) (a b : Option S) (first second : Option (List ℕ)) → option_map read a ≡ first → option_map read b ≡ second
    → MatchOption (option_zip a b) ((one other : List ℕ) → ¬ ((first ≡ Some one) × (second ≡ Some other)))
    (λ texts. (first ≡ Some (read texts.0)) × (second ≡ Some (read texts.1)))
two_texts read None b first second e1 e2 = λ one other both. let bad = e1 ∙ both.0 in cc
two_texts read (Some x) None first second e1 e2 = λ one other both. let bad = e2 ∙ both.1 in cc
two_texts read (Some x) (Some y) first second e1 e2 = (sym e1, sym e2)

pub texts_read : {S : Type 0} (read : S → List ℕ) (a b : Option S) (r : Option (S × S)) (first second : Option (List ℕ)) → r ≡ option_zip a b
    → option_map read a ≡ first → option_map read b ≡ second
    → MatchOption r ((one other : List ℕ) → ¬ ((first ≡ Some one) × (second ≡ Some other)))
    (λ texts. (first ≡ Some (read texts.0)) × (second ≡ Some (read texts.1)))
texts_read {S} read a b r first second is e1 e2 =
    subst (λ (o : Option (S × S)). MatchOption o ((one other : List ℕ) → ¬ ((first ≡ Some one) × (second ≡ Some other)))
    (λ texts. (first ≡ Some (read texts.0)) × (second ≡ Some (read texts.1)))) (sym is) (two_texts read a b first second e1 e2)

-- what was given for a file DATA
whole_data : {S : Type 0} (read : S → List ℕ) (rows : List Row) (texts : Option (S × S)) (dims page_rows signed : Option ℕ)
    → MatchOption texts ((one other : List ℕ) → ¬ ((first_of (codes "DATA") rows ≡ Some one) × (first_of (codes "name") rows ≡ Some other)))
    (λ t. (first_of (codes "DATA") rows ≡ Some (read t.0)) × (first_of (codes "name") rows ≡ Some (read t.1)))
    → MatchOption dims ((n : ℕ) → ¬ (IsNumberGiven rows (codes "dims") 1 4 n)) (IsNumberGiven rows (codes "dims") 1 4)
    → MatchOption page_rows ((n : ℕ) → ¬ (IsNumberGiven rows (codes "page-rows") 2 64 n)) (IsNumberGiven rows (codes "page-rows") 2 64)
    → MatchOption signed ((n : ℕ) → ¬ (IsNumberGiven rows (codes "signed") 0 15 n)) (IsNumberGiven rows (codes "signed") 0 15)
    → MatchOption (option_zip (option_zip texts (option_zip dims page_rows)) signed)
    ((path name : List ℕ) (d p s : ℕ) → ¬ (IsDataGiven rows path name d p s)) (λ a. IsDataGiven rows (read a.0.0.0) (read a.0.0.1) a.0.1.0 a.0.1.1 a.1)
whole_data read rows None dims page_rows signed t d p s = λ path name m n o given. t path name (given.path_is, given.name_is)
whole_data read rows (Some x) None page_rows signed t d p s = λ path name m n o given. d m given.dims_are
whole_data read rows (Some x) (Some k) None signed t d p s = λ path name m n o given. p n given.page_rows_are
whole_data read rows (Some x) (Some k) (Some l) None t d p s = λ path name m n o given. s o given.signed_is
whole_data read rows (Some x) (Some k) (Some l) (Some i) t d p s = record { path_is = t.0; name_is = t.1; dims_are = d; page_rows_are = p; signed_is = s }

pub data_read : {S : Type 0} (read : S → List ℕ) (rows : List Row) (texts : Option (S × S)) (dims page_rows signed : Option ℕ)
    (counts : Option (ℕ × ℕ)) (all : Option ((S × S) × (ℕ × ℕ))) → counts ≡ option_zip dims page_rows → all ≡ option_zip texts counts
    → MatchOption texts ((one other : List ℕ) → ¬ ((first_of (codes "DATA") rows ≡ Some one) × (first_of (codes "name") rows ≡ Some other)))
    (λ t. (first_of (codes "DATA") rows ≡ Some (read t.0)) × (first_of (codes "name") rows ≡ Some (read t.1)))
    → MatchOption dims ((n : ℕ) → ¬ (IsNumberGiven rows (codes "dims") 1 4 n)) (IsNumberGiven rows (codes "dims") 1 4)
    → MatchOption page_rows ((n : ℕ) → ¬ (IsNumberGiven rows (codes "page-rows") 2 64 n)) (IsNumberGiven rows (codes "page-rows") 2 64)
    → MatchOption signed ((n : ℕ) → ¬ (IsNumberGiven rows (codes "signed") 0 15 n)) (IsNumberGiven rows (codes "signed") 0 15)
    → MatchOption (option_zip all signed)
    ((path name : List ℕ) (d p s : ℕ) → ¬ (IsDataGiven rows path name d p s)) (λ a. IsDataGiven rows (read a.0.0.0) (read a.0.0.1) a.0.1.0 a.0.1.1 a.1)
data_read {S} read rows texts dims page_rows signed counts all first second t d p s =
    subst (λ (o : Option ((S × S) × (ℕ × ℕ))). MatchOption (option_zip o signed)
    ((path name : List ℕ) (d p s : ℕ) → ¬ (IsDataGiven rows path name d p s)) (λ a. IsDataGiven rows (read a.0.0.0) (read a.0.0.1) a.0.1.0 a.0.1.1 a.1))
    (sym (second ∙ ap (λ (n : Option (ℕ × ℕ)). option_zip texts n) first)) (whole_data read rows texts dims page_rows signed t d p s)
