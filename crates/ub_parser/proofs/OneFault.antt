-- There is one first fault of some tokens, and only one.
use Rattle.std.proofs.Common.{◌≡◌, ◌<◌, ◌==◌, ℕ, suc, List, [], ◌∷◌, ◌++◌, All, Option, Some, slice_get, refl, sym, ap, subst, arith, ◌∙◌, inl, inr, if◌then◌else◌}
use Rattle.std.proofs.lemmas.Bool.Decides.{leb_tells}
use Rattle.std.specs.List.{enumerate_from}
use Rattle.std.proofs.lemmas.List.Elements.{All-head, All-tail}
use Rattle.ub_lexer.specs.declared.token.Token.{Token}
use Rattle.ub_lexer.specs.declared.token.TokenKind.TheVariants as kind
use Rattle.ub_syntax.specs.Grammar.{lexemes, IsStatement}
use Rattle.ub_syntax.specs.Limits.{first_token, past_limits, past_limits_of, key_items}
use Rattle.ub_syntax.specs.Tree.{Select, Stated, selects, inserts, deletes}
use Rattle.ub_syntax.specs.declared.syntax.Insertion.{Insertion}
use Rattle.ub_syntax.specs.declared.syntax.Value.{Value}
use Rattle.ub_syntax.specs.declared.syntax.Item.{Item}
use Rattle.ub_syntax.specs.declared.syntax.Selection.{Selection}
use Rattle.ub_syntax.specs.declared.syntax.Selection.TheVariants.{All as Star, Listed}
use Rattle.ub_syntax.proofs.Laws.{one_refusal, one_depth}
use Rattle.ub_parser.specs.Known.{IsUnknown}
use Rattle.ub_parser.specs.Refusals.{IsFirst, IsFault, IsFirstFault, IsInsertMisfit, IsMisfit, IsNotGrouped, IsStatedMisfit, IsTooLarge, IsUnfit, IsUngrouped, IsUnselected, names, rank}
use Rattle.ub_parser.specs.declared.fault.SqlFault.{SqlFault}
use Rattle.ub_parser.specs.declared.fault.SqlFault.TheVariants.{BadByte, Syntax, NumberTooLarge, TooDeep, TooMany, UnknownTable, UnknownColumn, NotGrouped, NotSelected, ValueCount, ValueRange, Memory}
use Rattle.ub_table.specs.declared.schema.Schema.{Schema}

heads_same : {A : Type 0} (x y : A) (xs ys : List A) → x ∷ xs ≡ y ∷ ys → x ≡ y
heads_same x y xs ys e = cc

tails_same : {A : Type 0} (x y : A) (xs ys : List A) → x ∷ xs ≡ y ∷ ys → xs ≡ ys
tails_same x y xs ys e = cc

module _ {A : Type 0} (P : A → Type 0) where
  one_split : (b c a d : List A) (x y : A) → b ++ x ∷ a ≡ c ++ y ∷ d → All (λ z. ¬ P z) b → All (λ z. ¬ P z) c → P x → P y → x ≡ y
  one_split [] [] a d x y e none other p q = heads_same x y a d e
  one_split [] (z ∷ c) a d x y e none other p q =
      let same : x ≡ z = heads_same x z a (c ++ y ∷ d) e in
      absurd (All-head (λ z. ¬ P z) z c other (subst P same p))
  one_split (z ∷ b) [] a d x y e none other p q =
      let same : y ≡ z = sym (heads_same z y (b ++ x ∷ a) d e) in
      absurd (All-head (λ z. ¬ P z) z b none (subst P same q))
  one_split (z ∷ b) (w ∷ c) a d x y e none other p q =
      one_split b c a d x y (tails_same z w (b ++ x ∷ a) (c ++ y ∷ d) e) (All-tail (λ z. ¬ P z) z b none) (All-tail (λ z. ¬ P z) w c other) p q

  one_first : (xs : List A) (x y : A) → IsFirst P xs x → IsFirst P xs y → x ≡ y
  one_first xs x y h k = one_split h.0 k.0 h.1 k.1 x y (sym h.2 ∙ k.2) h.3 k.3 h.4 k.4

some_same : {A : Type 0} (a b : A) (o : Option A) → o ≡ Some a → o ≡ Some b → a ≡ b
some_same a b o h k = cc

-- the offset of a fault
place : SqlFault → ℕ
place (BadByte at) = at
place (Syntax at) = at
place (NumberTooLarge at) = at
place (TooDeep at) = at
place (TooMany at) = at
place (UnknownTable at) = at
place (UnknownColumn at) = at
place (NotGrouped at) = at
place (NotSelected at) = at
place (ValueCount at) = at
place (ValueRange at) = at
place Memory = 0

-- the fault of a rank at an offset
pub fault_of : ℕ → ℕ → SqlFault
fault_of r at =
    if r == 1 then BadByte at else if r == 2 then Syntax at else if r == 3 then NumberTooLarge at else if r == 4 then TooDeep at else if r == 5 then TooMany at
    else if r == 6 then UnknownTable at else if r == 7 then UnknownColumn at else if r == 8 then NotGrouped at else if r == 9 then NotSelected at else if r == 10 then ValueCount at
    else if r == 11 then ValueRange at else Memory

spelled_out : (f : SqlFault) → f ≡ fault_of (rank f) (place f)
unfolding place fault_of
spelled_out (BadByte at) = refl
spelled_out (Syntax at) = refl
spelled_out (NumberTooLarge at) = refl
spelled_out (TooDeep at) = refl
spelled_out (TooMany at) = refl
spelled_out (UnknownTable at) = refl
spelled_out (UnknownColumn at) = refl
spelled_out (NotGrouped at) = refl
spelled_out (NotSelected at) = refl
spelled_out (ValueCount at) = refl
spelled_out (ValueRange at) = refl
spelled_out Memory = refl

module _ (source : List ℕ) (schema : Schema) (tokens : List Token) where
  -- the fault of this rank holds at this offset
  abbrev Holds : ℕ → ℕ → Type 0
  Holds r at = IsFault source schema tokens (fault_of r at)

  -- the fault of this rank, of the grammar's later ones, holds at one offset
  abbrev pub IsLaterOne : ℕ → Type 0
  IsLaterOne r = 4 < r → (a b : ℕ) → Holds r a → Holds r b → a ≡ b

  one_place : (f : SqlFault) → IsLaterOne (rank f) → (a b : ℕ) → Holds (rank f) a → Holds (rank f) b → a ≡ b
  unfolding fault_of
  one_place (BadByte at) later a b h k =
      h.2 ∙ ap (λ (t : Token). t.from) (one_first (λ (t : Token). t.kind ≡ kind.Bad) tokens h.0 k.0 h.1 k.1) ∙ sym k.2
  one_place (Syntax at) later a b h k = one_refusal 64 (lexemes source tokens) a b h k
  one_place (NumberTooLarge at) later a b h k =
      h.2 ∙ ap (λ (t : Token). t.from) (one_first (λ (t : Token). IsTooLarge source t) tokens h.0 k.0 h.1 k.1) ∙ sym k.2
  one_place (TooDeep at) later a b h k = one_depth 64 (lexemes source tokens) a b h k
  one_place (TooMany at) later a b h k = later (omega arith) a b h k
  one_place (UnknownTable at) later a b h k = later (omega arith) a b h k
  one_place (UnknownColumn at) later a b h k = later (omega arith) a b h k
  one_place (NotGrouped at) later a b h k = later (omega arith) a b h k
  one_place (NotSelected at) later a b h k = later (omega arith) a b h k
  one_place (ValueCount at) later a b h k = later (omega arith) a b h k
  one_place (ValueRange at) later a b h k = later (omega arith) a b h k
  one_place Memory later a b h k = later (omega arith) a b h k

  -- neither of two first faults is below the other
  same_rank : (f g : SqlFault) → IsFirstFault source schema tokens f → IsFirstFault source schema tokens g → rank f ≡ rank g
  same_rank f g h k = elim (leb_tells (suc (rank f)) (rank g)) [
    | inl less ↦ absurd (k.1 f less.1 h.0)
    | inr more ↦ elim (leb_tells (suc (rank g)) (rank f)) [
      | inl less ↦ absurd (h.1 g less.1 k.0)
      | inr most ↦ let l = more.1 in let m = most.1 in omega arith
    ]
  ]

  pub one_fault : (f g : SqlFault) → IsLaterOne (rank f) → IsFirstFault source schema tokens f → IsFirstFault source schema tokens g → f ≡ g
  one_fault f g later h k =
      let ranks : rank f ≡ rank g = same_rank f g h k in
      let first : Holds (rank f) (place f) = subst (λ (x : SqlFault). IsFault source schema tokens x) (spelled_out f) h.0 in
      let there : Holds (rank g) (place g) = subst (λ (x : SqlFault). IsFault source schema tokens x) (spelled_out g) k.0 in
      let second : Holds (rank f) (place g) = subst (λ (r : ℕ). Holds r (place g)) (sym ranks) there in
      let places : place f ≡ place g = one_place f later (place f) (place g) first second in
      spelled_out f ∙ ap (λ (r : ℕ). fault_of r (place f)) ranks ∙ ap (λ (at : ℕ). fault_of (rank g) at) places ∙ sym (spelled_out g)

  -- the token past the limits, of a statement that is refused for one
  past_of : (s : Stated) (at : ℕ) → IsStatedMisfit source schema s (TooMany at) → (t : Token) × (slice_get (past_limits_of s) 0 ≡ Some t) × (at ≡ t.from)
  past_of (selects s) at h = h
  past_of (inserts i) at h = absurd h
  past_of (deletes s) at h = h

  -- where each syntax of the tokens has one token past the limits, they are too many at one offset
  pub one_many : (o : Option Token) → ((s : Stated) → IsStatement 64 (lexemes source tokens) s → o ≡ slice_get (past_limits_of s) 0) → IsLaterOne 5
  unfolding fault_of
  one_many o told below a b h k =
      let x = past_of h.0 a h.2 in
      let y = past_of k.0 b k.2 in
      x.2 ∙ ap (λ (t : Token). t.from) (some_same x.0 y.0 o (told h.0 h.1 ∙ x.1) (told k.0 k.1 ∙ y.1)) ∙ sym y.2

  one_grouped : (s : Select) (selection : Selection) (t u : Token) → IsNotGrouped source s selection t → IsNotGrouped source s selection u → t ≡ u
  one_grouped s (Star star) t u h k = h ∙ sym k
  one_grouped s (Listed items) t u h k = h.2 ∙ ap first_token (one_first (IsUngrouped source s) items h.0 k.0 h.1 k.1) ∙ sym k.2

  -- the misfits of one kind of one syntax are at one offset
  abbrev AreOne : (SqlFault → Type 0) → ℕ → Type 0
  AreOne Misfit r = (a b : ℕ) → Misfit (fault_of r a) → Misfit (fault_of r b) → a ≡ b

  one_selected : (s : Select) (f : SqlFault) → AreOne (IsMisfit source schema s) (rank f)
  unfolding fault_of
  one_selected s (BadByte at) a b x y = absurd x
  one_selected s (Syntax at) a b x y = absurd x
  one_selected s (NumberTooLarge at) a b x y = absurd x
  one_selected s (TooDeep at) a b x y = absurd x
  one_selected s (TooMany at) a b x y = x.2 ∙ ap (λ (t : Token). t.from) (some_same x.0 y.0 (slice_get (past_limits s) 0) x.1 y.1) ∙ sym y.2
  one_selected s (UnknownTable at) a b x y = x.1 ∙ sym y.1
  one_selected s (UnknownColumn at) a b x y =
      x.2 ∙ ap (λ (t : Token). t.from) (one_first (λ (t : Token). IsUnknown source schema t) (names s) x.0 y.0 x.1 y.1) ∙ sym y.2
  one_selected s (NotGrouped at) a b x y = x.3 ∙ ap (λ (t : Token). t.from) (one_grouped s s.selection x.1 y.1 x.2 y.2) ∙ sym y.3
  one_selected s (NotSelected at) a b x y =
      x.2 ∙ ap (λ (key : Item). (first_token key).from) (one_first (IsUnselected source schema s) (key_items s.order) x.0 y.0 x.1 y.1) ∙ sym y.2
  one_selected s (ValueCount at) a b x y = absurd x
  one_selected s (ValueRange at) a b x y = absurd x
  one_selected s Memory a b x y = absurd x

  one_inserted : (i : Insertion) (f : SqlFault) → AreOne (IsInsertMisfit source schema i) (rank f)
  unfolding fault_of
  one_inserted i (BadByte at) a b x y = absurd x
  one_inserted i (Syntax at) a b x y = absurd x
  one_inserted i (NumberTooLarge at) a b x y = absurd x
  one_inserted i (TooDeep at) a b x y = absurd x
  one_inserted i (TooMany at) a b x y = absurd x
  one_inserted i (UnknownTable at) a b x y = x.1 ∙ sym y.1
  one_inserted i (UnknownColumn at) a b x y = absurd x
  one_inserted i (NotGrouped at) a b x y = absurd x
  one_inserted i (NotSelected at) a b x y = absurd x
  one_inserted i (ValueCount at) a b x y = x.1 ∙ sym y.1
  one_inserted i (ValueRange at) a b x y =
      x.2 ∙ ap (λ (v : ℕ × Value). v.1.first.from) (one_first (IsUnfit source schema) (enumerate_from 0 i.values) x.0 y.0 x.1 y.1) ∙ sym y.2
  one_inserted i Memory a b x y = absurd x

  one_stated : (s : Stated) (f : SqlFault) → AreOne (IsStatedMisfit source schema s) (rank f)
  one_stated (selects s) f a b x y = one_selected s f a b x y
  one_stated (inserts i) f a b x y = one_inserted i f a b x y
  one_stated (deletes s) f a b x y = one_selected s f a b x y

  -- where the tokens have one syntax, its misfits are at one offset
  module _ (s : Stated) (only : (t : Stated) → IsStatement 64 (lexemes source tokens) t → s ≡ t) where
    of_it : (fault : SqlFault) (t : Stated) → IsStatement 64 (lexemes source tokens) t → IsStatedMisfit source schema t fault → IsStatedMisfit source schema s fault
    of_it fault t is h = subst (λ (x : Stated). IsStatedMisfit source schema x fault) (sym (only t is)) h

    pub one_misfit : (f : SqlFault) → IsLaterOne (rank f)
    unfolding fault_of
    one_misfit (BadByte at) less a b h k = absurd (omega arith)
    one_misfit (Syntax at) less a b h k = absurd (omega arith)
    one_misfit (NumberTooLarge at) less a b h k = absurd (omega arith)
    one_misfit (TooDeep at) less a b h k = absurd (omega arith)
    one_misfit (TooMany at) less a b h k = one_stated s (TooMany at) a b (of_it (TooMany a) h.0 h.1 h.2) (of_it (TooMany b) k.0 k.1 k.2)
    one_misfit (UnknownTable at) less a b h k = one_stated s (UnknownTable at) a b (of_it (UnknownTable a) h.0 h.1 h.2) (of_it (UnknownTable b) k.0 k.1 k.2)
    one_misfit (UnknownColumn at) less a b h k = one_stated s (UnknownColumn at) a b (of_it (UnknownColumn a) h.0 h.1 h.2) (of_it (UnknownColumn b) k.0 k.1 k.2)
    one_misfit (NotGrouped at) less a b h k = one_stated s (NotGrouped at) a b (of_it (NotGrouped a) h.0 h.1 h.2) (of_it (NotGrouped b) k.0 k.1 k.2)
    one_misfit (NotSelected at) less a b h k = one_stated s (NotSelected at) a b (of_it (NotSelected a) h.0 h.1 h.2) (of_it (NotSelected b) k.0 k.1 k.2)
    one_misfit (ValueCount at) less a b h k = one_stated s (ValueCount at) a b (of_it (ValueCount a) h.0 h.1 h.2) (of_it (ValueCount b) k.0 k.1 k.2)
    one_misfit (ValueRange at) less a b h k = one_stated s (ValueRange at) a b (of_it (ValueRange a) h.0 h.1 h.2) (of_it (ValueRange b) k.0 k.1 k.2)
    one_misfit Memory less a b h k = one_stated s Memory a b (of_it Memory h.0 h.1 h.2) (of_it Memory k.0 k.1 k.2)
