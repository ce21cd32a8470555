-- Slots for numbers as a list of changes.
use Rattle.std.proofs.Common.{Bool, IsTrue, not, true, false, nat_lt, slice_index_or, ◌≡◌, ◌<◌, ◌≤◌, ◌+◌, ◌++◌, ℕ, zero, suc, List, [], ◌∷◌, Option, Some, None, length, nat_eq, refl, sym, ap, ◌∙◌, inl, inr, arith, slice_set}
use Rattle.std.specs.Prelude.{Box}
use Rattle.std.proofs.lemmas.Bool.{cases_Bool, eqb-true, eq-eqb, ltb-true, ltb-false}
use Rattle.std.specs.List.{list_any}
use Rattle.std.specs.Option.{is_some, option_map, IfNone}
use Rattle.std.specs.declared.alloc.Global.{Global}
use Rattle.ub_journal.specs.Image.{IsUntouched}
use Rattle.ub_journal.specs.declared.journal.Change.{Change}
use Rattle.ub_overlay.specs.Changes.{change, changed_page, held_from, put_change, AreAbove}
use Rattle.ub_overlay.proofs.ChangeFacts.{compared, below, equal, above}

abbrev pub Slots : Type 0
Slots = List (Option (Box (List ℕ) Global))

-- the page in the slot of this place, if there is one
abbrev pub page_in : Slots → ℕ → Option (List ℕ)
page_in [] i = None
page_in (s ∷ ss) zero = option_map (λ b. b.value) s
page_in (s ∷ ss) (suc i) = page_in ss i

pub above_from : (n k : ℕ) (ss : Slots) → n < k → AreAbove n (held_from k ss)
above_from n k [] less = tt
above_from n k (None ∷ ss) less = above_from n (k + 1) ss (omega (arith, less))
above_from n k (Some b ∷ ss) less = (less, above_from n (k + 1) ss (omega (arith, less)))

none_above : (n m : ℕ) (cs : List Change) → m ≤ n → AreAbove n cs → changed_page cs m ≡ None
none_above n m [] le after = refl
none_above n m (c ∷ cs) le after = elim (cases_Bool (nat_eq m c.number)) [
  | inl t ↦ let same = eqb-true m c.number t in let over = after.0 in absurd (omega (arith, same, over, le))
  | inr f ↦ rw f (none_above n m cs le after.1)
]

put_before : (n : ℕ) (page : List ℕ) (cs : List Change) → AreAbove n cs → put_change (change n page) cs ≡ change n page ∷ cs
put_before n page [] after = refl
put_before n page (d ∷ ds) after = elim (compared n d.number) [
  | below is less ↦ rw is refl
  | equal is same ↦ let over = after.0 in absurd (omega (arith, same, over))
  | above is more ↦ let over = after.0 in absurd (omega (arith, more, over))
]

-- the page of a number is that of its slot
found_at : (k i : ℕ) (ss : Slots) → changed_page (held_from k ss) (k + i) ≡ page_in ss i
found_at k i [] = refl
found_at k zero (None ∷ ss) = none_above k (k + 0) (held_from (k + 1) ss) (omega arith) (above_from k (k + 1) ss (omega arith))
found_at k zero (Some b ∷ ss) = rw (eq-eqb (k + 0) k (omega arith)) refl
found_at k (suc i) (None ∷ ss) = let next : k + suc i ≡ (k + 1) + i = omega arith in ap (changed_page (held_from (k + 1) ss)) next ∙ found_at (k + 1) i ss
found_at k (suc i) (Some b ∷ ss) = elim (cases_Bool (nat_eq (k + suc i) k)) [
  | inl t ↦ let same = eqb-true (k + suc i) k t in absurd (omega (arith, same))
  | inr f ↦ let next : k + suc i ≡ (k + 1) + i = omega arith in rw f (ap (changed_page (held_from (k + 1) ss)) next ∙ found_at (k + 1) i ss)
]

pub found : (i : ℕ) (ss : Slots) → changed_page (held_from 0 ss) i ≡ page_in ss i
found i ss = let same : i ≡ 0 + i = omega arith in ap (changed_page (held_from 0 ss)) same ∙ found_at 0 i ss

-- what is put in a slot is put among the changes
set_at : (k i : ℕ) (b : Box (List ℕ) Global) (ss : Slots) → i < length ss → held_from k (slice_set ss i (Some b)) ≡ put_change (change (k + i) b.value) (held_from k ss)
set_at k i b [] within = absurd (omega (arith, within))
set_at k zero b (None ∷ ss) within =
    let same : k + 0 ≡ k = omega arith in
    sym (ap (λ n. put_change (change n b.value) (held_from (k + 1) ss)) same ∙ put_before k b.value (held_from (k + 1) ss) (above_from k (k + 1) ss (omega arith)))
set_at k zero b (Some c ∷ ss) within = elim (compared (k + 0) k) [
  | below is less ↦ absurd (omega (arith, less))
  | equal is same ↦ rw is (ap (λ n. change n b.value ∷ held_from (k + 1) ss) (sym same))
  | above is more ↦ absurd (omega (arith, more))
]
set_at k (suc i) b (None ∷ ss) within =
    let next : (k + 1) + i ≡ k + suc i = omega arith in
    set_at (k + 1) i b ss (omega (arith, within)) ∙ ap (λ n. put_change (change n b.value) (held_from (k + 1) ss)) next
set_at k (suc i) b (Some c ∷ ss) within = elim (compared (k + suc i) k) [
  | below is less ↦ absurd (omega (arith, less))
  | equal is same ↦ absurd (omega (arith, same))
  | above is more ↦
      let next : (k + 1) + i ≡ k + suc i = omega arith in
      rw is (ap (λ cs. change k c.value ∷ cs) (set_at (k + 1) i b ss (omega (arith, within)) ∙ ap (λ n. put_change (change n b.value) (held_from (k + 1) ss)) next))
]

pub put_at : (i : ℕ) (b : Box (List ℕ) Global) (ss : Slots) → i < length ss → held_from 0 (slice_set ss i (Some b)) ≡ put_change (change i b.value) (held_from 0 ss)
put_at i b ss within = let same : 0 + i ≡ i = omega arith in set_at 0 i b ss within ∙ ap (λ n. put_change (change n b.value) (held_from 0 ss)) same

-- an empty slot more holds nothing
pub one_more : (k : ℕ) (ss : Slots) → held_from k (ss ++ None ∷ []) ≡ held_from k ss
one_more k [] = refl
one_more k (None ∷ ss) = one_more (k + 1) ss
one_more k (Some b ∷ ss) = ap (λ cs. change k b.value ∷ cs) (one_more (k + 1) ss)

-- the page of a slot that was looked up, and of one past the last
pub slot_page : (ss : Slots) (i : ℕ) (s d : Option (Box (List ℕ) Global)) → i < length ss → s ≡ slice_index_or ss i d → page_in ss i ≡ option_map (λ b. b.value) s
slot_page [] i s d within is = absurd (omega (arith, within))
slot_page (t ∷ ss) zero s d within is = ap (option_map (λ b. b.value)) (sym is)
slot_page (t ∷ ss) (suc i) s d within is = slot_page ss i s d (omega (arith, within)) is

pub got_page : (ss : Slots) (i : ℕ) (s d : Option (Box (List ℕ) Global)) → true ≡ nat_lt i (length ss) → s ≡ slice_index_or ss i d → page_in ss i ≡ option_map (λ b. b.value) s
got_page ss i s d within is = slot_page ss i s d (ltb-true i (length ss) (sym within)) is

pub no_page : (ss : Slots) (i : ℕ) → length ss ≤ i → page_in ss i ≡ None
no_page [] i past = refl
no_page (t ∷ ss) zero past = absurd (omega (arith, past))
no_page (t ∷ ss) (suc i) past = no_page ss i (omega (arith, past))

pub got_none : (ss : Slots) (i : ℕ) → false ≡ nat_lt i (length ss) → page_in ss i ≡ None
got_none ss i past = no_page ss i (ltb-false i (length ss) (sym past))

-- whether there are changes
pub none_held : (k : ℕ) (ss : Slots) → list_any is_some ss ≡ false → held_from k ss ≡ []
none_held k [] is = refl
none_held k (None ∷ ss) is = none_held (k + 1) ss is
none_held k (Some b ∷ ss) is = cc

pub any_held : (k : ℕ) (ss : Slots) → held_from k ss ≡ [] → list_any is_some ss ≡ false
any_held k [] is = refl
any_held k (None ∷ ss) is = any_held (k + 1) ss is
any_held k (Some b ∷ ss) is = cc

-- where no page stands in the first slot, taking it out leaves all as it is
above_none : (n : ℕ) (cs : List Change) → AreAbove n cs → IsUntouched cs n
above_none n [] after = tt
above_none n (c ∷ cs) after = (let over = after.0 in λ e. omega (arith, over, e), above_none n cs after.1)

pub none_out : (s : Option (Box (List ℕ) Global)) (ss : Slots) (d : Option (Box (List ℕ) Global)) → 0 < length ss → s ≡ slice_index_or ss 0 d
    → IfNone s ((held_from 0 (slice_set ss 0 None) ≡ held_from 0 ss) × IsUntouched (held_from 0 ss) 0)
none_out s [] d some is = absurd (omega (arith, some))
none_out (Some b) (t ∷ ss) d some is = tt
none_out None (None ∷ ss) d some is = (refl, above_none 0 (held_from (0 + 1) ss) (above_from 0 (0 + 1) ss (omega arith)))
none_out None (Some b ∷ ss) d some is = cc

pub empty_is : (b : Bool) (ss : Slots) → b ≡ list_any is_some ss → (IsTrue (not b) → held_from 0 ss ≡ []) × (held_from 0 ss ≡ [] → IsTrue (not b))
empty_is true ss is = (λ t. absurd (cc t), λ e. let none = any_held 0 ss e in cc)
empty_is false ss is = (λ t. none_held 0 ss (sym is), λ e. refl)
