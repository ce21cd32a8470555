-- Lists of entries in order, cut and put together; each says what the end of the first part is.
use Rattle.std.proofs.Common.{◌≡◌, ◌++◌, ℕ, List, [], ◌∷◌, Option, Some, None, IfSome, ◌∙◌, sym, ap, subst, refl}
use Rattle.std.specs.List.{AllByRecursion, flat_map}
use Rattle.ub_index.specs.Index.{first_or, AscendTo, EachTo}
use Rattle.ub_page.specs.Entries.{AreAscending}
use Rattle.ub_region.specs.declared.entry.Entry.{Entry}
use Rattle.ub_region.proofs.Laws.{all_append, all_left, all_right}
use Rattle.ub_table.proofs.Laws.{before_trans}
use Rattle.ub_table.specs.Keys.{IsBefore}
use Rattle.ub_table.specs.declared.row.Key.{Key}
use Rattle.ub_index.proofs.KeyFacts.{before_le}

pub first_append : (xs ys : List Entry) (end : Option Key) → first_or (xs ++ ys) end ≡ first_or xs (first_or ys end)
first_append [] ys end = refl
first_append (x ∷ xs) ys end = refl

pub ascend_left : (xs ys : List Entry) (end : Option Key) → AscendTo (xs ++ ys) end → AscendTo xs (first_or ys end)
ascend_left [] ys end h = tt
ascend_left (x ∷ xs) ys end h = (subst (λ (o : Option Key). IfSome o (IsBefore x.first)) (first_append xs ys end) h.0, ascend_left xs ys end h.1)

pub ascend_right : (xs ys : List Entry) (end : Option Key) → AscendTo (xs ++ ys) end → AscendTo ys end
ascend_right [] ys end h = h
ascend_right (x ∷ xs) ys end h = ascend_right xs ys end h.1

pub ascend_join : (xs ys : List Entry) (end : Option Key) → AscendTo xs (first_or ys end) → AscendTo ys end → AscendTo (xs ++ ys) end
ascend_join [] ys end h k = k
ascend_join (x ∷ xs) ys end h k = (subst (λ (o : Option Key). IfSome o (IsBefore x.first)) (sym (first_append xs ys end)) h.0, ascend_join xs ys end h.1 k)

pub each_left : (P : Entry → Option Key → Type 0) (xs ys : List Entry) (end : Option Key) → EachTo P (xs ++ ys) end → EachTo P xs (first_or ys end)
each_left P [] ys end h = tt
each_left P (x ∷ xs) ys end h = (subst (λ (o : Option Key). P x o) (first_append xs ys end) h.0, each_left P xs ys end h.1)

pub each_right : (P : Entry → Option Key → Type 0) (xs ys : List Entry) (end : Option Key) → EachTo P (xs ++ ys) end → EachTo P ys end
each_right P [] ys end h = h
each_right P (x ∷ xs) ys end h = each_right P xs ys end h.1

pub each_join : (P : Entry → Option Key → Type 0) (xs ys : List Entry) (end : Option Key) → EachTo P xs (first_or ys end) → EachTo P ys end → EachTo P (xs ++ ys) end
each_join P [] ys end h k = k
each_join P (x ∷ xs) ys end h k = (subst (λ (o : Option Key). P x o) (sym (first_append xs ys end)) h.0, each_join P xs ys end h.1 k)

pub ascending_of : (entries : List Entry) (end : Option Key) → AscendTo entries end → AreAscending entries
ascending_of (x ∷ y ∷ entries) end h = (h.0, ascending_of (y ∷ entries) end h.1)
ascending_of entries end h = tt

-- an end that isn't before another one
abbrev pub IsNotBefore : Option Key → Option Key → Type 0
IsNotBefore None None = Unit {0}
IsNotBefore None (Some later) = ⊥
IsNotBefore (Some end) None = Unit {0}
IsNotBefore (Some end) (Some later) = ¬ (IsBefore later end)

pub if_later : (key : Key) (end later : Option Key) → IfSome end (IsBefore key) → IsNotBefore end later → IfSome later (IsBefore key)
if_later key None (Some b) h k = absurd k
if_later key (Some a) (Some b) h k = before_le key a b h k
if_later key end later h k = tt

pub ascend_later : (xs : List Entry) (end later : Option Key) → AscendTo xs end → IsNotBefore end later → AscendTo xs later
ascend_later [] end later h k = tt
ascend_later (x ∷ []) end later h k = (if_later x.first end later h.0 k, tt)
ascend_later (x ∷ y ∷ xs) end later h k = (h.0, ascend_later (y ∷ xs) end later h.1 k)

pub each_later : (P : Entry → Option Key → Type 0) → ((e : Entry) (end later : Option Key) → P e end → IsNotBefore end later → P e later)
    → (xs : List Entry) (end later : Option Key) → EachTo P xs end → IsNotBefore end later → EachTo P xs later
each_later P grow [] end later h k = tt
each_later P grow (x ∷ []) end later h k = (grow x end later h.0 k, tt)
each_later P grow (x ∷ y ∷ xs) end later h k = (h.0, each_later P grow (y ∷ xs) end later h.1 k)

-- the first of entries in order is before the end
pub ascend_first : (x : Entry) (xs : List Entry) (end : Option Key) → AscendTo (x ∷ xs) end → IfSome end (IsBefore x.first)
ascend_first x [] end h = h.0
ascend_first x (y ∷ xs) None h = tt
ascend_first x (y ∷ xs) (Some key) h = before_trans x.first y.first key h.0 (ascend_first y xs (Some key) h.1)

-- two functions of entries agree on a list where they agree on each whose numbers all have a property
pub same_each : {X : Type 0} (P : ℕ → Type 0) (numbers : Entry → List ℕ) (f g : Entry → List X) → ((x : Entry) → AllByRecursion P (numbers x) → f x ≡ g x)
    → (xs : List Entry) → AllByRecursion P (flat_map numbers xs) → flat_map f xs ≡ flat_map g xs
same_each P numbers f g same [] h = refl
same_each {X = X} P numbers f g same (x ∷ xs) h =
    ap (λ (a : List X). a ++ flat_map f xs) (same x (all_left P (numbers x) (flat_map numbers xs) h))
    ∙ ap (λ (b : List X). g x ++ b) (same_each P numbers f g same xs (all_right P (numbers x) (flat_map numbers xs) h))

pub each_same : (P : ℕ → Type 0) (numbers : Entry → List ℕ) (A B : Entry → Option Key → Type 0) → ((x : Entry) (end : Option Key) → AllByRecursion P (numbers x) → A x end → B x end)
    → (xs : List Entry) (end : Option Key) → AllByRecursion P (flat_map numbers xs) → EachTo A xs end → EachTo B xs end
each_same P numbers A B same [] end h k = tt
each_same P numbers A B same (x ∷ xs) end h k =
    (same x (first_or xs end) (all_left P (numbers x) (flat_map numbers xs) h) k.0, each_same P numbers A B same xs end (all_right P (numbers x) (flat_map numbers xs) h) k.1)

-- what holds of all that each of entries gives holds of all that they give
pub each_all : {X : Type 0} (Q : X → Type 0) (give : Entry → List X) (P : Entry → Option Key → Type 0) → ((x : Entry) (end : Option Key) → P x end → AllByRecursion Q (give x))
    → (xs : List Entry) (end : Option Key) → EachTo P xs end → AllByRecursion Q (flat_map give xs)
each_all Q give P all [] end h = tt
each_all Q give P all (x ∷ xs) end h = all_append Q (give x) (flat_map give xs) (all x (first_or xs end) h.0) (each_all Q give P all xs end h.1)
