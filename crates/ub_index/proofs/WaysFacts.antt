-- Two ways down over the same pages: a way to a key that isn't before where the first one ended ends there or later.
use Rattle.std.proofs.Common.{rules, ◌≡◌, ◌++◌, ◌⊎◌, inl, inr, ℕ, zero, suc, List, [], ◌∷◌, Option, Some, None, IfSome, ◌∙◌, sym, ap, subst, refl}
use Rattle.ub_index.proofs.Common.{all_right, AllByRecursion, ascend_first, ascend_right, AscendTo, at_least, before_le, before_trans, cases_Bool, entries_of}
use Rattle.ub_index.proofs.Common.{Entry, FallsTo, first_or, HoldsKey, IndexView, IsBefore, IsEntry, Key, le_before, le_trans, Leads, LeadsTo, NamesFitting}
use Rattle.ub_index.proofs.Common.{not_before_self, not_both_before, precedes, precedes_of, Region, StoreFacts, top}
use Rattle.ub_index.proofs.WayFacts.{falls_to}

-- two elements of a list: the same place, or one behind the other
pub compare : (b1 : List Entry) (x1 : Entry) (a1 b2 : List Entry) (x2 : Entry) (a2 : List Entry) → b1 ++ (x1 ∷ a1) ≡ b2 ++ (x2 ∷ a2)
    → ((x1 ≡ x2) × (a1 ≡ a2)) ⊎ (((m : List Entry) × (a1 ≡ m ++ (x2 ∷ a2))) ⊎ ((m : List Entry) × (a2 ≡ m ++ (x1 ∷ a1))))
compare [] x1 a1 [] x2 a2 e = inl (cc, cc)
compare [] x1 a1 (y ∷ b2) x2 a2 e = inr (inl (b2, cc))
compare (x ∷ b1) x1 a1 [] x2 a2 e = let same : x2 ∷ a2 ≡ x ∷ (b1 ++ (x1 ∷ a1)) = sym e in inr (inr (b1, cc))
compare (x ∷ b1) x1 a1 (y ∷ b2) x2 a2 e = compare b1 x1 a1 b2 x2 a2 cc

-- the first of entries isn't after one of them
pub first_up_to : (m : List Entry) (x : Entry) (a : List Entry) (end : Option Key) → AscendTo (m ++ (x ∷ a)) end → (first : Key) → first_or (m ++ (x ∷ a)) end ≡ Some first
    → ¬ (IsBefore x.first first)
first_up_to [] x a end up first is = let same : x.first ≡ first = cc in subst (λ (k : Key). ¬ (IsBefore x.first k)) same (not_before_self x.first)
first_up_to (y ∷ m) x a end up first is =
    let same : y.first ≡ first = cc in
    subst (λ (k : Key). ¬ (IsBefore x.first k)) same (λ down. not_both_before y.first x.first (before_later y m x a end up) down)
  where
    before_later : (b : Entry) (before : List Entry) (found : Entry) (after : List Entry) (end : Option Key) → AscendTo (b ∷ (before ++ (found ∷ after))) end → IsBefore b.first found.first
    before_later b [] found after end up = up.0
    before_later b (x ∷ before) found after end up = before_trans b.first x.first found.first up.0 (before_later x before found after end up.1)

-- where entries that end before `end` begin isn't after the end
rest_up_to : (a : List Entry) (end : Option Key) → AscendTo a end → (first last : Key) → first_or a end ≡ Some first → end ≡ Some last → ¬ (IsBefore last first)
rest_up_to a end up first last is is_end = search (rules, not_before_self, ascend_first, not_both_before)

pub with_none : (m : List Entry) (x : Entry) (a : List Entry) (end : Option Key) → first_or (m ++ (x ∷ a)) end ≡ first_or (m ++ (x ∷ a)) None
with_none [] x a end = refl
with_none (y ∷ m) x a end = refl

module _ (last : ℕ) (pages : List (List ℕ)) where
  -- the entry to which a key falls is in range, and begins not before the one above it
  pub whole_below : (key : Key) (level : ℕ) (entry : Entry) (end : Option Key) (below : Entry) (beyond : Option Key) → NamesFitting last pages level entry end
      → FallsTo key (entries_of pages entry.page) end below beyond → IsEntry last below
  whole_below key level entry end below beyond named falls =
      (all_right (IsEntry last) falls.before (below ∷ falls.after) (subst (λ (xs : List Entry). AllByRecursion (IsEntry last) xs) falls.parts named.fits.is.is.entries)).0

  pub from_above : (key : Key) (level : ℕ) (entry : Entry) (end : Option Key) (below : Entry) (beyond : Option Key) → NamesFitting last pages level entry end
      → FallsTo key (entries_of pages entry.page) end below beyond → ¬ (IsBefore below.first entry.first)
  from_above key level entry end below beyond named falls =
      first_up_to falls.before below falls.after end (subst (λ (xs : List Entry). AscendTo xs end) falls.parts named.fits.ascends) entry.first
      (with_none falls.before below falls.after end ∙ subst (λ (xs : List Entry). first_or xs None ≡ Some entry.first) falls.parts named.fits.begins)

  -- the way ends not before where it begins
  pub ends_from : (key : Key) (level : ℕ) (entry : Entry) (end : Option Key) (found : Entry) (next : Option Key) → LeadsTo last pages key level entry end found next
      → ¬ (IsBefore found.first entry.first)
  ends_from key zero entry end found next h = subst (λ (e : Entry). ¬ (IsBefore e.first entry.first)) (sym h.0) (not_before_self entry.first)
  ends_from key (suc level) entry end found next (named, below, beyond, falls, leads) =
      le_trans entry.first below.first found.first (from_above key (suc level) entry end below beyond named falls) (ends_from key level below beyond found next leads)

  pub up_below : (key : Key) (level : ℕ) (entry : Entry) (end : Option Key) (below : Entry) (beyond : Option Key) → NamesFitting last pages level entry end
      → (falls : FallsTo key (entries_of pages entry.page) end below beyond) → AscendTo (below ∷ falls.after) end
  up_below key level entry end below beyond named falls =
      ascend_right falls.before (below ∷ falls.after) end (subst (λ (xs : List Entry). AscendTo xs end) falls.parts named.fits.ascends)

  -- and ends behind it
  pub end_below : (key : Key) (level : ℕ) (entry : Entry) (end : Option Key) (below : Entry) (beyond : Option Key) → NamesFitting last pages level entry end
      → FallsTo key (entries_of pages entry.page) end below beyond → IfSome beyond (IsBefore below.first)
  end_below key level entry end below beyond named falls =
      subst (λ (o : Option Key). IfSome o (IsBefore below.first)) (sym falls.next_is) (up_below key level entry end below beyond named falls).0

  -- and what follows it begins not after the end
  pub ends_to : (key : Key) (level : ℕ) (entry : Entry) (end : Option Key) (found : Entry) (next : Option Key) → LeadsTo last pages key level entry end found next
      → (first limit : Key) → next ≡ Some first → end ≡ Some limit → ¬ (IsBefore limit first)
  ends_to key zero entry end found next h first limit is is_end = let same : first ≡ limit = (let e = h.1 in cc) in subst (λ (k : Key). ¬ (IsBefore k first)) same (not_before_self first)
  ends_to key (suc level) entry end found next (named, below, beyond, falls, leads) first limit is is_end =
      by_beyond beyond refl (λ middle e. ends_to key level below beyond found next leads first middle is e)
    where
      no_end : (a : List Entry) → first_or a end ≡ None → ¬ (IsBefore limit first)
      no_end [] none = cc
      no_end (x ∷ a) none = cc

      by_beyond : (o : Option Key) → beyond ≡ o → ((middle : Key) → beyond ≡ Some middle → ¬ (IsBefore middle first)) → ¬ (IsBefore limit first)
      by_beyond None e below_it = no_end falls.after (sym falls.next_is ∙ e)
      by_beyond (Some middle) e below_it = le_trans first middle limit (below_it middle e) (rest_up_to falls.after end (up_below key (suc level) entry end below beyond named falls).1 middle limit (sym falls.next_is ∙ e) is_end)

  pub two_ways : (k1 k2 : Key) (level : ℕ) (entry : Entry) (end : Option Key) (f1 : Entry) (n1 : Option Key) (f2 : Entry) (n2 : Option Key)
      → LeadsTo last pages k1 level entry end f1 n1 → LeadsTo last pages k2 level entry end f2 n2 → IfSome end (IsBefore k2)
      → (from : Key) → n1 ≡ Some from → IsBefore f1.first from → ¬ (IsBefore k2 from) → ¬ (IsBefore f2.first from)
  two_ways k1 k2 zero entry end f1 n1 f2 n2 h1 h2 to from is before later =
      let is_end : end ≡ Some from = sym h1.1 ∙ is in
      let sooner : IfSome (Some from) (IsBefore k2) = subst (λ (o : Option Key). IfSome o (IsBefore k2)) is_end to in
      absurd (later sooner)
  two_ways k1 k2 (suc level) entry end f1 n1 f2 n2 (named1, x1, o1, falls1, leads1) (named2, x2, o2, falls2, leads2) to from is before later =
      elim (compare falls1.before x1 falls1.after falls2.before x2 falls2.after (sym falls1.parts ∙ falls2.parts)) [
        | inl same ↦
            let nexts : o1 ≡ o2 = falls1.next_is ∙ (ap (λ (a : List Entry). first_or a end) same.1 ∙ sym falls2.next_is) in
            let leads : LeadsTo last pages k1 level x2 o2 f1 n1 =
            subst (λ (e : Entry). LeadsTo last pages k1 level e o2 f1 n1) same.0 (subst (λ (o : Option Key). LeadsTo last pages k1 level x1 o f1 n1) nexts leads1) in
            two_ways k1 k2 level x2 o2 f1 n1 f2 n2 leads leads2 to_below from is before later
        | inr other ↦ elim other [
          | inl behind ↦ later_on behind.0 (subst (λ (xs : List Entry). AscendTo xs end) behind.1 (up_below k1 (suc level) entry end x1 o1 named1 falls1).1) (falls1.next_is ∙ ap (λ (xs : List Entry). first_or xs end) behind.1)
          | inr ahead ↦
              absurd (later (sooner ahead.0 (subst (λ (xs : List Entry). AscendTo xs end) ahead.1 (up_below k2 (suc level) entry end x2 o2 named2 falls2).1)
              (subst (λ (o : Option Key). IfSome o (IsBefore k2)) (falls2.next_is ∙ ap (λ (xs : List Entry). first_or xs end) ahead.1) to_below)))
        ]
      ]
    where
      to_below : IfSome o2 (IsBefore k2)
      to_below = subst (λ (o : Option Key). IfSome o (IsBefore k2)) (sym falls2.next_is) (falls_to k2 falls2.after end to falls2.to)

      first_there : (m : List Entry) (x : Entry) (a : List Entry) → (first : Key) × (first_or (m ++ (x ∷ a)) end ≡ Some first)
      first_there [] x a = (x.first, refl)
      first_there (y ∷ m) x a = (y.first, refl)

      -- the second way goes on behind the first one's next entry
      later_on : (m : List Entry) → AscendTo (m ++ (x2 ∷ falls2.after)) end → o1 ≡ first_or (m ++ (x2 ∷ falls2.after)) end → ¬ (IsBefore f2.first from)
      later_on m up next =
          let first = first_there m x2 falls2.after in
          let to_next = ends_to k1 level x1 o1 f1 n1 leads1 from first.0 is (next ∙ first.1) in
          let to_entry = first_up_to m x2 falls2.after end up first.0 first.1 in
          le_trans from x2.first f2.first (le_trans from first.0 x2.first to_next to_entry) (ends_from k2 level x2 o2 f2 n2 leads2)

      -- the second way stays before the first one's entry
      sooner : (m : List Entry) → AscendTo (m ++ (x1 ∷ falls1.after)) end → IfSome (first_or (m ++ (x1 ∷ falls1.after)) end) (IsBefore k2) → IsBefore k2 from
      sooner m up key_before =
          let first = first_there m x1 falls1.after in
          let k2_before : IsBefore k2 first.0 = subst (λ (o : Option Key). IfSome o (IsBefore k2)) first.1 key_before in
          let to_entry = first_up_to m x1 falls1.after end up first.0 first.1 in
          let to_found = ends_from k1 level x1 o1 f1 n1 leads1 in
          before_trans k2 f1.first from (before_le k2 first.0 f1.first k2_before (le_trans first.0 x1.first f1.first to_entry to_found)) before

-- the region to which the way to a later key leads begins not before that which follows another one
pub never_cross : (index : IndexView) (store : StoreFacts) (key other from : Key) (region found : Region) → Leads index store key region → Leads index store other found
    → HoldsKey key region.first region.next → region.next ≡ Some from → ¬ (IsBefore other from) → ¬ (IsBefore found.first from)
never_cross index store key other from region found first second holds is later =
    let inside : IfSome (Some from) (IsBefore key) = subst (λ (o : Option Key). IfSome o (IsBefore key)) is holds.to in
    two_ways index.last store.pages key other index.levels (top index.root) None (record { first = region.first; page = region.page }) region.next
    (record { first = found.first; page = found.page }) found.next first second tt from is (le_before region.first key from holds.from inside) later

-- the later of two keys isn't before either of them
pub not_before_from : (from : Key) (z : ℕ) → ¬ (IsBefore (at_least from z) from)
not_before_from from z = elim (cases_Bool (precedes (record { z = z; number = 0 }) from)) [
  | inl t ↦ rw t (not_before_self from)
  | inr f ↦ rw f (λ yes. let t = precedes_of (record { z = z; number = 0 }) from yes in cc)
]
