-- The regions beside one, over any pages: where what is found isn't its neighbour, two regions overlap.
use Rattle.std.proofs.Common.{rules, ◌≡◌, ◌<◌, ◌^◌, ◌∙◌, ◌⊎◌, inl, inr, ℕ, Bool, Option, Some, None, IfSome, Ok, Err, ap, sym, subst, refl, arith}
use Rattle.ub_tree.proofs.Common.{before_trans, FallsTo, GivesAny, GoesDown, IndexView, IsBefore, IsHonest, Key, key_before, le_before, not_before_self}
use Rattle.ub_tree.proofs.Common.{OutOfRegion, Page, PagerView, Region, Schema, Searches, tree_view, TreeFault, TreeView}
use Rattle.ub_tree.proofs.SearchFacts.{not_empty, overlaps}

key_with : ℕ → ℕ → Key
key_with z number = record { z = z; number = number }

-- of two keys that aren't one, and of which the first isn't before the second, the second is before the first
same_or_later : (a b : Key) → ¬ (IsBefore a b) → (a ≡ b) ⊎ IsBefore b a
unfolding key_with
same_or_later a b h = search rules

-- what follows the first key of a span, which another span holds, is where that span begins, over an honest store
pub next_begins : (t : TreeView) (key next_key : Key) (span next : Region) → FallsTo t key span → span.next ≡ Some next_key → FallsTo t next_key next → (span.next ≡ Some next.first) ⊎ (¬ (IsHonest t.store))
next_begins t key next_key span next falls next_is next_falls = elim (same_or_later next_key next.first next_falls.holds.from) [
  | inl same ↦ inl (next_is ∙ ap (λ (k : Key). Some k) same)
  | inr later ↦
      let within = not_empty key span.first span.next falls.holds in
      let sooner : IsBefore span.first next_key = subst (λ (o : Option Key). IfSome o (IsBefore span.first)) next_is within in
      inr (overlaps t key next_key span next falls next_falls
      (λ one. not_before_self next_key (subst (λ (o : Option Key). IfSome o (IsBefore next_key)) (sym (ap (λ (s : Region). s.next) one) ∙ next_is) next_falls.holds.to))
      within (subst (λ (o : Option Key). IfSome o (IsBefore next.first)) (sym next_is) later) (before_end next.next next_falls.holds.to sooner)
      (not_empty next_key next.first next.next next_falls.holds))
]
  where
    before_end : (o : Option Key) → IfSome o (IsBefore next_key) → IsBefore span.first next_key → IfSome o (IsBefore span.first)
    before_end None h k = tt
    before_end (Some end) h k = before_trans span.first next_key end k h

-- the greatest key before one of 32 bits: no key of 32 bits lies between
greatest_before : (z n : ℕ) (key : Key) → key_before z n ≡ Some key
    → IsBefore key (record { z = z; number = n }) × ((end : Key) → end.number < 2 ^ 32 → IsBefore end (record { z = z; number = n }) → ¬ (IsBefore key end))
greatest_before z n key h = search rules

-- the span that holds the greatest key before that with which another span begins ends there, over an honest store
pub before_ends : (t : TreeView) (key before_key : Key) (span before : Region) → FallsTo t key span → key_before span.first.z span.first.number ≡ Some before_key → FallsTo t before_key before
    → IfSome before.next (λ k. k.number < 2 ^ 32) → (before.next ≡ Some span.first) ⊎ (¬ (IsHonest t.store))
before_ends t key before_key span before falls before_is before_falls small = by_next before.next refl small before_falls.holds.to
  where
    greatest : IsBefore before_key span.first × ((end : Key) → end.number < 2 ^ 32 → IsBefore end span.first → ¬ (IsBefore before_key end))
    greatest = greatest_before span.first.z span.first.number before_key before_is

    sooner : IsBefore before.first span.first
    sooner = le_before before.first before_key span.first before_falls.holds.from greatest.0

    within : IfSome span.next (IsBefore span.first)
    within = not_empty key span.first span.next falls.holds

    before_end : (o : Option Key) → IfSome o (IsBefore span.first) → IfSome o (IsBefore before.first)
    before_end None h = tt
    before_end (Some end) h = before_trans before.first span.first end sooner h

    over : IfSome before.next (IsBefore span.first) → ¬ (IsHonest t.store)
    over later =
        overlaps t before_key key before span before_falls falls
        (λ one. not_before_self span.first (subst (λ (k : Key). IsBefore k span.first) (ap (λ (s : Region). s.first) one) sooner))
        (not_empty before_key before.first before.next before_falls.holds) later (before_end span.next within) within

    by_next : (o : Option Key) → before.next ≡ o → IfSome o (λ k. k.number < 2 ^ 32) → IfSome o (IsBefore before_key) → (before.next ≡ Some span.first) ⊎ (¬ (IsHonest t.store))
    by_next None is few to = inr (over (subst (λ (o : Option Key). IfSome o (IsBefore span.first)) (sym is) tt))
    by_next (Some end) is few to = elim (same_or_later end span.first (λ down. greatest.1 end few down to)) [
      | inl same ↦ inl (is ∙ ap (λ (k : Key). Some k) same)
      | inr later ↦ inr (over (subst (λ (o : Option Key). IfSome o (IsBefore span.first)) (sym is) later))
    ]

-- what is given for a key that there may be
pub given_next : (t : TreeView) (sought : Option Key) (span : Region) → GivesAny t.inner.index t.store sought (Some span) → (key : Key) × (sought ≡ Some key) × FallsTo t key span
given_next t None span h = cc
given_next t (Some key) span h = (key, refl, h)

-- a refusal that follows a search
module _ (schema : Schema) (i : IndexView) (count next rows : ℕ) (changed failed : Bool) (old new : PagerView) (Sought : Key → Type 0) where
  abbrev before : TreeView
  before = tree_view schema i count next rows changed failed old

  pub search_apart : {T : Type 0} (U : Type 0) (y : U) (fault : TreeFault) → GoesDown {A = U} Sought i old new (Ok y) → fault ≡ Page i.root OutOfRegion → ¬ (IsHonest old.store)
      → Searches {A = T} before (tree_view schema i count next rows changed failed new) (Err fault)
  search_apart U y fault h k j = search rules

-- a number of 32 bits that is one's
pub few_of : {A : Type 0} (number : A → ℕ) (o : Option A) (n : ℕ) → n < 4294967296 → IfSome o (λ x. n ≡ number x) → IfSome o (λ x. number x < 2 ^ 32)
few_of number None n lt is = tt
few_of number (Some x) n lt is = omega arith
