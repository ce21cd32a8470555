-- What the calls of an `LruCache` of boxed pages do to a look-up of each number.
use Rattle.std.proofs.Common.{◌≡◌, ◌≢◌, ◌-◌, ℕ, zero, suc, List, [], ◌∷◌, ◌++◌, take, Option, Some, None, true, false, cond, nat_eq, refl, sym, ap, ◌∙◌, inl, inr}
use Rattle.std.specs.Prelude.{Box}
use Rattle.std.specs.Borrow.{Bor}
use Rattle.std.proofs.lemmas.Bool.{cases_Bool, eqb-true, eq-eqb}
use Rattle.std.proofs.lemmas.Map.{lookup-remove_entry}
use Rattle.std.specs.Cmp.{nat_eq_equiv}
use Rattle.std.specs.List.{IsDistinct, slice_get}
use Rattle.std.specs.Option.{option_map_or, is_some, option_map, option_copied}
use Rattle.std.specs.Map.Iter.{deref_pair}
use Rattle.std.specs.Map.{lookup, lookup_entry, remove_entry, set_value, keys_of}
use Rattle.std.specs.declared.alloc.Global.{Global}
use Rattle.lru.specs.LruCache.{LruCache, demoted, promoted, put_entries}
use Rattle.lru.proofs.CallerLemmas.{lookup-put_entries}
use Rattle.ub_store.specs.Cache.{pages_of, page_at}

module _ {V : Type 0} where
  -- what is there is something
  pub some_of : (o : Option V) → is_some o ≡ true → (x : V) × (o ≡ Some x)
  some_of None h = cc
  some_of (Some x) h = (x, refl)

  entry_is : (k : ℕ) (es : List (ℕ × V)) (e : ℕ × V) → lookup_entry (nat_eq k) es ≡ Some e → (e.0 ≡ k) × (lookup (nat_eq k) es ≡ Some e.1)
  entry_is k [] e h = cc
  entry_is k (f ∷ es) e h = elim (cases_Bool (nat_eq k f.0)) [
    | inl t ↦ let h' = rw t at h in let same : f ≡ e = cc in
        (sym (eqb-true k e.0 (rw same at t)), rw t (ap (λ (g : ℕ × V). Some g.1) same))
    | inr n ↦ let on = entry_is k es e (rw n at h) in (on.0, rw n on.1)
  ]

  lookup_apart : (k q : ℕ) → k ≢ q → (es : List (ℕ × V)) → lookup (nat_eq q) (remove_entry (nat_eq k) es) ≡ lookup (nat_eq q) es
  lookup_apart k q ne [] = refl
  lookup_apart k q ne (f ∷ es) = elim (cases_Bool (nat_eq k f.0)) [
    | inl t ↦ elim (cases_Bool (nat_eq q f.0)) [
      | inl u ↦ absurd (ne (eqb-true k f.0 t ∙ sym (eqb-true q f.0 u)))
      | inr m ↦ rw (t, m) refl
    ]
    | inr n ↦ rw n (ap (λ (o : Option V). cond (nat_eq q f.0) (Some f.1) o) (lookup_apart k q ne es))
  ]

  lookup_take : (n q : ℕ) (es : List (ℕ × V)) (v : V) → lookup (nat_eq q) (take n es) ≡ Some v → lookup (nat_eq q) es ≡ Some v
  lookup_take zero q es v h = cc
  lookup_take (suc n) q [] v h = h
  lookup_take (suc n) q (f ∷ es) v h = elim (cases_Bool (nat_eq q f.0)) [
    | inl t ↦ rw t (rw t at h)
    | inr m ↦ rw m (lookup_take n q es v (rw m at h))
  ]

  -- a look-up of any key is as it was
  lookup-promoted : (k q : ℕ) (es : List (ℕ × V)) → lookup (nat_eq q) (promoted (nat_eq k) es) ≡ lookup (nat_eq q) es
  lookup-promoted k q es = by_entry (lookup_entry (nat_eq k) es) refl
    where
      by_entry : (o : Option (ℕ × V)) → lookup_entry (nat_eq k) es ≡ o → lookup (nat_eq q) (option_map_or (λ e. e ∷ remove_entry (nat_eq k) es) o es) ≡ lookup (nat_eq q) es
      by_entry None h = refl
      by_entry (Some e) h = let found = entry_is k es e h in elim (cases_Bool (nat_eq q e.0)) [
        | inl t ↦ let same : q ≡ k = eqb-true q e.0 t ∙ found.0 in rw t (sym (rw (← same) at found.1))
        | inr n ↦ rw n (lookup_apart k q (λ s. let t : nat_eq q e.0 ≡ true = eq-eqb q e.0 (sym (found.0 ∙ s)) in cc) es)
      ]

  gone_at : (k : ℕ) (es : List (ℕ × V)) → IsDistinct nat_eq (keys_of es) → lookup (nat_eq k) (remove_entry (nat_eq k) es) ≡ None
  gone_at k es distinct =
      let gone = lookup-remove_entry nat_eq_equiv (nat_eq k) (λ x y t. rw (eqb-true k x t) refl) k es distinct in
      let self : nat_eq k k ≡ true = eq-eqb k k refl in
      rw self at gone

  lookup_last : (q : ℕ) (es : List (ℕ × V)) (e : ℕ × V) → lookup (nat_eq q) es ≡ None → lookup (nat_eq q) (es ++ e ∷ []) ≡ cond (nat_eq q e.0) (Some e.1) None
  lookup_last q [] e none = refl
  lookup_last q (f ∷ es) e none = elim (cases_Bool (nat_eq q f.0)) [
    | inl t ↦ let is = rw t at none in cc
    | inr m ↦ rw m (lookup_last q es e (rw m at none))
  ]

  lookup_before_last : (q : ℕ) (es : List (ℕ × V)) (e : ℕ × V) → nat_eq q e.0 ≡ false → lookup (nat_eq q) (es ++ e ∷ []) ≡ lookup (nat_eq q) es
  lookup_before_last q [] e other = rw other refl
  lookup_before_last q (f ∷ es) e other = ap (λ (o : Option V). cond (nat_eq q f.0) (Some f.1) o) (lookup_before_last q es e other)

  -- a look-up of any key is as it was
  lookup-demoted : (k q : ℕ) (es : List (ℕ × V)) → IsDistinct nat_eq (keys_of es) → lookup (nat_eq q) (demoted (nat_eq k) es) ≡ lookup (nat_eq q) es
  lookup-demoted k q es distinct = by_entry (lookup_entry (nat_eq k) es) refl
    where
      by_entry : (o : Option (ℕ × V)) → lookup_entry (nat_eq k) es ≡ o → lookup (nat_eq q) (option_map_or (λ e. remove_entry (nat_eq k) es ++ e ∷ []) o es) ≡ lookup (nat_eq q) es
      by_entry None h = refl
      by_entry (Some e) h = let found = entry_is k es e h in elim (cases_Bool (nat_eq q e.0)) [
        | inl t ↦
            let same : q ≡ k = eqb-true q e.0 t ∙ found.0 in
            let gone : lookup (nat_eq q) (remove_entry (nat_eq k) es) ≡ None = rw same (gone_at k es distinct) in
            let last = lookup_last q (remove_entry (nat_eq k) es) e gone in
            (rw t at last) ∙ sym (rw (← same) at found.1)
        | inr n ↦
            lookup_before_last q (remove_entry (nat_eq k) es) e n
            ∙ lookup_apart k q (λ s. let t : nat_eq q e.0 ≡ true = eq-eqb q e.0 (sym (found.0 ∙ s)) in cc) es
      ]

  -- a look-up of another key is as it was, or finds nothing
  lookup-put_other : (c : LruCache ℕ V) (k q : ℕ) (v w : V) → k ≢ q → lookup (nat_eq q) (put_entries nat_eq c k v) ≡ Some w → lookup (nat_eq q) c.entries ≡ Some w
  lookup-put_other c k q v w ne = by_entry (lookup_entry (nat_eq k) c.entries) refl
    where
      by_entry : (o : Option (ℕ × V)) → lookup_entry (nat_eq k) c.entries ≡ o
          → lookup (nat_eq q) (option_map_or (λ e. (e.0, v) ∷ remove_entry (nat_eq k) c.entries) o ((k, v) ∷ take (c.cap - 1) c.entries)) ≡ Some w → lookup (nat_eq q) c.entries ≡ Some w
      by_entry None h f = elim (cases_Bool (nat_eq q k)) [
        | inl t ↦ absurd (ne (sym (eqb-true q k t)))
        | inr n ↦ lookup_take (c.cap - 1) q c.entries w (rw n at f)
      ]
      by_entry (Some e) h f = let found = entry_is k c.entries e h in elim (cases_Bool (nat_eq q e.0)) [
        | inl t ↦ absurd (ne (sym (eqb-true q e.0 t ∙ found.0)))
        | inr n ↦ rw (lookup_apart k q ne c.entries) at (rw n at f)
      ]

  -- a look-up of the key whose value was set finds that value, where it found one
  lookup-set_same : (k : ℕ) (w : V) (es : List (ℕ × V)) → lookup (nat_eq k) (set_value (nat_eq k) es w) ≡ option_map (λ _. w) (lookup (nat_eq k) es)
  lookup-set_same k w [] = refl
  lookup-set_same k w (e ∷ es) = elim (cases_Bool (nat_eq k e.0)) [
    | inl t ↦ rw (t, t) refl
    | inr f ↦ rw (f, f) (lookup-set_same k w es)
  ]

  lookup-set_other : (k n : ℕ) (w : V) (es : List (ℕ × V)) → n ≢ k → lookup (nat_eq n) (set_value (nat_eq k) es w) ≡ lookup (nat_eq n) es
  lookup-set_other k n w [] ne = refl
  lookup-set_other k n w (e ∷ es) ne = elim (cases_Bool (nat_eq k e.0)) [
    | inl t ↦ elim (cases_Bool (nat_eq n e.0)) [
      | inl u ↦ absurd (ne (eqb-true n e.0 u ∙ sym (eqb-true k e.0 t)))
      | inr m ↦ rw (t, m) refl
    ]
    | inr f ↦ rw f (ap (λ (o : Option V). cond (nat_eq n e.0) (Some e.1) o) (lookup-set_other k n w es ne))
  ]

  entry_of_some : {e f : ℕ × V} → Some e ≡ Some f → e ≡ f
  entry_of_some h = cc

module _ where
  abbrev Entries : Type 0
  Entries = List (ℕ × Box (List ℕ) Global)

  -- the page under a number is that of the box that is found there
  page_at-lookup : (n : ℕ) (es : Entries) → page_at (pages_of es) n ≡ option_map (λ b. b.value) (lookup (nat_eq n) es)
  page_at-lookup n [] = refl
  page_at-lookup n (e ∷ es) = elim (cases_Bool (nat_eq n e.0)) [
    | inl t ↦ rw t refl
    | inr m ↦ rw m (page_at-lookup n es)
  ]

  same_at : (n : ℕ) (es fs : Entries) → lookup (nat_eq n) fs ≡ lookup (nat_eq n) es → page_at (pages_of fs) n ≡ page_at (pages_of es) n
  same_at n es fs h = page_at-lookup n fs ∙ ap (option_map (λ b. b.value)) h ∙ sym (page_at-lookup n es)

  at_found : (n : ℕ) (es : Entries) (b : Box (List ℕ) Global) → lookup (nat_eq n) es ≡ Some b → page_at (pages_of es) n ≡ Some b.value
  at_found n es b h = page_at-lookup n es ∙ ap (option_map (λ b. b.value)) h

  at_none : (n : ℕ) (es : Entries) → lookup (nat_eq n) es ≡ None → page_at (pages_of es) n ≡ None
  at_none n es h = page_at-lookup n es ∙ ap (option_map (λ b. b.value)) h

  is_some-map : (o : Option (Box (List ℕ) Global)) → is_some (option_map (λ b. b.value) o) ≡ is_some o
  is_some-map None = refl
  is_some-map (Some b) = refl

  by_box : (o : Option (Box (List ℕ) Global)) (page : List ℕ) → option_map (λ b. b.value) o ≡ Some page
      → (b : Box (List ℕ) Global) × (o ≡ Some b) × (b.value ≡ page)
  by_box None page h = cc
  by_box (Some b) page h = (b, refl, cc)

  over_box : (o : Option (Box (List ℕ) Global)) (w : Box (List ℕ) Global)
      → option_map (λ b. b.value) (option_map (λ _. w) o) ≡ option_map (λ _. w.value) (option_map (λ b. b.value) o)
  over_box None w = refl
  over_box (Some b) w = refl

  pub touch_found : (n : ℕ) (es : Entries) → is_some (lookup (nat_eq n) es) ≡ is_some (page_at (pages_of es) n)
  touch_found n es = sym (ap is_some (page_at-lookup n es) ∙ is_some-map (lookup (nat_eq n) es))

  pub touch_same : (k n : ℕ) (es : Entries) → page_at (pages_of (promoted (nat_eq k) es)) n ≡ page_at (pages_of es) n
  touch_same k n es = same_at n es (promoted (nat_eq k) es) (lookup-promoted k n es)

  -- the page of the first entry is the one under its number
  pub latest_found : (n : ℕ) (es : Entries) (number : Bor ℕ) (page : Bor (Box (List ℕ) Global)) (o : Option (Bor ℕ × Bor (Box (List ℕ) Global)))
      → option_map deref_pair o ≡ slice_get es 0 → o ≡ Some (number, page) → number.now ≡ n → page_at (pages_of es) n ≡ Some page.now.value
  latest_found n [] number page o e is same = let none : option_map deref_pair (Some (number, page)) ≡ slice_get [] 0 = rw is at e in cc
  latest_found n (f ∷ es) number page o e is same =
      let first : Some (number.now, page.now) ≡ Some f = rw is at e in
      let self : nat_eq n number.now ≡ true = eq-eqb n number.now (sym same) in
      at_found n (f ∷ es) page.now (rw (sym (entry_of_some first)) (rw self refl))

  pub get_found : (n : ℕ) (es : Entries) (b : Bor (Box (List ℕ) Global)) (o : Option (Bor (Box (List ℕ) Global)))
      → option_copied o ≡ lookup (nat_eq n) es → o ≡ Some b → Some b.now.value ≡ page_at (pages_of es) n
  get_found n es b o e is = sym (at_found n es b.now (sym e ∙ ap option_copied is))

  pub get_none : (n : ℕ) (es : Entries) (o : Option (Bor (Box (List ℕ) Global)))
      → option_copied o ≡ lookup (nat_eq n) es → o ≡ None → None ≡ page_at (pages_of es) n
  get_none n es o e is = sym (at_none n es (sym e ∙ ap option_copied is))

  pub hold_held : (c : LruCache ℕ (Box (List ℕ) Global)) (n : ℕ) (b : Box (List ℕ) Global) → page_at (pages_of (put_entries nat_eq c n b)) n ≡ Some b.value
  hold_held c n b = at_found n (put_entries nat_eq c n b) b (lookup-put_entries nat_eq c n b nat_eq_equiv)

  pub hold_others : (c : LruCache ℕ (Box (List ℕ) Global)) (n m : ℕ) (b : Box (List ℕ) Global) (page : List ℕ) → m ≢ n
      → page_at (pages_of (put_entries nat_eq c n b)) m ≡ Some page → page_at (pages_of c.entries) m ≡ Some page
  hold_others c n m b page ne h =
      let (found, at, same) = by_box (lookup (nat_eq m) (put_entries nat_eq c n b)) page (sym (page_at-lookup m (put_entries nat_eq c n b)) ∙ h) in
      at_found m c.entries found (lookup-put_other c n m b found (λ e. ne (sym e)) at) ∙ ap Some same

  pub renew_same : (n : ℕ) (es : Entries) (w : Box (List ℕ) Global)
      → page_at (pages_of (set_value (nat_eq n) es w)) n ≡ option_map (λ _. w.value) (page_at (pages_of es) n)
  renew_same n es w =
      page_at-lookup n (set_value (nat_eq n) es w) ∙ ap (option_map (λ b. b.value)) (lookup-set_same n w es) ∙ over_box (lookup (nat_eq n) es) w
      ∙ ap (option_map (λ _. w.value)) (sym (page_at-lookup n es))

  pub renew_none : (n : ℕ) (es : Entries) (page : List ℕ) → lookup (nat_eq n) es ≡ None → page_at (pages_of es) n ≡ option_map (λ _. page) (page_at (pages_of es) n)
  renew_none n es page h = let none = at_none n es h in none ∙ sym (ap (option_map (λ _. page)) none)

  pub renew_others : (n m : ℕ) (es : Entries) (w : Box (List ℕ) Global) → m ≢ n → page_at (pages_of (set_value (nat_eq n) es w)) m ≡ page_at (pages_of es) m
  renew_others n m es w ne = same_at m es (set_value (nat_eq n) es w) (lookup-set_other n m w es ne)

  pub forget_gone : (n : ℕ) (es : Entries) → IsDistinct nat_eq (keys_of es) → page_at (pages_of (remove_entry (nat_eq n) es)) n ≡ None
  forget_gone n es distinct = at_none n (remove_entry (nat_eq n) es) (gone_at n es distinct)

  pub demote_same : (k n : ℕ) (es : Entries) → IsDistinct nat_eq (keys_of es) → page_at (pages_of (demoted (nat_eq k) es)) n ≡ page_at (pages_of es) n
  demote_same k n es distinct = same_at n es (demoted (nat_eq k) es) (lookup-demoted k n es distinct)

  pub forget_others : (n m : ℕ) (es : Entries) → m ≢ n → page_at (pages_of (remove_entry (nat_eq n) es)) m ≡ page_at (pages_of es) m
  forget_others n m es ne = same_at m es (remove_entry (nat_eq n) es) (lookup_apart n m (λ e. ne (sym e)) es)
