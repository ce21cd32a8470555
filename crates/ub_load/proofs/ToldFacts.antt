-- What is told of a text, of a record and of a tree. None of the refusals of a header or of what a record holds is one of the tree.
use Rattle.std.proofs.Common.{◌⊎◌, ◌≡◌, ◌≢◌, ◌+◌, ◌==◌, ℕ, List, [], ◌∷◌, ◌++◌, ◌∙◌, length, take, map, Option, Some, None, refl, sym, ap, subst, inl, inr}
use Rattle.std.specs.Prelude.{IfSome, IsTrue, nat_le, nat_lt, ◌&&◌, ◌||◌, not, if◌then◌else◌}
use Rattle.std.specs.List.{AllByRecursion, enumerate_from, list_any}
use Rattle.std.specs.Str.{bytes_eq}
use Rattle.std.proofs.lemmas.Bool.{cases_Bool}
use Rattle.ub_region.proofs.KeyLists.{all_append}
use Rattle.ub_store.specs.Facts.{StoreFacts}
use Rattle.ub_store.specs.declared.fault.StoreFault.TheVariants as store
use Rattle.ub_tree.specs.Calls.{IsCreateFault}
use Rattle.ub_tree.specs.declared.fault.TreeFault.{TreeFault}
use Rattle.ub_tree.specs.declared.fault.TreeFault.TheVariants as tree
use Rattle.ub_load.specs.Field.{trimmed, is_number, number_of}
use Rattle.ub_load.specs.Loading.{IsNewFault, IsToldOf}
use Rattle.ub_load.specs.Refusals.{content_refusal, content_refusals, fault_of_tree, field_refusal, first_of, header_refusals, name_refusal, record_refusals}
use Rattle.ub_load.specs.declared.fault.LoadFault.{LoadFault}
use Rattle.ub_load.specs.declared.fault.LoadFault.TheVariants.{NoHeader, Csv, Tree, Memory, BadName, BadNumber, OutOfRange, ColumnCount}
use Rattle.ub_table.specs.Name.{is_name}
use Rattle.ub_table.specs.Value.{fits_at}
use Rattle.ub_table.specs.declared.axes.Axes.{Axes}

-- what is told where something is the first thing wrong is told where that is the first thing wrong of more
pub told_after : {first later : Option LoadFault} {F B G C : Type 0} → ((f : LoadFault) → first ≡ Some f → later ≡ Some f) → (F → G) → (B → C) → (f : LoadFault)
    → IsToldOf first F B f → IsToldOf later G C f
told_after same can broken NoHeader h = same NoHeader h
told_after same can broken (BadName n) h = same (BadName n) h
told_after same can broken ColumnCount h = same ColumnCount h
told_after same can broken (BadNumber row column) h = same (BadNumber row column) h
told_after same can broken (OutOfRange row column) h = same (OutOfRange row column) h
told_after same can broken Csv h = same Csv h
told_after same can broken (Tree tree.Full) (inl h) = inl (same (Tree tree.Full) h)
told_after same can broken (Tree tree.Full) (inr h) = inr (broken h)
told_after same can broken (Tree (tree.Page page fault)) h = broken h
told_after same can broken (Tree (tree.Store store.Device)) h = can h
told_after same can broken (Tree (tree.Store store.NoPage)) h = broken h
told_after same can broken (Tree (tree.Store store.BadSize)) h = absurd h
told_after same can broken (Tree (tree.Store store.Memory)) h = absurd h
told_after same can broken (Tree tree.Failed) h = absurd h
told_after same can broken (Tree tree.Memory) h = absurd h
told_after same can broken Memory h = tt

-- it is none of the tree's
abbrev pub IsOfText : LoadFault → Type 0
IsOfText f = (fault : TreeFault) → f ≢ Tree fault

pub told_first : (F B : Type 0) (first : Option LoadFault) (f : LoadFault) → IsOfText f → first ≡ Some f → IsToldOf first F B f
told_first F B first NoHeader h e = e
told_first F B first (BadName n) h e = e
told_first F B first ColumnCount h e = e
told_first F B first (BadNumber row column) h e = e
told_first F B first (OutOfRange row column) h e = e
told_first F B first Csv h e = e
told_first F B first (Tree fault) h e = absurd (h fault refl)
told_first F B first Memory h e = tt

-- what a new tree's refusal tells
pub told_new : (B : Type 0) (facts : StoreFacts) (first : Option LoadFault) (f : LoadFault) → IsNewFault facts f → IsToldOf first (IsTrue facts.can_fail) B f
told_new B facts first NoHeader h = absurd h
told_new B facts first (BadName n) h = absurd h
told_new B facts first ColumnCount h = absurd h
told_new B facts first (BadNumber row column) h = absurd h
told_new B facts first (OutOfRange row column) h = absurd h
told_new B facts first Csv h = absurd h
told_new B facts first (Tree tree.Full) h = absurd h
told_new B facts first (Tree (tree.Page page fault)) h = absurd h
told_new B facts first (Tree (tree.Store store.Device)) h = h
told_new B facts first (Tree (tree.Store store.NoPage)) h = absurd h
told_new B facts first (Tree (tree.Store store.BadSize)) h = absurd h
told_new B facts first (Tree (tree.Store store.Memory)) h = absurd h
told_new B facts first (Tree tree.Failed) h = absurd h
told_new B facts first (Tree tree.Memory) h = absurd h
told_new B facts first Memory h = tt

pub new_fault : (facts : StoreFacts) (fault : TreeFault) → IsCreateFault facts fault → IsNewFault facts (fault_of_tree fault)
new_fault facts tree.Full h = absurd h
new_fault facts (tree.Page page fault) h = absurd h
new_fault facts (tree.Store store.Device) h = h
new_fault facts (tree.Store store.NoPage) h = absurd h
new_fault facts (tree.Store store.BadSize) h = absurd h
new_fault facts (tree.Store store.Memory) h = absurd h
new_fault facts tree.Failed h = absurd h
new_fault facts tree.Memory h = tt

-- over an honest store that can't fail: what is told is the first thing wrong, unless memory was refused
pub told_sure : {first : Option LoadFault} {F B : Type 0} → ¬ F → ¬ B → (f : LoadFault) → IsToldOf first F B f → f ≢ Memory → first ≡ Some f
told_sure reliable honest NoHeader h some = h
told_sure reliable honest (BadName n) h some = h
told_sure reliable honest ColumnCount h some = h
told_sure reliable honest (BadNumber row column) h some = h
told_sure reliable honest (OutOfRange row column) h some = h
told_sure reliable honest Csv h some = h
told_sure reliable honest (Tree tree.Full) (inl h) some = h
told_sure reliable honest (Tree tree.Full) (inr broken) some = absurd (honest broken)
told_sure reliable honest (Tree (tree.Page page fault)) h some = absurd (honest h)
told_sure reliable honest (Tree (tree.Store store.Device)) h some = absurd (reliable h)
told_sure reliable honest (Tree (tree.Store store.NoPage)) h some = absurd (honest h)
told_sure reliable honest (Tree (tree.Store store.BadSize)) h some = absurd h
told_sure reliable honest (Tree (tree.Store store.Memory)) h some = absurd h
told_sure reliable honest (Tree tree.Failed) h some = absurd h
told_sure reliable honest (Tree tree.Memory) h some = absurd h
told_sure reliable honest Memory h some = absurd (some refl)

-- and of the tree's faults it is this one
pub told_tree : (first : Option LoadFault) {F B : Type 0} → ¬ F → ¬ B → (fault : TreeFault) → IsToldOf first F B (Tree fault) → fault ≡ tree.Full
told_tree first reliable honest tree.Full h = refl
told_tree first reliable honest (tree.Page page fault) h = absurd (honest h)
told_tree first reliable honest (tree.Store store.Device) h = absurd (reliable h)
told_tree first reliable honest (tree.Store store.NoPage) h = absurd (honest h)
told_tree first reliable honest (tree.Store store.BadSize) h = absurd h
told_tree first reliable honest (tree.Store store.Memory) h = absurd h
told_tree first reliable honest tree.Failed h = absurd h
told_tree first reliable honest tree.Memory h = absurd h

-- what is true of each refusal of a list is true of the first
first-has : (P : LoadFault → Type 0) (xs : List (Option LoadFault)) (f : LoadFault) → AllByRecursion (λ o. IfSome o P) xs → first_of xs ≡ Some f → P f
first-has P [] f h e = cc
first-has P (None ∷ xs) f h e = first-has P xs f h.1 e
first-has P (Some g ∷ xs) f h e = let same : g ≡ f = cc in subst P same h.0

all_found : {X : Type 0} (g : X → Option LoadFault) (P : LoadFault → Type 0) → ((x : X) → IfSome (g x) P) → (xs : List X) → AllByRecursion (λ o. IfSome o P) (map g xs)
all_found g P h [] = tt
all_found g P h (x ∷ xs) = (h x, all_found g P h xs)

field_is_of_text : (axes : Axes) (row : ℕ) (f : ℕ × List ℕ) → IfSome (field_refusal axes row f) IsOfText
field_is_of_text axes row f = elim (cases_Bool (is_number (trimmed f.1))) [
  | inl t ↦ elim (cases_Bool (fits_at axes f.0 (number_of (trimmed f.1)))) [
    | inl u ↦ rw (t, u) tt
    | inr u ↦ rw (t, u) (λ fault e. cc)
  ]
  | inr n ↦ rw n (λ fault e. cc)
]

-- a record of another length, and a field, are no faults of the tree
pub content_is_of_text : (axes : Axes) (width : ℕ) (r : ℕ × List (List ℕ)) (f : LoadFault) → content_refusal axes width r ≡ Some f → IsOfText f
unfolding content_refusals
content_is_of_text axes width r f e =
    first-has IsOfText ((if length r.1 == width then None else Some Csv) ∷ map (field_refusal axes r.0) (enumerate_from 0 r.1)) f
    (other_length, all_found (field_refusal axes r.0) IsOfText (field_is_of_text axes r.0) (enumerate_from 0 r.1)) e
  where
    other_length : IfSome (if length r.1 == width then None else Some Csv) IsOfText
    other_length = elim (cases_Bool (length r.1 == width)) [
      | inl t ↦ rw t tt
      | inr n ↦ rw n (λ fault e. cc)
    ]

-- nor are what is wrong with a header
name_is_of_text : (names : List (List ℕ)) (c : ℕ × List ℕ) → IfSome (name_refusal names c) IsOfText
name_is_of_text names c = elim (cases_Bool (is_name c.1 && not (list_any (bytes_eq c.1) (take c.0 names)))) [
  | inl t ↦ rw t tt
  | inr n ↦ rw n (λ fault e. cc)
]

pub header_is_of_text : (dims : ℕ) (name : List ℕ) (names : List (List ℕ)) (f : LoadFault) → first_of (header_refusals dims name names) ≡ Some f → IsOfText f
unfolding header_refusals
header_is_of_text dims name names f e =
    first-has IsOfText ((if nat_lt (length names) dims || nat_lt (dims + 4) (length names) then Some ColumnCount else None)
    ∷ (if is_name name then None else Some (BadName 0)) ∷ map (name_refusal names) (enumerate_from 0 names)) f (count, (table, all_found (name_refusal names) IsOfText (name_is_of_text names) (enumerate_from 0 names))) e
  where
    count : IfSome (if nat_lt (length names) dims || nat_lt (dims + 4) (length names) then Some ColumnCount else None) IsOfText
    count = elim (cases_Bool (nat_lt (length names) dims || nat_lt (dims + 4) (length names))) [
      | inl t ↦ rw t (λ fault e. cc)
      | inr n ↦ rw n tt
    ]

    table : IfSome (if is_name name then None else Some (BadName 0)) IsOfText
    table = elim (cases_Bool (is_name name)) [
      | inl t ↦ rw t tt
      | inr n ↦ rw n (λ fault e. cc)
    ]

-- what is wrong with a record is no fault of the tree, or that it is full
abbrev pub IsOfRecord : LoadFault → Type 0
IsOfRecord f = IsOfText f ⊎ (f ≡ Tree tree.Full)

of_record : (o : Option LoadFault) → IfSome o IsOfText → IfSome o IsOfRecord
of_record None h = tt
of_record (Some f) h = inl h

pub record_is_told : (axes : Axes) (width : ℕ) (r : ℕ × List (List ℕ)) (f : LoadFault) → first_of (record_refusals axes width r) ≡ Some f → IsOfRecord f
unfolding record_refusals content_refusals
record_is_told axes width r f e =
    first-has IsOfRecord (contents ++ last ∷ []) f (all_append (λ o. IfSome o IsOfRecord) contents (last ∷ []) (other_length, fields (enumerate_from 0 r.1)) (full, tt)) e
  where
    contents : List (Option LoadFault)
    contents = (if length r.1 == width then None else Some Csv) ∷ map (field_refusal axes r.0) (enumerate_from 0 r.1)

    last : Option LoadFault
    last = if nat_le r.0 16777215 then None else Some (Tree tree.Full)

    fields : (fs : List (ℕ × List ℕ)) → AllByRecursion (λ o. IfSome o IsOfRecord) (map (field_refusal axes r.0) fs)
    fields = all_found (field_refusal axes r.0) IsOfRecord (λ field. of_record (field_refusal axes r.0 field) (field_is_of_text axes r.0 field))

    other_length : IfSome (if length r.1 == width then None else Some Csv) IsOfRecord
    other_length = elim (cases_Bool (length r.1 == width)) [
      | inl t ↦ rw t tt
      | inr n ↦ rw n (inl (λ fault e. cc))
    ]

    full : IfSome (if nat_le r.0 16777215 then None else Some (Tree tree.Full)) IsOfRecord
    full = elim (cases_Bool (nat_le r.0 16777215)) [
      | inl t ↦ rw t tt
      | inr n ↦ rw n (inr refl)
    ]

pub told_found : (F B : Type 0) (first : Option LoadFault) (f : LoadFault) → IsOfRecord f → first ≡ Some f → IsToldOf first F B f
told_found F B first f (inl h) e = told_first F B first f h e
told_found F B first f (inr h) e = subst (λ (g : LoadFault). IsToldOf first F B g) (sym h) (inl (e ∙ ap Some h))

-- what a record that can't be read tells
pub told_unread : (first : Option LoadFault) (F B : Type 0) (f : LoadFault) → (f ≡ Csv) ⊎ (f ≡ Memory) → (f ≡ Csv) ⊎ IsToldOf first F B f
told_unread first F B f (inl is) = inl is
told_unread first F B f (inr is) = subst (λ (f : LoadFault). (f ≡ Csv) ⊎ IsToldOf first F B f) (sym is) (inr tt)
