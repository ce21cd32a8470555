-- What the exits of calls over a store tell.
use Rattle.std.proofs.Common.{◌≡◌, ◌≢◌, ◌≤◌, ◌*◌, ◌/◌, ◌+◌, ◌++◌, ◌∷◌, [], ℕ, zero, suc, Bool, true, false, List, Result, Ok, Err, ap, arith, inl, inr, length, refl, subst, sym, take, ◌∙◌}
use Rattle.std.proofs.lemmas.Bool.{true≢false}
use Rattle.std.proofs.lemmas.List.{length-append}
use Rattle.std.specs.Prelude.{IfErr, IsErrOf, OnOk}
use Rattle.std.specs.Result.{IsErrAnd, is_ok}
use Rattle.ub_journal.specs.declared.fault.JournalFault.{JournalFault}
use Rattle.ub_journal.specs.declared.fault.JournalFault.TheVariants.{Damaged, Device, Memory}
use Rattle.ub_journal_page.specs.Reading.{BearsOut, Looks, counted}
use Rattle.ub_journal_page.specs.inner.Parts.{AreBody, AreListed, ArePacked, IsRead}
use Rattle.ub_journal_page.specs.Pages.{byte_parts}
use Rattle.ub_journal_page.specs.Whole.{total_of}
use Rattle.ub_journal.specs.declared.journal.Change.{Change}
use Rattle.ub_store.specs.Facts.{StoreFacts, IsHonest}

counted_as : (A B : Type 0) (e : JournalFault) (n : ℕ) → counted {A = A} (Err e) n ≡ counted {A = B} (Err e) n
counted_as A B Damaged n = refl
counted_as A B Memory n = refl
counted_as A B Device n = refl

abbrev fault_in : {A : Type 0} → Result A JournalFault → JournalFault
fault_in (Ok x) = Memory
fault_in (Err e) = e

abbrev is_memory : {A : Type 0} → Result A JournalFault → Bool
is_memory (Err Memory) = true
is_memory _ = false

abbrev is_damaged : {A : Type 0} → Result A JournalFault → Bool
is_damaged (Err Damaged) = true
is_damaged _ = false

pub not_ok : {A : Type 0} (x : A) (e : JournalFault) → ¬ (IsErrOf (Ok x) e)
not_ok x e is = true≢false (ap is_ok is)

pub memory_isnt_damaged : {A : Type 0} → ¬ (IsErrOf {T = A} (Err Memory) Damaged)
memory_isnt_damaged is = true≢false (ap is_memory is)

pub memory_isnt_device : {A : Type 0} → ¬ (IsErrOf {T = A} (Err Memory) Device)
memory_isnt_device is = true≢false (ap is_memory is)

pub damaged_isnt_device : {A : Type 0} → ¬ (IsErrOf {T = A} (Err Damaged) Device)
damaged_isnt_device is = true≢false (ap is_damaged is)

-- a fault that is handed on is the one before it
pub fault_of : {A B : Type 0} (r : Result A JournalFault) (e f : JournalFault) → IsErrAnd r (λ x. x ≡ e) → IsErrOf r f → IsErrOf {T = B} (Err e) f
fault_of (Ok x) e f h is = absurd h
fault_of (Err y) e f h is = ap (λ (x : JournalFault). Err x) (sym h ∙ ap fault_in is)

pub looks_err : {A B : Type 0} (r : Result A JournalFault) (e : JournalFault) (s t : StoreFacts) → IsErrAnd r (λ x. x ≡ e) → Looks {A = B} s t (Err e) → Looks s t r
looks_err (Ok x) e s t h k = absurd h
looks_err {A} {B} (Err y) e s t h k = subst (λ (f : JournalFault). Looks {A = A} s t (Err f)) (sym h) (record {
  same = k.same ∙ ap (λ (n : ℕ). record s { failed_reads = n }) (counted_as B A e s.failed_reads);
  device = λ is. k.device (ap (λ (x : JournalFault). Err x) (ap fault_in is));
})

-- what was left by a call that went well is what the next one finds
pub looks_then : {A : Type 0} (r : Result A JournalFault) (s t u : StoreFacts) → t ≡ s → Looks t u r → Looks s u r
looks_then r s t u is h = subst (λ (z : StoreFacts). Looks z u r) is h

pub looks_ok : {A : Type 0} (x : A) (s t : StoreFacts) → t ≡ s → Looks s t (Ok x)
looks_ok x s t is = record { same = is; device = λ e. absurd (not_ok x Device e) }

pub looks_full : {A : Type 0} (s t : StoreFacts) → t ≡ s → Looks {A = A} s t (Err Memory)
looks_full s t is = record { same = is; device = λ e. absurd (memory_isnt_device e) }

pub looks_damaged : {A : Type 0} (s t : StoreFacts) → t ≡ s → Looks {A = A} s t (Err Damaged)
looks_damaged s t is = record { same = is; device = λ e. absurd (damaged_isnt_device e) }

-- a fault that is handed on, after calls that went well
pub refused : {A B : Type 0} (r : Result A JournalFault) (e : JournalFault) (s t u : StoreFacts) → t ≡ s → IsErrAnd r (λ x. x ≡ e) → Looks {A = B} t u (Err e) → Looks s u r
refused r e s t u is h k = looks_err r e s u h (looks_then (Err e) s t u is k)

pub count_on : (s t : StoreFacts) → t ≡ s → length t.pages ≡ length s.pages
count_on s t is = ap (λ (f : StoreFacts). length f.pages) is

pub read_on : (s t : StoreFacts) (place : ℕ) (page : List ℕ) → t ≡ s → (IsHonest s → IsRead s.pages place page) → IsHonest t → IsRead t.pages place page
read_on s t place page is = subst (λ (f : StoreFacts). IsHonest f → IsRead f.pages place page) (sym is)

pub one_longer : {X : Type 0} (xs ys : List X) (x : X) (n : ℕ) → ys ≡ xs ++ x ∷ [] → length xs ≡ n → length ys ≡ n + 1
one_longer xs ys x n is long = let all = ap length is in omega (arith, all, long, length-append xs (x ∷ []))

pub take_whole : {X : Type 0} (n : ℕ) (xs : List X) → length xs ≤ n → take n xs ≡ xs
take_whole zero [] few = refl
take_whole zero (x ∷ xs) few = absurd (omega arith)
take_whole (suc n) [] few = refl
take_whole {X} (suc n) (x ∷ xs) few = ap (λ (ys : List X). x ∷ ys) (take_whole n xs (omega arith))

-- a fault of a call that has no store
pub handed_on : {A B : Type 0} (r : Result A JournalFault) (e : JournalFault) (s t : StoreFacts) → t ≡ s → IsErrAnd r (λ x. x ≡ e) → ¬ (IsErrOf {T = B} (Err e) Device) → Looks s t r
handed_on (Ok x) e s t is h none = absurd h
handed_on (Err Damaged) e s t is h none = looks_damaged s t is
handed_on (Err Memory) e s t is h none = looks_full s t is
handed_on (Err Device) e s t is h none = absurd (none (ap (λ (x : JournalFault). Err x) (sym h)))

-- a head that is borne out has three pages
pub three_pages : (total version changes : ℕ) → BearsOut total version changes → 3 ≤ total
three_pages total version changes (inl one) = let is = one.1 in omega arith
three_pages total version changes (inr two) = let room = two.1 in omega arith

-- a last call that has no store, and is refused as damaged alone
pub looks_last : {A : Type 0} (r : Result A JournalFault) (s t : StoreFacts) → t ≡ s → IfErr r (λ e. e ≡ Damaged) → Looks s t r
looks_last (Ok x) s t is fault = looks_ok x s t is
looks_last {A} (Err e) s t is fault = subst (λ (f : JournalFault). Looks {A = A} s t (Err f)) (sym fault) (looks_damaged s t is)

pub on_ok : {A : Type 0} {P : Type 0} (r : Result A JournalFault) → P → OnOk r P
on_ok (Ok x) is = is
on_ok (Err e) is = tt

pub never_memory : {A : Type 0} (r : Result A JournalFault) → IfErr r (λ e. e ≡ Damaged) → ¬ (IsErrOf r Memory)
never_memory (Ok x) fault told = not_ok x Memory told
never_memory (Err e) fault told = true≢false (ap is_memory (sym told ∙ ap (λ (f : JournalFault). Err f) fault))

-- what a head that is borne out tells of the pages behind the first three, and which version they are of
module _ (total version changes : ℕ) (bears : BearsOut total version changes) where
  version_two : (v : ℕ) → v ≢ 1 → BearsOut total v changes → v ≡ 2
  version_two v not (inl one) = absurd (not one.0)
  version_two v not (inr two) = two.0

  pub whole_there : version ≡ 1 → total ≡ total_of changes
  whole_there is = elim bears [ inl one ↦ one.1 | inr two ↦ absurd (let wrong = two.0 in omega arith) ]

  pub packed_there : version ≢ 1 → 3 + byte_parts (8 * changes) ≤ total
  packed_there not = elim bears [ inl one ↦ absurd (not one.0) | inr two ↦ two.1 ]

  pub packed_body : version ≢ 1 → (pages : List (List ℕ)) (cs : List Change) → ArePacked pages cs → AreBody version pages cs
  packed_body not pages cs are = inr (version_two version not bears, are)

pub body_whole : (version : ℕ) (pages : List (List ℕ)) (cs : List Change) → version ≡ 1 → AreBody version pages cs → AreListed pages cs
body_whole version pages cs is (inl one) = one.1
body_whole version pages cs is (inr two) = absurd (let wrong = two.0 in omega arith)

pub body_packed : (version : ℕ) (pages : List (List ℕ)) (cs : List Change) → version ≢ 1 → AreBody version pages cs → ArePacked pages cs
body_packed version pages cs not (inl one) = absurd (not one.0)
body_packed version pages cs not (inr two) = two.1
