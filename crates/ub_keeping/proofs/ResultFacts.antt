-- What results tell: what follows where a call was refused, and how often calls have failed then.
use Rattle.std.proofs.Common.{◌≡◌, ◌⊎◌, ◌∙◌, ℕ, true, false, Result, Ok, Err, OnOk, IfOk, IfErr, ap, inl, inr, refl, sym, subst}
use Rattle.std.specs.Result.{IsErr, IsErrAnd, is_err}
use Rattle.std.proofs.lemmas.Bool.{false≢true, true≢false}
use Rattle.ub_store.specs.Facts.{raised}
use Rattle.ub_store.specs.declared.fault.StoreFault.{StoreFault}
use Rattle.ub_store.specs.declared.fault.StoreFault.TheVariants as fault
use Rattle.ub_files.specs.Files.{counted_open}
use Rattle.ub_files.specs.declared.fault.OpenFault.{OpenFault}
use Rattle.ub_files.specs.declared.fault.OpenFault.TheVariants as opening
use Rattle.ub_journal.specs.Place.{Counts, PlaceFacts, counted, looked}
use Rattle.ub_journal.specs.declared.fault.JournalFault.{JournalFault}
use Rattle.ub_journal.specs.declared.fault.JournalFault.TheVariants as journal
use Rattle.ub_journal.specs.declared.place.Failed.{Failed}
use Rattle.ub_keeping.specs.Calm.{Raises}

-- of a result that is a fault nothing is told that is told of Ok
pub none_of : {A E : Type 0} (P : Type 0) (r : Result A E) → IsErr r → OnOk r P
none_of P (Ok x) is = absurd (false≢true is)
none_of P (Err e) is = tt

pub none_all : {A E : Type 0} (P : A → Type 0) (r : Result A E) → IsErr r → IfOk r P
none_all P (Ok x) is = absurd (false≢true is)
none_all P (Err e) is = tt

pub err_is : {A E : Type 0} (r : Result A E) (e d : E) → IsErrAnd r (λ x. x ≡ e) → e ≡ d → IfErr r (λ x. x ≡ d)
err_is (Ok x) e d is same = tt
err_is (Err f) e d is same = is ∙ same

pub ok_counted : {A : Type 0} (r : Result A Failed) (n : ℕ) → false ≡ is_err r → counted r n ≡ n
ok_counted (Ok x) n is = refl
ok_counted (Err e) n is = absurd (false≢true is)

pub err_counted : {A : Type 0} (r : Result A Failed) (n : ℕ) → true ≡ is_err r → counted r n ≡ raised n 1
err_counted (Ok x) n is = absurd (true≢false is)
err_counted (Err e) n is = refl

pub raises_err : {A : Type 0} (r : Result A StoreFault) (old new : ℕ) → IsErr r → (new ≡ raised old 1) ⊎ (new ≡ old) → Raises r old new
raises_err (Ok x) old new is told = absurd (false≢true is)
raises_err (Err e) old new is told = told

pub looked_raises : (A : Type 0) (f : JournalFault) (old new : ℕ) → new ≡ looked {A = A} (Err f) old → (new ≡ raised old 1) ⊎ (new ≡ old)
looked_raises A journal.Device old new is = inl is
looked_raises A journal.Memory old new is = inr is
looked_raises A journal.Damaged old new is = inr is

pub looked_is : (A : Type 0) (f d : JournalFault) (old new : ℕ) → f ≡ d → new ≡ looked {A = A} (Err f) old → new ≡ looked {A = A} (Err d) old
looked_is A f d old new same is = subst (λ (e : JournalFault). new ≡ looked {A = A} (Err e) old) same is

-- how often calls failed
pub refused_counts : {A B : Type 0} (r : Result A Failed) (f : Failed) (old new : PlaceFacts) → IsErr r → Counts {A = B} old new (Err f) → Counts old new r
refused_counts (Ok x) f old new is call = absurd (false≢true is)
refused_counts (Err e) f old new is call = record { honest = call.honest; failures = call.failures }

pub then_counts : {A : Type 0} (r : Result A Failed) (a b c : PlaceFacts) → b.honest ≡ a.honest → b.failures ≡ a.failures → Counts b c r → Counts a c r
then_counts r a b c same none call = record { honest = call.honest ∙ same; failures = call.failures ∙ ap (λ (n : ℕ). counted r n) none }

-- a fault that isn't that of the table's size
pub not_size : (f : StoreFault) → (f ≡ fault.Device) ⊎ (f ≡ fault.Memory) → f ≡ fault.BadSize → ⊥
not_size fault.BadSize is same = elim is [ inl d ↦ cc | inr m ↦ cc ]
not_size fault.Device is same = cc
not_size fault.Memory is same = cc
not_size fault.NoPage is same = cc

pub more_faults : (f : StoreFault) → (f ≡ fault.Device) ⊎ (f ≡ fault.Memory) → (f ≡ fault.Device) ⊎ ((f ≡ fault.BadSize) ⊎ (f ≡ fault.Memory))
more_faults f is = elim is [ inl d ↦ inl d | inr m ↦ inr (inr m) ]

pub both_ok : {A E : Type 0} (P Q R : A → Type 0) (r : Result A E) → ((x : A) → P x → Q x → R x) → IfOk r P → IfOk r Q → IfOk r R
both_ok P Q R (Ok x) so one two = so x one two
both_ok P Q R (Err e) so one two = tt

pub one_more : {P Q R : Type 0} → P ⊎ Q → P ⊎ (Q ⊎ R)
one_more is = elim is [ inl p ↦ inl p | inr q ↦ inr (inl q) ]

pub raises_none : {A : Type 0} (r : Result A StoreFault) (old new : ℕ) → new ≡ old → Raises r old new
raises_none (Ok x) old new same = same
raises_none (Err e) old new same = inr same

pub all_ok : {A E : Type 0} {P : Type 0} (r : Result A E) → P → OnOk r P
all_ok (Ok x) is = is
all_ok (Err e) is = tt

-- what a call that finds a table to change tells of what was found
pub not_open_size : (f : OpenFault) → (f ≡ opening.BadJournal) ⊎ ((f ≡ opening.Store fault.Device) ⊎ (f ≡ opening.Store fault.Memory)) → f ≡ opening.Store fault.BadSize → ⊥
not_open_size f is same = elim is [
  | inl j ↦ let wrong : opening.BadJournal ≡ opening.Store fault.BadSize = sym j ∙ same in cc
  | inr other ↦ elim other [
    | inl d ↦ let wrong : opening.Store fault.Device ≡ opening.Store fault.BadSize = sym d ∙ same in cc
    | inr m ↦ let wrong : opening.Store fault.Memory ≡ opening.Store fault.BadSize = sym m ∙ same in cc
  ]
]

pub more_opens : {P Q R S : Type 0} → P ⊎ (Q ⊎ S) → P ⊎ (Q ⊎ (R ⊎ S))
more_opens is = elim is [ inl p ↦ inl p | inr other ↦ elim other [ inl q ↦ inr (inl q) | inr s ↦ inr (inr (inr s)) ] ]

pub each_ok : {A E : Type 0} (P : A → Type 0) (r : Result A E) → ((a : A) → P a) → IfOk r P
each_ok P (Ok x) all = all x
each_ok P (Err e) all = tt

-- what a call that was handed on tells
pub err_has : {A E : Type 0} (P : E → Type 0) (r : Result A E) (e : E) → IsErrAnd r (λ x. x ≡ e) → P e → IfErr r P
err_has P (Ok x) e is told = tt
err_has P (Err f) e is told = subst P (sym is) told

pub same_err : {A E : Type 0} (r : Result A E) (e d : E) → IsErrAnd r (λ x. x ≡ e) → r ≡ Err d → ◌≡◌ {A = Result A E} (Err e) (Err d)
same_err (Ok x) e d is same = absurd is
same_err (Err f) e d is same = ap (λ x. Err x) (sym is) ∙ same

pub opened_err : {A : Type 0} (r : Result A OpenFault) (e : OpenFault) (n : ℕ) → IsErrAnd r (λ x. x ≡ e) → counted_open {A = A} (Err e) n ≡ counted_open r n
opened_err (Ok x) e n is = absurd is
opened_err {A} (Err f) e n is = ap (λ (x : OpenFault). counted_open {A = A} (Err x) n) (sym is)
