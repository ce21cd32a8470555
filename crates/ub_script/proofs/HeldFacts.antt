-- How the bytes grow that an output has taken.
use Rattle.std.proofs.Common.{◌≡◌, ◌≢◌, ◌≤◌, ◌+◌, ◌-◌, ◌==◌, ◌&&◌, ℕ, Bool, false, List, [], ◌++◌, Option, Some, None, length, take, drop, refl, sym, ap, subst, ◌∙◌, append_assoc, arith, inl, inr, Ok, ◌<◌, true, nat_lt}
use Rattle.std.proofs.lemmas.Bool.{cases_Bool, eqb-true, lt-ltb}
use Rattle.std.proofs.lemmas.List.{append-nil, length-append, length-drop, take_all}
use Rattle.std.proofs.Math.Seq.{take-add, take-append-add}
use Rattle.std.specs.Io.KnownBytes.{Appends}
use Rattle.ub_script.specs.Output.{OutFacts, HasTaken, HasWritten, Puts, IsFrontOf, Takes, Breaks}

Appends-none : (o : Option (List ℕ)) → Appends o o []
Appends-none None = tt
Appends-none (Some xs) = sym (append-nil xs)

Appends-more : (a b c : Option (List ℕ)) (xs ys : List ℕ) → Appends a b xs → Appends b c ys → Appends a c (xs ++ ys)
Appends-more None b c xs ys h k = tt
Appends-more (Some zs) None c xs ys h k = absurd h
Appends-more (Some zs) (Some bs) None xs ys h k = k
Appends-more (Some zs) (Some bs) (Some cs) xs ys h k = k ∙ ap (λ (s : List ℕ). s ++ ys) h ∙ append_assoc zs xs ys

pub Puts-none : (o : OutFacts) → Puts [] o o
Puts-none o = record { told = Appends-none o.told; failures = refl }

pub Puts-same : (a b : OutFacts) → b ≡ a → Puts [] a b
Puts-same a b same = subst (λ (o : OutFacts). Puts [] a o) (sym same) (Puts-none a)

-- after some bytes more bytes are taken
pub Puts-more : (a b c : OutFacts) (xs ys : List ℕ) (failed : Bool) → Puts xs a b → HasTaken ys failed b c → HasTaken (xs ++ ys) failed a c
Puts-more a b c xs ys failed h k = record { told = Appends-more a.told b.told c.told xs ys h.told k.told; failures = rw h.failures at k.failures }

-- a front of what comes after some bytes is a front with them
pub front_after : (front bytes before : List ℕ) → IsFrontOf front bytes → IsFrontOf (before ++ front) (before ++ bytes)
front_after front bytes before (count, fewer, is) =
    (length before + count, rw (length-append before bytes) (omega (arith, fewer)), rw (is, take-append-add before bytes count) refl)

-- what is left of the bytes from a place on
rest : (bytes : List ℕ) (place : ℕ) → take (length bytes - place) (drop place bytes) ≡ drop place bytes
rest bytes place = take_all (length bytes - place) (drop place bytes) (omega (arith, length-drop place bytes))

-- more of the bytes from a place on were taken
pub Puts-on : (a b c : OutFacts) (bytes : List ℕ) (place n : ℕ) (failed : Bool) → place ≤ length bytes → Puts (take place bytes) a b
    → n ≤ length (take (length bytes - place) (drop place bytes)) → HasTaken (take n (take (length bytes - place) (drop place bytes))) failed b c
    → (place + n ≤ length bytes) × HasTaken (take (place + n) bytes) failed a c
Puts-on a b c bytes place n failed within h le k =
    let whole = rest bytes place in
    let fits : place + n ≤ length bytes = omega (arith, rw whole at le, length-drop place bytes) in
    (fits, rw (take-add place n bytes) (Puts-more a b c (take place bytes) (take n (drop place bytes)) failed h (rw whole at k)))

-- what holds of the bytes that were taken
pub takes_as : (Are Others : List ℕ → Type 0) (failed : Bool) (a b : OutFacts) → ((bytes : List ℕ) → Are bytes → Others bytes)
    → Takes Are failed a b → Takes Others failed a b
takes_as Are Others failed a b f (bytes, is, taken) = (bytes, f bytes is, taken)

-- a call that takes some bytes of those that are left goes on
pub Puts-step : (a b c : OutFacts) (bytes : List ℕ) (place n : ℕ) → place ≤ length bytes → Puts (take place bytes) a b → n ≢ 0
    → HasWritten (take (length bytes - place) (drop place bytes)) (Ok n) b c → (place + n ≤ length bytes) × Puts (take (place + n) bytes) a c
Puts-step a b c bytes place n within h some (le, k) = elim (cases_Bool (n == 0)) [
  | inl none ↦ absurd (some (eqb-true n 0 none))
  | inr more ↦ Puts-on a b c bytes place n false within h le (rw more at k)
]

-- all bytes before a place behind them are all of them
pub Puts-all : (a b : OutFacts) (bytes : List ℕ) (place : ℕ) → length bytes ≤ place → Puts (take place bytes) a b → Puts bytes a b
Puts-all a b bytes place le = subst (λ (xs : List ℕ). Puts xs a b) (take_all place bytes le)

-- a write failed before all bytes were taken
pub Puts-broken : (a b c : OutFacts) (bytes : List ℕ) (place : ℕ) → place < length bytes → Puts (take place bytes) a b → HasTaken [] true b c → Breaks bytes a c
Puts-broken a b c bytes place lt h k =
    (take place bytes, (place, lt, refl), subst (λ (xs : List ℕ). HasTaken xs true a c) (append-nil (take place bytes)) (Puts-more a b c (take place bytes) [] true h k))

-- a call that takes none of those that are left has failed
takes_nothing : (b c : OutFacts) (n : ℕ) (some : Bool) (left : List ℕ) → n ≡ 0 → some ≡ true → HasTaken (take n left) (n == 0 && some) b c → HasTaken [] true b c
takes_nothing b c n some left none is k =
    subst (λ (s : Bool). HasTaken [] s b c) is (subst (λ (m : ℕ). HasTaken (take m left) (m == 0 && some) b c) none k)

pub Puts-nothing : (a b c : OutFacts) (bytes : List ℕ) (place n : ℕ) → place < length bytes → n ≡ 0 → Puts (take place bytes) a b
    → HasWritten (take (length bytes - place) (drop place bytes)) (Ok n) b c → Breaks bytes a c
Puts-nothing a b c bytes place n lt none h (le, k) =
    let left = take (length bytes - place) (drop place bytes) in
    let long : length left ≡ length bytes - place = ap (λ (xs : List ℕ). length xs) (rest bytes place) ∙ length-drop place bytes in
    Puts-broken a b c bytes place lt h (takes_nothing b c n (nat_lt 0 (length left)) left none (lt-ltb 0 (length left) (omega (arith, lt, long))) k)
