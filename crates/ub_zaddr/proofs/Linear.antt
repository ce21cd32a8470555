-- A function that is put together of shifts, `|` and `&` with a constant is known by what it makes of each bit alone.
use Rattle.std.proofs.Common.{◌≡◌, ◌≤◌, ◌<◌, ◌+◌, ◌*◌, ◌/◌, ◌%◌, ◌^◌, ℕ, zero, suc, List, [], ◌∷◌, min, max, Bool, true, ◌&&◌, ◌==◌, ap, sym, refl, arith, ◌∙◌, bit_and, bit_or}
use Rattle.std.proofs.lemmas.Nat.{pow_pos, or_shr, or_shifted, or_mod, or_block, mod-pow-add, mod_below}
use Rattle.std.proofs.lemmas.Nat.Bits.{bit_at-lt, bit_at_and, bit_at_or, same_from_bits}
use Rattle.std.proofs.lemmas.Bool.Decides.{Decides-below_and, Decides-eqb}
use Rattle.std.specs.Int.{bit_at}
use Rattle.ub_zaddr.specs.Moved.{moved}
use Rattle.ub_zaddr.specs.Steps.{opened, closed}
use Rattle.ub_zaddr.proofs.MovedFacts.{moved-lt, moved-next}

-- what it makes of two numbers' bits together is what it makes of each, together
abbrev pub Joins : (ℕ → ℕ) → Type 0
Joins f = (a b : ℕ) → f (bit_or a b) ≡ bit_or (f a) (f b)

min_max : (a b m : ℕ) → min (max a b) m ≡ max (min a m) (min b m)
min_max a b m = grind arith

max_max : (a b c d : ℕ) → max (max a b) (max c d) ≡ max (max a c) (max b d)
max_max a b c d = grind arith

masks : (m : ℕ) → Joins (λ x. bit_and x m)
masks m a b = same_from_bits _ _ (λ i. rw (bit_at_and (bit_or a b) m i, bit_at_or a b i, bit_at_or (bit_and a m) (bit_and b m) i, bit_at_and a m i, bit_at_and b m i) (min_max (bit_at a i) (bit_at b i) (bit_at m i)))

shifts_up : (k w : ℕ) → Joins (λ x. x * 2 ^ k % 2 ^ w)
shifts_up k w a b =
    let none = pow_pos k in
    let plus : (n : ℕ) → n + 0 ≡ n = λ n. omega arith in
    let l : bit_or (a * 2 ^ k) (b * 2 ^ k) ≡ bit_or (a * 2 ^ k + 0) (b * 2 ^ k + 0) = rw (plus (a * 2 ^ k), plus (b * 2 ^ k)) refl in
    let r : bit_or a b * 2 ^ k + bit_or 0 0 ≡ bit_or a b * 2 ^ k = plus (bit_or a b * 2 ^ k) in
    ap (λ (n : ℕ). n % 2 ^ w) (sym (l ∙ or_block k a b 0 0 none none ∙ r)) ∙ or_mod (a * 2 ^ k) (b * 2 ^ k) w

four : (a b c d : ℕ) → bit_or (bit_or a b) (bit_or c d) ≡ bit_or (bit_or a c) (bit_or b d)
four a b c d = same_from_bits _ _ (λ i.
    rw (bit_at_or (bit_or a b) (bit_or c d) i, bit_at_or a b i, bit_at_or c d i, bit_at_or (bit_or a c) (bit_or b d) i, bit_at_or a c i, bit_at_or b d i)
    (max_max (bit_at a i) (bit_at b i) (bit_at c i) (bit_at d i)))

both : (f g : ℕ → ℕ) → Joins f → Joins g → Joins (λ x. bit_or (f x) (g x))
both f g hf hg a b = rw (hf a b, hg a b) (four (f a) (f b) (g a) (g b))

then : (f g : ℕ → ℕ) → Joins f → Joins g → Joins (λ x. g (f x))
then f g hf hg a b = ap g (hf a b) ∙ hg (f a) (f b)

opens : (by mask : ℕ) → Joins (opened by mask)
unfolding opened
opens by mask = then (λ x. bit_or x (x * 2 ^ by % 2 ^ 64)) (λ x. bit_and x mask) (both (λ x. x) (λ x. x * 2 ^ by % 2 ^ 64) (λ a b. refl) (shifts_up by 64)) (masks mask)

closes : (by mask : ℕ) → Joins (closed by mask)
unfolding closed
closes by mask = then (λ x. bit_or x (x / 2 ^ by)) (λ x. bit_and x mask) (both (λ x. x) (λ x. x / 2 ^ by) (λ a b. refl) (λ a b. or_shr a b by)) (masks mask)

-- steps of distance and mask, one after the other
abbrev pub opening : List (ℕ × ℕ) → ℕ → ℕ
opening [] x = x
opening (step ∷ steps) x = opening steps (opened step.0 step.1 x)

pub opening-joins : (steps : List (ℕ × ℕ)) → Joins (opening steps)
opening-joins [] = λ a b. refl
opening-joins (step ∷ steps) = then (opened step.0 step.1) (opening steps) (opens step.0 step.1) (opening-joins steps)

abbrev pub closing : List (ℕ × ℕ) → ℕ → ℕ
closing [] x = x
closing (step ∷ steps) x = closing steps (closed step.0 step.1 x)

closing-joins : (steps : List (ℕ × ℕ)) → Joins (closing steps)
closing-joins [] = λ a b. refl
closing-joins (step ∷ steps) = then (closed step.0 step.1) (closing steps) (closes step.0 step.1) (closing-joins steps)

pub masked_closing-joins : (mask : ℕ) (steps : List (ℕ × ℕ)) → Joins (λ x. closing steps (bit_and x mask))
masked_closing-joins mask steps = then (λ x. bit_and x mask) (closing steps) (masks mask) (closing-joins steps)

bit_joins : (a b i : ℕ) → bit_at (bit_or a b) i ≡ bit_or (bit_at a i) (bit_at b i)
bit_joins a b i = ap (λ (n : ℕ). n % 2) (or_shr a b i) ∙ or_mod (a / 2 ^ i) (b / 2 ^ i) 1

pub moves : (c e n : ℕ) → 1 ≤ e → Joins (moved c e n)
unfolding moved
moves c e zero h a b = refl
moves c e (suc n) h a b =
    let rest = moves c e n h a b in
    let x : ℕ = bit_at a (n * c) in
    let y : ℕ = bit_at b (n * c) in
    let top : bit_at (bit_or a b) (n * c) ≡ bit_or x y = bit_joins a b (n * c) in
    let block = or_block (n * e) x y (moved c e n a) (moved c e n b) (moved-lt c e n a h) (moved-lt c e n b h) in
    moved-next c e n (bit_or a b) ∙ rw (rest, top) (sym block) ∙ ap (λ (m : ℕ). bit_or m (y * 2 ^ (n * e) + moved c e n b)) (sym (moved-next c e n a)) ∙ ap (λ (m : ℕ). bit_or (moved c e (suc n) a) m) (sym (moved-next c e n b))

bit_case : (f g : ℕ → ℕ) (v n : ℕ) → v < 2 → f 0 ≡ g 0 → f (2 ^ n) ≡ g (2 ^ n) → f (v * 2 ^ n) ≡ g (v * 2 ^ n)
bit_case f g zero n h z e = let a : 0 * 2 ^ n ≡ 0 = omega arith in rw a z
bit_case f g (suc zero) n h z e = let a : 1 * 2 ^ n ≡ 2 ^ n = omega arith in rw a e
bit_case f g (suc (suc v)) n h z e = absurd (omega arith)

-- two such functions that make the same of each of the lowest bits make the same of those bits together
same_low : (f g : ℕ → ℕ) → Joins f → Joins g → f 0 ≡ g 0 → (w : ℕ) → ((b : ℕ) → b < w → f (2 ^ b) ≡ g (2 ^ b)) → (x n : ℕ) → n ≤ w → f (x % 2 ^ n) ≡ g (x % 2 ^ n)
same_low f g hf hg none w each x zero h = let e : x % 2 ^ 0 ≡ 0 = omega arith in rw e none
same_low f g hf hg none w each x (suc n) h =
    let rest = same_low f g hf hg none w each x n (omega arith) in
    let low = mod_below x (2 ^ n) (pow_pos n) in
    let count : suc n ≡ 1 + n = omega arith in
    let top : ℕ = bit_at x n * 2 ^ n in
    let cut : x % 2 ^ suc n ≡ bit_or top (x % 2 ^ n) = ap (λ (k : ℕ). x % 2 ^ k) count ∙ mod-pow-add x 1 n ∙ sym (or_shifted (bit_at x n) n (x % 2 ^ n) low) in
    let here : f top ≡ g top = bit_case f g (bit_at x n) n (bit_at-lt x n) none (each n (omega arith)) in
    ap f cut ∙ hf top (x % 2 ^ n) ∙ rw (here, rest) refl ∙ sym (hg top (x % 2 ^ n)) ∙ ap g (sym cut)

abbrev pub same_below : (ℕ → ℕ) → (ℕ → ℕ) → ℕ → Bool
same_below f g zero = true
same_below f g (suc n) = (f (2 ^ n) == g (2 ^ n)) && same_below f g n

-- so they are one on numbers of w bits, where a table of what each bit becomes, looked through by computing, agrees
pub same_joins : (f g : ℕ → ℕ) → Joins f → Joins g → f 0 ≡ g 0 → (w : ℕ) → same_below f g w ≡ true → (x : ℕ) → x % 2 ^ w ≡ x → f x ≡ g x
same_joins f g hf hg none w each x small =
    let table = (Decides-below_and (λ b. f (2 ^ b) == g (2 ^ b)) (λ b. f (2 ^ b) ≡ g (2 ^ b)) (same_below f g) (λ b. Decides-eqb (f (2 ^ b)) (g (2 ^ b))) refl (λ _. refl) w).0 each in
    let low : w ≤ w = omega arith in
    ap f (sym small) ∙ same_low f g hf hg none w table x w low ∙ ap g small
