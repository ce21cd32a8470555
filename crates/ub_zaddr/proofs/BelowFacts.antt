-- Which of two points has the lower address, by the dimension in which they differ at the highest bit.
use Rattle.std.proofs.Common.{rules, ◌≡◌, ◌≢◌, ◌≤◌, ◌<◌, ◌+◌, ◌-◌, ◌*◌, ◌/◌, ◌%◌, ◌^◌, ◌⊎◌, ◌↔◌, ◌==◌, ◌&&◌, ◌||◌, inl, inr, ℕ, zero, suc, Bool, true, false, IsTrue, List, length, take, slice_index, nat_lt, bit_xor, refl, sym, ap, arith, ◌∙◌}
use Rattle.std.proofs.Math.Nat.{mul-le-mul_right, div-one}
use Rattle.std.proofs.Math.Pow.{pow_mono, shr_mono}
use Rattle.std.proofs.lemmas.Bool.{and_from, and_parts, cases_lt, cases_eq, eq-eqb, ne_eqb, lt-ltb, le-ltb, ltb-true}
use Rattle.std.proofs.lemmas.Grind.{same_number_lists}
use Rattle.std.proofs.lemmas.List.{get_or-take, length-take-le}
use Rattle.std.proofs.lemmas.Nat.{div-mul-add, pow_pos, shr-shr}
use Rattle.std.proofs.lemmas.Nat.Bits.{bit_at-lt, bit_at_above, same_from_bits}
use Rattle.std.specs.Int.{bit_at}
use Rattle.ub_zaddr.specs.Address.{address, is_below, place}
use Rattle.ub_zaddr.specs.Higher.{IsHigher}
use Rattle.ub_zaddr.proofs.AddressFacts.{address-bit, address-lt, is_place}
use Rattle.ub_zaddr.proofs.BitFacts.{bit_of_shift, same_bit, same_xor, xor_same}

-- ---- one number

-- a number that isn't 0 has a highest bit
highest_below : (k n : ℕ) → n < 2 ^ k → 0 < n → (bit : ℕ) × (2 ^ bit ≤ n) × (n < 2 ^ suc bit)
highest_below zero n less some = absurd (omega arith)
highest_below (suc k) n less some = elim (cases_lt n (2 ^ k)) [
  | inl lower ↦ highest_below k n lower some
  | inr from ↦ (k, from, less)
]

-- below a power of two nothing is left of a number, and up to the next one 1
none_left : (n k : ℕ) → n < 2 ^ k → n / 2 ^ k ≡ 0
none_left n k less = let e : 0 * 2 ^ k + n ≡ n = omega arith in ap (λ (m : ℕ). m / 2 ^ k) (sym e) ∙ div-mul-add 0 (2 ^ k) n less

power_next : (k : ℕ) → 2 ^ suc k ≡ 2 * 2 ^ k
power_next k = omega arith

one_left : (n k : ℕ) → 2 ^ k ≤ n → n < 2 ^ suc k → n / 2 ^ k ≡ 1
one_left n k from less =
    let p = power_next k in
    let e : 1 * 2 ^ k + (n - 2 ^ k) ≡ n = omega arith in
    ap (λ (m : ℕ). m / 2 ^ k) (sym e) ∙ div-mul-add 1 (2 ^ k) (n - 2 ^ k) (omega arith)

-- the test of the code
higher_told : (x y : ℕ) → x < 2 ^ 32 → y < x → y < bit_xor y x → IsHigher x y
higher_told x y small less differs =
    let (bit, from, upto) = highest_below 32 x small (omega arith) in
    elim (cases_lt y (2 ^ bit)) [
      | inl lower ↦ (bit, lower, from)
      | inr above ↦
          let same : y / 2 ^ bit ≡ x / 2 ^ bit = one_left y bit above (omega arith) ∙ sym (one_left x bit from upto) in
          let lower = xor_same y x bit same in
          absurd (omega arith)
    ]

higher_tests : (x y : ℕ) → IsHigher x y → (y < x) × (y < bit_xor y x)
higher_tests x y h =
    let low = h.1 in let from = h.2 in
    elim (cases_lt (bit_xor y x) (2 ^ h.0)) [
      | inl lower ↦
          let same : y / 2 ^ h.0 ≡ x / 2 ^ h.0 = same_xor y x h.0 lower in
          let none = none_left y h.0 low in
          let one : 2 ^ h.0 / 2 ^ h.0 ≤ x / 2 ^ h.0 = shr_mono h.0 from in
          let whole : 2 ^ h.0 / 2 ^ h.0 ≡ 1 = one_left (2 ^ h.0) h.0 (omega arith) (let p = power_next h.0 in omega (arith, pow_pos h.0)) in
          absurd (omega arith)
      | inr above ↦ (omega arith, omega arith)
    ]

is_true : (b : Bool) → b ≡ true → IsTrue b
is_true b e = search rules

true_is : (b : Bool) → IsTrue b → b ≡ true
true_is b h = search rules

pub higher_test : (x y : ℕ) → x < 2 ^ 32 → IsTrue (nat_lt y x && nat_lt y (bit_xor y x)) ↔ IsHigher x y
higher_test x y small = (
  λ yes. let both = and_parts (nat_lt y x) (nat_lt y (bit_xor y x)) (true_is _ yes) in higher_told x y small (ltb-true y x both.0) (ltb-true y (bit_xor y x) both.1),
  λ h. let both = higher_tests x y h in is_true _ (and_from (nat_lt y x) (nat_lt y (bit_xor y x)) (lt-ltb y x both.0) (lt-ltb y (bit_xor y x) both.1)),
)

-- ---- two numbers that agree above a bit

-- numbers that agree from a bit up agree from any higher one up
agree_up : (a b f g : ℕ) → f ≤ g → a / 2 ^ f ≡ b / 2 ^ f → a / 2 ^ g ≡ b / 2 ^ g
agree_up a b f g le e =
    let split : f + (g - f) ≡ g = omega arith in
    ap (λ (n : ℕ). a / 2 ^ n) (sym split) ∙ sym (shr-shr a f (g - f)) ∙ ap (λ (n : ℕ). n / 2 ^ (g - f)) e ∙ shr-shr b f (g - f) ∙ ap (λ (n : ℕ). b / 2 ^ n) split

halves : (a k : ℕ) → a / 2 ^ k ≡ 2 * (a / 2 ^ suc k) + bit_at a k
halves a k =
    let next : k + 1 ≡ suc k = omega arith in
    let half : a / 2 ^ k / 2 ≡ a / 2 ^ suc k = shr-shr a k 1 ∙ ap (λ (n : ℕ). a / 2 ^ n) next in
    omega arith

less_above : (a b k : ℕ) → a / 2 ^ k < b / 2 ^ k → a < b
less_above a b k h = elim (cases_lt a b) [
  | inl less ↦ less
  | inr from ↦ let le : b / 2 ^ k ≤ a / 2 ^ k = shr_mono k from in absurd (omega arith)
]

-- the bit in which they differ tells which is less
by_bit : (a b k : ℕ) → a / 2 ^ suc k ≡ b / 2 ^ suc k → bit_at a k ≢ bit_at b k → nat_lt a b ≡ nat_lt (bit_at a k) (bit_at b k)
by_bit a b k above differs =
    let ha = halves a k in let hb = halves b k in
    elim (cases_lt (bit_at a k) (bit_at b k)) [
      | inl less ↦ lt-ltb a b (less_above a b k (omega arith)) ∙ sym (lt-ltb (bit_at a k) (bit_at b k) less)
      | inr from ↦ elim (cases_eq (bit_at a k) (bit_at b k)) [
        | inl same ↦ absurd (differs same)
        | inr other ↦
            let more : bit_at b k < bit_at a k = omega arith in
            let lt : b < a = less_above b a k (omega arith) in
            le-ltb a b (omega arith) ∙ sym (le-ltb (bit_at a k) (bit_at b k) from)
      ]
    ]

-- ---- the dimensions so far

-- one of them is the first that differs at the highest bit, and tells which is below
pub record IsLed (n : ℕ) (f g : ℕ → ℕ) (highest : ℕ) (below : Bool) : Type 0 where
  pub dim : ℕ
  pub bit : ℕ
  pub within : dim < n
  pub from : 2 ^ bit ≤ highest
  pub upto : highest < 2 ^ suc bit
  pub above : (j : ℕ) → j < n → f j / 2 ^ suc bit ≡ g j / 2 ^ suc bit
  pub before : (j : ℕ) → j < dim → f j / 2 ^ bit ≡ g j / 2 ^ bit
  pub differs : f dim / 2 ^ bit ≢ g dim / 2 ^ bit
  pub below_is : below ≡ nat_lt (f dim) (g dim)

-- or both points have the same in each
pub record AreAlike (n : ℕ) (f g : ℕ → ℕ) (same : Bool) (highest : ℕ) (below : Bool) : Type 0 where
  pub none : highest ≡ 0
  pub below_is : below ≡ same
  pub each : (j : ℕ) → j < n → f j ≡ g j

abbrev pub AreCompared : ℕ → (ℕ → ℕ) → (ℕ → ℕ) → Bool → ℕ → Bool → Type 0
AreCompared n f g same highest below = AreAlike n f g same highest below ⊎ IsLed n f g highest below

pub compared_none : (f g : ℕ → ℕ) (same : Bool) → AreCompared 0 f g same 0 same
compared_none f g same = inl (record { none = refl; below_is = refl; each = λ j less. absurd (omega arith) })

module _ (n : ℕ) (f g : ℕ → ℕ) (same : Bool) (highest : ℕ) (below : Bool) where
  -- above the highest bit they agree
  agree_above : AreCompared n f g same highest below → (bit : ℕ) → highest < 2 ^ bit → (j : ℕ) → j < n → f j / 2 ^ bit ≡ g j / 2 ^ bit
  agree_above (inl alike) bit less j there = ap (λ (x : ℕ). x / 2 ^ bit) (alike.each j there)
  agree_above (inr led) bit less j there = elim (cases_lt led.bit bit) [
    | inl lower ↦ agree_up (f j) (g j) (suc led.bit) bit (omega arith) (led.above j there)
    | inr from ↦ let low = led.from in let power : 2 ^ bit ≤ 2 ^ led.bit = pow_mono {i = bit} {j = led.bit} from in absurd (omega arith)
  ]

  -- one more, which differs at a higher bit
  pub compared_led : f n < 2 ^ 32 → g n < 2 ^ 32 → AreCompared n f g same highest below → IsHigher (bit_xor (f n) (g n)) highest
      → AreCompared (n + 1) f g same (bit_xor (f n) (g n)) (nat_lt (f n) (g n))
  compared_led fits_f fits_g so higher =
      let none : f n / 2 ^ 32 ≡ g n / 2 ^ 32 = none_left (f n) 32 fits_f ∙ sym (none_left (g n) 32 fits_g) in
      let (bit, from, upto) = highest_below 32 (bit_xor (f n) (g n)) (xor_same (f n) (g n) 32 none) (let some = higher.2 in omega (arith, pow_pos higher.0)) in
      let lower : higher.0 ≤ bit = elim (cases_lt bit higher.0) [
        | inl more ↦ let power : 2 ^ suc bit ≤ 2 ^ higher.0 = pow_mono {i = suc bit} {j = higher.0} (omega arith) in let some = higher.2 in absurd (omega arith)
        | inr le ↦ le
      ] in
      let power : 2 ^ higher.0 ≤ 2 ^ bit = pow_mono {i = higher.0} {j = bit} lower in
      let low = higher.1 in
      let before = agree_above so bit (omega arith) in
      inr (record {
        dim = n;
        bit = bit;
        within = omega arith;
        from = from;
        upto = upto;
        above = λ j less. elim (cases_eq j n) [
          | inl e ↦ ap (λ (k : ℕ). f k / 2 ^ suc bit) e ∙ same_xor (f n) (g n) (suc bit) upto ∙ ap (λ (k : ℕ). g k / 2 ^ suc bit) (sym e)
          | inr other ↦ agree_up (f j) (g j) bit (suc bit) (omega arith) (before j (omega arith))
        ];
        before = before;
        differs = λ e. let small = xor_same (f n) (g n) bit e in absurd (omega arith);
        below_is = refl;
      })

  -- one more, which doesn't
  pub compared_kept : f n < 2 ^ 32 → g n < 2 ^ 32 → AreCompared n f g same highest below → ¬ (IsHigher (bit_xor (f n) (g n)) highest) → AreCompared (n + 1) f g same highest below
  compared_kept fits_f fits_g (inl alike) isnt = elim (cases_lt 0 (bit_xor (f n) (g n))) [
    | inl some ↦
        let none : f n / 2 ^ 32 ≡ g n / 2 ^ 32 = none_left (f n) 32 fits_f ∙ sym (none_left (g n) 32 fits_g) in
        let (bit, from, upto) = highest_below 32 (bit_xor (f n) (g n)) (xor_same (f n) (g n) 32 none) some in
        let zero_is = alike.none in
        absurd (isnt (bit, omega (arith, pow_pos bit), from))
    | inr nothing ↦
        let e : f n / 2 ^ 0 ≡ g n / 2 ^ 0 = same_xor (f n) (g n) 0 (omega arith) in
        let here : f n ≡ g n = sym (div-one (f n)) ∙ e ∙ div-one (g n) in
        inl (record {
          none = alike.none;
          below_is = alike.below_is;
          each = λ j less. elim (cases_eq j n) [
            | inl is ↦ ap f is ∙ here ∙ ap g (sym is)
            | inr other ↦ alike.each j (omega arith)
          ];
        })
  ]
  compared_kept fits_f fits_g (inr led) isnt =
      let within = led.within in
      let small : bit_xor (f n) (g n) < 2 ^ suc led.bit = elim (cases_lt (bit_xor (f n) (g n)) (2 ^ suc led.bit)) [
        | inl less ↦ less
        | inr from ↦ absurd (isnt (suc led.bit, led.upto, from))
      ] in
      inr (record {
        dim = led.dim;
        bit = led.bit;
        within = omega arith;
        from = led.from;
        upto = led.upto;
        above = λ j less. elim (cases_eq j n) [
          | inl e ↦ ap (λ (k : ℕ). f k / 2 ^ suc led.bit) e ∙ same_xor (f n) (g n) (suc led.bit) small ∙ ap (λ (k : ℕ). g k / 2 ^ suc led.bit) (sym e)
          | inr other ↦ led.above j (omega arith)
        ];
        before = led.before;
        differs = led.differs;
        below_is = led.below_is;
      })

-- coordinates that are the same are compared alike
compared_like : (n : ℕ) (f f' g g' : ℕ → ℕ) (same : Bool) (highest : ℕ) (below : Bool) → ((j : ℕ) → j < n → f' j ≡ f j) → ((j : ℕ) → j < n → g' j ≡ g j)
    → AreCompared n f g same highest below → AreCompared n f' g' same highest below
compared_like n f f' g g' same highest below hf hg (inl alike) =
    inl (record { none = alike.none; below_is = alike.below_is; each = λ j less. hf j less ∙ alike.each j less ∙ sym (hg j less) })
compared_like n f f' g g' same highest below hf hg (inr led) =
    let within = led.within in
    inr (record {
      dim = led.dim;
      bit = led.bit;
      within = within;
      from = led.from;
      upto = led.upto;
      above = λ j less. rw (hf j less, hg j less) (led.above j less);
      before = λ j less. rw (hf j (omega arith), hg j (omega arith)) (led.before j less);
      differs = λ e. led.differs (rw (hf led.dim within, hg led.dim within) at e);
      below_is = rw (hf led.dim within, hg led.dim within) led.below_is;
    })

-- ---- all dimensions

or_none : (b : Bool) → (b || false) ≡ b
or_none true = refl
or_none false = refl

below_same : (z : ℕ) (same : Bool) → (nat_lt z z || ((z == z) && same)) ≡ same
below_same z same = rw (le-ltb z z (omega arith), eq-eqb z z refl) refl

below_other : (y z : ℕ) (same : Bool) → y ≢ z → (nat_lt y z || ((y == z) && same)) ≡ nat_lt y z
below_other y z same ne = rw (ne_eqb y z ne) (or_none (nat_lt y z))

module _ (d : ℕ) (p q : List ℕ) (long_p : length p ≡ d) (long_q : length q ≡ d) where
  bit_in : (r : List ℕ) → length r ≡ d → (i b : ℕ) → i < d → b < 32 → bit_at (address r) (place d i b) ≡ bit_at (slice_index r i) b
  bit_in r long i b hi hb = ap (λ (n : ℕ). bit_at (address r) (place n i b)) (sym long) ∙ address-bit r i b (omega arith) hb

  small_in : (r : List ℕ) → length r ≡ d → address r < 2 ^ (32 * d)
  small_in r long = rw long at (address-lt r)

  -- the addresses agree above the place of that bit
  same_above : (w h : ℕ) → w < d → ((j : ℕ) → j < d → slice_index p j / 2 ^ suc h ≡ slice_index q j / 2 ^ suc h)
      → ((j : ℕ) → j < w → slice_index p j / 2 ^ h ≡ slice_index q j / 2 ^ h) → (k : ℕ) → place d w h < k → bit_at (address p) k ≡ bit_at (address q) k
  same_above w h within above before k past = elim (cases_lt k (32 * d)) [
    | inr from ↦ bit_at_above (address p) (32 * d) k (small_in p long_p) from ∙ sym (bit_at_above (address q) (32 * d) k (small_in q long_q) from)
    | inl less ↦
        let (i, b, hi, hb, at) = is_place d k less in
        let here : bit_at (slice_index p i) b ≡ bit_at (slice_index q i) b = elim (cases_lt b h) [
          | inl lower ↦
              let room : (b + 1) * d ≤ h * d = mul-le-mul_right d (omega arith) in
              let next : (b + 1) * d ≡ b * d + d = omega arith in
              absurd (omega arith)
          | inr from ↦ elim (cases_eq b h) [
            | inl e ↦
                let rows : b * d ≡ h * d = ap (λ (n : ℕ). n * d) e in
                same_bit (slice_index p i) (slice_index q i) h b from (before i (omega arith))
            | inr other ↦ same_bit (slice_index p i) (slice_index q i) (suc h) b (omega arith) (above i hi)
          ]
        ] in
        ap (λ (n : ℕ). bit_at (address p) n) (sym at) ∙ bit_in p long_p i b hi hb ∙ here ∙ sym (bit_in q long_q i b hi hb) ∙ ap (λ (n : ℕ). bit_at (address q) n) at
  ]

  -- so which one is below is known
  pub compared_all : (same : Bool) (highest : ℕ) (below : Bool) → ((j : ℕ) → j < d → slice_index p j < 2 ^ 32) → ((j : ℕ) → j < d → slice_index q j < 2 ^ 32)
      → AreCompared d (λ j. slice_index p j) (λ j. slice_index q j) same highest below → below ≡ is_below p q same
  compared_all same highest below words_p words_q (inl alike) =
      let one : p ≡ q = same_number_lists p q (long_p ∙ sym long_q) (λ j less. alike.each j (omega arith)) in
      alike.below_is ∙ sym (below_same (address q) same) ∙ ap (λ (r : List ℕ). is_below r q same) (sym one)
  compared_all same highest below words_p words_q (inr led) =
      let w : ℕ = led.dim in
      let h : ℕ = led.bit in
      let within = led.within in
      let x : ℕ = slice_index p w in
      let y : ℕ = slice_index q w in
      let in_word : h < 32 = elim (cases_lt h 32) [
        | inl less ↦ less
        | inr from ↦
            let power : 2 ^ 32 ≤ 2 ^ h = pow_mono {i = 32} {j = h} from in
            let small_x = words_p w within in
            let small_y = words_q w within in
            absurd (led.differs (none_left x h (omega arith) ∙ sym (none_left y h (omega arith))))
      ] in
      let k : ℕ = place d w h in
      let differs : bit_at x h ≢ bit_at y h = λ e. led.differs (halves x h ∙ rw (led.above w within, e) refl ∙ sym (halves y h)) in
      let at_p = bit_in p long_p w h within in_word in
      let at_q = bit_in q long_q w h within in_word in
      let apart : bit_at (address p) k ≢ bit_at (address q) k = λ e. differs (sym at_p ∙ e ∙ at_q) in
      let agree : address p / 2 ^ suc k ≡ address q / 2 ^ suc k = same_from_bits _ _ (λ t.
      bit_of_shift (address p) (suc k) t ∙ same_above w h within led.above led.before (suc k + t) (omega arith) ∙ sym (bit_of_shift (address q) (suc k) t)) in
      led.below_is ∙ by_bit x y h (led.above w within) differs
      ∙ rw (← at_p, ← at_q) (sym (by_bit (address p) (address q) k agree apart))
      ∙ sym (below_other (address p) (address q) same (λ e. apart (ap (λ (z : ℕ). bit_at z k) e)))

-- the same of the first places of four
pub compared_places : (d : ℕ) (a b : List ℕ) (same : Bool) (highest : ℕ) (below : Bool) → d ≤ 4 → length a ≡ 4 → length b ≡ 4
    → ((j : ℕ) → slice_index a j < 2 ^ 32) → ((j : ℕ) → slice_index b j < 2 ^ 32) → AreCompared d (λ j. slice_index a j) (λ j. slice_index b j) same highest below
    → below ≡ is_below (take d a) (take d b) same
compared_places d a b same highest below within long_a long_b words_a words_b so =
    let first_a : (j : ℕ) → j < d → slice_index (take d a) j ≡ slice_index a j = λ j less. get_or-take d a j 0 less in
    let first_b : (j : ℕ) → j < d → slice_index (take d b) j ≡ slice_index b j = λ j less. get_or-take d b j 0 less in
    compared_all d (take d a) (take d b) (length-take-le d a (omega arith)) (length-take-le d b (omega arith)) same highest below
    (λ j less. rw (first_a j less) (words_a j)) (λ j less. rw (first_b j less) (words_b j))
    (compared_like d (λ j. slice_index a j) (λ j. slice_index (take d a) j) (λ j. slice_index b j) (λ j. slice_index (take d b) j) same highest below first_a first_b so)
