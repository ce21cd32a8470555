-- Bytes put in and lengths set, by the parts of a list.
use Rattle.std.proofs.Common.{◌≡◌, ◌≤◌, ◌+◌, ◌-◌, ◌++◌, ◌∷◌, [], ◌∙◌, ℕ, zero, suc, Bool, true, false, IsTrue, List, length, max, min, take, drop, replicate, ap, arith, refl, sym}
use Rattle.acceptance_page.specs.Fake.{IsBetween}
use Rattle.ub_file.specs.Raw.{put_at, with_length}

pub with_is : (n : ℕ) (bytes : List ℕ) → take n bytes ++ replicate {A = ℕ} (n - length bytes) 0 ≡ with_length n bytes
unfolding with_length
with_is zero [] = refl
with_is zero (b ∷ bytes) = let none : zero - length (b ∷ bytes) ≡ zero = omega arith in ap (λ k. replicate {A = ℕ} k 0) none
with_is (suc n) [] =
    let all : suc n - zero ≡ suc n = omega arith in
    let less : n - zero ≡ n = omega arith in
    ap (λ k. replicate {A = ℕ} k 0) all ∙ ap (λ bs. 0 ∷ bs) (ap (λ k. replicate {A = ℕ} k 0) (sym less) ∙ none n ∙ with_is n [])
  where
    none : (n : ℕ) → replicate {A = ℕ} (n - zero) 0 ≡ take n [] ++ replicate {A = ℕ} (n - zero) 0
    none zero = refl
    none (suc n) = refl
with_is (suc n) (b ∷ bytes) =
    let less : suc n - length (b ∷ bytes) ≡ n - length bytes = omega arith in
    ap (λ bs. b ∷ bs) (ap (λ k. take n bytes ++ replicate {A = ℕ} k 0) less ∙ with_is n bytes)

pub with_same : (n : ℕ) (bytes : List ℕ) → n ≡ length bytes → with_length n bytes ≡ bytes
unfolding with_length
with_same zero [] is = refl
with_same zero (b ∷ bytes) is = absurd (omega arith)
with_same (suc n) [] is = absurd (omega arith)
with_same (suc n) (b ∷ bytes) is = ap (λ bs. b ∷ bs) (with_same n bytes (omega arith))

pub put_within : (place : ℕ) (new bytes : List ℕ) → place + length new ≤ length bytes
    → take place bytes ++ (new ++ drop (length new) (drop place bytes)) ≡ put_at place new bytes
unfolding put_at
put_within zero new bytes within = refl
put_within (suc place) new [] within = absurd (omega arith)
put_within (suc place) new (b ∷ bytes) within = ap (λ bs. b ∷ bs) (put_within place new bytes (omega arith))

pub nowhere : (size : ℕ) (old new : List ℕ) → new ≡ old → IsBetween size old new
nowhere size old new same = (length old, omega arith, omega arith, same ∙ sym (with_same (length old) old refl))

-- a length that was gone to half the way, or not at all
pub half_way : (size half : ℕ) (old new : List ℕ) (done : Bool) → min (length old) size ≤ half → half ≤ max (length old) size
    → (IsTrue done → new ≡ with_length half old) → (done ≡ false → new ≡ old) → IsBetween size old new
half_way size half old new true least most set kept = (half, least, most, set refl)
half_way size half old new false least most set kept = nowhere size old new (kept refl)
