-- What the bytes of numbers read as.
use Rattle.std.proofs.Common.{◌≡◌, ◌<◌, ◌+◌, ◌^◌, ℕ, List, [], ◌∷◌, ◌++◌, length, refl, sym, ap, arith, ◌∙◌, append_assoc}
use Rattle.std.proofs.Math.Nat.{mod-eq_of_lt}
use Rattle.std.proofs.lemmas.List.{length-append}
use Rattle.byteorder.specs.Endian.{big_number}
use Rattle.byteorder.specs.Numbers.{big_number-reads_back, length-bytes_high_first}
use Rattle.ub_bytes.specs.Bytes.{number_bytes, number_at, layout}
use Rattle.ub_bytes.proofs.DraftFacts.{of_front}

pub length-number_bytes : (n x : ℕ) → length (number_bytes n x) ≡ n
unfolding number_bytes
length-number_bytes n x = length-bytes_high_first n x

-- a byte is its own byte
pub one_byte : (x : ℕ) → x < 256 → number_bytes 1 x ≡ x ∷ []
unfolding number_bytes
one_byte x small = ap (λ (y : ℕ). y ∷ []) (mod-eq_of_lt small)

reads_back : (n x : ℕ) (rest : List ℕ) → x < 256 ^ n → big_number n (number_bytes n x ++ rest) ≡ x
unfolding number_bytes
reads_back n x rest h = big_number-reads_back n x rest h

-- the number that stands after some bytes of a page
pub read_at : (page front rest : List ℕ) (offset n x : ℕ) → offset ≡ length front → x < 256 ^ n → page ≡ front ++ (number_bytes n x ++ rest) → number_at n offset page ≡ x
unfolding number_at
read_at page front rest offset n x is small e = rw ((of_front front (number_bytes n x ++ rest) page offset is e).0) (reads_back n x rest small)

-- each number fits its bytes
abbrev pub AllFit : List (ℕ × ℕ) → Type 0
AllFit [] = Unit {0}
AllFit (field ∷ fields) = (field.1 < 256 ^ field.0) × AllFit fields

-- each number of a layout is read at its offset
abbrev pub AreAt : ℕ → List (ℕ × ℕ) → List ℕ → Type 0
AreAt offset [] page = Unit {0}
AreAt offset (field ∷ fields) page = (number_at field.0 offset page ≡ field.1) × AreAt (offset + field.0) fields page

pub layout_read : (fields : List (ℕ × ℕ)) (page front rest : List ℕ) (offset : ℕ) → offset ≡ length front → AllFit fields
    → page ≡ front ++ (layout fields ++ rest) → AreAt offset fields page
layout_read [] page front rest offset is fit e = tt
layout_read (field ∷ fields) page front rest offset is fit e =
    let bytes = number_bytes field.0 field.1 in
    let whole : page ≡ front ++ (bytes ++ (layout fields ++ rest)) = e ∙ ap (λ (s : List ℕ). front ++ s) (append_assoc bytes (layout fields) rest) in
    let next : page ≡ (front ++ bytes) ++ (layout fields ++ rest) = whole ∙ sym (append_assoc front bytes (layout fields ++ rest)) in
    let long : offset + field.0 ≡ length (front ++ bytes) = omega (arith, length-append front bytes, length-number_bytes field.0 field.1) in
    (read_at page front (layout fields ++ rest) offset field.0 field.1 is fit.0 whole, layout_read fields page (front ++ bytes) rest (offset + field.0) long fit.1 next)

-- how many bytes a layout takes
abbrev pub layout_len : List (ℕ × ℕ) → ℕ
layout_len [] = 0
layout_len (field ∷ fields) = field.0 + layout_len fields

pub length-layout : (fields : List (ℕ × ℕ)) → length (layout fields) ≡ layout_len fields
length-layout [] = refl
length-layout (field ∷ fields) = omega (arith, length-append (number_bytes field.0 field.1) (layout fields), length-number_bytes field.0 field.1, length-layout fields)
