-- Numbers that are read of bytes cut out of a page, into the first places of a column.
use Rattle.std.proofs.Common.{◌≡◌, ◌<◌, ◌≤◌, ◌+◌, ◌-◌, ◌*◌, ℕ, List, length, map, take, drop, get_or, sym, ap, arith, ◌∙◌}
use Rattle.std.proofs.lemmas.List.{drop-drop, drop-take, ext_get_or}
use Rattle.std.proofs.lemmas.List.FromFn.{length-map-range_with_len, get_or-map-range_with_len}
use Rattle.std.specs.List.{range_with_len}
use Rattle.byteorder.specs.Endian.{big_number}
use Rattle.byteorder.specs.Numbers.{big_from-take}
use Rattle.ub_bytes.specs.Bytes.{number_at}

-- a number in the bytes is the one that stands on the page
pub number_cut : (width start many k at : ℕ) (page : List ℕ) → width * k + width ≤ many → at ≡ start + width * k
    → big_number width (drop (width * k) (take many (drop start page))) ≡ number_at width at page
unfolding number_at
number_cut width start many k at page within is =
    let rest : ℕ = many - width * k in
    let all : many ≡ width * k + rest = omega arith in
    ap (λ (n : ℕ). big_number width (drop (width * k) (take n (drop start page)))) all
    ∙ ap (big_number width) (drop-take (width * k) rest (drop start page))
    ∙ big_from-take 0 width rest (drop (width * k) (drop start page)) (omega arith)
    ∙ ap (big_number width) (drop-drop (width * k) start page)
    ∙ ap (λ (o : ℕ). big_number width (drop o page)) (sym is)

-- what was read is these values
pub all_read : {A : Type 0} (count : ℕ) (blank : A) (f : ℕ → A) (column : List A) → length column ≡ count
    → ((i : ℕ) → i < count → get_or column i blank ≡ f i) → column ≡ map f (range_with_len 0 count)
all_read {A} count blank f column long each =
    ext_get_or blank column (map f (range_with_len 0 count)) (omega (arith, long, length-map-range_with_len f 0 count))
    (λ i less. each i (omega arith) ∙ sym (get_or-map-range_with_len f 0 count i i blank (omega arith) (omega arith)))
