use Rattle.std.proofs.Common.{◌≡◌, ◌∙◌, ◌<◌, ◌+◌, ◌++◌, ℕ, zero, suc, List, Some, ap, arith, length, slice_get, sym, take}
use Rattle.std.proofs.lemmas.List.{length-take-le, take-append-le, take_all}
use Rattle.ub_journal.specs.Place.{page_in}
use Rattle.ub_journal.proofs.place.Place.read_run.Goals as goal

-- what stands first in the bytes is the first page
took : (page rest : List ℕ) → length page ≡ 4096 → take 4096 (page ++ rest) ≡ page
took page rest long = take-append-le 4096 page rest (omega (arith, long)) ∙ take_all 4096 page (omega (arith, long))

first_page : (pages : List (List ℕ)) (n i : ℕ) (page rest : List ℕ) → length page ≡ 4096 → slice_get pages n ≡ Some page → i < 1
    → slice_get pages (n + i) ≡ Some (page_in i (page ++ rest))
first_page pages n zero page rest long at less =
    let here : n + 0 ≡ n = omega arith in
    rw here (at ∙ ap (λ (xs : List ℕ). Some xs) (sym (took page rest long)))
first_page pages n (suc i) page rest long at less = absurd (omega (arith, less))

pub copy_from_slice-requires : goal.copy_from_slice-requires
copy_from_slice-requires g c = length-take-le 4096 c.args.bytes.now c.requires.room ∙ sym c.read_page.array_long

pub returns-clause-read : goal.returns-clause-read
returns-clause-read g c honest i less =
    first_page _ c.args.n i c.copy_from_slice.new.self _ (ap (λ (xs : List ℕ). length xs) c.copy_from_slice.ensures.after ∙ c.read_page.array_long)
    (c.in_ok-read_page.ensures.page honest ∙ ap (λ (xs : List ℕ). Some xs) (sym c.copy_from_slice.ensures.after)) less
