-- How many changes a journal has, and the pages of numbers.
use Rattle.std.proofs.Common.{◌≡◌, ◌<◌, ◌+◌, ◌*◌, ◌^◌, ℕ, zero, suc, List, [], ◌∷◌, Some, length, take, drop, slice_get, refl, ap, arith, ◌∙◌}
use Rattle.std.proofs.lemmas.List.{drop-drop, length-map}
use Rattle.ub_journal.specs.Image.{Journal, AreAscending, IsJournal, numbers_of}
use Rattle.ub_journal.specs.declared.journal.Change.{Change}
use Rattle.ub_journal_page.specs.Pages.{number_page}
use Rattle.ub_journal_page.specs.Whole.{number_pages}

ascending_few : (above count : ℕ) (numbers : List ℕ) → above < count → AreAscending above count numbers → above + length numbers < count
ascending_few above count [] less are = omega arith
ascending_few above count (n ∷ numbers) less are = let more = ascending_few n count numbers are.1 are.2 in let up = are.0 in omega arith

-- a journal changes fewer pages than the table is to have
pub few_changes : (j : Journal) → IsJournal j → length j.changes < 2 ^ 32
few_changes j is =
    let some = is.some in let few = is.few in
    let less = ascending_few 0 j.count (numbers_of j.changes) (omega arith) is.ascending in
    omega (arith, length-map j.changes (λ (c : Change). c.number))

pub length_number_pages : (n : ℕ) (numbers : List ℕ) → length (number_pages n numbers) ≡ n
length_number_pages zero numbers = refl
length_number_pages (suc n) numbers = ap suc (length_number_pages n (drop 1024 numbers))

-- the page of numbers at a place
pub get_numbers : (k : ℕ) (numbers : List ℕ) (i : ℕ) → i < k → slice_get (number_pages k numbers) i ≡ Some (number_page (take 1024 (drop (1024 * i) numbers)))
get_numbers zero numbers i less = absurd (omega arith)
get_numbers (suc k) numbers zero less = let at : 0 ≡ 1024 * 0 = omega arith in ap (λ (n : ℕ). Some (number_page (take 1024 (drop n numbers)))) at
get_numbers (suc k) numbers (suc i) less =
    let at : 1024 + 1024 * i ≡ 1024 * suc i = omega arith in
    get_numbers k (drop 1024 numbers) i (omega arith)
    ∙ ap (λ (ns : List ℕ). Some (number_page (take 1024 ns))) (drop-drop (1024 * i) 1024 numbers ∙ ap (λ (n : ℕ). drop n numbers) at)
