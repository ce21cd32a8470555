-- Pages that stand in bytes.
use Rattle.std.proofs.Common.{◌≡◌, ◌∙◌, ◌≤◌, ◌+◌, ◌*◌, ◌++◌, ℕ, List, Some, ap, arith, drop, length, sym, take}
use Rattle.std.proofs.lemmas.List.{drop-append-le, length-drop, take-append-le}
use Rattle.ub_journal.specs.Place.{AreIn, page_in}

-- bytes more behind them change none of them
kept : (i : ℕ) (run rest : List ℕ) → i * 4096 + 4096 ≤ length run → page_in i (run ++ rest) ≡ page_in i run
kept i run rest fits =
    let left = length-drop (i * 4096) run in
    ap (λ (xs : List ℕ). take 4096 xs) (drop-append-le (i * 4096) run rest (omega (arith, fits))) ∙ take-append-le 4096 (drop (i * 4096) run) rest (omega (arith, fits, left))

pub still_in : (n count : ℕ) (run rest : List ℕ) (pages : List (List ℕ)) → count * 4096 ≤ length run → AreIn run n count pages → AreIn (run ++ rest) n count pages
still_in n count run rest pages fits are i less =
    are i less ∙ ap (λ (xs : List ℕ). Some xs) (sym (kept i run rest (omega (arith, fits, less))))
