use Rattle.std.proofs.Common.{◌≡◌, ◌≤◌, ◌*◌, ◌++◌, ℕ, List, Result, Ok, Err, IfOk, arith, length, sym}
use Rattle.std.proofs.lemmas.List.{length-append}
use Rattle.ub_journal.specs.Place.{AreIn}
use Rattle.ub_keeping.proofs.AheadFacts.{still_in}
use Rattle.ub_keeping.proofs.ahead.fill.Goals as goal

-- what was read stands there, with what stood behind it
read_of : {E : Type 0} (r : Result ℕ E) (n lent : ℕ) (run rest : List ℕ) (pages : List (List ℕ)) (H : Type 0) → lent ≡ length run
    → IfOk r (λ count. H → AreIn run n count pages) → IfOk r (λ count. (1 ≤ count) × (count * 4096 ≤ lent))
    → IfOk r (λ count. (1 ≤ count) × (count * 4096 ≤ length (run ++ rest)) × (H → AreIn (run ++ rest) n count pages))
read_of (Err e) n lent run rest pages H long are many = tt
read_of (Ok count) n lent run rest pages H long are many =
    let more = length-append run rest in (
      many.0,
      omega (arith, many.1, long, more),
      λ h. still_in n count run rest pages (omega (arith, many.1, long)) (are h),
    )

pub returns-clause-read : goal.returns-clause-read
returns-clause-read g c =
    read_of c.read_run.result c.args.n _ c.read_run.new.bytes _ _ _ (sym c.read_run.auto.bytes) c.read_run.ensures.read c.read_run.ensures.many
