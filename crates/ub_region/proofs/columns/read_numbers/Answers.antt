use Rattle.std.proofs.Common.{◌+◌, ◌*◌, ◌∙◌, ℕ, ap, arith}
use Rattle.ub_bytes.specs.Bytes.{number_at}
use Rattle.ub_region.proofs.ColumnFacts.{all_same}
use Rattle.ub_region.proofs.columns.read_numbers.Goals as goal

pub returns : goal.returns
returns c =
    let page = c.args.page.now in
    let count = c.args.count in
    c.read_dim.ensures ∙ all_same (λ i. number_at 4 (24 + 4 * (count * 0 + i)) page) (λ i. number_at 4 (24 + 4 * i) page) 64 (λ i less. ap (λ (k : ℕ). number_at 4 k page) (omega arith))
