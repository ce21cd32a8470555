use Rattle.std.proofs.Common.{◌≡◌, ◌+◌, ◌*◌, ◌∙◌, length, arith}
use Rattle.ub_bytes.specs.Bytes.{number_at}
use Rattle.ub_region.proofs.CutFacts.{all_read, number_cut}
use Rattle.ub_region.proofs.columns.read_dim.Goals as goal

pub returns : goal.returns
returns c =
    let a = c.args in
    let room = c.requires.count in
    let long : length c.read_u32_into.new.dst ≡ 64 = c.read_u32_into.auto.dst ∙ c.told-column in
    all_read 64 0 (λ i. number_at 4 (a.offset + 4 * (a.count * a.dim + i)) a.page.now) c.read_u32_into.new.dst long
    (λ i less. c.read_u32_into.ensures i (omega arith) ∙ number_cut 4 (a.offset + 4 * (a.count * a.dim)) _ i _ a.page.now (omega arith) (omega arith))
