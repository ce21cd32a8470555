use Rattle.std.proofs.Common.{◌≡◌, ◌+◌, ◌*◌, ◌∙◌, pos, ap, length, arith}
use Rattle.std.specs.Int.{w64, cast_signed}
use Rattle.ub_bytes.specs.Bytes.{number_at}
use Rattle.ub_region.proofs.CutFacts.{all_read, number_cut}
use Rattle.ub_region.proofs.columns.read_measure.Goals as goal

pub returns : goal.returns
returns c =
    let a = c.args in
    let room = c.requires.count in
    let long : length c.read_i64_into.new.dst ≡ 64 = c.read_i64_into.auto.dst ∙ c.told-column in
    all_read 64 (pos 0) (λ i. cast_signed w64 (number_at 8 (a.offset + 8 * (a.count * a.measure + i)) a.page.now)) c.read_i64_into.new.dst long
    (λ i less. c.read_i64_into.ensures (pos 0) i (omega arith) ∙ ap (cast_signed w64) (number_cut 8 (a.offset + 8 * (a.count * a.measure)) _ i _ a.page.now (omega arith) (omega arith)))
