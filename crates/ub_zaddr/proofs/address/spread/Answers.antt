use Rattle.std.proofs.Common.{◌≡◌, ◌≤◌, Ok, length, rules, arith, sym, ap, ◌∙◌}
use Rattle.ub_zaddr.specs.Address.{address, last_address, IsPoint}
use Rattle.ub_zaddr.proofs.AddressFacts.{address-le, address-one_to_one}
use Rattle.ub_zaddr.proofs.SpreadFacts.{spread_point}
use Rattle.ub_zaddr.proofs.address.spread.Goals as goal

pub returns-then-last-z-clause-inverse : goal.returns-then-last-z-clause-inverse
returns-then-last-z-clause-inverse c = λ p is e. let le : address p ≤ last_address c.args.shape = address-le c.args.shape p is.0 in absurd (omega arith)

is_point : (c : goal.After-of_places) → IsPoint c.args.shape c.of_places.result × (address c.of_places.result ≡ c.args.z)
is_point c =
    let four : length c.coordinates.result ≡ 4 = search rules in
    rw c.of_places.ensures (spread_point c.args.shape c.args.z c.coordinates.result four (omega arith) (omega arith) c.coordinates.ensures.words (rw c.dims.ensures.same at c.coordinates.ensures.bits))

pub returns-clause-point : goal.returns-clause-point
returns-clause-point c = let all = is_point c in (all.0.0, all.1)

pub returns-clause-inverse : goal.returns-clause-inverse
returns-clause-inverse c = λ p is e. let all = is_point c in ap Ok (address-one_to_one c.args.shape c.of_places.result p all.0 is (all.1 ∙ sym e))
