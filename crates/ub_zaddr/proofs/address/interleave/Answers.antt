use Rattle.std.proofs.Common.{◌≡◌, ℕ, List, ap, take, ◌∙◌}
use Rattle.ub_zaddr.specs.Address.{address}
use Rattle.ub_zaddr.proofs.AddressFacts.{address-le, address-order, address-one_to_one}
use Rattle.ub_zaddr.proofs.address.interleave.Goals as goal

pub returns-clause-address : goal.returns-clause-address
returns-clause-address c =
    c.interleave_places.ensures ∙ ap (λ (p : List ℕ). address p) (rw c.requires at c.places.ensures.places)

pub returns-clause-within : goal.returns-clause-within
returns-clause-within c =
    rw (c.interleave_places.ensures, rw c.requires at c.places.ensures.places) (address-le c.args.shape c.args.point.now c.requires)

pub returns-clause-order : goal.returns-clause-order
returns-clause-order c = λ other is le.
    rw (c.interleave_places.ensures, rw c.requires at c.places.ensures.places) (address-order c.args.shape c.args.point.now other (c.requires, c.places.ensures.words) is le)

pub returns-clause-one_to_one : goal.returns-clause-one_to_one
returns-clause-one_to_one c = λ other is e.
    let same : take c.args.shape c.places.result.now ≡ c.args.point.now = rw c.requires at c.places.ensures.places in
    address-one_to_one c.args.shape other c.args.point.now is (c.requires, c.places.ensures.words) (e ∙ c.interleave_places.ensures ∙ ap (λ (p : List ℕ). address p) same)
