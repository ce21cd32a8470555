-- What the proofs of crates above use of this crate's.
pub use Rattle.ub_zaddr.proofs.AddressFacts.{address-bit, address-le, address-lt, address-one_to_one, address-order, is_place}
pub use Rattle.ub_zaddr.proofs.BitFacts.{bit_of_shift, same_bit, same_xor, xor_same}
