-- The order of keys, with 'not before' as 'at most'.
pub use Rattle.ub_region.proofs.KeyLists.{before_upto as before_le, upto_before as le_before, upto_upto as le_trans}
