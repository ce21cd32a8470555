-- What the proofs of crates above use of this crate's.
pub use Rattle.ub_table.proofs.KeyFacts.{ascending_get, before_from, before_of, before_parts, before_trans, not_before_origin, not_before_self, not_both_before, precedes_of, precedes_trans}
pub use Rattle.ub_table.proofs.MaskFacts.{few}
pub use Rattle.ub_table.proofs.NameFacts.{length-name, name_block}
pub use Rattle.ub_table.proofs.SchemaFacts.{same_schema}
pub use Rattle.ub_table.proofs.ValueFacts.{coordinates_are_values, values_ascend, values_tell_coordinates, shift_bounds, shift_is, no_coordinate, fitting_coordinate, fits_some_measure, values_of_a_dimension}
