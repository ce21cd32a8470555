-- What the proofs of crates above use of this crate's.
pub use Rattle.ub_tetris.proofs.MachineFacts.{IsSweepOver, broken_after, broken_before, runs_out, runs_out_with_the_meaning, stops, stops_with_the_meaning}
pub use Rattle.ub_tetris.proofs.BrokenFacts.{placed_of}
pub use Rattle.ub_tetris.proofs.EffectFacts.{either_noted}
pub use Rattle.ub_tetris.proofs.BoxFacts.{have_dimension}
pub use Rattle.ub_tetris.proofs.EffectFacts.{asked_more, place_before}
pub use Rattle.ub_tetris.proofs.EventFacts.{met_first}
pub use Rattle.ub_tetris.proofs.PlaceFacts.{all_told, order_then}
pub use Rattle.ub_tetris.proofs.TimesFacts.{held_once, times_append, times_cons, weight_most}
