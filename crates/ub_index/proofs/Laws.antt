-- What the proofs of crates above use.
pub use Rattle.ub_index.proofs.IndexFacts.{first_at, same_key}
pub use Rattle.ub_index.proofs.SeekFacts.{next_meets, no_address, none_of, region_first, seek_first}
pub use Rattle.ub_index.proofs.SpanFacts.{region_is, region_with, with_span}
