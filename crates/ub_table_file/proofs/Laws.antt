-- What the proofs of crates above use of this crate's.
pub use Rattle.ub_table_file.proofs.AppendFacts.{appended_sound, rows_for}
pub use Rattle.ub_table_file.proofs.CrashFacts.{read_honest, still_honest}
pub use Rattle.ub_table_file.proofs.FileFacts.{has_read, none_kept, not_opened, not_read, not_so, where_ok}
pub use Rattle.ub_table_file.proofs.GoesFacts.{runs_as, runs_both, runs_none, runs_of, runs_of_same, runs_same, runs_still, runs_then}
pub use Rattle.ub_table_file.proofs.KeptFacts.{says_done, store_not_done, tree_not_done}
pub use Rattle.ub_table_file.proofs.LastFacts.{load_says, never_done, store_says, tree_says}
