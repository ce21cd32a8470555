-- What the proofs of this crate take from elsewhere.
pub use Rattle.std.proofs.lemmas.Grind.{common_steps}
pub use Rattle.std.proofs.lemmas.List.{drop-append-le, length-drop, length-take, take-append-drop, take-append-le, take_all}
pub use Rattle.std.specs.Result.{IsErrOf, MatchResult}
pub use Rattle.ub_index.proofs.Common.{All, All-from_recursion, all_append, all_more, all_right, AllByRecursion, and_from, and_parts, are_ascending}
pub use Rattle.ub_index.proofs.Common.{AreAscending, ArePlaces, cases_eq, cases_lt, drop_all, Entry, first_keys, get_or_from_slice_get, IndexView, IsEntry}
pub use Rattle.ub_index.proofs.Common.{IsErrAnd, IsHonest, IsNotTaken, IsPage, IsUnder, IsUnfit, Key, length-append, NamesFitting, origin, page_count, page_in}
pub use Rattle.ub_index.proofs.Common.{PageFault, PagerView, precedes, precedes_of, slice_get_within, StoreFacts, top}
pub use Rattle.ub_index.specs.Common.{raised, StoreFault}
pub use Rattle.ub_laying.proofs.AddFacts.{adds_self, adds_trans, honest_after, honest_over, not_after}
pub use Rattle.ub_laying.proofs.LevelFacts.{ascend_of, cut_added, lowest_level}
pub use Rattle.ub_laying.specs.Effects.{AddsPages, HasNotFailed}
pub use Rattle.ub_laying.specs.declared.levels.Level.{Level}
pub use Rattle.ub_laying.specs.declared.levels.Root.{Root}
pub use Rattle.ub_page.proofs.PageLaws.{listing_not_refused, listing_parts, small_address}
pub use Rattle.ub_page.specs.Directory.{IsListing, Listing}
pub use Rattle.ub_page.specs.Header.{AreSame, header_page_of, IsOldHeader}
pub use Rattle.ub_page.specs.declared.header.OldHeader.{OldHeader}
pub use Rattle.ub_table.specs.declared.schema.Schema.{Schema}
pub use Rattle.ub_writing.specs.Marks.{HasMark}
pub use Rattle.ub_zaddr.specs.Address.{last_address}
pub use Rattle.ub_upgrade.specs.Bringing.{directory_of, HasOldHeader, IsBringFault, IsBrought}
pub use Rattle.ub_upgrade.specs.Building.{AreLeaves, HasBuilt, IsBuildFault, IsBuilt, IsPassing}
pub use Rattle.ub_upgrade.specs.Chain.{IsChain}
pub use Rattle.ub_upgrade.specs.Reading.{AreBegun, AreBelow, AreFull, HasPart, heading_of, HeadingView, IsAskedFor, IsDirectory, IsMet, IsMisfit, IsNamed}
pub use Rattle.ub_upgrade.specs.Reading.{IsPartFault, IsReadUpTo, last_first, Spells}
pub use Rattle.ub_upgrade.specs.Table.{CanBring, IsTableFault, root_in}
pub use Rattle.ub_upgrade.specs.declared.fault.UpgradeFault.{UpgradeFault}
pub use Rattle.ub_upgrade.specs.declared.fault.UpgradeFault.TheVariants.{New, Old, Page}
unfoldable pub use Rattle.ub_index.proofs.Common.{index_page}
unfoldable pub use Rattle.ub_page.specs.Directory.{directory_page}
