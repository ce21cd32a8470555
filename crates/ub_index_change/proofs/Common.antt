-- What the proofs of this crate take from elsewhere.
pub use Rattle.std.proofs.lemmas.List.{append_cancel_right, length-drop, length-set, length-take-le}
pub use Rattle.ub_index.proofs.Common.{all_append, all_left, all_more, all_right, AllByRecursion, append-nil, AreOwnPages, ArePlaces, ascend_first, ascend_join}
pub use Rattle.ub_index.proofs.Common.{ascend_left, ascend_right, AscendTo, before_le, before_trans, cases_Bool, cases_lt, each_right, EachTo, entries_in}
pub use Rattle.ub_index.proofs.Common.{entries_of, Entry, entry_at, eqb-true, FallsTo, first_append, first_keys, first_or, Fits, flat_map, flat_map-append}
pub use Rattle.ub_index.proofs.Common.{Head, index_view, IndexView, IsBefore, IsEntry, IsErrAnd, IsHonest, IsIndexOn, IsIndexPage, IsNode, IsNotTaken}
pub use Rattle.ub_index.proofs.Common.{IsOutside, IsReachedOnce, IsRegionAt, IsStepFault, IsTold, IsUnder, KeepsChecked, kept_index, kept_named, Key, le_before}
pub use Rattle.ub_index.proofs.Common.{le_trans, Leads, LeadsTo, length-append, length-node_on, NamesFitting, ne_eqb, node_on, not_before_self, not_both_before}
pub use Rattle.ub_index.proofs.Common.{OldStayOutside, origin, page_at, page_count, page_in, PageFault, PagerView, pages_of_index, pages_under, PagesStay}
pub use Rattle.ub_index.proofs.Common.{Region, region_pages, same_entries, same_page, SameBut, slice_get_within, Steps, StepsTo, StoreFacts, told_index, top}
pub use Rattle.ub_index.proofs.Common.{under, WritesAt}
pub use Rattle.ub_index.proofs.FitFacts.{falls_around, few_count, page_is, some_count}
pub use Rattle.ub_index.proofs.FoundFacts.{if_ok}
pub use Rattle.ub_index.proofs.HeldFacts.{both_on, Keeps, keeps_on}
pub use Rattle.ub_index.proofs.KeptFacts.{kept_list, told_named, under_later}
pub use Rattle.ub_index.proofs.LeadFacts.{before_next, falls_once, one_way, ways_hold}
pub use Rattle.ub_index.proofs.Lists.{ascend_later, ascending_of, each_join, each_later, each_left, each_same, if_later, IsNotBefore}
pub use Rattle.ub_index.proofs.Numbers.{apart_swap, differs, distinct_apart, distinct_cons, distinct_first, distinct_join, distinct_left, distinct_rest}
pub use Rattle.ub_index.proofs.Numbers.{distinct_right, kept_pages_list, no_pages, outside_less, StandApart, within_store}
pub use Rattle.ub_index.proofs.OrderFacts.{first_through, under_first}
pub use Rattle.ub_index.proofs.PlaceFacts.{index_of_first, region_found}
pub use Rattle.ub_index.proofs.SearchFacts.{err_is, failed, frame, pager_with, same_store}
pub use Rattle.ub_index.proofs.StandFacts.{node, node_is, put_checked, put_get, some_entries, stay_apart, told_there}
pub use Rattle.ub_index.proofs.StepFacts.{brought_page, if_err, pager_so, step_misfits, steps_keep}
pub use Rattle.ub_index.proofs.WayFacts.{before_found, named_not_refused, stops_here, stops_on}
pub use Rattle.ub_index.proofs.WaysFacts.{compare, end_below, ends_from, first_up_to, from_above, up_below, whole_below, with_none}
pub use Rattle.ub_index.specs.declared.fault.IndexFault.{IndexFault}
pub use Rattle.ub_index.specs.declared.fault.IndexFault.TheVariants.{Full, Page, Store}
pub use Rattle.ub_page.specs.Entries.{entries_on}
pub use Rattle.ub_region.proofs.Laws.{all_both}
pub use Rattle.ub_store.specs.Writing.{Grows}
pub use Rattle.ub_index_change.specs.Changed.{Becomes, BeginFrom, Replaces, StandOn, Stays}
pub use Rattle.ub_index_change.specs.Changing.{AreBelow, AreIndexPages, AreOnce, IsAtMostOne, IsFine, IsNoGrowth, IsNoNew, IsSpreadFault, IsTurnFault}
pub use Rattle.ub_index_change.specs.Changing.{IsUnspelled, Mends, named_as, NamesPage, NeedsNoGrowth, OpensTo, Prepares, sheet_of, so_far, Spelled, Spreads}
pub use Rattle.ub_index_change.specs.Changing.{Stand, StayBut, Turns, with_added}
pub use Rattle.ub_index_change.specs.Filling.{IsFilled, IsFilledRoot, IsHalfFull, KeepsFilled}
pub use Rattle.ub_index_change.specs.FullWay.{EndsFull, IsFullWay}
pub use Rattle.ub_index_change.specs.Lowering.{entries_then, IsDropFault, IsDropped, IsLowerFault, IsLowest, IsRootRefused, Lowers, LowersTo, MakesLow}
pub use Rattle.ub_index_change.specs.Lowering.{page_then, PreparesDrop, ReadsRoots, sole_page, spelled_or, spelled_page, unless_first}
pub use Rattle.ub_index_change.specs.Making.{changed, IsCommitted, IsPutFault, PutsSheets, SameButSheets, StayOutside}
pub use Rattle.ub_index_change.specs.Preparing.{added_at, change_view, ChangeView, HasFullWay, IsChangeFault, IsForeign, IsIndexThen, IsPrepared, IsSettleFault}
pub use Rattle.ub_index_change.specs.Preparing.{IsWithinRegion, MakesIndex, NeedsPages, PreparesAll, Settles, TakesNeeded, TurnsRoot}
pub use Rattle.ub_index_change.specs.declared.change.Change.{Change}
pub use Rattle.ub_index_change.specs.declared.sheet.Sheet.{Sheet}
pub use Rattle.ub_index_change.specs.declared.told.Told.{Told}
pub use Rattle.ub_index_change.specs.declared.told.Told.TheVariants.{Gone, One, Same, Two}
unfoldable pub use Rattle.ub_index.proofs.Common.{IsDistinct, index_page, number_at}
