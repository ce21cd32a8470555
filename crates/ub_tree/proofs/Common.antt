-- What the proofs of this crate take from elsewhere.
pub use Rattle.std.proofs.lemmas.Bool.{leb-false, leb-true, ltb-false, ltb-true}
pub use Rattle.std.proofs.lemmas.List.{drop-map, length-replicate, take-map}
pub use Rattle.std.proofs.lemmas.List.Elements.{All-append, recursion_from_All}
pub use Rattle.std.proofs.lemmas.List.Sorted.{length_permutation}
pub use Rattle.std.proofs.lemmas.Map.Keys.{apart_from_distinct, IsDistinct-cons}
pub use Rattle.std.proofs.lemmas.Option.{slice_get_past, unwrap_or-slice_get}
pub use Rattle.std.specs.Bool.{nat_eq}
pub use Rattle.ub_bytes.specs.Bytes.{layout}
pub use Rattle.ub_check.proofs.Common.{Asked, IsFirst, IsNone, IsRegion, keys_of, length-map, map-append, Placed, placed_of, region_on, region_parts}
pub use Rattle.ub_check.proofs.Common.{RegionRows, regions_in, RegionView, Row, SameTrace, StandsHere}
pub use Rattle.ub_check.proofs.PlacedFacts.{one_region, placed_append, placed_at, some_one}
pub use Rattle.ub_check.proofs.ReadingFacts.{region_no_kind}
pub use Rattle.ub_check.proofs.StandingFacts.{each_get, page_still}
pub use Rattle.ub_check.proofs.TakenFacts.{IsTaken, new_below, new_differ, new_of, taken_walk, walk_taken}
pub use Rattle.ub_index.proofs.Common.{address_before, AreChecked, AreGivenFirst, AreGivenNext, AreThose, at_least, BadCount, before_from, before_of}
pub use Rattle.ub_index.proofs.Common.{before_parts, Contains, Corners, end_before, eq-eqb, First, Gives, GivesAfter, GivesFrom, GoesDown, HoldsAny, HoldsKey}
pub use Rattle.ub_index.proofs.Common.{index_holding, IsAim, IsAimless, IsAlone, IsFrom, IsGivenAny, IsIndexKind, IsLater, IsStretchOn, IsWayFault, kept_under}
pub use Rattle.ub_index.proofs.Common.{key_before, le-leb, LeastFrom, lt-leb, Meeting, Meets, MeetsAny, node_not_refused, node_parts, NoneMoreBut}
pub use Rattle.ub_index.proofs.Common.{not_before_origin, OutOfRegion, parts_on, region_of, regions_of, slice_get_cases, slice_get_read, span_end, StandsAsOn}
pub use Rattle.ub_index.proofs.Common.{Stops, StopsAt, store_after, stretch_of, stretches_to, Trace, within, WrongKind}
pub use Rattle.ub_index.proofs.FirstFacts.{below_some, leads_kept, ways_miss}
pub use Rattle.ub_index.proofs.Laws.{region_with, same_key}
pub use Rattle.ub_index.proofs.LeadFacts.{falls_other, led_to, one_given, ways_stay}
pub use Rattle.ub_index.proofs.Numbers.{kept_pages}
pub use Rattle.ub_index.proofs.StandFacts.{are_places, own_apart, stands_as}
pub use Rattle.ub_index.proofs.StretchFacts.{comes_leads, comes_stops, parts_inside, parts_told, parts_up, stretches_each, those_each, those_few, whole_told}
pub use Rattle.ub_index.proofs.WayFacts.{never_stops, way_ends_at}
pub use Rattle.ub_index.specs.Opening.{Opens}
pub use Rattle.ub_index.specs.Standing.{AreRegionsThere, IsGrowFault}
pub use Rattle.ub_index.specs.declared.stretch.Stretch.{Stretch}
pub use Rattle.ub_index_change.proofs.BesideFacts.{added_once, dropped_once, halves_lead, IsKept, joined_lead, KeepsIndex, others_stay, others_stay_added}
pub use Rattle.ub_index_change.proofs.Common.{added_at, all_left, apart_swap, append-nil, AreIndexPages, AreOnce, AreOwnPages, ascend_first, AscendTo}
pub use Rattle.ub_index_change.proofs.Common.{before_trans, cases_Bool, change_view, changed, ChangeView, distinct_apart, distinct_cons, distinct_first}
pub use Rattle.ub_index_change.proofs.Common.{distinct_join, distinct_left, distinct_right, EachTo, EndsFull, entries_in, entries_of, entry_at, eqb-true}
pub use Rattle.ub_index_change.proofs.Common.{falls_once, first_or, flat_map, Grows, if_err, index_view, IndexFault, IsAtMostOne, IsBefore, IsChangeFault}
pub use Rattle.ub_index_change.proofs.Common.{IsCommitted, IsDropFault, IsDropped, IsFilled, IsForeign, IsFullWay, IsIndexOn, IsIndexPage, IsLowerFault}
pub use Rattle.ub_index_change.proofs.Common.{IsOutside, IsPrepared, IsPutFault, IsReachedOnce, IsRegionAt, IsStepFault, IsUnspelled, IsWithinRegion, keeps_on}
pub use Rattle.ub_index_change.proofs.Common.{KeepsChecked, KeepsFilled, kept_index, le_before, le_trans, Leads, LeadsTo, MakesIndex, Mends, named_not_refused}
pub use Rattle.ub_index_change.proofs.Common.{NeedsPages, node_on, not_before_self, not_both_before, page_at, page_is, pager_so, pages_of_index, pages_under}
pub use Rattle.ub_index_change.proofs.Common.{PagesStay, PutsSheets, Region, region_pages, Replaces, SameButSheets, Settles, sheet_of, so_far, Spelled, Spreads}
pub use Rattle.ub_index_change.proofs.Common.{Stand, StandApart, StayBut, StayOutside, Turns, under, ways_hold, within_store}
pub use Rattle.ub_index_change.proofs.DropFacts.{narrow, roots_taken}
pub use Rattle.ub_index_change.proofs.FillFacts.{filled_low, filled_low_levels, stands_filled}
pub use Rattle.ub_index_change.proofs.MadeFacts.{made, made_filled}
pub use Rattle.ub_index_change.proofs.OwnFacts.{count_replaced, foreign_regions, own_added, own_dropped, replaced_at}
pub use Rattle.ub_index_change.proofs.SpelledFacts.{no_parts}
pub use Rattle.ub_index_change.specs.declared.sheet.Sheet.{Sheet}
pub use Rattle.ub_index_change.specs.declared.told.Told.{Told}
pub use Rattle.ub_index_change.specs.declared.told.Told.TheVariants.{Gone, One, Same, Two}
pub use Rattle.ub_laying.specs.Effects.{Counts, written}
pub use Rattle.ub_page.specs.Header.{AreLevels, numbers_of}
pub use Rattle.ub_region.proofs.Laws.{all_after, all_drop, all_from, all_insert, all_keys, all_of_keys, all_remove, all_take, ascending_of, before_cases}
pub use Rattle.ub_region.proofs.Laws.{before_or_same, chain_of, has_append, has_none, insert_keeps_new, insert_table, IsBeforeNext, keys_append}
pub use Rattle.ub_region.proofs.Laws.{length-insert_row, length-remove_row, next_free, other_key, remove_keeps, remove_none, remove_rows, remove_table}
pub use Rattle.ub_region.proofs.Laws.{two_chain, up_append, up_cons, up_head, up_remove, up_tail, upto_before}
pub use Rattle.ub_region.specs.Joins.{JoinsBefore, JoinsNext, put_rows}
pub use Rattle.ub_region.specs.RegionPage.{only_region}
pub use Rattle.ub_region.specs.Regions.{AreApart, change_from, firsts_of, fits_next, insert, is_small, join_first, numbered, remove_first, two_regions}
pub use Rattle.ub_store.specs.View.{emptied, IsFull, pager_view}
pub use Rattle.ub_store.specs.Writing.{IsOther, KeepsBut, put_store}
pub use Rattle.ub_table.specs.Filling.{row_of}
pub use Rattle.ub_table.specs.Keys.{AreKeysAscending, is_same}
pub use Rattle.ub_table.specs.Region.{AreFrom, HasRest, IsNumbered, IsRow, measures_of}
pub use Rattle.ub_upgrade.proofs.Common.{All, All-from_recursion, all_append, all_more, all_right, AllByRecursion, and_from, AreBelow, AreSame, CanBring}
pub use Rattle.ub_upgrade.proofs.Common.{cases_eq, cases_lt, common_steps, directory_of, Entry, first_keys, get_or_from_slice_get, HasMark, HasOldHeader}
pub use Rattle.ub_upgrade.proofs.Common.{header_page_of, IndexView, IsBringFault, IsBrought, IsChain, IsDirectory, IsEntry, IsErrAnd, IsErrOf, IsHonest}
pub use Rattle.ub_upgrade.proofs.Common.{IsNotTaken, IsPage, IsTableFault, IsUnder, Key, last_address, length-append, length-drop, NamesFitting, OldHeader}
pub use Rattle.ub_upgrade.proofs.Common.{origin, page_count, page_in, PageFault, PagerView, precedes, precedes_of, Root, root_in, Schema, slice_get_within}
pub use Rattle.ub_upgrade.proofs.Common.{StoreFacts, StoreFault, top}
pub use Rattle.ub_upgrade.proofs.TableFacts.{root_fits, versions}
pub use Rattle.ub_upgrade.specs.Bringing.{HasIndexOf, IsHeadFault}
pub use Rattle.ub_upgrade.specs.Table.{BringsTable, IsMade, IsMadeOf, IsNewFault, IsRootRefused}
pub use Rattle.ub_writing.specs.Closing.{IsClosed}
pub use Rattle.ub_writing.specs.Marks.{first_page, is_written, Marks, PutsMark}
pub use Rattle.ub_writing.specs.Puts.{IsPutPage, Puts, PutsTwo}
pub use Rattle.ub_writing.specs.declared.mark.Mark.{Mark}
pub use Rattle.ub_writing.specs.declared.mark.Mark.TheVariants.{Due, Written}
pub use Rattle.ub_tree.specs.Calls.{IsCreated, IsCreateFault}
pub use Rattle.ub_tree.specs.Change.{IsInserted, IsPutIn, next_after, Suits}
pub use Rattle.ub_tree.specs.Checking.{asked_of, ChecksPages, IsChecked, IsCheckFault, IsFirstFault, IsWell, StopsTree, TakesTree, told_of}
pub use Rattle.ub_tree.specs.Common.{ArePlaced, AreRegions, AreSoundPages, BadOrder, entries_under, entry_of, Failed, Full, GivesAny, Halves, has_key, HasIndex}
pub use Rattle.ub_tree.specs.Common.{Header, header_page, index_of, insert_row, IsFree, IsHeader, IsHeaderFault, IsLaidOut, IsMarkOf, IsSound, KeepsTrace}
pub use Rattle.ub_tree.specs.Common.{KeepsUnless, key_of, MAX_LEVEL, MAX_ROW_NUMBER, Memory, Notes, Page, ReadFault, region_count, regions, remove, remove_row}
pub use Rattle.ub_tree.specs.Common.{reserved, rows_of, settle, spans_of, split, split_region, Store, tree_rows, TreeFault, TreeView, Unclean, untouched}
pub use Rattle.ub_tree.specs.Effects.{Changes, ChangesOf, HasEnded, HasNumber, IsIndexRefused, IsLeft, IsLeftOf, IsMarkedFirst, IsPageMissing, IsPageRefused}
pub use Rattle.ub_tree.specs.Effects.{IsReadFault, IsSearchFault, IsSpanFault, IsStopped, IsTakenIn, KeepsMark, Leaves, raised_by, read_store, Searches}
pub use Rattle.ub_tree.specs.Effects.{SearchesFor, Works, written_store}
pub use Rattle.ub_tree.specs.Faults.{index_fault, tree_fault, upgrade_fault}
pub use Rattle.ub_tree.specs.Handing.{AreMetBy, AreNext}
pub use Rattle.ub_tree.specs.Holding.{Answers, AnswersAt, AnswersKey, AnswersRemoval, CanFallInto, FallsInto, GrowsAt, HasNoRoom, HasRoomAt, IsJoined}
pub use Rattle.ub_tree.specs.Holding.{IsRoomFault, ShrinksAt}
pub use Rattle.ub_tree.specs.Indexed.{Inner}
pub use Rattle.ub_tree.specs.Inserted.{Inserts, InsertsAs}
pub use Rattle.ub_tree.specs.Laws.{AllAreWithin, AnswersAreRegionsThatMeet, AnswersAreThoseThatMeet, AnswersAscend, AnswersCover, FirstFaultIsOne}
pub use Rattle.ub_tree.specs.Laws.{GrownIsNotFull, LiesIn, LowestAreRegions, LowestHoldOne, NextIsLater, NextIsTheFirst, PagesDiffer, PartsAreBelow}
pub use Rattle.ub_tree.specs.Laws.{PartsAreTold, PartsAscend, PartsCover, PartsHold, PartsLieIn, PartsLieWithin, RegionsAreTold, RowsLieInSpans}
pub use Rattle.ub_tree.specs.Laws.{SomeRegionMeets, SoundTreesAreWell, SpansAscend, SpansCoverTheSpace, StretchesBegin, StretchIsItsRegions, WellPagesAreSound}
pub use Rattle.ub_tree.specs.Laws.{WholeIsTold}
pub use Rattle.ub_tree.specs.Old.{AreOldPages, AreTold, head_of}
pub use Rattle.ub_tree.specs.Opened.{HasHeader, IsMarkFault, IsOpened, IsOpenFault, IsPassing, IsRooted}
pub use Rattle.ub_tree.specs.Others.{AddsEntry, AreOthersKept, IsHalfOf, JoinsKeys, KeepsAllBut, KeepsBeside, KeepsEntries, KeepsOthers, SplitsKeys}
pub use Rattle.ub_tree.specs.Others.{WritesIndex, WritesOneRegion, WritesPage}
pub use Rattle.ub_tree.specs.Pages.{LeavesRows, PutsRow, Spells, SpellsHalves, TakesRow}
pub use Rattle.ub_tree.specs.Reading.{counted, fault_of_tree, IsGiven, IsWalkFault, ReadsTree, SearchesTree}
pub use Rattle.ub_tree.specs.Removal.{IsRemovalFault, IsRemoved, Lessens, Removes}
pub use Rattle.ub_tree.specs.Told.{AreAnswers, AreFirst, FallsTo, GivesNext, IsRegionOf, KeepsTold, SeeksNext, TellsStill}
pub use Rattle.ub_tree.specs.Tree.{IsTree, known_pages, placed_in, tree_view}
pub use Rattle.ub_tree.specs.Upgrade.{HasTable, IsLeftBy, IsUnopened, IsUpgraded, IsUpgradeFault, IsUpgradePassing, StandsOver}
pub use Rattle.ub_tree.specs.View.{KeepsRegions, spans_in}
pub use Rattle.ub_tree.specs.inner.Change.{AreRowsFrom, CanStand, GrowsTo, HasReadAt, HasStopped, IsAddReady, IsDropReady, IsElsewhereSame, IsIndexFault, IsPut}
pub use Rattle.ub_tree.specs.inner.Change.{IsReadyFault, IsRegionIn, IsRegionThere, IsSpelledAt, IsSplitAt, IsStored, IsWriteFault, KeepsGrown, MakesReady}
pub use Rattle.ub_tree.specs.inner.Change.{placed_with, regions_with, split_of, StandAt, StoresAt, StoresRows, Writes, WritesBoth}
pub use Rattle.ub_tree.specs.inner.Removing.{AnswersBeside, AnswersLeft, HasTakenBefore, HasTakenNext, IsPair, JoinsAt, TakesAt}
pub use Rattle.ub_tree.specs.inner.Upgrading.{IsCarried}
unfoldable pub use Rattle.ub_bytes.specs.Bytes.{number_bytes}
unfoldable pub use Rattle.ub_check.proofs.Common.{region_page}
unfoldable pub use Rattle.ub_index_change.proofs.Common.{IsDistinct, number_at}
unfoldable pub use Rattle.ub_page.specs.Header.{page_of}
unfoldable pub use Rattle.ub_upgrade.proofs.Common.{directory_page}
