-- What the proofs of this crate take from elsewhere.
pub use Rattle.std.proofs.lemmas.Bool.{and_from, and_left, and_parts, and_right, cases_Bool, cases_eq, cases_lt, eq-eqb, eqb-true, le-leb, lt-leb, ne_eqb}
pub use Rattle.std.proofs.lemmas.Bool.{not_from_false, not_from_true, true≢false}
pub use Rattle.std.proofs.lemmas.Grind.{flat_map-append}
pub use Rattle.std.proofs.lemmas.List.{append-nil, drop_all, length-append}
pub use Rattle.std.proofs.lemmas.List.Elements.{All-from_recursion, filter-append}
pub use Rattle.std.proofs.lemmas.Option.{get_or_from_slice_get, slice_get-map, slice_get_cases, slice_get_read, slice_get_within}
pub use Rattle.std.specs.List.{All, Contains, flat_map}
pub use Rattle.std.specs.Option.{option_copied, option_map}
pub use Rattle.std.specs.Result.{IsErrAnd}
pub use Rattle.ub_page.proofs.IndexLaws.{length-node_on, node_get, node_not_refused, node_parts}
pub use Rattle.ub_page.specs.Entries.{AreAscending, IsEntry}
pub use Rattle.ub_page.specs.Index.{HasHead, IsIndexFault, IsNode, Node}
pub use Rattle.ub_page.specs.Slots.{entry_in, first_in, IsSlot}
pub use Rattle.ub_page.specs.declared.index.Head.{Head}
pub use Rattle.ub_region.proofs.Laws.{all_append, all_left, all_more, all_right}
pub use Rattle.ub_region.specs.Regions.{index_holding}
pub use Rattle.ub_region.specs.Spans.{address_before, span_end}
pub use Rattle.ub_store.specs.Cache.{NoneMore, SameBut}
pub use Rattle.ub_store.specs.View.{Trace}
pub use Rattle.ub_store.specs.declared.fault.StoreFault.TheVariants.{Memory}
pub use Rattle.ub_table.proofs.Laws.{ascending_get, before_from, before_of, before_parts, before_trans, not_before_origin, not_before_self, not_both_before}
pub use Rattle.ub_table.proofs.Laws.{precedes_of, precedes_trans}
pub use Rattle.ub_table.specs.declared.fault.PageFault.TheVariants.{BadCount, OutOfRegion, WrongKind}
pub use Rattle.ub_index.proofs.KeptFacts.{kept_index, kept_named, kept_under, same_entries, same_page, told_index}
pub use Rattle.ub_index.proofs.KeyFacts.{before_le, le_before, le_trans}
pub use Rattle.ub_index.proofs.Lists.{ascend_first, ascend_join, ascend_left, ascend_right, each_all, each_right, first_append, same_each}
pub use Rattle.ub_index.specs.Along.{Crosses, FollowOn, GivesAlong, HandsAlong, HandsLeaf, IsSlotNext, Meeting, StandsNext}
pub use Rattle.ub_index.specs.Bringing.{BringsFitting, BringsNext, IsBringFault}
pub use Rattle.ub_index.specs.Common.{AllByRecursion, are_ascending, AreThose, AscendTo, Corners, end_before, entries_of, Entry, FallsTo, first_or, Fits}
pub use Rattle.ub_index.specs.Common.{FitsAtEnds, head_on, Holds, HoldsAny, IndexFault, IsBefore, IsHonest, IsIndexKind, IsIndexPage, IsNotTaken, IsPage}
pub use Rattle.ub_index.specs.Common.{IsUnder, IsUnfit, Key, Leaf, LeastFrom, NamesFitting, node_on, NoneMoreBut, origin, Page, page_at, page_count, page_in}
pub use Rattle.ub_index.specs.Common.{PageFault, PagerView, pages_under, precedes, Region, Store, StoreFacts, TakesThese, top, under, WritesAt, zero_page}
pub use Rattle.ub_index.specs.Descending.{FindsAfter, HoldsLeaf, IsForgotten, IsStepFault, LeadsDown, LooksAt, Steps, StepsDown, StepsTo}
pub use Rattle.ub_index.specs.Fitting.{IsUnfitAtEnds}
pub use Rattle.ub_index.specs.Held.{AreChecked, KeepsChecked, NoneMoreButIndex, WasChecked}
pub use Rattle.ub_index.specs.Index.{EachTo, IsTold}
pub use Rattle.ub_index.specs.Opening.{IsAlone, root_page}
pub use Rattle.ub_index.specs.Searching.{Aims, at_least, Gives, GivesAfter, GivesFrom, GoesDown, IsAim, IsAimless, IsFrom, IsMet, IsSought, IsWayFault}
pub use Rattle.ub_index.specs.Searching.{key_before, ReadsIndex, store_after}
pub use Rattle.ub_index.specs.Spans.{ArePlaces, First, first_keys, IsLater, Meets, region_of, regions_of}
pub use Rattle.ub_index.specs.Standing.{AddsNoIndexPage, AreOwnPages, IsOutside, OldStayOutside, PagesStay, region_pages, StandsAsOn}
pub use Rattle.ub_index.specs.Stretches.{ArePartsOn, ComesTo, HasPage, holds_key, is_before_end, IsNextMeeting, IsOneOf, IsStretchOn, MeetsAny, OpensStretch}
pub use Rattle.ub_index.specs.Stretches.{parts_on, stretch_of, stretches_to, whole_stretch, within}
pub use Rattle.ub_index.specs.View.{entries_in, entry_at, index_view, IndexView, IsIndexOn, IsPreviousRegion, IsReachedOnce, IsRegionAt, Leads, pages_of_index}
pub use Rattle.ub_index.specs.View.{Stops}
pub use Rattle.ub_index.specs.Walking.{AreGivenFirst, AreGivenNext, begins_at, HandsNext, IsGivenAny}
pub use Rattle.ub_index.specs.Way.{HoldsKey, LeadsTo, StopsAt}
pub use Rattle.ub_index.specs.declared.descent.Place.{Place}
pub use Rattle.ub_index.specs.declared.stretch.Stretch.{Stretch}
unfoldable pub use Rattle.ub_bytes.specs.Bytes.{number_at}
unfoldable pub use Rattle.ub_index.specs.Common.{IsDistinct, index_page}
