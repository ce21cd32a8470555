-- The laws of plans, as specs/Laws.antt states them.
use Rattle.std.proofs.Common.{List, sym, subst}
use Rattle.ub_planning.proofs.EventFacts.{events_one}
use Rattle.ub_planning.proofs.MeaningFacts.{zero_means_none, none_means_zero}
use Rattle.ub_planning.proofs.SweepFacts.{visits_of, visits_one}
use Rattle.ub_planning.proofs.VisitFacts.{row_is_met, meeting_hold, meeting_hold_tables}
use Rattle.ub_planning.specs.Laws.{SelectedRowsAreMet, PlansTakeTheSelected, MeetingHoldTheSelected, MeetingHoldTheTables, LimitOfZeroMeansNothing, MeetingAreOne, EventsAreOne, PlansHaveVisits, VisitsAreOne}
use Rattle.ub_planning.specs.Plan.{planned_kind, plan_of}
use Rattle.ub_planning.specs.Visits.{Span, Meets, spans_of}
use Rattle.ub_query.specs.Meaning.{IsMeaning}
use Rattle.ub_query.specs.declared.cell.Cell.{Cell}
use Rattle.ub_region.proofs.Laws.{chain_of}
pub use Rattle.ub_planning.proofs.FoundFacts.{meeting_of}
pub use Rattle.ub_planning.proofs.InsideFacts.{from_in_some, in_some}
pub use Rattle.ub_planning.proofs.KindFacts.{plans_are_empty, sweeps_are_led}
pub use Rattle.ub_planning.proofs.ReachedFacts.{AreUpTo, IsUpTo, StopsAt, along_chain, along_never, along_up_to, is_past_of, last_among, last_within, not_past, past_is, past_not, reached_filled, reached_front, reached_short, up_to_along, up_to_apart, up_to_both, up_to_chain}
pub use Rattle.ub_planning.proofs.SpanFacts.{of_some_span, of_span, rows_are_points}
pub use Rattle.ub_planning.proofs.SweepFacts.{arranged_of, groups_in_one_order, groups_in_order}
pub use Rattle.ub_planning.proofs.TableFacts.{regions_have_a_table, regions_have_one_table}
pub use Rattle.ub_planning.proofs.TakeFacts.{row_is_taken, row_is_told}
pub use Rattle.ub_planning.proofs.ThoseFacts.{Rising-those, filter_none, parts_back, those_one}
pub use Rattle.ub_planning.proofs.VisitFacts.{Differ, rows_differ}

pub selected_rows_are_met : SelectedRowsAreMet
selected_rows_are_met schema q next regions meeting row limit are those c t = row_is_met schema q next regions meeting row limit are those c t

pub plans_take_the_selected : PlansTakeTheSelected
plans_take_the_selected schema q next regions row limit are c =
    row_is_taken schema q row limit (rows_are_points schema regions row (chain_of schema regions are.each are.ascending are.apart) c)

pub meeting_hold_the_selected : MeetingHoldTheSelected
meeting_hold_the_selected schema q next regions meeting limit are those = meeting_hold schema q next regions meeting limit are those

pub meeting_hold_the_tables : MeetingHoldTheTables
meeting_hold_the_tables schema q next regions rows meeting limit are table those = meeting_hold_tables schema q next regions rows meeting limit are table those

pub limit_of_zero_means_nothing : LimitOfZeroMeansNothing
limit_of_zero_means_nothing table q cells zero order = (
  λ m. zero_means_none table q cells zero m,
  λ none. subst (λ (cs : List (List Cell)). IsMeaning table q cs) (sym none) (none_means_zero table q order zero),
)

pub meeting_are_one : MeetingAreOne
meeting_are_one schema boxes regions first second a b =
    those_one (λ (span : Span). Meets boxes span.from span.to) (spans_of schema regions) first second a b

pub events_are_one : EventsAreOne
events_are_one schema boxes dim is_descending next regions first second are a b = events_one schema boxes dim is_descending regions first second a b

pub plans_have_visits : PlansHaveVisits
plans_have_visits schema q next regions are = visits_of (planned_kind schema q) schema (plan_of schema q) next regions are

pub visits_are_one : VisitsAreOne
visits_are_one schema q next regions first second are a b = visits_one (planned_kind schema q) schema (plan_of schema q) regions first second a b
