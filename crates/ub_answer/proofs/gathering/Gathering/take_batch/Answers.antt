use Rattle.std.proofs.Common.{◌≡◌, ◌⊎◌, inl, inr, false, List, subst}
use Rattle.ub_answer.proofs.GatheredFacts.{all_aggregates, one_entry, no_entry-rows, no_entry-groups}
use Rattle.ub_answer.specs.Gathered.{IsGathered, HasTaken}
use Rattle.ub_answer.specs.declared.gathering.Collected.{Collected}
use Rattle.ub_answer.specs.declared.gathering.Collected.TheVariants.{Rows, Groups}
use Rattle.ub_answer.specs.declared.groups.CollectedGroups.{CollectedGroups}
use Rattle.ub_answer.specs.declared.rows.CollectedRows.{CollectedRows}
use Rattle.ub_query.specs.Lead.{is_one_entry}
use Rattle.ub_query.specs.Shape.{Asked, asked}
use Rattle.ub_table.specs.declared.row.Row.{Row}
use Rattle.ub_table.specs.declared.schema.Schema.{Schema}
use Rattle.ub_answer.proofs.gathering.Gathering.take_batch.Goals as goal

pub returns-in-Totals-clause-gathered : goal.returns-in-Totals-clause-gathered
unfolding IsGathered
returns-in-Totals-clause-gathered g c taken held =
    let h = subst (λ (t : Collected). HasTaken c.args.schema.now (asked c.args.query.now) taken t) c.in-Totals.is held in
    (h.0, h.1, c.take_batch.ensures taken (all_aggregates (asked c.args.query.now) h.1 (c.requires.grouped h.0)) h.2)

pub returns-in-Totals-clause-told : goal.returns-in-Totals-clause-told
unfolding IsGathered
returns-in-Totals-clause-told g c taken held =
    let h = subst (λ (t : Collected). HasTaken c.args.schema.now (asked c.args.query.now) taken t) c.in-Totals.is held in
    one_entry (asked c.args.query.now) h.0 h.1

-- rows or groups aren't one entry of all rows
not_one : (schema : Schema) (q : Asked) (taken : List Row) (t : Collected)
    → ((rows : CollectedRows) × (t ≡ Rows rows)) ⊎ ((groups : CollectedGroups) × (t ≡ Groups groups)) → HasTaken schema q taken t
    → false ≡ is_one_entry q
not_one schema q taken t (inl (rows, is)) held = no_entry-rows q (subst (λ (t : Collected). HasTaken schema q taken t) is held).0
not_one schema q taken t (inr (groups, is)) held = no_entry-groups q (subst (λ (t : Collected). HasTaken schema q taken t) is held).0

pub returns-in-Rows-clause-told : goal.returns-in-Rows-clause-told
unfolding IsGathered
returns-in-Rows-clause-told g c taken held = not_one c.args.schema.now (asked c.args.query.now) taken c.args.self.now.collected c.in-Rows.is held

pub returns-in-Rows-2-clause-told : goal.returns-in-Rows-2-clause-told
unfolding IsGathered
returns-in-Rows-2-clause-told g c taken held = not_one c.args.schema.now (asked c.args.query.now) taken c.args.self.now.collected c.in-Rows.is held
