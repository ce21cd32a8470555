use Rattle.std.proofs.Common.{Err, inl, length, subst, sym}
use Rattle.ub_exec.proofs.AskFacts.{begun_err, begun_ok}
use Rattle.ub_exec.proofs.BreakFacts.{ready_begun}
use Rattle.ub_exec.proofs.FillFacts.{filled_broken, filled_means, filled_pages, filled_shaped, filled_swept, has_begun, is_begun}
use Rattle.ub_exec.proofs.FirstFacts.{none_fetched}
use Rattle.ub_exec.proofs.KeptFacts.{begins_reads}
use Rattle.ub_exec.proofs.NotedFacts.{notes_as, notes_none}
use Rattle.ub_exec.specs.Answers.{begun}
use Rattle.ub_query.specs.Posed.{IsPosed}
use Rattle.ub_tree.proofs.Laws.{begun_traced, reads_then}
use Rattle.ub_tree.specs.View.{TreeView}
use Rattle.ub_exec.proofs.sweeping.swept_rows.Goals as goal

pub filled_rows-requires-clause-posed : goal.filled_rows-requires-clause-posed
filled_rows-requires-clause-posed g c =
    subst (λ (t : TreeView). IsPosed (length t.schema.columns) c.args.plan.now.asked) (sym (begun_ok c.in-Ok.sweep c.args.tree.now c.new.new.tree c.in-Ok.ensures.effect)) c.requires

pub filled_rows-requires-clause-begun : goal.filled_rows-requires-clause-begun
filled_rows-requires-clause-begun g c =
    is_begun c.args.plan.now c.args.tree.now c.new.new.tree c.in-Ok.sweep (begun_ok c.in-Ok.sweep c.args.tree.now c.new.new.tree c.in-Ok.ensures.effect) c.in-Ok.ensures.started c.in-Ok.ensures.met

pub returns-in-Ok : goal.returns-in-Ok
returns-in-Ok g c =
    let plan = c.args.plan.now in
    let old = c.args.tree.now in
    let mid = c.new.new.tree in
    let new = c.filled_rows.new.tree in
    let sweep = c.in-Ok.sweep in
    let is = begun_ok sweep old mid c.in-Ok.ensures.effect in
    let filled = c.filled_rows.ensures in
    record {
      done = λ ready kind of.
          let begins = has_begun plan old mid sweep is ready kind c.in-Ok.ensures.begun in
          record {
            rows = filled_means plan old mid sweep is new c.filled_rows.result filled.fills begins of;
            fetches = record {
              pages = filled_pages plan old mid sweep is new c.filled_rows.result filled.fills begins of;
              broken = filled_broken plan old mid sweep is new c.filled_rows.result (filled.broken begins of);
            };
          };
      shaped = filled_shaped plan old mid sweep is new c.filled_rows.result filled.fills;
      swept = filled_swept plan old mid sweep is new c.filled_rows.result filled.swept;
      notes = notes_as c.filled_rows.result (begun old) mid new is filled.effect.notes;
      effect = reads_then c.filled_rows.result old mid new (begun_traced old mid is) filled.effect.reads;
    }

pub returns-in-Err : goal.returns-in-Err
returns-in-Err g c =
    let plan = c.args.plan.now in
    let old = c.args.tree.now in
    let new = c.new.new.tree in
    let kept = begun_err c.in-Err.fault old new c.in-Err.ensures.effect in
    record {
      done = λ ready kind of. record { rows = tt; fetches = record { pages = tt; broken = none_fetched plan (begun old) new (ready_begun old plan ready) kept } };
      shaped = tt;
      swept = λ dim is_descending of. inl kept;
      notes = notes_none (Err c.from.result) (begun old) new kept;
      effect = begins_reads (Err c.from.result) c.in-Err.fault old new c.from.ensures c.in-Err.ensures.effect;
    }
