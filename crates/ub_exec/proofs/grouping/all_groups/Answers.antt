use Rattle.std.proofs.Common.{◌≡◌, ◌∙◌, inl, inr, List, [], Ok, Err, ap, length, refl, subst, sym}
use Rattle.std.proofs.lemmas.List.{append-nil}
use Rattle.ub_answer.specs.Gathered.{IsGathered}
use Rattle.ub_answer.specs.Shaped.{IsShaped}
use Rattle.ub_answer.specs.Sink.{HasGathered}
use Rattle.ub_answer.specs.declared.gathering.Gathering.{Gathering}
use Rattle.ub_exec.proofs.AskFacts.{begun_err, begun_ok, broke, came_to_all}
use Rattle.ub_exec.proofs.BreakFacts.{ready_begun}
use Rattle.ub_exec.proofs.ComeFacts.{HasComeOn-all, HasComeOn-none, IsAtWork, swept_broken, swept_first, swept_whole}
use Rattle.ub_exec.proofs.ExecFacts.{answers_err}
use Rattle.ub_exec.proofs.FirstFacts.{all_fetched, none_fetched}
use Rattle.ub_exec.proofs.KeptFacts.{begins_reads}
use Rattle.ub_exec.proofs.NotedFacts.{notes_as, notes_err, notes_none, notes_ok, swept_err, traced_begun}
use Rattle.ub_exec.proofs.RefusedFacts.{memory_reads, no_answer}
use Rattle.ub_exec.proofs.SweptFacts.{begun_fetches, noted_more, swept_kind}
use Rattle.ub_exec.proofs.WholeFacts.{whole_fetched, whole_first, whole_meant}
use Rattle.ub_exec.specs.Answers.{begun}
use Rattle.ub_query.specs.Posed.{IsPosed}
use Rattle.ub_query.specs.Shape.{Asked, asked}
use Rattle.ub_query.specs.declared.cell.Cell.{Cell}
use Rattle.ub_table.specs.declared.row.Row.{Row}
use Rattle.ub_table.specs.declared.schema.Schema.{Schema}
use Rattle.ub_tree.proofs.Laws.{Keeps-by, Keeps-more, begun_traced, reads_by}
use Rattle.ub_tree.specs.View.{TreeView}
use Rattle.ub_exec.proofs.FillFacts.{posed_as}
use Rattle.ub_exec.proofs.grouping.all_groups.Goals as goal

-- a gathering that was handed nothing has taken nothing more
none_taken : (schema : Schema) (q : Asked) (gathering : Gathering) → HasGathered schema q gathering [] gathering
none_taken schema q gathering first has = subst (λ (rows : List Row). IsGathered schema q rows gathering) (sym (append-nil first)) has

pub hand_over-requires : goal.hand_over-requires
hand_over-requires g c =
    subst (λ (t : TreeView). IsPosed (length t.schema.columns) c.args.plan.now.asked) (sym (begun_ok c.in_ok-sweep.sweep c.args.tree.now c.new.new.tree c.in_ok-sweep.ensures.effect)) c.requires.posed

pub returns-in_err-sweep : goal.returns-in_err-sweep
returns-in_err-sweep g c =
    let plan = c.args.plan.now in
    let start = c.args.tree.now in
    let new = c.new.new.tree in
    let is = c.from_residual.ensures.1 in
    let kept = begun_err _ start new c.in_err-sweep.ensures.effect in
    record {
      done = λ ready kind of. answers_err c.from_residual.result _ plan start (begun start) new (λ cells. cells) is (none_fetched plan (begun start) new (ready_begun start plan ready) kept);
      shaped = no_answer c.from_residual.result _ _ is;
      swept = swept_err (λ (rows : List (List Cell)). length rows) c.from_residual.result _ plan (begun start) new is (λ dim is_descending of. inl kept);
      notes = notes_none c.from_residual.result (begun start) new kept;
      effect = begins_reads c.from_residual.result _ start new is c.in_err-sweep.ensures.effect;
    }

-- handing the rows over was ended by a fault
pub returns-in_err-hand_over : goal.returns-in_err-hand_over
returns-in_err-hand_over g c =
    let plan = c.args.plan.now in
    let start = c.args.tree.now in
    let mid = c.new.new.tree in
    let new = c.hand_over.new.tree in
    let sweep = c.in_ok-sweep.sweep in
    let began = c.in_ok-sweep.ensures in
    let begins = begun_ok sweep start mid began.effect in
    let works : IsAtWork mid sweep = (began.started.working, began.started.stretches) in
    let stop = broke _ plan _ _ sweep c.hand_over.new.self mid new refl works c.in_err-hand_over.ensures.hands.effect in
    let kept = Keeps-by start mid (begun_traced start mid begins) in
    let is = c.from_residual-in_err-hand_over.ensures.1 in
    record {
      done = λ ready kind of.
          let (dim, is_descending, way) = swept_kind plan.kind kind in
          let has = began.begun dim is_descending (record { sound = ready.sound; planned = ready.planned; kind = way }) in
          answers_err c.from_residual-in_err-hand_over.result _ plan start (begun start) new (λ cells. cells) is
          (whole_first plan start mid dim is_descending sweep ready way c.requires.whole has kept new
          (ap (λ (t : TreeView). t.placed) stop.effect.same ∙ kept.regions.placed) (noted_more (Err _) start mid new (begun_fetches start mid begins) stop.notes) of
          (c.in_err-hand_over.ensures.hands.broken [] has.rest [] has.unread has.sweeping));
      shaped = no_answer c.from_residual-in_err-hand_over.result _ _ is;
      swept = swept_err (λ (rows : List (List Cell)). length rows) c.from_residual-in_err-hand_over.result _ plan (begun start) new is
          (λ dim is_descending of.
          inr (swept_broken plan (begun start) mid sweep (traced_begun start mid (begun_traced start mid begins)) (HasComeOn-none plan start mid sweep begins began.met) new stop.breaks
          dim is_descending of));
      notes = notes_err c.from_residual-in_err-hand_over.result _ (Err _) (begun start) new is (notes_as (Err _) (begun start) mid new begins stop.notes);
      effect = reads_by c.from_residual-in_err-hand_over.result _ start mid new is (begun_traced start mid begins) stop.effect;
    }

-- memory was refused for the groups
pub returns-in_err-finish : goal.returns-in_err-finish
returns-in_err-finish g c =
    let plan = c.args.plan.now in
    let start = c.args.tree.now in
    let mid = c.new.new.tree in
    let new = c.hand_over.new.tree in
    let sweep = c.in_ok-sweep.sweep in
    let began = c.in_ok-sweep.ensures in
    let begins = begun_ok sweep start mid began.effect in
    let works : IsAtWork mid sweep = (began.started.working, began.started.stretches) in
    let all = came_to_all _ plan sweep c.hand_over.new.self mid new c.new-gathering.result c.hand_over.new.sink works c.in_ok-hand_over.ensures.hands in
    let kept = Keeps-by start mid (begun_traced start mid begins) in
    let kept_then = Keeps-more _ _ _ kept (Keeps-by mid new all.effect.same) in
    let is = c.from_residual-in_err-finish.ensures.1 in
    record {
      done = λ ready kind of.
          let (dim, is_descending, way) = swept_kind plan.kind kind in
          let has = began.begun dim is_descending (record { sound = ready.sound; planned = ready.planned; kind = way }) in
          let (handed, takes, (found, over)) = c.in_ok-hand_over.ensures.hands.rows in
          answers_err c.from_residual-in_err-finish.result _ plan start (begun start) new (λ cells. cells) is
          (all_fetched plan (begun start) new
          (whole_fetched plan start mid dim is_descending sweep ready way c.requires.whole has kept new kept_then handed (over [] has.rest [] has.unread has.sweeping)
          (noted_more (Ok _) start mid new (begun_fetches start mid begins) all.notes) of));
      shaped = no_answer c.from_residual-in_err-finish.result _ _ is;
      swept = swept_err (λ (rows : List (List Cell)). length rows) c.from_residual-in_err-finish.result _ plan (begun start) new is
          (λ dim is_descending of. inr (swept_first plan (begun start) new (record sweep { awaited = [] })
          (HasComeOn-all plan (begun start) mid sweep (traced_begun start mid (begun_traced start mid begins)) (HasComeOn-none plan start mid sweep begins began.met) new all.comes) dim is_descending of));
      notes = notes_err {B = Unit {0}} c.from_residual-in_err-finish.result _ (Ok tt) (begun start) new is (notes_as (Ok tt) (begun start) mid new begins all.notes);
      effect = memory_reads c.from_residual-in_err-finish.result start new is kept_then.traced;
    }

pub returns : goal.returns
returns g c =
    let plan = c.args.plan.now in
    let start = c.args.tree.now in
    let mid = c.new.new.tree in
    let new = c.hand_over.new.tree in
    let query = asked c.query-query.result.now in
    let same : query ≡ plan.asked = c.query-query.ensures in
    let sweep = c.in_ok-sweep.sweep in
    let began = c.in_ok-sweep.ensures in
    let begins = begun_ok sweep start mid began.effect in
    let works : IsAtWork mid sweep = (began.started.working, began.started.stretches) in
    let all = came_to_all _ plan sweep c.hand_over.new.self mid new c.new-gathering.result c.hand_over.new.sink works c.in_ok-hand_over.ensures.hands in
    let kept = Keeps-by start mid (begun_traced start mid begins) in
    let kept_on = Keeps-by mid new all.effect.same in
    let kept_then = Keeps-more _ _ _ kept kept_on in
    record {
      done = λ ready kind of.
          let (dim, is_descending, way) = swept_kind plan.kind kind in
          let has = began.begun dim is_descending (record { sound = ready.sound; planned = ready.planned; kind = way }) in
          let (handed, takes, (found, over)) = c.in_ok-hand_over.ensures.hands.rows in
          let gathered = subst (λ (q : Asked). IsGathered mid.schema q [] c.new-gathering.result) same (subst (λ (s : Schema). IsGathered s query [] c.new-gathering.result) c.schema.ensures c.new-gathering.ensures.gathered) in
          let held = takes c.new-gathering.result [] (none_taken mid.schema plan.asked c.new-gathering.result) [] gathered in
          let after : c.schema-2.result.now ≡ mid.schema = c.schema-2.ensures ∙ kept_on.regions.schema in
          record {
            rows = whole_meant plan start mid dim is_descending sweep ready way c.requires.whole has kept new kept_then handed (over [] has.rest [] has.unread has.sweeping) query same _
                (λ table condition schema order numbers chosen.
                c.in_ok-finish.ensures.answer table condition handed (schema ∙ sym kept.regions.schema ∙ sym after) order numbers chosen
                (subst (λ (q : Asked). IsGathered c.schema-2.result.now q handed c.hand_over.new.sink) (sym same)
                (subst (λ (s : Schema). IsGathered s plan.asked handed c.hand_over.new.sink) (sym after) held)));
            fetches = record {
              pages = whole_fetched plan start mid dim is_descending sweep ready way c.requires.whole has kept new kept_then handed (over [] has.rest [] has.unread has.sweeping)
                  (noted_more (Ok _) start mid new (begun_fetches start mid begins) all.notes) of;
              broken = tt;
            };
          };
      shaped = subst (λ (q : Asked). IsShaped q c.in_ok-finish.field-0) c.query-query.ensures c.in_ok-finish.ensures.shaped;
      swept = λ dim is_descending of.
          swept_whole plan (begun start) new (record sweep { awaited = [] })
          (HasComeOn-all plan (begun start) mid sweep (traced_begun start mid (begun_traced start mid begins)) (HasComeOn-none plan start mid sweep begins began.met) new all.comes)
          dim is_descending of plan.asked.limit _ refl;
      notes = notes_as (Ok _) (begun start) mid new begins (notes_ok tt _ mid new all.notes);
      effect = record { same = kept_then.traced; faults = tt };
    }

pub new-gathering-requires : goal.new-gathering-requires
new-gathering-requires g c =
    let begins = begun_ok c.in_ok-sweep.sweep c.args.tree.now c.new.new.tree c.in_ok-sweep.ensures.effect in
    posed_as c.args.tree.now.schema c.schema.result.now c.args.plan.now.asked (asked c.query-query.result.now) (c.schema.ensures ∙ ap (λ (t : TreeView). t.schema) begins)
    c.query-query.ensures c.requires.posed

pub finish-requires : goal.finish-requires
finish-requires g c =
    let begins = begun_ok c.in_ok-sweep.sweep c.args.tree.now c.new.new.tree c.in_ok-sweep.ensures.effect in
    posed_as c.args.tree.now.schema c.schema-2.result.now c.args.plan.now.asked (asked c.query-query.result.now)
    (c.schema-2.ensures ∙ ap (λ (t : TreeView). t.schema) c.in_ok-hand_over.ensures.hands.effect.same ∙ ap (λ (t : TreeView). t.schema) begins) c.query-query.ensures c.requires.posed
