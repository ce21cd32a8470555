use Rattle.std.proofs.Common.{◌∙◌, ◌++◌, ◌∷◌, [], ◌<◌, ◌≡◌, List, ap, arith, length, refl, subst, sym, take}
use Rattle.std.proofs.Math.Seq.{take-length}
use Rattle.std.proofs.lemmas.Result.{IfOk-from_err}
use Rattle.ub_journal.specs.declared.journal.Change.{Change}
use Rattle.ub_journal.proofs.Lists.{take_next}
use Rattle.ub_journal.proofs.torn.copy_of.Goals as goal

pub loop-at-preserved : goal.loop-at-preserved
loop-at-preserved g c =
    let change : Change = record { number = c.put_change-number.result; page = c.put_change-number.new.page } in
    record {
      same = c.loop-at.invariant.same;
      changes = c.in_ok-push.ensures.items ∙ ap (λ (l : List Change). l ++ change ∷ []) c.loop-at.invariant.changes
          ∙ sym (take_next (g.J.Tells.told c.args.journal.now).changes c.loop-at.at change c.put_change-number.ensures);
    }

pub loop-at-init : goal.loop-at-init
loop-at-init g c = record { same = refl; changes = c.new-changes.ensures.items }

pub returns-in_err-push : goal.returns-in_err-push
returns-in_err-push g c = IfOk-from_err c.from_residual.result _ c.from_residual.ensures.0

pub put_change-number-requires : goal.put_change-number-requires
put_change-number-requires g c = record { within = subst (λ n. c.loop-at.at < n) c.changes-at-end.ensures c.loop-at-test.true }

pub returns : goal.returns
returns g c =
    let changes : List Change = (g.J.Tells.told c.args.journal.now).changes in
    let whole : c.loop-at.at ≡ length changes = omega (arith, c.loop-at-test.false, c.loop-at.auto.at-end, c.changes-at-end.ensures) in
    let all = c.loop-at.invariant.changes ∙ subst (λ n. take n changes ≡ changes) (sym whole) (take-length changes) in
    λ i. record { before = c.before-2.ensures i; head = c.head.ensures i; count = c.count.ensures i; changes = all i }
