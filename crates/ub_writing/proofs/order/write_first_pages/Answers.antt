use Rattle.std.proofs.Common.{arith, inr, ap, ◌∙◌}
use Rattle.std.proofs.lemmas.Grind.{common_steps}
use Rattle.ub_store.specs.Facts.{StoreFacts}
use Rattle.ub_writing.proofs.MarkFacts.{laid_first, laid_second, mark_extended, mark_kept, on_err}
use Rattle.ub_writing.proofs.order.write_first_pages.Goals as goal

pub returns-in_err-put-clause-first : goal.returns-in_err-put-clause-first
returns-in_err-put-clause-first g c =
    on_err c.from_residual-in_err-put.result _ (λ honest. inr (mark_kept c.args.schema.now c.write_mark.new.pager.store.pages c.put.new.self.store.pages
    (laid_first c.write_mark.new.pager.store c.extend.new.self.store c.extend-2.new.self.store c.put.new.self.store c.in_ok-write_mark.ensures.count c.in_ok-extend.ensures.effect.added c.in_ok-extend-2.ensures.effect.added
    (ap (λ (s : StoreFacts). s.honest) c.write_mark.ensures.left ∙ honest) (ap (λ (s : StoreFacts). s.honest) c.extend.ensures.effect.frame) c.write_empty.result.now c.put.result c.put.ensures.effect (ap (λ (s : StoreFacts). s.honest) c.extend-2.ensures.effect.frame))
    (c.in_ok-write_mark.ensures.marked honest)))

pub returns-clause-pages : goal.returns-clause-pages
returns-clause-pages g c = λ honest. record {
  count = grind (arith, common_steps);
  marked = mark_kept c.args.schema.now c.write_mark.new.pager.store.pages c.put.new.self.store.pages
      (laid_first c.write_mark.new.pager.store c.extend.new.self.store c.extend-2.new.self.store c.put.new.self.store c.in_ok-write_mark.ensures.count c.in_ok-extend.ensures.effect.added c.in_ok-extend-2.ensures.effect.added
      (ap (λ (s : StoreFacts). s.honest) c.write_mark.ensures.left ∙ honest) (ap (λ (s : StoreFacts). s.honest) c.extend.ensures.effect.frame) c.write_empty.result.now c.put.result c.put.ensures.effect (ap (λ (s : StoreFacts). s.honest) c.extend-2.ensures.effect.frame))
      (c.in_ok-write_mark.ensures.marked honest);
  spelled = rw c.write_empty.ensures.page at
      (laid_second c.write_mark.new.pager.store c.extend.new.self.store c.extend-2.new.self.store c.put.new.self.store c.in_ok-write_mark.ensures.count c.in_ok-extend.ensures.effect.added c.in_ok-extend-2.ensures.effect.added
      (ap (λ (s : StoreFacts). s.honest) c.write_mark.ensures.left ∙ honest) (ap (λ (s : StoreFacts). s.honest) c.extend.ensures.effect.frame) c.write_empty.result.now
      (c.in_ok-put.ensures.effect.written (ap (λ (s : StoreFacts). s.honest) c.extend-2.ensures.effect.frame ∙ ap (λ (s : StoreFacts). s.honest) c.extend.ensures.effect.frame ∙ ap (λ (s : StoreFacts). s.honest) c.write_mark.ensures.left ∙ honest)));
  reads_back = rw c.write_empty.ensures.page at c.write_empty.ensures.reads_back;
}

pub returns-in_err-extend-2-clause-first : goal.returns-in_err-extend-2-clause-first
returns-in_err-extend-2-clause-first g c =
    on_err c.from_residual-in_err-extend-2.result _ (λ honest.
    let first = ap (λ (s : StoreFacts). s.honest) c.write_mark.ensures.left ∙ honest in
    inr (mark_extended c.args.schema.now c.extend.new.self.store c.extend-2.new.self.store c.extend-2.result c.extend-2.ensures.effect
    (ap (λ (s : StoreFacts). s.honest) c.extend.ensures.effect.frame ∙ first) (grind (arith, common_steps))
    (mark_extended c.args.schema.now c.write_mark.new.pager.store c.extend.new.self.store c.extend.result c.extend.ensures.effect first (grind (arith, common_steps)) (c.in_ok-write_mark.ensures.marked honest))))
