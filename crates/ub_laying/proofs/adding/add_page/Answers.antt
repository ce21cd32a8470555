use Rattle.std.proofs.Common.{rules}
use Rattle.ub_laying.proofs.AddFacts.{holds_put, page_added}
use Rattle.ub_laying.proofs.adding.add_page.Goals as goal

pub returns-clause-added : goal.returns-clause-added
returns-clause-added g c =
    (page_added c.args.pager.now c.extend.new.self c.put.new.self c.args.page.now c.in_ok-n.n c.put.result c.in_ok-n.ensures.number c.in_ok-n.ensures.trace c.in_ok-n.ensures.cached c.in_ok-n.ensures.effect
    c.put.ensures.trace c.put.ensures.effect (holds_put c.extend.new.self c.put.new.self c.args.page.now c.in_ok-n.n c.put.result c.put.ensures.renewed c.put.ensures.forgotten c.put.ensures.others)).2

pub returns-clause-effect : goal.returns-clause-effect
returns-clause-effect g c = record {
  adds =
      (page_added c.args.pager.now c.extend.new.self c.put.new.self c.args.page.now c.in_ok-n.n c.put.result c.in_ok-n.ensures.number c.in_ok-n.ensures.trace c.in_ok-n.ensures.cached c.in_ok-n.ensures.effect
      c.put.ensures.trace c.put.ensures.effect (holds_put c.extend.new.self c.put.new.self c.args.page.now c.in_ok-n.n c.put.result c.put.ensures.renewed c.put.ensures.forgotten c.put.ensures.others)).0;
  counts = search rules;
  refused = search rules;
}
