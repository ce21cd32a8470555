use Rattle.std.proofs.Common.{inr, refl, rules}
use Rattle.ub_tetris.proofs.EffectFacts.{read_swept, region_asked, tree_swept}
use Rattle.ub_tetris.proofs.TurnFacts.{refused_none}
use Rattle.ub_tetris.specs.inner.Events.{seen}
use Rattle.ub_tetris.specs.inner.Turns.{view_of}
use Rattle.ub_tetris.proofs.state.State.read.Goals as goal

pub returns-in_err-read_region : goal.returns-in_err-read_region
returns-in_err-read_region g c = record {
  next = λ plan. record {
    asked = region_asked _ c.args.tree.now c.read_region.new.self (seen c.args.next.now) c.requires c.in_err-read_region.ensures.effect.noted;
    effect = λ first. tree_swept plan c.from_residual.result _ (view_of c.args.self.now) _ (seen c.args.next.now) c.args.tree.now c.read_region.new.self c.requires first (refl, refl, refl) c.from_residual.ensures.1
        c.in_err-read_region.ensures.effect;
  };
  same = refl;
  dims = refused_none _ c.from_residual.result _ c.from_residual.ensures.1;
  read = refused_none _ c.from_residual.result _ c.from_residual.ensures.1;
}

pub returns : goal.returns
returns g c = record {
  next = λ plan. record {
    asked = inr (c.requires, c.in_ok-read_region.ensures.effect.listed);
    effect = λ first. read_swept plan tt (view_of c.args.self.now) _ (seen c.args.next.now) c.args.tree.now c.read_region.new.self c.requires first (refl, refl, refl)
        c.in_ok-read_region.ensures.effect.same c.in_ok-read_region.ensures.effect.listed c.read_region.new.page.region c.in_ok-read_region.ensures.taken;
  };
  same = refl;
  dims = search rules;
  read = record {
    lowest = c.requires;
    same = c.in_ok-read_region.ensures.effect.same;
    noted = c.in_ok-read_region.ensures.effect.listed;
    first = c.in_ok-read_region.ensures.first;
    taken = c.in_ok-read_region.ensures.taken;
    stands = c.in_ok-read_region.ensures.stands;
  };
}
