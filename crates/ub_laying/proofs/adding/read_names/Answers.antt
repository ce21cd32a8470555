use Rattle.std.proofs.Common.{◌∙◌, ◌+◌, ℕ, List, ap, arith}
use Rattle.ub_laying.specs.Levels.{name_of}
use Rattle.ub_laying.proofs.AddFacts.{adds_trans, not_after, honest_after}
use Rattle.ub_laying.proofs.LevelFacts.{length-set_entry, take_more_names}
use Rattle.ub_laying.proofs.adding.read_names.Goals as goal

pub loop-i-preserved : goal.loop-i-preserved
loop-i-preserved g c =
    let inv = c.loop-i.invariant in
    let read = c.in_ok-entries.ensures in
    let start = c.args.pager.now in
    let now = c.loop-i.pager in
    record {
      long = length-set_entry c.loop-i.entries c.loop-i.i c.in_ok-entries.field-0 ∙ inv.long;
      adds = adds_trans start now c.read_name.new.pager inv.adds read.effect.adds;
      counts = not_after start.store now.store c.read_name.new.pager.store inv.counts read.effect.counts;
      same = read.same ∙ inv.same;
      names = λ honest.
          take_more_names start.store.pages c.args.from c.loop-i.i c.loop-i.entries c.in_ok-entries.field-0 (omega arith) (inv.names honest)
          (read.name (honest_after start now inv.adds honest) ∙ ap (λ (pages : List (List ℕ)). name_of pages (c.args.from + c.loop-i.i)) inv.same);
    }
