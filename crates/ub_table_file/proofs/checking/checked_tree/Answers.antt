use Rattle.std.proofs.Common.{inl, inr}
use Rattle.ub_table_file.specs.declared.making.Counts.{Counts}
use Rattle.ub_table_file.proofs.CheckFacts.{IsCounted, counted_counts, counted_fault, counted_well}
use Rattle.ub_table_file.proofs.checking.checked_tree.Goals as goal
use Rattle.ub_table_file.proofs.checking.checked_tree.Goals.{in-Ok, in-Err}
use Rattle.ub_tree.specs.Checking.{IsCheckFault}
use Rattle.ub_tree.specs.Opened.{IsPassing}

pub returns : goal.returns
returns g c =
    let counts : Counts = record { rows = c.rows.result; regions = c.regions.result } in
    let is : IsCounted c.check.result counts c.match-check.told = elim c.match-check.branch [
      | in-Ok w ↦ inl (w.in-Ok.field-0, w.in-Ok.is, w.told-is)
      | in-Err w ↦ inr (w.in-Err.fault, w.in-Err.is, w.told-is)
    ] in
    record {
      well = λ honest. counted_well _ c.check.result counts c.match-check.told is (c.check.ensures.well honest);
      counts = counted_counts c.check.result counts c.match-check.told _ _ is c.rows.ensures c.regions.ensures.count;
      exact = λ honest well. counted_fault IsPassing c.check.result counts c.match-check.told is (c.check.ensures.exact honest well c.requires.working);
      sound = λ sound. counted_fault IsPassing c.check.result counts c.match-check.told is (c.check.ensures.sound sound);
      refused = counted_fault (IsCheckFault c.args.tree) c.check.result counts c.match-check.told is c.check.ensures.effect.faults;
    }
