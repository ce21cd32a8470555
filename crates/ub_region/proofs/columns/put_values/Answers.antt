use Rattle.std.proofs.Common.{pos, rules, ◌∙◌}
use Rattle.std.proofs.lemmas.Int.{to_z-of_z}
use Rattle.std.specs.Int.{w64}
use Rattle.ub_region.proofs.ShiftFacts.{across_four}
use Rattle.ub_region.proofs.columns.put_values.Goals as goal

pub returns-clause-at : goal.returns-clause-at
returns-clause-at c =
    across_four (pos 0) c.args.columns.now c.put_in.new.column c.put_in-2.new.column c.put_in-3.new.column c.put_in-4.new.column c.args.values.now c.args.index c.told-columns c.told-values
    (c.put_in.ensures.at (pos 0) ∙ to_z-of_z w64 _ (search rules)) (c.put_in-2.ensures.at (pos 0) ∙ to_z-of_z w64 _ (search rules))
    (c.put_in-3.ensures.at (pos 0) ∙ to_z-of_z w64 _ (search rules)) (c.put_in-4.ensures.at (pos 0) ∙ to_z-of_z w64 _ (search rules))
