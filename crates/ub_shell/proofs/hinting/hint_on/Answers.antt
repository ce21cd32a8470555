use Rattle.ub_shell.proofs.UnchangedFacts.{left_both}
use Rattle.ub_shell.proofs.hinting.hint_on.Goals as goal

-- what the words name is read by three calls, one after the other
pub returns : goal.returns
returns g c = record {
  left = left_both _ _ _ _ _ _ (left_both _ _ _ _ _ _ c.read_text-data.ensures.left c.read_text-script.ensures.left) c.ask_schema-schema.ensures.left;
}
