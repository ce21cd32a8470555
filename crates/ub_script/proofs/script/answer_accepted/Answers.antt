-- A query is answered or explained, a row is put in, or rows are taken out.
use Rattle.std.proofs.Common.{ℤ, List, true, false, ◌∙◌, ap, subst, sym}
use Rattle.ub_parser.specs.Outcome.{Command, IsGiven, command, puts}
use Rattle.ub_query.specs.Shape.{asked}
use Rattle.ub_script.proofs.CallFacts.{asked_command, said_command}
use Rattle.ub_script.proofs.script.answer_accepted.Goals as goal

pub returns-in-Select : goal.returns-in-Select
returns-in-Select g c =
    said_command _ _ _ _ _ (ap command c.in-Select.is) (asked_command (record { is_explained = false; asked = asked c.in-Select.query }) _ _ _ c.answer_asked.ensures)

pub returns-in-Explain : goal.returns-in-Explain
returns-in-Explain g c =
    said_command _ _ _ _ _ (ap command c.in-Explain.is) (asked_command (record { is_explained = true; asked = asked c.in-Explain.query }) _ _ _ c.answer_asked-in-Explain.ensures)

pub returns-in-Insert : goal.returns-in-Insert
returns-in-Insert g c = said_command _ _ _ _ _ (ap command c.in-Insert.is ∙ ap (λ (values : List ℤ). puts values) (sym c.as_slice.ensures)) c.insert_row.ensures

pub returns-in-Delete : goal.returns-in-Delete
returns-in-Delete g c = said_command _ _ _ _ _ (ap command c.in-Delete.is) c.delete_rows.ensures

pub insert_row-requires : goal.insert_row-requires
insert_row-requires g c = subst (λ (k : Command). IsGiven c.args.tree.now.schema k) (ap command c.in-Insert.is ∙ ap (λ (values : List ℤ). puts values) (sym c.as_slice.ensures)) c.requires

pub delete_rows-requires : goal.delete_rows-requires
delete_rows-requires g c = subst (λ (k : Command). IsGiven c.args.tree.now.schema k) (ap command c.in-Delete.is) c.requires
