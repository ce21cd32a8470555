-- A symbol that isn't `*` begins an item.
use Rattle.std.proofs.Common.{◌∙◌, Result, ap, sym}
use Rattle.ub_syntax.specs.Machine.{and_then, items, turn_to}
use Rattle.ub_syntax.specs.declared.machine.Refusal.{Refusal}
use Rattle.ub_syntax.specs.declared.machine.Rest.TheVariants as rest
use Rattle.ub_syntax.specs.declared.machine.Row.{Row}
use Rattle.ub_syntax.proofs.Turns.{other_items, refused_turn}
use Rattle.ub_syntax.proofs.machine.items.Goals as goal

pub returns-in-Star : goal.returns-in-Star
returns-in-Star c = sym (ap items c.in-Star.is)

pub returns-in_ok-item-in_default : goal.returns-in_ok-item-in_default
returns-in_ok-item-in_default c =
    sym (other_items c.args.symbol c.in_default.not-Star
    ∙ ap (λ (r : Result Row Refusal). and_then r (λ row. turn_to row rest.AfterItem)) (sym c.item.ensures ∙ c.in_ok-item-in_default.was))

pub returns-in_err-item-in_default : goal.returns-in_err-item-in_default
returns-in_err-item-in_default c =
    refused_turn c.from_residual.result c.in_err-item-in_default.field-0.0 c.from_residual.ensures.1
    ∙ sym (other_items c.args.symbol c.in_default.not-Star
    ∙ ap (λ (r : Result Row Refusal). and_then r (λ row. turn_to row rest.AfterItem)) (sym c.item.ensures ∙ c.in_err-item-in_default.was))
