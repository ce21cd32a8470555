use Rattle.ub_index_change.proofs.TurnFacts.{rises}
use Rattle.ub_index_change.proofs.law.turns_become.Goals as goal

pub returns : goal.returns
returns c = λ last old key added level entry end from to told small room is whole distinct fine turns.
    let r = rises last small old key added level entry end from to told room is whole distinct fine turns in
    (r.found, r.next, r.leads, r.sheets, r.sheets_are, r.becomes)
