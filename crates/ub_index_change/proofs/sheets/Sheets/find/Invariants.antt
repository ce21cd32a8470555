use Rattle.std.proofs.Common.{◌≡◌, drop}
use Rattle.ub_index_change.proofs.Common.{spelled_page}
use Rattle.ub_index_change.proofs.sheets.Sheets.find.Given as goal

abbrev pub invariant-loop-sheet : goal.invariant-loop-sheet
invariant-loop-sheet l = spelled_page l.fn.self.sheets l.number ≡ spelled_page (drop l.sheet-index l.sheet-items) l.number
