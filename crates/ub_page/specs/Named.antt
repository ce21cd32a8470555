-- What of an entry no other one tells, for the check of a page.
use Rattle.std.specs.Prelude.{◌≤◌}
use Rattle.ub_region.specs.declared.entry.Entry.{Entry}
use Rattle.ub_table.specs.declared.row.TheConstants.{MAX_ROW_NUMBER}

-- the number is a row's or 0, and the page is not the first
abbrev pub IsNamed : Entry → Type 0
IsNamed entry = (entry.first.number ≤ MAX_ROW_NUMBER) × (1 ≤ entry.page)
