-- How a page that is being written lies in memory.
use Rattle.std.specs.Prelude.{◌≡◌, ◌≤◌, ◌-◌, ℕ, List, take, drop, replicate}
use Rattle.ub_bytes.specs.declared.draft.Draft.TheInside.{Inside}

-- the bytes that are written
abbrev pub written : Inside → List ℕ
written draft = take draft.len draft.page

-- all bytes after those are zero
abbrev pub IsBlankAfter : Inside → Type 0
IsBlankAfter draft = (draft.len ≤ 4096) × (drop draft.len draft.page ≡ replicate (4096 - draft.len) 0)
