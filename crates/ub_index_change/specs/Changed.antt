-- A change of an index: one region's entry becomes none, one or two, and each page on the way to it what follows from that.
use Rattle.std.specs.Prelude.{◌≡◌, ◌⊎◌, ◌++◌, ◌+◌, ℕ, zero, suc, List, [], ◌∷◌, Option, None, IfSome, length, take, drop}
use Rattle.std.specs.List.{flat_map}
use Rattle.ub_index.specs.Index.{first_or, entries_of, AscendTo, EachTo, IsUnder, pages_under, IsTold}
use Rattle.ub_region.specs.declared.entry.Entry.{Entry}
use Rattle.ub_table.specs.Keys.{IsBefore}
use Rattle.ub_table.specs.declared.row.Key.{Key}
use Rattle.ub_index.specs.Standing.{PagesStay}
use Rattle.ub_page.specs.declared.entries.TheConstants.{MAX_ENTRIES}
use Rattle.ub_index_change.specs.declared.sheets.TheConstants.{LEFT_ENTRIES}

-- these entries stand on the page n, and `told` are the entries by which the page above names them: none stand nowhere; one
-- more than a page has stand on two, the first 86 of them on n
abbrev pub StandOn : ℕ → List (List ℕ) → ℕ → ℕ → List Entry → List Entry → Type 0
StandOn last pages level n entries told =
    ((entries ≡ []) × (told ≡ []))
    ⊎ (((e : Entry) × (told ≡ e ∷ []) × (e.page ≡ n) × IsTold last pages level entries e)
    ⊎ ((e : Entry) × (f : Entry) × (length entries ≡ MAX_ENTRIES + 1) × (told ≡ e ∷ f ∷ []) × (e.page ≡ n)
    × IsTold last pages level (take LEFT_ENTRIES entries) e × IsTold last pages level (drop LEFT_ENTRIES entries) f))

-- where the region's entry f, after which `next` begins, became fs, an entry of this level has become what is told
abbrev pub Becomes : ℕ → List (List ℕ) → List (List ℕ) → Entry → List Entry → Option Key → ℕ → Entry → Option Key → List Entry → Type 0
Becomes last old new f fs next zero entry end told = (entry ≡ f) × (end ≡ next) × (told ≡ fs)
Becomes last old new f fs next (suc level) entry end told =
    (before : List Entry) × (after : List Entry) × (below : Entry) × (news : List Entry)
    × (entries_of old entry.page ≡ before ++ below ∷ after)
    × Becomes last old new f fs next level below (first_or after end) news
    × PagesStay old new (flat_map (pages_under old level) before)
    × PagesStay old new (flat_map (pages_under old level) after)
    × StandOn last new (suc level) entry.page (before ++ (news ++ after)) told

-- in a list of entries, fs stand where f stood
pub record Replaces (f : Entry) (fs : List Entry) (old new : List Entry) : Type 0 where
  pub before : List Entry
  pub after : List Entry
  pub was : old ≡ before ++ f ∷ after
  pub is : new ≡ before ++ (fs ++ after)

-- these entries, if there are any, begin with this key or later
abbrev pub BeginFrom : Key → List Entry → Type 0
BeginFrom first entries = IfSome (first_or entries None) (λ key. ¬ (IsBefore key first))

-- what an entry became is in order, begins not before it, and an index stands under each
pub record Stays (last : ℕ) (new : List (List ℕ)) (level : ℕ) (entry : Entry) (end : Option Key) (told : List Entry) : Type 0 where
  pub ascends : AscendTo told end
  pub later : BeginFrom entry.first told
  pub each : EachTo (IsUnder last new level) told end
