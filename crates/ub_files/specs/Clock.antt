-- What a crash leaves of files, moment by moment.
use Rattle.std.specs.Prelude.{◌≡◌, ◌≢◌, ◌≤◌, ◌⊎◌, ℕ, List, IsTrue}
use Rattle.ub_files.specs.Files.{FilesFacts, Held, HasPages, IsEmpty, IsPart, standard_input, untold}

-- what each path would be found to hold
abbrev pub Folder : Type 0
Folder = List ℕ → Held

-- what a crash at this moment may leave; the moment, as a number that doesn't fall; and what a crash at some moment from a given one on might
-- have left, during a call or between two
pub record FolderClock : Type 1 where
  pub may_leave : Folder → Type 0
  pub moment : ℕ
  pub left_since : ℕ → Folder → Type 0

-- each crash from now on leaves a path to hold what this is so of
abbrev pub Leaves : List ℕ → (Held → Type 0) → FolderClock → Type 0
Leaves path Is clock = (c : Folder) → clock.may_leave c → path ≢ standard_input → Is (c path)

-- where it is told what a crash leaves a path to hold, it is this
abbrev pub IsLeftAs : Held → Held → Type 0
IsLeftAs untold held = Unit {0}
IsLeftAs lasting held = held ≡ lasting

-- this moment is one of those since an earlier one, and since this moment there is no other; and what is told to last is what each crash
-- from now on leaves
pub record IsFolderClock (files : FilesFacts) (clock : FolderClock) : Type 0 where
  pub counts_now : (t : ℕ) (c : Folder) → t ≤ clock.moment → clock.may_leave c → clock.left_since t c
  pub only_now : (c : Folder) → clock.left_since clock.moment c → clock.may_leave c
  pub lasting : (path : List ℕ) → Leaves path (IsLeftAs (files.lasts path)) clock

-- time goes on: a crash since an earlier moment leaves what it might have left before, or else, as now, what this step makes of that
pub record Goes (step : Folder → Folder → Type 0) (old new : FolderClock) : Type 0 where
  pub later : old.moment ≤ new.moment
  pub now : (c : Folder) → new.may_leave c → (d : Folder) × old.may_leave d × step d c
  pub since : (t : ℕ) (c : Folder) → t ≤ old.moment → new.left_since t c → old.left_since t c ⊎ ((d : Folder) × old.may_leave d × step d c)

-- each path but standard input holds the same
abbrev pub IsSameFolder : Folder → Folder → Type 0
IsSameFolder d c = (path : List ℕ) → path ≢ standard_input → c path ≡ d path

-- so does each but this one, which holds the same, or what is so of it
abbrev pub IsSameBut : List ℕ → (Held → Type 0) → Folder → Folder → Type 0
IsSameBut path Is d c = (other : List ℕ) → other ≢ standard_input → (c other ≡ d other) ⊎ ((other ≡ path) × Is (c other))

-- what a crash leaves where these pages are put into the table file of a path: it holds what it held, or them
abbrev pub MayHold : List ℕ → List (List ℕ) → Folder → Folder → Type 0
MayHold path all = IsSameBut path (λ held. HasPages held all)

-- and where the table file is made anew of them: where it had no page, it may also hold a part of them, which is no table
abbrev pub MayBecome : List ℕ → List (List ℕ) → FilesFacts → Folder → Folder → Type 0
MayBecome path all old = IsSameBut path (λ held. HasPages held all ⊎ (IsEmpty (old.holds path) × IsPart held all))

-- what is said of crashes is said of files that are honest
abbrev pub Runs : (Folder → Folder → Type 0) → FilesFacts → FolderClock → FolderClock → Type 0
Runs step files old new = IsTrue files.honest → Goes step old new

-- each crash from now on leaves a path to hold what this is so of
abbrev pub Endures : List ℕ → (Held → Type 0) → FilesFacts → FolderClock → Type 0
Endures path Is files clock = IsTrue files.honest → Leaves path Is clock

-- it leaves the table file of this path to hold these pages
abbrev pub Lasts : List ℕ → List (List ℕ) → FilesFacts → FolderClock → Type 0
Lasts path all files clock = Endures path (λ held. HasPages held all) files clock
