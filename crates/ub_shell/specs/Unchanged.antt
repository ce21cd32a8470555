-- Files of which nothing was changed.
use Rattle.std.specs.Prelude.{◌≡◌}
use Rattle.ub_files.specs.Clock.{FolderClock, IsSameFolder, Runs}
use Rattle.ub_files.specs.Files.{FilesFacts}

-- between two moments no file was changed: each path holds what it did, a crash leaves it what it did, and so did each crash between them
pub record AreLeft (old new : FilesFacts) (was now : FolderClock) : Type 0 where
  pub holds : new.holds ≡ old.holds
  pub lasts : new.lasts ≡ old.lasts
  pub honest : new.honest ≡ old.honest
  pub crash : Runs IsSameFolder old was now
