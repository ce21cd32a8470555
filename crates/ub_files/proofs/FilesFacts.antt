-- Which paths were read, by more than one reading.
use Rattle.std.proofs.Common.{◌∙◌, ◌++◌, ℕ, List, Option, Some, None, ap}
use Rattle.std.proofs.lemmas.List.{append_assoc}
use Rattle.ub_files.specs.Files.{AreRead}

-- paths that were read one after the other
pub read_more : (first more : List (List ℕ)) (a b c : Option (List (List ℕ))) → AreRead first a b → AreRead more b c → AreRead (first ++ more) a c
read_more first more a b None is then = tt
read_more first more None None (Some now) is then = absurd then
read_more first more None (Some mid) (Some now) is then = absurd is
read_more first more (Some before) None (Some now) is then = absurd then
read_more first more (Some before) (Some mid) (Some now) is then = then ∙ ap (λ ps. ps ++ more) is ∙ append_assoc before first more
