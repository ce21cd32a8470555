-- What loading a CSV text promises.
use Rattle.std.specs.Prelude.{◌≡◌, ℕ, List, Option, Some, None, Result, IfErr, IfOk}
use Rattle.ub_load.specs.LoadedTree.{IsLoadedTree}
use Rattle.ub_load.specs.Loading.{IsAtWork, IsLoadFault}
use Rattle.ub_load.specs.declared.fault.LoadFault.{LoadFault}
use Rattle.ub_store.specs.Facts.{StoreFacts, IsHonest}
use Rattle.ub_table.specs.declared.axes.Axes.{Axes}
use Rattle.ub_tree.specs.View.{TreeView}

-- the table of a CSV text was to be loaded into a new tree over a store with these facts, with this answer: over an honest store a sound
-- tree that has that table, over any one that works; or why it isn't loaded
pub record Loads (text : List ℕ) (axes : Axes) (page_rows : ℕ) (name : List ℕ) (facts : StoreFacts) (result : Result TreeView LoadFault)
    : Type 0 where
  pub loaded : IsHonest facts → IfOk result (IsLoadedTree text axes page_rows name)
  pub working : IfOk result (IsAtWork facts)
  pub refused : IfErr result (IsLoadFault axes name text facts)

-- a source of which this is known gives this text, if it fails nowhere
abbrev pub MayGive : Option (List ℕ) → List ℕ → Type 0
MayGive None text = Unit {0}
MayGive (Some known) text = text ≡ known

-- the table of the text that a source gives was to be loaded so, where this is known of what it gives: the answer is that for such a text
pub record LoadsFrom (known : Option (List ℕ)) (axes : Axes) (page_rows : ℕ) (name : List ℕ) (facts : StoreFacts) (result : Result TreeView LoadFault)
    : Type 0 where
  pub text : List ℕ
  pub text_is : MayGive known text
  pub loads : Loads text axes page_rows name facts result
