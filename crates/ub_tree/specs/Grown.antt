-- A tree into which rows were only put: how full the pages of its index are.
use Rattle.ub_index_change.specs.Filling.{IsFilled}
use Rattle.ub_tree.specs.View.{TreeView}

-- each page of its index but the root is half full, as where rows were only put in
abbrev pub IsOnlyGrown : TreeView → Type 0
IsOnlyGrown t = IsFilled t.inner.index t.store.pages
