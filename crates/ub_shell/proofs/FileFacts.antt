-- What the commands that make a table file leave of files, step by step, and what the words ask for.
use Rattle.std.specs.Prelude.{IfErr, IsErrAnd}
use Rattle.std.proofs.Common.{◌≡◌, ℕ, List, Result, Ok, Err, inl, ap, subst, sym}
use Rattle.ub_script.specs.Output.{OutFacts}
use Rattle.ub_store.specs.Facts.{StoreFacts, memory_facts}
use Rattle.ub_store.specs.declared.fault.StoreFault.TheVariants as store
use Rattle.ub_load.specs.LoadedTree.{IsLoadedTree}
use Rattle.ub_load.specs.Loading.{IsAtWork}
use Rattle.ub_tree.proofs.ClosingFacts.{sound_some}
use Rattle.ub_tree.specs.Closing.{IsCloseFault}
use Rattle.ub_tree.specs.View.{TreeView}
use Rattle.ub_tree.specs.declared.fault.TreeFault.{TreeFault}
use Rattle.ub_tree.specs.declared.fault.TreeFault.TheVariants as tree
use Rattle.ub_table.specs.declared.axes.Axes.{Axes}
use Rattle.ub_words.specs.Asked.{IsAskedBy}
use Rattle.ub_words.specs.declared.words.Asked.{Asked}
use Rattle.ub_table_file.specs.Status.{Tells}
use Rattle.ub_files.specs.Files.{FilesFacts}
use Rattle.ub_shell.specs.Ran.{Does, HasEnded}
use Rattle.ub_table_file.specs.declared.status.Status.{Status}

-- ---- a table in memory

-- what is so of the fault with which a call was refused
pub refused_by : {A E : Type 0} (P : E → Type 0) (r : Result A E) (fault : E) → IsErrAnd r (λ e. e ≡ fault) → P fault → IfErr r P
refused_by P (Ok a) fault is so = absurd is
refused_by P (Err e) fault is so = subst P (sym is) so

-- a table that was loaded can be closed there: a store in memory never fails, and the tree is sound
pub never_unclosed : {text name : List ℕ} {axes : Axes} {page_rows : ℕ} (held : List (List ℕ)) (t : TreeView) → IsLoadedTree text axes page_rows name t → IsAtWork (memory_facts held) t
    → (fault : TreeFault) → IsCloseFault t fault → ⊥
never_unclosed held t loaded work tree.Memory h = h
never_unclosed held t loaded work tree.Failed h = let works = work.working in cc
never_unclosed held t loaded work (tree.Store store.Device) h = let never = ap (λ (s : StoreFacts). s.can_fail) work.store_is in cc
never_unclosed held t loaded work (tree.Store store.NoPage) h = sound_some t loaded.sound h
never_unclosed held t loaded work (tree.Store store.BadSize) h = h
never_unclosed held t loaded work (tree.Store store.Memory) h = h
never_unclosed held t loaded work tree.Full h = h
never_unclosed held t loaded work (tree.Page page fault) h = h

-- ---- what the words ask for

-- it was done
pub ends_as : (words : List (List ℕ)) (a b : Asked) (old new : FilesFacts) (out out_now notes notes_now : OutFacts) (status : Status) → a ≡ b → IsAskedBy words a
    → Does b old new out out_now notes notes_now status → HasEnded words old new out out_now notes notes_now status
ends_as words a b old new out out_now notes notes_now status is by does = inl (record {
  asked = a;
  asks = by;
  does = subst (λ (x : Asked). Does x old new out out_now notes notes_now status) (sym is) does;
})

-- a text that is this one was told
pub tells_as : (bytes text : List ℕ) (out out_now : OutFacts) (wanted status : Status) → bytes ≡ text → Tells out out_now bytes wanted status → Tells out out_now text wanted status
tells_as bytes text out out_now wanted status same told = rw same at told
