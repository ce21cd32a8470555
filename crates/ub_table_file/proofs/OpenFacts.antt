-- What opening a table file does, and what the commands that change one make of it.
use Rattle.std.proofs.Common.{◌≡◌, ◌⊎◌, ◌∙◌, ℕ, Bool, true, false, List, Result, Ok, Err, ap, inl, inr, refl, subst, sym}
use Rattle.std.specs.Prelude.{IfErr, IfOk, IsTrue, OnOk}
use Rattle.ub_files.specs.Clock.{Endures, FolderClock, IsSameBut, IsSameFolder, Runs}
use Rattle.ub_files.specs.Files.{FilesFacts, IsLent}
use Rattle.ub_script.specs.Output.{OutFacts}
use Rattle.ub_table_file.proofs.AppendFacts.{more_lasts, store_appends, store_safely, text_lasts, text_safely}
use Rattle.ub_table_file.proofs.CrashFacts.{asked_safely, left_safely, still_honest}
use Rattle.ub_table_file.proofs.FileFacts.{store_left}
use Rattle.ub_table_file.proofs.GoesFacts.{runs_both}
use Rattle.ub_table_file.proofs.LastFacts.{asked_lasts, left_lasts, never_done, open_says, store_says, tree_says}
use Rattle.ub_table_file.specs.Appended.{AppendsText}
use Rattle.ub_table_file.specs.Commands.{IsAskedOf, IsRunOn, IsTreeOf, IsUnlent, IsUntold, OpensFor}
use Rattle.ub_table_file.specs.Crashes.{HoldsAsked, SaysAllDone}
use Rattle.ub_table_file.specs.Opening.{HasOpened, IsNotOpened, OpensTable}
use Rattle.ub_table_file.specs.inner.Appending.{AppendsTree, HoldsRows, HoldsText}
use Rattle.ub_table_file.specs.inner.Running.{RunsTree}
use Rattle.ub_table_file.specs.declared.status.Status.{Status}
use Rattle.ub_store.specs.Facts.{StoreFacts}
use Rattle.ub_tree.specs.View.{TreeView}

-- files that were opened are as honest as they were
pub opens_honest : (changes : Bool) (table : List ℕ) (old new : FilesFacts) → OpensFor changes table old new → IsTrue old.honest → IsTrue new.honest
opens_honest true table old new opens = still_honest old new (ap (λ (f : FilesFacts). f.honest) opens.same)
opens_honest false table old new opens = still_honest old new (ap (λ (f : FilesFacts). f.honest) opens)

-- a store was lent, and a tree looked for in it
pub opens_tree : (changes : Bool) (table : List ℕ) (store : StoreFacts) (old mid new : FilesFacts) (was then now : FolderClock) (out mid_out out_now : OutFacts)
    (r : Result TreeView Status) → IsLent old table store → OpensFor changes table old mid → mid_out ≡ out → Runs IsSameFolder old was then → new ≡ mid
    → IfOk r (IsTreeOf store) → OnOk r (out_now ≡ mid_out) → IfErr r (IsUntold store mid_out out_now) → Runs IsSameFolder mid then now
    → OpensTable changes table old new was now out out_now r
opens_tree changes table store old mid new was then now out mid_out out_now (Ok t) lent opens quiet before same tree silent untold after = record {
  opened = record { store = store; lent = lent; opens = subst (λ (f : FilesFacts). OpensFor changes table old f) (sym same) opens; tree_is = tree };
  quiet = silent ∙ quiet;
  refused = tt;
  crash = runs_both old mid was then now (opens_honest changes table old mid opens) before after;
}
opens_tree changes table store old mid new was then now out mid_out out_now (Err status) lent opens quiet before same tree silent untold after = record {
  opened = tt;
  quiet = tt;
  refused = inr (record {
    store = store;
    lent = lent;
    opens = subst (λ (f : FilesFacts). OpensFor changes table old f) (sym same) opens;
    untold = subst (λ (o : OutFacts). IsUntold store o out_now status) quiet untold;
  });
  crash = runs_both old mid was then now (opens_honest changes table old mid opens) before after;
}

-- a status that is told where it isn't opened doesn't say that all was done
unlent_says : (changes : Bool) (table : List ℕ) (old new : FilesFacts) (out out_now : OutFacts) (status : Status) → IsUnlent changes table old new out out_now status
    → SaysAllDone status → ⊥
unlent_says true table old new out out_now status unready = never_done _ _ _ _ status unready.tells (open_says unready.fault)
unlent_says false table old new out out_now status unopened = never_done _ _ _ _ status unopened.tells (store_says unopened.fault)

pub not_opened_says : (changes : Bool) (table : List ℕ) (old new : FilesFacts) (out out_now : OutFacts) (status : Status) → IsNotOpened changes table old new out out_now status
    → SaysAllDone status → ⊥
not_opened_says changes table old new out out_now status (inl unlent) = unlent_says changes table old new out out_now status unlent
not_opened_says changes table old new out out_now status (inr none) = never_done _ _ _ _ status none.untold.tells (tree_says none.untold.fault)

-- ---- a script

-- it isn't run where no tree is opened
pub not_asked : (changes : Bool) (table script : List ℕ) (old new : FilesFacts) (out out_now : OutFacts) (status : Status) → IsNotOpened changes table old new out out_now status
    → IsAskedOf changes table script old new out out_now status ⊎ IsUnlent changes table old new out out_now status
not_asked changes table script old new out out_now status (inl unlent) = inr unlent
not_asked changes table script old new out out_now status (inr none) =
    inl (record { store = none.store; mid = new; lent = none.lent; opens = none.opens; asks = inr (none.untold, refl) })

module _ (changes : Bool) (table script : List ℕ) (t : TreeView) (old mid new : FilesFacts) (then now : FolderClock) (out out_now : OutFacts) (status : Status)
    (opened : HasOpened changes table old mid t) (ran : RunsTree changes table script t mid new then now out out_now status) where
  abbrev is_run : IsRunOn opened.store script ran.0 out out_now status
  is_run = record {
    tree = t;
    tree_is = opened.tree_is;
    ran = ran.1;
    left_is = store_left {out_now = out_now} opened.store t opened.tree_is.opened ran.1;
  }

  pub tree_asked : IsAskedOf changes table script old new out out_now status
  tree_asked = record {
    store = opened.store;
    mid = mid;
    lent = opened.lent;
    opens = opened.opens;
    asks = inl (record { left = ran.0; run = is_run; kept = ran.2 });
  }

  pub tree_asked_safely : (was : FolderClock) → Runs IsSameFolder old was then → Runs (IsSameBut table (HoldsAsked table script old out out_now status)) old was now
  tree_asked_safely was before =
      asked_safely table script opened.store old mid was then now out out_now status opened.lent (opens_honest changes table old mid opened.opens) before
      (left_safely table script opened.store ran.0 mid then now out out_now status is_run ran.3)

  pub tree_asked_lasts : IsTrue changes → SaysAllDone status → Endures table (HoldsAsked table script old out out_now status) old now
  tree_asked_lasts change done =
      asked_lasts table script opened.store old mid now out out_now status opened.lent (opens_honest changes table old mid opened.opens)
      (left_lasts table script opened.store ran.0 mid now out out_now status is_run done (ran.4 change))

-- ---- rows of a text

-- they aren't appended where no tree is opened
pub not_appended : (table text : List ℕ) (old new : FilesFacts) (out out_now : OutFacts) (status : Status) → IsNotOpened true table old new out out_now status
    → AppendsText table text old new out out_now status
not_appended table text old new out out_now status (inl unready) = inr unready
not_appended table text old new out out_now status (inr none) =
    inl (record { store = none.store; mid = new; lent = none.lent; opens = none.opens; appends = inr (inl none.untold, refl) })

module _ (table text : List ℕ) (t : TreeView) (old mid : FilesFacts) (out out_now : OutFacts) (status : Status) (opened : HasOpened true table old mid t) where
  pub tree_appended : (new : FilesFacts) → AppendsTree table text t mid new out out_now status → AppendsText table text old new out out_now status
  tree_appended new appends = inl (record {
    store = opened.store;
    mid = mid;
    lent = opened.lent;
    opens = opened.opens;
    appends = store_appends table text t out out_now status opened.store mid new opened.tree_is appends;
  })

  pub tree_appended_safely : (was then now : FolderClock) → Runs IsSameFolder old was then → Runs (IsSameBut table (HoldsRows t text out out_now status)) mid then now
      → Runs (IsSameBut table (HoldsText table text old out out_now status)) old was now
  tree_appended_safely was then now before runs =
      text_safely table text out out_now status opened.store old mid was then now opened.lent (opens_honest true table old mid opened.opens) before
      (store_safely table text t out out_now status opened.store mid then now opened.tree_is runs)

  pub tree_appended_lasts : (now : FolderClock) → Endures table (HoldsRows t text out out_now status) mid now → Endures table (HoldsText table text old out out_now status) old now
  tree_appended_lasts now lasts =
      text_lasts table text out out_now status opened.store old mid now opened.lent (opens_honest true table old mid opened.opens)
      (more_lasts table text t out out_now status opened.store mid now opened.tree_is lasts)
