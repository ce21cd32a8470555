-- What is done for the statement at one range of the tokens.
use Rattle.std.specs.Prelude.{◌≡◌, ℕ, Bool, List, slice_range}
use Rattle.ub_exec.specs.Visits.{fetches_then}
use Rattle.ub_lexer.specs.declared.token.Token.{Token}
use Rattle.ub_script.specs.Basis.{Basis, IsBasisOf, IsRestOf}
use Rattle.ub_script.specs.Output.{IsFrontOf}
use Rattle.ub_script.specs.Run.{IsAnswer}
use Rattle.ub_script.specs.Text.{Reply, reply}
use Rattle.ub_tree.specs.View.{TreeView}

-- what holds on each basis of a tree
abbrev pub OnEach : TreeView → (Basis → Type 0) → Type 0
OnEach t Holds = (basis : Basis) → IsBasisOf t basis → Holds basis

-- a reply was made of which this holds, and nothing changed: pages were fetched, and this is its text, and whether it is refused
abbrev pub Makes : (Reply → Type 0) → List ℕ → Bool → ℕ → ℕ → Type 0
Makes Is text is_refused fetches fetches_now =
    (pages : ℕ) × Is (reply text pages is_refused 0) × (fetches_now ≡ fetches_then fetches pages)

-- pages were fetched of whose number this holds
abbrev pub Fetches : (ℕ → Type 0) → ℕ → ℕ → Type 0
Fetches Are fetches fetches_now = (pages : ℕ) × Are pages × (fetches_now ≡ fetches_then fetches pages)

-- a reply was made of which this holds, and of what the next one rests on
abbrev pub Replies : (Reply → Basis → Type 0) → List ℕ → Bool → TreeView → TreeView → Type 0
Replies Is text is_refused old new =
    (pages : ℕ) × (changed : ℕ) × (now : Basis) × Is (reply text pages is_refused changed) now × IsBasisOf new now
    × (new.trace.fetches ≡ fetches_then old.trace.fetches pages)

-- a fault came with so many pages fetched of which this holds, and of what is left
abbrev pub Stops : (ℕ → Basis → Type 0) → TreeView → TreeView → Type 0
Stops Is old new =
    (pages : ℕ) × (now : Basis) × Is pages now × IsRestOf new now × (new.trace.fetches ≡ fetches_then old.trace.fetches pages)

-- this is the text of the statement at a range, so many pages are fetched for it, and the next one rests on this
abbrev pub IsAnswerAt : Basis → List ℕ → List Token → ℕ × ℕ → Bool → Basis → List ℕ → ℕ → Type 0
IsAnswerAt basis source tokens range is_refused now text pages =
    (changed : ℕ) × IsAnswer basis source (slice_range tokens range.0 range.1) (reply text pages is_refused changed) now

-- a front of its text, not all of it, and all of the pages
abbrev pub IsCutAt : Basis → List ℕ → List Token → ℕ × ℕ → Basis → List ℕ → ℕ → Type 0
IsCutAt basis source tokens range now front pages =
    (r : Reply) × IsAnswer basis source (slice_range tokens range.0 range.1) r now × IsFrontOf front r.text
    × (pages ≡ r.pages)
