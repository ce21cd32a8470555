-- What a script that was run on a tree leaves of its table, and of its store.
use Rattle.std.proofs.Common.{◌≡◌, ◌⊎◌, ◌∙◌, ℕ, List, [], ◌∷◌, ◌++◌, Result, Ok, Err, inl, inr, length, take, slice_range, ap, false, true, refl, subst, sym}
use Rattle.std.proofs.lemmas.Bool.{false≢true}
use Rattle.std.specs.Prelude.{IfErr, IsOk}
use Rattle.ub_exec.specs.Stand.{Stand, IsStandOf}
use Rattle.ub_lexer.specs.declared.token.Token.{Token}
use Rattle.ub_parser.specs.Outcome.{Command, asks, puts, takes}
use Rattle.ub_script.proofs.Laws.{full_tables_stay, unchanged_tables_stay}
use Rattle.ub_script.specs.Basis.{Basis, on_stand, over_any, IsBasisOf, IsCommandEnd, IsReply, IsRestOf}
use Rattle.ub_script.specs.Laws.{IsUnchanged}
use Rattle.ub_script.specs.Output.{OutFacts, HasTaken}
use Rattle.ub_script.specs.Run.{AreAnswers, EndedOver, FirstOver, IsCutOff, IsEnded, IsRun, IsStopped, IsUnbegun, IsWhole, Ran}
use Rattle.ub_script.specs.Script.{Outcome}
use Rattle.ub_script.specs.Text.{Reply, changed_by, texts_of}
use Rattle.ub_script.specs.declared.fault.RunFault.{RunFault}
use Rattle.ub_script.specs.declared.fault.RunFault.TheVariants as run
use Rattle.ub_script.specs.declared.script.Summary.{Summary}
use Rattle.ub_store.specs.Facts.{StoreFacts}
use Rattle.ub_tree.specs.Opened.{IsOpened}
use Rattle.ub_tree.specs.View.{TreeView}
use Rattle.ub_tree.specs.declared.fault.TreeFault.{TreeFault}
use Rattle.ub_tree.specs.declared.fault.TreeFault.TheVariants.{Full}
use Rattle.ub_table_file.specs.Commands.{Closes}
use Rattle.ub_shell.specs.Laws.{HasLeft, HasStopped}

-- ---- a table stands somewhere

-- after a reply
after_reply : (s : Stand) (outcome : Outcome) (r : Reply) (now : Basis) → IsReply (on_stand s) outcome r now → (after : Stand) × (now ≡ on_stand after)
after_reply s outcome r now (after, h, at) = (after, at)

-- after several
pub after_answers : (s : Stand) (source : List ℕ) (tokens : List Token) (ranges : List (ℕ × ℕ)) (replies : List Reply) (now : Basis)
    → AreAnswers (on_stand s) source tokens ranges replies now → (after : Stand) × (now ≡ on_stand after)
after_answers s source tokens [] [] now h = (s, h)
after_answers s source tokens [] (r ∷ replies) now h = absurd h
after_answers s source tokens (range ∷ ranges) [] now h = absurd h
after_answers s source tokens (range ∷ ranges) (r ∷ replies) now (mid, one, rest) =
    let step = after_reply s one.outcome r mid one.reply_is in
    after_answers step.0 source tokens ranges replies now (subst (λ (b : Basis). AreAnswers b source tokens ranges replies now) step.1 rest)

-- after a statement that a fault ended
after_end : (s : Stand) (says : Command) (fault : RunFault) (pages : ℕ) (now : Basis) → IsCommandEnd (on_stand s) says fault pages now → (after : Stand) × (now ≡ on_stand after)
after_end s (asks t) fault pages now (some, given, still) = (s, still)
after_end s (puts values) fault pages now (none, still) = (s, still)
after_end s (takes q) fault pages now (some, (j, left)) = (_, left)

after_ended : (s : Stand) (source : List ℕ) (tokens : List Token) (fault : RunFault) (pages : ℕ) (now : Basis) → IsEnded (on_stand s) source tokens fault pages now
    → (after : Stand) × (now ≡ on_stand after)
after_ended s source tokens fault pages now (inl memory) = (s, memory.2)
after_ended s source tokens fault pages now (inr h) = after_end s h.says fault pages now h.ended

-- after the first statements of a script
after_first : (s : Stand) (script : List ℕ) (replies : List Reply) (left : ℕ) (now : Basis) → FirstOver (on_stand s) script replies left now
    → (after : Stand) × (now ≡ on_stand after) × FirstOver (on_stand s) script replies left (on_stand after)
after_first s script replies left now h =
    let step = after_answers s script h.tokens (take (length replies) h.ranges) replies now h.first.1 in
    (step.0, step.1, subst (λ (b : Basis). FirstOver (on_stand s) script replies left b) step.1 h)

-- after the one that a fault ended
after_stopped : (s : Stand) (script : List ℕ) (fault : RunFault) (replies : List Reply) (left pages : ℕ) (now : Basis) → EndedOver (on_stand s) script fault replies left pages now
    → (after : Stand) × (now ≡ on_stand after) × EndedOver (on_stand s) script fault replies left pages (on_stand after)
after_stopped s script fault replies left pages now h =
    let (mid, first, (range, there, ended)) = h.ended in
    let step = after_answers s script h.tokens (take (length replies) h.ranges) replies mid first.1 in
    let last = after_ended step.0 script (slice_range h.tokens range.0 range.1) fault pages now
    (subst (λ (b : Basis). IsEnded b script (slice_range h.tokens range.0 range.1) fault pages now) step.1 ended) in
    (last.0, last.1, subst (λ (b : Basis). EndedOver (on_stand s) script fault replies left pages b) last.1 h)

-- ---- what a run leaves of a table

module _ (now : TreeView) (script : List ℕ) (s : Stand) (out out_now : OutFacts) (f n : ℕ) where
  whole_left : (summary : Summary) → Ran (IsWhole (FirstOver (on_stand s) script) summary) (IsBasisOf now) false out out_now f n
      → (later : Stand) × HasLeft script (Ok summary) s later out out_now × IsStandOf now later
  whole_left summary (basis, bytes, pages, (replies, first, text, count, counts), left, taken, fetched) =
      let step = after_first s script replies 0 basis first in
      let wrote = subst (λ (bs : List ℕ). HasTaken bs false out out_now) text taken in
      (step.0, (replies, step.2, counts, wrote), subst (λ (b : Basis). IsBasisOf now b) step.1 left)

  cut_left : Ran (IsCutOff (FirstOver (on_stand s) script)) (IsBasisOf now) true out out_now f n
      → (later : Stand) × HasLeft script (Err run.Write) s later out out_now × IsStandOf now later
  cut_left (basis, bytes, pages, (replies, next, more, front, first, is, text, count), left, taken, fetched) =
      let step = after_first s script (replies ++ next ∷ []) more basis first in
      let wrote = subst (λ (bs : List ℕ). HasTaken bs true out out_now) text taken in
      (step.0, (replies, next, more, front, step.2, is, wrote), subst (λ (b : Basis). IsBasisOf now b) step.1 left)

  stopped_left : (t : TreeView) (fault : RunFault) → IsStandOf t s → now.is_failed ≡ false
      → IsUnbegun t now fault out out_now ⊎ Ran (IsStopped (EndedOver (on_stand s) script fault)) (IsRestOf now) false out out_now f n
      → (later : Stand) × HasStopped script fault s later out out_now × IsStandOf now later
  stopped_left t fault is working (inl (memory, same, silent)) = (s, inl (memory, refl, silent), subst (λ (x : TreeView). IsStandOf x s) (sym same) is)
  stopped_left t fault is working (inr (basis, bytes, pages, (replies, left, more, ended, text, count), rest, taken, fetched)) =
      let step = after_stopped s script fault replies left more basis ended in
      let wrote = subst (λ (bs : List ℕ). HasTaken bs false out out_now) text taken in
      (step.0, inr (replies, left, more, step.2, wrote), subst (λ (b : Basis). IsRestOf now b) step.1 rest working)

-- a table is left where the statements left it
pub run_leaves : (t now : TreeView) (script : List ℕ) (result : Result Summary RunFault) (out out_now : OutFacts) (s : Stand) → IsRun t now script result out out_now
    → IsStandOf t s → now.is_failed ≡ false → (later : Stand) × HasLeft script result s later out out_now × IsStandOf now later
run_leaves t now script (Ok summary) out out_now s h is working = whole_left now script s out out_now _ _ summary (h.done (on_stand s) is)
run_leaves t now script (Err run.Write) out out_now s h is working = cut_left now script s out out_now _ _ (h.cut (on_stand s) is refl)
run_leaves t now script (Err run.Memory) out out_now s h is working = stopped_left now script s out out_now _ _ t run.Memory is working (h.stopped (on_stand s) is (λ same. cc))
run_leaves t now script (Err (run.Load fault)) out out_now s h is working =
    stopped_left now script s out out_now _ _ t (run.Load fault) is working (h.stopped (on_stand s) is (λ same. cc))
run_leaves t now script (Err (run.Tree fault)) out out_now s h is working =
    stopped_left now script s out out_now _ _ t (run.Tree fault) is working (h.stopped (on_stand s) is (λ same. cc))

-- ---- a store that stays

-- nothing but its trace has changed of a tree
same_tree : (t now : TreeView) (b : Basis) → IsUnchanged (over_any t) b → IsBasisOf now b
    → (now.store ≡ t.store) × (now.is_changed ≡ t.is_changed) × (now.is_failed ≡ t.is_failed)
same_tree t now (on_stand s) h k = absurd h
same_tree t now (over_any seen) h k = (
  ap (λ (x : TreeView). x.store) k ∙ ap (λ (x : TreeView). x.store) h,
  ap (λ (x : TreeView). x.is_changed) k ∙ ap (λ (x : TreeView). x.is_changed) h,
  ap (λ (x : TreeView). x.is_failed) k ∙ ap (λ (x : TreeView). x.is_failed) h,
)

-- a script that was run to its end, and whose replies change no row
pub run_stays : (store left : StoreFacts) (t now : TreeView) (script : List ℕ) (result : Result Summary RunFault) (closing : Result (Unit {0}) TreeFault) (out mid : OutFacts)
    → IsOpened store t → Closes now left closing → IsRun t now script result out mid → IsOk result
    → (replies : List Reply) × (b : Basis) × FirstOver (over_any t) script replies 0 b × HasTaken (texts_of replies) false out mid × (changed_by replies ≡ 0 → left ≡ store)
run_stays store left t now script (Err fault) closing out mid opened closes h done = absurd (false≢true done)
run_stays store left t now script (Ok summary) closing out mid opened closes h done =
    let (basis, bytes, pages, (replies, first, text, count, counts), rest, taken, fetched) = h.done (over_any t) refl in (
      replies,
      basis,
      first,
      subst (λ (bs : List ℕ). HasTaken bs false out mid) text taken,
      λ none.
          let same = same_tree t now basis (unchanged_tables_stay (over_any t) script replies 0 basis first none) rest in
          (closes.unchanged (same.1 ∙ opened.unchanged) (same.2 ∙ opened.working)).1 ∙ same.0 ∙ opened.store_is,
    )

-- what a refused call is refused with
of_fault : (P : RunFault → Type 0) (result : Result Summary RunFault) (fault : RunFault) → result ≡ Err fault → IfErr result P → P fault
of_fault P result fault is h = subst (λ (r : Result Summary RunFault). IfErr r P) is h

-- the same after a fault
same_rest : (t now : TreeView) (b : Basis) → IsUnchanged (over_any t) b → IsRestOf now b
    → (now.store ≡ t.store) × (now.is_changed ≡ t.is_changed) × (now.is_failed ≡ t.is_failed)
same_rest t now (on_stand s) h k = absurd h
same_rest t now (over_any seen) h k = same_tree t now (over_any seen) h k

-- a script that was run up to an INSERT that found no number left, or no room in the index, and whose replies change no row
pub full_stays : (store left : StoreFacts) (t now : TreeView) (script : List ℕ) (result : Result Summary RunFault) (closing : Result (Unit {0}) TreeFault) (out mid : OutFacts)
    → IsOpened store t → Closes now left closing → IsRun t now script result out mid → result ≡ Err (run.Tree Full)
    → (replies : List Reply) × (rest : ℕ) × (pages : ℕ) × (b : Basis) × EndedOver (over_any t) script (run.Tree Full) replies rest pages b
    × HasTaken (texts_of replies) false out mid × (changed_by replies ≡ 0 → left ≡ store)
full_stays store left t now script result closing out mid opened closes h full =
    elim (of_fault _ result (run.Tree Full) full (h.stopped (over_any t) refl) (λ same. cc)) [
      | inl unbegun ↦ let bad = unbegun.0 in cc
      | inr ran ↦
          let (basis, bytes, pages, (replies, rest, more, ended, text, count), left_is, taken, fetched) = ran in (
            replies,
            rest,
            more,
            basis,
            ended,
            subst (λ (bs : List ℕ). HasTaken bs false out mid) text taken,
            λ none.
                let same = same_rest t now basis (full_tables_stay t script replies rest more basis ended none) left_is in
                (closes.unchanged (same.1 ∙ opened.unchanged) (same.2 ∙ opened.working)).1 ∙ same.0 ∙ opened.store_is,
          )
    ]
