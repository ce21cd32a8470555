use Rattle.std.proofs.Common.{ap, inl, refl}
use Rattle.std.proofs.lemmas.Result.{err_from_is_err_and}
use Rattle.ub_load.specs.LoadedTable.{axes_with, records_of}
use Rattle.ub_load.specs.Refusals.{first_refusal}
use Rattle.ub_script.proofs.EndFacts.{no_answer, no_write_by}
use Rattle.ub_script.proofs.LoadedFacts.{first_wrong, load_no_write, no_tree_by, tree_wrong}
use Rattle.ub_store.specs.Facts.{StoreFacts}
use Rattle.ub_script.proofs.KeptFacts.{sound_left}
use Rattle.ub_script.proofs.RowsFacts.{loaded_basis, loaded_broken, loaded_done, loaded_is, loaded_refused, loaded_stopped}
use Rattle.ub_script.proofs.RunFacts.{if_ok}
use Rattle.ub_script.proofs.script.try_text.Goals as goal

pub returns : goal.returns
returns g c =
    let loaded = c.in_ok-tree.ensures.loaded refl in
    let basis = loaded_basis _ _ _ _ _ loaded _ in
    let is_basis = loaded_is _ _ _ _ _ loaded _ in
    record {
      done = if_ok c.run.result _ _ (λ s h. loaded_done _ _ _ _ _ loaded _ s _ _ _ _ _ h) (c.run.ensures.done basis is_basis);
      load = λ fault is. absurd (rw is at c.run.ensures.effect.left);
      write = λ is. loaded_broken _ _ _ _ _ loaded _ _ _ _ _ _ (c.run.ensures.cut basis is_basis is);
      memory = λ is. loaded_stopped _ _ _ _ _ loaded _ _ _ _ _ _ _ c.run.result is (c.run.ensures.stopped basis is_basis);
      of_tree = λ fault is. absurd (rw is at c.run.ensures.effect.left);
      tree = λ fault is.
          let left = rw is at c.run.ensures.effect.left in
          let never = ap (λ (facts : StoreFacts). facts.can_fail) c.in_ok-tree.ensures.working.store_is in (
            sound_left _ _ fault loaded.sound never left,
            loaded_refused _ _ _ _ _ loaded _ fault _ _ _ _ _ _ c.run.result is (c.run.ensures.stopped basis is_basis),
          );
    }

pub returns-in_err-tree : goal.returns-in_err-tree
returns-in_err-tree g c =
    let p = err_from_is_err_and c.from_residual.result c.from_residual.ensures.1 in
    let first = first_refusal (axes_with c.args.dims c.args.signed) c.args.name.now (records_of c.args.text.now) in
    let told = c.in_err-tree.ensures.refused in
    record {
      done = no_answer c.from_residual.result _ _ c.from_residual.ensures.1;
      load = λ fault is. (refl, first_wrong c.from_residual.result p.0 c.in_err-tree.field-0.0 p.1 p.2 first _ _ (λ fails. cc) (λ broken. broken refl) told fault is);
      write = λ is. absurd (no_write_by c.from_residual.result _ c.from_residual.ensures.1 (load_no_write _) is);
      memory = λ is. inl refl;
      of_tree = λ fault is. tree_wrong c.from_residual.result p.0 c.in_err-tree.field-0.0 p.1 p.2 first _ _ (λ fails. cc) (λ broken. broken refl) told fault is;
      tree = λ fault is. absurd (no_tree_by c.from_residual.result p.0 c.in_err-tree.field-0.0 p.1 p.2 fault is);
    }
