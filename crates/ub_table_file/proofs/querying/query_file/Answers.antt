use Rattle.std.proofs.Common.{◌∙◌, List, Some, ap, inl, inr, refl, sym, ℕ, Option}
use Rattle.ub_script.specs.Output.{out_facts}
use Rattle.ub_table_file.proofs.CrashFacts.{queried_safely}
use Rattle.ub_table_file.proofs.FileFacts.{no_failure, queried}
use Rattle.ub_table_file.proofs.LastFacts.{never_so, queried_lasts}
use Rattle.ub_table_file.specs.declared.status.Status.TheVariants.{Memory}
use Rattle.ub_table_file.proofs.querying.query_file.Goals as goal

pub returns-clause-queries : goal.returns-clause-queries
returns-clause-queries g c =
    queried c.args.asked.table.now c.args.asked.statements.now _ _ _ _ c.as_slice.result.now c.run_script-ended.new.out.failed c.run_script-ended.result _ _ _ _ c.write_parts.result
    (c.new-memory.ensures ∙ ap (λ (xs : List ℕ). out_facts (Some xs) 0) c.new.ensures.items)
    (ap (λ (told : Option (List ℕ)). out_facts told c.run_script-ended.new.out.failed) (sym c.into_inner-text.ensures ∙ ap (λ (xs : List ℕ). Some xs) (sym c.as_slice.ensures.value)))
    (rw c.as_bytes-statements.ensures.value at c.run_script-ended.ensures.runs)
    (inl (no_failure c.has_failed.result _ c.has_failed.ensures c.if-has_failed.false, c.write_parts.ensures))

pub returns-clause-crash : goal.returns-clause-crash
returns-clause-crash g c =
    queried_safely c.args.asked.table.now c.args.asked.statements.now (g.F.Files.facts c.args.files.now) _ _ _ _ c.as_slice.result.now c.run_script-ended.new.out.failed c.run_script-ended.result
    (g.W.Out.facts c.args.out.now) (g.W.Out.facts c.write_parts.new.out) (g.N.Out.facts c.args.notes.now) (g.N.Out.facts c.write_parts.new.notes) c.write_parts.result
    (c.new-memory.ensures ∙ ap (λ (xs : List ℕ). out_facts (Some xs) 0) c.new.ensures.items)
    (ap (λ (told : Option (List ℕ)). out_facts told c.run_script-ended.new.out.failed) (sym c.into_inner-text.ensures ∙ ap (λ (xs : List ℕ). Some xs) (sym c.as_slice.ensures.value)))
    (inl (no_failure c.has_failed.result _ c.has_failed.ensures c.if-has_failed.false, c.write_parts.ensures))
    (rw c.as_bytes-statements.ensures.value at c.run_script-ended.ensures.crash)

pub returns-then-has_failed-clause-queries : goal.returns-then-has_failed-clause-queries
returns-then-has_failed-clause-queries g c =
    queried c.args.asked.table.now c.args.asked.statements.now _ _ _ _ c.run_script-ended.new.out.inner.items c.run_script-ended.new.out.failed c.run_script-ended.result _ _ _ _ Memory
    (c.new-memory.ensures ∙ ap (λ (xs : List ℕ). out_facts (Some xs) 0) c.new.ensures.items)
    refl
    (rw c.as_bytes-statements.ensures.value at c.run_script-ended.ensures.runs)
    (inr (c.has_failed.ensures.0 c.if-has_failed.true, (refl, refl, c.note.ensures)))

pub returns-then-has_failed-clause-crash : goal.returns-then-has_failed-clause-crash
returns-then-has_failed-clause-crash g c =
    queried_safely c.args.asked.table.now c.args.asked.statements.now (g.F.Files.facts c.args.files.now) _ _ _ _ c.run_script-ended.new.out.inner.items c.run_script-ended.new.out.failed c.run_script-ended.result
    (g.W.Out.facts c.args.out.now) (g.W.Out.facts c.args.out.now) (g.N.Out.facts c.args.notes.now) (g.N.Out.facts c.note.new.notes) Memory
    (c.new-memory.ensures ∙ ap (λ (xs : List ℕ). out_facts (Some xs) 0) c.new.ensures.items)
    refl
    (inr (c.has_failed.ensures.0 c.if-has_failed.true, (refl, refl, c.note.ensures)))
    (rw c.as_bytes-statements.ensures.value at c.run_script-ended.ensures.crash)

pub returns-clause-lasts : goal.returns-clause-lasts
returns-clause-lasts g c = λ done.
    queried_lasts c.args.asked.table.now c.args.asked.statements.now (g.F.Files.facts c.args.files.now) (g.F.Files.clock c.run_script-ended.new.files) _ _ c.as_slice.result.now c.run_script-ended.new.out.failed c.run_script-ended.result
    (g.W.Out.facts c.args.out.now) (g.W.Out.facts c.write_parts.new.out) (g.N.Out.facts c.args.notes.now) (g.N.Out.facts c.write_parts.new.notes) c.write_parts.result
    (c.new-memory.ensures ∙ ap (λ (xs : List ℕ). out_facts (Some xs) 0) c.new.ensures.items)
    (ap (λ (told : Option (List ℕ)). out_facts told c.run_script-ended.new.out.failed) (sym c.into_inner-text.ensures ∙ ap (λ (xs : List ℕ). Some xs) (sym c.as_slice.ensures.value)))
    (inl (no_failure c.has_failed.result _ c.has_failed.ensures c.if-has_failed.false, c.write_parts.ensures))
    (rw c.as_bytes-statements.ensures.value at c.run_script-ended.ensures.lasts) done

pub returns-then-has_failed-clause-lasts : goal.returns-then-has_failed-clause-lasts
returns-then-has_failed-clause-lasts g c = λ done. absurd (never_so Memory refl done)
