use Rattle.std.proofs.Common.{◌∙◌, ap, rules, Err}
use Rattle.ub_load.specs.LoadedTable.{axes_with}
use Rattle.ub_load.specs.declared.fault.LoadFault.{LoadFault}
use Rattle.ub_script.specs.declared.fault.RunFault.{RunFault}
use Rattle.ub_script.specs.declared.fault.RunFault.TheVariants.{Load}
use Rattle.ub_shell.specs.Ending.{trial}
use Rattle.ub_shell.proofs.EndFacts.{broken_ends, full_ends, memory_ends, refused_ends, run_ends}
use Rattle.ub_shell.proofs.trial.tell_try.Goals as goal

pub returns-in-Ok : goal.returns-in-Ok
returns-in-Ok g c =
    rw c.summary_status.ensures (run_ends (trial c.args.text.now (axes_with c.args.dims c.args.signed) c.args.page_rows c.args.name.now c.args.script.now) _ _ c.in-Ok.summary c.in-Ok.ensures.done)

pub returns-in-Err-Memory : goal.returns-in-Err-Memory
returns-in-Err-Memory g c =
    memory_ends (trial c.args.text.now (axes_with c.args.dims c.args.signed) c.args.page_rows c.args.name.now c.args.script.now) _ _ _ _
    (c.in-Err-Memory.ensures.memory (search rules)) c.tell_memory.ensures

pub returns-in-Err-Write : goal.returns-in-Err-Write
returns-in-Err-Write g c =
    broken_ends (trial c.args.text.now (axes_with c.args.dims c.args.signed) c.args.page_rows c.args.name.now c.args.script.now) _ _
    (c.in-Err-Write.ensures.write (search rules))

pub returns-in-Err-Load : goal.returns-in-Err-Load
returns-in-Err-Load g c =
    refused_ends (trial c.args.text.now (axes_with c.args.dims c.args.signed) c.args.page_rows c.args.name.now c.args.script.now) _ _ _ c.in-Err-Load.fault _
    (c.try_text.ensures.load c.in-Err-Load.fault (c.in-Err-Load.is ∙ ap (λ (f : RunFault). Err f) c.in-Err-Load.field-0-is))
    (λ of_tree same. c.try_text.ensures.of_tree of_tree (c.in-Err-Load.is ∙ ap (λ (f : RunFault). Err f) (c.in-Err-Load.field-0-is ∙ ap (λ (f : LoadFault). Load f) same)))
    c.tell_load_fault.ensures

pub returns-in-Err-Tree : goal.returns-in-Err-Tree
returns-in-Err-Tree g c =
    let ended = c.try_text.ensures.tree c.in-Err-Tree.fault (c.in-Err-Tree.is ∙ ap (λ (f : RunFault). Err f) c.in-Err-Tree.field-0-is) in
    full_ends (trial c.args.text.now (axes_with c.args.dims c.args.signed) c.args.page_rows c.args.name.now c.args.script.now) _ _ _ c.in-Err-Tree.fault _
    ended.0 ended.1 c.tell_tree_fault.ensures
