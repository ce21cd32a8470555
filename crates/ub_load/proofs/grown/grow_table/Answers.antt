use Rattle.std.proofs.Common.{◌≡◌, ◌+◌, ◌∙◌, ℕ, ap, length, arith, refl}
use Rattle.std.proofs.lemmas.Result.{IfOk-from_err}
use Rattle.ub_load.proofs.ExitFacts.{refused_so}
use Rattle.ub_load.proofs.LaidFacts.{in_order}
use Rattle.ub_load.proofs.grown.grow_table.Goals as goal
use Rattle.ub_load.specs.LoadedTree.{loaded_regions}
use Rattle.ub_load.specs.declared.fault.LoadFault.{LoadFault}
use Rattle.ub_load.specs.declared.fault.LoadFault.TheVariants.{Memory}
use Rattle.ub_table.specs.declared.schema.Schema.{Schema}

pub grow-requires-clause-numbers : goal.grow-requires-clause-numbers
grow-requires-clause-numbers c = in_order c.args.schema c.args.rows.items c.requires

pub returns-in_err-grown-clause-grown : goal.returns-in_err-grown-clause-grown
returns-in_err-grown-clause-grown c = IfOk-from_err c.from_residual.result _ c.from_residual.ensures.0

pub returns-in_err-grown-clause-refused : goal.returns-in_err-grown-clause-refused
returns-in_err-grown-clause-refused c = refused_so (λ (fault : LoadFault). fault ≡ Memory) c.from_residual.result Memory c.from_residual.ensures.1 refl

pub returns-clause-grown : goal.returns-clause-grown
returns-clause-grown c =
    let schema : Schema = c.args.schema in
    let rows = c.args.rows.items in
    record {
      schema_is = refl;
      grown_are = c.in_ok-grown.ensures ∙ ap (λ (d : ℕ). loaded_regions d c.page_rows-page_rows.result rows) c.shape.ensures
          ∙ ap (λ (n : ℕ). loaded_regions schema.dims n rows) c.page_rows-page_rows.ensures.page_rows;
      next_is = omega (arith, c.len.ensures, c.args.rows.ok.0);
    }
