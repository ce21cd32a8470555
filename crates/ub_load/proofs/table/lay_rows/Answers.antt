use Rattle.std.proofs.Common.{◌≡◌, ◌+◌, ◌∙◌, ℕ, List, ap, length, arith, subst}
use Rattle.std.proofs.lemmas.Result.{IfOk-from_err}
use Rattle.ub_load.proofs.ExitFacts.{new_refusal, refused_so}
use Rattle.ub_load.proofs.LaidFacts.{can_lay, in_order}
use Rattle.ub_load.proofs.table.lay_rows.Goals as goal
use Rattle.ub_load.specs.declared.fault.LoadFault.TheVariants.{Memory}
use Rattle.ub_load.specs.Loading.{IsNewFault}
use Rattle.ub_load.specs.LoadedTree.{loaded_regions}
use Rattle.ub_table.specs.Region.{RegionRows}
use Rattle.ub_tree.specs.Laid.{IsLaid}
use Rattle.ub_table.specs.declared.schema.Schema.{Schema}

pub grow-requires-clause-numbers : goal.grow-requires-clause-numbers
grow-requires-clause-numbers g c = in_order c.args.begun.schema c.args.rows.items c.requires

pub lay-requires : goal.lay-requires
lay-requires g c =
    let schema : Schema = c.args.begun.schema in
    let rows = c.args.rows.items in
    let dims : c.shape-shape.result ≡ schema.dims = c.shape-shape.ensures ∙ ap (λ (s : Schema). s.dims) c.schema.ensures in
    let pages : c.page_rows-page_rows.result ≡ schema.page_rows = c.page_rows-page_rows.ensures.page_rows ∙ ap (λ (s : Schema). s.page_rows) c.schema-2.ensures in
    can_lay schema rows c.requires _ _
    (c.in_ok-grown.ensures ∙ ap (λ (d : ℕ). loaded_regions d c.page_rows-page_rows.result rows) dims ∙ ap (λ (n : ℕ). loaded_regions schema.dims n rows) pages)
    (omega (arith, c.len.ensures, c.args.rows.ok.0))

pub returns-in_err-grown-clause-laid : goal.returns-in_err-grown-clause-laid
returns-in_err-grown-clause-laid g c = IfOk-from_err c.from_residual.result _ c.from_residual.ensures.0

pub returns-in_err-grown-clause-refused : goal.returns-in_err-grown-clause-refused
returns-in_err-grown-clause-refused g c = refused_so (IsNewFault c.args.begun.store) c.from_residual.result Memory c.from_residual.ensures.1 tt

pub returns-in-Ok-clause-laid : goal.returns-in-Ok-clause-laid
returns-in-Ok-clause-laid g c =
    let schema : Schema = c.args.begun.schema in
    let rows = c.args.rows.items in
    let dims : c.shape-shape.result ≡ schema.dims = c.shape-shape.ensures ∙ ap (λ (s : Schema). s.dims) c.schema.ensures in
    let pages : c.page_rows-page_rows.result ≡ schema.page_rows = c.page_rows-page_rows.ensures.page_rows ∙ ap (λ (s : Schema). s.page_rows) c.schema-2.ensures in
    let grown : c.in_ok-grown.grown ≡ loaded_regions schema.dims schema.page_rows rows =
    c.in_ok-grown.ensures ∙ ap (λ (d : ℕ). loaded_regions d c.page_rows-page_rows.result rows) dims ∙ ap (λ (n : ℕ). loaded_regions schema.dims n rows) pages in
    let next : c.len.result + 1 ≡ length rows + 1 = omega (arith, c.len.ensures, c.args.rows.ok.0) in
    subst (λ (regions : List RegionRows). IsLaid c.args.begun (length rows + 1) regions c.in-Ok.tree) grown
    (subst (λ (n : ℕ). IsLaid c.args.begun n c.in_ok-grown.grown c.in-Ok.tree) next c.in-Ok.ensures.laid)

pub returns-clause-refused : goal.returns-clause-refused
returns-clause-refused g c = new_refusal c.args.begun.store c.in-Err.refused.fault c.from.result c.from.ensures c.in-Err.ensures.refused
