use Rattle.std.proofs.Common.{◌≡◌, ◌+◌, ◌∙◌, ℕ, List, ap, subst, sym, arith, length}
use Rattle.std.proofs.lemmas.Result.{IfErr-weaker, IfOk-weaker}
use Rattle.ub_page.proofs.HeaderFacts.{made_schema, refused_by, refused_schema, length-names_on}
use Rattle.ub_page.specs.Header.{AreNamesOn, HasNames, names_on}
use Rattle.ub_page.proofs.header.read_schema.Goals as goal
use Rattle.ub_table.specs.Schema.{AreDistinct, AreNumbers}
use Rattle.ub_table.specs.declared.fault.PageFault.TheVariants.{BadName}
use Rattle.ub_table.specs.declared.fault.PageFault.{PageFault}

pub returns-clause-refused : goal.returns-clause-refused
returns-clause-refused c =
    let columns = c.as_slice.ensures.names ∙ c.in_ok-columns.ensures.names.0 in
    let long = ap length columns ∙ length-names_on 65 c.from.result c.args.page.now ∙ c.from.ensures in
    let counts : AreNumbers (length c.as_slice.result.now) c.from-2.result c.from-3.result c.from-4.result = rw (long, c.from-2.ensures, c.from-3.ensures, c.from-4.ensures) c.requires in
    IfErr-weaker c.new.result _ _ (λ e h. (h.0, λ all. h.1 (rw (columns, c.from.ensures) all.2)))
    (refused_schema c.new.result _ _ c.new.ensures.valid c.new.ensures.bad_name counts)

pub returns-clause-names : goal.returns-clause-names
returns-clause-names c =
    let columns = c.as_slice.ensures.names ∙ c.in_ok-columns.ensures.names.0 ∙ ap (λ (n : ℕ). names_on 65 n c.args.page.now) c.from.ensures in
    IfOk-weaker c.new.result _ _ (λ s h. (h.0 ∙ c.in_ok-name.ensures.name.0, h.1 ∙ columns)) c.new.ensures.parts

pub returns-clause-numbers : goal.returns-clause-numbers
returns-clause-numbers c = IfOk-weaker c.new.result _ _ (λ s h. (h.2 ∙ c.from-2.ensures, h.3 ∙ c.from-3.ensures, h.4 ∙ c.from-4.ensures)) c.new.ensures.parts

pub returns-clause-valid : goal.returns-clause-valid
returns-clause-valid c =
    let columns = c.as_slice.ensures.names ∙ c.in_ok-columns.ensures.names.0 ∙ ap (λ (n : ℕ). names_on 65 n c.args.page.now) c.from.ensures in
    let names = subst (λ (n : ℕ). AreNamesOn 65 n c.args.page.now) c.from.ensures c.in_ok-columns.ensures.names.1 in
    IfOk-weaker c.new.result _ _ (λ s distinct. (c.in_ok-name.ensures.name.1, names, subst (λ (names : List (List ℕ)). AreDistinct names) columns distinct))
    (made_schema c.new.result _ _ c.new.ensures.valid)

pub returns-in_err-name-clause-refused : goal.returns-in_err-name-clause-refused
returns-in_err-name-clause-refused c =
    refused_by (λ (e : PageFault). (e ≡ BadName) × (¬ (HasNames (c.args.numbers.now.dims + c.args.numbers.now.measures) c.args.page.now)))
    c.from_residual.result c.in_err-name.field-0.0 c.from_residual.ensures.1
    (c.in_err-name.ensures.refused.0, λ has. c.in_err-name.ensures.refused.1 has.0)

pub returns-in_err-columns-clause-refused : goal.returns-in_err-columns-clause-refused
returns-in_err-columns-clause-refused c =
    let refused = c.in_err-columns.ensures.refused in
    refused_by (λ (e : PageFault). (e ≡ BadName) × (¬ (HasNames (c.args.numbers.now.dims + c.args.numbers.now.measures) c.args.page.now)))
    c.from_residual-in_err-columns.result c.in_err-columns.field-0.0
    c.from_residual-in_err-columns.ensures.1 (refused.0, λ has. refused.1 (subst (λ (n : ℕ). AreNamesOn 65 n c.args.page.now) (sym c.from.ensures) has.1))

pub read_columns-requires-clause-some : goal.read_columns-requires-clause-some
read_columns-requires-clause-some c = let is = c.from.ensures in let some = c.requires.counts.some_dims in omega arith

pub read_columns-requires-clause-few : goal.read_columns-requires-clause-few
read_columns-requires-clause-few c = let is = c.from.ensures in let few = c.requires.counts.few_dims in let more = c.requires.counts.few_measures in omega arith
