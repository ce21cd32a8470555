-- Where the tests before it find nothing, what a test finds is the first misfit.
use Rattle.std.proofs.Common.{◌≡◌, ℕ, List, inr, length, map, slice_index_or, subst, sym, ◌∙◌, ap, IfErr, ◌⊎◌, IfOk}
use Rattle.std.specs.List.{All, enumerate_from}
use Rattle.ub_syntax.specs.declared.syntax.Value.{Value}
use Rattle.ub_lexer.specs.declared.token.Token.{Token}
use Rattle.ub_parser.specs.Refusals.{IsFirst, IsFirstInsertMisfit, IsUnfit, miscounted}
use Rattle.ub_parser.specs.Sense.{value_of}
use Rattle.ub_parser.specs.declared.fault.SqlFault.TheVariants.{Memory, ValueCount, ValueRange}
use Rattle.ub_parser.proofs.ValueFacts.{all_fit, first_count, first_table, no_count, no_misfit, no_table, refused_range, where_given}
use Rattle.ub_parser.proofs.values.values.Goals as goal

pub returns-then-is_unknown_table-clause-refused : goal.returns-then-is_unknown_table-clause-refused
returns-then-is_unknown_table-clause-refused c =
    inr (first_table c.args.source.now c.args.schema.now c.args.insertion.now (c.is_unknown_table.ensures.0 c.if-is_unknown_table.true))

pub returns-then-as_slice-columns-clause-refused : goal.returns-then-as_slice-columns-clause-refused
returns-then-as_slice-columns-clause-refused c =
    let i = c.args.insertion.now in
    let schema = c.args.schema.now in
    let at : c.miscounted.result ≡ miscounted schema i = c.miscounted.ensures ∙ ap (λ (n : ℕ). slice_index_or (map (λ (v : Value). v.first) i.values) n i.close) (ap (λ (names : List (List ℕ)). length names) c.columns-columns.ensures.columns) in
    inr (subst (λ (t : Token). IsFirstInsertMisfit c.args.source.now schema i (ValueCount t.from)) (sym at) (first_count c.args.source.now schema i
    (no_table c.args.source.now schema i c.is_unknown_table.result c.is_unknown_table.ensures c.if-is_unknown_table.false) (λ same. c.if-as_slice-columns.true cc)))

pub returns-clause-values : goal.returns-clause-values
returns-clause-values c =
    subst (λ (vs : List Value). IfOk c.fitting.result (λ values. values.items ≡ map (λ v. value_of c.args.source.now v.literal) vs)) c.as_slice-2.ensures c.fitting.ensures.values

pub returns-clause-count : goal.returns-clause-count
returns-clause-count c =
    let i = c.args.insertion.now in
    let same : length i.values ≡ length c.args.schema.now.columns = cc in
    where_given c.args.source.now c.args.schema.now i c.fitting.result _ _ (λ fit. same) c.fitting.ensures.fit

pub returns-clause-fit : goal.returns-clause-fit
returns-clause-fit c =
    let source = c.args.source.now in
    let schema = c.args.schema.now in
    let i = c.args.insertion.now in
    let same : length i.values ≡ length schema.columns = cc in
    where_given source schema i c.fitting.result _ _
    (λ fit. all_fit source schema i same (subst (λ (vs : List Value). All (λ v. ¬ IsUnfit source schema v) (enumerate_from 0 vs)) c.as_slice-2.ensures fit)) c.fitting.ensures.fit

pub returns-clause-fine : goal.returns-clause-fine
returns-clause-fine c =
    let source = c.args.source.now in
    let schema = c.args.schema.now in
    let i = c.args.insertion.now in
    let same : length i.values ≡ length schema.columns = cc in
    let table = no_table source schema i c.is_unknown_table.result c.is_unknown_table.ensures c.if-is_unknown_table.false in
    where_given source schema i c.fitting.result _ _
    (λ fit. no_misfit source schema i table (no_count source schema i same)
    (subst (λ (vs : List Value). All (λ v. ¬ IsUnfit source schema v) (enumerate_from 0 vs)) c.as_slice-2.ensures fit)) c.fitting.ensures.fit

pub returns-clause-refused : goal.returns-clause-refused
returns-clause-refused c =
    let source = c.args.source.now in
    let schema = c.args.schema.now in
    let i = c.args.insertion.now in
    let same : length i.values ≡ length schema.columns = cc in
    let table = no_table source schema i c.is_unknown_table.result c.is_unknown_table.ensures c.if-is_unknown_table.false in
    refused_range source schema i c.fitting.result table (no_count source schema i same)
    (subst (λ (vs : List Value). IfErr c.fitting.result (λ fault. (fault ≡ Memory) ⊎ ((v : ℕ × Value) × IsFirst (λ x. IsUnfit source schema x) (enumerate_from 0 vs) v × (fault ≡ ValueRange v.1.first.from)))) c.as_slice-2.ensures c.fitting.ensures.refused)
