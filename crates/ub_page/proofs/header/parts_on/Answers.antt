use Rattle.std.proofs.Common.{◌≡◌, ◌+◌, ◌∙◌, true, ap, sym, subst, refl, length}
use Rattle.ub_page.proofs.HeaderFacts.{refused_by, same_numbers, length-names_on}
use Rattle.ub_page.specs.Header.{AreInRangeOf, HasNames, IsFaultOf, names_on}
use Rattle.ub_page.specs.declared.header.Numbers.{Numbers}
use Rattle.ub_page.proofs.header.parts_on.Goals as goal
use Rattle.ub_page.proofs.header.parts_on.Goals.{then-u32_at-ne-KIND-via-then-u32_at-ne-KIND, then-u32_at-ne-KIND-via-else-u32_at-ne-KIND+then-u8_at-version}

pub returns-clause-numbers : goal.returns-clause-numbers
returns-clause-numbers c =
    let range = c.are_in_range.ensures.0 c.if-not-are_in_range.false in
    let names = c.in_ok-schema.ensures.names in
    let numbers = c.in_ok-schema.ensures.numbers in
    let same = same_numbers c.args.version c.read_numbers-numbers.result c.in_ok-schema.schema numbers.0 (ap length names.1 ∙ length-names_on 65 _ c.args.page.now) numbers.1 numbers.2 c.if-numbers-eq1.false range in
    (same ∙ c.read_numbers-numbers.ensures, rw c.read_numbers-numbers.ensures at range)

pub returns-then-u32_at-ne-KIND-clause-refused : goal.returns-then-u32_at-ne-KIND-clause-refused
returns-then-u32_at-ne-KIND-clause-refused c = λ of. elim c.then-u32_at-ne-KIND.branch [
  | then-u32_at-ne-KIND-via-then-u32_at-ne-KIND w ↦ w.if-u32_at-ne-KIND.true (c.u32_at.ensures ∙ of.0)
  | then-u32_at-ne-KIND-via-else-u32_at-ne-KIND+then-u8_at-version w ↦ w.if-u8_at-version.true (w.u8_at.ensures ∙ of.1)
]

pub returns-then-numbers-eq1-clause-refused : goal.returns-then-numbers-eq1-clause-refused
returns-then-numbers-eq1-clause-refused c = (
  (sym c.u32_at.ensures ∙ c.if-u32_at-ne-KIND.false, sym c.u8_at.ensures ∙ c.if-u8_at-version.false),
  ap (λ (n : Numbers). n.state) (sym c.read_numbers-numbers.ensures) ∙ c.if-numbers-eq1.true,
)

pub returns-then-not-are_in_range-clause-refused : goal.returns-then-not-are_in_range-clause-refused
returns-then-not-are_in_range-clause-refused c = (
  (sym c.u32_at.ensures ∙ c.if-u32_at-ne-KIND.false, sym c.u8_at.ensures ∙ c.if-u8_at-version.false),
  λ one. c.if-numbers-eq1.false (ap (λ (n : Numbers). n.state) c.read_numbers-numbers.ensures ∙ one),
  λ range.
      let yes : c.are_in_range.result ≡ true = c.are_in_range.ensures.1
      (subst (λ (n : Numbers). AreInRangeOf c.args.version n) (sym c.read_numbers-numbers.ensures) range) in
      let no = c.if-not-are_in_range.true in cc,
)

pub returns-in_err-schema-clause-refused : goal.returns-in_err-schema-clause-refused
returns-in_err-schema-clause-refused c =
    let refused = c.in_err-schema.ensures.refused in
    let is = c.read_numbers-numbers.ensures in
    let range = subst (λ (n : Numbers). AreInRangeOf c.args.version n) is (c.are_in_range.ensures.0 c.if-not-are_in_range.false) in
    refused_by (IsFaultOf c.args.version c.args.page.now) c.from_residual.result c.in_err-schema.field-0.0 c.from_residual.ensures.1
    (rw refused.0 (
      (sym c.u32_at.ensures ∙ c.if-u32_at-ne-KIND.false, sym c.u8_at.ensures ∙ c.if-u8_at-version.false),
      λ one. c.if-numbers-eq1.false (ap (λ (n : Numbers). n.state) is ∙ one),
      range,
      λ has. refused.1 (subst (λ (n : Numbers). HasNames (n.dims + n.measures) c.args.page.now) (sym is) has),
    ))

pub returns-clause-names : goal.returns-clause-names
returns-clause-names c =
    let names = c.in_ok-schema.ensures.names in
    (names.0, names.1 ∙ ap (λ (n : Numbers). names_on 65 (n.dims + n.measures) c.args.page.now) c.read_numbers-numbers.ensures)

pub returns-clause-clean : goal.returns-clause-clean
returns-clause-clean c = (
  (sym c.u32_at.ensures ∙ c.if-u32_at-ne-KIND.false, sym c.u8_at.ensures ∙ c.if-u8_at-version.false),
  refl,
  subst (λ (n : Numbers). HasNames (n.dims + n.measures) c.args.page.now) c.read_numbers-numbers.ensures c.in_ok-schema.ensures.valid,
)

pub read_schema-requires : goal.read_schema-requires
read_schema-requires c = (c.are_in_range.ensures.0 c.if-not-are_in_range.false).counts
