use Rattle.std.proofs.Common.{◌≡◌, ◌∙◌, ap, length, replicate, rules, sym, take, true, ◌++◌, ◌-◌, ℕ}
use Rattle.std.specs.Prelude.{is_ok, vec_len}
use Rattle.acceptance_page.proofs.FakeFacts.{with_is}
use Rattle.acceptance_page.proofs.file_fake.resize.Goals as goal

pub returns-clause-set : goal.returns-clause-set
returns-clause-set c = λ t.
    let ok : is_ok c.resize.result ≡ true = sym c.is_ok.ensures.value ∙ t in
    let same : vec_len c.args.bytes.now ≡ length c.args.bytes.now.items = search rules in
    rw ok at c.resize.ensures.items
    ∙ ap (λ k. take c.args.length c.args.bytes.now.items ++ replicate {A = ℕ} (c.args.length - k) 0) same
    ∙ with_is c.args.length c.args.bytes.now.items
