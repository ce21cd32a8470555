use Rattle.std.proofs.Common.{inl}
use Rattle.std.proofs.lemmas.Result.{IfOk-weaker}
use Rattle.ub_journal_page.proofs.ExitFacts.{body_packed, body_whole, packed_body, packed_there, whole_there}
use Rattle.ub_journal_page.proofs.reading.read_changes.Goals as goal

pub read_whole-requires-clause-there : goal.read_whole-requires-clause-there
read_whole-requires-clause-there g c = whole_there _ _ _ c.requires.there c.if-head-eq-WHOLE.true

pub read_packed-requires-clause-there : goal.read_packed-requires-clause-there
read_packed-requires-clause-there g c = packed_there _ _ _ c.requires.there c.if-head-eq-WHOLE.false

pub returns-then-head-eq-WHOLE-clause-read : goal.returns-then-head-eq-WHOLE-clause-read
returns-then-head-eq-WHOLE-clause-read g c = IfOk-weaker c.read_whole.result _ _ (λ cs are honest. inl (c.if-head-eq-WHOLE.true, are honest)) c.read_whole.ensures.read

pub returns-then-head-eq-WHOLE-clause-exact : goal.returns-then-head-eq-WHOLE-clause-exact
returns-then-head-eq-WHOLE-clause-exact g c =
    IfOk-weaker c.read_whole.result _ _ (λ cs same honest ds many body. same honest ds many (body_whole c.args.head.version (g.S.PageStore.facts c.args.store.now).pages ds c.if-head-eq-WHOLE.true body)) c.read_whole.ensures.exact

pub returns-then-head-eq-WHOLE-clause-damaged : goal.returns-then-head-eq-WHOLE-clause-damaged
returns-then-head-eq-WHOLE-clause-damaged g c = λ told honest ds many body. c.read_whole.ensures.damaged told honest ds many (body_whole c.args.head.version (g.S.PageStore.facts c.args.store.now).pages ds c.if-head-eq-WHOLE.true body)

pub returns-clause-read : goal.returns-clause-read
returns-clause-read g c = IfOk-weaker c.read_packed.result _ _ (λ cs are honest. packed_body _ _ _ c.requires.there c.if-head-eq-WHOLE.false (g.S.PageStore.facts c.args.store.now).pages cs.items (are honest)) c.read_packed.ensures.read

pub returns-clause-exact : goal.returns-clause-exact
returns-clause-exact g c =
    IfOk-weaker c.read_packed.result _ _ (λ cs same honest ds many body. same honest ds many (body_packed c.args.head.version (g.S.PageStore.facts c.args.store.now).pages ds c.if-head-eq-WHOLE.false body)) c.read_packed.ensures.exact

pub returns-clause-damaged : goal.returns-clause-damaged
returns-clause-damaged g c = λ told honest ds many body. c.read_packed.ensures.damaged told honest ds many (body_packed c.args.head.version (g.S.PageStore.facts c.args.store.now).pages ds c.if-head-eq-WHOLE.false body)
