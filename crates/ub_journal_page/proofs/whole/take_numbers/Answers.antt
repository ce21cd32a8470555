use Rattle.std.proofs.Common.{◌≡◌, ◌+◌, ◌++◌, ◌∷◌, [], ℕ, List, sym, ap, refl, arith, ◌∙◌, append_assoc}
use Rattle.std.proofs.lemmas.List.{append-nil}
use Rattle.ub_journal_page.specs.Pages.{number_page}
use Rattle.ub_journal_page.specs.inner.Numbers.{numbers_on}
use Rattle.ub_journal_page.proofs.NumberFacts.{none_on}
use Rattle.ub_journal_page.proofs.WholeFacts.{length_on, not_spelled, on_more}
use Rattle.ub_journal_page.proofs.ExitFacts.{damaged_isnt_device, memory_isnt_damaged, memory_isnt_device, not_ok}
use Rattle.ub_journal_page.proofs.whole.take_numbers.Goals as goal

pub loop-i-init : goal.loop-i-init
loop-i-init c = record { taken = sym (append-nil _); spelled = none_on _ refl }

pub loop-i-preserved : goal.loop-i-preserved
loop-i-preserved c =
    let inv = c.loop-i.invariant in
    let on : List ℕ = numbers_on c.loop-i.i c.args.page.now in
    let more : on ++ c.number_in-x.result ∷ [] ≡ numbers_on (c.loop-i.i + 1) c.args.page.now =
    ap (λ (x : ℕ). on ++ x ∷ []) c.number_in-x.ensures ∙ sym (on_more c.loop-i.i c.args.page.now) in
    record {
      taken = c.in-Ok.ensures.items ∙ ap (λ (xs : List ℕ). xs ++ c.number_in-x.result ∷ []) inv.taken
          ∙ append_assoc c.args.numbers.now.items on (c.number_in-x.result ∷ []) ∙ ap (λ (xs : List ℕ). c.args.numbers.now.items ++ xs) more;
      spelled = c.put.ensures on (length_on c.loop-i.i c.args.page.now) inv.spelled ∙ ap number_page more;
    }

pub returns-then-not-is_same-clause-damaged : goal.returns-then-not-is_same-clause-damaged
returns-then-not-is_same-clause-damaged c told xs long small is =
    let inv = c.loop-i.invariant in
    let same = not_spelled c.args.page.now c.loop-i.spelled xs c.loop-i.i c.args.count inv.spelled (omega arith) long small is in
    let yes = c.is_same.ensures.1 same in
    let wrong = c.if-not-is_same.true in
    cc

pub number_in-x-requires : goal.number_in-x-requires
number_in-x-requires c = let less = c.loop-i-test.true in let most = c.requires in omega arith

pub put-requires : goal.put-requires
put-requires c = let less = c.loop-i-test.true in let most = c.requires in omega arith

pub returns-in-Err-clause-taken : goal.returns-in-Err-clause-taken
returns-in-Err-clause-taken c = tt

pub returns-in-Err-clause-read : goal.returns-in-Err-clause-read
returns-in-Err-clause-read c = tt

pub returns-in-Err-clause-damaged : goal.returns-in-Err-clause-damaged
returns-in-Err-clause-damaged c = λ told xs long small is. memory_isnt_damaged told

pub returns-in-Err-clause-device : goal.returns-in-Err-clause-device
returns-in-Err-clause-device c = memory_isnt_device

pub returns-then-not-is_same-clause-taken : goal.returns-then-not-is_same-clause-taken
returns-then-not-is_same-clause-taken c = tt

pub returns-then-not-is_same-clause-read : goal.returns-then-not-is_same-clause-read
returns-then-not-is_same-clause-read c = tt

pub returns-then-not-is_same-clause-device : goal.returns-then-not-is_same-clause-device
returns-then-not-is_same-clause-device c = damaged_isnt_device

pub returns-clause-taken : goal.returns-clause-taken
returns-clause-taken c =
    let past = c.loop-i-test.false in
    let end = c.loop-i.auto.i-end in
    let all : c.loop-i.i ≡ c.args.count = omega arith in
    c.loop-i.invariant.taken ∙ ap (λ (n : ℕ). c.args.numbers.now.items ++ numbers_on n c.args.page.now) all

pub returns-clause-read : goal.returns-clause-read
returns-clause-read c =
    let past = c.loop-i-test.false in
    let end = c.loop-i.auto.i-end in
    let all : c.loop-i.i ≡ c.args.count = omega arith in
    sym (c.is_same.ensures.0 c.if-not-is_same.false) ∙ c.loop-i.invariant.spelled ∙ ap (λ (n : ℕ). number_page (numbers_on n c.args.page.now)) all

pub returns-clause-damaged : goal.returns-clause-damaged
returns-clause-damaged c = λ told xs long small is. not_ok _ _ told

pub returns-clause-device : goal.returns-clause-device
returns-clause-device c = not_ok _ _
