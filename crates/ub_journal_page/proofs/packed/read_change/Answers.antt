use Rattle.std.proofs.Common.{rules, ◌≡◌, ◌≢◌, ◌≤◌, ◌<◌, ◌+◌, ◌-◌, ◌++◌, ℕ, List, length, take, drop, replicate, get_or, ap, sym, refl, subst, arith, ◌∙◌}
use Rattle.std.specs.Result.{IsErrOf}
use Rattle.std.proofs.lemmas.List.{length-append, length-drop, length-take}
use Rattle.ub_journal.specs.declared.fault.JournalFault.TheVariants.{Damaged}
use Rattle.ub_store.specs.Facts.{StoreFacts, IsHonest}
use Rattle.ub_journal_page.specs.Pages.{change_bytes, held_of}
use Rattle.ub_journal_page.specs.inner.Parts.{stream, IsRead}
use Rattle.ub_journal_page.proofs.HeldFacts.{held_few}
use Rattle.ub_journal_page.proofs.PackedFacts.{by_front, length_change}
use Rattle.ub_journal_page.proofs.StreamFacts.{change_read, front_agrees, last_agrees, page_agrees, page_of_bytes}
use Rattle.ub_journal_page.proofs.ExitFacts.{count_on, looks_damaged, looks_ok, read_on, refused, not_ok}
use Rattle.ub_journal_page.proofs.packed.read_change.Goals as goal

pub returns-in_err-number-clause-damaged : goal.returns-in_err-number-clause-damaged
returns-in_err-number-clause-damaged g c told honest d rest sound is =
    let wrong : IsErrOf c.read_front.result Damaged → ⊥ =
    λ t. let few = held_few d.page in let full = sound.full in
    c.read_front.ensures.damaged t honest d.number (held_of d.page) (take (held_of d.page) d.page ++ rest) sound.small (omega arith) (is ∙ by_front d rest) in
    search (rules, wrong)

pub returns-in_err-read_held-clause-damaged : goal.returns-in_err-read_held-clause-damaged
returns-in_err-read_held-clause-damaged g c told honest d rest sound is =
    let old = g.S.PageStore.facts c.args.store.now in
    let same : g.S.PageStore.facts c.read_front.new.store ≡ old = c.in_ok-number.ensures.effect.same in
    let bytes : List ℕ = stream old.pages in
    let number : ℕ = c.in_ok-number.number in
    let held : ℕ = c.in_ok-number.held in
    let few = c.in_ok-number.ensures.few in
    let agree = front_agrees bytes c.args.cursor.now.place number held d rest few.0 few.1 sound (c.in_ok-number.ensures.front honest) is in
    let at = c.in_ok-number.ensures.place in
    let size = ap length is in
    let long = length_change d sound.full in
    let wrong : IsErrOf c.read_held.result Damaged → ⊥ =
    λ t. let short : length bytes < c.read_front.new.cursor.place + held =
    subst (λ (f : StoreFacts). length (stream f.pages) < c.read_front.new.cursor.place + held) same (c.read_held.ensures.damaged t (subst IsHonest (sym same) honest)) in
    omega (arith, short, size, at, agree.1, long.0, length-drop c.args.cursor.now.place bytes, length-append (change_bytes d) rest) in
    search (rules, wrong)

pub returns-then-ends_in_zero-clause-damaged : goal.returns-then-ends_in_zero-clause-damaged
returns-then-ends_in_zero-clause-damaged g c told honest d rest sound is =
    let old = g.S.PageStore.facts c.args.store.now in
    let same : g.S.PageStore.facts c.read_front.new.store ≡ old = c.in_ok-number.ensures.effect.same in
    let bytes : List ℕ = stream old.pages in
    let number : ℕ = c.in_ok-number.number in
    let held : ℕ = c.in_ok-number.held in
    let few = c.in_ok-number.ensures.few in
    let agree = front_agrees bytes c.args.cursor.now.place number held d rest few.0 few.1 sound (c.in_ok-number.ensures.front honest) is in
    let part : List ℕ = take held (drop (c.args.cursor.now.place + 8) bytes) in
    let read : c.read_held.new.page ≡ part ++ replicate (4096 - held) 0 =
    subst (λ (n : ℕ). c.read_held.new.page ≡ take held (drop n bytes) ++ replicate (4096 - held) 0) c.in_ok-number.ensures.place
    (subst (λ (f : StoreFacts). c.read_held.new.page ≡ take held (drop c.read_front.new.cursor.place (stream f.pages)) ++ replicate (4096 - held) 0) same
    (c.in_ok-read_held.ensures.page (subst IsHonest (sym same) honest))) in
    let this = page_agrees d c.read_held.new.page part rest (drop (c.args.cursor.now.place + 8) bytes) held sound agree.1 read refl agree.2 in
    let ends = c.ends_in_zero.ensures.0 c.if-ends_in_zero.true in
    last_agrees d c.read_held.new.page held this agree.1 ends.0 ends.1

pub returns-clause-change : goal.returns-clause-change
returns-clause-change g c honest =
    let old = g.S.PageStore.facts c.args.store.now in
    let same : g.S.PageStore.facts c.read_front.new.store ≡ old = c.in_ok-number.ensures.effect.same in
    let bytes : List ℕ = stream old.pages in
    let number : ℕ = c.in_ok-number.number in
    let held : ℕ = c.in_ok-number.held in
    let few = c.in_ok-number.ensures.few in
    let honest_now = subst IsHonest (sym same) honest in
    let part : List ℕ = take held (drop (c.args.cursor.now.place + 8) bytes) in
    let read : c.read_held.new.page ≡ part ++ replicate (4096 - held) 0 =
    subst (λ (n : ℕ). c.read_held.new.page ≡ take held (drop n bytes) ++ replicate (4096 - held) 0) c.in_ok-number.ensures.place
    (subst (λ (f : StoreFacts). c.read_held.new.page ≡ take held (drop c.read_front.new.cursor.place (stream f.pages)) ++ replicate (4096 - held) 0) same
    (c.in_ok-read_held.ensures.page honest_now)) in
    let there : c.read_held.new.cursor.place ≤ length bytes =
    subst (λ (f : StoreFacts). c.read_held.new.cursor.place ≤ length (stream f.pages)) same (c.in_ok-read_held.ensures.read honest_now).there in
    let at = c.in_ok-number.ensures.place in
    let next : c.read_held.new.cursor.place ≡ c.args.cursor.now.place + 8 + held = c.in_ok-read_held.ensures.place ∙ ap (λ (n : ℕ). n + held) at in
    let long : length part ≡ held = omega (arith, there, next, length-take held (drop (c.args.cursor.now.place + 8) bytes), length-drop (c.args.cursor.now.place + 8) bytes) in
    let last : 0 < held → get_or c.read_held.new.page (held - 1) 0 ≢ 0 =
    λ some e. let yes = c.ends_in_zero.ensures.1 (some, e) in let no_zero = c.if-ends_in_zero.false in absurd (cc) in
    let is = page_of_bytes held c.read_held.new.page part read long few.1 last in
    change_read bytes c.args.cursor.now.place number held c.read_held.new.cursor.place c.read_held.new.page part (c.in_ok-number.ensures.front honest) refl is.0 is.1 next

pub returns-in_err-number-clause-effect : goal.returns-in_err-number-clause-effect
returns-in_err-number-clause-effect g c = refused c.from_residual.result _ _ _ _ refl c.from_residual.ensures.1 c.in_err-number.ensures.effect

pub read_held-requires-clause-count : goal.read_held-requires-clause-count
read_held-requires-clause-count g c = count_on (g.S.PageStore.facts c.args.store.now) (g.S.PageStore.facts c.read_front.new.store) c.in_ok-number.ensures.effect.same ∙ c.requires.count

pub read_held-requires-clause-three : goal.read_held-requires-clause-three
read_held-requires-clause-three g c = c.requires.three

pub read_held-requires-clause-held : goal.read_held-requires-clause-held
read_held-requires-clause-held g c = c.in_ok-number.ensures.few.1

pub read_held-requires-clause-blank : goal.read_held-requires-clause-blank
read_held-requires-clause-blank g c = refl

pub read_held-requires-clause-few : goal.read_held-requires-clause-few
read_held-requires-clause-few g c = let few = c.requires.few in let held = c.in_ok-number.ensures.few.1 in let at = c.in_ok-number.ensures.place in omega arith

pub read_held-requires-clause-read : goal.read_held-requires-clause-read
read_held-requires-clause-read g c = read_on (g.S.PageStore.facts c.args.store.now) (g.S.PageStore.facts c.read_front.new.store) c.read_front.new.cursor.place c.read_front.new.cursor.page c.in_ok-number.ensures.effect.same c.in_ok-number.ensures.read

pub returns-in_err-read_held-clause-effect : goal.returns-in_err-read_held-clause-effect
returns-in_err-read_held-clause-effect g c = refused c.from_residual-in_err-read_held.result _ _ _ _ c.in_ok-number.ensures.effect.same c.from_residual-in_err-read_held.ensures.1 c.in_err-read_held.ensures.effect

pub ends_in_zero-requires : goal.ends_in_zero-requires
ends_in_zero-requires g c = c.in_ok-number.ensures.few.1

pub returns-then-ends_in_zero-clause-sound : goal.returns-then-ends_in_zero-clause-sound
returns-then-ends_in_zero-clause-sound g c = tt

pub returns-then-ends_in_zero-clause-few : goal.returns-then-ends_in_zero-clause-few
returns-then-ends_in_zero-clause-few g c = tt

pub returns-then-ends_in_zero-clause-read : goal.returns-then-ends_in_zero-clause-read
returns-then-ends_in_zero-clause-read g c = tt

pub returns-then-ends_in_zero-clause-change : goal.returns-then-ends_in_zero-clause-change
returns-then-ends_in_zero-clause-change g c = tt

pub returns-then-ends_in_zero-clause-effect : goal.returns-then-ends_in_zero-clause-effect
returns-then-ends_in_zero-clause-effect g c = looks_damaged _ _ (c.in_ok-read_held.ensures.effect.same ∙ c.in_ok-number.ensures.effect.same)

pub returns-clause-sound : goal.returns-clause-sound
returns-clause-sound g c = record { small = c.in_ok-number.ensures.few.0; full = c.read_held.array_long }

pub returns-clause-few : goal.returns-clause-few
returns-clause-few g c = let held = c.in_ok-number.ensures.few.1 in let at = c.in_ok-number.ensures.place in let behind = c.in_ok-read_held.ensures.place in omega arith

pub returns-clause-read : goal.returns-clause-read
returns-clause-read g c =
    let same : g.S.PageStore.facts c.read_front.new.store ≡ (g.S.PageStore.facts c.args.store.now) = c.in_ok-number.ensures.effect.same in
    subst (λ (f : StoreFacts). IsHonest f → IsRead f.pages c.read_held.new.cursor.place c.read_held.new.cursor.page) same c.in_ok-read_held.ensures.read

pub returns-clause-damaged : goal.returns-clause-damaged
returns-clause-damaged g c = λ told honest d rest sound is. not_ok _ _ told

pub returns-clause-effect : goal.returns-clause-effect
returns-clause-effect g c = looks_ok _ _ _ (c.in_ok-read_held.ensures.effect.same ∙ c.in_ok-number.ensures.effect.same)
