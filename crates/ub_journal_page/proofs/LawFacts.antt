-- The same pages spell no two journals.
use Rattle.std.proofs.Common.{◌<◌, All, ◌≢◌, ◌≡◌, ℕ, List, [], ◌∷◌, length, refl, sym, subst, arith, ◌∙◌}
use Rattle.std.proofs.lemmas.List.Elements.{All-cons, All-nil}
use Rattle.ub_journal.specs.Image.{Journal, AreAscending, numbers_of}
use Rattle.ub_journal.specs.declared.journal.Change.{Change}
use Rattle.ub_journal_page.specs.Laws.{JournalsAreReadBack, JournalsChangeOthers}
use Rattle.ub_journal_page.specs.inner.Parts.{AreBody, AreSoMany}
use Rattle.ub_journal_page.proofs.PageFacts.{few_changes}
use Rattle.ub_journal_page.proofs.ReadFacts.{IsSpelled, body_back, heads_agree, so_many, spelled}

same_of : (a b : Journal) → a.before ≡ b.before → a.head ≡ b.head → a.count ≡ b.count → a.changes ≡ b.changes → a ≡ b
same_of a b before head count changes = rw (before, head, count, changes) refl

fronts : {X : Type 0} (a b c p q s : X) (r t : List X) → a ∷ b ∷ c ∷ r ≡ p ∷ q ∷ s ∷ t → (a ≡ p) × (b ≡ q) × (c ≡ s)
fronts a b c p q s r t is =
    let first : a ≡ p = cc in
    let second : b ≡ q = cc in
    let third : c ≡ s = cc in
    (first, second, third)

both_spelled : (pages : List (List ℕ)) (a b : Journal) → IsSpelled pages a → IsSpelled pages b → a ≡ b
both_spelled pages a b s t =
    let three = fronts _ _ _ _ _ _ _ _ (sym s.are ∙ t.are) in
    let told = heads_agree s.version a.count (length a.changes) t.version b.count (length b.changes) s.known s.journal.few (few_changes a s.journal) t.known t.journal.few (few_changes b t.journal) three.0 in
    let many : AreSoMany (length a.changes) b.changes = subst (λ (n : ℕ). AreSoMany n b.changes) (sym told.2) (so_many b t.journal) in
    let body : AreBody s.version pages b.changes = subst (λ (v : ℕ). AreBody v pages b.changes) (sym told.0) t.body in
    same_of a b three.1 three.2 told.1 (body_back s.version pages (length a.changes) a.changes b.changes (so_many a s.journal) many s.body body)

pub read_back : JournalsAreReadBack
read_back pages a b is_a is_b = both_spelled pages a b (spelled pages a is_a) (spelled pages b is_b)

all_others : (above count : ℕ) (cs : List Change) → AreAscending above count (numbers_of cs) → All (λ change. (change.number ≢ 0) × (change.number < count)) cs
all_others above count [] are = All-nil (λ (change : Change). (change.number ≢ 0) × (change.number < count))
all_others above count (c ∷ cs) are = let up = are.0 in All-cons (λ (change : Change). (change.number ≢ 0) × (change.number < count)) c cs ((λ e. omega (arith, e)), are.1) (all_others c.number count cs are.2)

pub change_others : JournalsChangeOthers
change_others j is = all_others 0 j.count j.changes is.ascending
