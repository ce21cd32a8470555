-- The laws of what words ask for, as specs/Laws.antt states them.
use Rattle.std.proofs.Common.{◌≡◌, ◌∙◌, ℕ, List, [], ◌∷◌, Some, inl, inr, refl, sym, codes, subst}
use Rattle.std.specs.Prelude.{false}
use Rattle.std.specs.Str.{bytes_eq}
use Rattle.clap.specs.Words.{IsAmong, Row, fault_of}
use Rattle.clap.specs.declared.error.kind.ErrorKind.{ErrorKind}
use Rattle.clap.specs.declared.error.kind.ErrorKind.TheVariants as kind
use Rattle.ub_words.specs.CommandLine.{AsksAppend, AsksHelp, AsksLoad, AsksNext, AsksNothing, AsksQuery, AsksRun, AsksTable, AsksTry, AsksUpgrade, IsAppendGiven, IsDataGiven, IsLoadGiven, IsNextGiven, IsQueryGiven, IsRunGiven, IsTableGiven, IsTaken, IsTryGiven, IsUpgradeGiven, table_name, ubq_app}
use Rattle.ub_words.specs.Asked.{IsAskedBy}
use Rattle.ub_words.specs.Laws.{HelpIsHelp, OneThingIsAsked}
use Rattle.ub_words.specs.declared.given.TableCommand.{TableCommand}
use Rattle.ub_words.specs.declared.words.Asked.{Asked}
use Rattle.ub_words.specs.declared.words.Asked.TheVariants.{Try, Load, Run, Query, Append, Upgrade, Table, Next, Help, Wrong}
use Rattle.ub_words.proofs.AskFacts.{apart, differ, one_text, same_found}
use Rattle.ub_words.proofs.GivenFacts.{number_only}
pub use Rattle.ub_words.proofs.AskFacts.{no_help_taken}

-- what was given for the file DATA is one thing
one_data : (rows : List Row) (t n u m : List ℕ) (d p s e q v : ℕ) → IsDataGiven rows t n d p s → IsDataGiven rows u m e q v
    → (t ≡ u) × (n ≡ m) × (d ≡ e) × (p ≡ q) × (s ≡ v)
one_data rows t n u m d p s e q v a b = (
  one_text _ t u a.path_is b.path_is,
  one_text _ n m a.name_is b.name_is,
  number_only _ _ _ _ _ _ _ _ a.dims_are b.dims_are,
  number_only _ _ _ _ _ _ _ _ a.page_rows_are b.page_rows_are,
  number_only _ _ _ _ _ _ _ _ a.signed_is b.signed_is,
)

one_next : (rows : List Row) (l h z m i y : List ℕ) → IsNextGiven rows l h z → IsNextGiven rows m i y → (l ≡ m) × (h ≡ i) × (z ≡ y)
one_next rows l h z m i y a b = (one_text _ l m a.lo_is b.lo_is, one_text _ h i a.hi_is b.hi_is, one_text _ z y a.z_is b.z_is)

same_try : (words : List (List ℕ)) (t s n u v m : List ℕ) (d p x e q y : ℕ) → AsksTry words t s n d p x → AsksTry words u v m e q y
    → ((t ≡ u) × (n ≡ m) × (d ≡ e) × (p ≡ q) × (x ≡ y)) × (s ≡ v)
same_try words t s n u v m d p x e q y a b =
    let rows = (same_found _ _ a.0 b.0 (sym a.1.1 ∙ b.1.1)).1 in
    let given = subst (λ (r : List Row). IsTryGiven r t s n d p x) rows a.2 in
    (one_data b.0 t n u m d p x e q y given.data_is b.2.data_is, one_text _ s v given.script_is b.2.script_is)

same_load : (words : List (List ℕ)) (t s n u v m : List ℕ) (d p x e q y : ℕ) → AsksLoad words t s n d p x → AsksLoad words u v m e q y
    → ((t ≡ u) × (n ≡ m) × (d ≡ e) × (p ≡ q) × (x ≡ y)) × (s ≡ v)
same_load words t s n u v m d p x e q y a b =
    let rows = (same_found _ _ a.0 b.0 (sym a.1.1 ∙ b.1.1)).1 in
    let given = subst (λ (r : List Row). IsLoadGiven r t s n d p x) rows a.2 in
    (one_data b.0 t n u m d p x e q y given.data_is b.2.data_is, one_text _ s v given.table_is b.2.table_is)

same_run : (words : List (List ℕ)) (t s u v : List ℕ) → AsksRun words t s → AsksRun words u v → (t ≡ u) × (s ≡ v)
same_run words t s u v a b =
    let rows = (same_found _ _ a.0 b.0 (sym a.1.1 ∙ b.1.1)).1 in
    let given = subst (λ (r : List Row). IsRunGiven r t s) rows a.2 in
    (one_text _ t u given.table_is b.2.table_is, one_text _ s v given.script_is b.2.script_is)

same_query : (words : List (List ℕ)) (t s u v : List ℕ) → AsksQuery words t s → AsksQuery words u v → (t ≡ u) × (s ≡ v)
same_query words t s u v a b =
    let rows = (same_found _ _ a.0 b.0 (sym a.1.1 ∙ b.1.1)).1 in
    let given = subst (λ (r : List Row). IsQueryGiven r t s) rows a.2 in
    (one_text _ t u given.table_is b.2.table_is, one_text _ s v given.statements_are b.2.statements_are)

same_append : (words : List (List ℕ)) (t d u e : List ℕ) → AsksAppend words t d → AsksAppend words u e → (t ≡ u) × (d ≡ e)
same_append words t d u e a b =
    let rows = (same_found _ _ a.0 b.0 (sym a.1.1 ∙ b.1.1)).1 in
    let given = subst (λ (r : List Row). IsAppendGiven r t d) rows a.2 in
    (one_text _ t u given.table_is b.2.table_is, one_text _ d e given.data_is b.2.data_is)

same_upgrade : (words : List (List ℕ)) (o n u v : List ℕ) → AsksUpgrade words o n → AsksUpgrade words u v → (o ≡ u) × (n ≡ v)
same_upgrade words o n u v a b =
    let rows = (same_found _ _ a.0 b.0 (sym a.1.1 ∙ b.1.1)).1 in
    let given = subst (λ (r : List Row). IsUpgradeGiven r o n) rows a.2 in
    (one_text _ o u given.old_is b.2.old_is, one_text _ n v given.new_is b.2.new_is)

same_table : (words : List (List ℕ)) (c d : TableCommand) (t u : List ℕ) → AsksTable words c t → AsksTable words d u → (table_name c ≡ table_name d) × (t ≡ u)
same_table words c d t u a b =
    let same = same_found _ _ a.0 b.0 (sym a.1.1 ∙ b.1.1) in
    let given = subst (λ (r : List Row). IsTableGiven r t) same.1 a.2 in
    (same.0, one_text _ t u given b.2)

-- `clap` finds this command
abbrev Names : List (List ℕ) → List ℕ → Type 0
Names words name = (rows : List Row) × IsTaken words (Some (name, rows))

-- and no other
one_name : (words : List (List ℕ)) (name other : List ℕ) → Names words name → Names words other → name ≡ other
one_name words name other a b = (same_found _ _ a.0 b.0 (sym a.1.1 ∙ b.1.1)).0

-- so it finds none of another name
clash : (words : List (List ℕ)) (name other : List ℕ) → Names words name → Names words other → bytes_eq name other ≡ false → ⊥
clash words name other a b unlike = differ name other (one_name words name other a b) unlike

not_table : (words : List (List ℕ)) (name : List ℕ) (command : TableCommand) (table : List ℕ) → Names words name → AsksTable words command table
    → bytes_eq name (table_name command) ≡ false → ⊥
not_table words name command table a b unlike = clash words name (table_name command) a (b.0, b.1) unlike

not_next : (words : List (List ℕ)) (name l h z : List ℕ) → Names words name → AsksNext words l h z → bytes_eq name (codes "next") ≡ false → ⊥
not_next words name l h z a (inl by_clap) unlike = clash words name (codes "next") a (by_clap.0, by_clap.1) unlike
not_next words name l h z a (inr by_place) unlike = by_place.0 a.1.0

-- three words after `next`, and a command on a table file
next_apart : (words : List (List ℕ)) (l h z : List ℕ) (command : TableCommand) (table : List ℕ) → AsksNext words l h z → AsksTable words command table → ⊥
next_apart words l h z command table (inl by_clap) asks = not_table words (codes "next") command table (by_clap.0, by_clap.1) asks (apart command).6
next_apart words l h z command table (inr by_place) asks = by_place.0 asks.1.0

no_kind : (words : List (List ℕ)) → fault_of ubq_app words ≡ [] → (k : ErrorKind) → IsAmong k (fault_of ubq_app words) → ⊥
no_kind words none k among = subst (λ kinds. IsAmong k kinds) none among

no_help : (words : List (List ℕ)) (name : List ℕ) → Names words name → AsksHelp words → ⊥
no_help words name a (inl help) = no_kind words a.1.0 kind.DisplayHelp help
no_help words name a (inr version) = no_kind words a.1.0 kind.DisplayVersion version

same_place : (l h z m i y first second : List ℕ) (words : List (List ℕ)) → words ≡ first ∷ codes "next" ∷ l ∷ h ∷ z ∷ [] → words ≡ second ∷ codes "next" ∷ m ∷ i ∷ y ∷ []
    → (l ≡ m) × (h ≡ i) × (z ≡ y)
same_place l h z m i y first second words a b = let same = sym a ∙ b in (cc, cc, cc)

same_next : (words : List (List ℕ)) (l h z m i y : List ℕ) → AsksNext words l h z → AsksNext words m i y → (l ≡ m) × (h ≡ i) × (z ≡ y)
same_next words l h z m i y (inl a) (inl b) =
    let rows = (same_found _ _ a.0 b.0 (sym a.1.1 ∙ b.1.1)).1 in
    one_next b.0 l h z m i y (subst (λ (r : List Row). IsNextGiven r l h z) rows a.2) b.2
same_next words l h z m i y (inl a) (inr b) = absurd (b.0 a.1.0)
same_next words l h z m i y (inr a) (inl b) = absurd (a.0 b.1.0)
same_next words l h z m i y (inr a) (inr b) = same_place l h z m i y a.1.0 b.1.0 words a.1.1 b.1.1

-- this is no command: the help, or what is told of words that ask for nothing
abbrev pub IsNoCommand : Asked → Type 0
IsNoCommand (Help text) = Unit {0}
IsNoCommand (Wrong text) = Unit {0}
IsNoCommand a = ⊥

-- words that ask for nothing ask for no command
pub nothing_asked : (words : List (List ℕ)) (a : Asked) → AsksNothing words → IsAskedBy words a → IsNoCommand a
nothing_asked words (Try a) nothing is = absurd (nothing.no_try _ _ _ _ _ _ is)
nothing_asked words (Load a) nothing is = absurd (nothing.no_load _ _ _ _ _ _ is)
nothing_asked words (Run a) nothing is = absurd (nothing.no_run _ _ is)
nothing_asked words (Query a) nothing is = absurd (nothing.no_query _ _ is)
nothing_asked words (Append a) nothing is = absurd (nothing.no_append _ _ is)
nothing_asked words (Upgrade a) nothing is = absurd (nothing.no_upgrade _ _ is)
nothing_asked words (Table a) nothing is = absurd (nothing.no_table a.command a.table.now is)
nothing_asked words (Next a) nothing is = absurd (nothing.no_next _ _ _ is)
nothing_asked words a nothing is = tt

pub one_thing_is_asked : OneThingIsAsked
one_thing_is_asked words (Try a) (Try b) is same = same_try words _ _ _ _ _ _ _ _ _ _ _ _ is same
one_thing_is_asked words (Load a) (Load b) is same = same_load words _ _ _ _ _ _ _ _ _ _ _ _ is same
one_thing_is_asked words (Run a) (Run b) is same = same_run words _ _ _ _ is same
one_thing_is_asked words (Query a) (Query b) is same = same_query words _ _ _ _ is same
one_thing_is_asked words (Append a) (Append b) is same = same_append words _ _ _ _ is same
one_thing_is_asked words (Upgrade a) (Upgrade b) is same = same_upgrade words _ _ _ _ is same
one_thing_is_asked words (Table a) (Table b) is same = same_table words a.command b.command a.table.now b.table.now is same
one_thing_is_asked words (Next a) (Next b) is same = same_next words _ _ _ _ _ _ is same
one_thing_is_asked words (Try a) (Table b) is same = absurd (not_table words _ b.command b.table.now (is.0, is.1) same (apart b.command).0)
one_thing_is_asked words (Load a) (Table b) is same = absurd (not_table words _ b.command b.table.now (is.0, is.1) same (apart b.command).1)
one_thing_is_asked words (Run a) (Table b) is same = absurd (not_table words _ b.command b.table.now (is.0, is.1) same (apart b.command).2)
one_thing_is_asked words (Query a) (Table b) is same = absurd (not_table words _ b.command b.table.now (is.0, is.1) same (apart b.command).3)
one_thing_is_asked words (Append a) (Table b) is same = absurd (not_table words _ b.command b.table.now (is.0, is.1) same (apart b.command).4)
one_thing_is_asked words (Upgrade a) (Table b) is same = absurd (not_table words _ b.command b.table.now (is.0, is.1) same (apart b.command).5)
one_thing_is_asked words (Next a) (Table b) is same = absurd (next_apart words _ _ _ b.command b.table.now is same)
one_thing_is_asked words (Table a) (Try b) is same = absurd (not_table words _ a.command a.table.now (same.0, same.1) is (apart a.command).0)
one_thing_is_asked words (Table a) (Load b) is same = absurd (not_table words _ a.command a.table.now (same.0, same.1) is (apart a.command).1)
one_thing_is_asked words (Table a) (Run b) is same = absurd (not_table words _ a.command a.table.now (same.0, same.1) is (apart a.command).2)
one_thing_is_asked words (Table a) (Query b) is same = absurd (not_table words _ a.command a.table.now (same.0, same.1) is (apart a.command).3)
one_thing_is_asked words (Table a) (Append b) is same = absurd (not_table words _ a.command a.table.now (same.0, same.1) is (apart a.command).4)
one_thing_is_asked words (Table a) (Upgrade b) is same = absurd (not_table words _ a.command a.table.now (same.0, same.1) is (apart a.command).5)
one_thing_is_asked words (Table a) (Next b) is same = absurd (next_apart words _ _ _ a.command a.table.now same is)
one_thing_is_asked words (Next a) (Help b) is same = tt
one_thing_is_asked words (Next a) (Wrong b) is same = absurd (nothing_asked words (Next a) same.0 is)
one_thing_is_asked words (Next a) b is same = absurd (not_next words _ _ _ _ (same.0, same.1) is refl)
one_thing_is_asked words (Help a) (Next b) is same = tt
one_thing_is_asked words (Help a) (Help b) is same = tt
one_thing_is_asked words (Help a) (Wrong b) is same = tt
one_thing_is_asked words (Help a) b is same = absurd (no_help words _ (same.0, same.1) is.0)
one_thing_is_asked words (Wrong a) (Help b) is same = tt
one_thing_is_asked words (Wrong a) (Wrong b) is same = tt
one_thing_is_asked words (Wrong a) b is same = absurd (nothing_asked words b is.0 same)
one_thing_is_asked words a (Next b) is same = absurd (not_next words _ _ _ _ (is.0, is.1) same refl)
one_thing_is_asked words a (Help b) is same = absurd (no_help words _ (is.0, is.1) same.0)
one_thing_is_asked words a (Wrong b) is same = absurd (nothing_asked words a same.0 is)
one_thing_is_asked words a b is same = absurd (clash words _ _ (is.0, is.1) (same.0, same.1) refl)

pub help_is_help : HelpIsHelp
help_is_help words (Next a) alone (inl by_clap) = absurd (no_help_taken words by_clap.1.0 alone)
help_is_help words (Next a) alone (inr by_place) = absurd (by_place.2 alone)
help_is_help words (Help text) alone is = tt
help_is_help words (Wrong text) alone is = absurd (is.0.no_help alone)
help_is_help words a alone is = absurd (no_help_taken words is.1.0 alone)
