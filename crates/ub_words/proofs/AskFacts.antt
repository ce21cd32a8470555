-- What words ask for, by what `clap` makes of them.
use Rattle.std.proofs.Common.{◌≡◌, ◌≢◌, ◌∙◌, ℕ, List, Option, Some, None, ap, inl, inr, sym, refl, codes, subst, true, [], ◌∷◌}
use Rattle.std.specs.Prelude.{false, unwrap_or}
use Rattle.std.specs.Str.{bytes_eq}
use Rattle.std.proofs.lemmas.Bool.{false≢true}
use Rattle.std.proofs.lemmas.Slice.Eq.{bytes_eq-Decides}
use Rattle.std.specs.Prelude.{option_map}
use Rattle.clap.specs.Words.{App, HasKind, HasMatchesOf, IsAmong, Row, fault_of, is_simple, is_simple_and_free, new_app, subcommand_of, subcommand_rows_of}
use Rattle.clap.specs.declared.error.Error.{Error}
use Rattle.clap.specs.declared.parser.matches.ArgMatches.{ArgMatches}
use Rattle.clap.specs.declared.error.kind.ErrorKind.{ErrorKind}
use Rattle.clap.specs.declared.error.kind.ErrorKind.TheVariants as kind
use Rattle.clap.proofs.OnLiterals.{clap_on_literals}
use Rattle.ub_words.specs.CommandLine.{AreNextWords, AsksHelpAlone, AsksNothing, IsAppendGiven, IsLoadGiven, IsNextGiven, IsQueryGiven, IsRunGiven, IsTableGiven, IsTaken, IsTryGiven, IsUpgradeGiven, standard_input, table_name, ubq_app}
use Rattle.ub_words.specs.declared.given.TableCommand.{TableCommand}
use Rattle.ub_words.specs.declared.given.TableCommand.TheVariants.{Describe}

-- the program's command line is one whose matches `clap` tells
pub ubq_is_simple : is_simple ubq_app ≡ true
unfolding clap_on_literals ubq_app
ubq_is_simple = refl

pub ubq_is_free : is_simple_and_free ubq_app ≡ true
unfolding clap_on_literals ubq_app
ubq_is_free = refl

-- before its commands are added
abbrev pub bare_app : App
bare_app = record (new_app (codes "ubq")) {
  top = record (new_app (codes "ubq")).top { has_version = true; subcommand_required = true };
}

-- what is found is one thing
abbrev both : List ℕ → List Row → Option (List ℕ × List Row)
both command rows = Some (command, rows)

pub same_found : (command other : List ℕ) (rows more : List Row) → both command rows ≡ both other more → (command ≡ other) × (rows ≡ more)
same_found command other rows more e =
    let left : List ℕ × List Row = (command, rows) in
    (ap (λ (o : Option (List ℕ × List Row)). (unwrap_or o left).0) e, ap (λ (o : Option (List ℕ × List Row)). (unwrap_or o left).1) e)

-- words that `clap` takes ask for no help
pub no_help_taken : (words : List (List ℕ)) → fault_of ubq_app words ≡ [] → ¬ (AsksHelpAlone words)
no_help_taken words none (inl help) = let bad = sym none ∙ help in cc
no_help_taken words none (inr version) = let bad = sym none ∙ version in cc

-- nor do words that `clap` may refuse in another way
only_kind : (k one : ErrorKind) (kinds : List ErrorKind) → IsAmong k kinds → kinds ≡ one ∷ [] → k ≡ one
only_kind k one kinds among is = elim (subst (λ kinds. IsAmong k kinds) is among) [
  | inl same ↦ same
  | inr none ↦ absurd none
]

pub no_help_refused : (words : List (List ℕ)) (k : ErrorKind) → IsAmong k (fault_of ubq_app words) → k ≢ kind.DisplayHelp → k ≢ kind.DisplayVersion → ¬ (AsksHelpAlone words)
no_help_refused words k among no_help no_version (inl help) = no_help (only_kind k _ _ among help)
no_help_refused words k among no_help no_version (inr version) = no_version (only_kind k _ _ among version)

-- two names that are spelled differently aren't one
pub differ : (name other : List ℕ) → name ≡ other → bytes_eq name other ≡ false → ⊥
differ name other e unlike = false≢true (sym unlike ∙ (bytes_eq-Decides name other).1 e)

-- another command's name is none of a command whose words are a table file alone
abbrev pub IsApart : List ℕ → TableCommand → Type 0
IsApart name command = bytes_eq name (table_name command) ≡ false

pub apart : (command : TableCommand) → IsApart (codes "try") command × IsApart (codes "load") command × IsApart (codes "run") command × IsApart (codes "query") command
    × IsApart (codes "append") command × IsApart (codes "upgrade") command × IsApart (codes "next") command
apart Describe = (refl, refl, refl, refl, refl, refl, refl)
apart command = (refl, refl, refl, refl, refl, refl, refl)

-- words by which a command was found ask for nothing, if it is none of these, or what was given for it is not enough
pub nothing_by : (words : List (List ℕ)) (name : List ℕ) (rows : List Row) → IsTaken words (both name rows)
    → (name ≡ codes "try" → (source script table : List ℕ) (dims page_rows signed : ℕ) → IsTryGiven rows source script table dims page_rows signed
    → (source ≡ standard_input) × (script ≡ standard_input))
    → (name ≡ codes "load" → (source table other : List ℕ) (dims page_rows signed : ℕ) → ¬ (IsLoadGiven rows source table other dims page_rows signed))
    → (name ≡ codes "run" → (table script : List ℕ) → ¬ (IsRunGiven rows table script))
    → (name ≡ codes "query" → (table statements : List ℕ) → ¬ (IsQueryGiven rows table statements))
    → (name ≡ codes "append" → (table source : List ℕ) → ¬ (IsAppendGiven rows table source))
    → (name ≡ codes "upgrade" → (old new : List ℕ) → ¬ (IsUpgradeGiven rows old new))
    → ((command : TableCommand) → name ≡ table_name command → (table : List ℕ) → ¬ (IsTableGiven rows table))
    → (name ≡ codes "next" → (lo hi z : List ℕ) → ¬ (IsNextGiven rows lo hi z)) → AsksNothing words
nothing_by words name rows taken by_try by_load by_run by_query by_append by_upgrade by_table by_next = record {
  no_try = λ source script table dims page_rows signed asks.
      let same = same_found _ _ _ _ (sym taken.1 ∙ asks.1.1) in
      asks.3 (by_try same.0 source script table dims page_rows signed (subst (λ (r : List Row). IsTryGiven r source script table dims page_rows signed) (sym same.1) asks.2));
  no_load = λ source table other dims page_rows signed asks.
      let same = same_found _ _ _ _ (sym taken.1 ∙ asks.1.1) in
      by_load same.0 source table other dims page_rows signed (subst (λ (r : List Row). IsLoadGiven r source table other dims page_rows signed) (sym same.1) asks.2);
  no_run = λ table script asks.
      let same = same_found _ _ _ _ (sym taken.1 ∙ asks.1.1) in
      by_run same.0 table script (subst (λ (r : List Row). IsRunGiven r table script) (sym same.1) asks.2);
  no_query = λ table statements asks.
      let same = same_found _ _ _ _ (sym taken.1 ∙ asks.1.1) in
      by_query same.0 table statements (subst (λ (r : List Row). IsQueryGiven r table statements) (sym same.1) asks.2);
  no_append = λ table source asks.
      let same = same_found _ _ _ _ (sym taken.1 ∙ asks.1.1) in
      by_append same.0 table source (subst (λ (r : List Row). IsAppendGiven r table source) (sym same.1) asks.2);
  no_upgrade = λ old new asks.
      let same = same_found _ _ _ _ (sym taken.1 ∙ asks.1.1) in
      by_upgrade same.0 old new (subst (λ (r : List Row). IsUpgradeGiven r old new) (sym same.1) asks.2);
  no_table = λ command table asks.
      let same = same_found _ _ _ _ (sym taken.1 ∙ asks.1.1) in
      by_table command same.0 table (subst (λ (r : List Row). IsTableGiven r table) (sym same.1) asks.2);
  no_next = λ lo hi z asks. elim asks [
    | inl by_clap ↦
        let same = same_found _ _ _ _ (sym taken.1 ∙ by_clap.1.1) in
        by_next same.0 lo hi z (subst (λ (r : List Row). IsNextGiven r lo hi z) (sym same.1) by_clap.2)
    | inr by_place ↦ by_place.0 taken.0
  ];
  no_help = no_help_taken words taken.0;
}

-- the words that ask for a `try` whose arguments were not all given ask for nothing, and so do those for two standard inputs
pub nothing_by_try : (words : List (List ℕ)) (rows : List Row) → IsTaken words (both (codes "try") rows)
    → ((source script name : List ℕ) (dims page_rows signed : ℕ) → IsTryGiven rows source script name dims page_rows signed
    → (source ≡ standard_input) × (script ≡ standard_input)) → AsksNothing words
nothing_by_try words rows taken none =
    nothing_by words (codes "try") rows taken (λ e. none) (λ e. absurd (differ _ _ e refl)) (λ e. absurd (differ _ _ e refl)) (λ e. absurd (differ _ _ e refl))
    (λ e. absurd (differ _ _ e refl)) (λ e. absurd (differ _ _ e refl)) (λ command e. absurd (differ _ _ e (apart command).0)) (λ e. absurd (differ _ _ e refl))

pub nothing_by_load : (words : List (List ℕ)) (rows : List Row) → IsTaken words (both (codes "load") rows)
    → ((source table name : List ℕ) (dims page_rows signed : ℕ) → ¬ (IsLoadGiven rows source table name dims page_rows signed)) → AsksNothing words
nothing_by_load words rows taken none =
    nothing_by words (codes "load") rows taken (λ e. absurd (differ _ _ e refl)) (λ e. none) (λ e. absurd (differ _ _ e refl)) (λ e. absurd (differ _ _ e refl))
    (λ e. absurd (differ _ _ e refl)) (λ e. absurd (differ _ _ e refl)) (λ command e. absurd (differ _ _ e (apart command).1)) (λ e. absurd (differ _ _ e refl))

pub nothing_by_run : (words : List (List ℕ)) (rows : List Row) → IsTaken words (both (codes "run") rows)
    → ((table script : List ℕ) → ¬ (IsRunGiven rows table script)) → AsksNothing words
nothing_by_run words rows taken none =
    nothing_by words (codes "run") rows taken (λ e. absurd (differ _ _ e refl)) (λ e. absurd (differ _ _ e refl)) (λ e. none) (λ e. absurd (differ _ _ e refl))
    (λ e. absurd (differ _ _ e refl)) (λ e. absurd (differ _ _ e refl)) (λ command e. absurd (differ _ _ e (apart command).2)) (λ e. absurd (differ _ _ e refl))

pub nothing_by_query : (words : List (List ℕ)) (rows : List Row) → IsTaken words (both (codes "query") rows)
    → ((table statements : List ℕ) → ¬ (IsQueryGiven rows table statements)) → AsksNothing words
nothing_by_query words rows taken none =
    nothing_by words (codes "query") rows taken (λ e. absurd (differ _ _ e refl)) (λ e. absurd (differ _ _ e refl)) (λ e. absurd (differ _ _ e refl)) (λ e. none)
    (λ e. absurd (differ _ _ e refl)) (λ e. absurd (differ _ _ e refl)) (λ command e. absurd (differ _ _ e (apart command).3)) (λ e. absurd (differ _ _ e refl))

pub nothing_by_append : (words : List (List ℕ)) (rows : List Row) → IsTaken words (both (codes "append") rows)
    → ((table source : List ℕ) → ¬ (IsAppendGiven rows table source)) → AsksNothing words
nothing_by_append words rows taken none =
    nothing_by words (codes "append") rows taken (λ e. absurd (differ _ _ e refl)) (λ e. absurd (differ _ _ e refl)) (λ e. absurd (differ _ _ e refl)) (λ e. absurd (differ _ _ e refl))
    (λ e. none) (λ e. absurd (differ _ _ e refl)) (λ command e. absurd (differ _ _ e (apart command).4)) (λ e. absurd (differ _ _ e refl))

pub nothing_by_upgrade : (words : List (List ℕ)) (rows : List Row) → IsTaken words (both (codes "upgrade") rows)
    → ((old new : List ℕ) → ¬ (IsUpgradeGiven rows old new)) → AsksNothing words
nothing_by_upgrade words rows taken none =
    nothing_by words (codes "upgrade") rows taken (λ e. absurd (differ _ _ e refl)) (λ e. absurd (differ _ _ e refl)) (λ e. absurd (differ _ _ e refl)) (λ e. absurd (differ _ _ e refl))
    (λ e. absurd (differ _ _ e refl)) (λ e. none) (λ command e. absurd (differ _ _ e (apart command).5)) (λ e. absurd (differ _ _ e refl))

pub nothing_by_table : (words : List (List ℕ)) (command : TableCommand) (rows : List Row) → IsTaken words (both (table_name command) rows)
    → ((table : List ℕ) → ¬ (IsTableGiven rows table)) → AsksNothing words
nothing_by_table words command rows taken none =
    let other = apart command in
    nothing_by words (table_name command) rows taken (λ e. absurd (differ _ _ (sym e) other.0)) (λ e. absurd (differ _ _ (sym e) other.1)) (λ e. absurd (differ _ _ (sym e) other.2))
    (λ e. absurd (differ _ _ (sym e) other.3)) (λ e. absurd (differ _ _ (sym e) other.4)) (λ e. absurd (differ _ _ (sym e) other.5)) (λ more e. none) (λ e. absurd (differ _ _ (sym e) other.6))

pub nothing_by_next : (words : List (List ℕ)) (rows : List Row) → IsTaken words (both (codes "next") rows)
    → ((lo hi z : List ℕ) → ¬ (IsNextGiven rows lo hi z)) → AsksNothing words
nothing_by_next words rows taken none =
    nothing_by words (codes "next") rows taken (λ e. absurd (differ _ _ e refl)) (λ e. absurd (differ _ _ e refl)) (λ e. absurd (differ _ _ e refl)) (λ e. absurd (differ _ _ e refl))
    (λ e. absurd (differ _ _ e refl)) (λ e. absurd (differ _ _ e refl)) (λ command e. absurd (differ _ _ e (apart command).6)) (λ e. none)

-- words by which no command was found
pub nothing_by_none : (words : List (List ℕ)) (found : Option (List ℕ × List Row)) → None ≡ found → IsTaken words found → AsksNothing words
nothing_by_none words found is taken = record {
  no_try = λ source script table dims page_rows signed asks. let bad = is ∙ (sym taken.1 ∙ asks.1.1) in cc;
  no_load = λ source table other dims page_rows signed asks. let bad = is ∙ (sym taken.1 ∙ asks.1.1) in cc;
  no_run = λ table script asks. let bad = is ∙ (sym taken.1 ∙ asks.1.1) in cc;
  no_query = λ table statements asks. let bad = is ∙ (sym taken.1 ∙ asks.1.1) in cc;
  no_append = λ table source asks. let bad = is ∙ (sym taken.1 ∙ asks.1.1) in cc;
  no_upgrade = λ old new asks. let bad = is ∙ (sym taken.1 ∙ asks.1.1) in cc;
  no_table = λ command table asks. let bad = is ∙ (sym taken.1 ∙ asks.1.1) in cc;
  no_next = λ lo hi z asks. elim asks [
    | inl by_clap ↦ let bad = is ∙ (sym taken.1 ∙ by_clap.1.1) in cc
    | inr by_place ↦ by_place.0 taken.0
  ];
  no_help = no_help_taken words taken.0;
}

-- and words that are refused, but for three words after `next`
pub nothing_by_refusal : (words : List (List ℕ)) → fault_of ubq_app words ≢ [] → ¬ (AsksHelpAlone words) → ((lo hi z : List ℕ) → ¬ (AreNextWords words lo hi z)) → AsksNothing words
nothing_by_refusal words refused no_help none = record {
  no_try = λ source script name dims page_rows signed asks. refused asks.1.0;
  no_load = λ source table name dims page_rows signed asks. refused asks.1.0;
  no_run = λ table script asks. refused asks.1.0;
  no_query = λ table statements asks. refused asks.1.0;
  no_append = λ table source asks. refused asks.1.0;
  no_upgrade = λ old new asks. refused asks.1.0;
  no_table = λ command table asks. refused asks.1.0;
  no_next = λ lo hi z asks. elim asks [
    | inl by_clap ↦ refused by_clap.1.0
    | inr by_place ↦ none lo hi z by_place.1
  ];
  no_help = no_help;
}

-- one text is given
pub one_text : (o : Option (List ℕ)) (a b : List ℕ) → o ≡ Some a → o ≡ Some b → a ≡ b
one_text o a b first second = ap (λ (t : Option (List ℕ)). unwrap_or t []) (sym first ∙ second)

-- where both files are standard input, they are so however they were given
pub two_inputs : (rows : List Row) (source script name : List ℕ) (dims page_rows signed : ℕ) → IsTryGiven rows source script name dims page_rows signed
    → source ≡ standard_input → script ≡ standard_input
    → (other path table : List ℕ) (d p m : ℕ) → IsTryGiven rows other path table d p m → (other ≡ standard_input) × (path ≡ standard_input)
two_inputs rows source script name dims page_rows signed given first second other path table d p m more =
    (one_text _ _ _ more.data_is.path_is given.data_is.path_is ∙ first, one_text _ _ _ more.script_is given.script_is ∙ second)

-- where a kind comes, some kind comes
pub some_fault : (words : List (List ℕ)) (k : ErrorKind) → IsAmong k (fault_of ubq_app words) → fault_of ubq_app words ≢ []
some_fault words k among none = subst (λ kinds. IsAmong k kinds) none among

-- what a parse that succeeds has found
pub taken_by : (app : App) (words : List (List ℕ)) (m : ArgMatches) → app ≡ ubq_app → HasMatchesOf app words m
    → (is_simple_and_free app ≡ true → fault_of app words ≡ []) → IsTaken words (subcommand_rows_of m)
taken_by app words m is has none = (
  ap (λ (a : App). fault_of a words) (sym is) ∙ none (ap is_simple_and_free is ∙ ubq_is_free),
  ap (λ (a : App). subcommand_of a words) (sym is) ∙ sym (has (ap is_simple is ∙ ubq_is_simple)).1,
)

-- and why one fails
pub refused_by : (app : App) (words : List (List ℕ)) (e : Error) → app ≡ ubq_app → (is_simple_and_free app ≡ true → HasKind (fault_of app words) e)
    → HasKind (fault_of ubq_app words) e
refused_by app words e is has = subst (λ (a : App). HasKind (fault_of a words) e) is (has (ap is_simple_and_free is ∙ ubq_is_free))

-- the command that was found, by its name
pub taken_as : (words : List (List ℕ)) (found : Option (List ℕ × List Row)) (name command : List ℕ) (rows : List Row) → both name rows ≡ found → name ≡ command
    → IsTaken words found → IsTaken words (both command rows)
taken_as words found name command rows is same taken = (taken.0, taken.1 ∙ (sym is ∙ ap (λ (n : List ℕ). both n rows) same))

abbrev pub pair_of : List ℕ → List Row → List ℕ × List Row
pair_of name rows = (name, rows)

-- what is told apart of two parts is told of the pair
pub paired : {X P : Type 0} (r : Option P) (f : P → List ℕ) (h : P → List Row) (sub : Option X) (name : X → List ℕ) (rows : X → List Row)
    → option_map f r ≡ option_map name sub → option_map h r ≡ option_map (λ (p : List ℕ × List Row). p.1) (option_map (λ b. pair_of (name b) (rows b)) sub)
    → option_map (λ p. pair_of (f p) (h p)) r ≡ option_map (λ b. pair_of (name b) (rows b)) sub
paired None f h None name rows a b = refl
paired None f h (Some x) name rows a b = cc
paired (Some p) f h None name rows a b = cc
paired (Some p) f h (Some x) name rows a b =
    let left = ap (λ (o : Option (List ℕ)). unwrap_or o []) a in
    let right = ap (λ (o : Option (List Row)). unwrap_or o []) b in
    rw (left, right) refl
