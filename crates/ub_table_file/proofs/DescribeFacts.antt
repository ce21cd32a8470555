-- What describing a table file leaves of files, step by step.
use Rattle.std.proofs.Common.{append_assoc, codes, if◌then◌else◌, is_ok, ◌≡◌, ◌∙◌, ◌+◌, ◌++◌, ℕ, List, [], ◌∷◌, Result, Ok, Err, IfOk, inl, inr, ap, arith, refl, subst, sym}
use Rattle.std.proofs.lemmas.List.{flat_map_more, map-id}
use Rattle.std.proofs.lemmas.List.FromFn.{map-range_with_len_more}
use Rattle.std.specs.List.{flat_map, range_with_len}
use Rattle.std.specs.Prelude.{IfErr, IsErrAnd, OnOk}
use Rattle.ub_page.specs.declared.header.Header.{Header}
use Rattle.ub_table_file.specs.Described.{Description, count_lines, levels_word, number_line, option_text, options_line, IsDescribeFault, IsOldFault, IsOldText, IsTextOf, PassesRooted, described, described_old, description_text, fact_line, of_old_format}
use Rattle.ub_store.specs.Facts.{StoreFacts, IsHonest}
use Rattle.ub_store.specs.declared.fault.StoreFault.TheVariants as store
use Rattle.ub_table.specs.declared.schema.Schema.{Schema}
use Rattle.ub_tree.specs.Effects.{raised_by, read_store}
use Rattle.ub_tree.specs.Opened.{IsOpenFault, IsOpened, IsPassing, IsRooted}
use Rattle.ub_tree.specs.View.{TreeView}
use Rattle.ub_tree.specs.declared.fault.TreeFault.{TreeFault}
use Rattle.ub_tree.specs.declared.fault.TreeFault.TheVariants.{Memory}
use Rattle.ub_upgrade.specs.Bringing.{HasOldHeader}
use Rattle.ub_upgrade.specs.declared.fault.UpgradeFault.TheVariants.{Old}

-- one line more
range_more : (n : ℕ) → range_with_len 0 (n + 1) ≡ range_with_len 0 n ++ n ∷ []
range_more n = sym (map-id (range_with_len 0 (n + 1))) ∙ map-range_with_len_more (λ (i : ℕ). i) 0 n n (omega arith) ∙ ap (λ (ns : List ℕ). ns ++ n ∷ []) (map-id (range_with_len 0 n))

pub column_step : (line : ℕ → List ℕ) (n : ℕ) (start before after : List ℕ) → before ≡ start ++ flat_map line (range_with_len 0 n) → after ≡ before ++ line n
    → after ≡ start ++ flat_map line (range_with_len 0 (n + 1))
column_step line n start before after is put =
    put ∙ ap (λ (s : List ℕ). s ++ line n) is ∙ flat_map_more line start (range_with_len 0 n) n
    ∙ ap (λ (ns : List ℕ). start ++ flat_map line ns) (sym (range_more n))

-- ---- what was put after a text

-- nothing is said where it was not
pub not_put : {A E : Type 0} (P : Type 0) (r : Result A E) (fault : E) → IsErrAnd r (λ e. e ≡ fault) → OnOk r P
not_put P (Ok a) fault is = absurd is
not_put P (Err e) fault is = tt

then_put : (start put more mid new : List ℕ) → mid ≡ start ++ put → new ≡ mid ++ more → new ≡ start ++ (put ++ more)
then_put start put more mid new is next = next ∙ ap (λ (s : List ℕ). s ++ more) is ∙ append_assoc start put more

pub fact_put : {A E : Type 0} (r : Result A E) (word told start one two three new : List ℕ) → one ≡ start ++ word → two ≡ one ++ codes " " → three ≡ two ++ told
    → new ≡ (if is_ok r then three ++ codes "\n" else three) → OnOk r (new ≡ start ++ fact_line word told)
fact_put (Ok a) word told start one two three new first space what last =
    let spaced = then_put start word (codes " ") one two first space in
    let named = then_put start (word ++ codes " ") told two three spaced what in
    then_put start ((word ++ codes " ") ++ told) (codes "\n") three new named last
    ∙ ap (λ (s : List ℕ). start ++ s) (append_assoc (word ++ codes " ") told (codes "\n") ∙ append_assoc word (codes " ") (told ++ codes "\n"))
fact_put (Err e) word told start one two three new first space what last = tt

pub dimension_put : {A E : Type 0} (r : Result A E) (name sign start one two three new : List ℕ) → one ≡ start ++ codes "dimension " → two ≡ one ++ name → three ≡ two ++ sign
    → new ≡ (if is_ok r then three ++ codes "\n" else three) → OnOk r (new ≡ start ++ fact_line (codes "dimension") (name ++ sign))
dimension_put (Ok a) name sign start one two three new first what signed last =
    let named = then_put start (codes "dimension ") name one two first what in
    let told = then_put start (codes "dimension " ++ name) sign two three named signed in
    then_put start ((codes "dimension " ++ name) ++ sign) (codes "\n") three new told last
dimension_put (Err e) name sign start one two three new first what signed last = tt

pub option_put : {A E : Type 0} (r : Result A E) (option told number start one new : List ℕ) → told ≡ number → one ≡ start ++ option
    → new ≡ (if is_ok r then one ++ told else one) → OnOk r (new ≡ start ++ (option ++ number))
option_put (Ok a) option told number start one new is first last =
    then_put start option told one new first last ∙ ap (λ (t : List ℕ). start ++ (option ++ t)) is
option_put (Err e) option told number start one new is first last = tt

pub options_put : {A E : Type 0} (r : Result A E) (schema : Schema) (dims signed page_rows : ℕ) (name start one two three new : List ℕ)
    → dims ≡ schema.dims → signed ≡ schema.signed → page_rows ≡ schema.page_rows → name ≡ schema.name
    → one ≡ start ++ option_text (codes "load-with --dims ") dims → two ≡ one ++ option_text (codes " --signed ") signed
    → three ≡ two ++ option_text (codes " --page-rows ") page_rows → OnOk r (new ≡ three ++ fact_line (codes " --name") name)
    → OnOk r (new ≡ start ++ options_line schema)
options_put (Ok a) schema dims signed page_rows name start one two three new dims_are signed_is rows_are name_is first second third last =
    let A = option_text (codes "load-with --dims ") schema.dims in
    let B = option_text (codes " --signed ") schema.signed in
    let C = option_text (codes " --page-rows ") schema.page_rows in
    let D = fact_line (codes " --name") schema.name in
    let one_is : one ≡ start ++ A = first ∙ ap (λ (n : ℕ). start ++ option_text (codes "load-with --dims ") n) dims_are in
    let two_is : two ≡ one ++ B = second ∙ ap (λ (n : ℕ). one ++ option_text (codes " --signed ") n) signed_is in
    let three_is : three ≡ two ++ C = third ∙ ap (λ (n : ℕ). two ++ option_text (codes " --page-rows ") n) rows_are in
    let new_is : new ≡ three ++ D = last ∙ ap (λ (text : List ℕ). three ++ fact_line (codes " --name") text) name_is in
    new_is ∙ ap (λ (s : List ℕ). s ++ D) three_is ∙ append_assoc two C D ∙ ap (λ (s : List ℕ). s ++ (C ++ D)) two_is ∙ append_assoc one B (C ++ D)
    ∙ ap (λ (s : List ℕ). s ++ (B ++ (C ++ D))) one_is ∙ append_assoc start A (B ++ (C ++ D))
options_put (Err e) schema dims signed page_rows name start one two three new dims_are signed_is rows_are name_is first second third last = tt

counts_put : (a b c d e f start one two three four five new : List ℕ) → one ≡ start ++ a → two ≡ one ++ b → three ≡ two ++ c → four ≡ three ++ d
    → five ≡ four ++ e → new ≡ five ++ f → new ≡ start ++ (a ++ (b ++ (c ++ (d ++ (e ++ f)))))
counts_put a b c d e f start one two three four five new first second third fourth fifth last =
    last ∙ ap (λ (s : List ℕ). s ++ f) fifth ∙ append_assoc four e f ∙ ap (λ (s : List ℕ). s ++ (e ++ f)) fourth ∙ append_assoc three d (e ++ f)
    ∙ ap (λ (s : List ℕ). s ++ (d ++ (e ++ f))) third ∙ append_assoc two c (d ++ (e ++ f)) ∙ ap (λ (s : List ℕ). s ++ (c ++ (d ++ (e ++ f)))) second
    ∙ append_assoc one b (c ++ (d ++ (e ++ f))) ∙ ap (λ (s : List ℕ). s ++ (b ++ (c ++ (d ++ (e ++ f))))) first ∙ append_assoc start a (b ++ (c ++ (d ++ (e ++ f))))

pub description_put : {A E : Type 0} (r : Result A E) (d : Description) (page_rows version : ℕ) (word start one two three four five new : List ℕ)
    → page_rows ≡ d.schema.page_rows → word ≡ levels_word d.version → version ≡ d.version
    → one ≡ start ++ number_line (codes "rows") d.rows → two ≡ one ++ number_line (codes "next") d.next → three ≡ two ++ number_line (codes "regions") d.regions
    → four ≡ three ++ number_line (codes "page-rows") page_rows → five ≡ four ++ number_line word d.levels → OnOk r (new ≡ five ++ number_line (codes "format") version)
    → OnOk r (new ≡ start ++ count_lines d)
description_put (Ok a) d page_rows version word start one two three four five new rows_are levels_are version_is first second third fourth fifth last =
    counts_put (number_line (codes "rows") d.rows) (number_line (codes "next") d.next) (number_line (codes "regions") d.regions)
    (number_line (codes "page-rows") d.schema.page_rows) (number_line (levels_word d.version) d.levels) (number_line (codes "format") d.version)
    start one two three four five new first second third
    (fourth ∙ ap (λ (n : ℕ). three ++ number_line (codes "page-rows") n) rows_are)
    (fifth ∙ ap (λ (w : List ℕ). four ++ number_line w d.levels) levels_are)
    (last ∙ ap (λ (n : ℕ). five ++ number_line (codes "format") n) version_is)
description_put (Err e) d page_rows version word start one two three four five new rows_are levels_are version_is first second third fourth fifth last = tt

-- the text of what an opened tree tells
pub tree_told : {T : Type 0} (r : Result T TreeFault) (items : T → List ℕ) (from : StoreFacts) (t : TreeView) → IsOpened from t
    → IfOk r (λ text. items text ≡ description_text (described t)) → IfOk r (λ text. IsTextOf from (items text))
tree_told (Ok text) items from t opened is = (described t, inl (t, opened, refl), is)
tree_told (Err fault) items from t opened is = tt

-- a store that wasn't opened for its older version is as it was
pub old_same : (from left : StoreFacts) (fault : TreeFault) → left ≡ record from { failed_reads = raised_by fault from.failed_reads } → fault ≡ of_old_format → left ≡ from
old_same from left fault kept is = kept ∙ ap (λ (f : TreeFault). record from { failed_reads = raised_by f from.failed_reads }) is

-- and of what the header of a store of an older version tells, which is as it was before it was not opened
pub old_told : {T : Type 0} (r : Result T TreeFault) (items : T → List ℕ) (from left : StoreFacts) (fault : TreeFault) → left ≡ record from { failed_reads = raised_by fault from.failed_reads }
    → fault ≡ of_old_format → IfOk r (λ text. IsOldText left (items text)) → IfOk r (λ text. IsTextOf from (items text))
old_told (Ok text) items from left fault kept is told =
    let same = old_same from left fault kept is in
    (described_old told.0, inr (told.0, subst (λ (s : StoreFacts). HasOldHeader s told.0) same told.1, refl), told.2)
old_told (Err refused) items from left fault kept is told = tt

-- where memory is refused the store is as it was
pub memory_left : {T : Type 0} (r : Result T TreeFault) (from : StoreFacts) → IsErrAnd r (λ fault. fault ≡ Memory) → from ≡ read_store r from
memory_left (Ok text) from is = absurd is
memory_left {T} (Err fault) from is = ap (λ (f : TreeFault). read_store {A = T} (Err f) from) (sym is)

-- a header of an older version isn't read where memory is refused
pub no_memory : {T : Type 0} (r : Result T TreeFault) (from : StoreFacts) → IsErrAnd r (λ fault. fault ≡ Memory) → IfErr r (IsOldFault from)
no_memory (Ok text) from is = tt
no_memory (Err fault) from is = (Old store.Memory, tt, is)

-- ---- why a store tells nothing

-- a tree was opened in it, and memory was refused
pub tree_refused : {T : Type 0} (r : Result T TreeFault) (from : StoreFacts) → IfErr r (λ fault. fault ≡ Memory)
    → IfErr r (λ fault. IsDescribeFault from fault × PassesRooted from fault)
tree_refused (Ok text) from is = tt
tree_refused (Err fault) from is = (
  inl ((λ old. let memory = is in let other = old in cc), subst (λ (f : TreeFault). IsOpenFault from f) (sym is) tt),
  λ header honest rooted. inl is,
)

-- its header is one of an older version, and can't be read
pub old_refused : {T : Type 0} (r : Result T TreeFault) (from left : StoreFacts) (fault : TreeFault) → left ≡ from → fault ≡ of_old_format → IsOpenFault from fault
    → ((header : Header) → IsHonest from → IsRooted from.pages header → ⊥) → IfErr r (IsOldFault left)
    → IfErr r (λ fault. IsDescribeFault from fault × PassesRooted from fault)
old_refused (Ok text) from left fault same is refused never told = tt
old_refused (Err e) from left fault same is refused never told = (
  inr (subst (λ (f : TreeFault). IsOpenFault from f) is refused, subst (λ (s : StoreFacts). IsOldFault s e) same told),
  λ header honest rooted. absurd (never header honest rooted),
)

-- a table that can be opened isn't of an older version
pub never_old : {X : Type 0} (fault : TreeFault) → fault ≡ of_old_format → IsPassing fault → X
never_old fault is (inl memory) = cc
never_old fault is (inr device) = cc
