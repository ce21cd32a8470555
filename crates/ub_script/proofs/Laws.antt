-- The proofs of the laws.
use Rattle.std.proofs.Common.{◌≡◌, ◌+◌, ◌++◌, ℕ, zero, suc, Bool, true, false, cond, List, [], ◌∷◌, length, take, drop, slice_range, inl, inr, ℤ, Result, Ok, Err, refl, sym, ap, subst, arith, ◌∙◌, append_assoc}
use Rattle.std.proofs.Math.Seq.{take-append_seam}
use Rattle.std.proofs.lemmas.Grind.{flat_map-append}
use Rattle.std.proofs.lemmas.List.{flat_map_more, length-append, take-append-drop, take-append-le, take_all}
use Rattle.std.proofs.lemmas.List.Sums.{sum_by-cons}
use Rattle.ub_exec.specs.Stand.{Stand, IsStand, selected_of, without_row, without_rows}
use Rattle.ub_lexer.proofs.Laws.{same_statements, same_tokens}
use Rattle.ub_lexer.specs.Statements.{AreStatements}
use Rattle.ub_lexer.specs.Tokens.{AreTokens}
use Rattle.ub_lexer.specs.declared.token.Token.{Token}
use Rattle.ub_parser.specs.Outcome.{Command, asks, puts, takes}
use Rattle.ub_plan.proofs.Laws.{explains_have_one_text}
use Rattle.ub_planning.proofs.Laws.{visits_are_one}
use Rattle.ub_planning.specs.Plan.{plan_of}
use Rattle.ub_planning.specs.Visits.{Span}
use Rattle.ub_query.proofs.Laws.{queries_have_one_meaning}
use Rattle.ub_query.specs.Shape.{Asked}
use Rattle.ub_query.specs.declared.cell.Cell.{Cell}
use Rattle.ub_region.specs.Regions.{AreRegions}
use Rattle.ub_script.specs.Basis.{Basis, on_stand, over_any, schema_of, IsAskedReply, IsCommandEnd, IsEndOf, IsReply, IsReplyOver}
use Rattle.ub_script.specs.Changes.{HasPutIn, HasTakenOut, IsTableDelete}
use Rattle.ub_script.specs.Faults.{fault_of_tree}
use Rattle.ub_script.specs.Formed.{IsSameBut}
use Rattle.ub_script.specs.Output.{IsFrontOf}
use Rattle.ub_script.specs.Run.{IsAnswer, IsEnded, AreAnswers, FirstAt, FirstOver, summary_of}
use Rattle.ub_script.specs.Laws.{IsUnchanged, QueriesFetchOneNumberOfPages, OutcomesHaveOneReply, StatementsHaveOneReplyEach, ScriptsHaveOneEnd, ScriptsHaveOneSummary, CutTextsAreAFront, StoppedTextsAreAFront, StoppedTextsAreWhole, UnchangedTablesStay, FullTablesStay, RepliesOnATableAreThose}
use Rattle.ub_script.specs.Replies.{AreFirstReplies, AreRepliesAt, IsReplyOn}
use Rattle.ub_script.specs.Script.{IsTheOutcome, Outcome}
use Rattle.ub_script.specs.Text.{Reply, reply, answer_text, changed_by, deleted_text, IsExplainReply, IsQueryReply, IsTableReply, texts_of, pages_of, refused_in}
use Rattle.ub_table.specs.Region.{RegionRows}
use Rattle.ub_table.specs.Table.{Table}
use Rattle.ub_table.specs.declared.row.Row.{Row}
use Rattle.ub_table.specs.declared.schema.Schema.{Schema}
use Rattle.ub_script.specs.declared.fault.RunFault.TheVariants.{Memory, Tree}
use Rattle.ub_tree.specs.View.{TreeView}
use Rattle.ub_tree.specs.declared.fault.TreeFault.{TreeFault}
use Rattle.ub_tree.specs.declared.fault.TreeFault.TheVariants.{Full, Page, Store, Failed, Memory as NoMemory}
use Rattle.ub_tree.specs.declared.read_fault.ReadFault.{ReadFault}
use Rattle.ub_tree.specs.declared.read_fault.ReadFault.TheVariants.{Tree as OfTree, Memory as NoMemoryToRead}
pub use Rattle.ub_script.proofs.HeldFacts.{Puts-more, front_after}

pub queries_fetch_one_number_of_pages : QueriesFetchOneNumberOfPages
queries_fetch_one_number_of_pages schema next regions q m n are h k =
    h.pages_are ∙ ap (λ (visits : List Span). length visits) (visits_are_one schema q next regions h.visits k.visits are h.visits_are k.visits_are) ∙ sym k.pages_are

-- ---- one reply to each statement

same_reply : (a b : Reply) → a.text ≡ b.text → a.pages ≡ b.pages → a.is_refused ≡ b.is_refused → a.changed ≡ b.changed → a ≡ b
same_reply a b text pages refused changed = whole a.text b.text a.pages b.pages a.is_refused b.is_refused a.changed b.changed text pages refused changed
  where
    whole : (s t : List ℕ) (m n : ℕ) (x y : Bool) (c d : ℕ) → s ≡ t → m ≡ n → x ≡ y → c ≡ d → reply s m x c ≡ reply t n y d
    whole s t m n x y c d e f g h = rw (e, f, g, h) refl

one_answer : (table : Table) (next : ℕ) (regions : List RegionRows) (q : Asked) (first second : Reply) → AreRegions table.schema next regions → first.changed ≡ second.changed
    → IsQueryReply table regions q first → IsQueryReply table regions q second → first ≡ second
one_answer table next regions q first second are changed h k =
    let pages : first.pages ≡ second.pages = queries_fetch_one_number_of_pages table.schema next regions q first.pages second.pages are h.pages_are k.pages_are in
    same_reply first second
    (h.text_is ∙ ap (λ (rows : List (List Cell)). answer_text table.schema q rows first.pages) (queries_have_one_meaning table q h.rows k.rows h.meant k.meant)
    ∙ ap (λ (n : ℕ). answer_text table.schema q k.rows n) pages ∙ sym k.text_is)
    pages (h.accepted ∙ sym k.accepted) changed

one_explained : (table : Table) (regions : List RegionRows) (q : Asked) (first second : Reply) → first.changed ≡ second.changed → IsExplainReply table regions q first
    → IsExplainReply table regions q second → first ≡ second
one_explained table regions q first second changed h k =
    same_reply first second (explains_have_one_text table.schema (plan_of table.schema q) regions first.text second.text h.explained k.explained)
    (h.pages_are ∙ sym k.pages_are) (h.accepted ∙ sym k.accepted) changed

one_asked : (is_explained : Bool) (table : Table) (next : ℕ) (regions : List RegionRows) (q : Asked) (first second : Reply) → AreRegions table.schema next regions → first.changed ≡ second.changed
    → IsTableReply is_explained table regions q first → IsTableReply is_explained table regions q second → first ≡ second
one_asked true table next regions q first second are changed h k = one_explained table regions q first second changed h k
one_asked false table next regions q first second are changed h k = one_answer table next regions q first second are changed h k

one_deleted : (s : Stand) (q : Asked) (first second : Reply) (now other : Stand) → IsStand s → IsTableDelete s q first now → IsTableDelete s q second other → first ≡ second
one_deleted s q first second now other stand h k =
    let changed : first.changed ≡ second.changed = h.changed_is ∙ sym k.changed_is in
    same_reply first second (h.text_is ∙ ap deleted_text changed ∙ sym k.text_is)
    (queries_fetch_one_number_of_pages s.table.schema s.next s.regions q first.pages second.pages stand.regions_are h.pages_are k.pages_are) (h.accepted ∙ sym k.accepted) changed

one_on : (s : Stand) (outcome : Outcome) (first second : Reply) (after later : Stand) → IsStand s → IsReplyOn s outcome first after → IsReplyOn s outcome second later
    → (first ≡ second) × (after ≡ later)
one_on s (Ok (asks t)) first second after later stand (answer, none, still) (also, no_more, unmoved) =
    (one_asked t.is_explained s.table s.next s.regions t.asked first second stand.regions_are (none ∙ sym no_more) answer also, still ∙ sym unmoved)
one_on s (Ok (puts values)) first second after later stand h k = (h.reply_is ∙ sym k.reply_is, h.now_is ∙ sym k.now_is)
one_on s (Ok (takes q)) first second after later stand h k = (one_deleted s q first second after later stand h k, h.now_is ∙ sym k.now_is)
one_on s (Err fault) first second after later stand (h, still) (k, unmoved) = (h ∙ sym k, still ∙ sym unmoved)

pub outcomes_have_one_reply : OutcomesHaveOneReply
outcomes_have_one_reply s outcome first second now other stand (after, h, at) (later, k, there) =
    let same = one_on s outcome first second after later stand h k in
    (same.0, at ∙ ap on_stand same.1 ∙ sym there)

-- a table that stands somewhere stands somewhere after a reply
stands_on : (s : Stand) (outcome : Outcome) (r : Reply) (now : Basis) → IsReply (on_stand s) outcome r now → (after : Stand) × (now ≡ on_stand after)
stands_on s outcome r now (after, h, at) = (after, at)

-- ---- one reply each to the statements of a script

-- the first statements of a script are the first ones at the ranges of its tokens
at_ranges : (basis : Basis) (script : List ℕ) (tokens : List Token) (ranges : List (ℕ × ℕ)) (replies : List Reply) (left : ℕ) (now : Basis) → AreTokens script tokens
    → AreStatements tokens ranges → FirstOver basis script replies left now → FirstAt basis script tokens ranges replies left now
at_ranges basis script tokens ranges replies left now tokens_are ranges_are h =
    let same : h.tokens ≡ tokens = same_tokens script h.tokens tokens h.tokens_are tokens_are in
    let alike : h.ranges ≡ ranges = same_statements tokens h.ranges ranges (subst (λ (ts : List Token). AreStatements ts h.ranges) same h.ranges_are) ranges_are in
    subst (λ (rs : List (ℕ × ℕ)). FirstAt basis script tokens rs replies left now) alike
    (subst (λ (ts : List Token). FirstAt basis script ts h.ranges replies left now) same h.first)

-- the replies to all statements, at all ranges
all_ranges : (basis : Basis) (script : List ℕ) (tokens : List Token) (ranges : List (ℕ × ℕ)) (replies : List Reply) (now : Basis) → FirstAt basis script tokens ranges replies 0 now
    → AreAnswers basis script tokens ranges replies now
all_ranges basis script tokens ranges replies now h =
    let total = h.0 in
    subst (λ (rs : List (ℕ × ℕ)). AreAnswers basis script tokens rs replies now) (take_all (length replies) ranges (omega (arith, total))) h.1

module _ (script : List ℕ) (tokens : List Token) where
  one_of : (s : Stand) (statement : List Token) (first second : Reply) (now other : Basis) → IsAnswer (on_stand s) script statement first now
      → IsAnswer (on_stand s) script statement second other → (first ≡ second) × (now ≡ other)
  one_of s statement first second now other h k =
      let same : k.outcome ≡ h.outcome = h.heard.only k.outcome k.heard.told in
      outcomes_have_one_reply s h.outcome first second now other h.stands h.reply_is (subst (λ (o : Outcome). IsReply (on_stand s) o second other) same k.reply_is)

  -- where a table stands after a statement, and that it does so after either of two replies to it
  next_of : (s : Stand) (statement : List Token) (first second : Reply) (now other : Basis) → IsAnswer (on_stand s) script statement first now
      → IsAnswer (on_stand s) script statement second other → (first ≡ second) × ((after : Stand) × (now ≡ on_stand after) × (other ≡ on_stand after))
  next_of s statement first second now other h k =
      let same = one_of s statement first second now other h k in
      let there = stands_on s h.outcome first now h.reply_is in
      (same.0, (there.0, there.1, sym same.1 ∙ there.1))

  -- the replies to the first ranges are the first replies
  one_each : (s : Stand) (ranges : List (ℕ × ℕ)) (count : ℕ) (first second : List Reply) (now other : Basis) → AreAnswers (on_stand s) script tokens (take count ranges) first now
      → AreAnswers (on_stand s) script tokens ranges second other → first ≡ take count second
  one_each s ranges zero [] second now other h k = refl
  one_each s ranges zero (x ∷ xs) second now other h k = absurd h
  one_each s [] (suc count) [] [] now other h k = refl
  one_each s [] (suc count) [] (y ∷ ys) now other h k = absurd k
  one_each s [] (suc count) (x ∷ xs) second now other h k = absurd h
  one_each s (range ∷ ranges) (suc count) [] second now other h k = absurd h
  one_each s (range ∷ ranges) (suc count) (x ∷ xs) [] now other h k = absurd k
  one_each s (range ∷ ranges) (suc count) (x ∷ xs) (y ∷ ys) now other (mid, one, rest) (middle, also, more) =
      let step = next_of s (slice_range tokens range.0 range.1) x y mid middle one also in
      let after : Stand = step.1.0 in
      let left = subst (λ (b : Basis). AreAnswers b script tokens (take count ranges) xs now) step.1.1 rest in
      let right = subst (λ (b : Basis). AreAnswers b script tokens ranges ys other) step.1.2 more in
      ap (λ (r : Reply). r ∷ xs) step.0 ∙ ap (λ (rs : List Reply). y ∷ rs) (one_each after ranges count xs ys now other left right)

  -- the replies to all ranges are the same, and so is what they leave
  one_all : (s : Stand) (ranges : List (ℕ × ℕ)) (first second : List Reply) (now other : Basis) → AreAnswers (on_stand s) script tokens ranges first now
      → AreAnswers (on_stand s) script tokens ranges second other → (first ≡ second) × (now ≡ other)
  one_all s [] [] [] now other h k = (refl, h ∙ sym k)
  one_all s [] [] (y ∷ ys) now other h k = absurd k
  one_all s [] (x ∷ xs) second now other h k = absurd h
  one_all s (range ∷ ranges) [] second now other h k = absurd h
  one_all s (range ∷ ranges) (x ∷ xs) [] now other h k = absurd k
  one_all s (range ∷ ranges) (x ∷ xs) (y ∷ ys) now other (mid, one, rest) (middle, also, more) =
      let step = next_of s (slice_range tokens range.0 range.1) x y mid middle one also in
      let after : Stand = step.1.0 in
      let left = subst (λ (b : Basis). AreAnswers b script tokens ranges xs now) step.1.1 rest in
      let right = subst (λ (b : Basis). AreAnswers b script tokens ranges ys other) step.1.2 more in
      let later = one_all after ranges xs ys now other left right in
      (ap (λ (r : Reply). r ∷ xs) step.0 ∙ ap (λ (rs : List Reply). y ∷ rs) later.0, later.1)

  -- the replies to the first statements at some ranges are the first ones of those to all
  first_of_all : (s : Stand) (ranges : List (ℕ × ℕ)) (first second : List Reply) (left : ℕ) (now other : Basis) → FirstAt (on_stand s) script tokens ranges first left now
      → FirstAt (on_stand s) script tokens ranges second 0 other → first ≡ take (length first) second
  first_of_all s ranges first second left now other h k =
      one_each s ranges (length first) first second now other h.1 (all_ranges (on_stand s) script tokens ranges second other k)

  -- and their texts are the first part of all texts
  texts_before : (s : Stand) (ranges : List (ℕ × ℕ)) (first second : List Reply) (left : ℕ) (now other : Basis) → FirstAt (on_stand s) script tokens ranges first left now
      → FirstAt (on_stand s) script tokens ranges second 0 other → texts_of second ≡ texts_of first ++ texts_of (drop (length first) second)
  texts_before s ranges first second left now other h k =
      ap texts_of (sym (take-append-drop (length first) second)) ∙ flat_map-append (λ (r : Reply). r.text) (take (length first) second) (drop (length first) second)
      ∙ ap (λ (rs : List Reply). texts_of rs ++ texts_of (drop (length first) second)) (sym (first_of_all s ranges first second left now other h k))

pub statements_have_one_reply_each : StatementsHaveOneReplyEach
statements_have_one_reply_each s script first second left now other h k =
    let there = at_ranges (on_stand s) script h.tokens h.ranges second left other h.tokens_are h.ranges_are k in
    let count = there.0 in
    let total = h.first.0 in
    let long : length first ≡ length second = omega (arith, count, total) in
    let whole : AreAnswers (on_stand s) script h.tokens (take (length second) h.ranges) first now =
    subst (λ (n : ℕ). AreAnswers (on_stand s) script h.tokens (take n h.ranges) first now) long h.first.1 in
    one_all script h.tokens s (take (length second) h.ranges) first second now other whole there.1

pub scripts_have_one_end : ScriptsHaveOneEnd
scripts_have_one_end s script summary also now other first second pages others (rs, h, text, sum, counts) (us, k, writing, total, count) =
    let same = statements_have_one_reply_each s script rs us 0 now other h k in (
      counts ∙ ap summary_of same.0 ∙ sym count,
      same.1,
      text ∙ ap texts_of same.0 ∙ sym writing,
      sum ∙ ap pages_of same.0 ∙ sym total,
    )

-- ---- the summary

-- a statement is refused where its outcome is a refusal
abbrev refuses : Outcome → Bool
refuses (Ok says) = false
refuses (Err fault) = true

asked_accepted : (is_explained : Bool) (basis : Basis) (q : Asked) (r : Reply) → IsAskedReply is_explained basis q r → r.is_refused ≡ false
asked_accepted true (on_stand s) q r h = h.accepted
asked_accepted false (on_stand s) q r h = h.accepted
asked_accepted true (over_any seen) q r h = h.accepted
asked_accepted false (over_any seen) q r h = h.accepted

refused_on : (s : Stand) (outcome : Outcome) (r : Reply) (now : Stand) → IsReplyOn s outcome r now → r.is_refused ≡ refuses outcome
refused_on s (Ok (asks t)) r now (answer, none, still) = asked_accepted t.is_explained (on_stand s) t.asked r answer
refused_on s (Ok (puts values)) r now h = ap (λ (x : Reply). x.is_refused) h.reply_is
refused_on s (Ok (takes q)) r now h = h.accepted
refused_on s (Err fault) r now (h, still) = ap (λ (x : Reply). x.is_refused) h

refused_over : (seen : TreeView) (outcome : Outcome) (r : Reply) (now : TreeView) → IsReplyOver seen outcome r now → r.is_refused ≡ refuses outcome
refused_over seen (Ok (asks t)) r now (answer, none, still) = asked_accepted t.is_explained (over_any seen) t.asked r answer
refused_over seen (Ok (puts values)) r now h = ap (λ (x : Reply). x.is_refused) h.reply_is
refused_over seen (Ok (takes q)) r now h = h.accepted
refused_over seen (Err fault) r now (h, still) = ap (λ (x : Reply). x.is_refused) h

refused_as : (basis : Basis) (outcome : Outcome) (r : Reply) (now : Basis) → IsReply basis outcome r now → r.is_refused ≡ refuses outcome
refused_as (on_stand s) outcome r now (after, h, at) = refused_on s outcome r after h
refused_as (over_any seen) outcome r now (after, h, at) = refused_over seen outcome r after h

-- rows that are taken out leave the schema
without_schema : (rows : List Row) (s : Stand) → (without_rows rows s).table.schema ≡ s.table.schema
without_schema [] s = refl
without_schema (row ∷ rows) s = without_schema rows (without_row row s)

-- and every statement does
schema_on : (s : Stand) (outcome : Outcome) (r : Reply) (now : Stand) → IsReplyOn s outcome r now → now.table.schema ≡ s.table.schema
schema_on s (Ok (asks t)) r now (answer, none, still) = ap (λ (x : Stand). x.table.schema) still
schema_on s (Ok (puts values)) r now h = ap (λ (x : Stand). x.table.schema) h.now_is
schema_on s (Ok (takes q)) r now h = ap (λ (x : Stand). x.table.schema) h.now_is ∙ without_schema (selected_of q s) s
schema_on s (Err fault) r now (h, still) = ap (λ (x : Stand). x.table.schema) still

schema_over : (seen : TreeView) (outcome : Outcome) (r : Reply) (now : TreeView) → IsReplyOver seen outcome r now → now.schema ≡ seen.schema
schema_over seen (Ok (asks t)) r now (answer, none, still) = ap (λ (x : TreeView). x.schema) still
schema_over seen (Ok (puts values)) r now h = ap (λ (t : TreeView). t.schema) h.put.put.puts_in.effect.frame ∙ ap (λ (t : TreeView). t.schema) h.put.put.same
schema_over seen (Ok (takes q)) r now h = ap (λ (t : TreeView). t.schema) h.taken.deletes.frame ∙ ap (λ (t : TreeView). t.schema) h.taken.same
schema_over seen (Err fault) r now (h, still) = ap (λ (x : TreeView). x.schema) still

schema_kept : (basis : Basis) (outcome : Outcome) (r : Reply) (now : Basis) → IsReply basis outcome r now → schema_of now ≡ schema_of basis
schema_kept (on_stand s) outcome r now (after, h, at) = ap schema_of at ∙ schema_on s outcome r after h
schema_kept (over_any seen) outcome r now (after, h, at) = ap schema_of at ∙ schema_over seen outcome r after h

module _ (source : List ℕ) (tokens : List Token) where
  refused_alike : (basis other : Basis) (statement : List Token) (x y : Reply) (now later : Basis) → schema_of basis ≡ schema_of other → IsAnswer basis source statement x now
      → IsAnswer other source statement y later → x.is_refused ≡ y.is_refused
  refused_alike basis other statement x y now later same h k =
      let told = subst (λ (s : Schema). IsTheOutcome s source statement k.outcome) (sym same) k.heard in
      refused_as basis h.outcome x now h.reply_is ∙ ap refuses (sym (h.heard.only k.outcome told.told)) ∙ sym (refused_as other k.outcome y later k.reply_is)

  summed_alike : (basis other : Basis) (ranges : List (ℕ × ℕ)) (first second : List Reply) (now later : Basis) → schema_of basis ≡ schema_of other
      → AreAnswers basis source tokens ranges first now → AreAnswers other source tokens ranges second later
      → (length first ≡ length second) × (refused_in first ≡ refused_in second)
  summed_alike basis other [] [] [] now later same h k = (refl, refl)
  summed_alike basis other [] [] (y ∷ ys) now later same h k = absurd k
  summed_alike basis other [] (x ∷ xs) second now later same h k = absurd h
  summed_alike basis other (range ∷ ranges) [] second now later same h k = absurd h
  summed_alike basis other (range ∷ ranges) (x ∷ xs) [] now later same h k = absurd k
  summed_alike basis other (range ∷ ranges) (x ∷ xs) (y ∷ ys) now later same (mid, one, rest) (middle, also, more) =
      let kept : schema_of mid ≡ schema_of middle =
      schema_kept basis one.outcome x mid one.reply_is ∙ same ∙ sym (schema_kept other also.outcome y middle also.reply_is) in
      let others = summed_alike mid middle ranges xs ys now later kept rest more in
      let alike = refused_alike basis other (slice_range tokens range.0 range.1) x y mid middle same one also in (
        ap suc others.0,
        sum_by-cons (λ (r : Reply). cond r.is_refused 1 0) x xs ∙ ap (λ (b : Bool). cond b 1 0 + refused_in xs) alike
            ∙ ap (λ (n : ℕ). cond y.is_refused 1 0 + n) others.1 ∙ sym (sum_by-cons (λ (r : Reply). cond r.is_refused 1 0) y ys),
      )

same_summary : (first second : List Reply) → (length first ≡ length second) × (refused_in first ≡ refused_in second) → summary_of first ≡ summary_of second
same_summary first second (long, refused) = rw (long, refused) refl

pub scripts_have_one_summary : ScriptsHaveOneSummary
scripts_have_one_summary basis other script s t now later first second pages others same (rs, h, text, sum, counts) (us, k, writing, total, count) =
    let whole = at_ranges other script h.tokens h.ranges us 0 later h.tokens_are h.ranges_are k in
    let all = all_ranges basis script h.tokens h.ranges rs now h.first in
    let alike = summed_alike script h.tokens basis other h.ranges rs us now later same all (all_ranges other script h.tokens h.ranges us later whole) in
    counts ∙ same_summary rs us alike ∙ sym count

-- ---- texts that were not written to the end

-- a front of bytes is a front of those with more after them
front_before : (front bytes after : List ℕ) → IsFrontOf front bytes → IsFrontOf front (bytes ++ after)
front_before front bytes after (count, fewer, is) =
    (count, rw (length-append bytes after) (omega (arith, fewer)), is ∙ sym (take-append-le count bytes after (omega (arith, fewer))))

pub cut_texts_are_a_front : CutTextsAreAFront
cut_texts_are_a_front s script summary now later bytes text pages all (rs, r, left, front, h, cut, is, sum) (us, k, writing, total, count) =
    let whole = at_ranges (on_stand s) script h.tokens h.ranges us 0 later h.tokens_are h.ranges_are k in
    let after : List ℕ = texts_of (drop (length (rs ++ r ∷ [])) us) in
    let split : texts_of us ≡ texts_of rs ++ (r.text ++ after) =
    texts_before script h.tokens s h.ranges (rs ++ r ∷ []) us left now later h.first whole
    ∙ ap (λ (bs : List ℕ). bs ++ after) (sym (flat_map_more (λ (x : Reply). x.text) [] rs r)) ∙ append_assoc (texts_of rs) r.text after in
    rw (is, writing, split) (front_after front (r.text ++ after) (texts_of rs) (front_before front r.text after cut))

pub stopped_texts_are_a_front : StoppedTextsAreAFront
stopped_texts_are_a_front s script summary fault now later bytes text pages all (rs, left, more, h, is, sum) (us, k, writing, total, count) =
    let whole = at_ranges (on_stand s) script h.tokens h.ranges us 0 later h.tokens_are h.ranges_are k in
    let after : List ℕ = texts_of (drop (length rs) us) in
    let split : texts_of us ≡ texts_of rs ++ after = texts_before script h.tokens s h.ranges rs us (suc left) h.ended.0 later h.ended.1 whole in (
      length (texts_of rs),
      rw (writing, split, length-append (texts_of rs) after) (omega arith),
      rw (is, writing, split) (sym (take-append_seam (texts_of rs) after)),
    )

pub stopped_texts_are_whole : StoppedTextsAreWhole
stopped_texts_are_whole s script summary fault now later bytes text pages all (rs, left, more, h, is, sum) (us, k, writing, total, count) =
    let whole = at_ranges (on_stand s) script h.tokens h.ranges us 0 later h.tokens_are h.ranges_are k in
    let first : rs ≡ take (length rs) us = first_of_all script h.tokens s h.ranges rs us (suc left) h.ended.0 later h.ended.1 whole in
    let joined : rs ++ drop (length rs) us ≡ us = ap (λ (xs : List Reply). xs ++ drop (length rs) us) first ∙ take-append-drop (length rs) us in (
      rs,
      drop (length rs) us,
      subst (λ (xs : List Reply). FirstOver (on_stand s) script xs 0 later) (sym joined) k,
      is,
      writing ∙ ap texts_of (sym joined),
    )

-- ---- tables that stay

itself : (basis : Basis) → IsUnchanged basis basis
itself (on_stand s) = refl
itself (over_any seen) = refl

-- nothing was done
unmoved : (basis now : Basis) → now ≡ basis → IsUnchanged basis now
unmoved basis now still = subst (λ (b : Basis). IsUnchanged basis b) (sym still) (itself basis)

unchanged_on : (basis mid now : Basis) → IsUnchanged basis mid → IsUnchanged mid now → IsUnchanged basis now
unchanged_on (on_stand s) (on_stand t) (on_stand u) h k = k ∙ h
unchanged_on (over_any s) (over_any t) (over_any u) h k = k ∙ ap (λ (x : TreeView). record x { trace = u.trace }) h
unchanged_on (on_stand s) (on_stand t) (over_any u) h k = absurd k
unchanged_on (on_stand s) (over_any t) now h k = absurd h
unchanged_on (over_any s) (over_any t) (on_stand u) h k = absurd k
unchanged_on (over_any s) (on_stand t) now h k = absurd h

-- no rows that are taken out
none_taken : (rows : List Row) (s : Stand) → length rows ≡ 0 → without_rows rows s ≡ s
none_taken [] s none = refl
none_taken (row ∷ rows) s none = absurd (omega (arith, none))

-- a statement that puts in no row and takes out none
stays_on : (s : Stand) (outcome : Outcome) (r : Reply) (now : Stand) → r.changed ≡ 0 → IsReplyOn s outcome r now → now ≡ s
stays_on s (Ok (asks t)) r now none (answer, zero_too, still) = still
stays_on s (Ok (puts values)) r now none h = absurd (let one : r.changed ≡ 1 = ap (λ (x : Reply). x.changed) h.reply_is in omega (arith, one, none))
stays_on s (Ok (takes q)) r now none h = h.now_is ∙ none_taken (selected_of q s) s (sym h.changed_is ∙ none)
stays_on s (Err fault) r now none (h, still) = still

stays_over : (seen : TreeView) (outcome : Outcome) (r : Reply) (now : TreeView) → r.changed ≡ 0 → IsReplyOver seen outcome r now → IsSameBut seen now
stays_over seen (Ok (asks t)) r now none (answer, zero_too, still) = subst (λ (t : TreeView). IsSameBut seen t) (sym still) refl
stays_over seen (Ok (puts values)) r now none h = absurd (let one : r.changed ≡ 1 = ap (λ (x : Reply). x.changed) h.reply_is in omega (arith, one, none))
stays_over seen (Ok (takes q)) r now none h =
    h.taken.untouched (ap (λ (n : ℕ). Ok n) none) ∙ ap (λ (t : TreeView). record t { trace = now.trace }) h.taken.same
stays_over seen (Err fault) r now none (h, still) = subst (λ (t : TreeView). IsSameBut seen t) (sym still) refl

stays : (basis : Basis) (outcome : Outcome) (r : Reply) (now : Basis) → r.changed ≡ 0 → IsReply basis outcome r now → IsUnchanged basis now
stays (on_stand s) outcome r now none (after, h, at) = unmoved (on_stand s) now (at ∙ ap on_stand (stays_on s outcome r after none h))
stays (over_any seen) outcome r now none (after, h, at) = subst (λ (b : Basis). IsUnchanged (over_any seen) b) (sym at) (stays_over seen outcome r after none h)

all_stay : (basis : Basis) (source : List ℕ) (tokens : List Token) (ranges : List (ℕ × ℕ)) (replies : List Reply) (now : Basis) → changed_by replies ≡ 0
    → AreAnswers basis source tokens ranges replies now → IsUnchanged basis now
all_stay basis source tokens [] [] now none h = unmoved basis now h
all_stay basis source tokens [] (r ∷ replies) now none h = absurd h
all_stay basis source tokens (range ∷ ranges) [] now none h = absurd h
all_stay basis source tokens (range ∷ ranges) (r ∷ replies) now none (mid, one, rest) =
    let sum : r.changed + changed_by replies ≡ 0 = sym (sum_by-cons (λ (x : Reply). x.changed) r replies) ∙ none in
    let first : r.changed ≡ 0 = omega (arith, sum) in
    let others : changed_by replies ≡ 0 = omega (arith, sum) in
    unchanged_on basis mid now (stays basis one.outcome r mid first one.reply_is) (all_stay mid source tokens ranges replies now others rest)

pub unchanged_tables_stay : UnchangedTablesStay
unchanged_tables_stay basis script replies left now h none = all_stay basis script h.tokens (take (length replies) h.ranges) replies now none h.first.1

-- an INSERT that finds no room leaves the tree
full_put : (m : TreeView) (values : List ℤ) (after : TreeView) (e : TreeFault) → HasPutIn m values (Err e) after → Tree Full ≡ fault_of_tree e → IsSameBut m after
full_put m values after Full h same = h.put.puts_in.effect.left.1 ∙ h.put.same ∙ ap (λ (t : TreeView). record m { trace = t.trace }) (sym h.put.puts_in.effect.left.1)
full_put m values after Failed h same = cc
full_put m values after NoMemory h same = cc
full_put m values after (Page page fault) h same = cc
full_put m values after (Store fault) h same = cc

-- a DELETE never says so
full_taken : (m : TreeView) (q : Asked) (after : TreeView) (told : Result ℕ ReadFault) → HasTakenOut m q told after → IsEndOf told (Tree Full) → ⊥
full_taken m q after (Ok count) h ended = let bad : Tree Full ≡ Memory = ended in cc
full_taken m q after (Err NoMemoryToRead) h ended = let bad : Tree Full ≡ Memory = ended in cc
full_taken m q after (Err (OfTree Full)) h ended = h.deletes.left
full_taken m q after (Err (OfTree Failed)) h ended = let bad : Tree Full ≡ Tree Failed = ended in cc
full_taken m q after (Err (OfTree NoMemory)) h ended = h.deletes.left
full_taken m q after (Err (OfTree (Page page fault))) h ended = let bad : Tree Full ≡ Tree (Page page fault) = ended in cc
full_taken m q after (Err (OfTree (Store fault))) h ended = let bad : Tree Full ≡ Tree (Store fault) = ended in cc

full_end : (m : TreeView) (c : Command) (pages : ℕ) (now : Basis) → IsCommandEnd (over_any m) c (Tree Full) pages now → IsUnchanged (over_any m) now
full_end m (asks t) pages now (some, given, left) = absurd given.0
full_end m (puts values) pages now (none, inl (memory, still)) = absurd (let bad : Tree Full ≡ Memory = memory in cc)
full_end m (puts values) pages now (none, inr (after, e, put, same, at)) = subst (λ (b : Basis). IsUnchanged (over_any m) b) (sym at) (full_put m values after e put same)
full_end m (takes q) pages now (some, inl (memory, still)) = absurd (let bad : Tree Full ≡ Memory = memory in cc)
full_end m (takes q) pages now (some, inr (after, told, taken, ended, at)) = absurd (full_taken m q after told taken ended)

full_from : (seen : TreeView) (script : List ℕ) (tokens : List Token) (mid now : Basis) (pages : ℕ) → IsUnchanged (over_any seen) mid
    → IsEnded mid script tokens (Tree Full) pages now → IsUnchanged (over_any seen) now
full_from seen script tokens (on_stand s) now pages h ended = absurd h
full_from seen script tokens (over_any m) now pages h (inl (memory, none, still)) = absurd (let bad : Tree Full ≡ Memory = memory in cc)
full_from seen script tokens (over_any m) now pages h (inr u) = unchanged_on (over_any seen) (over_any m) now h (full_end m u.says pages now u.ended)

pub full_tables_stay : FullTablesStay
full_tables_stay seen script replies left pages now h none =
    full_from seen script _ h.ended.0 now pages (all_stay (over_any seen) script h.tokens (take (length replies) h.ranges) replies h.ended.0 none h.ended.1.1) h.ended.2.2

-- ---- replies on the basis of a table, and on that table alone

-- the table that stands there
abbrev stand_in : Stand → Basis → Stand
stand_in s (on_stand now) = now
stand_in s (over_any seen) = s

module _ (source : List ℕ) (tokens : List Token) where
  pub on_table : (s : Stand) (ranges : List (ℕ × ℕ)) (replies : List Reply) (now : Stand) → AreAnswers (on_stand s) source tokens ranges replies (on_stand now)
      → AreRepliesAt s source tokens ranges replies now
  on_table s [] [] now h = ap (stand_in s) h
  on_table s [] (r ∷ replies) now h = absurd h
  on_table s (range ∷ ranges) [] now h = absurd h
  on_table s (range ∷ ranges) (r ∷ replies) now (mid, one, rest) =
      let (after, is, at) = one.reply_is in (
        after,
        record { outcome = one.outcome; heard = one.heard; stands = one.stands; reply_is = is },
        on_table after ranges replies now (subst (λ (b : Basis). AreAnswers b source tokens ranges replies (on_stand now)) at rest),
      )

  on_basis : (s : Stand) (ranges : List (ℕ × ℕ)) (replies : List Reply) (now : Stand) → AreRepliesAt s source tokens ranges replies now
      → AreAnswers (on_stand s) source tokens ranges replies (on_stand now)
  on_basis s [] [] now h = ap on_stand h
  on_basis s [] (r ∷ replies) now h = absurd h
  on_basis s (range ∷ ranges) [] now h = absurd h
  on_basis s (range ∷ ranges) (r ∷ replies) now (mid, one, rest) = (
    on_stand mid,
    record { outcome = one.outcome; heard = one.heard; stands = one.stands; reply_is = (mid, one.reply_is, refl) },
    on_basis mid ranges replies now rest,
  )

pub replies_on_a_table_are_those : RepliesOnATableAreThose
replies_on_a_table_are_those s script replies left now = (forth, back)
  where
    forth : FirstOver (on_stand s) script replies left (on_stand now) → (first : AreFirstReplies s script replies now) × (length replies + left ≡ length first.ranges)
    forth h = (
      record {
        tokens = h.tokens;
        ranges = h.ranges;
        tokens_are = h.tokens_are;
        ranges_are = h.ranges_are;
        first = on_table script h.tokens s (take (length replies) h.ranges) replies now h.first.1;
      },
      h.first.0,
    )

    back : (first : AreFirstReplies s script replies now) × (length replies + left ≡ length first.ranges) → FirstOver (on_stand s) script replies left (on_stand now)
    back (h, count) = record {
      tokens = h.tokens;
      ranges = h.ranges;
      tokens_are = h.tokens_are;
      ranges_are = h.ranges_are;
      first = (count, on_basis script h.tokens s (take (length replies) h.ranges) replies now h.first);
    }
