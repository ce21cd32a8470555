-- How a run grows by one statement, and what a run of all statements is.
use Rattle.std.proofs.Common.{◌≡◌, ◌≢◌, ◌<◌, ◌≤◌, ◌+◌, ◌-◌, subst, ℕ, zero, suc, Bool, false, true, cond, List, [], ◌∷◌, ◌++◌, length, take, drop, All, Some, slice_get, slice_range, slice_index_or, Result, refl, sym, ap, ◌∙◌, zero-add, IfOk, IfErr, IsErrOf, Ok, Err, inl, inr, arith}
use Rattle.std.proofs.lemmas.List.{flat_map_more, length-append, length-drop, length-take-le, take_more}
use Rattle.std.proofs.lemmas.List.Elements.{All-contains_itself, All-drop, All-take}
use Rattle.std.proofs.lemmas.List.Sums.{sum_by_push}
use Rattle.std.specs.Result.{IsErrAnd}
use Rattle.ub_exec.specs.Visits.{fetches_then}
use Rattle.ub_lexer.specs.Statements.{AreStatements}
use Rattle.ub_lexer.specs.Tokens.{AreSpelled, AreTokens, text_of}
use Rattle.ub_lexer.specs.Text.{IsSpelling}
use Rattle.ub_lexer.specs.declared.token.Token.{Token}
use Rattle.ub_script.specs.Basis.{Basis, IsBasisOf, IsRestOf}
use Rattle.ub_script.specs.Faults.{Runs, RunsReading, failures_after}
use Rattle.ub_script.specs.Loop.{IsAnswerAt, IsCutAt, OnEach}
use Rattle.ub_script.specs.Output.{OutFacts, Breaks, Puts}
use Rattle.ub_script.specs.Run.{EndedAt, EndedOver, IsEnded, IsRange, IsAnswer, AreAnswers, FirstAt, FirstOver, IsWhole, IsStopped, IsCutOff, IsRun, Ran}
use Rattle.ub_script.specs.Script.{AreAsking, IsAsking}
use Rattle.ub_script.specs.Text.{Reply, reply, texts_of, pages_of, refused_in}
use Rattle.ub_script.specs.declared.fault.RunFault.{RunFault}
use Rattle.ub_script.specs.declared.fault.RunFault.TheVariants.{Memory, Write}
use Rattle.ub_script.specs.declared.script.Summary.{Summary}
use Rattle.ub_script.proofs.HeldFacts.{Puts-none, Puts-more}
use Rattle.ub_script.proofs.KeptFacts.{runs_memory}
use Rattle.ub_table.specs.declared.schema.Schema.{Schema}
use Rattle.ub_tree.specs.View.{TreeView}

-- the ranges of statements are ranges of the tokens
pub All-ranges : (tokens : List Token) (ranges : List (ℕ × ℕ)) → AreStatements tokens ranges → All (λ range. IsRange tokens range) ranges
All-ranges tokens ranges h k d below =
    let is = (h.1 (slice_index_or ranges k d)).0 (All-contains_itself ranges k d below) in (is.0, is.1)

-- a range has tokens, and they are spelled as all are
pub some_in : (tokens : List Token) (range : ℕ × ℕ) → IsRange tokens range → 0 < length (take (range.1 - range.0) (drop range.0 tokens))
some_in tokens range is =
    let left = length-drop range.0 tokens in
    let all = length-take-le (range.1 - range.0) (drop range.0 tokens) (omega (arith, left, is.0, is.1)) in
    omega (arith, all, is.0)

pub spelled_in : (source : List ℕ) (tokens : List Token) (range : ℕ × ℕ) → AreSpelled source tokens → AreSpelled source (take (range.1 - range.0) (drop range.0 tokens))
spelled_in source tokens range are =
    let P : Token → Type 0 = λ t. (t.from < t.to) × (t.to ≤ length source) × IsSpelling t.kind (text_of source t) in
    All-take P (range.1 - range.0) (drop range.0 tokens) (All-drop P range.0 tokens are)

-- where none of the statements changes the table, the one at a place doesn't
pub asks_at : (schema other : Schema) (source : List ℕ) (tokens : List Token) (ranges : List (ℕ × ℕ)) (i : ℕ) (d : ℕ × ℕ) → other ≡ schema → AreAsking schema source tokens ranges
    → i < length ranges → IsAsking other source (slice_range tokens (slice_index_or ranges i d).0 (slice_index_or ranges i d).1)
asks_at schema other source tokens ranges i d same asks below = rw same (asks i d below)

-- a count that rises twice
fetches_add : (fetches a b : ℕ) → fetches_then (fetches_then fetches a) b ≡ fetches_then fetches (a + b)
fetches_add fetches zero b = ap (fetches_then fetches) (sym (zero-add b))
fetches_add fetches (suc a) zero = let same : suc a + 0 ≡ suc a = omega arith in rw same refl
fetches_add fetches (suc a) (suc b) = let same : suc a + suc b ≡ suc (a + suc b) = omega arith in rw same (omega arith)

-- a front of the answer's text was taken
pub answer_front : (basis now : Basis) (source : List ℕ) (tokens : List Token) (range : ℕ × ℕ) (text bytes : List ℕ) (is_refused : Bool) (changed : ℕ) (Left : Basis → Type 0) (a b : OutFacts) (f n pages : ℕ)
    → IsAnswer basis source (slice_range tokens range.0 range.1) (reply text pages is_refused changed) now → Left now → n ≡ fetches_then f pages → bytes ≡ text → Breaks bytes a b
    → Ran (IsCutAt basis source tokens range) Left true a b f n
answer_front basis now source tokens range text bytes is_refused changed Left a b f n pages answer left fetched same (front, cut, taken) =
    (now, front, pages, (reply text pages is_refused changed, answer, rw same at cut, refl), left, taken, fetched)

-- a fault that is another one's in another type, where what follows from it follows from that
pub other_err : {T : Type 0} (r : Result T RunFault) (fault : RunFault) (X : RunFault → Type 0) → IsErrAnd r (λ e. e ≡ fault) → (fault ≢ Write → X fault) → IfErr r (λ e. e ≢ Write → X e)
other_err (Ok x) fault X h f = absurd h
other_err (Err e) fault X h f = subst (λ (e' : RunFault). e' ≢ Write → X e') (sym h) f

-- an element that is there
there : {X : Type 0} (xs : List X) (i : ℕ) (d : X) → i < length xs → slice_get xs i ≡ Some (slice_index_or xs i d)
there [] i d lt = absurd (omega arith)
there (x ∷ xs) zero d lt = refl
there (x ∷ xs) (suc i) d lt = there xs i d (omega arith)

-- what was done up to a place in the statements at these ranges, and what the tree shows then
pub record HasCome (basis : Basis) (source : List ℕ) (tokens : List Token) (ranges : List (ℕ × ℕ)) (i refused : ℕ) (t : TreeView) (old new : OutFacts) (before after : ℕ) : Type 0 where
  pub replies : List Reply
  pub now : Basis
  pub counted : length replies ≡ i
  pub answers : AreAnswers basis source tokens (take i ranges) replies now
  pub left : IsBasisOf t now
  pub refused_is : refused ≡ refused_in replies
  pub taken : Puts (texts_of replies) old new
  pub fetched : after ≡ fetches_then before (pages_of replies)

pub come_none : (basis : Basis) (source : List ℕ) (tokens : List Token) (ranges : List (ℕ × ℕ)) (t : TreeView) (o : OutFacts) (before : ℕ) → IsBasisOf t basis
    → HasCome basis source tokens ranges 0 0 t o o before before
come_none basis source tokens ranges t o before is =
    record { replies = []; now = basis; counted = refl; answers = refl; left = is; refused_is = refl; taken = Puts-none o; fetched = refl }

module _ (source : List ℕ) (tokens : List Token) where
  answers_more : (basis : Basis) (some : List (ℕ × ℕ)) (replies : List Reply) (range : ℕ × ℕ) (r : Reply) (mid now : Basis) → AreAnswers basis source tokens some replies mid
      → IsAnswer mid source (slice_range tokens range.0 range.1) r now → AreAnswers basis source tokens (some ++ range ∷ []) (replies ++ r ∷ []) now
  answers_more basis [] [] range r mid now h is = (now, subst (λ (b : Basis). IsAnswer b source (slice_range tokens range.0 range.1) r now) h is, refl)
  answers_more basis [] (x ∷ replies) range r mid now h is = absurd h
  answers_more basis (x ∷ some) [] range r mid now h is = absurd h
  answers_more basis (x ∷ some) (y ∷ replies) range r mid now (next, one, rest) is = (next, one, answers_more next some replies range r mid now rest is)

  module _ (basis : Basis) (ranges : List (ℕ × ℕ)) where
    module _ (i refused : ℕ) (t : TreeView) (a b c : OutFacts) (f m : ℕ) (d : ℕ × ℕ) (below : i < length ranges) (come : HasCome basis source tokens ranges i refused t a b f m) where
      one_more : (r : Reply) (now : Basis) → IsAnswer come.now source (slice_range tokens (slice_index_or ranges i d).0 (slice_index_or ranges i d).1) r now
          → AreAnswers basis source tokens (take (i + 1) ranges) (come.replies ++ r ∷ []) now
      one_more r now answer = rw (take_more ranges i d below) (answers_more basis (take i ranges) come.replies (slice_index_or ranges i d) r come.now now come.answers answer)

      pages_more : (r : Reply) (n : ℕ) → n ≡ fetches_then m r.pages → n ≡ fetches_then f (pages_of (come.replies ++ r ∷ []))
      pages_more r n is =
          is ∙ ap (λ (x : ℕ). fetches_then x r.pages) come.fetched ∙ fetches_add f (pages_of come.replies) r.pages ∙ ap (fetches_then f) (sym (sum_by_push (λ (x : Reply). x.pages) come.replies r))

      -- with this reply
      first_more : (r : Reply) (now : Basis) → IsAnswer come.now source (slice_range tokens (slice_index_or ranges i d).0 (slice_index_or ranges i d).1) r now
          → FirstAt basis source tokens ranges (come.replies ++ r ∷ []) (length ranges - (i + 1)) now
      first_more r now answer = (
        omega (arith, come.counted, length-append come.replies (r ∷ [])),
        (let long : length (come.replies ++ r ∷ []) ≡ i + 1 = omega (arith, come.counted, length-append come.replies (r ∷ [])) in rw long (one_more r now answer)),
      )

      -- one more statement
      pub come_more : (next : ℕ) (is_refused : Bool) (u : TreeView) (n : ℕ)
          → Ran (IsAnswerAt come.now source tokens (slice_index_or ranges i d) is_refused) (IsBasisOf u) false b c m n → next ≡ refused + cond is_refused 1 0
          → HasCome basis source tokens ranges (i + 1) next u a c f n
      come_more next is_refused u n (now, text, pages, (changed, answer), left, taken, fetched) e =
          let r : Reply = reply text pages is_refused changed in record {
            replies = come.replies ++ r ∷ [];
            now = now;
            counted = omega (arith, come.counted, length-append come.replies (r ∷ []));
            answers = one_more r now answer;
            left = left;
            refused_is = e ∙ ap (λ (x : ℕ). x + cond is_refused 1 0) come.refused_is ∙ sym (sum_by_push (λ (x : Reply). cond x.is_refused 1 0) come.replies r);
            taken = subst (λ (bytes : List ℕ). Puts bytes a c) (flat_map_more (λ (x : Reply). x.text) [] come.replies r) (Puts-more a b c (texts_of come.replies) text false come.taken taken);
            fetched = pages_more r n fetched;
          }

      -- one more statement, of whose text only a front was taken
      pub come_broken : (u : TreeView) (n : ℕ) → Ran (IsCutAt come.now source tokens (slice_index_or ranges i d)) (IsBasisOf u) true b c m n
          → Ran (IsCutOff (FirstAt basis source tokens ranges)) (IsBasisOf u) true a c f n
      come_broken u n (now, front, pages, (r, answer, cut, all), left, taken, fetched) = (
        now,
        texts_of come.replies ++ front,
        pages_of (come.replies ++ r ∷ []),
        (
          come.replies,
          r,
          length ranges - (i + 1),
          front,
          first_more r now answer,
          cut,
          refl,
          refl,
        ),
        left,
        Puts-more a b c (texts_of come.replies) front true come.taken taken,
        pages_more r n (fetched ∙ ap (fetches_then m) all),
      )

      -- nothing was taken for the next statement, which a fault ended
      pub come_stopped : (fault : RunFault) (u : TreeView) (n : ℕ) (more : ℕ) (now : Basis) → c ≡ b
          → IsEnded come.now source (slice_range tokens (slice_index_or ranges i d).0 (slice_index_or ranges i d).1) fault more now → IsRestOf u now → n ≡ fetches_then m more
          → Ran (IsStopped (EndedAt basis source tokens ranges fault)) (IsRestOf u) false a c f n
      come_stopped fault u n more now kept ended rest fetched = (
        now,
        texts_of come.replies,
        pages_of come.replies + more,
        (
          come.replies,
          length ranges - (i + 1),
          more,
          (
            come.now,
            (omega (arith, come.counted), rw come.counted come.answers),
            (slice_index_or ranges i d, rw come.counted (there ranges i d below), ended),
          ),
          refl,
          refl,
        ),
        rest,
        subst (λ (o : OutFacts). Puts (texts_of come.replies) a o) (sym kept) come.taken,
        fetched ∙ ap (λ (x : ℕ). fetches_then x more) come.fetched ∙ fetches_add f (pages_of come.replies) more,
      )

    -- all statements
    pub come_whole : (i refused : ℕ) (t : TreeView) (a b : OutFacts) (f n : ℕ) → i ≡ length ranges → HasCome basis source tokens ranges i refused t a b f n
        → Ran (IsWhole (FirstAt basis source tokens ranges) (record { statements = length ranges; refused = refused })) (IsBasisOf t) false a b f n
    come_whole i refused t a b f n all come = (
      come.now,
      texts_of come.replies,
      pages_of come.replies,
      (
        come.replies,
        (omega (arith, come.counted, all), rw come.counted come.answers),
        refl,
        refl,
        (let long : length ranges ≡ length come.replies = sym all ∙ sym come.counted in rw (long, come.refused_is) refl),
      ),
      come.left,
      come.taken,
      come.fetched,
    )

-- what is known of the first statements at the ranges of a script is known of its first statements
module _ (basis : Basis) (script : List ℕ) (tokens : List Token) (ranges : List (ℕ × ℕ)) (tokens_are : AreTokens script tokens) (ranges_are : AreStatements tokens ranges)
    (Left : Basis → Type 0) (a b : OutFacts) (f n : ℕ) where
  first_over : (replies : List Reply) (left : ℕ) (now : Basis) → FirstAt basis script tokens ranges replies left now → FirstOver basis script replies left now
  first_over replies left now first = record { tokens = tokens; ranges = ranges; tokens_are = tokens_are; ranges_are = ranges_are; first = first }

  -- so is how a run ends
  pub whole_over : (s : Summary) → Ran (IsWhole (FirstAt basis script tokens ranges) s) Left false a b f n → Ran (IsWhole (FirstOver basis script) s) Left false a b f n
  whole_over s (now, bytes, pages, (replies, first, is, sum, counts), left, taken, fetched) =
      (now, bytes, pages, (replies, first_over replies 0 now first, is, sum, counts), left, taken, fetched)

  pub cut_over : Ran (IsCutOff (FirstAt basis script tokens ranges)) Left true a b f n → Ran (IsCutOff (FirstOver basis script)) Left true a b f n
  cut_over (now, bytes, pages, (replies, next, rest, front, first, cut, is, sum), left, taken, fetched) =
      (now, bytes, pages, (replies, next, rest, front, first_over (replies ++ next ∷ []) rest now first, cut, is, sum), left, taken, fetched)

  pub stopped_over : (fault : RunFault) → Ran (IsStopped (EndedAt basis script tokens ranges fault)) Left false a b f n → Ran (IsStopped (EndedOver basis script fault)) Left false a b f n
  stopped_over fault (now, bytes, pages, (replies, rest, more, ended, is, sum), left, taken, fetched) = (
    now,
    bytes,
    pages,
    (replies, rest, more, record { tokens = tokens; ranges = ranges; tokens_are = tokens_are; ranges_are = ranges_are; ended = ended }, is, sum),
    left,
    taken,
    fetched,
  )

-- what follows from what holds of the value holds of the value
pub if_ok : {T E : Type 0} (r : Result T E) (P Q : T → Type 0) → ((x : T) → P x → Q x) → IfOk r P → IfOk r Q
if_ok (Ok x) P Q f h = f x h
if_ok (Err e) P Q f h = h

pub if_err : {T E : Type 0} (r : Result T E) (P Q : E → Type 0) → ((e : E) → P e → Q e) → IfErr r P → IfErr r Q
if_err (Ok x) P Q f h = h
if_err (Err e) P Q f h = f e h

-- the statements of the same tokens are the same
pub same_statements : (tokens tokens' : List Token) (ranges ranges' : List (ℕ × ℕ)) → tokens ≡ tokens' → ranges ≡ ranges' → AreStatements tokens' ranges' → AreStatements tokens ranges
same_statements tokens tokens' ranges ranges' e f h = rw (e, f) h

-- ---- how often a write failed

-- one fault in two types raises it alike
pub same_failures : {T : Type 0} (U : Type 0) (r : Result T RunFault) (e : RunFault) (n : ℕ) → IsErrAnd r (λ x. x ≡ e) → failures_after r n ≡ failures_after {A = U} (Err e) n
same_failures U (Ok x) e n h = absurd h
same_failures U (Err f) e n h = rw h refl

-- ---- a run as a whole

-- memory was refused before the first statement
pub run_unbegun : (t : TreeView) (script : List ℕ) (r : Result Summary RunFault) (out : OutFacts) → r ≡ Err Memory → IsRun t t script r out out
run_unbegun t script r out is = subst (λ (q : Result Summary RunFault). IsRun t t script q out out) (sym is) (record {
  done = λ basis of. tt;
  cut = λ basis of bad. cc;
  stopped = λ basis of differs. inl (refl, refl, refl);
  failures = refl;
  effect = runs_memory (Err Memory) t refl;
  asked = λ asks. record { same = refl; faults = tt };
})

-- the statements of its tokens were run
pub run_over : (t now : TreeView) (script : List ℕ) (tokens : List Token) (ranges : List (ℕ × ℕ)) (r : Result Summary RunFault) (out out_now : OutFacts)
    → AreTokens script tokens → AreStatements tokens ranges
    → OnEach t (λ basis. IfOk r (λ s. Ran (IsWhole (FirstAt basis script tokens ranges) s) (IsBasisOf now) false out out_now t.trace.fetches now.trace.fetches))
    → OnEach t (λ basis. IsErrOf r Write → Ran (IsCutOff (FirstAt basis script tokens ranges)) (IsBasisOf now) true out out_now t.trace.fetches now.trace.fetches)
    → OnEach t (λ basis. IfErr r (λ e. e ≢ Write → Ran (IsStopped (EndedAt basis script tokens ranges e)) (IsRestOf now) false out out_now t.trace.fetches now.trace.fetches))
    → out_now.failures ≡ failures_after r out.failures → Runs t now r → (AreAsking t.schema script tokens ranges → RunsReading t now r) → IsRun t now script r out out_now
run_over t now script tokens ranges r out out_now tokens_are ranges_are done cut stopped failures effect asked = record {
  done = λ basis of. if_ok r _ _ (λ s h. whole_over basis script tokens ranges tokens_are ranges_are (IsBasisOf now) out out_now t.trace.fetches now.trace.fetches s h) (done basis of);
  cut = λ basis of is. cut_over basis script tokens ranges tokens_are ranges_are (IsBasisOf now) out out_now t.trace.fetches now.trace.fetches (cut basis of is);
  stopped = λ basis of. if_err r _ _
      (λ e h differs. inr (stopped_over basis script tokens ranges tokens_are ranges_are (IsRestOf now) out out_now t.trace.fetches now.trace.fetches e (h differs))) (stopped basis of);
  failures = failures;
  effect = effect;
  asked = λ asks. asked (asks tokens ranges tokens_are ranges_are);
}
