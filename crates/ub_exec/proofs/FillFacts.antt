-- The rows of a sweep that was begun, put in one after the other until the limit is filled or none is left.
use Rattle.std.proofs.Common.{◌≡◌, ◌<◌, ◌≤◌, ◌++◌, ◌∷◌, inr, ℕ, Bool, List, [], Option, Some, None, Result, Ok, Err, IfOk, IfSome, ◌∙◌, length, map, refl, sym, ap, subst}
use Rattle.std.proofs.lemmas.List.{length-map, map-append}
use Rattle.std.specs.List.{AllByRecursion}
use Rattle.std.specs.Prelude.{OnErr, OnOk}
use Rattle.std.specs.Result.{IsErrAnd}
use Rattle.ub_answer.specs.Held.{lines}
use Rattle.ub_answer.specs.Shaped.{IsShaped}
use Rattle.ub_exec.proofs.BreakFacts.{swept_after, swept_before}
use Rattle.ub_exec.proofs.ComeFacts.{BreaksOff, ComesOn, HasComeOn, HasComeOn-begun, HasComeOn-more, IsAtWork, IsBegunOver, swept_broken, swept_first, swept_full, swept_whole}
use Rattle.ub_exec.proofs.NotedFacts.{is_swept, notes_none, notes_ok, notes_then, swept_err}
use Rattle.ub_exec.proofs.SweptFacts.{HasSwept, HasSwept-none, HasSwept-more, begun_fetches, few_more, few_none, noted_more, wide_more, ended_fetched, ended_answered, filled_fetched, filled_answered, filled_is, left_is, swept_kind}
use Rattle.ub_exec.specs.Answers.{IsAnswer, IsReady, IsSwept, begun}
use Rattle.ub_exec.specs.Reading.{IsFilled, NotesPages, ReadsSwept}
use Rattle.ub_exec.specs.Sweeping.{Fills, IsBegun}
use Rattle.ub_exec.specs.Visits.{HasFetched, HasFetchedFirst, fetches_then}
use Rattle.ub_planning.specs.Plan.{PlanView}
use Rattle.ub_planning.specs.Visits.{Event}
use Rattle.ub_query.specs.Cells.{row_cell}
use Rattle.ub_query.specs.Posed.{IsPosed}
use Rattle.ub_query.specs.Shape.{Asked}
use Rattle.ub_query.specs.declared.cell.Cell.{Cell}
use Rattle.ub_query.specs.declared.query.Item.{Item}
use Rattle.ub_table.specs.declared.row.Row.{Row}
use Rattle.ub_table.specs.declared.schema.Schema.{Schema}
use Rattle.ub_tetris.specs.Sweep.{HasBegun, HasBroken, HasStepped, IsStarted, IsSweepOf, IsSweeping, SweepView, rows_left}
use Rattle.ub_tetris.specs.Sweep as sweep
use Rattle.ub_tree.proofs.Laws.{Keeps, Keeps-by, Keeps-more, Keeps-none}
use Rattle.ub_tree.specs.Reading.{ReadsTree}
use Rattle.ub_tree.specs.View.{TreeView}
use Rattle.ub_tree.specs.declared.read_fault.ReadFault.{ReadFault}

-- ---- rows and their lines

-- one row more is one line more
pub lines_more : (schema new : Schema) (items : List Item) (rows more : List Row) (row : Row) → more ≡ rows ++ row ∷ [] → new ≡ schema
    → lines schema items more ≡ lines schema items rows ++ map (row_cell new row) items ∷ []
lines_more schema new items rows more row is same =
    ap (lines schema items) is ∙ map-append (λ (r : Row). map (row_cell schema r) items) rows (row ∷ [])
    ∙ ap (λ (s : Schema). lines schema items rows ++ map (row_cell s row) items ∷ []) (sym same)

-- the lines of the rows that are held
abbrev pub held : PlanView → TreeView → List Row → List (List Cell)
held p start rows = lines start.schema p.asked.items rows

held_long : (p : PlanView) (start : TreeView) (rows : List Row) (count : ℕ) → count ≡ length rows → count ≡ length (held p start rows)
held_long p start rows count is = is ∙ sym (length-map rows (λ (r : Row). map (row_cell start.schema r) p.asked.items))

-- they are fewer than the limit says, or as many, by the names that the code has for the query and their number
pub left_by : (q : Asked) (p : PlanView) (start : TreeView) (count : ℕ) (rows : List Row) → q ≡ p.asked → count ≡ length rows → IfSome q.limit (λ most. count < most)
    → IfSome p.asked.limit (λ most. length (held p start rows) < most)
left_by q p start count rows same long left = left_is q p.asked count (held p start rows) same (held_long p start rows count long) left

pub filled_by : (q : Asked) (p : PlanView) (start : TreeView) (count : ℕ) (rows : List Row) → q ≡ p.asked → count ≡ length rows → IsFilled q.limit count
    → IsFilled p.asked.limit (length (held p start rows))
filled_by q p start count rows same long full = filled_is q p.asked count (held p start rows) same (held_long p start rows count long) full

-- the lines of a result, by the names that the code has for its schema and its query
pub result_is : (cells : List (List Cell)) (schema seen : Schema) (q asked : Asked) (rows : List Row) → cells ≡ lines seen asked.items rows → seen ≡ schema → asked ≡ q
    → cells ≡ lines schema q.items rows
result_is cells schema seen q asked rows is seen_is asked_is =
    is ∙ ap (λ (s : Schema). lines s asked.items rows) seen_is ∙ ap (λ (q : Asked). lines schema q.items rows) asked_is

-- the query is posed over the schema, by these names
pub posed_as : (schema seen : Schema) (q asked : Asked) → seen ≡ schema → asked ≡ q → IsPosed (length schema.columns) q → IsPosed (length seen.columns) asked
posed_as schema seen q asked seen_is asked_is posed =
    subst (λ (s : Schema). IsPosed (length s.columns) asked) (sym seen_is) (subst (λ (q : Asked). IsPosed (length schema.columns) q) (sym asked_is) posed)

-- ---- turn by turn

-- so far as it has come
pub record HasFilled (p : PlanView) (start now : TreeView) (first s : SweepView) (cells : List (List Cell)) : Type 0 where
  pub kept : Keeps start now
  pub few : IfSome p.asked.limit (λ most. length cells ≤ most)
  pub works : IsAtWork now s
  pub come_on : HasComeOn p start now s
  pub notes : NotesPages {A = Unit {0}} start now (Ok tt)
  pub fetches : now.trace.fetches ≡ fetches_then start.trace.fetches (length now.trace.pages)
  pub wide : AllByRecursion (λ cells. length cells ≡ length p.asked.items) cells
  pub come : HasBegun p start first → HasSwept p now s cells

pub HasFilled-none : (p : PlanView) (t : TreeView) (s : SweepView) (cells : List (List Cell)) → IsBegun p t s → cells ≡ [] → HasFilled p t t s s cells
HasFilled-none p t s cells begins none = record {
  kept = Keeps-none t;
  few = few_none p.asked.limit cells none;
  works = (begins.started.working, begins.started.stretches);
  come_on = HasComeOn-begun p t s begins.met;
  notes = notes_none (Ok tt) t t refl;
  fetches = begun_fetches t t begins.fresh;
  wide = subst (λ (rows : List (List Cell)). AllByRecursion (λ cells. length cells ≡ length p.asked.items) rows) (sym none) tt;
  come = λ has_begun. subst (λ (rows : List (List Cell)). HasSwept p t s rows) (sym none) (HasSwept-none p t s has_begun);
}

module _ (p : PlanView) (start now : TreeView) (first s : SweepView) (cells : List (List Cell)) (fresh : start ≡ begun start) (so_far : HasFilled p start now first s cells) where
  swept : (begins : HasBegun p start first) → HasSwept p now s cells
  swept begins = so_far.come begins

  kind_of : HasBegun p start first → IsSwept p.kind
  kind_of begins = is_swept p.kind first.dim first.is_descending begins.sweeping.swept.kind

  -- the limit is filled
  pub fills_full : IsFilled p.asked.limit (length cells) → Fills p start now first cells
  fills_full full = record {
    shaped = record { wide = so_far.wide; few = so_far.few };
    answers = λ begins plain. filled_answered p start now s cells plain so_far.kept so_far.fetches (swept begins) (kind_of begins) full so_far.few;
    fetches = λ begins plain. subst (λ (t : TreeView). HasFetched p t now) (sym fresh)
        (filled_fetched p start now s cells plain so_far.kept so_far.fetches (swept begins) (kind_of begins) full so_far.few);
  }

  pub swept_filled : IsFilled p.asked.limit (length cells) → ReadsSwept p start now (λ (rows : List (List Cell)). length rows) (Ok cells)
  swept_filled full dim is_descending of = swept_full p start now s so_far.come_on dim is_descending of p.asked.limit (length cells) full

  module _ (left : IfSome p.asked.limit (λ most. length cells < most)) (new : TreeView) (new_s : SweepView) where
    -- asking for the next row was ended by a fault
    pub broken_asking : (fault : ReadFault) → NotesPages {A = Option Row} now new (Err fault) → ReadsTree {A = Option Row} now new (Err fault)
        → (breaks : (given rest : List Row) (fetched unread : List Event) → IsSweeping p now s given rest fetched unread → HasBroken new s rest fetched unread)
        → HasBegun p start first → p.asked.group ≡ [] → (count : ℕ) × HasFetchedFirst p start new count
    broken_asking fault notes reads breaks begins plain =
        let so = swept begins in
        subst (λ (t : TreeView). (count : ℕ) × HasFetchedFirst p t new count) (sym fresh)
        (swept_before p start now new s cells plain so_far.kept so (ap (λ (t : TreeView). t.placed) reads.same) (noted_more (Err fault) start now new so_far.fetches notes) left
        (breaks so.given so.rest so.fetched so.unread so.sweeping))

    pub swept_asking : (fault : ReadFault) → BreaksOff p s now new → ReadsSwept p start new (λ (rows : List (List Cell)). length rows) (Err fault)
    swept_asking fault broken dim is_descending of = inr (swept_broken p start now s so_far.kept.traced so_far.come_on new broken dim is_descending of)

    pub notes_broken : {A : Type 0} (fault : ReadFault) → NotesPages {A = Option Row} now new (Err fault) → NotesPages {A = A} start new (Err fault)
    notes_broken fault notes =
        let all : NotesPages {A = Option Row} start new (Err fault) = notes_then {A = Unit {0}} tt (Err fault) start now new so_far.kept.traced so_far.notes notes in
        record { noted = all.noted; trace_is = all.trace_is; fetches_are = all.fetches_are; read = tt }

    module _ (found : Option Row) (notes : NotesPages now new (Ok found)) (reads : ReadsTree now new (Ok found)) where
      after : Keeps now new
      after = Keeps-by now new reads.same

      kept : Keeps start new
      kept = Keeps-more _ _ _ so_far.kept after

      fetches : new.trace.fetches ≡ fetches_then start.trace.fetches (length new.trace.pages)
      fetches = noted_more (Ok found) start now new so_far.fetches notes

      pub reads_after : {A : Type 0} (x : A) → ReadsTree start new (Ok x)
      reads_after x = record { same = kept.traced; faults = tt }

      pub notes_after : {A : Type 0} (x : A) → NotesPages start new (Ok x)
      notes_after x = notes_then {A = Unit {0}} tt (Ok x) start now new so_far.kept.traced so_far.notes (notes_ok found x now new notes)

      module _ (steps : (given rest : List Row) (fetched unread : List Event) → IsSweeping p now s given rest fetched unread → HasStepped p new new_s given rest fetched unread found)
          (comes : ComesOn p s new_s now new found) where
        -- it has none left
        pub fills_ended : found ≡ None → Fills p start new first cells
        fills_ended none = record {
          shaped = record { wide = so_far.wide; few = so_far.few };
          answers = λ begins plain.
              let so = swept begins in
              ended_answered p start now new s new_s cells plain kept fetches so after.regions.schema left
              (subst (HasStepped p new new_s so.given so.rest so.fetched so.unread) none (steps so.given so.rest so.fetched so.unread so.sweeping));
          fetches = λ begins plain.
              let so = swept begins in
              subst (λ (t : TreeView). HasFetched p t new) (sym fresh)
              (ended_fetched p start now new s new_s cells plain kept fetches so after.regions.schema left
              (subst (HasStepped p new new_s so.given so.rest so.fetched so.unread) none (steps so.given so.rest so.fetched so.unread so.sweeping)));
        }

        comes_further : HasComeOn p start new new_s
        comes_further = HasComeOn-more p start now s so_far.kept.traced so_far.come_on new found new_s comes

        pub swept_ended : found ≡ None → ReadsSwept p start new (λ (rows : List (List Cell)). length rows) (Ok cells)
        swept_ended none dim is_descending of = swept_whole p start new new_s comes_further dim is_descending of p.asked.limit (length cells) (comes.ended none)

        -- memory was refused for what it gave
        pub swept_putting : (r : Result (List (List Cell)) ReadFault) (P : ReadFault → Type 0) → IsErrAnd r P → ReadsSwept p start new (λ (rows : List (List Cell)). length rows) r
        swept_putting r P is = swept_err (λ (rows : List (List Cell)). length rows) r P p start new is (λ dim is_descending of. inr (swept_first p start new new_s comes_further dim is_descending of))

        module _ (row : Row) (some : found ≡ Some row) where
          -- it gave a row, which wasn't put in
          pub broken_putting : HasBegun p start first → p.asked.group ≡ [] → (count : ℕ) × HasFetchedFirst p start new count
          broken_putting begins plain =
              let so = swept begins in
              subst (λ (t : TreeView). (count : ℕ) × HasFetchedFirst p t new count) (sym fresh)
              (swept_after p start now new s new_s cells plain so kept fetches left row
              (subst (HasStepped p new new_s so.given so.rest so.fetched so.unread) some (steps so.given so.rest so.fetched so.unread so.sweeping)))

          -- or it was
          pub HasFilled-more : (more : List (List Cell)) → more ≡ cells ++ map (row_cell new.schema row) p.asked.items ∷ [] → IsAtWork new new_s → HasFilled p start new first new_s more
          HasFilled-more more put works = record {
            kept = kept;
            few = few_more p.asked.limit cells _ more put left;
            works = works;
            come_on = comes_further;
            notes = notes_after tt;
            fetches = fetches;
            wide = subst (λ (rows : List (List Cell)). AllByRecursion (λ cells. length cells ≡ length p.asked.items) rows) (sym put)
                (wide_more (length p.asked.items) cells _ so_far.wide (length-map p.asked.items (row_cell new.schema row)));
            come = λ begins.
                let so = swept begins in
                HasSwept-more p now new s new_s cells more row so
                (subst (HasStepped p new new_s so.given so.rest so.fetched so.unread) some (steps so.given so.rest so.fetched so.unread so.sweeping)) after.regions.schema put;
          }

          pub comes_down : rows_left new_s < rows_left s
          comes_down = let with_row : ComesOn p s new_s now new (Some row) = subst (ComesOn p s new_s now new) some comes in with_row.fewer

-- ---- a sweep that was begun, and its rows put in

module _ (p : PlanView) (old mid : TreeView) (s : SweepView) (is : mid ≡ begun old) where
  pub is_begun : IsStarted mid s → IsBegunOver p old mid s → IsBegun p mid s
  is_begun started met = record {
    fresh = is ∙ ap begun (sym is);
    started = started;
    met = λ dim is_descending of. met dim is_descending (subst (λ (t : TreeView). IsSweepOf t.schema p dim is_descending) is of);
  }

  pub has_begun : IsReady old p → IsSwept p.kind → ((dim : ℕ) (is_descending : Bool) → sweep.IsSwept old p dim is_descending → HasBegun p mid s) → HasBegun p mid s
  has_begun ready kind begins =
      let (dim, is_descending, kind_is) = swept_kind p.kind kind in
      begins dim is_descending (record { sound = ready.sound; planned = ready.planned; kind = kind_is })

  module _ (new : TreeView) where
    pub filled_means : (r : Result (List (List Cell)) ReadFault) → IfOk r (Fills p mid new s) → HasBegun p mid s → p.asked.group ≡ [] → IfOk r (λ cells. IsAnswer old p.asked cells)
    filled_means (Ok cells) fills begins plain = subst (λ (t : TreeView). IsAnswer t p.asked cells) is (fills.answers begins plain)
    filled_means (Err fault) fills begins plain = tt

    pub filled_shaped : (r : Result (List (List Cell)) ReadFault) → IfOk r (Fills p mid new s) → IfOk r (IsShaped p.asked)
    filled_shaped (Ok cells) fills = fills.shaped
    filled_shaped (Err fault) fills = tt

    pub filled_pages : (r : Result (List (List Cell)) ReadFault) → IfOk r (Fills p mid new s) → HasBegun p mid s → p.asked.group ≡ [] → OnOk r (HasFetched p (begun old) new)
    filled_pages (Ok cells) fills begins plain = subst (λ (t : TreeView). HasFetched p t new) is (fills.fetches begins plain)
    filled_pages (Err fault) fills begins plain = tt

    pub filled_swept : (r : Result (List (List Cell)) ReadFault) → ReadsSwept p mid new (λ (rows : List (List Cell)). length rows) r
        → ReadsSwept p (begun old) new (λ (rows : List (List Cell)). length rows) r
    filled_swept r reads = subst (λ (t : TreeView). ReadsSwept p t new (λ (rows : List (List Cell)). length rows) r) is reads

    pub filled_broken : {A : Type 0} (r : Result A ReadFault) → OnErr r ((count : ℕ) × HasFetchedFirst p mid new count) → OnErr r ((count : ℕ) × HasFetchedFirst p (begun old) new count)
    filled_broken r broken = subst (λ (t : TreeView). OnErr r ((count : ℕ) × HasFetchedFirst p t new count)) is broken
