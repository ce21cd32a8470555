-- What contracts see of a place in memory that keeps its calls.
use Rattle.std.specs.Prelude.{◌≡◌, ◌≤◌, ◌++◌, ◌∷◌, [], ℕ, List, Some, None, Bool, Option, option_map, length, take, slice_index_or, Result, Ok, Err}
use Rattle.ub_store.specs.Facts.{zero_page}
use Rattle.ub_journal.specs.Image.{Image, Journal, begun, told}
use Rattle.ub_journal.specs.Crash.{Drafts, Publishes, Removes, Resizes, TearsMark, TearsPage, with_count, with_draft, with_journal, with_mark, with_page}
use Rattle.ub_journal.specs.Place.{PlaceFacts, SameDraft, SameJournal, SameTable, counted}
use Rattle.ub_journal.specs.declared.place.Failed.{Failed}
use Rattle.ub_journal.specs.declared.torn.Deed.{Deed}
use Rattle.ub_journal.specs.declared.torn.Deed.TheVariants as deed
use Rattle.ub_journal.specs.declared.torn.TornPlace.{TornPlace}

-- what is seen after a call
abbrev pub done : Deed → Image → Image
done (deed.Write n page) i = with_page n page i
done deed.Mark i = with_mark i
done (deed.Resize count) i = with_count count i
done deed.Sync i = i
done (deed.Draft j) i = with_draft (told j) i
done deed.SyncDraft i = i
done deed.Publish i = with_journal (Some i.draft) i
done deed.Remove i = with_journal None i
done deed.SyncFolder i = i

-- what a crash may leave after a call of what it might leave before, where this was seen: a sync leaves of that what is seen
abbrev pub torn : Deed → Image → Image → Image → Type 0
torn (deed.Write n page) seen old new = TearsPage n old new
torn deed.Mark seen old new = TearsMark old new
torn (deed.Resize count) seen old new = Resizes count old new
torn deed.Sync seen old new = (old ≡ new) × SameTable seen new
torn (deed.Draft j) seen old new = Drafts old new
torn deed.SyncDraft seen old new = (old ≡ new) × SameDraft seen new
torn deed.Publish seen old new = Publishes old new
torn deed.Remove seen old new = Removes old new
torn deed.SyncFolder seen old new = (old ≡ new) × SameJournal seen new

-- what is seen after these calls
abbrev pub seen_after : Image → List Deed → Image
seen_after i [] = i
seen_after i (d ∷ ds) = seen_after (done d i) ds

-- what a crash may leave after these calls, where it might leave what has P before them
abbrev pub left_after : (Image → Type 0) → Image → List Deed → Image → Type 0
left_after P seen [] c = P c
left_after P seen (d ∷ ds) c = left_after (λ new. (old : Image) × P old × torn d seen old new) (done d seen) ds c

-- what stood there at first: where no draft was written it is told as a journal of no table
abbrev pub first_image : TornPlace → Image
first_image p = record { table = p.first.items; rest = p.rest; draft = begun zero_page zero_page 0; journal = option_map told p.journal }

-- the facts of a place that is honest or not, where this stood at first, after these calls, and where so many failed. A moment is
-- how many calls were done
abbrev pub facts_after : Bool → Image → List Deed → ℕ → PlaceFacts
facts_after honest first ds failures = record {
  honest = honest;
  seen = seen_after first ds;
  may_leave = left_after (λ i. i ≡ first) first ds;
  moment = length ds;
  left_since = λ t c. (n : ℕ) × (t ≤ n) × (n ≤ length ds) × left_after (λ i. i ≡ first) first (take n ds) c;
  failures = failures;
}

abbrev pub torn_facts : TornPlace → PlaceFacts
torn_facts p = facts_after p.honest (first_image p) p.deeds.items p.failures

-- the calls that were done, after one with this result: at Ok this one more
abbrev pub noted : Deed → Result (Unit {0}) Failed → List Deed → List Deed
noted d (Ok x) ds = ds ++ d ∷ []
noted d (Err e) ds = ds

-- a call was noted, or failed
pub record Notes (d : Deed) (old new : TornPlace) (result : Result (Unit {0}) Failed) : Type 0 where
  pub honest : new.honest ≡ old.honest
  pub first : first_image new ≡ first_image old
  pub deeds : new.deeds.items ≡ noted d result old.deeds.items
  pub failures : new.failures ≡ counted result old.failures

-- of this image the page of this number is that one, if there is one, and there are so many pages
abbrev pub HoldsAt : Image → ℕ → ℕ → List ℕ → Type 0
HoldsAt i n count page = (count ≡ length i.table) × (page ≡ slice_index_or i.table n zero_page)

-- a place that is honest or not, where these pages stand, so many bytes after them, and this journal or none, all of which lasts;
-- no call has failed yet
pub record StandsAtFirst (pages : List (List ℕ)) (after : ℕ) (beside : Option Journal) (is_honest : Bool) (facts : PlaceFacts) : Type 0 where
  pub honest : facts.honest ≡ is_honest
  pub table : facts.seen.table ≡ pages
  pub rest : facts.seen.rest ≡ after
  pub journal : facts.seen.journal ≡ beside
  pub lasts : (c : Image) → facts.may_leave c → c ≡ facts.seen
  pub unfailed : facts.failures ≡ 0
