use Rattle.std.proofs.Common.{ap, inl, inr, refl}
use Rattle.ub_files.specs.Files.{FilesFacts}
use Rattle.ub_table_file.proofs.Laws.{has_read, not_read, not_so, runs_both, runs_none, still_honest}
use Rattle.ub_shell.proofs.trial.try_files.Goals as goal

pub returns-clause-tries : goal.returns-clause-tries
returns-clause-tries g c = inr (
  c.is_mask.ensures.0 c.if-not-is_mask.false,
  inl (record {
    text = c.as_slice.result.now;
    asked = c.as_slice-2.result.now;
    mid = g.F.Files.facts c.read.new.self;
    source_read = has_read _ c.as_slice.result.now _ _ _ (rw c.as_slice.ensures.value c.in-Ok.ensures.text) c.in-Ok.ensures.effect;
    script_read = has_read _ c.as_slice-2.result.now _ _ _ (rw c.as_slice-2.ensures.value c.in-Ok-read.ensures.text) c.in-Ok-read.ensures.effect;
    tried = rw c.as_bytes.ensures.value at c.tell_try.ensures;
  }),
)

pub returns-in-Err-read-clause-tries : goal.returns-in-Err-read-clause-tries
returns-in-Err-read-clause-tries g c = inr (
  c.is_mask.ensures.0 c.if-not-is_mask.false,
  inr (inr (record {
    text = c.in-Ok.text.items;
    mid = g.F.Files.facts c.read.new.self;
    source_read = has_read _ c.in-Ok.text.items _ _ _ c.in-Ok.ensures.text c.in-Ok.ensures.effect;
    script_unread = not_read _ _ _ c.in-Err-read.fault _ _ _ c.in-Err-read.ensures.faults c.in-Err-read.ensures.effect c.tell_store_fault-in-Err-read.ensures;
  })),
)

pub returns-then-not-is_mask-clause-tries : goal.returns-then-not-is_mask-clause-tries
returns-then-not-is_mask-clause-tries g c = inl (record { bad = not_so c.is_mask.result _ c.is_mask.ensures.1 c.if-not-is_mask.true; files = refl; tells = c.tell.ensures })

pub returns-in-Err-clause-tries : goal.returns-in-Err-clause-tries
returns-in-Err-clause-tries g c = inr (
  c.is_mask.ensures.0 c.if-not-is_mask.false,
  inr (inl (not_read _ _ _ c.in-Err.fault _ _ _ c.in-Err.ensures.faults c.in-Err.ensures.effect c.tell_store_fault.ensures)),
)

pub tell_try-requires-clause-numbers : goal.tell_try-requires-clause-numbers
tell_try-requires-clause-numbers g c = c.requires.numbers

pub tell_try-requires-clause-mask : goal.tell_try-requires-clause-mask
tell_try-requires-clause-mask g c = c.is_mask.ensures.0 c.if-not-is_mask.false

pub returns-clause-crash : goal.returns-clause-crash
returns-clause-crash g c =
    runs_both (g.F.Files.facts c.args.files.now) (g.F.Files.facts c.read.new.self) _ _ _ (still_honest (g.F.Files.facts c.args.files.now) (g.F.Files.facts c.read.new.self) (ap (λ (f : FilesFacts). f.honest) c.in-Ok.ensures.effect.same)) c.in-Ok.ensures.crash c.in-Ok-read.ensures.crash

pub returns-in-Err-read-clause-crash : goal.returns-in-Err-read-clause-crash
returns-in-Err-read-clause-crash g c =
    runs_both (g.F.Files.facts c.args.files.now) (g.F.Files.facts c.read.new.self) _ _ _ (still_honest (g.F.Files.facts c.args.files.now) (g.F.Files.facts c.read.new.self) (ap (λ (f : FilesFacts). f.honest) c.in-Ok.ensures.effect.same)) c.in-Ok.ensures.crash c.in-Err-read.ensures.crash

pub returns-then-not-is_mask-clause-crash : goal.returns-then-not-is_mask-clause-crash
returns-then-not-is_mask-clause-crash g c = runs_none (g.F.Files.facts c.args.files.now) _

pub returns-in-Err-clause-crash : goal.returns-in-Err-clause-crash
returns-in-Err-clause-crash g c = c.in-Err.ensures.crash
