use Rattle.std.proofs.Common.{inl, inr, refl}
use Rattle.ub_shell.specs.Loaded.{axes_asked}
use Rattle.ub_shell.proofs.LastFacts.{loaded_lasts}
use Rattle.ub_table_file.proofs.Laws.{has_read, never_done, not_read, not_so, read_honest, store_says}
use Rattle.ub_shell.proofs.CrashFacts.{load_same, load_still, loaded_safely}
use Rattle.ub_shell.proofs.loading.load_file.Goals as goal

pub returns-in-Ok-clause-loads : goal.returns-in-Ok-clause-loads
returns-in-Ok-clause-loads g c = inr (
  c.is_mask.ensures.0 c.if-not-is_mask.false,
  inr (
    not_so c.is_same.result _ c.is_same.ensures.1 c.if-is_same.false,
    inl (record {
      text = c.in-Ok.ensures.read.0;
      mid = g.F.Files.facts c.read_text.new.files;
      read = has_read _ c.in-Ok.ensures.read.0 _ _ _ c.in-Ok.ensures.read.1 c.in-Ok.ensures.effect;
      ended = c.keep_read.ensures.keeps c.in-Ok.ensures.read.0 c.in-Ok.ensures.read.2;
    }),
  ),
)

pub returns-then-not-is_mask-clause-loads : goal.returns-then-not-is_mask-clause-loads
returns-then-not-is_mask-clause-loads g c = inl (record { bad = not_so c.is_mask.result _ c.is_mask.ensures.1 c.if-not-is_mask.true; files = refl; tells = c.tell.ensures })

pub returns-then-is_same-clause-loads : goal.returns-then-is_same-clause-loads
returns-then-is_same-clause-loads g c = inr (
  c.is_mask.ensures.0 c.if-not-is_mask.false,
  inl (record { same = c.is_same.ensures.0 c.if-is_same.true; files = refl; tells = c.tell-then-is_same.ensures }),
)

pub returns-in-Err-clause-loads : goal.returns-in-Err-clause-loads
returns-in-Err-clause-loads g c = inr (
  c.is_mask.ensures.0 c.if-not-is_mask.false,
  inr (
    not_so c.is_same.result _ c.is_same.ensures.1 c.if-is_same.false,
    inr (not_read _ _ _ c.in-Err.fault _ _ _ c.in-Err.ensures.faults c.in-Err.ensures.effect c.tell_store_fault.ensures),
  ),
)

pub read_text-requires-clause-numbers : goal.read_text-requires-clause-numbers
read_text-requires-clause-numbers g c = c.requires.numbers

pub read_text-requires-clause-mask : goal.read_text-requires-clause-mask
read_text-requires-clause-mask g c = c.is_mask.ensures.0 c.if-not-is_mask.false

pub keep_read-requires : goal.keep_read-requires
keep_read-requires g c = (c.in-Ok.ensures.read.0, c.in-Ok.ensures.read.2)

pub returns-in-Ok-clause-crash : goal.returns-in-Ok-clause-crash
returns-in-Ok-clause-crash g c =
    loaded_safely c.args.asked.source.path.now c.args.asked.table.now c.in-Ok.ensures.read.0 c.args.asked.source.name.now (axes_asked c.args.asked.source) c.args.asked.source.page_rows
    (g.F.Files.facts c.args.files.now) (g.F.Files.facts c.read_text.new.files) _ _ _
    (not_so c.is_same.result _ c.is_same.ensures.1 c.if-is_same.false)
    (has_read _ c.in-Ok.ensures.read.0 _ _ _ c.in-Ok.ensures.read.1 c.in-Ok.ensures.effect)
    c.in-Ok.ensures.crash (c.keep_read.ensures.crash c.in-Ok.ensures.read.0 c.in-Ok.ensures.read.2)

pub returns-then-not-is_mask-clause-crash : goal.returns-then-not-is_mask-clause-crash
returns-then-not-is_mask-clause-crash g c = load_still c.args.asked.source.path.now c.args.asked.table.now c.args.asked.source.name.now (axes_asked c.args.asked.source) c.args.asked.source.page_rows (g.F.Files.facts c.args.files.now) _

pub returns-then-is_same-clause-crash : goal.returns-then-is_same-clause-crash
returns-then-is_same-clause-crash g c = load_still c.args.asked.source.path.now c.args.asked.table.now c.args.asked.source.name.now (axes_asked c.args.asked.source) c.args.asked.source.page_rows (g.F.Files.facts c.args.files.now) _

pub returns-in-Err-clause-crash : goal.returns-in-Err-clause-crash
returns-in-Err-clause-crash g c = load_same c.args.asked.source.path.now c.args.asked.table.now c.args.asked.source.name.now (axes_asked c.args.asked.source) c.args.asked.source.page_rows (g.F.Files.facts c.args.files.now) _ _ c.in-Err.ensures.crash

pub returns-in-Ok-clause-lasts : goal.returns-in-Ok-clause-lasts
returns-in-Ok-clause-lasts g c = λ done.
    let read = has_read _ c.in-Ok.ensures.read.0 _ _ _ c.in-Ok.ensures.read.1 c.in-Ok.ensures.effect in
    loaded_lasts c.args.asked.source.path.now c.args.asked.table.now c.in-Ok.ensures.read.0 c.args.asked.source.name.now (axes_asked c.args.asked.source) c.args.asked.source.page_rows
    (g.F.Files.facts c.args.files.now) (g.F.Files.facts c.read_text.new.files) (g.F.Files.clock c.keep_read.new.files) read (read_honest _ _ _ _ read)
    (c.keep_read.ensures.lasts c.in-Ok.ensures.read.0 c.in-Ok.ensures.read.2 done)

pub returns-then-not-is_mask-clause-lasts : goal.returns-then-not-is_mask-clause-lasts
returns-then-not-is_mask-clause-lasts g c = λ done. absurd (never_done _ _ _ _ c.tell.result c.tell.ensures refl (inl done))

pub returns-then-is_same-clause-lasts : goal.returns-then-is_same-clause-lasts
returns-then-is_same-clause-lasts g c = λ done. absurd (never_done _ _ _ _ c.tell-then-is_same.result c.tell-then-is_same.ensures refl (inl done))

pub returns-in-Err-clause-lasts : goal.returns-in-Err-clause-lasts
returns-in-Err-clause-lasts g c = λ done. absurd (never_done _ _ _ _ c.tell_store_fault.result c.tell_store_fault.ensures (store_says c.in-Err.fault) (inl done))
