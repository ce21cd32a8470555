use Rattle.std.proofs.Common.{inr, refl}
use Rattle.std.specs.Prelude.{map, string_bytes}
use Rattle.ub_shell.proofs.CrashFacts.{append_crash, load_crash, no_crash, query_crash, run_crash, same_crash, upgrade_crash}
use Rattle.ub_shell.proofs.FileFacts.{ends_as, tells_as}
use Rattle.ub_shell.proofs.LastFacts.{lasting_as}
use Rattle.ub_table_file.proofs.Laws.{never_done}
use Rattle.ub_words.specs.declared.words.Asked.TheVariants as asked
use Rattle.ub_shell.proofs.command.run_words.Goals as goal

pub returns-in-Ok-Load : goal.returns-in-Ok-Load
returns-in-Ok-Load g c =
    record {
      ended = ends_as _ c.in-Ok-Load.field-0 (asked.Load c.in-Ok-Load.asked) _ _ _ _ _ _ _ c.in-Ok-Load.field-0-is c.in-Ok-Load.ensures (refl, c.load_file.ensures.loads);
      crash = load_crash (map string_bytes c.args.words.now) c.in-Ok-Load.field-0 (g.F.Files.facts c.args.files.now) _ _ (g.W.Out.facts c.args.out.now) (g.W.Out.facts c.load_file.new.out) (g.N.Out.facts c.args.notes.now) (g.N.Out.facts c.args.notes.now) c.load_file.result c.in-Ok-Load.asked c.in-Ok-Load.field-0-is c.in-Ok-Load.ensures c.load_file.ensures.crash;
      lasts = λ done. lasting_as (map string_bytes c.args.words.now) c.in-Ok-Load.field-0 (asked.Load c.in-Ok-Load.asked) (g.F.Files.facts c.args.files.now) (g.W.Out.facts c.args.out.now) (g.W.Out.facts c.load_file.new.out) (g.N.Out.facts c.args.notes.now) (g.N.Out.facts c.args.notes.now) c.load_file.result (g.F.Files.clock c.load_file.new.files) c.in-Ok-Load.field-0-is c.in-Ok-Load.ensures c.load_file.ensures.lasts;
    }

pub returns-in-Ok-Run : goal.returns-in-Ok-Run
returns-in-Ok-Run g c =
    record {
      ended = ends_as _ c.in-Ok-Run.field-0 (asked.Run c.in-Ok-Run.asked) _ _ _ _ _ _ _ c.in-Ok-Run.field-0-is c.in-Ok-Run.ensures (refl, c.run_file.ensures.runs);
      crash = run_crash (map string_bytes c.args.words.now) c.in-Ok-Run.field-0 (g.F.Files.facts c.args.files.now) _ _ (g.W.Out.facts c.args.out.now) (g.W.Out.facts c.run_file.new.out) (g.N.Out.facts c.args.notes.now) (g.N.Out.facts c.args.notes.now) c.run_file.result c.in-Ok-Run.asked c.in-Ok-Run.field-0-is c.in-Ok-Run.ensures c.run_file.ensures.crash;
      lasts = λ done. lasting_as (map string_bytes c.args.words.now) c.in-Ok-Run.field-0 (asked.Run c.in-Ok-Run.asked) (g.F.Files.facts c.args.files.now) (g.W.Out.facts c.args.out.now) (g.W.Out.facts c.run_file.new.out) (g.N.Out.facts c.args.notes.now) (g.N.Out.facts c.args.notes.now) c.run_file.result (g.F.Files.clock c.run_file.new.files) c.in-Ok-Run.field-0-is c.in-Ok-Run.ensures (c.run_file.ensures.lasts done);
    }

pub returns-in-Ok-Query : goal.returns-in-Ok-Query
returns-in-Ok-Query g c =
    record {
      ended = ends_as _ c.in-Ok-Query.field-0 (asked.Query c.in-Ok-Query.asked) _ _ _ _ _ _ _ c.in-Ok-Query.field-0-is c.in-Ok-Query.ensures c.query_file.ensures.queries;
      crash = query_crash (map string_bytes c.args.words.now) c.in-Ok-Query.field-0 (g.F.Files.facts c.args.files.now) _ _ (g.W.Out.facts c.args.out.now) (g.W.Out.facts c.query_file.new.out) (g.N.Out.facts c.args.notes.now) (g.N.Out.facts c.query_file.new.notes) c.query_file.result c.in-Ok-Query.asked c.in-Ok-Query.field-0-is c.in-Ok-Query.ensures c.query_file.ensures.crash;
      lasts = λ done. lasting_as (map string_bytes c.args.words.now) c.in-Ok-Query.field-0 (asked.Query c.in-Ok-Query.asked) (g.F.Files.facts c.args.files.now) (g.W.Out.facts c.args.out.now) (g.W.Out.facts c.query_file.new.out) (g.N.Out.facts c.args.notes.now) (g.N.Out.facts c.query_file.new.notes) c.query_file.result (g.F.Files.clock c.query_file.new.files) c.in-Ok-Query.field-0-is c.in-Ok-Query.ensures (c.query_file.ensures.lasts done);
    }

pub returns-in-Ok-Try : goal.returns-in-Ok-Try
returns-in-Ok-Try g c =
    record {
      ended = ends_as _ c.in-Ok-Try.field-0 (asked.Try c.in-Ok-Try.asked) _ _ _ _ _ _ _ c.in-Ok-Try.field-0-is c.in-Ok-Try.ensures (refl, c.try_files.ensures.tries);
      crash = same_crash (map string_bytes c.args.words.now) (g.F.Files.facts c.args.files.now) _ _ (g.W.Out.facts c.args.out.now) (g.W.Out.facts c.try_files.new.out) (g.N.Out.facts c.args.notes.now) (g.N.Out.facts c.args.notes.now) c.try_files.result c.try_files.ensures.crash;
      lasts = λ done. lasting_as (map string_bytes c.args.words.now) c.in-Ok-Try.field-0 (asked.Try c.in-Ok-Try.asked) (g.F.Files.facts c.args.files.now) (g.W.Out.facts c.args.out.now) (g.W.Out.facts c.try_files.new.out) (g.N.Out.facts c.args.notes.now) (g.N.Out.facts c.args.notes.now) c.try_files.result (g.F.Files.clock c.try_files.new.files) c.in-Ok-Try.field-0-is c.in-Ok-Try.ensures tt;
    }

pub returns-in-Ok-Upgrade : goal.returns-in-Ok-Upgrade
returns-in-Ok-Upgrade g c =
    record {
      ended = ends_as _ c.in-Ok-Upgrade.field-0 (asked.Upgrade c.in-Ok-Upgrade.asked) _ _ _ _ _ _ _ c.in-Ok-Upgrade.field-0-is c.in-Ok-Upgrade.ensures (refl, c.upgrade_file.ensures.upgrades);
      crash = upgrade_crash (map string_bytes c.args.words.now) c.in-Ok-Upgrade.field-0 (g.F.Files.facts c.args.files.now) _ _ (g.W.Out.facts c.args.out.now) (g.W.Out.facts c.upgrade_file.new.out) (g.N.Out.facts c.args.notes.now) (g.N.Out.facts c.args.notes.now) c.upgrade_file.result c.in-Ok-Upgrade.asked c.in-Ok-Upgrade.field-0-is c.in-Ok-Upgrade.ensures c.upgrade_file.ensures.crash;
      lasts = λ done. lasting_as (map string_bytes c.args.words.now) c.in-Ok-Upgrade.field-0 (asked.Upgrade c.in-Ok-Upgrade.asked) (g.F.Files.facts c.args.files.now) (g.W.Out.facts c.args.out.now) (g.W.Out.facts c.upgrade_file.new.out) (g.N.Out.facts c.args.notes.now) (g.N.Out.facts c.args.notes.now) c.upgrade_file.result (g.F.Files.clock c.upgrade_file.new.files) c.in-Ok-Upgrade.field-0-is c.in-Ok-Upgrade.ensures c.upgrade_file.ensures.lasts;
    }

pub returns-in-Ok-Table : goal.returns-in-Ok-Table
returns-in-Ok-Table g c =
    record {
      ended = ends_as _ c.in-Ok-Table.field-0 (asked.Table c.in-Ok-Table.asked) _ _ _ _ _ _ _ c.in-Ok-Table.field-0-is c.in-Ok-Table.ensures (refl, c.ask_file.ensures.asks);
      crash = same_crash (map string_bytes c.args.words.now) (g.F.Files.facts c.args.files.now) _ _ (g.W.Out.facts c.args.out.now) (g.W.Out.facts c.ask_file.new.out) (g.N.Out.facts c.args.notes.now) (g.N.Out.facts c.args.notes.now) c.ask_file.result c.ask_file.ensures.crash;
      lasts = λ done. lasting_as (map string_bytes c.args.words.now) c.in-Ok-Table.field-0 (asked.Table c.in-Ok-Table.asked) (g.F.Files.facts c.args.files.now) (g.W.Out.facts c.args.out.now) (g.W.Out.facts c.ask_file.new.out) (g.N.Out.facts c.args.notes.now) (g.N.Out.facts c.args.notes.now) c.ask_file.result (g.F.Files.clock c.ask_file.new.files) c.in-Ok-Table.field-0-is c.in-Ok-Table.ensures tt;
    }

pub returns-in-Ok-Next : goal.returns-in-Ok-Next
returns-in-Ok-Next g c =
    let told = c.tell_next.ensures in
    record {
      ended = ends_as _ c.in-Ok-Next.field-0 (asked.Next c.in-Ok-Next.asked) _ _ _ _ _ _ _ c.in-Ok-Next.field-0-is c.in-Ok-Next.ensures
          (refl, record { answer = told.0; answers = told.1; tells = told.2; files = refl });
      crash = no_crash (map string_bytes c.args.words.now) (g.F.Files.facts c.args.files.now) _ (g.W.Out.facts c.args.out.now) (g.W.Out.facts c.tell_next.new.out) (g.N.Out.facts c.args.notes.now) (g.N.Out.facts c.args.notes.now) c.tell_next.result;
      lasts = λ done. lasting_as (map string_bytes c.args.words.now) c.in-Ok-Next.field-0 (asked.Next c.in-Ok-Next.asked) (g.F.Files.facts c.args.files.now) (g.W.Out.facts c.args.out.now) (g.W.Out.facts c.tell_next.new.out) (g.N.Out.facts c.args.notes.now) (g.N.Out.facts c.args.notes.now) c.tell_next.result (g.F.Files.clock c.args.files.now) c.in-Ok-Next.field-0-is c.in-Ok-Next.ensures tt;
    }

pub returns-in-Ok-Help : goal.returns-in-Ok-Help
returns-in-Ok-Help g c =
    record {
      ended = ends_as _ c.in-Ok-Help.field-0 (asked.Help c.in-Ok-Help.text) _ _ _ _ _ _ _ c.in-Ok-Help.field-0-is c.in-Ok-Help.ensures
          (refl, (tells_as _ _ _ _ _ _ c.as_slice.ensures.value c.tell.ensures, refl));
      crash = no_crash (map string_bytes c.args.words.now) (g.F.Files.facts c.args.files.now) _ (g.W.Out.facts c.args.out.now) (g.W.Out.facts c.tell.new.out) (g.N.Out.facts c.args.notes.now) (g.N.Out.facts c.args.notes.now) c.tell.result;
      lasts = λ done. record { asked = c.in-Ok-Help.field-0; asks = c.in-Ok-Help.ensures; lasts = rw c.in-Ok-Help.field-0-is tt };
    }

pub returns-in-Ok-Wrong : goal.returns-in-Ok-Wrong
returns-in-Ok-Wrong g c =
    record {
      ended = ends_as _ c.in-Ok-Wrong.field-0 (asked.Wrong c.in-Ok-Wrong.text) _ _ _ _ _ _ _ c.in-Ok-Wrong.field-0-is c.in-Ok-Wrong.ensures
          (refl, (tells_as _ _ _ _ _ _ c.as_slice-in-Ok-Wrong.ensures.value c.tell-in-Ok-Wrong.ensures, refl));
      crash = no_crash (map string_bytes c.args.words.now) (g.F.Files.facts c.args.files.now) _ (g.W.Out.facts c.args.out.now) (g.W.Out.facts c.tell-in-Ok-Wrong.new.out) (g.N.Out.facts c.args.notes.now) (g.N.Out.facts c.args.notes.now) c.tell-in-Ok-Wrong.result;
      lasts = λ done. absurd (never_done _ _ _ _ c.tell-in-Ok-Wrong.result c.tell-in-Ok-Wrong.ensures refl done);
    }

pub returns-in-Err : goal.returns-in-Err
returns-in-Err g c =
    record {
      ended = inr (refl, record { tells = c.tell_memory.ensures; files = refl });
      crash = no_crash (map string_bytes c.args.words.now) (g.F.Files.facts c.args.files.now) _ (g.W.Out.facts c.args.out.now) (g.W.Out.facts c.tell_memory.new.out) (g.N.Out.facts c.args.notes.now) (g.N.Out.facts c.args.notes.now) c.tell_memory.result;
      lasts = λ done. absurd (never_done _ _ _ _ c.tell_memory.result c.tell_memory.ensures refl done);
    }

pub returns-in-Ok-Append : goal.returns-in-Ok-Append
returns-in-Ok-Append g c =
    record {
      ended = ends_as _ c.in-Ok-Append.field-0 (asked.Append c.in-Ok-Append.asked) _ _ _ _ _ _ _ c.in-Ok-Append.field-0-is c.in-Ok-Append.ensures (refl, c.append_file.ensures.appends);
      crash = append_crash (map string_bytes c.args.words.now) c.in-Ok-Append.field-0 (g.F.Files.facts c.args.files.now) _ _ (g.W.Out.facts c.args.out.now) (g.W.Out.facts c.append_file.new.out) (g.N.Out.facts c.args.notes.now) (g.N.Out.facts c.args.notes.now) c.append_file.result c.in-Ok-Append.asked c.in-Ok-Append.field-0-is c.in-Ok-Append.ensures c.append_file.ensures.crash;
      lasts = λ done. lasting_as (map string_bytes c.args.words.now) c.in-Ok-Append.field-0 (asked.Append c.in-Ok-Append.asked) (g.F.Files.facts c.args.files.now) (g.W.Out.facts c.args.out.now) (g.W.Out.facts c.append_file.new.out) (g.N.Out.facts c.args.notes.now) (g.N.Out.facts c.args.notes.now) c.append_file.result (g.F.Files.clock c.append_file.new.files) c.in-Ok-Append.field-0-is c.in-Ok-Append.ensures (c.append_file.ensures.lasts done);
    }
