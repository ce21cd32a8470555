use Rattle.std.proofs.Common.{codes}
use Rattle.ub_words.specs.CommandLine.{append_app, load_app, next_app, query_app, run_app, table_app, try_app, ubq_app, upgrade_app}
use Rattle.ub_words.proofs.AskFacts.{bare_app}
use Rattle.ub_words.proofs.builder.program.Goals as goal

pub returns : goal.returns
unfolding ubq_app
returns c =
    let first = c.with_command-command.ensures bare_app load_app c.bare_program-command.ensures c.load_command.ensures in
    let second = c.with_command-command-2.ensures _ run_app first c.run_command.ensures in
    let third = c.with_command-command-3.ensures _ query_app second c.query_command.ensures in
    let fourth = c.with_command-command-4.ensures _ append_app third c.append_command.ensures in
    let fifth = c.with_command-command-5.ensures _ try_app fourth c.try_command.ensures in
    let sixth = c.with_command-command-6.ensures _ upgrade_app fifth c.upgrade_command.ensures in
    let seventh = c.with_command-command-7.ensures _ (table_app (codes "describe")) sixth c.describe_command.ensures in
    let eighth = c.with_command-command-8.ensures _ (table_app (codes "check")) seventh c.check_command.ensures in
    c.with_command.ensures _ next_app eighth c.next_command.ensures
