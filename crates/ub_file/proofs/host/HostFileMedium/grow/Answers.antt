-- Where there is a rest, it is cut away first, and the pages stay.
use Rattle.std.proofs.Common.{◌≡◌, ◌<◌, ◌+◌, ◌*◌, ◌/◌, ◌%◌, ap, arith, drop, subst, IsTrue}
use Rattle.ub_file.specs.Host.{HostView, facts_of_view, IsBlank}
use Rattle.ub_file.proofs.HostFacts.{extended, host_count, ok_or_err, reads_of, set_of}
use Rattle.ub_file.proofs.host.HostFileMedium.grow.Goals as goal
use Rattle.ub_store.specs.Facts.{Extends}

pub returns-in_err-cut_rest-clause-once : goal.returns-in_err-cut_rest-clause-once
returns-in_err-cut_rest-clause-once g c = λ whole. absurd (ok_or_err c.cut_rest.result _ _ (c.cut_rest.ensures.none whole).0 c.in_err-cut_rest.was)

pub overflow_add-self : goal.overflow_add-self
overflow_add-self g c =
    let room : c.args.self.now.length / 4096 < 4294967295 =
    rw (host_count (g.R.RawFile.facts c.args.self.now.file).honest c.args.self.now.length (g.R.RawFile.facts c.args.self.now.file).bytes) at c.requires.room in
    let cut : c.cut_rest.new.self.length ≡ 4096 * (c.args.self.now.length / 4096) = c.in_ok-cut_rest.ensures.cut in
    let same : c.set_length.inside.length ≡ c.cut_rest.new.self.length = ap (λ (v : HostView _). v.length) c.set_length.view_is in
    omega arith

pub returns-clause-effect : goal.returns-clause-effect
returns-clause-effect g c =
    let cut : c.cut_rest.new.self.length ≡ 4096 * (c.args.self.now.length / 4096) = c.in_ok-cut_rest.ensures.cut in
    let blank : IsTrue (g.R.RawFile.facts c.cut_rest.new.self.file).honest → IsBlank (drop c.cut_rest.new.self.length (g.R.RawFile.facts c.cut_rest.new.self.file).bytes) =
    subst (λ v. IsTrue (g.R.RawFile.facts v.file).honest → IsBlank (drop v.length (g.R.RawFile.facts v.file).bytes)) c.set_length.view_is (λ t. (c.set_length.invariant t).blank) in
    subst (λ f. Extends {A = Unit {0}} f (facts_of_view g.R.RawFile.facts c.set_length-2.new.self) c.set_length-2.result) c.in_ok-cut_rest.ensures.facts (
    rw (reads_of c.cut_rest.new.self c.set_length-2.new.self c.set_length-2.result c.set_length-2.ensures.same) (
    extended (c.set_length.inside.length + 4096) c.cut_rest.new.self.length c.set_length-2.new.self.length c.cut_rest.new.self.reads c.cut_rest.new.self.writes
    c.set_length-2.new.self.writes (g.R.RawFile.facts c.cut_rest.new.self.file) (g.R.RawFile.facts c.set_length-2.new.self.file) c.set_length-2.result
    (ap (λ (v : HostView _). v.length + 4096) c.set_length.view_is) (omega arith) blank c.set_length-2.ensures.honest c.set_length-2.ensures.effect
    (set_of (c.set_length.inside.length + 4096) c.cut_rest.new.self c.set_length-2.new.self c.set_length-2.result c.set_length-2.ensures.fault
    c.set_length-2.ensures.same c.set_length-2.ensures.set c.set_length-2.ensures.kept)))
