use Rattle.std.proofs.Common.{arith, refl}
use Rattle.ub_keeping.proofs.MadeFacts.{change_told, many_changes}
use Rattle.ub_keeping.proofs.replacing.ReplacingTells.put_change.Goals as goal

pub overflow_cast-number : goal.overflow_cast-number
overflow_cast-number g c =
    let less = c.requires.within in
    let many = many_changes (g.Q.Pages.pages c.args.self.now.pages.now) in
    let same = c.count-count.ensures in
    let few = c.count-count.type_inv in
    omega (arith, less, many, same, few)

pub overflow_add-number : goal.overflow_add-number
overflow_add-number g c =
    let less = c.requires.within in
    let many = many_changes (g.Q.Pages.pages c.args.self.now.pages.now) in
    let same = c.count-count.ensures in
    let few = c.count-count.type_inv in
    omega (arith, less, many, same, few)

pub put_page-requires : goal.put_page-requires
put_page-requires g c =
    let less = c.requires.within in
    let many = many_changes (g.Q.Pages.pages c.args.self.now.pages.now) in
    record { there = omega (arith, less, many) }

pub returns : goal.returns
returns g c = change_told (g.Q.Pages.pages c.args.self.now.pages.now) c.args.at _ c.put_page.new.page refl c.put_page.ensures
