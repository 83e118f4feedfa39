use Rattle.std.proofs.Common.{◌≡◌, sym}
use Rattle.std.proofs.lemmas.Result.{on_ok_weaker}
use Rattle.lists.proofs.Lemmas.{none≢some, some_same}
use Rattle.loop_finder.specs.Beginning.{IsSteppedAt}
use Rattle.loop_finder.proofs.Adding.{adds_as, adds_none}
use Rattle.loop_finder.proofs.beginning.add_stepped.Goals as goal

pub returns-in-Some : goal.returns-in-Some
returns-in-Some c =
    let b = c.args.body.now in
    let h = c.args.marks.now.header in
    let local = c.in-Some.local in
    on_ok_weaker c.add_beginning.result
    (λ a P known m of are writers.
    adds_as P known m b.graph h (λ k. k ≡ local) (λ k. IsSteppedAt b h k c.args.node) c.args.found.now.items c.add_beginning.new.found.items
    (λ k s. sym (some_same local k (c.in-Some.ensures are writers k s))) (a P known m of are))
    c.add_beginning.ensures

pub returns-in-None : goal.returns-in-None
returns-in-None c P known m of are writers =
    let b = c.args.body.now in
    let h = c.args.marks.now.header in
    adds_none P known m b.graph h (λ k. IsSteppedAt b h k c.args.node) c.args.found.now.items (λ k s. none≢some k (c.in-None.ensures are writers k s))
