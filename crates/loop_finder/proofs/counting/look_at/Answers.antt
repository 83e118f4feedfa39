use Rattle.std.proofs.Common.{◌*◌, ◌<◌, sym, ap, subst}
use Rattle.std.specs.Result.{OnOk}
use Rattle.std.proofs.lemmas.Result.{on_ok_weaker}
use Rattle.loop_nest.specs.Digraph.{Digraph}
use Rattle.loop_marks.specs.Marking.{AreMarksOf, AreSized}
use Rattle.loop_finder.specs.Counting.{Body, CountsByNode, CountsFor, IsLookedAt}
use Rattle.loop_finder.proofs.Known.{beside_none, looked_by}
use Rattle.loop_finder.proofs.counting.look_at.Goals as goal

pub look-requires : goal.look-requires
look-requires c =
    let back = sym (ap (λ (b : Body). b.graph) c.body.view_is) in
    let k = c.in-Some.choice in
    let fit = c.in-Some.ensures.fit in
    record {
      sized = subst (λ (d : Digraph). AreSized d c.args.marks.now) back c.requires.sized;
      moves = fit.2;
      test = subst (λ (d : Digraph). 2 * k.test < d.nodes) back fit.0;
      step = subst (λ (d : Digraph). 2 * k.step < d.nodes) back fit.1;
    }

pub returns-in-Some : goal.returns-in-Some
returns-in-Some c =
    let b = c.args.body.now in
    let m = c.args.marks.now in
    let k = c.in-Some.choice in
    let old = c.args.known.now in
    let new = c.look.new.known in
    let looked = subst (λ (d : Digraph). OnOk c.look.result (AreMarksOf d m → IsLookedAt d m.header (CountsFor d m.header k) old new)) (ap (λ (x : Body). x.graph) c.body.view_is) c.look.ensures in
    on_ok_weaker c.look.result (λ f marks before. looked_by b m.header c.args.node k old new (c.in-Some.ensures.choice marks before) (f marks)) looked

pub returns-in-None : goal.returns-in-None
returns-in-None c marks before = record {
  rest = λ rest. rest;
  least = λ rest. beside_none (CountsByNode c.args.body.now c.args.marks.now.header c.args.node) c.args.known.now.least (c.in-None.ensures.choice marks before);
}
