use Rattle.std.proofs.Common.{ℕ, refl, sym, subst}
use Rattle.method_flow.specs.Nodes.{At, IsEdge, IsReached}
use Rattle.method_flow.specs.Nodes.IsReached.{first}
use Rattle.known_ints.proofs.Entering.{entered, comes}
use Rattle.known_ints.proofs.code.is_entered.Goals as goal

pub returns-then-place-eq0 : goal.returns-then-place-eq0
returns-then-place-eq0 c P m of = ((λ e. subst (λ (q : ℕ). IsReached (IsEdge P m) (At q)) (sym c.if-place-eq0.true) first), (λ h. refl))

pub returns : goal.returns
returns c P m of =
    let g = c.args.graph.now in
    let p = c.args.place in
    ((λ e. comes P m g of p (c.has_source.ensures.0 e)), (λ h. c.has_source.ensures.1 (entered P m g of p h c.if-place-eq0.false)))
