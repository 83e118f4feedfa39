use Rattle.std.proofs.Common.{ℕ, List, Option, None, not, get_or, take, sym, ap, ◌∙◌, subst}
use Rattle.std.specs.Prelude.{IsSome}
use Rattle.std.proofs.lemmas.List.{take_more, take_all}
use Rattle.std.proofs.lemmas.List.Elements.{All-push}
use Rattle.bound_finder.specs.Prepared.{AreAllSome}
use Rattle.bound_finder.proofs.charges.first_none.Goals as goal

pub loop-i-preserved : goal.loop-i-preserved
loop-i-preserved c =
    let found = c.args.found.now in
    let i = c.loop-i.i in
    let lt = c.loop-i-test.true in
    let here : IsSome (get_or found i None) = c.is_none.ensures ∙ ap not c.if-is_none.false in
    subst (λ (os : List (Option ℕ)). AreAllSome os) (sym (take_more found i None lt)) (All-push (λ (o : Option ℕ). IsSome o) (take i found) (get_or found i None) c.loop-i.invariant here)

pub returns : goal.returns
returns c = subst (λ (os : List (Option ℕ)). AreAllSome os) (take_all c.loop-i.i c.args.found.now c.loop-i-test.false) c.loop-i.invariant
