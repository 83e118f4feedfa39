use Rattle.std.proofs.Common.{ℕ, List, take, take_all, get_or, sym, subst}
use Rattle.std.proofs.lemmas.List.{take_more}
use Rattle.std.proofs.lemmas.Option.{slice_get-get_or, slice_get_within}
use Rattle.method_bounds.specs.Leasts.{AreFound}
use Rattle.method_bounds.proofs.Leasts.{none_found}
use Rattle.method_bounds.proofs.causes.leasts_of.Goals as goal

pub loop-m-init : goal.loop-m-init
loop-m-init c = record { long = c.in_ok-found.ensures.long; found = λ P flow. none_found c.args.f.now c.args.loops.now P c.in_ok-found.found c.in_ok-found.ensures.none }

pub find-requires-clause-method : goal.find-requires-clause-method
find-requires-clause-method c =
    let order = c.args.order.now in
    let i = c.loop-m.m-index in
    let m = get_or order i 0 in
    let code = (c.requires.behind i m (slice_get-get_or order i 0 c.loop-m-test.true)).0 in
    slice_get_within c.args.f.now.methods m code.method code.is

pub loop-m-preserved : goal.loop-m-preserved
loop-m-preserved c =
    let order = c.args.order.now in
    let i = c.loop-m.m-index in
    let lt = c.loop-m-test.true in
    let m = get_or order i 0 in
    let behind = c.requires.behind i m (slice_get-get_or order i 0 lt) in
    record {
      long = c.in_ok-find.ensures.long;
      found = λ P flow.
          let F : List ℕ → Type 0 = λ ms. AreFound c.args.f.now c.args.loops.now P ms c.find.new.found in
          subst F (sym (take_more order i 0 lt)) (c.in_ok-find.ensures.leasts P (take i order) flow behind.1 (c.loop-m.invariant.found P flow));
    }

pub returns-clause-leasts : goal.returns-clause-leasts
returns-clause-leasts c = λ P flow m has.
    let F : List ℕ → Type 0 = λ ms. AreFound c.args.f.now c.args.loops.now P ms c.loop-m.found in
    let whole = subst F (take_all c.loop-m.m-index c.args.order.now c.loop-m-test.false) (c.loop-m.invariant.found P flow) in
    whole.methods m has
