use Rattle.std.proofs.Common.{◌≡◌, ℕ, ◌<◌, List, length, All, IfErr, sym, subst, rules}
use Rattle.std.specs.List.Sorted.{IsStrictlyIncreasing, IsPermutation}
use Rattle.std.proofs.lemmas.List.Sorted.{All-permutation}
use Rattle.method_flow.specs.Regions.{IsWithin, AreMethodsOf}
use Rattle.node_costs.specs.Costs.{bounds_of}
use Rattle.call_regions.proofs.Sorting.{if_err}
use Rattle.bound_rules.specs.declared.faults.BoundRefusal.{BoundRefusal}
use Rattle.bound_causes.specs.Causes.{IsRootCause}
use Rattle.bound_causes.proofs.Telling.{sorted_methods, no_recursion, of_calls, of_loops}
use Rattle.bound_causes.proofs.causes.cause_of_root.Goals as goal

pub returns-in_err-order-clause-cause : goal.returns-in_err-order-clause-cause
returns-in_err-order-clause-cause c =
    let f = c.args.f.now in
    let root = c.args.root in
    let fault = c.in_err-order.field-0.0 in
    let same : IfErr c.from_residual.result (λ e. e ≡ fault) = search rules in
    if_err c.from_residual.result (λ e. e ≡ fault) _
    (λ e is P flow.
    let C : BoundRefusal → Type 0 = λ x. IsRootCause P (bounds_of f c.args.b.now) root x in
    subst C (sym is) (of_calls P (bounds_of f c.args.b.now) root fault (c.in_err-order.ensures.cause P flow)))
    same

pub check_loops-requires-clause-known : goal.check_loops-requires-clause-known
check_loops-requires-clause-known c =
    let K : ℕ → Type 0 = λ m. m < length c.args.f.now.methods in
    let Q : List ℕ → Type 0 = λ xs. All K xs in
    let R : List ℕ → Type 0 = λ xs. IsPermutation xs c.in_ok-methods.methods.items in
    let moved = subst R c.as_slice.ensures c.in_ok-methods.ensures.0 in
    subst Q (sym c.deref.ensures.value) (All-permutation K c.in_ok-order.order.methods c.in_ok-methods.methods.items moved c.in_ok-order.ensures.known.0)

pub returns-in_err-check_loops-clause-cause : goal.returns-in_err-check_loops-clause-cause
returns-in_err-check_loops-clause-cause c =
    let f = c.args.f.now in
    let bounds = bounds_of f c.args.b.now in
    let root = c.args.root in
    let order = c.in_ok-order.order.methods in
    let sorted = c.in_ok-methods.methods.items in
    let result = c.from_residual-in_err-check_loops.result in
    let R : List ℕ → Type 0 = λ xs. IsPermutation xs sorted in
    let moved = subst R c.as_slice.ensures c.in_ok-methods.ensures.0 in
    let fault = c.in_err-check_loops.field-0.0 in
    let same : IfErr result (λ e. e ≡ fault) = search rules in
    if_err result (λ e. e ≡ fault) _
    (λ e is P flow.
    let first = c.in_ok-order.ensures.order P flow in
    let Q : List ℕ → Type 0 = λ xs. AreMethodsOf (IsWithin P root) xs in
    let methods = subst Q (sym c.deref.ensures.value) (sorted_methods (IsWithin P root) order sorted first.methods moved c.in_ok-methods.ensures.1) in
    let C : BoundRefusal → Type 0 = λ x. IsRootCause P bounds root x in
    subst C (sym is) (of_loops P bounds root (no_recursion c.order_excludes_cycles.ensures P root order first) fault (c.in_err-check_loops.ensures.cause P root flow methods)))
    same

pub returns-clause-ready : goal.returns-clause-ready
returns-clause-ready c = λ P flow.
    let f = c.args.f.now in
    let bounds = bounds_of f c.args.b.now in
    let root = c.args.root in
    let order = c.in_ok-order.order.methods in
    let sorted = c.in_ok-methods.methods.items in
    let R : List ℕ → Type 0 = λ xs. IsPermutation xs sorted in
    let moved = subst R c.as_slice.ensures c.in_ok-methods.ensures.0 in
    let first = c.in_ok-order.ensures.order P flow in
    let methods = sorted_methods (IsWithin P root) order sorted first.methods moved c.in_ok-methods.ensures.1 in
    let Q : List ℕ → Type 0 = λ xs. AreMethodsOf (IsWithin P root) xs in
    let both = c.in_ok-check_loops.ensures.ok P root flow (subst Q (sym c.deref.ensures.value) methods) in
    record { calls = no_recursion c.order_excludes_cycles.ensures P root order first; reducible = both.0; lines = both.1; order = first; methods = subst Q (sym c.new.ensures) methods }

pub returns-clause-known : goal.returns-clause-known
returns-clause-known c =
    let K : ℕ → Type 0 = λ m. m < length c.args.f.now.methods in
    let sorted = c.in_ok-methods.methods.items in
    let Q : List ℕ → Type 0 = λ xs. All K xs in
    let R : List ℕ → Type 0 = λ xs. IsPermutation xs sorted in
    let S : List ℕ → Type 0 = λ xs. IsStrictlyIncreasing xs in
    let moved = subst R c.as_slice.ensures c.in_ok-methods.ensures.0 in
    let known = c.in_ok-order.ensures.known.0 in
    record {
      root = c.requires;
      order = known;
      methods = subst Q (sym c.new.ensures) (All-permutation K c.in_ok-order.order.methods sorted moved known);
      rising = subst S (sym c.new.ensures) c.in_ok-methods.ensures.1;
    }
