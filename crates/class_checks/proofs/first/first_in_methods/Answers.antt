use Rattle.std.proofs.Common.{◌≡◌, ◌+◌, ◌<◌, ◌≤◌, List, length, get_or, sym, ap, ◌∙◌, subst}
use Rattle.class_pool.specs.declared.class.Member.{Member}
use Rattle.lists.proofs.FirstLemmas.{found_number, none_number, none_numbered}
use Rattle.program_tables.proofs.ListLemmas.{no_value}
use Rattle.class_checks.specs.Causes.{unsupported_in_method}
use Rattle.class_checks.proofs.first.first_in_methods.Goals as goal

pub returns-in-Some : goal.returns-in-Some
returns-in-Some c =
    let ms = c.args.class.now.methods in
    let i = c.loop-method.method-index in
    let m = c.method-item.result in
    let same = c.as_slice-method-items.ensures in
    let lt = subst (λ (xs : List Member). i < length xs) same c.loop-method-test.true in
    let is = subst (λ (xs : List Member). m ≡ get_or xs i m) same c.method-item.is in
    sym (found_number (unsupported_in_method c.args.class.now) ms i c.loop-method.number m c.in-Some.found lt is c.loop-method.invariant.number c.loop-method.invariant.none (sym c.in_ok-found.ensures ∙ c.in-Some.is))

pub loop-method-preserved : goal.loop-method-preserved
loop-method-preserved c =
    let ms = c.args.class.now.methods in
    let i = c.loop-method.method-index in
    let m = c.method-item.result in
    let same = c.as_slice-method-items.ensures in
    let lt = subst (λ (xs : List Member). i < length xs) same c.loop-method-test.true in
    let is = subst (λ (xs : List Member). m ≡ get_or xs i m) same c.method-item.is in
    let none = no_value c.in_ok-found.field-0 c.in_default.not-Some in
    record {
      number = ap (λ k. k + 1) c.loop-method.invariant.number;
      none = none_number (unsupported_in_method c.args.class.now) ms i c.loop-method.number m lt is c.loop-method.invariant.number c.loop-method.invariant.none (sym c.in_ok-found.ensures ∙ none);
    }

pub returns : goal.returns
returns c =
    let ms = c.args.class.now.methods in
    let i = c.loop-method.method-index in
    let past = subst (λ (xs : List Member). length xs ≤ i) c.as_slice-method-items.ensures c.loop-method-test.false in
    sym (none_numbered (unsupported_in_method c.args.class.now) ms i c.loop-method.number past c.loop-method.invariant.number c.loop-method.invariant.none)
