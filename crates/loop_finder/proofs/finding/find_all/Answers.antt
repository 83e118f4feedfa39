use Rattle.std.proofs.Common.{ℕ, ◌+◌, ◌<◌, List, ◌++◌, length, map, sym, ap, ◌∙◌, subst, arith}
use Rattle.loop_rules.specs.declared.found.FoundLoop.{FoundLoop}
use Rattle.loop_rules.specs.Sites.{constants_in}
use Rattle.loop_acts.specs.Rules.{plain}
use Rattle.loop_acts.specs.Rules.Given.{plainly}
use Rattle.loop_finder.specs.Methods.{found_in}
use Rattle.loop_finder.proofs.HeaderLemmas.{all_headers, headers_more, no_headers}
use Rattle.loop_finder.proofs.Programs.{AreFoundBelow, are_counted, no_methods, method_more, all_methods}
use Rattle.loop_finder.proofs.finding.find_all.Goals as goal

pub loop-number-init : goal.loop-number-init
loop-number-init c = record {
  headers = λ P flow sites. no_headers P c.new-headers.result.items c.new-headers.ensures.items;
  counted = λ P flow sites. subst (λ (xs : List FoundLoop). AreFoundBelow P (plain P (constants_in c.args.s.now)) 0 xs) (sym c.new-counted.ensures.items) (no_methods P (plain P (constants_in c.args.s.now)));
}

pub returns-then-number-method_count-clause-counted : goal.returns-then-number-method_count-clause-counted
returns-then-number-method_count-clause-counted c P flow sites =
    let number = c.loop-number.number in
    let past = c.if-number-method_count.true in
    let count = c.method_count.ensures in
    are_counted P (constants_in c.args.s.now) c.loop-number.counted.items (all_methods P (plain P (constants_in c.args.s.now)) number c.loop-number.counted.items (c.loop-number.invariant.counted P flow sites) (λ k some. let lt = (sites.coded k).0 some in omega arith))

pub returns-then-number-method_count-clause-headers : goal.returns-then-number-method_count-clause-headers
returns-then-number-method_count-clause-headers c P flow sites =
    let number = c.loop-number.number in
    let past = c.if-number-method_count.true in
    let few = c.method_count.ensures in
    let count = c.method_count-number-end.ensures.count in
    let lt : number < length c.args.f.now.methods = omega arith in
    let here = (sites.coded number).0 ((flow.coded number).1 lt) in
    absurd (let bad : ⊥ = omega arith in bad)

pub loop-number-preserved : goal.loop-number-preserved
loop-number-preserved c = record {
  headers = λ P flow sites.
      let number = c.loop-number.number in
      let here = c.in_ok-found.ensures.headers P number (flow.methods number c.method-in-loop-number.result.now c.method-in-loop-number.ensures) in
      headers_more P number c.loop-number.headers.items c.push.new.self.items c.in_ok-found.found.headers (c.loop-number.invariant.headers P flow sites) here c.in_ok-push.ensures.items;
  counted = λ P flow sites.
      let s = c.args.s.now in
      let number = c.loop-number.number in
      let are = c.in_ok-found.ensures.bounds P (plainly (constants_in s)) number (flow.methods number c.method-in-loop-number.result.now c.method-in-loop-number.ensures) (sites.each number c.method.result.now c.method.ensures, sites.never_put) in
      let found = c.in_ok-add_loops.ensures ∙ ap (λ (xs : List (ℕ × ℕ)). c.loop-number.counted.items ++ map (found_in number) xs) c.deref.ensures.value in
      subst (λ (xs : List FoundLoop). AreFoundBelow P (plain P (constants_in s)) (number + 1) xs) (sym found) (method_more P (plain P (constants_in s)) number c.loop-number.counted.items c.in_ok-found.found.bounds.items (c.loop-number.invariant.counted P flow sites) are);
}

pub returns-clause-headers : goal.returns-clause-headers
returns-clause-headers c P flow sites =
    let count = c.method_count-number-end.ensures.count in
    let done = c.loop-number-test.false in
    all_headers P c.loop-number.number (length c.args.f.now.methods) c.loop-number.headers.items (c.loop-number.invariant.headers P flow sites) (omega arith)

pub returns-clause-counted : goal.returns-clause-counted
returns-clause-counted c P flow sites =
    let count = c.method_count-number-end.ensures.count in
    let done = c.loop-number-test.false in
    are_counted P (constants_in c.args.s.now) c.loop-number.counted.items (all_methods P (plain P (constants_in c.args.s.now)) c.loop-number.number c.loop-number.counted.items (c.loop-number.invariant.counted P flow sites) (λ k some. let lt = (flow.coded k).0 some in omega arith))
