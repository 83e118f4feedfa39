use Rattle.std.proofs.Common.{ℕ, ◌+◌, ◌<◌, List, ◌++◌, length, map, Option, refl, sym, ap, ◌∙◌, subst, arith}
use Rattle.std.proofs.lemmas.Option.{slice_get_read}
use Rattle.loop_rules.specs.declared.further.table.KnownInt.{KnownInt}
use Rattle.loop_rules.specs.Further.Found.{AreKnownInts, Table}
use Rattle.loop_rules.specs.declared.found.FoundLoop.{FoundLoop}
use Rattle.loop_acts.specs.Rules.{further}
use Rattle.loop_acts.specs.Rules.Given.{further_on}
use Rattle.loop_finder.specs.Methods.{found_in}
use Rattle.loop_finder.proofs.Programs.{AreFoundBelow, are_further, no_methods, method_more, all_methods}
use Rattle.loop_finder.proofs.finding.find_further.Goals as goal

pub loop-number-init : goal.loop-number-init
loop-number-init c P known flow tables = subst (λ (xs : List FoundLoop). AreFoundBelow P (further P known) 0 xs) (sym c.new-counted.ensures.items) (no_methods P (further P known))

pub returns-then-number-tables : goal.returns-then-number-tables
returns-then-number-tables c P known flow tables =
    let number = c.loop-number.number in
    let past = c.if-number-tables.true in
    are_further c.further_rules_are_right.ensures P known c.loop-number.counted.items
    (all_methods P (further P known) number c.loop-number.counted.items (c.loop-number.invariant P known flow tables) (λ k some. let lt = (tables.coded k).0 some in omega arith))

pub loop-number-preserved : goal.loop-number-preserved
loop-number-preserved c P known flow tables =
    let number = c.loop-number.number in
    let ts = c.args.tables.now in
    let t = c.index-tables-number.result in
    let within = c.if-number-tables.false in
    let lt : number < length ts = omega arith in
    let got = slice_get_read ts (length ts) number t refl lt c.index-tables-number.is in
    let ints = subst (λ (xs : List (Option KnownInt)). AreKnownInts P known number xs) (sym (c.deref.ensures.value ∙ ap (λ (x : Table). x.ints) c.table.view_is)) (tables.ints number t got) in
    let are = c.in_ok-found.ensures.bounds P (further_on known) number (flow.methods number c.method.result.now c.method.ensures) ints in
    let found = c.in_ok-add_loops.ensures ∙ ap (λ (xs : List (ℕ × ℕ)). c.loop-number.counted.items ++ map (found_in number) xs) c.deref-in-loop-number.ensures.value in
    subst (λ (xs : List FoundLoop). AreFoundBelow P (further P known) (number + 1) xs) (sym found)
    (method_more P (further P known) number c.loop-number.counted.items c.in_ok-found.found.bounds.items (c.loop-number.invariant P known flow tables) are)

pub returns : goal.returns
returns c P known flow tables =
    let count = c.method_count-number-end.ensures.count in
    let done = c.loop-number-test.false in
    are_further c.further_rules_are_right.ensures P known c.loop-number.counted.items
    (all_methods P (further P known) c.loop-number.number c.loop-number.counted.items (c.loop-number.invariant P known flow tables) (λ k some. let lt = (flow.coded k).0 some in omega arith))
