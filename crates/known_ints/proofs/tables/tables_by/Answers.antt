-- Method by method.
use Rattle.std.proofs.Common.{◌≡◌, ◌<◌, ℤ, List, Option, length, sym, subst, arith}
use Rattle.loop_rules.specs.Sites.{AreNeverPut, AreSitesOf, constants_in}
use Rattle.loop_rules.specs.Tests.{Constants}
use Rattle.loop_rules.specs.Further.Arrays.{AreArraysRead}
use Rattle.known_ints.proofs.Tabling.{no_tables, more_tables, all_tables, same_functions}
use Rattle.known_ints.proofs.tables.tables_by.Goals as goal

pub loop-number-init : goal.loop-number-init
loop-number-init c P known told = no_tables P known c.new-tables.result.items c.new-tables.ensures.items

pub loop-number-preserved : goal.loop-number-preserved
loop-number-preserved c P known told =
    let number = c.loop-number.number in
    let x = c.method-in-loop-number.result.now in
    let below : number < length c.args.f.now.methods = (let test = c.loop-number-test.true in let count = c.method_count-number-end.ensures.count in omega arith) in
    let same : constants_in c.args.s.now ≡ known.constants = same_functions (constants_in c.args.s.now) known.constants (λ k. sym (told.constants k)) in
    let of = told.flow.methods number c.method.result.now c.method.ensures in
    let sites = subst (λ (g : Constants). AreSitesOf P g number x) same (told.sites.each number x c.method-in-loop-number.ensures) in
    let never = subst (λ (g : Constants). AreNeverPut P g) same told.sites.never_put in
    let reads = subst (λ (xs : List (Option ℤ)). AreArraysRead P known number xs) (sym c.arrays_of-read.ensures) (told.arrays number below) in
    more_tables P known number c.loop-number.tables.items c.push.new.self.items c.in_ok-table.table (c.loop-number.invariant P known told)
    (record { ints = c.in_ok-table.ensures.ints P known number of sites never told.apart reads; lengths = c.in_ok-table.ensures.lengths P known number of sites never told.apart reads })
    c.in_ok-push.ensures.items

pub returns-then-number-method_count : goal.returns-then-number-method_count
returns-then-number-method_count c P known told =
    let number = c.loop-number.number in
    let past = c.if-number-method_count.true in
    let few = c.method_count.ensures in
    let count = c.method_count-number-end.ensures.count in
    let lt : number < length c.args.f.now.methods = omega arith in
    let here = (told.sites.coded number).0 ((told.flow.coded number).1 lt) in
    absurd (let bad : ⊥ = omega arith in bad)

pub returns : goal.returns
returns c P known told =
    let count = c.method_count-number-end.ensures.count in
    let done = c.loop-number-test.false in
    all_tables P known c.args.f.now told.flow c.loop-number.number c.loop-number.tables.items (omega arith) (c.loop-number.invariant P known told)
