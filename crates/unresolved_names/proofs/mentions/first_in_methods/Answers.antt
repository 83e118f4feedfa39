use Rattle.std.proofs.Common.{◌≡◌, ◌<◌, ◌≤◌, List, length, get_or, sym, ◌∙◌, subst}
use Rattle.std.specs.List.{flat_map}
use Rattle.class_pool.specs.declared.class.Member.{Member}
use Rattle.lists.proofs.FirstLemmas.{found_here, still_none, none_first}
use Rattle.program_tables.specs.Unresolved.{mentions_in_method}
use Rattle.program_tables.proofs.ListLemmas.{no_value}
use Rattle.unresolved_names.specs.Causes.{refused_mention}
use Rattle.unresolved_names.proofs.mentions.first_in_methods.Goals as goal

pub returns-in-Some : goal.returns-in-Some
returns-in-Some c =
    let caller = c.args.caller.now in
    let ms = caller.namer.class.now.methods in
    let i = c.loop-method.method-index in
    let m = c.method-item.result in
    let same = c.as_slice-method-items.ensures in
    let lt = subst (λ (xs : List Member). i < length xs) same c.loop-method-test.true in
    let is = subst (λ (xs : List Member). m ≡ get_or xs i m) same c.method-item.is in
    sym (found_here (λ (x : Member). flat_map (refused_mention caller.classes.now caller.namer.number caller.namer.class.now) (mentions_in_method caller.namer.class.now x)) ms i m m c.in-Some.found lt is c.loop-method.invariant (sym c.in_ok-found.ensures ∙ c.in-Some.is))

pub loop-method-preserved : goal.loop-method-preserved
loop-method-preserved c =
    let caller = c.args.caller.now in
    let ms = caller.namer.class.now.methods in
    let i = c.loop-method.method-index in
    let m = c.method-item.result in
    let same = c.as_slice-method-items.ensures in
    let lt = subst (λ (xs : List Member). i < length xs) same c.loop-method-test.true in
    let is = subst (λ (xs : List Member). m ≡ get_or xs i m) same c.method-item.is in
    still_none (λ (x : Member). flat_map (refused_mention caller.classes.now caller.namer.number caller.namer.class.now) (mentions_in_method caller.namer.class.now x)) ms i m m lt is c.loop-method.invariant (sym c.in_ok-found.ensures ∙ no_value c.in_ok-found.field-0 c.in_default.not-Some)

pub returns : goal.returns
returns c =
    let caller = c.args.caller.now in
    let past = subst (λ (xs : List Member). length xs ≤ c.loop-method.method-index) c.as_slice-method-items.ensures c.loop-method-test.false in
    sym (none_first (λ (x : Member). flat_map (refused_mention caller.classes.now caller.namer.number caller.namer.class.now) (mentions_in_method caller.namer.class.now x)) caller.namer.class.now.methods c.loop-method.method-index past c.loop-method.invariant)
