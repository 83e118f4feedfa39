use Rattle.std.proofs.Common.{◌≡◌, ℕ, true, false, get_or, List, [], Contains, refl, sym, subst}
use Rattle.std.proofs.lemmas.Bool.{both_ways}
use Rattle.std.proofs.lemmas.List.{get_or_default}
use Rattle.std.specs.List.Sorted.{IsStrictlyIncreasing}
use Rattle.lists.specs.Members.{nil_contains}
use Rattle.method_flow.specs.declared.flow.Call.{Call}
use Rattle.fact_rules.proofs.Calling.{target_here, target_more, target_all}
use Rattle.fact_rules.proofs.callers.one_may_run.Goals as goal

abbrev none : Call
none = record { place = 0; targets = 0 }

pub targets-requires : goal.targets-requires
targets-requires c = c.requires c.loop-call.call-index none c.loop-call-test.true

pub has-requires : goal.has-requires
has-requires c =
    let call : Call = get_or c.args.calls.now c.loop-call.call-index none in
    let R : List ℕ → Type 0 = λ xs. IsStrictlyIncreasing xs in
    subst R (sym c.targets.ensures.targets) (c.targets.ensures.form.rising call.targets [] (c.requires c.loop-call.call-index none c.loop-call-test.true))

pub loop-call-init : goal.loop-call-init
loop-call-init c = λ r. nil_contains r.call r.among

pub loop-call-preserved : goal.loop-call-preserved
loop-call-preserved c =
    let calls = c.args.calls.now in
    let i = c.loop-call.call-index in
    let call : Call = get_or calls i none in
    let H : List ℕ → Type 0 = λ xs. Contains xs c.args.target → ⊥ in
    target_more c.args.f.now calls c.args.target i call c.loop-call-test.true (get_or_default calls i none call c.loop-call-test.true) c.loop-call.invariant
    (subst H c.targets.ensures.targets (λ has. both_ways c.has.result c.if-has.false (c.has.ensures.1 has)))

pub returns-then-has : goal.returns-then-has
returns-then-has c =
    let calls = c.args.calls.now in
    let i = c.loop-call.call-index in
    let call : Call = get_or calls i none in
    let H : List ℕ → Type 0 = λ xs. Contains xs c.args.target in (
      λ yes. target_here c.args.f.now calls c.args.target i call c.loop-call-test.true (get_or_default calls i none call c.loop-call-test.true) (subst H c.targets.ensures.targets (c.has.ensures.0 c.if-has.true)),
      λ r. refl,
    )

pub returns : goal.returns
returns c = (
  λ never. absurd (let f : false ≡ true = never in cc),
  λ r. absurd (target_all c.args.f.now c.args.calls.now c.args.target c.loop-call.call-index c.loop-call-test.false c.loop-call.invariant r),
)
