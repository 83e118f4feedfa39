use Rattle.std.proofs.Common.{◌≡◌, ℕ, List, All, Contains, take, take_all, get_or, sym, subst, inl, inr, arith}
use Rattle.method_flow.specs.Flow.{targets_of_call}
use Rattle.method_flow.specs.declared.flow.Call.{Call}
use Rattle.std.specs.Prelude.{slice_index_or, []}
use Rattle.method_bounds.specs.Walking.{IsOrdered, AreOrdered}
use Rattle.method_bounds.proofs.Tabled.{take_cases}
use Rattle.method_bounds.proofs.walk.next_left.Goals as goal

pub loop-i-preserved : goal.loop-i-preserved
loop-i-preserved c =
    let f = c.args.f.now in
    let calls = c.args.calls.now in
    let states = c.args.states.now in
    let i = c.loop-i.i in
    let none : Call = record { place = 0; targets = 0 } in
    let call = get_or calls i none in
    let ordered : All (IsOrdered states) (targets_of_call f call) = c.in_default.ensures.none in
    let L : ℕ → Type 0 = λ n. All (IsOrdered states) (slice_index_or f.targets n []) in
    let C : Call → Type 0 = λ k. All (IsOrdered states) (targets_of_call f k) in
    record {
      walked = λ n is. elim (c.in_ok-set_walked.ensures n is) [ inl same ↦ subst L (sym same) ordered | inr old ↦ c.loop-i.invariant.walked n old ];
      before = λ k among. elim (take_cases calls i none k c.loop-i-test.true among) [ inl there ↦ c.loop-i.invariant.before k there | inr same ↦ subst C same ordered ];
    }

pub returns-clause-left : goal.returns-clause-left
returns-clause-left c =
    let A : List Call → Type 0 = λ ks. AreOrdered c.args.f.now c.args.states.now ks in
    subst A (take_all c.loop-i.i c.args.calls.now c.loop-i-test.false) c.loop-i.invariant.before
