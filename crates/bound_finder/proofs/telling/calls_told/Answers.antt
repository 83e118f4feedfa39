use Rattle.std.proofs.Common.{◌≡◌, ℕ, ◌+◌, List, length, get_or, All, Some, sym, ap, ◌∙◌, subst}
use Rattle.std.specs.Prelude.{slice_get}
use Rattle.std.proofs.lemmas.List.{length_push}
use Rattle.std.proofs.lemmas.List.Elements.{All-push}
use Rattle.std.proofs.lemmas.Option.{slice_get-get_or}
use Rattle.method_flow.specs.declared.flow.Call.{Call}
use Rattle.method_flow.specs.Flow.{targets_of_call}
use Rattle.bound_finder.specs.declared.telling.Told.{Told}
use Rattle.bound_finder.specs.Telling.{IsToldBy, IsSmallTold}
use Rattle.bound_finder.proofs.Coding.{targets_within}
use Rattle.bound_finder.proofs.Pushed.{EachAgrees, agrees_more}
use Rattle.bound_finder.proofs.telling.calls_told.Goals as goal

pub told_of-requires : goal.told_of-requires
told_of-requires c =
    let call : Call = get_or c.args.calls.now c.loop-call.call-index (record { place = 0; targets = 0 }) in
    record {
      known = targets_within c.args.f.now call c.targets.result.now (length c.args.table.now) c.targets.ensures.form (c.requires.lists c.loop-call.call-index (record { place = 0; targets = 0 }) c.loop-call-test.true) c.requires.long c.targets.ensures.targets;
      limited = c.requires.limited;
      back = c.requires.back;
    }

pub loop-call-preserved : goal.loop-call-preserved
loop-call-preserved c =
    let calls = c.args.calls.now in
    let i = c.loop-call.call-index in
    let call : Call = get_or calls i (record { place = 0; targets = 0 }) in
    let told : Told = c.told_of.result in
    let old = c.loop-call.told.items in
    let R : Call → Told → Type 0 = λ k s. IsToldBy c.args.table.now c.args.back (targets_of_call c.args.f.now k) s in
    let at : slice_get calls i ≡ Some call = slice_get-get_or calls i (record { place = 0; targets = 0 }) c.loop-call-test.true in
    let P : List Told → Type 0 = λ ss. EachAgrees R calls ss in
    let long = c.loop-call.invariant.long in
    record {
      long = ap length c.in_ok-push.ensures.items ∙ length_push old told ∙ ap (λ (n : ℕ). n + 1) long;
      each = subst P (sym c.in_ok-push.ensures.items) (agrees_more R calls old i call told long at (subst (λ (ts : List ℕ). IsToldBy c.args.table.now c.args.back ts told) c.targets.ensures.targets c.told_of.ensures.told) c.loop-call.invariant.each);
      small = subst (λ (ss : List Told). All IsSmallTold ss) (sym c.in_ok-push.ensures.items) (All-push IsSmallTold old told c.loop-call.invariant.small c.told_of.ensures.small);
    }
