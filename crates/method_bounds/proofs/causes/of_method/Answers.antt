use Rattle.std.proofs.Common.{◌≡◌, List, [], ◌∷◌, ◌++◌, take, take_all, get_or, refl, sym, ◌∙◌, subst}
use Rattle.std.proofs.lemmas.List.{take_more}
use Rattle.std.proofs.lemmas.List.Elements.{Contains-get_or}
use Rattle.std.specs.Prelude.{slice_get}
use Rattle.method_flow.specs.declared.flow.Call.{Call}
use Rattle.method_bounds.specs.declared.causes.Leasts.{Leasts}
use Rattle.method_bounds.specs.Leasts.{AreLeasts, AreLeastsOf}
use Rattle.method_bounds.proofs.Leasts.{IsUpTo, alone_are, up_to_none, up_to_more, up_to_all}
use Rattle.method_bounds.proofs.Tabled.{target_runs}
use Rattle.method_bounds.proofs.causes.of_method.Goals as goal

pub loop-call-init : goal.loop-call-init
loop-call-init c =
    let loops = c.args.loops.now in
    let m = c.args.m in
    record {
      same = refl;
      leasts = λ P flow listed known.
          let X : Leasts → Type 0 = λ x. AreLeasts loops (λ y. y ≡ m) x in
          (listed, up_to_none loops P c.args.f.now m c.alone-leasts.result (subst X (sym c.alone-leasts.ensures) (alone_are loops m (slice_get loops m) refl)));
    }

pub loop-call-preserved : goal.loop-call-preserved
loop-call-preserved c =
    let f = c.args.f.now in
    let loops = c.args.loops.now in
    let m = c.args.m in
    let calls = c.calls_of-call-items.result.now in
    let has = c.calls_of-call-items.ensures.calls in
    let i = c.loop-call.call-index in
    let lt = c.loop-call-test.true in
    let none : Call = record { place = 0; targets = 0 } in
    let call = get_or calls i none in
    let same = c.loop-call.invariant.same in
    record {
      same = c.in_ok-of_call.ensures.methods ∙ same;
      leasts = λ P flow listed known.
          let was = c.loop-call.invariant.leasts P flow listed known in
          let one =
          c.in_ok-of_call.ensures.leasts loops P was.0 (λ t among.
          let M : List Leasts → Type 0 = λ methods. AreLeastsOf loops P methods t in
          subst M (sym same) (known t (target_runs f m t calls has (record { call = call; among = Contains-get_or calls i none lt; lists = among }))))
          in
          let U : List Call → Type 0 = λ ks. AreLeasts loops (IsUpTo P f m ks) c.lesser-leasts.result in
          let X : Leasts → Type 0 = λ x. AreLeasts loops (IsUpTo P f m (take i calls ++ call ∷ [])) x in
          (one.0, subst U (sym (take_more calls i none lt)) (subst X (sym c.lesser-leasts.ensures) (up_to_more loops P f m (take i calls) call c.loop-call.leasts _ was.1 one.1)));
    }

pub returns-clause-leasts : goal.returns-clause-leasts
returns-clause-leasts c = λ P flow listed known.
    let f = c.args.f.now in
    let loops = c.args.loops.now in
    let m = c.args.m in
    let calls = c.calls_of-call-items.result.now in
    let was = c.loop-call.invariant.leasts P flow listed known in
    let U : List Call → Type 0 = λ ks. AreLeasts loops (IsUpTo P f m ks) c.loop-call.leasts in
    (was.0, up_to_all P f flow c.runs_are_calls.ensures loops m calls c.calls_of-call-items.ensures.calls c.loop-call.leasts (subst U (take_all c.loop-call.call-index calls c.loop-call-test.false) was.1))
