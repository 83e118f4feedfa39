use Rattle.std.proofs.Common.{◌≡◌, ◌<◌, List, length, All, Contains, Some, ap, subst}
use Rattle.std.specs.Prelude.{slice_get}
use Rattle.std.proofs.lemmas.Option.{slice_get_within, get_or_from_slice_get}
use Rattle.std.proofs.lemmas.List.Elements.{All-contains}
use Rattle.method_flow.specs.Flow.{Flow, Coded, targets_of_call}
use Rattle.method_flow.specs.declared.flow.Call.{Call}
use Rattle.memory_bound.specs.Setting.{NeedSetting}
use Rattle.memory_bound.proofs.Calling.{targets_there, targets_nowhere}
use Rattle.memory_bound.proofs.task.Task.targets_at.Goals as goal

pub targets-requires : goal.targets-requires
targets-requires c =
    let f = c.self.inside.flow.now in
    let m = c.args.m in
    let k = c.method.result.now in
    let lists = subst (λ (j : Coded). All (λ (d : Call). d.targets < length f.targets) j.calls) (get_or_from_slice_get f.methods m k k c.method.ensures)
    (c.method_count.ensures.form.lists m k (slice_get_within f.methods m k c.method.ensures)) in
    let among = subst (λ (calls : List Call). Contains calls c.in-Some.call) c.calls.ensures.calls c.in-Some.ensures.found.0 in
    All-contains (λ (d : Call). d.targets < length f.targets) k.calls c.in-Some.call lists among

pub returns-in-Some-clause-targets : goal.returns-in-Some-clause-targets
returns-in-Some-clause-targets c = λ P flow sites start.
    let f = c.args.self.now.flow in
    let m = c.args.m in
    let k = c.method.result.now in
    let call = c.in-Some.call in
    let same : c.self.inside.flow.now ≡ f = cc (ap (λ (s : NeedSetting). s.flow) c.self.view_is) in
    let is = subst (λ (g : Flow). slice_get g.methods m ≡ Some k) same c.method.ensures in
    let among = subst (λ (calls : List Call). Contains calls call) c.calls.ensures.calls c.in-Some.ensures.found.0 in
    let are = subst (λ (g : Flow). c.targets.result.now ≡ targets_of_call g call) same c.targets.ensures.targets in
    targets_there P f m c.args.place k flow is call c.targets.result.now among c.in-Some.ensures.found.1 are

pub returns-in-None-clause-targets : goal.returns-in-None-clause-targets
returns-in-None-clause-targets c = λ P flow sites start.
    let f = c.args.self.now.flow in
    let m = c.args.m in
    let k = c.method.result.now in
    let same : c.self.inside.flow.now ≡ f = cc (ap (λ (s : NeedSetting). s.flow) c.self.view_is) in
    let is = subst (λ (g : Flow). slice_get g.methods m ≡ Some k) same c.method.ensures in
    let none = subst (λ (calls : List Call). (d : Call) → Contains calls d → d.place ≡ c.args.place → ⊥) c.calls.ensures.calls c.in-None.ensures.none in
    targets_nowhere P f m c.args.place k flow is c.runs_are_calls.ensures c.calls.ensures.whole none start
