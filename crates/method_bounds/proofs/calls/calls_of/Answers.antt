use Rattle.std.proofs.Common.{◌<◌, List, length, All, sym, subst}
use Rattle.std.proofs.lemmas.Option.{slice_get_within, get_or_from_slice_get}
use Rattle.method_flow.specs.Flow.{Coded}
use Rattle.method_flow.specs.declared.flow.Call.{Call}
use Rattle.method_bounds.proofs.calls.calls_of.Goals as goal

pub returns : goal.returns
returns c =
    let f = c.args.f.now in
    let k = c.method.result.now in
    let is = c.method.ensures in
    let are = c.calls.ensures.calls in
    let P : Coded → Type 0 = λ j. All (λ d. d.targets < length f.targets) j.calls in
    let lists : P k = subst P (get_or_from_slice_get f.methods c.args.m k k is) (c.method_count.ensures.form.lists c.args.m k (slice_get_within f.methods c.args.m k is)) in
    let Q : List Call → Type 0 = λ ks. All (λ (d : Call). d.targets < length f.targets) ks in
    record {
      calls = record { code = record { method = k; is = is; coded = c.calls.ensures.whole }; are = are };
      lists = subst Q (sym are) lists;
    }
