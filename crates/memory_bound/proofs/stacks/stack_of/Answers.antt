use Rattle.std.proofs.Common.{◌≡◌, ◌<◌, List, length, ◌∙◌, subst, arith}
use Rattle.std.specs.Prelude.{slice_index}
use Rattle.method_flow.specs.declared.flow.Call.{Call}
use Rattle.method_flow.specs.Flow.{Flow}
use Rattle.memory_rules.specs.Stack.{method_words}
use Rattle.memory_bound.specs.Stacks.{IsGreatestAmong, IsCalled}
use Rattle.memory_bound.proofs.Deepest.{deepest, frame_words}
use Rattle.memory_bound.proofs.stacks.stack_of.Goals as goal

pub returns-clause-need : goal.returns-clause-need
returns-clause-need c = λ P flow sites known.
    let s = c.args.task.now in
    let m = c.args.m in
    let k = c.method.result.now in
    let stacks = c.args.stacks.now in
    let n = c.greatest_called.result in
    let long = c.flow.ensures.form in
    let lt : m < length s.sites = omega (arith, c.requires.method) in
    let same : c.from.result ≡ c.words.result = omega arith in
    let words : c.from.result ≡ method_words P m = same ∙ c.words.ensures.words ∙ frame_words P s m sites lt in
    let among = subst (λ (f : Flow). IsGreatestAmong (IsCalled f c.calls-calls.result.now) (slice_index stacks) n) c.flow-2.ensures.flow c.greatest_called.ensures in
    let greatest = subst (λ (calls : List Call). IsGreatestAmong (IsCalled s.flow calls) (slice_index stacks) n) c.calls-calls.ensures.calls among in
    deepest c.runs_are_calls.ensures P s.flow m k flow c.method.ensures c.calls-calls.ensures.whole stacks c.from.result n words known greatest
