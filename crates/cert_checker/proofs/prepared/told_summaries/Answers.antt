use Rattle.std.proofs.Common.{◌≡◌, ◌*◌, length}
use Rattle.std.specs.Prelude.{slice_get}
use Rattle.lists.proofs.Lemmas.{holds_at}
use Rattle.method_flow.specs.Flow.{Coded}
use Rattle.cert_checker.proofs.Coding.{places_within, numbers_within, lists_within}
use Rattle.cert_checker.proofs.prepared.told_summaries.Goals as goal

pub summaries-requires-clause-inside : goal.summaries-requires-clause-inside
summaries-requires-clause-inside c =
    let k = c.method.result.now in
    let own = c.args.own.now in
    let long = holds_at (slice_get c.args.task.now.flow.methods c.args.s.now.method) k (λ (x : Coded). length own ≡ 2 * length x.code) c.method.ensures c.requires.own in
    numbers_within k c.calls.result.now (length own) long (places_within k c.calls.result.now c.calls.ensures.whole (c.starts_follow_one_another.ensures k.code) c.calls.ensures.calls)

pub summaries-requires-clause-lists : goal.summaries-requires-clause-lists
summaries-requires-clause-lists c =
    let f = c.args.task.now.flow in
    lists_within f c.flow.result.now c.args.s.now.method c.method.result.now c.calls.result.now c.method_count.ensures.form c.flow.ensures.flow c.method.ensures c.calls.ensures.calls
