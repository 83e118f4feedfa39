use Rattle.std.proofs.Common.{get_or, sym, rules}
use Rattle.std.proofs.lemmas.List.{get_or_default}
use Rattle.std.proofs.lemmas.List.Sorted.{answers_always}
use Rattle.method_flow.specs.declared.flow.Call.{Call}
use Rattle.memory_bound.proofs.Placing.{is_at, only_one, none_at}
use Rattle.memory_bound.proofs.task.call_at.Goals as goal

pub returns-in-Ok-clause-found : goal.returns-in-Ok-clause-found
returns-in-Ok-clause-found c =
    let xs = c.args.calls.now in
    let i = c.in-Ok.i in
    let lt = c.in-Ok.ensures.bound in
    let none : Call = record { place = 0; targets = 0 } in
    let call : Call = get_or xs i none in
    let position = c.in-Ok.ensures.position (λ (e : Call). e.place) (answers_always _ _ _ (λ f a r g called. search rules)) in
    let same = get_or_default xs i none call lt in
    ((i, lt, sym same), is_at xs c.requires c.args.place i call lt position same)

pub returns-in-Ok-clause-only : goal.returns-in-Ok-clause-only
returns-in-Ok-clause-only c =
    let xs = c.args.calls.now in
    let i = c.in-Ok.i in
    let lt = c.in-Ok.ensures.bound in
    let none : Call = record { place = 0; targets = 0 } in
    let call : Call = get_or xs i none in
    let position = c.in-Ok.ensures.position (λ (e : Call). e.place) (answers_always _ _ _ (λ f a r g called. search rules)) in
    let same = get_or_default xs i none call lt in
    only_one xs c.requires c.args.place i call lt (is_at xs c.requires c.args.place i call lt position same) same

pub returns-in-Err-clause-none : goal.returns-in-Err-clause-none
returns-in-Err-clause-none c =
    let position = c.in-Err.ensures.position (λ (e : Call). e.place) (answers_always _ _ _ (λ f a r g called. search rules)) in
    none_at c.args.calls.now c.requires c.args.place c.in-Err.field-0 position
