use Rattle.std.proofs.Common.{◌≡◌, get_or, ℤ, w32, to_z, of_z, Contains, sym, subst, arith, rules}
use Rattle.std.specs.Prelude.{pos}
use Rattle.std.proofs.lemmas.Int.{ints}
use Rattle.std.proofs.lemmas.List.{get_or_default}
use Rattle.std.proofs.lemmas.List.Sorted.{answers_always}
use Rattle.code_scan.specs.declared.scan.PushedInt.{PushedInt}
use Rattle.code_scan.proofs.Pushing.{is_at, none_at}
use Rattle.code_scan.proofs.scan.value_at.Goals as goal

pub returns-in-Ok : goal.returns-in-Ok
returns-in-Ok c =
    let xs = c.args.pushed.now in
    let i = c.in-Ok.i in
    let lt = c.in-Ok.ensures.bound in
    let none : PushedInt = record { place = 0; value = pos 0 } in
    let x : PushedInt = get_or xs i none in
    let position = c.in-Ok.ensures.position (λ (e : PushedInt). e.place) (answers_always _ _ _ (λ f a r g called. search rules)) in
    let same : to_z w32 (of_z w32 x.value) ≡ x.value = omega (arith, ints) in
    subst (λ (z : ℤ). Contains xs (record { place = c.args.place; value = z })) (sym same) (is_at xs c.requires c.args.place i x lt position (sym (get_or_default xs i x none lt)))

pub returns-in-Err : goal.returns-in-Err
returns-in-Err c =
    let position = c.in-Err.ensures.position (λ (e : PushedInt). e.place) (answers_always _ _ _ (λ f a r g called. search rules)) in
    none_at c.args.pushed.now c.requires c.args.place c.in-Err.field-0 position
