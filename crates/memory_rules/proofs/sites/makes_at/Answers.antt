use Rattle.std.proofs.Common.{get_or, sym, rules}
use Rattle.std.proofs.lemmas.List.{get_or_default}
use Rattle.std.proofs.lemmas.List.Sorted.{answers_always}
use Rattle.memory_rules.specs.declared.sites.Site.{Site}
use Rattle.memory_rules.specs.declared.sites.Makes.TheVariants.{Object}
use Rattle.memory_rules.proofs.Placed.{is_at, none_at}
use Rattle.memory_rules.proofs.sites.makes_at.Goals as goal

pub returns-in-Ok : goal.returns-in-Ok
returns-in-Ok c =
    let xs = c.args.sites.now in
    let i = c.in-Ok.i in
    let lt = c.in-Ok.ensures.bound in
    let none : Site = record { place = 0; makes = Object 0 } in
    let x : Site = get_or xs i none in
    let position = c.in-Ok.ensures.position (λ (e : Site). e.place) (answers_always _ _ _ (λ f a r g called. search rules)) in
    is_at xs c.requires c.args.place i x lt position (sym (get_or_default xs i x none lt))

pub returns-in-Err : goal.returns-in-Err
returns-in-Err c =
    let position = c.in-Err.ensures.position (λ (e : Site). e.place) (answers_always _ _ _ (λ f a r g called. search rules)) in
    none_at c.args.sites.now c.requires c.args.place c.in-Err.field-0 position
