use Rattle.std.proofs.Common.{rules}
use Rattle.std.proofs.lemmas.List.Sorted.{answers_always}
use Rattle.image_facts.specs.declared.method.CodedMethod.{CodedMethod}
use Rattle.image_facts.proofs.Finding.{found, absent}
use Rattle.image_facts.proofs.method.number_at.Goals as goal

pub returns-in-Ok : goal.returns-in-Ok
returns-in-Ok c =
    let position = c.in-Ok.ensures.position (λ (e : CodedMethod). e.place) (answers_always _ _ _ (λ f a r g called. search rules)) in
    found c.args.methods.now c.requires.rising c.args.place c.in-Ok.number c.in-Ok.ensures.bound position

pub returns-in-Err : goal.returns-in-Err
returns-in-Err c =
    let position = c.in-Err.ensures.position (λ (e : CodedMethod). e.place) (answers_always _ _ _ (λ f a r g called. search rules)) in
    absent c.args.methods.now c.requires.rising c.args.place c.in-Err.field-0 position
