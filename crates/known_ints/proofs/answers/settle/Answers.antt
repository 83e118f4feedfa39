use Rattle.std.proofs.Common.{List, Option, sym, ◌∙◌, subst}
use Rattle.std.specs.Prelude.{IfSome}
use Rattle.loop_rules.specs.declared.further.table.KnownInt.{KnownInt}
use Rattle.known_ints.specs.declared.answers.Answer.{Answer}
use Rattle.known_ints.specs.declared.answers.Loads.{Loads}
use Rattle.known_ints.specs.Knowing.{found_of}
use Rattle.known_ints.specs.Answers.{AreAnswersFor, IsAnswer, IsSettled, IsToldAt}
use Rattle.known_ints.proofs.Answering.{settles}
use Rattle.known_ints.proofs.answers.settle.Goals as goal

pub returns-in_ok-told : goal.returns-in_ok-told
returns-in_ok-told c =
    let code = c.args.code.now in
    let l = c.in-Some.local in
    let p = c.args.place in
    let q : Loads = record { code = c.args.code; found = c.found_of.result; answers = c.deref.result; local = l } in
    let xs = c.found_of.ensures in
    let ts = c.deref.ensures.value in
    settles code c.args.found.now c.args.answers.now.items p c.requires.long c.requires.within l (sym c.part.ensures ∙ (c.loaded.ensures l).0 c.in-Some.is) c.in_ok-told.told
    (λ P known m of so come.
    let given = subst (λ (ys : List (Option KnownInt)). AreAnswersFor P m code.parts ys c.deref.result.now l) (sym xs)
    (subst (λ (us : List (Option Answer)). AreAnswersFor P m code.parts (found_of c.args.found.now l.holds) us l) (sym ts) so) in
    let told = c.in_ok-told.ensures P known m of given come in (
      (λ a is.
          let right : IsToldAt P m q p a = subst (λ (o : Option Answer). IfSome o (IsToldAt P m q p)) is told.0 in
          subst (λ (ys : List (Option KnownInt)). IsAnswer P m code.parts ys l p a) xs right.is),
      subst (λ (ys : List (Option KnownInt)). IsSettled ys c.in_ok-told.told) xs told.1,
    ))
