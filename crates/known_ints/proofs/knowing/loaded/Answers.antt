use Rattle.std.proofs.Common.{ℤ, Option, Some, None, w32, FitsSigned, refl, sym, ap, ◌∙◌, subst, rules}
use Rattle.std.specs.Prelude.{IfSome}
use Rattle.std.proofs.lemmas.Int.{to_z-of_z}
use Rattle.known_ints.specs.declared.answers.Answer.{Answer}
use Rattle.known_ints.specs.declared.answers.Answer.TheVariants.{Known as Told}
use Rattle.known_ints.specs.Answers.{IsAnswer, IsSettled}
use Rattle.known_ints.proofs.Answering.{load_given, told_one}
use Rattle.known_ints.proofs.knowing.loaded.Goals as goal

pub returns-in-Known : goal.returns-in-Known
returns-in-Known c P known m code found local of come settled so =
    let v = c.in-Known.value in
    let fits : FitsSigned w32 v = search rules in
    let at = sym c.answer_at.ensures ∙ c.in_ok-value.was ∙ ap (λ (a : Answer). Some a) c.in-Known.is in
    load_given P m code.parts local c.last_writes_exist.ensures found c.args.place (c.last_writes_exist.ensures P m local.index _ of.stays come) (Told v)
    (subst (IsSettled found) at settled) (subst (λ (o : Option Answer). IfSome o (IsAnswer P m code.parts found local c.args.place)) at so) _
    (λ d is. ap (λ (z : ℤ). Some (record { from = c.args.place; value = z })) (to_z-of_z w32 v fits ∙ told_one v d is)) (λ none. absurd (none v refl))

pub returns-in_default : goal.returns-in_default
returns-in_default c P known m code found local of come settled so =
    let at = sym c.answer_at.ensures ∙ c.in_ok-value.was in
    load_given P m code.parts local c.last_writes_exist.ensures found c.args.place (c.last_writes_exist.ensures P m local.index _ of.stays come) c.in_ok-value.field-0
    (subst (IsSettled found) at settled) (subst (λ (o : Option Answer). IfSome o (IsAnswer P m code.parts found local c.args.place)) at so) None
    (λ d is. absurd (c.in_default.not-Known d is)) (λ none. refl)
