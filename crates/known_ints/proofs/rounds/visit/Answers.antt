use Rattle.std.proofs.Common.{◌≡◌, List, Option, Some, None, false, refl, ap, ◌∙◌, sym, subst}
use Rattle.std.specs.Prelude.{is_some}
use Rattle.std.proofs.lemmas.Bool.{both_ways}
use Rattle.loop_rules.specs.declared.further.table.KnownInt.{KnownInt}
use Rattle.loop_rules.specs.Further.Found.{known_at}
use Rattle.known_ints.specs.declared.answers.Answer.{Answer}
use Rattle.known_ints.specs.Answers.{IsAsked}
use Rattle.known_ints.proofs.Rounding.{visit_taken}
use Rattle.known_ints.proofs.rounds.visit.Goals as goal

none_is : (o : Option KnownInt) → is_some o ≡ false → o ≡ None
none_is None e = refl
none_is (Some k) e = absurd (both_ways (is_some (Some k)) e refl)

pub returns : goal.returns
returns c =
    let code = c.args.code.now in
    let t = c.args.found.now in
    let line = c.args.line in
    let found = c.known_at.ensures ∙ ap (λ (xs : List (Option KnownInt)). known_at xs line.place) c.found_of.ensures in
    let fresh = sym found ∙ none_is c.known_at.result (sym c.is_some.ensures ∙ c.if-is_some.false) in
    visit_taken c.lines_follow_one_another.ensures.one c.last_writes_exist.ensures c.lines_before_are_reached.ensures code line c.requires.line t c.args.answers.now.items
    c.settle.new.answers.items c.requires.sized fresh c.in_ok-settle.ensures c.given_at-given.result
    (λ P known m of asked.
    c.given_at-given.ensures P known m of (subst (λ (us : List (Option Answer)). IsAsked P m code t us line.last) (sym c.deref.ensures.value) asked))
    c.take.new.found c.take.result c.take.ensures
