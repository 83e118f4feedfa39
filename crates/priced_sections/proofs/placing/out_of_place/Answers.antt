use Rattle.std.proofs.Common.{◌≡◌, ℕ, Option, sym, ap, ◌∙◌, subst}
use Rattle.section_check.specs.Least.{IsLeast, lesser_of}
use Rattle.priced_sections.specs.Answers.{IsOutOfPlace}
use Rattle.priced_sections.proofs.InPlace.{least_out_of_place}
use Rattle.priced_sections.proofs.placing.out_of_place.Goals as goal

pub returns : goal.returns
returns c =
    let q = c.args.q.now in
    let a = c.misplaced-wrong.result in
    let b = c.least_unheld.result in
    let w = c.wrong_entry.result in
    let all =
    least_out_of_place q.graph.now q.section.now q.bounds.now q.loads.now q.facts.now c.args.value a b w c.requires.value c.misplaced-wrong.ensures c.least_unheld.ensures c.wrong_entry.ensures
    in
    let e : c.lesser-2.result ≡ lesser_of (lesser_of a b) w = c.lesser-2.ensures ∙ ap (λ (o : Option ℕ). lesser_of o w) c.lesser.ensures in
    let P : Option ℕ → Type 0 = λ o. IsLeast (IsOutOfPlace q.graph.now q.section.now q.bounds.now q.loads.now q.facts.now) o in
    subst P (sym e) all
