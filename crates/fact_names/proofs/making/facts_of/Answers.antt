use Rattle.std.proofs.Common.{◌<◌, List, [], ◌∷◌, ◌++◌, length, sym, ap, ◌∙◌, arith}
use Rattle.std.proofs.lemmas.List.{map-append}
use Rattle.flow_facts.specs.Facts.{CountFact}
use Rattle.fact_names.specs.Found.{count_of}
use Rattle.fact_names.proofs.Refusing.{next_found}
use Rattle.fact_names.proofs.making.facts_of.Goals as goal

pub loop-i-preserved : goal.loop-i-preserved
loop-i-preserved c =
    let x = c.in-Some.found in
    let xs = c.loop-i.invariant.0 in
    let lt = c.loop-i-test.true in
    let long = c.requires in
    let inside : c.loop-i.i < length c.args.found.now = omega arith in (
      xs ++ x ∷ [],
      next_found c.args.found.now c.loop-i.i xs x inside c.in-Some.is c.loop-i.invariant.1,
      c.in_ok-add_fact.ensures ∙ (ap (λ (cs : List CountFact). cs ++ count_of x ∷ []) c.loop-i.invariant.2 ∙ sym (map-append count_of xs (x ∷ []))),
    )
