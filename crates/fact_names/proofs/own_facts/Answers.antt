use Rattle.std.proofs.Common.{List, length, Option, ap, ◌∙◌, subst}
use Rattle.fact_names.specs.declared.naming.Found.{Found}
use Rattle.fact_names.specs.Found.{AreAllFound, IsMissing}
use Rattle.fact_names.specs.Refused.{AreNamed, AreUnnamed}
use Rattle.fact_names.proofs.Looping.{err_weaker, ok_weaker}
use Rattle.fact_names.proofs.Refusing.{named, unnamed}
use Rattle.fact_names.proofs.own_facts.Goals as goal

pub facts_of-requires : goal.facts_of-requires
facts_of-requires c = ap (λ (xs : List (Option Found)). length xs) c.deref.ensures.value ∙ c.in_ok-found.ensures.long

pub returns-clause-facts : goal.returns-clause-facts
returns-clause-facts c =
    let f = c.args.f.now in
    let lines = c.args.lines.now in
    ok_weaker c.facts_of.result (AreAllFound c.deref.result.now) (AreNamed f lines)
    (λ facts a. named f lines c.in_ok-found.found.items c.requires c.in_ok-found.ensures.found facts (subst (λ (xs : List (Option Found)). AreAllFound xs facts) c.deref.ensures.value a)) c.facts_of.ensures.facts

pub returns-clause-fault : goal.returns-clause-fault
returns-clause-fault c =
    let f = c.args.f.now in
    let lines = c.args.lines.now in
    err_weaker c.facts_of.result (IsMissing lines c.deref.result.now) (AreUnnamed f lines)
    (λ fault m. unnamed f lines c.in_ok-found.found.items c.requires c.in_ok-found.ensures.found fault (subst (λ (xs : List (Option Found)). IsMissing lines xs fault) c.deref.ensures.value m)) c.facts_of.ensures.missing
