-- An empty text of facts supposes nothing.
use Rattle.std.proofs.Common.{◌≡◌, List, [], subst}
use Rattle.class_pool.specs.declared.class.ClassFile.{ClassFile}
use Rattle.program_tables.specs.Resolved.{resolved}
use Rattle.name_laws.specs.Written.{written_name}
use Rattle.flow_facts.specs.declared.line.NumberedFact.{NumberedFact}
use Rattle.flow_facts.specs.Facts.{Facts, no_facts}
use Rattle.fact_names.specs.Named.{MeanAll, facts_said}
use Rattle.fact_keeping.specs.Keeping.{BoundsKept}
use Rattle.fact_keeping.specs.Laws.{NoFactsAreAsked}
use Rattle.analysis_commands.specs.Analysis.{timing_of, bounds_of}
use Rattle.analysis_commands.specs.Facts.{AreFactsOf}
use Rattle.jop_cli.specs.promises.Facts.{WrittenWithoutFacts, CheckedWithoutFacts}

none_of : (cs : List ClassFile) (facts : Facts) → AreFactsOf cs [] facts → facts ≡ no_facts
none_of cs facts are =
    subst (λ (lines : List NumberedFact). MeanAll (resolved cs) (written_name cs) (facts_said lines) facts) are.read.given are.mean

pub written_without_facts : NoFactsAreAsked → WrittenWithoutFacts
written_without_facts asked cs s bounds_text name text shows =
    let c = shows.is.certificate.plain in
    asked (resolved cs) (timing_of s) (bounds_of cs shows.is.bounds) c.root c.bound
    (subst (λ (f : Facts). BoundsKept (resolved cs) (timing_of s) (bounds_of cs shows.is.bounds) f c.root c.bound) (none_of cs shows.is.facts shows.is.facts_are) shows.holds)

pub checked_without_facts : NoFactsAreAsked → CheckedWithoutFacts
checked_without_facts asked cs s bounds_text cert_text h shows =
    asked (resolved cs) (timing_of s) (bounds_of cs shows.bounds) h.root h.bound
    (subst (λ (f : Facts). BoundsKept (resolved cs) (timing_of s) (bounds_of cs shows.bounds) f h.root h.bound) (none_of cs shows.facts shows.facts_are) shows.holds)
