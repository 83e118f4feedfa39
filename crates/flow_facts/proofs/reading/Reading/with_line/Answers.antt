use Rattle.std.proofs.Common.{subst, Option, rules}
use Rattle.std.specs.Prelude.{MatchOption, Contains}
use Rattle.flow_facts.specs.declared.reading.Reading.{Reading}
use Rattle.flow_facts.specs.Lines.{subject_of}
use Rattle.flow_facts.specs.Grammar.{subjects}
use Rattle.flow_facts.specs.Adding.{AddsFact}
use Rattle.flow_facts.proofs.FactLemmas.{said_again}
use Rattle.flow_facts.proofs.reading.Reading.with_line.Goals as goal

pub returns-in-None-clause-refused : goal.returns-in-None-clause-refused
returns-in-None-clause-refused c =
    said_again c.args.self c.args.number c.args.line.now c.in-Fact.fact (search rules)
    (subst (λ (o : Option Reading). MatchOption o (Contains (subjects c.args.self.facts.items) (subject_of c.in-Fact.fact)) (AddsFact c.args.self (record { line = c.args.number; fact = c.in-Fact.fact })))
    c.in-None.is c.in_ok-next-in-Fact.ensures)
