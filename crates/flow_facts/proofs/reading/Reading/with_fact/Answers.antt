use Rattle.std.proofs.Common.{rules}
use Rattle.flow_facts.specs.Lines.{subject_of}
use Rattle.flow_facts.specs.contracts.line.SubjectPartialEq.TheImpl.{eq-value}
use Rattle.flow_facts.proofs.SubjectLemmas.{subject_same}
use Rattle.flow_facts.proofs.AddingLemmas.{added}
use Rattle.flow_facts.proofs.FactLemmas.{again, goes_behind}
use Rattle.flow_facts.proofs.reading.Reading.with_fact.Goals as goal

pub returns-then-not-branch : goal.returns-then-not-branch
returns-then-not-branch c =
    again c.args.self c.in_ok-subject.field-0 (subject_of c.args.fact.fact) c.insert.new.self.keys c.in_ok-insert.field-0 c.requires c.in_ok-subject.ensures
    (added eq-value.it subject_same c.args.self.subjects.keys c.insert.new.self.keys c.in_ok-subject.field-0 c.in_ok-insert.field-0 c.in_ok-insert.ensures.keys c.in_ok-insert.ensures.added)
    (search rules)

pub returns : goal.returns
returns c =
    goes_behind c.args.self _ c.args.fact c.in_ok-subject.field-0 c.in_ok-insert.field-0 c.requires c.in_ok-subject.ensures
    (added eq-value.it subject_same c.args.self.subjects.keys c.insert.new.self.keys c.in_ok-subject.field-0 c.in_ok-insert.field-0 c.in_ok-insert.ensures.keys c.in_ok-insert.ensures.added)
    (search rules) c.in_ok-push.ensures.items
