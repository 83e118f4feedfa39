use Rattle.std.proofs.Common.{rules, arith, ap, length, subst, Option}
use Rattle.std.specs.Prelude.{MatchOption}
use Rattle.ascii_text.specs.Line.{lines_of}
use Rattle.certificates.specs.Drafts.{Refuses}
use Rattle.certificates.proofs.LinesRead.{IsReadTo, one_more, refused, ended, all_read}
use Rattle.certificates.specs.declared.reader.reading.Reading.{Reading}
use Rattle.certificates.specs.Steps.{draft_of, AddsNext}
use Rattle.certificates.proofs.Counting.{count_fits}
use Rattle.certificates.proofs.Next.{not_whole}
use Rattle.certificates.proofs.reader.read_cert.Goals as goal

pub overflow_add-number : goal.overflow_add-number
overflow_add-number c =
    let few = count_fits c.args.text.now c.loop-line.number c.loop-line.line-iterator (draft_of c.loop-line.reading) c.loop-line.invariant.0 in
    let more = ap length c.in-Some.ensures.steps in
    omega arith

pub loop-line-preserved : goal.loop-line-preserved
loop-line-preserved c =
    let d = draft_of c.loop-line.reading in
    let a = subst (λ (o : Option Reading). MatchOption o (Refuses (draft_of c.loop-line.reading) c.in-Some.line.now) (AddsNext (draft_of c.loop-line.reading) c.in-Some.line.now)) c.in-Some-2.is c.in_ok-next.ensures in
    (one_more (lines_of c.args.text.now) c.loop-line.number c.loop-line.line-iterator c.next.new.self c.in-Some.line.now d (draft_of c.in-Some-2.next) c.loop-line.invariant.0 c.in-Some.ensures.steps a.adds, a.reading)

pub returns-in-None-2-clause-refused : goal.returns-in-None-2-clause-refused
returns-in-None-2-clause-refused c =
    refused (lines_of c.args.text.now) c.loop-line.number c.loop-line.line-iterator c.next.new.self c.in-Some.line.now (draft_of c.loop-line.reading) c.loop-line.invariant.0 c.in-Some.ensures.steps
    (subst (λ (o : Option Reading). MatchOption o (Refuses (draft_of c.loop-line.reading) c.in-Some.line.now) (AddsNext (draft_of c.loop-line.reading) c.in-Some.line.now)) c.in-None-2.is c.in_ok-next.ensures)

pub returns-in-Whole-clause-read : goal.returns-in-Whole-clause-read
returns-in-Whole-clause-read c =
    all_read (lines_of c.args.text.now) c.loop-line.number c.loop-line.line-iterator c.in-Whole.cert
    (subst (λ (r : Reading). IsReadTo (lines_of c.args.text.now) c.loop-line.number c.loop-line.line-iterator (draft_of r)) c.in-Whole.is c.loop-line.invariant.0) (search rules)

pub overflow_add-result : goal.overflow_add-result
overflow_add-result c =
    let few = count_fits c.args.text.now c.loop-line.number c.loop-line.line-iterator (draft_of c.loop-line.reading) c.loop-line.invariant.0 in
    omega arith

pub returns : goal.returns
returns c = record {
  read = tt;
  refused = ended (lines_of c.args.text.now) c.loop-line.number c.loop-line.line-iterator (draft_of c.loop-line.reading) c.loop-line.invariant.0 (search rules) (not_whole c.loop-line.reading c.in_default.not-Whole);
}
