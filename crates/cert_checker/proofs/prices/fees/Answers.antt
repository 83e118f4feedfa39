use Rattle.std.proofs.Common.{◌≡◌, ℕ, ◌+◌, List, length, get_or, Option, None, sym, ap, ◌∙◌, subst, arith}
use Rattle.std.proofs.lemmas.List.{length_push}
use Rattle.section_check.specs.Section.{CertifiedLoop}
use Rattle.bound_rules.specs.Sections.{IsEntryLoad}
use Rattle.cert_checker.proofs.Pushing.{EachReads, reads_more}
use Rattle.cert_checker.proofs.prices.fees.Goals as goal

pub loop-l-preserved : goal.loop-l-preserved
loop-l-preserved c =
    let old = c.loop-l.fees.items in
    let ls = c.args.s.now.section.loops in
    let i = c.loop-l.l-index in
    let item = c.l-item.result in
    let long = c.loop-l.invariant.long in
    let same = c.loops-l-items.ensures in
    let G : List CertifiedLoop → Type 0 = λ xs. item ≡ get_or xs i item in
    let is = subst G same c.l-item.is in
    record {
      long = ap length c.in_ok-push.ensures.items ∙ length_push old c.in_ok-fee.field-0 ∙ ap (λ (n : ℕ). n + 1) long;
      each =
          λ P flow.
          let R : CertifiedLoop → Option ℕ → Type 0 = λ k fee. IsEntryLoad P c.args.task.now.timing c.args.s.now.method k fee in
          let Q : List (Option ℕ) → Type 0 = λ fs. EachReads R None ls fs (i + 1) in
          subst Q (sym c.in_ok-push.ensures.items) (reads_more R None ls old i item c.in_ok-fee.field-0 long is (c.in_ok-fee.ensures P flow) (c.loop-l.invariant.each P flow));
    }

pub returns-clause-each : goal.returns-clause-each
returns-clause-each c = λ P flow.
    let same = ap length c.loops-l-items.ensures in
    let past = c.loop-l-test.false in
    let end = c.loop-l.auto.l-index-end in
    let long = c.loop-l.invariant.long in
    record {
      long = omega arith;
      each = λ i l at. let below = at.0 in c.loop-l.invariant.each P flow i l (omega arith) at;
    }
