use Rattle.std.proofs.Common.{sym, ap, ◌∙◌, inl, inr, arith}
use Rattle.std.proofs.lemmas.Bool.{cases_lt, false≢true}
use Rattle.std.proofs.lemmas.List.{get_or_default}
use Rattle.std.proofs.lemmas.List.Sorted.{IsNonDecreasingBy-from_all_adjacent}
use Rattle.section_check.specs.Section.{CertifiedLoop}
use Rattle.section_check.specs.Placing.{IsEntryAt, IsFaulty}
use Rattle.section_check.proofs.LeastLemmas.{one_more}
use Rattle.section_index.proofs.faulty.faulty_header.Goals as goal

pub returns-then-is_faulty : goal.returns-then-is_faulty
returns-then-is_faulty c =
    let ls = c.args.loops.now in
    let i = c.loop-i.i in
    let l = c.index-loops-i.result in
    let at : IsEntryAt ls i l = (c.loop-i-test.true, sym c.index-loops-i.is) in
    let head = c.header.ensures in (
      record { place = i; headed = l; at = at; header = sym head; faulty = (c.is_faulty.ensures l at).0 c.if-is_faulty.true },
      λ u less h.
          elim (cases_lt h.place i) [
            | inl early ↦ c.loop-i.invariant h.place h.headed early h.at h.faulty
            | inr late ↦
                let rise = IsNonDecreasingBy-from_all_adjacent (λ (k : CertifiedLoop). k.header) ls c.requires.headers i h.place l late h.at.0 in
                let here = ap (λ (k : CertifiedLoop). k.header) (sym c.index-loops-i.is) in
                let there = ap (λ (k : CertifiedLoop). k.header) (get_or_default ls h.place l h.headed h.at.0 ∙ h.at.1) in
                let top = h.header in
                omega arith
          ],
    )

pub loop-i-preserved : goal.loop-i-preserved
loop-i-preserved c = λ j m lt.
    let ls = c.args.loops.now in
    let loads = c.args.loads.now in
    one_more c.loop-i.i j (λ n. IsEntryAt ls n m → IsFaulty ls loads n m → ⊥) (λ n early. c.loop-i.invariant n m early) (λ at f. false≢true (sym c.if-is_faulty.false ∙ (c.is_faulty.ensures m at).1 f)) lt
