use Rattle.std.proofs.Common.{◌≡◌, ℕ, ◌+◌, ◌-◌, ◌<◌, List, length, get_or, sym, ap, ◌∙◌, inl, inr, arith}
use Rattle.std.proofs.lemmas.Bool.{eqb-true, eq-eqb, ltb-true}
use Rattle.std.proofs.lemmas.List.{get_or_default}
use Rattle.section_check.specs.Section.{CertifiedLoop}
use Rattle.section_check.proofs.LeastLemmas.{same_at}
use Rattle.section_check.proofs.Sharing.{shares_with, neighbour_shares}
use Rattle.section_check.proofs.faulty.shares_header.Goals as goal
use Rattle.section_check.proofs.faulty.shares_header.Goals.{else-i-gt0-via-then-i-gt0+else-header, else-i-gt0-via-else-i-gt0}

-- the header that was read of loop k
header_read : (ls : List CertifiedLoop) (k a : ℕ) (r l : CertifiedLoop) → k < length ls → r ≡ get_or ls k r → a ≡ r.header → a ≡ (get_or ls k l).header
header_read ls k a r l lt is head = head ∙ ap (λ (x : CertifiedLoop). x.header) (is ∙ get_or_default ls k r l lt)

header_is : (ls : List CertifiedLoop) (i a : ℕ) (r l : CertifiedLoop) → (i < length ls) × (get_or ls i l ≡ l) → r ≡ get_or ls i r → a ≡ r.header → a ≡ l.header
header_is ls i a r l at is head = head ∙ ap (λ (x : CertifiedLoop). x.header) (same_at ls i l r at is)

pub returns-then-i-loops : goal.returns-then-i-loops
returns-then-i-loops c = λ l at.
    let ls = c.args.loops.now in
    let i = c.args.i in
    let lt = c.if-i-loops.true in
    let here = header_is ls i c.header-header.result c.index-loops-i.result l at c.index-loops-i.is c.header-header.ensures in
    let next = header_read ls (i + 1) c.header-then-i-loops.result c.index-loops-i-then-i-loops.result l lt c.index-loops-i-then-i-loops.is c.header-then-i-loops.ensures in (
      λ t. shares_with ls i l (i + 1) lt (λ e. omega arith) (sym next ∙ eqb-true c.header-then-i-loops.result c.header-header.result t ∙ here),
      λ h.
          elim (neighbour_shares ls i l c.requires.headers at h) [
            | inl x ↦
                elim c.else-i-gt0.branch [
                  | else-i-gt0-via-then-i-gt0+else-header w ↦ absurd (w.if-header.false (header_read ls (i - 1) w.header.result w.index-loops-i-then-i-gt0.result l (omega arith) w.index-loops-i-then-i-gt0.is w.header.ensures ∙ x.1 ∙ sym here))
                  | else-i-gt0-via-else-i-gt0 w ↦ let none = w.if-i-gt0.false in let some = x.0 in absurd (omega arith)
                ]
            | inr x ↦ eq-eqb c.header-then-i-loops.result c.header-header.result (next ∙ x.1 ∙ sym here)
          ],
    )

pub returns-else-i-loops : goal.returns-else-i-loops
returns-else-i-loops c = λ l at.
    let ls = c.args.loops.now in
    let i = c.args.i in
    let last = c.if-i-loops.false in
    let here = header_is ls i c.header-header.result c.index-loops-i.result l at c.index-loops-i.is c.header-header.ensures in (
      λ t. let more = ltb-true (i + 1) (length ls) t in absurd (omega arith),
      λ h.
          elim (neighbour_shares ls i l c.requires.headers at h) [
            | inl x ↦
                elim c.else-i-gt0.branch [
                  | else-i-gt0-via-then-i-gt0+else-header w ↦ absurd (w.if-header.false (header_read ls (i - 1) w.header.result w.index-loops-i-then-i-gt0.result l (omega arith) w.index-loops-i-then-i-gt0.is w.header.ensures ∙ x.1 ∙ sym here))
                  | else-i-gt0-via-else-i-gt0 w ↦ let none = w.if-i-gt0.false in let some = x.0 in absurd (omega arith)
                ]
            | inr x ↦ let more = x.0 in absurd (omega arith)
          ],
    )
