use Rattle.std.proofs.Common.{◌≡◌, ℕ, ◌<◌, false, true, get_or, List, length, Option, None, Some, refl, sym, ap, ◌∙◌, subst, inl, inr, arith}
use Rattle.std.specs.Option.{is_some}
use Rattle.std.specs.List.Sorted.{IsNonDecreasingBy}
use Rattle.std.proofs.lemmas.Bool.{cases_lt, both_ways}
use Rattle.std.proofs.lemmas.List.{get_or_default}
use Rattle.std.proofs.lemmas.List.Sorted.{IsNonDecreasingBy-from_all_adjacent}
use Rattle.section_check.specs.Section.{CertifiedLoop, HeadersRise}
use Rattle.node_costs.specs.Costs.{bounds_of}
use Rattle.bound_rules.specs.Fitting.{header_bound}
use Rattle.cert_checker.proofs.prices.unbounded.Goals as goal

none_of : (o : Option ℕ) → is_some o ≡ false → o ≡ None
none_of None is = refl
none_of (Some n) is = absurd (both_ways true is refl)

headers_up : (ls : List CertifiedLoop) → HeadersRise ls → IsNonDecreasingBy (λ (k : CertifiedLoop). k.header) ls
headers_up ls h = IsNonDecreasingBy-from_all_adjacent (λ (k : CertifiedLoop). k.header) ls (λ k d lt. h k d lt)

pub returns-then-is_none : goal.returns-then-is_none
returns-then-is_none c =
    let ls = c.args.s.now.section.loops in
    let i = c.loop-l.l-index in
    let item = c.l-item.result in
    let same_list = c.loops-l-items.ensures in
    let L : List CertifiedLoop → Type 0 = λ xs. i < length xs in
    let G : List CertifiedLoop → Type 0 = λ xs. item ≡ get_or xs i item in
    let below = subst L same_list c.loop-l-test.true in
    let is = subst G same_list c.l-item.is in
    let B = bounds_of c.args.task.now.flow c.args.task.now.bounds in
    let m = c.args.s.now.method in
    let N : ℕ → Type 0 = λ u. header_bound B m u ≡ None in
    let gone = sym c.header_bound.ensures ∙ none_of c.header_bound.result c.if-is_none.ensures in
    let heads = c.header-then-is_none.ensures in (
      record { headed = item; among = (i, below, sym is); header = sym heads; none = subst N (c.header.ensures ∙ sym heads) gone },
      λ u less lacks.
          elim (cases_lt lacks.among.0 i) [
            | inl lt ↦ c.loop-l.invariant lacks.among.0 lacks.headed lt (lacks.among.1, lacks.among.2) (subst N (sym lacks.header) lacks.none)
            | inr ge ↦
                let up = headers_up ls c.requires.rising i lacks.among.0 item ge lacks.among.1 in
                let here = ap (λ (k : CertifiedLoop). k.header) is in
                let there = ap (λ (k : CertifiedLoop). k.header) (get_or_default ls lacks.among.0 item lacks.headed lacks.among.1 ∙ lacks.among.2) in
                let same = lacks.header in
                omega arith
          ],
    )
