-- Which loops share a header or cross, from one loop to the next.
use Rattle.std.proofs.Common.{◌≡◌, ◌≢◌, ℕ, ◌+◌, ◌-◌, ◌<◌, ◌⊎◌, List, length, get_or, Contains, sym, ap, ◌∙◌, subst, inl, inr, arith}
use Rattle.std.proofs.lemmas.Bool.{cases_order}
use Rattle.std.proofs.lemmas.List.{get_or_default}
use Rattle.std.proofs.lemmas.List.Sorted.{IsNonDecreasingBy-from_all_adjacent}
use Rattle.section_check.specs.Section.{CertifiedLoop, HeadersRise}
use Rattle.section_check.specs.Placing.{IsEntryAt, AreCrossed, SharesHeader}
use Rattle.section_check.proofs.Headed.{itself_at}

module _ (ls : List CertifiedLoop) (i : ℕ) (l : CertifiedLoop) where
  pub shares_with : (k : ℕ) → k < length ls → k ≢ i → (get_or ls k l).header ≡ l.header → SharesHeader ls i l
  shares_with k lt apart same = record { place = k; other = get_or ls k l; at = itself_at ls k l lt; apart = apart; same = same }

  -- where headers don't fall, the loop before or the one after shares the header
  pub neighbour_shares : HeadersRise ls → IsEntryAt ls i l → SharesHeader ls i l → ((0 < i) × ((get_or ls (i - 1) l).header ≡ l.header)) ⊎ ((i + 1 < length ls) × ((get_or ls (i + 1) l).header ≡ l.header))
  neighbour_shares rise at h =
      let order = IsNonDecreasingBy-from_all_adjacent (λ (x : CertifiedLoop). x.header) ls rise in
      let k = h.place in
      let below = h.at.0 in
      let inside = at.0 in
      let there : (get_or ls k l).header ≡ l.header = ap (λ (x : CertifiedLoop). x.header) (get_or_default ls k l h.other h.at.0 ∙ h.at.1) ∙ h.same in
      let here : (get_or ls i l).header ≡ l.header = ap (λ (x : CertifiedLoop). x.header) at.1 in
      elim (cases_order k i) [
        | inl same ↦ absurd (h.apart same)
        | inr other ↦
            elim other [
              | inl early ↦
                  let up = order k (i - 1) l (omega arith) (omega arith) in
                  let on = order (i - 1) i l (omega arith) inside in
                  inl (omega arith, omega arith)
              | inr late ↦
                  let on = order i (i + 1) l (omega arith) (omega arith) in
                  let up = order (i + 1) k l (omega arith) below in
                  inr (omega arith, omega arith)
            ]
      ]

pub crossed_back : (l k : CertifiedLoop) → AreCrossed l k → AreCrossed k l
crossed_back l k h = record { common = h.common; first = h.second; second = h.first; not_in = h.not_around; not_around = h.not_in }

-- a loop doesn't cross itself
pub itself_uncrossed : (l k : CertifiedLoop) → k ≡ l → AreCrossed l k → ⊥
itself_uncrossed l k same h = h.not_in (λ x has. let P : CertifiedLoop → Type 0 = λ z. Contains z.members x in subst P (sym same) has)
