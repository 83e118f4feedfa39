-- What well placed loops are, with what is due at their entries or without.
use Rattle.std.proofs.Common.{◌≡◌, ℕ, zero, suc, ◌<◌, List, [], ◌∷◌, length, get_or, Contains, Option, refl, sym, subst, inl, inr, arith}
use Rattle.std.proofs.lemmas.Bool.{cases_eq}
use Rattle.lists.specs.Members.{has_or_not}
use Rattle.loop_nest.specs.Digraph.{Digraph, Edge}
use Rattle.section_check.specs.Section.{Certified, CertifiedLoop, PricedLoop, priced}
use Rattle.section_check.specs.Placing.{IsEntryAt, AreWellPlaced}
use Rattle.section_check.specs.Placing.IsFaulty.{shares_header, leaves_header_out}
use Rattle.section_check.specs.Placing.IsMisplaced.{heads_faulty, enters_aside, holds_entry}
use Rattle.section_check.proofs.Sums.{HaveOwnHeaders}
use Rattle.priced_sections.specs.Prices.{PricedFact, with_dues}
use Rattle.priced_sections.specs.Paid.{paying}

pub record AreSound (g : Digraph) (ls : List PricedLoop) : Type 0 where
  pub own : (l : PricedLoop) → Contains ls l → Contains l.certified.members l.certified.header
  pub entered : (l : PricedLoop) (u v : ℕ) → Contains ls l → Edge g u v → Contains l.certified.members v → (Contains l.certified.members u → ⊥) → v ≡ l.certified.header
  pub entry : (l : PricedLoop) → Contains ls l → Contains l.certified.members 0 → l.certified.header ≡ 0
  pub apart : HaveOwnHeaders ls

-- loop i with its price is loop i
certified_at : (ls : List CertifiedLoop) (bounds : List ℕ) (loads : List (Option ℕ)) (i : ℕ) (d : PricedLoop) → i < length (priced ls bounds loads)
    → IsEntryAt ls i (get_or (priced ls bounds loads) i d).certified
certified_at [] bounds loads i d below = absurd (omega arith)
certified_at (l ∷ ls) [] loads i d below = absurd (omega arith)
certified_at (l ∷ ls) (b ∷ bs) [] i d below = absurd (omega arith)
certified_at (l ∷ ls) (b ∷ bs) (x ∷ xs) zero d below = (omega arith, refl)
certified_at (l ∷ ls) (b ∷ bs) (x ∷ xs) (suc i) d below = let r = certified_at ls bs xs i d (omega arith) in let lt = r.0 in (omega arith, r.1)

paying_at : (fs : List PricedFact) (ls : List CertifiedLoop) (bounds : List ℕ) (loads : List (Option ℕ)) (i : ℕ) (d : PricedLoop) → i < length (with_dues fs (priced ls bounds loads))
    → IsEntryAt ls i (get_or (with_dues fs (priced ls bounds loads)) i d).certified
paying_at fs [] bounds loads i d below = absurd (omega arith)
paying_at fs (l ∷ ls) [] loads i d below = absurd (omega arith)
paying_at fs (l ∷ ls) (b ∷ bs) [] i d below = absurd (omega arith)
paying_at fs (l ∷ ls) (b ∷ bs) (x ∷ xs) zero d below = (omega arith, refl)
paying_at fs (l ∷ ls) (b ∷ bs) (x ∷ xs) (suc i) d below = let r = paying_at fs ls bs xs i d (omega arith) in let lt = r.0 in (omega arith, r.1)

module _ (g : Digraph) (c : Certified) (bounds : List ℕ) (loads : List (Option ℕ)) (placed : AreWellPlaced g c bounds loads) (ls : List PricedLoop) (at : (i : ℕ) (d : PricedLoop) → i < length ls → IsEntryAt c.loops i (get_or ls i d).certified) where
  place_of : (l : PricedLoop) → Contains ls l → (i : ℕ) × IsEntryAt c.loops i l.certified
  place_of l has =
      let P : PricedLoop → Type 0 = λ k. IsEntryAt c.loops has.0 k.certified in
      (has.0, subst P has.2 (at has.0 l has.1))

  among_of : (l : PricedLoop) → Contains ls l → Contains c.loops l.certified
  among_of l has = let r = place_of l has in (r.0, r.1.0, r.1.1)

  own_of : (l : PricedLoop) → Contains ls l → Contains l.certified.members l.certified.header
  own_of l has =
      let r = place_of l has in
      elim (has_or_not l.certified.members l.certified.header) [
        | inl inside ↦ inside
        | inr outside ↦
            absurd (placed l.certified.header (heads_faulty (record { place = r.0; headed = l.certified; at = r.1; header = refl; faulty = leaves_header_out outside })))
      ]

  entered_of : (l : PricedLoop) (u v : ℕ) → Contains ls l → Edge g u v → Contains l.certified.members v → (Contains l.certified.members u → ⊥) → v ≡ l.certified.header
  entered_of l u v has e inside outside =
      elim (cases_eq v l.certified.header) [
        | inl same ↦ same
        | inr aside ↦ absurd (placed u (enters_aside v e (record { entered = l.certified; among = among_of l has; inside = inside; outside = outside; aside = aside })))
      ]

  entry_of : (l : PricedLoop) → Contains ls l → Contains l.certified.members 0 → l.certified.header ≡ 0
  entry_of l has inside =
      elim (cases_eq l.certified.header 0) [
        | inl same ↦ same
        | inr other ↦ absurd (placed 0 (holds_entry refl (record { holder = l.certified; among = among_of l has; header = other; inside = inside })))
      ]

  apart_of : HaveOwnHeaders ls
  apart_of i j d less below same =
      let a = at i d (omega arith) in
      let b = at j d below in
      placed (get_or ls i d).certified.header
      (heads_faulty
      (record {
        place = i;
        headed = (get_or ls i d).certified;
        at = a;
        header = refl;
        faulty = shares_header (record { place = j; other = (get_or ls j d).certified; at = b; apart = λ e. let bad : ⊥ = omega arith in bad; same = sym same });
      }))

  sound_by : AreSound g ls
  sound_by = record { own = own_of; entered = entered_of; entry = entry_of; apart = apart_of }

pub sound : (g : Digraph) (c : Certified) (bounds : List ℕ) (loads : List (Option ℕ)) → AreWellPlaced g c bounds loads → AreSound g (priced c.loops bounds loads)
sound g c bounds loads placed = sound_by g c bounds loads placed (priced c.loops bounds loads) (certified_at c.loops bounds loads)

pub sound_paying : (g : Digraph) (c : Certified) (bounds : List ℕ) (loads : List (Option ℕ)) (fs : List PricedFact) → AreWellPlaced g c bounds loads → AreSound g (paying c bounds loads fs)
sound_paying g c bounds loads fs placed = sound_by g c bounds loads placed (paying c bounds loads fs) (paying_at fs c.loops bounds loads)
