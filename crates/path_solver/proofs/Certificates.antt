-- The loops of a nest in a section, place by place.
use Rattle.std.proofs.Common.{◌≡◌, ℕ, zero, suc, false, List, [], ◌∷◌, length, map, get_or, All, refl, sym, ap, arith}
use Rattle.std.proofs.lemmas.List.Elements.{All-cons, All-nil}
use Rattle.loop_nest.specs.Nest.{NaturalLoop}
use Rattle.section_check.specs.Section.{CertifiedLoop}
use Rattle.section_check.specs.Placing.{IsEntryAt}
use Rattle.path_solver.specs.Certifying.{certified}
use Rattle.path_solver.specs.Longest.{AreLoopsOf}
use Rattle.path_solver.proofs.Certified.{made}

pub certified_long : (ls : List NaturalLoop) (ws : List ℕ) → length ws ≡ length ls → length (certified ls ws) ≡ length ls
certified_long [] ws a = refl
certified_long (l ∷ ls) [] a = absurd (omega arith)
certified_long (l ∷ ls) (w ∷ ws) a = ap suc (certified_long ls ws (omega arith))

same_headers : (ls : List NaturalLoop) (ws : List ℕ) → length ws ≡ length ls → map (λ (c : CertifiedLoop). c.header) (certified ls ws) ≡ map (λ (l : NaturalLoop). l.header) ls
same_headers [] ws a = refl
same_headers (l ∷ ls) [] a = absurd (omega arith)
same_headers (l ∷ ls) (w ∷ ws) a = ap (λ (hs : List ℕ). l.header ∷ hs) (same_headers ls ws (omega arith))

same_members : (ls : List NaturalLoop) (ws : List ℕ) → length ws ≡ length ls → map (λ (c : CertifiedLoop). c.members) (certified ls ws) ≡ map (λ (l : NaturalLoop). l.members) ls
same_members [] ws a = refl
same_members (l ∷ ls) [] a = absurd (omega arith)
same_members (l ∷ ls) (w ∷ ws) a = ap (λ (ms : List (List ℕ)). l.members ∷ ms) (same_members ls ws (omega arith))

no_region : (ls : List NaturalLoop) (ws : List ℕ) → All (λ (c : CertifiedLoop). c.region ≡ false) (certified ls ws)
no_region [] ws = All-nil (λ (c : CertifiedLoop). c.region ≡ false)
no_region (l ∷ ls) [] = All-nil (λ (c : CertifiedLoop). c.region ≡ false)
no_region (l ∷ ls) (w ∷ ws) = All-cons (λ (c : CertifiedLoop). c.region ≡ false) (made l w) (certified ls ws) refl (no_region ls ws)

pub loops_of_nest : (ls : List NaturalLoop) (ws : List ℕ) → length ws ≡ length ls → AreLoopsOf ls (certified ls ws)
loops_of_nest ls ws a = record { headers = same_headers ls ws a; members = same_members ls ws a; regions = no_region ls ws }

-- loop i of the section is made of loop i of the nest
from_certified : (ls : List NaturalLoop) (ws : List ℕ) → length ws ≡ length ls → (i : ℕ) (c : CertifiedLoop) → IsEntryAt (certified ls ws) i c → (l : NaturalLoop) × IsEntryAt ls i l × (c ≡ made l (get_or ws i 0))
from_certified [] ws a i c at = let lt = at.0 in absurd (omega arith)
from_certified (l ∷ ls) [] a i c at = absurd (omega arith)
from_certified (l ∷ ls) (w ∷ ws) a zero c at = (l, (omega arith, refl), sym at.1)
from_certified (l ∷ ls) (w ∷ ws) a (suc i) c at =
    let lt = at.0 in
    let r = from_certified ls ws (omega arith) i c (omega arith, at.1) in
    let below = r.1.0 in
    (r.0, (omega arith, r.1.1), r.2)

-- c is loop i of the section, and l loop i of the nest
pub record IsSameLoop (ls : List NaturalLoop) (i : ℕ) (c : CertifiedLoop) : Type 0 where
  pub loop : NaturalLoop
  pub at : IsEntryAt ls i loop
  pub header : c.header ≡ loop.header
  pub members : c.members ≡ loop.members
  pub region : c.region ≡ false

pub same_loop : (ls : List NaturalLoop) (ws : List ℕ) → length ws ≡ length ls → (i : ℕ) (c : CertifiedLoop) → IsEntryAt (certified ls ws) i c → IsSameLoop ls i c
same_loop ls ws a i c at =
    let r = from_certified ls ws a i c at in
    record {
      loop = r.0;
      at = r.1;
      header = ap (λ (k : CertifiedLoop). k.header) r.2;
      members = ap (λ (k : CertifiedLoop). k.members) r.2;
      region = ap (λ (k : CertifiedLoop). k.region) r.2;
    }
