-- The loops of a section, one by one.
use Rattle.std.proofs.Common.{◌≡◌, ℕ, zero, suc, ◌+◌, ◌<◌, false, List, [], ◌∷◌, ◌++◌, length, get_or, take, refl, ap, ◌∙◌, arith}
use Rattle.loop_nest.specs.Nest.{NaturalLoop}
use Rattle.section_check.specs.Section.{CertifiedLoop}
use Rattle.path_solver.specs.Certifying.{certified}

abbrev pub made : NaturalLoop → ℕ → CertifiedLoop
made l iteration_cost = record { header = l.header; iteration_cost = iteration_cost; members = l.members; region = false }

more : (ls : List NaturalLoop) (ws : List ℕ) (i : ℕ) (d : NaturalLoop) → i < length ls → length ws ≡ length ls → certified (take (suc i) ls) ws ≡ certified (take i ls) ws ++ made (get_or ls i d) (get_or ws i 0) ∷ []
more [] ws i d lt a = absurd (omega arith)
more (l ∷ ls) [] i d lt a = absurd (omega arith)
more (l ∷ ls) (w ∷ ws) zero d lt a = refl
more (l ∷ ls) (w ∷ ws) (suc i) d lt a = ap (λ zs. made l w ∷ zs) (more ls ws i d (omega arith) (omega arith))

pub certified_more : (ls : List NaturalLoop) (ws : List ℕ) (i : ℕ) (d : NaturalLoop) → i < length ls → length ws ≡ length ls → certified (take (i + 1) ls) ws ≡ certified (take i ls) ws ++ made (get_or ls i d) (get_or ws i 0) ∷ []
certified_more ls ws i d lt a = ap (λ (k : ℕ). certified (take k ls) ws) (let e : i + 1 ≡ suc i = omega arith in e) ∙ more ls ws i d lt a
