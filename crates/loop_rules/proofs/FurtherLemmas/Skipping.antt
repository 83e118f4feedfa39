-- Searches that skip straight parts of a graph stop where others do.
use Rattle.std.proofs.Common.{◌≡◌, ◌⊎◌, ℕ, Bool, List, [], Contains, refl, sym, subst, inl, inr}
use Rattle.std.specs.Prelude.{◌↔◌}
use Rattle.lists.specs.Members.{at_head, cons_cases, nil_contains}
use Rattle.loop_nest.specs.Digraph.{Digraph, IsDigraph}
use Rattle.loop_nest.proofs.Ends.{ends_within}
use Rattle.loop_nest.proofs.Searching.{sources_has, from_sources}
use Rattle.loop_rules.specs.Further.Search.{AreBacks, Comes, ComesBy, IsBegun, IsBegunBy, IsPassed, Skips, StopsBy, StopsThere, back_from}
use Rattle.loop_rules.specs.Further.Search.Comes.{here, along}
use Rattle.loop_rules.specs.Further.Search.ComesBy.{here as here_by, along as along_by}
use Rattle.loop_rules.specs.Further.Search.Skips.{stay, back}

module _ (g : Digraph) (idle : List Bool) (Stop : ℕ → Type 0) (backs : List ℕ) (end : ℕ) (wf : IsDigraph g) (are : AreBacks g idle backs) (passed : IsPassed idle Stop) where
  abbrev By : ℕ → Type 0
  By x = ComesBy g backs Stop end x

  skip_comes : {u x : ℕ} → Skips g idle u x → Comes g Stop end u → Comes g Stop end x
  skip_comes stay c = c
  skip_comes (back {u} {w} flag later only rest) c =
      skip_comes rest (along c (passed u flag) (from_sources g.edges w u (subst (λ (us : List ℕ). Contains us w) (sym only) (at_head w []))))

  comes : {x : ℕ} → By x → Comes g Stop end x
  comes here_by = here
  comes (along_by {u} {v} c go edge) = skip_comes (are.each u (ends_within wf u v edge).0).0 (along (comes c) go edge)

  -- the search that skips comes to the node, or past it
  past : {x : ℕ} → Comes g Stop end x → (y : ℕ) × By y × Skips g idle x y
  past here = (end, here_by, stay)
  past (along {u} {v} c go edge) = by (past c)
    where
      on : (y : ℕ) → By y → Skips g idle v y → (z : ℕ) × By z × Skips g idle u z
      on y b stay = (back_from backs u, along_by b go edge, (are.each u (ends_within wf u v edge).0).0)
      on y b (back {w = w} flag later only rest) =
          let among = subst (λ (us : List ℕ). Contains us u) only (sources_has g.edges u v edge) in
          elim (cons_cases w u [] among) [ inl same ↦ (y, b, subst (λ (z : ℕ). Skips g idle z y) same rest) | inr none ↦ absurd (nil_contains u none) ]

      by : (y : ℕ) × By y × Skips g idle v y → (z : ℕ) × By z × Skips g idle u z
      by p = on p.0 p.1 p.2

  stays : {x y : ℕ} → By y → Skips g idle x y → Stop x → By x
  stays b stay s = b
  stays b (back {u} flag later only rest) s = absurd (passed u flag s)

  begins : {x y : ℕ} → By y → Skips g idle x y → x ≡ 0 → By x
  begins b stay zero = b
  begins b (back flag later only rest) zero = absurd (later zero)

  decides : {x y : ℕ} → Stop y ⊎ ¬ Stop y → Skips g idle x y → Stop x ⊎ ¬ Stop x
  decides d stay = d
  decides d (back {u} flag later only rest) = inr (passed u flag)

  -- it stops at the same nodes
  pub stops_alike : (x : ℕ) → StopsBy g backs Stop end x ↔ StopsThere g Stop end x
  stops_alike x = ((λ b. (comes b.0, b.1)), (λ s. let p = past s.0 in (stays p.1 p.2 s.1, s.1)))

  -- and is begun alike
  pub begun_alike : IsBegunBy g backs Stop end ↔ IsBegun g Stop end
  begun_alike = ((λ b. (comes b.0, b.1)), (λ s. let p = past s.0 in (begins p.1 p.2 refl, s.1)))

  pub decided_alike : ((x : ℕ) → By x → Stop x ⊎ ¬ Stop x) → (x : ℕ) → Comes g Stop end x → Stop x ⊎ ¬ Stop x
  decided_alike decided x c = let p = past c in decides (decided p.0 p.1) p.2
