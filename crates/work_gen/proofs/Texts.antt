-- The line of a bound, put piece by piece.
use Rattle.std.proofs.Common.{◌≡◌, ℕ, List, [], ◌∷◌, ◌++◌, ap, ◌∙◌}
use Rattle.std.specs.Prelude.{codes, decimal}
use Rattle.std.proofs.lemmas.List.{append_assoc}
use Rattle.work_gen.specs.Work.{turns_of, bound_line}

pub line_joined : (k : ℕ) (a b c d e t : List ℕ) → b ≡ a ++ codes "W.m" → c ≡ b ++ decimal k → d ≡ c ++ codes "(I)I 2 loop<=" → e ≡ d ++ decimal (turns_of k) → t ≡ e ++ 10 ∷ [] → t ≡ a ++ bound_line k
unfolding bound_line
line_joined k a b c d e t p q r s u =
    u
    ∙ (ap (λ (xs : List ℕ). xs ++ 10 ∷ []) s
    ∙ (append_assoc d (decimal (turns_of k)) (10 ∷ [])
    ∙ (ap (λ (xs : List ℕ). xs ++ (decimal (turns_of k) ++ 10 ∷ [])) r
    ∙ (append_assoc c (codes "(I)I 2 loop<=") (decimal (turns_of k) ++ 10 ∷ [])
    ∙ (ap (λ (xs : List ℕ). xs ++ (codes "(I)I 2 loop<=" ++ (decimal (turns_of k) ++ 10 ∷ []))) q
    ∙ (append_assoc b (decimal k) (codes "(I)I 2 loop<=" ++ (decimal (turns_of k) ++ 10 ∷ []))
    ∙ (ap (λ (xs : List ℕ). xs ++ (decimal k ++ (codes "(I)I 2 loop<=" ++ (decimal (turns_of k) ++ 10 ∷ [])))) p
    ∙ append_assoc a (codes "W.m") (decimal k ++ (codes "(I)I 2 loop<=" ++ (decimal (turns_of k) ++ 10 ∷ []))))))))))
