-- The counts of nodes, one behind the other.
use Rattle.std.proofs.Common.{◌≡◌, ℕ, ◌+◌, ◌<◌, List, [], ◌∷◌, ◌++◌, length, take, get_or, refl, sym, ap, ap₂, ◌∙◌, arith}
use Rattle.std.specs.Prelude.{slice_index}
use Rattle.std.proofs.lemmas.List.{take_more, length-take-le}
use Rattle.bound_report.specs.declared.callees.Callee.{Callee}
use Rattle.bound_report.specs.declared.counts.NodeCount.{NodeCount}
use Rattle.bound_report.specs.Callees.{callee_at}
use Rattle.bound_report.specs.Nodes.{counted_node, counted_nodes}

snoc : (own : List ℕ) (cs : List Callee) (us ns : List ℕ) (u n : ℕ) → length us ≡ length ns → counted_nodes own cs (us ++ u ∷ []) (ns ++ n ∷ []) ≡ counted_nodes own cs us ns ++ counted_node u n (slice_index own u) (callee_at cs u) ∷ []
snoc own cs [] [] u n long = refl
snoc own cs [] (m ∷ ns) u n long = absurd (omega arith)
snoc own cs (v ∷ us) [] u n long = absurd (omega arith)
snoc own cs (v ∷ us) (m ∷ ns) u n long = ap (λ (xs : List NodeCount). counted_node v m (slice_index own v) (callee_at cs v) ∷ xs) (snoc own cs us ns u n (omega arith))

pub counted_more : (own : List ℕ) (cs : List Callee) (us ns : List ℕ) (i : ℕ) (c : NodeCount) (old new : List NodeCount) → i < length us → length ns ≡ length us
    → c ≡ counted_node (get_or us i 0) (get_or ns i 0) (slice_index own (get_or us i 0)) (callee_at cs (get_or us i 0)) → old ≡ counted_nodes own cs (take i us) (take i ns) → new ≡ old ++ c ∷ []
    → new ≡ counted_nodes own cs (take (i + 1) us) (take (i + 1) ns)
counted_more own cs us ns i c old new lt long is before more =
    more
    ∙ (ap₂ (λ (xs : List NodeCount) (x : NodeCount). xs ++ x ∷ []) before is
    ∙ (sym (snoc own cs (take i us) (take i ns) (get_or us i 0) (get_or ns i 0) (length-take-le i us (omega arith) ∙ sym (length-take-le i ns (omega arith))))
    ∙ sym (ap₂ (λ (xs ys : List ℕ). counted_nodes own cs xs ys) (take_more us i 0 lt) (take_more ns i 0 (omega arith)))))
