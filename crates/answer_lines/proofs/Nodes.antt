-- The text of a node is its place and its mark.
use Rattle.std.proofs.Common.{◌≡◌, ℕ, List, ◌∷◌, ◌++◌, sym, ◌∙◌, ap, append_assoc}
use Rattle.std.specs.Prelude.{◌/◌, decimal}
use Rattle.certificates.specs.CertLines.{node_text}

pub node_then : (u : ℕ) (mark rest : List ℕ) → node_text u ≡ decimal (u / 2) ++ mark → decimal (u / 2) ++ (mark ++ rest) ≡ node_text u ++ rest
node_then u mark rest is = sym (append_assoc (decimal (u / 2)) mark rest) ∙ ap (λ (t : List ℕ). t ++ rest) (sym is)

pub edge_then : (u v : ℕ) (mark other rest : List ℕ) → node_text u ≡ decimal (u / 2) ++ mark → node_text v ≡ decimal (v / 2) ++ other
    → decimal (u / 2) ++ (mark ++ 32 ∷ (decimal (v / 2) ++ (other ++ rest))) ≡ node_text u ++ 32 ∷ (node_text v ++ rest)
edge_then u v mark other rest is that =
    node_then u mark (32 ∷ (decimal (v / 2) ++ (other ++ rest))) is ∙ ap (λ (t : List ℕ). node_text u ++ 32 ∷ t) (node_then v other rest that)
