use Rattle.std.proofs.Common.{◌≡◌, ℕ, List, [], ◌∷◌, ◌++◌, ◌∙◌, ap, append_assoc}
use Rattle.std.specs.Prelude.{codes, flat_map}
use Rattle.source_headers.specs.Headers.{spaced}
use Rattle.source_headers.proofs.texts.put_irreducible.Goals as goal

regrouped : (a b c d e f : List ℕ) → ((((a ++ b) ++ c) ++ d) ++ e) ++ f ≡ a ++ (b ++ (c ++ (d ++ (e ++ f))))
regrouped a b c d e f = simp append_assoc

pub returns : goal.returns
returns c =
    let first = c.in_ok-extend_from_slice.ensures.items in
    let second = c.in_ok-extend_from_slice-2.ensures.items ∙ ap (λ (t : List ℕ). t ++ c.args.name.now) first in
    let third = c.in_ok-extend_from_slice-3.ensures.items ∙ ap (λ (t : List ℕ). t ++ codes " irreducible") second in
    let fourth = c.in_ok-put_nodes.ensures ∙ ap (λ (t : List ℕ). t ++ flat_map spaced c.args.nodes.now) third in
    c.in_ok-push.ensures.items ∙ ap (λ (t : List ℕ). t ++ 10 ∷ []) fourth
    ∙ regrouped c.args.text.now.items (codes "# ") c.args.name.now (codes " irreducible") (flat_map spaced c.args.nodes.now) (10 ∷ [])
