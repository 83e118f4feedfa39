use Rattle.std.proofs.Common.{ℕ, ◌+◌, List, [], ◌∷◌, ◌++◌, map, drop, Bor, ap, ◌∙◌}
use Rattle.std.proofs.lemmas.List.{map-append}
use Rattle.microcode_asm.specs.Parts.{labels_of}
use Rattle.microcode_asm.proofs.LineLabels.{now, label_more, label_none}
use Rattle.microcode_asm.proofs.part.labels_of.Goals as goal

pub returns-in-None : goal.returns-in-None
returns-in-None c =
    label_none c.args.parts.now (record { ref_ptr = (0, 0); now = [] }) (map now c.loop-text.names.items) (labels_of (map now c.args.parts.now)) c.loop-text.text-index
    c.loop-text-test.true c.in-None.ensures c.loop-text.invariant

pub loop-text-preserved : goal.loop-text-preserved
loop-text-preserved c =
    let parts = c.args.parts.now in
    let i = c.loop-text.text-index in
    ap (λ (names : List (Bor (List ℕ))). map now names ++ labels_of (drop (i + 1) (map now parts))) c.in_ok-push-in-Some.ensures.items
    ∙ ap (λ (names : List (List ℕ)). names ++ labels_of (drop (i + 1) (map now parts))) (map-append now c.loop-text.names.items (c.in-Some.name ∷ []))
    ∙ label_more parts (record { ref_ptr = (0, 0); now = [] }) (map now c.loop-text.names.items) (labels_of (map now parts)) i c.in-Some.name.now
    c.loop-text-test.true c.in-Some.ensures c.loop-text.invariant
