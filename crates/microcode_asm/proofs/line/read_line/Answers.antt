use Rattle.std.proofs.Common.{◌≡◌, ℕ, List, map, length, drop, Some, None, Bor, arith, ap, ◌∙◌}
use Rattle.std.proofs.lemmas.List.{length-map}
use Rattle.microcode_asm.specs.Parts.{labels_of}
use Rattle.microcode_asm.specs.Meaning.{meaning_of}
use Rattle.microcode_asm.proofs.LineLabels.{now, few_labels}
use Rattle.microcode_asm.proofs.Lines.{line_from_parts}
use Rattle.microcode_asm.proofs.line.read_line.Goals as goal

pub behind-requires : goal.behind-requires
behind-requires c =
    let texts = map now c.as_slice.result.now in
    omega (
      arith,
      few_labels texts,
      ap length c.in_ok-labels.ensures,
      length-map c.in_ok-labels.labels.items now,
      length-map c.as_slice.result.now now,
      ap length c.as_slice.ensures.value,
      ap length c.as_slice-2.ensures.value,
      c.len.ensures,
    )

pub returns-in-Some-clause-line : goal.returns-in-Some-clause-line
returns-in-Some-clause-line c =
    let count : c.len.result ≡ length c.in_ok-labels.labels.items = omega (arith, c.len.ensures) in
    line_from_parts c.args.text.now c.in_ok-parts.parts.items c.in_ok-labels.labels.items c.behind.result.now c.len.result (Some (meaning_of c.in-Some.statement))
    c.in_ok-parts.ensures
    (c.in_ok-labels.ensures ∙ ap (λ (items : List (Bor (List ℕ))). labels_of (map now items)) c.as_slice.ensures.value)
    count
    (c.behind.ensures ∙ ap (λ (items : List (Bor (List ℕ))). drop c.len.result items) c.as_slice-2.ensures.value)
    c.in-Some.ensures.said

pub returns-clause-line : goal.returns-clause-line
returns-clause-line c =
    let count : c.len.result ≡ length c.in_ok-labels.labels.items = omega (arith, c.len.ensures) in
    line_from_parts c.args.text.now c.in_ok-parts.parts.items c.in_ok-labels.labels.items c.behind.result.now c.len.result None
    c.in_ok-parts.ensures
    (c.in_ok-labels.ensures ∙ ap (λ (items : List (Bor (List ℕ))). labels_of (map now items)) c.as_slice.ensures.value)
    count
    (c.behind.ensures ∙ ap (λ (items : List (Bor (List ℕ))). drop c.len.result items) c.as_slice-2.ensures.value)
    c.in-None.ensures.said
