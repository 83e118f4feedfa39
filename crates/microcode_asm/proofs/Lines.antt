-- A line from its parts.
use Rattle.std.proofs.Common.{◌≡◌, ℕ, ◌-◌, List, [], ◌∷◌, length, take, drop, length-drop, take_all, map, refl, sym, ◌∙◌, ap, ap₂, arith, Option, None, Bor}
use Rattle.std.specs.Option.{option_map}
use Rattle.std.proofs.lemmas.List.{drop-map, length-map}
use Rattle.microcode_asm.specs.Parts.{parts_of, labels_of, behind_labels}
use Rattle.microcode_asm.specs.Statements.{Statement, Line, statement_of, line_of, setting}
use Rattle.microcode_asm.proofs.LineLabels.{now, behind-drop}

pub line_from_parts : (text : List ℕ) (items labels rest : List (Bor (List ℕ))) (n : ℕ) (o : Option Statement) → map now items ≡ parts_of text → map now labels ≡ labels_of (map now items)
    → n ≡ length labels → rest ≡ drop n items → o ≡ statement_of (map now rest) → option_map (λ (s : Statement). record { labels = map now labels; statement = s }) o ≡ line_of text
line_from_parts text items labels rest n o parts named count is said =
    let P = parts_of text in
    let names : map now labels ≡ labels_of P = named ∙ ap labels_of parts in
    let many : n ≡ length (labels_of P) = count ∙ (sym (length-map labels now) ∙ ap length names) in
    let behind : map now rest ≡ behind_labels P = ap (map now) is ∙ (sym (drop-map now n items) ∙ (ap₂ (λ k (xs : List (List ℕ)). drop k xs) many parts ∙ sym (behind-drop P))) in
    ap₂ (λ (ls : List (List ℕ)) (o : Option Statement). option_map {T = Statement} {U = Line} (λ s. record { labels = ls; statement = s }) o) names (said ∙ ap statement_of behind)

pub drop_range : (xs : List (Bor (List ℕ))) (n : ℕ) → take (length xs - n) (drop n xs) ≡ drop n xs
drop_range xs n = take_all (length xs - n) (drop n xs) (omega (arith, length-drop n xs))

pub not_two : (ps : List (List ℕ)) → (length ps ≡ 2 → ⊥) → None ≡ setting ps
not_two [] h = refl
not_two (x ∷ []) h = refl
not_two (x ∷ y ∷ []) h = absurd (h (omega arith))
not_two (x ∷ y ∷ z ∷ zs) h = refl
