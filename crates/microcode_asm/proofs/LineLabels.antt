-- The labels that begin a line.
use Rattle.std.proofs.Common.{◌≡◌, ℕ, suc, ◌+◌, ◌<◌, ◌≤◌, List, [], ◌∷◌, ◌++◌, length, get_or, drop, map, append_assoc, append-nil, refl, sym, ◌∙◌, ap, ap₂, arith, Option, Some, None, Bor, drop-cons}
use Rattle.std.specs.Prelude.{if◌then◌else◌, is_some}
use Rattle.std.proofs.lemmas.List.{length-map, get_or-map}
use Rattle.microcode_asm.specs.Parts.{label_of, labels_of, behind_labels, label_and_more}

abbrev pub now : Bor (List ℕ) → List ℕ
now p = p.now

-- the text at a place, and those behind it
rest_is : (ps : List (Bor (List ℕ))) (i : ℕ) (d : Bor (List ℕ)) → i < length ps → drop i (map now ps) ≡ (get_or ps i d).now ∷ drop (i + 1) (map now ps)
rest_is ps i d lt =
    let next : suc i ≡ i + 1 = omega arith in
    let within : i < length (map now ps) = omega (arith, length-map ps now, lt) in
    drop-cons (map now ps) i [] within ∙ ap₂ (λ (x : List ℕ) k. x ∷ drop k (map now ps)) (get_or-map now ps i d [] lt) next

pub label_more : (ps : List (Bor (List ℕ))) (d : Bor (List ℕ)) (names all : List (List ℕ)) (i : ℕ) (name : List ℕ) → i < length ps → Some name ≡ label_of (get_or ps i d).now
    → names ++ labels_of (drop i (map now ps)) ≡ all → (names ++ name ∷ []) ++ labels_of (drop (i + 1) (map now ps)) ≡ all
label_more ps d names all i name lt named h =
    let rest = labels_of (drop (i + 1) (map now ps)) in
    append_assoc names (name ∷ []) rest
    ∙ ap (λ ls. names ++ ls) (ap (λ o. label_and_more o rest) named ∙ sym (ap labels_of (rest_is ps i d lt)))
    ∙ h

pub label_none : (ps : List (Bor (List ℕ))) (d : Bor (List ℕ)) (names all : List (List ℕ)) (i : ℕ) → i < length ps → None ≡ label_of (get_or ps i d).now
    → names ++ labels_of (drop i (map now ps)) ≡ all → names ≡ all
label_none ps d names all i lt none h =
    let rest = labels_of (drop (i + 1) (map now ps)) in
    sym (append-nil names)
    ∙ ap (λ ls. names ++ ls) (ap (λ o. label_and_more o rest) none ∙ sym (ap labels_of (rest_is ps i d lt)))
    ∙ h

behind_or : (o : Option (List ℕ)) (part : List ℕ) (parts : List (List ℕ)) → behind_labels parts ≡ drop (length (labels_of parts)) parts
    → (if is_some o then behind_labels parts else part ∷ parts) ≡ drop (length (label_and_more o (labels_of parts))) (part ∷ parts)
behind_or None part parts h = refl
behind_or (Some name) part parts h =
    let longer : suc (length (labels_of parts)) ≡ length (name ∷ labels_of parts) = omega arith in
    h ∙ ap (λ n. drop n (part ∷ parts)) longer

pub behind-drop : (parts : List (List ℕ)) → behind_labels parts ≡ drop (length (labels_of parts)) parts
behind-drop [] = refl
behind-drop (part ∷ parts) = behind_or (label_of part) part parts (behind-drop parts)

few_or : (o : Option (List ℕ)) (parts : List (List ℕ)) → length (labels_of parts) ≤ length parts → length (label_and_more o (labels_of parts)) ≤ length parts + 1
few_or None parts h = omega arith
few_or (Some name) parts h = omega (arith, h)

pub few_labels : (parts : List (List ℕ)) → length (labels_of parts) ≤ length parts
few_labels [] = omega arith
few_labels (part ∷ parts) = omega (arith, few_or (label_of part) parts (few_labels parts))
