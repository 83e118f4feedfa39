-- The parts between spaces, cut off one by one.
use Rattle.std.proofs.Common.{◌≡◌, ℕ, ◌+◌, ◌-◌, ◌≤◌, Bool, not, List, [], ◌∷◌, length, take, drop, length-drop, take_all, refl, sym, ◌∙◌, ap, subst, arith, Some, None, cond, inl, inr}
use Rattle.std.specs.Prelude.{◌==◌}
use Rattle.std.specs.List.{slice_split, onto_first, position, position_or_len}
use Rattle.std.proofs.lemmas.Bool.{cases_lt, cases_Bool, cond_below, cond_above}
use Rattle.std.proofs.lemmas.List.Splits.{slice_split_first, slice_split-cons_no, length-slice_split}

abbrev pub is_space : ℕ → Bool
is_space byte = byte == 32

-- where no byte is a space, the text is its only part
only_part : (text : List ℕ) → length text ≤ position_or_len is_space text → slice_split is_space text ≡ text ∷ []
only_part [] h = refl
only_part (x ∷ xs) h = elim (cases_Bool (is_space x)) [
  | inl e ↦ absurd (omega (arith, subst (λ (b : Bool). length (x ∷ xs) ≤ cond (not b) (1 + position_or_len is_space xs) 0) e h))
  | inr e ↦ slice_split-cons_no is_space x xs e ∙ ap (onto_first x) (only_part xs (omega (arith, subst (λ (b : Bool). length (x ∷ xs) ≤ cond (not b) (1 + position_or_len is_space xs) 0) e h)))
]

first_part : (text : List ℕ) (end : ℕ) → position is_space text ≡ Some end → slice_split is_space text ≡ take end text ∷ slice_split is_space (drop (end + 1) text)
first_part text end e =
    let at = position_or_len is_space text in
    elim (cases_lt at (length text)) [
      | inl h ↦
          let found : Some at ≡ position is_space text = cond_below at (length text) (Some at) None h in
          let same : at ≡ end = cc in
          subst (λ (n : ℕ). slice_split is_space text ≡ take n text ∷ slice_split is_space (drop (n + 1) text)) same (slice_split_first is_space text 0 h)
      | inr h ↦
          let absent : None ≡ position is_space text = cond_above at (length text) (Some at) None None h refl in
          cc
    ]

pub cut_some : (text : List ℕ) (end : ℕ) → Some end ≡ position is_space text
    → slice_split is_space text ≡ take end text ∷ slice_split is_space (take (length text - (end + 1)) (drop (end + 1) text))
cut_some text end e =
    first_part text end (sym e)
    ∙ ap (λ (rest : List ℕ). take end text ∷ slice_split is_space rest) (sym (take_all (length text - (end + 1)) (drop (end + 1) text) (omega (arith, length-drop (end + 1) text))))

pub cut_none : (text : List ℕ) → None ≡ position is_space text → slice_split is_space text ≡ text ∷ []
cut_none text e =
    let at = position_or_len is_space text in
    elim (cases_lt at (length text)) [
      | inl h ↦
          let found : Some at ≡ position is_space text = cond_below at (length text) (Some at) None h in
          cc
      | inr h ↦ only_part text h
    ]

-- with a third space there are more than three parts
pub three_spaces : (text rest last end : List ℕ) (first second third : List ℕ) → slice_split is_space text ≡ first ∷ slice_split is_space rest
    → slice_split is_space rest ≡ second ∷ slice_split is_space last → slice_split is_space last ≡ third ∷ slice_split is_space end
    → (a b c : List ℕ) → ¬ (slice_split is_space text ≡ a ∷ b ∷ c ∷ [])
three_spaces text rest last end first second third e f g a b c h =
    omega (arith, length-slice_split is_space end, ap length e, ap length f, ap length g, ap length h)
