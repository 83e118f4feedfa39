-- A text before the first byte of a value, and behind it.
use Rattle.std.proofs.Common.{◌≡◌, ◌≢◌, ℕ, zero, suc, ◌+◌, ◌-◌, ◌<◌, ◌≤◌, Bool, true, false, not, cond, List, [], ◌∷◌, ◌++◌, length, take, drop, get_or, length-drop, take_all, All, refl, sym, ◌∙◌, ap, ap₂, subst, arith, Some, None, inl, inr}
use Rattle.std.specs.Prelude.{◌==◌}
use Rattle.std.specs.List.{position, position_or_len}
use Rattle.std.proofs.lemmas.Bool.{cases_lt, cond_below, eqb-true, eqb-false}
use Rattle.std.proofs.lemmas.List.{take-append-drop, drop_more}
use Rattle.std.proofs.lemmas.List.Elements.{All-nil, All-cons, All-head, All-tail}
use Rattle.std.proofs.lemmas.List.Quantifiers.{position-Some}
use Rattle.lists.specs.Members.{heads, tails}
use Rattle.slot_table.specs.Parts.{IsCut}

abbrev pub IsOther : ℕ → ℕ → Type 0
IsOther byte x = x ≢ byte

abbrev is : ℕ → ℕ → Bool
is byte x = x == byte

-- none of the first so many
none_before : (byte : ℕ) (text : List ℕ) (end : ℕ) → ((k : ℕ) → k < end → is byte (get_or text k 0) ≡ false) → end ≤ length text → All (IsOther byte) (take end text)
none_before byte text zero h le = All-nil (IsOther byte)
none_before byte [] (suc end) h le = All-nil (IsOther byte)
none_before byte (x ∷ text) (suc end) h le =
    All-cons (IsOther byte) x (take end text) (eqb-false x byte (h 0 (omega arith))) (none_before byte text end (λ k lt. h (suc k) (omega arith)) (omega arith))

pub cut_some : (byte : ℕ) (text : List ℕ) (end : ℕ) → Some end ≡ position (λ x. x == byte) text → IsCut byte text (take end text) (take (length text - (end + 1)) (drop (end + 1) text))
cut_some byte text end e =
    let at = position-Some (λ x. x == byte) text end 0 (sym e) in
    let here : get_or text end 0 ≡ byte = eqb-true (get_or text end 0) byte at.1 in
    let rest : take (length text - (end + 1)) (drop (end + 1) text) ≡ drop (end + 1) text = take_all (length text - (end + 1)) (drop (end + 1) text) (let long = length-drop (end + 1) text in omega arith) in
    let lt = at.0 in
    record {
      text_is =
          sym (take-append-drop end text)
          ∙ ap (λ (xs : List ℕ). take end text ++ xs) (drop_more text end 0 at.0)
          ∙ ap₂ (λ (x : ℕ) (xs : List ℕ). take end text ++ x ∷ xs) here (sym rest);
      first = none_before byte text end at.2 (omega arith);
    }

none_case : (byte x : ℕ) (xs : List ℕ) (here : Bool) → is byte x ≡ here → length (x ∷ xs) ≤ cond (not here) (1 + position_or_len (is byte) xs) 0 → (x ≢ byte) × (length xs ≤ position_or_len (is byte) xs)
none_case byte x xs true e h = absurd (omega arith)
none_case byte x xs false e h = (eqb-false x byte e, omega arith)

none_of : (byte : ℕ) (text : List ℕ) → length text ≤ position_or_len (is byte) text → All (IsOther byte) text
none_of byte [] h = All-nil (IsOther byte)
none_of byte (x ∷ xs) h =
    let here = none_case byte x xs (is byte x) refl h in
    All-cons (IsOther byte) x xs here.0 (none_of byte xs here.1)

pub cut_none : (byte : ℕ) (text : List ℕ) → None ≡ position (λ x. x == byte) text → All (IsOther byte) text
cut_none byte text e =
    let at = position_or_len (is byte) text in
    elim (cases_lt at (length text)) [
      | inl h ↦
          let found : Some at ≡ position (is byte) text = cond_below at (length text) (Some at) None h in
          cc
      | inr h ↦ none_of byte text h
    ]

-- ---- there is one such cut

pub no_cut : (byte : ℕ) (text before behind : List ℕ) → All (IsOther byte) text → IsCut byte text before behind → ⊥
no_cut byte text before behind none h = no_byte before behind (subst (All (IsOther byte)) h.text_is none)
  where
    no_byte : (before behind : List ℕ) → All (IsOther byte) (before ++ byte ∷ behind) → ⊥
    no_byte [] behind none = All-head (IsOther byte) byte behind none refl
    no_byte (x ∷ before) behind none = no_byte before behind (All-tail (IsOther byte) x (before ++ byte ∷ behind) none)

same_front : (byte : ℕ) (before behind before' behind' : List ℕ) → All (IsOther byte) before → All (IsOther byte) before' → before ++ byte ∷ behind ≡ before' ++ byte ∷ behind'
    → (before ≡ before') × (behind ≡ behind')
same_front byte [] behind [] behind' h k e = (refl, tails byte byte behind behind' e)
same_front byte [] behind (y ∷ ys) behind' h k e = absurd (All-head (IsOther byte) y ys k (sym (heads byte y behind (ys ++ byte ∷ behind') e)))
same_front byte (x ∷ xs) behind [] behind' h k e = absurd (All-head (IsOther byte) x xs h (heads x byte (xs ++ byte ∷ behind) behind' e))
same_front byte (x ∷ xs) behind (y ∷ ys) behind' h k e =
    let rest = same_front byte xs behind ys behind' (All-tail (IsOther byte) x xs h) (All-tail (IsOther byte) y ys k) (tails x y (xs ++ byte ∷ behind) (ys ++ byte ∷ behind') e) in
    (ap₂ (λ (z : ℕ) (zs : List ℕ). z ∷ zs) (heads x y (xs ++ byte ∷ behind) (ys ++ byte ∷ behind') e) rest.0, rest.1)

pub one_cut : (byte : ℕ) (text before behind before' behind' : List ℕ) → IsCut byte text before behind → IsCut byte text before' behind' → (before ≡ before') × (behind ≡ behind')
one_cut byte text before behind before' behind' h k = same_front byte before behind before' behind' h.first k.first (sym h.text_is ∙ k.text_is)
