-- The lines of a text, taken off one by one and taken together.
use Rattle.std.proofs.Common.{◌≡◌, ◌≢◌, ℕ, ◌+◌, ◌-◌, ◌<◌, ◌≤◌, Bool, true, false, not, List, [], ◌∷◌, ◌++◌, length, take, drop, length-drop, take_all, refl, sym, ◌∙◌, ap, subst, arith, Some, None, cond, ◌⊎◌, inl, inr, append_assoc, eq-eqb}
use Rattle.std.specs.Prelude.{◌==◌}
use Rattle.std.specs.List.{slice_split, onto_first, position, position_or_len, join_with_byte, All}
use Rattle.std.proofs.lemmas.Bool.{false≢true, cases_lt, cases_Bool, cond_below, cond_above}
use Rattle.std.proofs.lemmas.List.Elements.{All-nil, All-cons, All-head, All-tail}
use Rattle.std.proofs.lemmas.List.Splits.{slice_split_first, slice_split-cons_yes, slice_split-cons_no, length-slice_split, join_with_byte-slice_split}
use Rattle.ascii_text.specs.Line.{lines_of, without_empty_last, with_line_feeds, EndsWithinLine, AreLines}

abbrev is_line_feed : ℕ → Bool
is_line_feed byte = byte == 10

without_empty_last-cons : (piece : List ℕ) (pieces : List (List ℕ)) → 0 < length pieces → without_empty_last (piece ∷ pieces) ≡ piece ∷ without_empty_last pieces
without_empty_last-cons piece [] h = absurd (omega arith)
without_empty_last-cons piece (next ∷ pieces) h = refl

-- where no byte is LF, the text is its only piece
only_piece : (text : List ℕ) → length text ≤ position_or_len is_line_feed text → slice_split is_line_feed text ≡ text ∷ []
only_piece [] h = refl
only_piece (x ∷ xs) h = elim (cases_Bool (is_line_feed x)) [
  | inl e ↦ absurd (omega (arith, subst (λ (b : Bool). length (x ∷ xs) ≤ cond (not b) (1 + position_or_len is_line_feed xs) 0) e h))
  | inr e ↦ slice_split-cons_no is_line_feed x xs e ∙ ap (onto_first x) (only_piece xs (omega (arith, subst (λ (b : Bool). length (x ∷ xs) ≤ cond (not b) (1 + position_or_len is_line_feed xs) 0) e h)))
]

-- the first piece, where it ends with LF
first_piece : (text : List ℕ) → position_or_len is_line_feed text < length text
    → lines_of text ≡ take (position_or_len is_line_feed text) text ∷ lines_of (drop (position_or_len is_line_feed text + 1) text)
first_piece text h =
    let rest = drop (position_or_len is_line_feed text + 1) text in
    ap without_empty_last (slice_split_first is_line_feed text 0 h)
    ∙ without_empty_last-cons _ (slice_split is_line_feed rest) (omega (arith, length-slice_split is_line_feed rest))

pub lines_of-first : (text : List ℕ) (end : ℕ) → position is_line_feed text ≡ Some end → lines_of text ≡ take end text ∷ lines_of (drop (end + 1) text)
lines_of-first text end e =
    let at = position_or_len is_line_feed text in
    elim (cases_lt at (length text)) [
      | inl h ↦
          let found : Some at ≡ position is_line_feed text = cond_below at (length text) (Some at) None h in
          let same : at ≡ end = cc in
          subst (λ (n : ℕ). lines_of text ≡ take n text ∷ lines_of (drop (n + 1) text)) same (first_piece text h)
      | inr h ↦
          let absent : None ≡ position is_line_feed text = cond_above at (length text) (Some at) None None h refl in
          cc
    ]

-- what a slice from behind the LF to the end has
pub lines_of-slice : (text : List ℕ) (end : ℕ) → Some end ≡ position is_line_feed text
    → lines_of text ≡ take end text ∷ lines_of (take (length text - (end + 1)) (drop (end + 1) text))
lines_of-slice text end e =
    lines_of-first text end (sym e)
    ∙ ap (λ (rest : List ℕ). take end text ∷ lines_of rest) (sym (take_all (length text - (end + 1)) (drop (end + 1) text) (omega (arith, length-drop (end + 1) text))))

-- one line more, one element more
pub length-cons_lt : {A : Type 0} (line : A) (all rest : List A) → all ≡ line ∷ rest → length rest < length all
length-cons_lt line all rest e = omega (arith, ap length e)

-- a list that isn't empty, by the test
pub filled : (text : List ℕ) → false ≡ (length text == 0) → 0 < length text
filled [] e = absurd (false≢true e)
filled (x ∷ xs) e = omega arith

pub lines_of-last : (text : List ℕ) → 0 < length text → position is_line_feed text ≡ None → lines_of text ≡ text ∷ []
lines_of-last [] h e = absurd (omega arith)
lines_of-last (x ∷ xs) h e =
    let at = position_or_len is_line_feed (x ∷ xs) in
    elim (cases_lt at (length (x ∷ xs))) [
      | inl h ↦
          let found : Some at ≡ position is_line_feed (x ∷ xs) = cond_below at (length (x ∷ xs)) (Some at) None h in
          cc
      | inr h ↦ ap without_empty_last (only_piece (x ∷ xs) h)
    ]

not_ten : (x : ℕ) → is_line_feed x ≡ false → x ≢ 10
not_ten x e ten = let same : is_line_feed x ≡ true = eq-eqb x 10 ten in cc

abbrev NoLineFeed : List ℕ → Type 0
NoLineFeed = All (λ byte. byte ≢ 10)

NoLineFeed-onto_first : (x : ℕ) (pieces : List (List ℕ)) → x ≢ 10 → All NoLineFeed pieces → All NoLineFeed (onto_first x pieces)
NoLineFeed-onto_first x [] other h = All-cons NoLineFeed (x ∷ []) [] (All-cons (λ byte. byte ≢ 10) x [] other (All-nil (λ byte. byte ≢ 10))) h
NoLineFeed-onto_first x (piece ∷ pieces) other h =
    All-cons NoLineFeed (x ∷ piece) pieces
    (All-cons (λ byte. byte ≢ 10) x piece other (All-head NoLineFeed piece pieces h))
    (All-tail NoLineFeed piece pieces h)

-- no piece has an LF
NoLineFeed-pieces : (text : List ℕ) → All NoLineFeed (slice_split is_line_feed text)
NoLineFeed-pieces [] = All-cons NoLineFeed [] [] (All-nil (λ byte. byte ≢ 10)) (All-nil NoLineFeed)
NoLineFeed-pieces (x ∷ xs) = elim (cases_Bool (is_line_feed x)) [
  | inl e ↦ subst (All NoLineFeed) (sym (slice_split-cons_yes is_line_feed x xs e))
      (All-cons NoLineFeed [] (slice_split is_line_feed xs) (All-nil (λ byte. byte ≢ 10)) (NoLineFeed-pieces xs))
  | inr e ↦ subst (All NoLineFeed) (sym (slice_split-cons_no is_line_feed x xs e))
      (NoLineFeed-onto_first x (slice_split is_line_feed xs) (λ ten. not_ten x e ten) (NoLineFeed-pieces xs))
]

NoLineFeed-without_empty_last : (pieces : List (List ℕ)) → All NoLineFeed pieces → All NoLineFeed (without_empty_last pieces)
NoLineFeed-without_empty_last [] h = h
NoLineFeed-without_empty_last ([] ∷ []) h = All-nil NoLineFeed
NoLineFeed-without_empty_last ((x ∷ xs) ∷ []) h = h
NoLineFeed-without_empty_last (piece ∷ next ∷ pieces) h =
    All-cons NoLineFeed piece _ (All-head NoLineFeed piece (next ∷ pieces) h)
    (NoLineFeed-without_empty_last (next ∷ pieces) (All-tail NoLineFeed piece (next ∷ pieces) h))

abbrev Whole : List ℕ → List (List ℕ) → Type 0
Whole text lines = (text ≡ with_line_feeds lines) ⊎ EndsWithinLine text lines

-- the pieces joined by LF are the lines with an LF behind each, or all but the last
whole : (pieces : List (List ℕ)) → Whole (join_with_byte 10 pieces) (without_empty_last pieces)
whole [] = inl refl
whole ([] ∷ []) = inl refl
whole ((x ∷ xs) ∷ []) = inr (record { earlier = []; last = x ∷ xs; not_empty = omega arith; lines_are = refl; text_is = refl })
whole (piece ∷ next ∷ pieces) = elim (whole (next ∷ pieces)) [
  | inl e ↦ inl (ap (λ (text : List ℕ). piece ++ (10 ∷ text)) e)
  | inr w ↦ inr (record {
    earlier = piece ∷ w.earlier;
    last = w.last;
    not_empty = w.not_empty;
    lines_are = ap (λ (lines : List (List ℕ)). piece ∷ lines) w.lines_are;
    text_is = ap (λ (text : List ℕ). piece ++ (10 ∷ text)) w.text_is ∙ sym (append_assoc piece (10 ∷ with_line_feeds w.earlier) w.last);
  })
]

pub AreLines-lines_of : (text : List ℕ) → AreLines text (lines_of text)
AreLines-lines_of text = record {
  no_line_feed = NoLineFeed-without_empty_last (slice_split is_line_feed text) (NoLineFeed-pieces text);
  whole = subst (λ (t : List ℕ). Whole t (lines_of text)) (join_with_byte-slice_split 10 text) (whole (slice_split is_line_feed text));
}
