-- The file and the line on either side of the last colon.
use Rattle.std.proofs.Common.{◌≡◌, ◌≢◌, ℕ, zero, suc, ◌+◌, ◌-◌, ◌<◌, List, [], ◌∷◌, ◌++◌, length, get_or, take, drop, take_all, length-drop, length-append, append_assoc, refl, sym, ap, ◌∙◌, subst, arith, inl, inr, drop-cons, take-append-drop, add-one}
use Rattle.std.proofs.lemmas.Bool.{cases_order}
use Rattle.std.proofs.lemmas.List.{take_at, drop_at, length-take}
use Rattle.std.proofs.lemmas.Str.Parse.{digit_at}
use Rattle.bound_texts.specs.Loops.Lines.{IsNumber}
use Rattle.bound_texts.specs.Sources.Grammar.{IsSource}

-- the last colon of a text
pub record IsLast (text : List ℕ) (i : ℕ) : Type 0 where
  pub within : i < length text
  pub colon : get_or text i 0 ≡ 58
  pub none_behind : (k : ℕ) → i < k → k < length text → get_or text k 0 ≢ 58

one_last : (text : List ℕ) (i j : ℕ) → IsLast text i → IsLast text j → i ≡ j
one_last text i j a b = elim (cases_order i j) [
  | inl same ↦ same
  | inr apart ↦ elim apart [
    | inl lt ↦ absurd (a.none_behind j lt b.within b.colon)
    | inr gt ↦ absurd (b.none_behind i gt a.within a.colon)
  ]
]

colon_at : (file digits : List ℕ) → get_or (file ++ 58 ∷ digits) (length file) 0 ≡ 58
colon_at [] digits = refl
colon_at (x ∷ file) digits = colon_at file digits

no_colon : (digits : List ℕ) (n k : ℕ) → IsNumber digits n → k < length digits → get_or digits k 0 ≢ 58
no_colon digits n k number lt = let range = digit_at digits k number.0.digits lt in λ e. omega (arith, range.0, range.1, e)

behind : (file digits : List ℕ) (n k : ℕ) → IsNumber digits n → length file < k → k < length (file ++ 58 ∷ digits) → get_or (file ++ 58 ∷ digits) k 0 ≢ 58
behind [] digits n zero number lt below = absurd (omega arith)
behind (x ∷ file) digits n zero number lt below = absurd (omega arith)
behind [] digits n (suc k) number lt below = no_colon digits n k number (omega arith)
behind (x ∷ file) digits n (suc k) number lt below = behind file digits n k number (omega arith) (omega arith)

-- it stands behind the file
pub source_last : (text file : List ℕ) (line : ℕ) → IsSource text file line → IsLast text (length file)
source_last text file line s =
    subst (λ (t : List ℕ). IsLast t (length file)) (sym s.text_is) (record {
      within = omega (arith, length-append file (58 ∷ s.digits));
      colon = colon_at file s.digits;
      none_behind = λ k lt below. behind file s.digits line k s.line_is lt below;
    })

-- the parts by the place of the last colon
pub source_file : (text file : List ℕ) (line i : ℕ) → IsSource text file line → IsLast text i → file ≡ take i text
source_file text file line i s last =
    let same = one_last text i (length file) last (source_last text file line s) in
    sym (ap (take i) s.text_is ∙ take_at file (58 ∷ s.digits) i (sym same))

pub source_digits : (text file : List ℕ) (line i : ℕ) → (s : IsSource text file line) → IsLast text i → s.digits ≡ drop (i + 1) text
source_digits text file line i s last =
    let same = one_last text i (length file) last (source_last text file line s) in
    sym (ap (drop (i + 1)) (s.text_is ∙ sym (append_assoc file (58 ∷ []) s.digits)) ∙ drop_at (file ++ 58 ∷ []) s.digits (i + 1) (omega (arith, length-append file (58 ∷ []), same)))

pub source_line : (text file : List ℕ) (line i : ℕ) → IsSource text file line → IsLast text i → IsNumber (drop (i + 1) text) line
source_line text file line i s last = subst (λ (d : List ℕ). IsNumber d line) (source_digits text file line i s last) s.line_is

pub front_length : (text file : List ℕ) (line i : ℕ) → IsSource text file line → IsLast text i → i ≡ length file
front_length text file line i s last = one_last text i (length file) last (source_last text file line s)

-- the rest behind a place, as a slice has it
pub rest_of : (text : List ℕ) (i : ℕ) → take (length text - (i + 1)) (drop (i + 1) text) ≡ drop (i + 1) text
rest_of text i = take_all (length text - (i + 1)) (drop (i + 1) text) (omega (arith, length-drop (i + 1) text))

pub makes_source : (text rest : List ℕ) (i line : ℕ) → IsLast text i → 0 < i → rest ≡ drop (i + 1) text → IsNumber rest line → IsSource text (take i text) line
makes_source text rest i line last some rest_is number = record {
  digits = rest;
  text_is =
      sym (take-append-drop i text)
      ∙ ap (λ (r : List ℕ). take i text ++ r) (drop-cons text i 0 last.within ∙ (ap (λ (c : ℕ). c ∷ drop (suc i) text) last.colon ∙ ap (λ (r : List ℕ). 58 ∷ r) (sym (rest_is ∙ ap (λ (n : ℕ). drop n text) (add-one i)))));
  named = omega (arith, length-take i text, last.within, some);
  line_is = number;
}
