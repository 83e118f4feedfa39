-- Texts that are put one behind another; lines of methods, with that of one method more.
use Rattle.std.proofs.Common.{◌≡◌, ℕ, suc, ◌+◌, ◌<◌, ◌≤◌, List, [], ◌∷◌, ◌++◌, length, take, take_all, get_or, sym, ap, ◌∙◌, append_assoc, arith}
use Rattle.std.specs.Prelude.{Result, Ok, Err, OnOk}
use Rattle.std.proofs.lemmas.List.{append-nil, take_more, length-take-le}
use Rattle.method_bounds.specs.declared.answer.BoundAnswer.{BoundAnswer}
use Rattle.method_bounds.specs.Lines.{line_beside, lines_from}

-- ---- texts that are put one behind another

pub both_put : (old mid new a b c : List ℕ) → mid ≡ old ++ (a ++ b) → new ≡ mid ++ c → new ≡ old ++ (a ++ (b ++ c))
both_put old mid new a b c first last =
    last ∙ (ap (λ (text : List ℕ). text ++ c) first ∙ (append_assoc old (a ++ b) c ∙ ap (λ (text : List ℕ). old ++ text) (append_assoc a b c)))

pub all_put : (old early late new a b c : List ℕ) → early ≡ old ++ a → late ≡ early ++ b → new ≡ late ++ c → new ≡ old ++ (a ++ (b ++ c))
all_put old early late new a b c first next last = both_put old late new a b c (next ∙ (ap (λ (text : List ℕ). text ++ b) first ∙ append_assoc old a b)) last

pub on_ok : {T E : Type 0} (r : Result T E) (p q : Type 0) → (p → q) → OnOk r p → OnOk r q
on_ok (Ok x) p q f h = f h
on_ok (Err e) p q f h = tt

-- ---- lines

module _ (boot : ℕ) (name : ℕ → List ℕ) where
  lines_more : (xs : List BoundAnswer) (m : ℕ) (x : BoundAnswer) → lines_from boot name m (xs ++ x ∷ []) ≡ lines_from boot name m xs ++ line_beside boot name (m + length xs) x
  lines_more [] m x =
      let same : m ≡ m + 0 = omega arith in
      append-nil (line_beside boot name m x) ∙ ap (λ (k : ℕ). line_beside boot name k x) same
  lines_more (y ∷ ys) m x =
      let same : suc m + length ys ≡ m + suc (length ys) = omega arith in
      let here = line_beside boot name m y in
      ap (λ (text : List ℕ). here ++ text) (lines_more ys (suc m) x)
      ∙ (sym (append_assoc here (lines_from boot name (suc m) ys) (line_beside boot name (suc m + length ys) x))
      ∙ ap (λ (k : ℕ). (here ++ lines_from boot name (suc m) ys) ++ line_beside boot name k x) same)

  module _ (xs : List BoundAnswer) (i : ℕ) (d : BoundAnswer) (old new : List ℕ) (lt : i < length xs) (before : old ≡ lines_from boot name 0 (take i xs)) (added : new ≡ old ++ line_beside boot name i (get_or xs i d)) where
    pub next_line : new ≡ lines_from boot name 0 (take (i + 1) xs)
    next_line =
        let x = get_or xs i d in
        let long : 0 + length (take i xs) ≡ i = (let taken = length-take-le i xs (omega arith) in omega arith) in
        added
        ∙ (ap (λ (text : List ℕ). text ++ line_beside boot name i x) before
        ∙ (ap (λ (k : ℕ). lines_from boot name 0 (take i xs) ++ line_beside boot name k x) (sym long)
        ∙ (sym (lines_more (take i xs) 0 x) ∙ ap (λ (ys : List BoundAnswer). lines_from boot name 0 ys) (sym (take_more xs i d lt)))))

  pub all_lines : (xs : List BoundAnswer) (i : ℕ) (text : List ℕ) → length xs ≤ i → text ≡ lines_from boot name 0 (take i xs) → text ≡ lines_from boot name 0 xs
  all_lines xs i text past is = is ∙ ap (λ (ys : List BoundAnswer). lines_from boot name 0 ys) (take_all i xs past)
