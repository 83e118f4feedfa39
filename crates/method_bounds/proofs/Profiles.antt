-- The lines of a profile, up to a method.
use Rattle.std.proofs.Common.{◌≡◌, ℕ, zero, suc, ◌+◌, ◌<◌, List, [], ◌∷◌, ◌++◌, length, take, get_or, sym, ap, ◌∙◌, subst, arith, append-nil, append_assoc, length-append, add-one}
use Rattle.std.proofs.Math.Seq.{take-append-add}
use Rattle.std.proofs.lemmas.List.{take-append-le}
use Rattle.std.specs.Prelude.{Option, Some, None, slice_get, codes, decimal}
use Rattle.method_flow.specs.Flow.{Coded, Flow}
use Rattle.run_follower.specs.declared.watch.profile.Profile.{Profile}
use Rattle.method_bounds.specs.declared.answer.BoundAnswer.{BoundAnswer}
use Rattle.method_bounds.specs.Lines.{name_in}
use Rattle.method_bounds.specs.Profiles.{profile_line, profile_lines}

-- the name of a method of the table
pub named : (f : Flow) (m : ℕ) (k : Coded) (name : List ℕ) → slice_get f.methods m ≡ Some k → name ≡ k.name → name ≡ name_in f m
named f m k name is same = same ∙ sym (ap (λ (o : Option Coded). elim o [ None ↦ codes "#" ++ decimal m | Some x ↦ x.name ]) is)

-- a line stands behind these ones
record IsBehind (all before line : List ℕ) : Type 0 where
  after : List ℕ
  is : all ≡ before ++ (line ++ after)

abbrev upto : (name : ℕ → List ℕ) → (method : ℕ) → List Profile → List BoundAnswer → (count : ℕ) → List ℕ
upto name m rows xs i = profile_lines name m (take i rows) (take i xs)

behind : (name : ℕ → List ℕ) (m i : ℕ) (rows : List Profile) (xs : List BoundAnswer) (r : Profile) (x : BoundAnswer) → i < length rows → i < length xs
    → IsBehind (profile_lines name m rows xs) (upto name m rows xs i) (profile_line (name (m + i)) (get_or rows i r) (get_or xs i x))
behind name m i [] xs r x lt less = absurd (omega (arith, lt))
behind name m i (row ∷ rows) [] r x lt less = absurd (omega (arith, less))
behind name m zero (row ∷ rows) (y ∷ ys) r x lt less =
    let same : m ≡ m + zero = omega arith in
    record { after = profile_lines name (suc m) rows ys; is = ap (λ k. profile_line (name k) row y ++ profile_lines name (suc m) rows ys) same }
behind name m (suc i) (row ∷ rows) (y ∷ ys) r x lt less =
    let later = behind name (suc m) i rows ys r x (omega (arith, lt)) (omega (arith, less)) in
    let same : suc m + i ≡ m + suc i = omega arith in
    let line = profile_line (name m) row y in
    record {
      after = later.after;
      is =
          ap (λ t. line ++ t) later.is
          ∙ sym (append_assoc line (upto name (suc m) rows ys i) (profile_line (name (suc m + i)) (get_or rows i r) (get_or ys i x) ++ later.after))
          ∙ ap (λ k. (line ++ upto name (suc m) rows ys i) ++ (profile_line (name k) (get_or rows i r) (get_or ys i x) ++ later.after)) same;
    }

more_suc : (name : ℕ → List ℕ) (m i : ℕ) (rows : List Profile) (xs : List BoundAnswer) (r : Profile) (x : BoundAnswer) → i < length rows → i < length xs
    → upto name m rows xs (suc i) ≡ upto name m rows xs i ++ profile_line (name (m + i)) (get_or rows i r) (get_or xs i x)
more_suc name m i [] xs r x lt less = absurd (omega (arith, lt))
more_suc name m i (row ∷ rows) [] r x lt less = absurd (omega (arith, less))
more_suc name m zero (row ∷ rows) (y ∷ ys) r x lt less =
    let same : m ≡ m + zero = omega arith in append-nil (profile_line (name m) row y) ∙ ap (λ k. profile_line (name k) row y) same
more_suc name m (suc i) (row ∷ rows) (y ∷ ys) r x lt less =
    let same : suc m + i ≡ m + suc i = omega arith in
    let line = profile_line (name m) row y in
    ap (λ t. line ++ t) (more_suc name (suc m) i rows ys r x (omega (arith, lt)) (omega (arith, less)))
    ∙ sym (append_assoc line (upto name (suc m) rows ys i) (profile_line (name (suc m + i)) (get_or rows i r) (get_or ys i x)))
    ∙ ap (λ k. (line ++ upto name (suc m) rows ys i) ++ profile_line (name k) (get_or rows i r) (get_or ys i x)) same

-- the lines up to the next method, which has this name
pub more_lines : (name : ℕ → List ℕ) (i : ℕ) (called : List ℕ) (rows : List Profile) (xs : List BoundAnswer) (r : Profile) (x : BoundAnswer) → called ≡ name i → i < length rows → i < length xs
    → upto name 0 rows xs (i + 1) ≡ upto name 0 rows xs i ++ profile_line called (get_or rows i r) (get_or xs i x)
more_lines name i called rows xs r x same lt less =
    let here : 0 + i ≡ i = omega arith in
    let P : ℕ → Type 0 = λ k. upto name 0 rows xs k ≡ upto name 0 rows xs i ++ profile_line called (get_or rows i r) (get_or xs i x) in
    subst P (sym (add-one i))
    (more_suc name 0 i rows xs r x lt less ∙ ap (λ t. upto name 0 rows xs i ++ profile_line t (get_or rows i r) (get_or xs i x)) (ap name here ∙ sym same))

-- the lines so far and a front of the next one are a front of all lines
pub record IsFront (all before line : List ℕ) (n : ℕ) : Type 0 where
  pub count : ℕ
  pub part : count < length all
  pub is : take count all ≡ before ++ take n line

front_by : (all before line : List ℕ) (n : ℕ) → n < length line → IsBehind all before line → IsFront all before line n
front_by all before line n part h =
    let F : List ℕ → Type 0 = λ xs. IsFront xs before line n in
    subst F (sym h.is) (record {
      count = length before + n;
      part = omega (arith, part, length-append before (line ++ h.after), length-append line h.after);
      is = take-append-add before (line ++ h.after) n ∙ ap (λ t. before ++ t) (take-append-le n line h.after (omega (arith, part)));
    })

pub front_lines : (name : ℕ → List ℕ) (i n : ℕ) (called : List ℕ) (rows : List Profile) (xs : List BoundAnswer) (r : Profile) (x : BoundAnswer) → called ≡ name i → i < length rows → i < length xs
    → n < length (profile_line called (get_or rows i r) (get_or xs i x))
    → IsFront (profile_lines name 0 rows xs) (upto name 0 rows xs i) (profile_line called (get_or rows i r) (get_or xs i x)) n
front_lines name i n called rows xs r x same lt less part =
    let here : 0 + i ≡ i = omega arith in
    let B : List ℕ → Type 0 = λ t. IsBehind (profile_lines name 0 rows xs) (upto name 0 rows xs i) (profile_line t (get_or rows i r) (get_or xs i x)) in
    front_by (profile_lines name 0 rows xs) (upto name 0 rows xs i) (profile_line called (get_or rows i r) (get_or xs i x)) n part
    (subst B (ap name here ∙ sym same) (behind name 0 i rows xs r x lt less))
