-- The text of the bounds is read as the bounds of the adders' loops.
use Rattle.std.proofs.Common.{◌≡◌, ℕ, zero, suc, ◌+◌, ◌*◌, ◌<◌, ◌≤◌, Bool, true, false, ◌&&◌, List, [], ◌∷◌, length, map, Option, Some, None, cond, refl, sym, ap, ap₂, subst, arith, inl, inr, eqb}
use Rattle.std.specs.Prelude.{nat_eq}
use Rattle.std.specs.List.{flat_map, range_with_len}
use Rattle.std.proofs.lemmas.Bool.{cases_Bool, cases_lt}
use Rattle.std.proofs.lemmas.List.{append_cancel_right, length-append}
use lib.Pointwise.{pointwise, bytes_decides}
use Rattle.ascii_text.specs.Line.{lines_of}
use Rattle.lists.specs.Members.{tails}
use Rattle.bound_texts.specs.declared.loops.BoundsFault.{BoundsFault}
use Rattle.bound_texts.specs.Loops.Bounds.{LoopBound, bound_in, AreOfDifferentLoops}
use Rattle.bound_texts.specs.Loops.Grammar.{Give}
use Rattle.bound_texts.specs.Loops.Laws.{GivesOne, ReadIsNotRefused}
use Rattle.work_gen.specs.Work.{adder_name, adder_descriptor, turns_of, bound_line, bounds_text}
use Rattle.work_gen.specs.Bounds.{adder_text, adder_bound, adder_bounds}
use Rattle.work_gen.specs.Laws.{BoundsAreRead, OnlyTheseAreRead, EachLoopIsBounded, TextsAreShort}
use Rattle.work_gen.proofs.Names.{same_number}
use Rattle.work_gen.proofs.BoundLines.{line_says, line_first, line_short}

-- ---- what the lines give, from one number on

given : (a n : ℕ) → a + n ≤ 1001 → Give (lines_of (flat_map bound_line (range_with_len a n))) (map adder_bound (range_with_len a n))
given a zero few = refl
given a (suc n) few =
    let here : a ≤ 1000 = omega arith in
    let later : a + 1 + n ≤ 1001 = omega arith in
    subst (λ (ls : List (List ℕ)). Give ls (map adder_bound (range_with_len a (suc n)))) (sym (line_first a (flat_map bound_line (range_with_len (a + 1) n)) here))
    (adder_bound a ∷ [], map adder_bound (range_with_len (a + 1) n), refl, line_says a here, given (a + 1) n later)

-- ---- the names differ

other_number : (j k : ℕ) → j ≤ 1000 → k ≤ 1000 → adder_text j ≡ adder_text k → j ≡ k
other_number j k less few same =
    same_number j k less few (append_cancel_right (adder_name j) (adder_name k) adder_descriptor (tails 46 46 _ _ (tails 87 87 _ _ same)))

-- the test of a bound, by the numbers of two adders
abbrev is_of : (k j : ℕ) → Bool
is_of k j = pointwise nat_eq (adder_text k) (adder_text j) && eqb 2 2

another : (k j : ℕ) → k ≤ 1000 → j ≤ 1000 → ¬ (k ≡ j) → is_of k j ≡ false
another k j few less apart = elim (cases_Bool (pointwise nat_eq (adder_text k) (adder_text j))) [
  | inl e ↦ absurd (apart (other_number k j few less ((bytes_decides (adder_text k) (adder_text j)).0 e)))
  | inr e ↦ ap (λ (t : Bool). t && eqb 2 2) e
]

itself : (k : ℕ) → is_of k k ≡ true
itself k = ap (λ (t : Bool). t && eqb 2 2) ((bytes_decides (adder_text k) (adder_text k)).1 refl)

none_behind : (k a n : ℕ) → k ≤ 1000 → k < a → a + n ≤ 1001 → bound_in (adder_text k) 2 (map adder_bound (range_with_len a n)) ≡ None
none_behind k a zero few before long = refl
none_behind k a (suc n) few before long =
    let here : a ≤ 1000 = omega arith in
    let later : k < a + 1 = omega arith in
    let rest : a + 1 + n ≤ 1001 = omega arith in
    let apart : ¬ (k ≡ a) = λ e. omega arith in
    ap₂ (λ (t : Bool) (o : Option ℕ). cond t (Some (turns_of a)) o) (another k a few here apart) (none_behind k (a + 1) n few later rest)

different : (a n : ℕ) → a + n ≤ 1001 → AreOfDifferentLoops (map adder_bound (range_with_len a n))
different a zero few = tt
different a (suc n) few =
    let here : a ≤ 1000 = omega arith in
    let before : a < a + 1 = omega arith in
    let rest : a + 1 + n ≤ 1001 = omega arith in
    (none_behind a (a + 1) n here before rest, different (a + 1) n rest)

found : (k a n : ℕ) → a ≤ k → k < a + n → a + n ≤ 1001 → bound_in (adder_text k) 2 (map adder_bound (range_with_len a n)) ≡ Some (turns_of k)
found k a zero from to long = absurd (omega arith)
found k a (suc n) from to long = elim (cases_lt a k) [
  | inl lt ↦
      let few : k ≤ 1000 = omega arith in
      let here : a ≤ 1000 = omega arith in
      let next : a + 1 ≤ k = omega arith in
      let end : k < a + 1 + n = omega arith in
      let rest : a + 1 + n ≤ 1001 = omega arith in
      let apart : ¬ (k ≡ a) = λ e. omega arith in
      ap₂ (λ (t : Bool) (o : Option ℕ). cond t (Some (turns_of a)) o) (another k a few here apart) (found k (a + 1) n next end rest)
  | inr ge ↦
      let same : a ≡ k = omega arith in
      let rest : Option ℕ = bound_in (adder_text k) 2 (map adder_bound (range_with_len (a + 1) n)) in
      let P : ℕ → Type 0 = λ i. cond (is_of k i) (Some (turns_of i)) rest ≡ Some (turns_of k) in
      subst P (sym same) (ap (λ (t : Bool). cond t (Some (turns_of k)) rest) (itself k))
]

-- ---- the laws

pub bounds_are_read : BoundsAreRead
unfolding bounds_text adder_bounds
bounds_are_read n few =
    let long : 1 + n ≤ 1001 = omega arith in record { given = given 1 n long; different = different 1 n long }

pub only_these : GivesOne → ReadIsNotRefused → OnlyTheseAreRead
only_these one not_refused n few = (
  λ (bs : List LoopBound) read. one (bounds_text n) bs (adder_bounds n) read (bounds_are_read n few),
  λ (fault : BoundsFault) refused. not_refused (bounds_text n) (adder_bounds n) fault (bounds_are_read n few) refused,
)

pub each_is_bounded : EachLoopIsBounded
unfolding adder_bounds
each_is_bounded n k few from to = found k 1 n from (omega arith) (omega arith)

lines_short : (a n : ℕ) → a + n ≤ 1001 → length (flat_map bound_line (range_with_len a n)) ≤ 40 * n
lines_short a zero few = omega arith
lines_short a (suc n) few =
    let here : a ≤ 1000 = omega arith in
    let rest : a + 1 + n ≤ 1001 = omega arith in
    omega (arith, length-append (bound_line a) (flat_map bound_line (range_with_len (a + 1) n)), line_short a here, lines_short (a + 1) n rest)

pub texts_are_short : TextsAreShort
unfolding bounds_text
texts_are_short n few =
    let long : 1 + n ≤ 1001 = omega arith in omega (arith, lines_short 1 n long)
