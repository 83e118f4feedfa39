-- Lines read one by one.
use Rattle.std.proofs.Common.{◌≡◌, ℕ, ◌+◌, ◌≤◌, Bool, true, false, ◌&&◌, List, [], ◌∷◌, ◌++◌, length, append_assoc, append-nil, refl, sym, ◌∙◌, ap, ap₂, subst, arith, Option, Some, None, cond, inl, inr, eqb}
use Rattle.std.specs.Prelude.{nat_eq, ◌==◌, IsSome, is_some, is_ok, OnOk, Result, Ok, Err}
use Rattle.std.specs.List.{slice_split}
use Rattle.std.proofs.lemmas.Bool.{cases_Bool, eqb-true, eq-eqb, false≢true, true≢false, and_parts}
use Rattle.std.proofs.lemmas.List.{length-append}
use Rattle.std.proofs.lemmas.List.Splits.{length-slice_split}
use Rattle.std.proofs.lemmas.List.Sums.{count_by-le-length}
use Rattle.ascii_text.specs.Line.{lines_of, without_empty_last}
use lib.Pointwise.{pointwise, bytes_decides}
use Rattle.bound_texts.specs.declared.loops.quantity.Quantity.{Quantity}
use Rattle.bound_texts.specs.Loops.Bounds.{LoopBound, bound_in, AreOfDifferentLoops}
use Rattle.bound_texts.specs.Loops.Lines.{GiveBounds, SaysBound, GivesBounds, ReachesLine, BoundsTwice, IsNoLine}

-- ---- one bound more

abbrev same : LoopBound → LoopBound → Bool
same x y = pointwise nat_eq x.name y.name && eqb x.pc y.pc

same_turned : (x y : LoopBound) → same x y ≡ false → same y x ≡ false
same_turned x y h = elim (cases_Bool (same y x)) [
  | inl e ↦
      let both = and_parts (pointwise nat_eq y.name x.name) (eqb y.pc x.pc) e in
      let names = (bytes_decides x.name y.name).1 (sym ((bytes_decides y.name x.name).0 both.0)) in
      let places = eq-eqb x.pc y.pc (sym (eqb-true y.pc x.pc both.1)) in
      absurd (false≢true (sym h ∙ ap₂ (λ a b. a && b) names places))
  | inr e ↦ e
]

apart_of : (t : Bool) (v : ℕ) (r : Option ℕ) → cond t (Some v) r ≡ None → (t ≡ false) × (r ≡ None)
apart_of true v r h = absurd (cc)
apart_of false v r h = (refl, h)

absent : (x b : LoopBound) (bs : List LoopBound) → bound_in x.name x.pc bs ≡ None → same x b ≡ false → bound_in x.name x.pc (bs ++ b ∷ []) ≡ None
absent x b [] h s = ap (λ t. cond t (Some b.bound) None) s
absent x b (y ∷ bs) h s =
    let p = apart_of (same x y) y.bound (bound_in x.name x.pc bs) h in
    ap₂ (λ t r. cond t (Some y.bound) r) p.0 (absent x b bs p.1 s)

pub still_different : (bs : List LoopBound) (b : LoopBound) → bound_in b.name b.pc bs ≡ None → AreOfDifferentLoops bs → AreOfDifferentLoops (bs ++ b ∷ [])
still_different [] b n d = (refl, tt)
still_different (x ∷ bs) b n d =
    let p = apart_of (same b x) x.bound (bound_in b.name b.pc bs) n in
    (absent x b bs d.0 (same_turned b x p.0), still_different bs b p.1 d.1)

-- ---- one line more

give_more : (q : Quantity) (done : List (List ℕ)) (line : List ℕ) (bs first : List LoopBound) → GiveBounds q done bs → SaysBound q line first → GiveBounds q (done ++ line ∷ []) (bs ++ first)
give_more q [] line bs first g s = (first, [], ap (λ b. b ++ first) g ∙ sym (append-nil first), s, refl)
give_more q (x ∷ done) line bs first g s =
    (g.0, g.1 ++ first, ap (λ b. b ++ first) g.2 ∙ append_assoc g.0 g.1 first, g.3, give_more q done line g.1 first g.4 s)

-- the lines of a text that are read, so many, and those that are left
pub record IsReadSoFar (q : Quantity) (text : List ℕ) (number : ℕ) (left : List (List ℕ)) (bounds : List LoopBound) : Type 0 where
  pub done : List (List ℕ)
  pub lines : lines_of text ≡ done ++ left
  pub count : number ≡ length done
  pub given : GiveBounds q done bounds
  pub different : AreOfDifferentLoops bounds

pub at_first : (q : Quantity) (text : List ℕ) (left : List (List ℕ)) → left ≡ lines_of text → IsReadSoFar q text 0 left []
at_first q text left e = record { done = []; lines = sym e; count = refl; given = refl; different = tt }

pub at_last : (q : Quantity) (text : List ℕ) (number : ℕ) (left : List (List ℕ)) (bounds : List LoopBound) → IsReadSoFar q text number left bounds → left ≡ [] → GivesBounds q text bounds
at_last q text number left bounds r e =
    record { given = subst (λ ls. GiveBounds q ls bounds) (sym (r.lines ∙ ap (λ l. r.done ++ l) e ∙ append-nil r.done)) r.given; different = r.different }

pub reached : (q : Quantity) (text : List ℕ) (number : ℕ) (left rest : List (List ℕ)) (line : List ℕ) (bounds : List LoopBound) → IsReadSoFar q text number left bounds → left ≡ line ∷ rest → ReachesLine q text (number + 1)
reached q text number left rest line bounds r e = record {
  before = r.done;
  line = line;
  after = rest;
  lines = r.lines ∙ ap (λ l. r.done ++ l) e;
  number_is = omega (arith, r.count);
  bounds = bounds;
  given = r.given;
  different = r.different;
}

pub next_line : (q : Quantity) (text : List ℕ) (number : ℕ) (left rest : List (List ℕ)) (line : List ℕ) (bounds first : List LoopBound) → IsReadSoFar q text number left bounds → left ≡ line ∷ rest
    → SaysBound q line first → AreOfDifferentLoops (bounds ++ first) → IsReadSoFar q text (number + 1) rest (bounds ++ first)
next_line q text number left rest line bounds first r e s d = record {
  done = r.done ++ line ∷ [];
  lines = r.lines ∙ ap (λ l. r.done ++ l) e ∙ sym (append_assoc r.done (line ∷ []) rest);
  count = omega (arith, r.count, length-append r.done (line ∷ []));
  given = give_more q r.done line bounds first r.given s;
  different = d;
}

-- ---- the number of lines

shorter : (pieces : List (List ℕ)) → length (without_empty_last pieces) ≤ length pieces
shorter [] = omega arith
shorter ([] ∷ []) = omega arith
shorter ((x ∷ xs) ∷ []) = omega arith
shorter (piece ∷ next ∷ pieces) = omega (arith, shorter (next ∷ pieces))

pub count_fits : (q : Quantity) (text : List ℕ) (number : ℕ) (left rest : List (List ℕ)) (line : List ℕ) (bounds : List LoopBound) → IsReadSoFar q text number left bounds → left ≡ line ∷ rest → number ≤ length text
count_fits q text number left rest line bounds r e =
    omega (arith, shorter (slice_split (λ byte. byte == 10) text), length-slice_split (λ byte. byte == 10) text, count_by-le-length (λ byte. byte == 10) text, r.count, ap length r.lines, length-append r.done left, ap length e)

-- ---- what is refused

pub malformed : (q : Quantity) (text : List ℕ) (number : ℕ) (left rest : List (List ℕ)) (line : List ℕ) (bounds : List LoopBound) → IsReadSoFar q text number left bounds → left ≡ line ∷ rest
    → IsNoLine q line → (r : ReachesLine q text (number + 1)) × IsNoLine q r.line
unfolding reached
malformed q text number left rest line bounds r e m = (reached q text number left rest line bounds r e, m)

some_by_test : (o : Option ℕ) → is_some o ≡ true → IsSome o
some_by_test None h = absurd (false≢true h)
some_by_test (Some x) h = refl

pub twice : (q : Quantity) (text : List ℕ) (number : ℕ) (left rest : List (List ℕ)) (line : List ℕ) (bounds : List LoopBound) (again : LoopBound) → IsReadSoFar q text number left bounds → left ≡ line ∷ rest
    → SaysBound q line (again ∷ []) → is_some (bound_in again.name again.pc bounds) ≡ true → BoundsTwice q text (number + 1)
unfolding reached
twice q text number left rest line bounds again r e s there =
    record { reached = reached q text number left rest line bounds r e; again = again; says = s; there = some_by_test (bound_in again.name again.pc bounds) there }

pub silent_line : (q : Quantity) (text : List ℕ) (number : ℕ) (left rest : List (List ℕ)) (line : List ℕ) (bounds : List LoopBound) → IsReadSoFar q text number left bounds → left ≡ line ∷ rest
    → SaysBound q line [] → IsReadSoFar q text (number + 1) rest bounds
silent_line q text number left rest line bounds r e s =
    subst (IsReadSoFar q text (number + 1) rest) (append-nil bounds)
    (next_line q text number left rest line bounds [] r e s (subst AreOfDifferentLoops (sym (append-nil bounds)) r.different))

none_by_test : (o : Option ℕ) → is_some o ≡ false → o ≡ None
none_by_test None h = refl
none_by_test (Some x) h = absurd (true≢false h)

pub loop_line : (q : Quantity) (text : List ℕ) (number : ℕ) (left rest : List (List ℕ)) (line : List ℕ) (bounds : List LoopBound) (first : LoopBound) → IsReadSoFar q text number left bounds → left ≡ line ∷ rest
    → SaysBound q line (first ∷ []) → is_some (bound_in first.name first.pc bounds) ≡ false → (more : List LoopBound) → more ≡ bounds ++ first ∷ [] → IsReadSoFar q text (number + 1) rest more
loop_line q text number left rest line bounds first r e s absent more is =
    subst (IsReadSoFar q text (number + 1) rest) (sym is)
    (next_line q text number left rest line bounds (first ∷ []) r e s
    (still_different bounds first (none_by_test (bound_in first.name first.pc bounds) absent) r.different))

pub on_ok : {T E : Type 0} (P : Type 0) (r : Result T E) → is_ok r ≡ true → OnOk r P → P
on_ok P (Ok x) h p = p
on_ok P (Err e) h p = absurd (false≢true h)
