-- Lines read one by one.
use Rattle.std.proofs.Common.{◌≡◌, ℕ, ◌+◌, ◌≤◌, Bool, true, false, ◌&&◌, List, [], ◌∷◌, ◌++◌, length, append_assoc, append-nil, refl, sym, ◌∙◌, ap, ap₂, subst, arith, Option, Some, None, cond, inl, inr, eqb}
use Rattle.std.specs.Prelude.{nat_eq, ◌==◌, IsSome, is_some, is_ok, OnOk, Result, Ok, Err}
use Rattle.std.specs.List.{slice_split}
use Rattle.std.proofs.lemmas.Bool.{cases_Bool, eqb-true, eq-eqb, false≢true, true≢false, and_parts}
use Rattle.std.proofs.lemmas.List.{length-append}
use Rattle.std.proofs.lemmas.List.Splits.{length-slice_split}
use Rattle.std.proofs.lemmas.List.Sums.{count_by-le-length}
use Rattle.ascii_text.specs.Line.{lines_of, without_empty_last}
use lib.Pointwise.{pointwise, bytes_decides}
use Rattle.bound_texts.specs.Sources.Notes.{Subject, AtLine, AtPlace, same_subject, Note, noted_bound, AreOfDifferentSubjects}
use Rattle.bound_texts.specs.Sources.Grammar.{GiveNotes, SaysNotes, AreNotesRead, AreNotesReadTo, IsNotedTwice, IsNoNoteLine}

-- ---- one bound more

abbrev same : Note → Note → Bool
same x y = same_subject x.subject y.subject

-- the test tells subjects apart
pub same_is : (s t : Subject) → same_subject s t ≡ true → s ≡ t
same_is (AtLine file line) (AtLine other n) h =
    let both = and_parts (pointwise nat_eq file other) (eqb line n) h in
    ap₂ AtLine ((bytes_decides file other).0 both.0) (eqb-true line n both.1)
same_is (AtPlace method pc) (AtPlace other n) h =
    let both = and_parts (pointwise nat_eq method other) (eqb pc n) h in
    ap₂ AtPlace ((bytes_decides method other).0 both.0) (eqb-true pc n both.1)
same_is (AtLine file line) (AtPlace other n) h = absurd (false≢true h)
same_is (AtPlace method pc) (AtLine other n) h = absurd (false≢true h)

pub same_self : (s : Subject) → same_subject s s ≡ true
same_self (AtLine file line) = ap₂ (λ a b. a && b) ((bytes_decides file file).1 refl) (eq-eqb line line refl)
same_self (AtPlace method pc) = ap₂ (λ a b. a && b) ((bytes_decides method method).1 refl) (eq-eqb pc pc refl)

same_turned : (x y : Note) → same x y ≡ false → same y x ≡ false
same_turned x y h = elim (cases_Bool (same y x)) [
  | inl e ↦ absurd (false≢true (sym h ∙ (ap (λ (s : Subject). same_subject s y.subject) (sym (same_is y.subject x.subject e)) ∙ same_self y.subject)))
  | inr e ↦ e
]

apart_of : (t : Bool) (v : ℕ) (r : Option ℕ) → cond t (Some v) r ≡ None → (t ≡ false) × (r ≡ None)
apart_of true v r h = absurd (cc)
apart_of false v r h = (refl, h)

absent : (x b : Note) (bs : List Note) → noted_bound x.subject bs ≡ None → same x b ≡ false → noted_bound x.subject (bs ++ b ∷ []) ≡ None
absent x b [] h s = ap (λ t. cond t (Some b.bound) None) s
absent x b (y ∷ bs) h s =
    let p = apart_of (same x y) y.bound (noted_bound x.subject bs) h in
    ap₂ (λ t r. cond t (Some y.bound) r) p.0 (absent x b bs p.1 s)

pub still_different : (bs : List Note) (b : Note) → noted_bound b.subject bs ≡ None → AreOfDifferentSubjects bs → AreOfDifferentSubjects (bs ++ b ∷ [])
still_different [] b n d = (refl, tt)
still_different (x ∷ bs) b n d =
    let p = apart_of (same b x) x.bound (noted_bound b.subject bs) n in
    (absent x b bs d.0 (same_turned b x p.0), still_different bs b p.1 d.1)

-- ---- one line more

give_more : (done : List (List ℕ)) (line : List ℕ) (bs first : List Note) → GiveNotes done bs → SaysNotes line first → GiveNotes (done ++ line ∷ []) (bs ++ first)
give_more [] line bs first g s = (first, [], ap (λ b. b ++ first) g ∙ sym (append-nil first), s, refl)
give_more (x ∷ done) line bs first g s =
    (g.0, g.1 ++ first, ap (λ b. b ++ first) g.2 ∙ append_assoc g.0 g.1 first, g.3, give_more done line g.1 first g.4 s)

-- the lines of a text that are read, so many, and those that are left
pub record IsReadSoFar (text : List ℕ) (number : ℕ) (left : List (List ℕ)) (bounds : List Note) : Type 0 where
  pub done : List (List ℕ)
  pub lines : lines_of text ≡ done ++ left
  pub count : number ≡ length done
  pub given : GiveNotes done bounds
  pub different : AreOfDifferentSubjects bounds

pub at_first : (text : List ℕ) (left : List (List ℕ)) → left ≡ lines_of text → IsReadSoFar text 0 left []
at_first text left e = record { done = []; lines = sym e; count = refl; given = refl; different = tt }

pub at_last : (text : List ℕ) (number : ℕ) (left : List (List ℕ)) (bounds : List Note) → IsReadSoFar text number left bounds → left ≡ [] → AreNotesRead text bounds
at_last text number left bounds r e =
    record { given = subst (λ ls. GiveNotes ls bounds) (sym (r.lines ∙ ap (λ l. r.done ++ l) e ∙ append-nil r.done)) r.given; different = r.different }

pub reached : (text : List ℕ) (number : ℕ) (left rest : List (List ℕ)) (line : List ℕ) (bounds : List Note) → IsReadSoFar text number left bounds → left ≡ line ∷ rest → AreNotesReadTo text (number + 1)
reached text number left rest line bounds r e = record {
  before = r.done;
  line = line;
  after = rest;
  lines = r.lines ∙ ap (λ l. r.done ++ l) e;
  number_is = omega (arith, r.count);
  notes = bounds;
  given = r.given;
  different = r.different;
}

pub next_line : (text : List ℕ) (number : ℕ) (left rest : List (List ℕ)) (line : List ℕ) (bounds first : List Note) → IsReadSoFar text number left bounds → left ≡ line ∷ rest
    → SaysNotes line first → AreOfDifferentSubjects (bounds ++ first) → IsReadSoFar text (number + 1) rest (bounds ++ first)
next_line text number left rest line bounds first r e s d = record {
  done = r.done ++ line ∷ [];
  lines = r.lines ∙ ap (λ l. r.done ++ l) e ∙ sym (append_assoc r.done (line ∷ []) rest);
  count = omega (arith, r.count, length-append r.done (line ∷ []));
  given = give_more r.done line bounds first r.given s;
  different = d;
}

-- ---- the number of lines

shorter : (pieces : List (List ℕ)) → length (without_empty_last pieces) ≤ length pieces
shorter [] = omega arith
shorter ([] ∷ []) = omega arith
shorter ((x ∷ xs) ∷ []) = omega arith
shorter (piece ∷ next ∷ pieces) = omega (arith, shorter (next ∷ pieces))

pub count_fits : (text : List ℕ) (number : ℕ) (left rest : List (List ℕ)) (line : List ℕ) (bounds : List Note) → IsReadSoFar text number left bounds → left ≡ line ∷ rest → number ≤ length text
count_fits text number left rest line bounds r e =
    omega (arith, shorter (slice_split (λ byte. byte == 10) text), length-slice_split (λ byte. byte == 10) text, count_by-le-length (λ byte. byte == 10) text, r.count, ap length r.lines, length-append r.done left, ap length e)

-- ---- what is refused

pub malformed : (text : List ℕ) (number : ℕ) (left rest : List (List ℕ)) (line : List ℕ) (bounds : List Note) → IsReadSoFar text number left bounds → left ≡ line ∷ rest
    → IsNoNoteLine line → (r : AreNotesReadTo text (number + 1)) × IsNoNoteLine r.line
unfolding reached
malformed text number left rest line bounds r e m = (reached text number left rest line bounds r e, m)

some_by_test : (o : Option ℕ) → is_some o ≡ true → IsSome o
some_by_test None h = absurd (false≢true h)
some_by_test (Some x) h = refl

pub twice : (text : List ℕ) (number : ℕ) (left rest : List (List ℕ)) (line : List ℕ) (bounds : List Note) (again : Note) → IsReadSoFar text number left bounds → left ≡ line ∷ rest
    → SaysNotes line (again ∷ []) → is_some (noted_bound again.subject bounds) ≡ true → IsNotedTwice text (number + 1)
unfolding reached
twice text number left rest line bounds again r e s there =
    record { reached = reached text number left rest line bounds r e; again = again; says = s; there = some_by_test (noted_bound again.subject bounds) there }

pub silent_line : (text : List ℕ) (number : ℕ) (left rest : List (List ℕ)) (line : List ℕ) (bounds : List Note) → IsReadSoFar text number left bounds → left ≡ line ∷ rest
    → SaysNotes line [] → IsReadSoFar text (number + 1) rest bounds
silent_line text number left rest line bounds r e s =
    subst (IsReadSoFar text (number + 1) rest) (append-nil bounds)
    (next_line text number left rest line bounds [] r e s (subst AreOfDifferentSubjects (sym (append-nil bounds)) r.different))

none_by_test : (o : Option ℕ) → is_some o ≡ false → o ≡ None
none_by_test None h = refl
none_by_test (Some x) h = absurd (true≢false h)

pub loop_line : (text : List ℕ) (number : ℕ) (left rest : List (List ℕ)) (line : List ℕ) (bounds : List Note) (first : Note) → IsReadSoFar text number left bounds → left ≡ line ∷ rest
    → SaysNotes line (first ∷ []) → is_some (noted_bound first.subject bounds) ≡ false → (more : List Note) → more ≡ bounds ++ first ∷ [] → IsReadSoFar text (number + 1) rest more
loop_line text number left rest line bounds first r e s absent more is =
    subst (IsReadSoFar text (number + 1) rest) (sym is)
    (next_line text number left rest line bounds (first ∷ []) r e s
    (still_different bounds first (none_by_test (noted_bound first.subject bounds) absent) r.different))

pub on_ok : {T E : Type 0} (P : Type 0) (r : Result T E) → is_ok r ≡ true → OnOk r P → P
on_ok P (Ok x) h p = p
on_ok P (Err e) h p = absurd (false≢true h)
