-- A text gives one list of bounds, and then no line is refused.
use Rattle.std.proofs.Common.{◌≡◌, ℕ, Bool, true, ◌&&◌, List, [], ◌∷◌, ◌++◌, cond, Option, Some, refl, sym, ◌∙◌, ap, ap₂, subst, append_assoc, inl, inr, eqb}
use Rattle.std.specs.Prelude.{nat_eq, IsSome}
use Rattle.std.proofs.lemmas.Bool.{cases_Bool, eqb-true, eq-eqb, and_parts, true≢false}
use Rattle.std.proofs.lemmas.List.{append_cancel_left}
use lib.Pointwise.{pointwise, bytes_decides}
use Rattle.ascii_text.specs.Line.{lines_of}
use Rattle.bound_texts.specs.declared.loops.quantity.Quantity.{Quantity}
use Rattle.bound_texts.specs.declared.loops.quantity.Quantity.TheVariants.{Iterations, Lengths}
use Rattle.bound_texts.specs.declared.loops.BoundsFault.{BoundsFault}
use Rattle.bound_texts.specs.declared.loops.BoundsFault.TheVariants as faults
use Rattle.bound_texts.specs.Loops.Bounds.{LoopBound, bound_in, AreOfDifferentLoops}
use Rattle.bound_texts.specs.Loops.Lines.{IsBoundLine, SaysBound, IsNoLine, GiveBounds, GivesBounds, ReachesLine, BoundsTwice, CausesFault, word_of}
use Rattle.bound_texts.specs.Loops.Laws.{GivesOne, ReadIsNotRefused, LengthsGiveOne, ReadLengthsAreNotRefused}

-- ---- a line says one thing

alike : (a b : LoopBound) → a.name ≡ b.name → a.pc ≡ b.pc → a.bound ≡ b.bound → a ≡ b
alike a b name pc bound =
    ap (λ (n : List ℕ). record { name = n; pc = a.pc; bound = a.bound }) name
    ∙ (ap (λ (p : ℕ). record { name = b.name; pc = p; bound = a.bound }) pc ∙ ap (λ (n : ℕ). record { name = b.name; pc = b.pc; bound = n }) bound)

same_loop : (q : Quantity) (line : List ℕ) (a b : LoopBound) → IsBoundLine q line a → IsBoundLine q line b → a ≡ b
same_loop q line a b x y =
    let theirs = y.parts in
    let parts : a.name ∷ x.pc_text ∷ (word_of q ++ x.bound_text) ∷ [] ≡ b.name ∷ y.pc_text ∷ (word_of q ++ y.bound_text) ∷ [] = cc (x.parts, theirs) in
    let name : a.name ≡ b.name = cc in
    let pc_text : x.pc_text ≡ y.pc_text = cc in
    let last : word_of q ++ x.bound_text ≡ word_of q ++ y.bound_text = cc in
    let bound_text : x.bound_text ≡ y.bound_text = append_cancel_left (word_of q) x.bound_text y.bound_text last in
    let pc : a.pc ≡ b.pc = cc (x.pc.1, y.pc.1) in
    let bound : a.bound ≡ b.bound = cc (x.bound.1, y.bound.1) in
    alike a b name pc bound

says_one : (q : Quantity) (line : List ℕ) (xs ys : List LoopBound) → SaysBound q line xs → SaysBound q line ys → xs ≡ ys
says_one q line [] [] x y = refl
says_one q line [] (b ∷ []) x y = absurd (y.0 x)
says_one q line [] (b ∷ c ∷ cs) x y = absurd y
says_one q line (a ∷ []) [] x y = absurd (x.0 y)
says_one q line (a ∷ []) (b ∷ []) x y = ap (λ (z : LoopBound). z ∷ []) (same_loop q line a b x.1 y.1)
says_one q line (a ∷ []) (b ∷ c ∷ cs) x y = absurd y
says_one q line (a ∷ d ∷ ds) ys x y = absurd x

give_one : (q : Quantity) (lines : List (List ℕ)) (xs ys : List LoopBound) → GiveBounds q lines xs → GiveBounds q lines ys → xs ≡ ys
give_one q [] xs ys x y = x ∙ sym y
give_one q (line ∷ lines) xs ys (first, rest, is, says, give) (first', rest', is', says', give') =
    is ∙ (ap₂ (λ (f r : List LoopBound). f ++ r) (says_one q line first first' says says') (give_one q lines rest rest' give give') ∙ sym is')

pub one_list : (q : Quantity) (text : List ℕ) (a b : List LoopBound) → GivesBounds q text a → GivesBounds q text b → a ≡ b
one_list q text a b x y = give_one q (lines_of text) a b x.given y.given

pub gives_one : GivesOne
gives_one text a b x y = one_list Iterations text a b x y

pub lengths_give_one : LengthsGiveOne
lengths_give_one text a b x y = one_list Lengths text a b x y

-- ---- no line is refused

-- what the lines before one gave, what it gave, and the rest
record IsSplit (q : Quantity) (before : List (List ℕ)) (line : List ℕ) (bs : List LoopBound) : Type 0 where
  pub front : List LoopBound
  pub said : List LoopBound
  pub rest : List LoopBound
  pub is : bs ≡ front ++ (said ++ rest)
  pub given : GiveBounds q before front
  pub says : SaysBound q line said

split : (q : Quantity) (before : List (List ℕ)) (line : List ℕ) (after : List (List ℕ)) (bs : List LoopBound) → GiveBounds q (before ++ line ∷ after) bs → IsSplit q before line bs
split q [] line after bs (first, rest, is, says, give) = record { front = []; said = first; rest = rest; is = is; given = refl; says = says }
split q (b ∷ before) line after bs (first, rest, is, says, give) =
    let s : IsSplit q before line rest = split q before line after rest give in
    record {
      front = first ++ s.front;
      said = s.said;
      rest = s.rest;
      is = is ∙ (ap (λ (r : List LoopBound). first ++ r) s.is ∙ sym (append_assoc first s.front (s.said ++ s.rest)));
      given = (first, s.front, refl, says, s.given);
      says = s.says;
    }

well_formed : (q : Quantity) (line : List ℕ) (said : List LoopBound) → SaysBound q line said → IsNoLine q line → ⊥
well_formed q line [] says bad = bad.0 says
well_formed q line (b ∷ []) says bad = bad.1 b says.1
well_formed q line (b ∷ c ∷ cs) says bad = says

found : (a : LoopBound) (front rest : List LoopBound) → IsSome (bound_in a.name a.pc (front ++ a ∷ rest))
found a [] rest =
    let test : (pointwise nat_eq a.name a.name && eqb a.pc a.pc) ≡ true = ap₂ (λ (x y : Bool). x && y) ((bytes_decides a.name a.name).1 refl) (eq-eqb a.pc a.pc refl) in
    subst (λ (t : Bool). IsSome (cond t (Some a.bound) (bound_in a.name a.pc rest))) (sym test) refl
found a (b ∷ front) rest = elim (cases_Bool (pointwise nat_eq a.name b.name && eqb a.pc b.pc)) [
  | inl e ↦ subst (λ (t : Bool). IsSome (cond t (Some b.bound) (bound_in a.name a.pc (front ++ a ∷ rest)))) (sym e) refl
  | inr e ↦ subst (λ (t : Bool). IsSome (cond t (Some b.bound) (bound_in a.name a.pc (front ++ a ∷ rest)))) (sym e) (found a front rest)
]

clash : (a : LoopBound) (front rest : List LoopBound) → AreOfDifferentLoops (front ++ a ∷ rest) → IsSome (bound_in a.name a.pc front) → ⊥
clash a [] rest different some = true≢false (sym some)
clash a (b ∷ front) rest different some = elim (cases_Bool (pointwise nat_eq a.name b.name && eqb a.pc b.pc)) [
  | inl e ↦
      let both = and_parts (pointwise nat_eq a.name b.name) (eqb a.pc b.pc) e in
      let name : a.name ≡ b.name = (bytes_decides a.name b.name).0 both.0 in
      let pc : a.pc ≡ b.pc = eqb-true a.pc b.pc both.1 in
      let there : IsSome (bound_in b.name b.pc (front ++ a ∷ rest)) = subst (λ (n : List ℕ). IsSome (bound_in n b.pc (front ++ a ∷ rest))) name (subst (λ (p : ℕ). IsSome (bound_in a.name p (front ++ a ∷ rest))) pc (found a front rest)) in
      true≢false (sym (subst (λ (o : Option ℕ). IsSome o) different.0 there))
  | inr e ↦ clash a front rest different.1 (subst (λ (t : Bool). IsSome (cond t (Some b.bound) (bound_in a.name a.pc front))) e some)
]

module _ (q : Quantity) (text : List ℕ) (bs : List LoopBound) (read : GivesBounds q text bs) where
  split_at : (n : ℕ) (r : ReachesLine q text n) → IsSplit q r.before r.line bs
  split_at n r = split q r.before r.line r.after bs (subst (λ (ls : List (List ℕ)). GiveBounds q ls bs) r.lines read.given)

  not_malformed : (n : ℕ) (r : ReachesLine q text n) → IsNoLine q r.line → ⊥
  not_malformed n r bad = let s = split_at n r in well_formed q r.line s.said s.says bad

  not_twice : (n : ℕ) → BoundsTwice q text n → ⊥
  not_twice n t =
      let r = t.reached in
      let s = split_at n r in
      let front : r.bounds ≡ s.front = give_one q r.before r.bounds s.front r.given s.given in
      let said : s.said ≡ t.again ∷ [] = says_one q r.line s.said (t.again ∷ []) s.says t.says in
      let is : bs ≡ s.front ++ t.again ∷ s.rest = s.is ∙ ap (λ (x : List LoopBound). s.front ++ (x ++ s.rest)) said in
      clash t.again s.front s.rest (subst AreOfDifferentLoops is read.different) (subst (λ (x : List LoopBound). IsSome (bound_in t.again.name t.again.pc x)) front t.there)

  not_refused : (fault : BoundsFault) → CausesFault q text fault → fault ≡ faults.NoMemory
  not_refused (faults.Line n) (r, bad) = absurd (not_malformed n r bad)
  not_refused (faults.Twice n) t = absurd (not_twice n t)
  not_refused faults.NoMemory u = refl

pub read_is_not_refused : ReadIsNotRefused
read_is_not_refused text bs fault read refused = not_refused Iterations text bs read fault refused

pub read_lengths_are_not_refused : ReadLengthsAreNotRefused
read_lengths_are_not_refused text bs fault read refused = not_refused Lengths text bs read fault refused
