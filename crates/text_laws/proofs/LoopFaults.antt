-- A text of bounds, or of lengths, has one fault at most.
use Rattle.std.proofs.Common.{◌≡◌, ℕ, suc, Bool, true, ◌&&◌, List, [], ◌∷◌, ◌++◌, length, cond, Option, Some, refl, sym, ◌∙◌, ap, ap₂, subst, inl, inr, eqb}
use Rattle.std.specs.Prelude.{nat_eq, IsSome, ◌≢◌}
use Rattle.std.proofs.lemmas.Bool.{cases_Bool, eqb-true, eq-eqb, and_parts, true≢false}
use Rattle.std.proofs.lemmas.List.{append_cancel_left}
use lib.Pointwise.{pointwise, bytes_decides}
use Rattle.ascii_text.specs.Line.{lines_of}
use Rattle.bound_texts.specs.declared.loops.BoundsFault.{BoundsFault}
use Rattle.bound_texts.specs.declared.loops.BoundsFault.TheVariants as faults
use Rattle.bound_texts.specs.Loops.Bounds.{LoopBound, bound_in, AreOfDifferentLoops}
use Rattle.bound_texts.specs.Loops.Lines.{IsBoundLine, SaysBound, IsNoLine, GiveBounds, ReachesLine, BoundsTwice, CausesFault, word_of}
use Rattle.text_laws.specs.Faults.{BoundsFaultsAreOne, LengthFaultsAreOne}
use Rattle.text_laws.proofs.FirstBad.{Give, BadLine, one_bad_line}
use Rattle.text_laws.proofs.FirstBad.BadLine.{no_line, twice}

-- ---- a line says one thing

alike : (a b : LoopBound) → a.name ≡ b.name → a.pc ≡ b.pc → a.bound ≡ b.bound → a ≡ b
alike a b name pc bound =
    ap (λ (n : List ℕ). record { name = n; pc = a.pc; bound = a.bound }) name
    ∙ (ap (λ (p : ℕ). record { name = b.name; pc = p; bound = a.bound }) pc ∙ ap (λ (n : ℕ). record { name = b.name; pc = b.pc; bound = n }) bound)

same_loop : (q : _) (line : List ℕ) (a b : LoopBound) → IsBoundLine q line a → IsBoundLine q line b → a ≡ b
same_loop q line a b x y =
    let theirs = y.parts in
    let parts : a.name ∷ x.pc_text ∷ (word_of q ++ x.bound_text) ∷ [] ≡ b.name ∷ y.pc_text ∷ (word_of q ++ y.bound_text) ∷ [] = cc (x.parts, theirs) in
    let name : a.name ≡ b.name = cc in
    let pc_text : x.pc_text ≡ y.pc_text = cc in
    let last : word_of q ++ x.bound_text ≡ word_of q ++ y.bound_text = cc in
    let bound_text : x.bound_text ≡ y.bound_text = append_cancel_left (word_of q) x.bound_text y.bound_text last in
    let pc : a.pc ≡ b.pc = cc (x.pc.1, y.pc.1) in
    let bound : a.bound ≡ b.bound = cc (x.bound.1, y.bound.1) in
    alike a b name pc bound

says_one : (q : _) (line : List ℕ) (xs ys : List LoopBound) → SaysBound q line xs → SaysBound q line ys → xs ≡ ys
says_one q line [] [] x y = refl
says_one q line [] (b ∷ []) x y = absurd (y.0 x)
says_one q line [] (b ∷ c ∷ cs) x y = absurd y
says_one q line (a ∷ []) [] x y = absurd (x.0 y)
says_one q line (a ∷ []) (b ∷ []) x y = ap (λ (z : LoopBound). z ∷ []) (same_loop q line a b x.1 y.1)
says_one q line (a ∷ []) (b ∷ c ∷ cs) x y = absurd y
says_one q line (a ∷ d ∷ ds) ys x y = absurd x

says_none : (q : _) (line : List ℕ) → IsNoLine q line → (said : List LoopBound) → SaysBound q line said → ⊥
says_none q line bad [] says = bad.0 says
says_none q line bad (b ∷ []) says = bad.1 b says.1
says_none q line bad (b ∷ c ∷ cs) says = says

-- ---- no place is bounded twice

abbrev IsThere : LoopBound → List LoopBound → Type 0
IsThere a front = IsSome (bound_in a.name a.pc front)

found : (a : LoopBound) (front rest : List LoopBound) → IsThere a (front ++ a ∷ rest)
found a [] rest =
    let test : (pointwise nat_eq a.name a.name && eqb a.pc a.pc) ≡ true = ap₂ (λ (x y : Bool). x && y) ((bytes_decides a.name a.name).1 refl) (eq-eqb a.pc a.pc refl) in
    subst (λ (t : Bool). IsSome (cond t (Some a.bound) (bound_in a.name a.pc rest))) (sym test) refl
found a (b ∷ front) rest = elim (cases_Bool (pointwise nat_eq a.name b.name && eqb a.pc b.pc)) [
  | inl e ↦ subst (λ (t : Bool). IsSome (cond t (Some b.bound) (bound_in a.name a.pc (front ++ a ∷ rest)))) (sym e) refl
  | inr e ↦ subst (λ (t : Bool). IsSome (cond t (Some b.bound) (bound_in a.name a.pc (front ++ a ∷ rest)))) (sym e) (found a front rest)
]

clash : (a : LoopBound) (front rest : List LoopBound) → AreOfDifferentLoops (front ++ a ∷ rest) → IsThere a front → ⊥
clash a [] rest different some = true≢false (sym some)
clash a (b ∷ front) rest different some = elim (cases_Bool (pointwise nat_eq a.name b.name && eqb a.pc b.pc)) [
  | inl e ↦
      let both = and_parts (pointwise nat_eq a.name b.name) (eqb a.pc b.pc) e in
      let name : a.name ≡ b.name = (bytes_decides a.name b.name).0 both.0 in
      let pc : a.pc ≡ b.pc = eqb-true a.pc b.pc both.1 in
      let there : IsSome (bound_in b.name b.pc (front ++ a ∷ rest)) = subst (λ (n : List ℕ). IsSome (bound_in n b.pc (front ++ a ∷ rest))) name (subst (λ (p : ℕ). IsSome (bound_in a.name p (front ++ a ∷ rest))) pc (found a front rest)) in
      true≢false (sym (subst (λ (o : Option ℕ). IsSome o) different.0 there))
  | inr e ↦ clash a front rest different.1 (subst (λ (t : Bool). IsSome (cond t (Some b.bound) (bound_in a.name a.pc front))) e some)
]

-- ---- the first line that is refused

given_so : (q : _) (lines : List (List ℕ)) (bs : List LoopBound) → GiveBounds q lines bs → Give (SaysBound q) lines bs
given_so q [] bs given = given
given_so q (line ∷ lines) bs (first, rest, is, says, give) = (first, rest, is, says, given_so q lines rest give)

module _ (q : _) (text : List ℕ) where
  abbrev IsBadAt : (n : ℕ) → ReachesLine q text n → Type 0
  IsBadAt n r = BadLine LoopBound (SaysBound q) IsThere r.before r.line

  bad_twice : (n : ℕ) (t : BoundsTwice q text n) → IsBadAt n t.reached
  bad_twice n t = let r = t.reached in twice r.bounds t.again (given_so q r.before r.bounds r.given) t.says t.there

  bad_line : (n : ℕ) (r : ReachesLine q text n) → IsNoLine q r.line → IsBadAt n r
  bad_line n r bad = no_line (says_none q r.line bad)

  one_line : (n m : ℕ) (r : ReachesLine q text n) (s : ReachesLine q text m) → IsBadAt n r → IsBadAt m s → (n ≡ m) × (r.line ≡ s.line)
  one_line n m r s bad bad' =
      let same =
      one_bad_line LoopBound (SaysBound q) AreOfDifferentLoops IsThere (says_one q) clash (lines_of text) r.before r.line r.after s.before s.line s.after r.bounds s.bounds
      r.lines s.lines bad bad' (given_so q r.before r.bounds r.given) r.different (given_so q s.before s.bounds s.given) s.different in
      (r.number_is ∙ (ap (λ (ls : List (List ℕ)). suc (length ls)) same.0 ∙ sym s.number_is), same.1)

  not_both : (n m : ℕ) (r : ReachesLine q text n) → IsNoLine q r.line → BoundsTwice q text m → ⊥
  not_both n m r bad t =
      let same = one_line n m r t.reached (bad_line n r bad) (bad_twice m t) in
      says_none q t.reached.line (subst (IsNoLine q) same.1 bad) (t.again ∷ []) t.says

  one_fault : (a b : BoundsFault) → a ≢ faults.NoMemory → b ≢ faults.NoMemory → CausesFault q text a → CausesFault q text b → a ≡ b
  one_fault (faults.Line n) (faults.Line m) u v (r, bad) (s, bad') = ap faults.Line (one_line n m r s (bad_line n r bad) (bad_line m s bad')).0
  one_fault (faults.Line n) (faults.Twice m) u v (r, bad) t = absurd (not_both n m r bad t)
  one_fault (faults.Twice n) (faults.Line m) u v t (s, bad) = absurd (not_both m n s bad t)
  one_fault (faults.Twice n) (faults.Twice m) u v t w = ap faults.Twice (one_line n m t.reached w.reached (bad_twice n t) (bad_twice m w)).0
  one_fault faults.NoMemory b u v x y = absurd (u refl)
  one_fault (faults.Line n) faults.NoMemory u v x y = absurd (v refl)
  one_fault (faults.Twice n) faults.NoMemory u v x y = absurd (v refl)

pub bounds_faults_are_one : BoundsFaultsAreOne
bounds_faults_are_one text a b u v x y = one_fault _ text a b u v x y

pub length_faults_are_one : LengthFaultsAreOne
length_faults_are_one text a b u v x y = one_fault _ text a b u v x y
