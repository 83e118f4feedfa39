-- The rows of idiv and irem, where the divisor isn't zero.
use Rattle.std.proofs.Common.{◌≡◌, ◌-◌, ◌≢◌, ℕ, ◌/◌, ◌^◌, ◌<◌, ◌≤◌, List, [], ◌∷◌, Bool, true, false, ◌&&◌, ◌==◌, drop, get_or, refl, sym, ap, ◌∙◌, subst, arith, eqb-true}
use Rattle.std.proofs.Math.Nat.{div-eq_of_lt}
use Rattle.micro_flow.specs.declared.CostParams.{CostParams}
use Rattle.jop_core.specs.declared.halt.Halt.TheVariants.{Running}
use Rattle.jop_core.specs.State.{MachineState}
use Rattle.microcode.specs.declared.addresses.TheConstants.{DIVIDE_SIGNS, DIVIDE_TURN, IDIV, IREM, LADD}
use Rattle.micro_sketch.specs.Sketch.{Sketch, same_bool, lead}
use Rattle.micro_sketch.specs.Stands.{Env, Shaped, Reaches, IsDone}
use Rattle.micro_sketch.specs.Row.{StandsAt}
use Rattle.micro_sketch.specs.DivisionOps.{quotient, remainder, CanDivide, results_in}
use Rattle.micro_sketch.proofs.PlainRows.DivideTurn.{at, magnitude, sign_of, from_idiv, from_irem, signed}
use Rattle.micro_sketch.proofs.PlainRows.DivideMath.{Divides}
use Rattle.micro_sketch.proofs.PlainRows.DivideSigns.{sign_view, magnitude_fits, magnitude_positive, signed_quotient, signed_remainder, signs_back}
use Rattle.micro_sketch.proofs.PlainRows.DivideOpened.{opened, Entered, entered}
use Rattle.micro_sketch.proofs.PlainRows.RowRuns.{RowRun}
use Rattle.micro_sketch.proofs.PlainRows.DivideRunning.{DivisionLaws, went, followed_by, low_load}
use Rattle.micro_sketch.proofs.PlainRows.DivideLoop.{loop}

-- the on-chip words from place 0 on where the quotient and the remainder are at the places 4 and 2
abbrev pub results : (a b k t : ℕ) → (low : List ℕ) → List ℕ
results a b k t low = magnitude a ∷ magnitude b ∷ remainder a b ∷ k ∷ quotient a b ∷ sign_of a ∷ sign_of b ∷ t ∷ low

-- the words are divided
pub record Divided (n ar : ℕ) (f : Sketch) (x y : ℕ) (s js low : List ℕ) (a b : ℕ) (from : Sketch) (e : Env) : Type 0 where
  pub left : ℕ → ℕ
  pub k : ℕ
  pub t : ℕ
  pub j : ℕ
  pub reaches : Reaches n from (at (LADD - 1) ar left f x y s (y ∷ x ∷ j ∷ js) (results a b k t low) true) e

-- at the head of the loop, with the dividend and the divisor taken apart
abbrev pub head_of : (ar : ℕ) → Sketch → (left : ℕ → ℕ) → (x y j a b t : ℕ) → (s js low : List ℕ) → Sketch
head_of ar f left x y j a b t s js low = at DIVIDE_TURN ar left f x y s (y ∷ x ∷ j ∷ js) (magnitude a ∷ magnitude b ∷ 0 ∷ 31 ∷ 0 ∷ sign_of a ∷ sign_of b ∷ t ∷ low) true

pub none_yet : (a d : ℕ) → a ≤ 2 ^ 31 → 0 < d → Divides (a / 2 ^ 32) d 0 0
none_yet a d h p = record { sum = (let l : a < 2 ^ 32 = omega arith in div-eq_of_lt l) ∙ omega arith; below = p }

pub tested_by : (d : ℕ) (b : Bool) → (d == 0) ≡ b → d ≢ 0 → (same_bool false b && true) ≡ true
tested_by d true e ne = absurd (ne (eqb-true d 0 e))
tested_by d false e ne = refl

pub not_taken : (d : ℕ) → d ≢ 0 → (same_bool false (d == 0) && true) ≡ true
not_taken d ne = tested_by d (d == 0) refl ne

-- the sketch at the next opcode, with the word on its stack
abbrev pub finished : (ar word : ℕ) → (left : ℕ → ℕ) → Sketch → (x y j : ℕ) → (s js low : List ℕ) → Sketch
finished ar word left f x y j s js low = lead true (at (LADD - 1) ar left f word x (y ∷ s) (x ∷ j ∷ js) low true)

-- what the rows do, from what the sketch comes to
pub row_by : (n op ar : ℕ) (p : CostParams) (x : Sketch) (e : Env) (s : MachineState) (mpc : ℕ) → StandsAt n p op x e s → (o : Entered n mpc x e) → (word : ℕ) (left : ℕ → ℕ) (j a b c d k q r t : ℕ) (js : List ℕ) →
    Reaches n (opened mpc x o.u o.a o.l) (finished ar word left x o.u.a o.u.b j o.u.rest js (a ∷ b ∷ c ∷ d ∷ k ∷ q ∷ r ∷ t ∷ o.l.rest)) e → RowRun n (results_in word x) x e
row_by n op ar p x e s mpc t o word left j a b c d k q r u js run =
    let y = finished ar word left x o.u.a o.u.b j o.u.rest js (a ∷ b ∷ c ∷ d ∷ k ∷ q ∷ r ∷ u ∷ o.l.rest) in
    let whole : Reaches n x y e = subst (λ z. Reaches n z y e) o.is run in
    let done : IsDone y = record { fine = refl {a = true}; done = refl {a = true}; idle = refl {a = false} } in
    record {
      after = y;
      reaches = whole;
      done = done;
      follows = record {
        words = λ i. word ∷ sym o.u.is i;
        deep = refl;
        low = λ i. drop 24 (sym o.l.is i);
        memory = refl;
        answers = refl;
        output = t.silent;
        opcode = refl;
        jpc = refl;
        mpc = refl;
        operand = refl;
        running = refl;
        kept = record {
          vp = refl;
          method = refl;
          cache = refl;
          hits = refl;
          misses = refl;
          loads = refl;
          loaded = refl;
        };
      };
    }

-- the branch at the end of the loop may be taken 31 times
pub turns_enough : (n op : ℕ) (p : CostParams) (x : Sketch) (e : Env) (s : MachineState) → StandsAt n p op x e s → 31 ≤ x.left (DIVIDE_SIGNS - 1)
turns_enough n op p x e s t = let h : 31 ≡ x.left (DIVIDE_SIGNS - 1) = ap (λ (f : ℕ → ℕ). f (DIVIDE_SIGNS - 1)) t.entry.turns in omega arith

module _ (laws : DivisionLaws) where
  -- from the head of the loop to the load of the result
  pub divided : (n ar : ℕ) (left : ℕ → ℕ) (f : Sketch) (x y j a b t : ℕ) (s js low : List ℕ) (e : Env) → let from = head_of ar f left x y j a b t s js low in
      Shaped n from → e.port ≡ 0 → 31 ≤ left (DIVIDE_SIGNS - 1) → a < 2 ^ 32 → b < 2 ^ 32 → b ≢ 0 → Divided n ar f x y s js low a b from e
  divided n ar left f x y j a b t s js low e shape port turns al bl ne =
      let from = head_of ar f left x y j a b t s js low in
      let most = magnitude_fits a (sign_view a al) in
      let less = magnitude_fits b (sign_view b bl) in
      let some = magnitude_positive b (sign_view b bl) (let p : 0 < b = omega arith in p) in
      let l = loop laws 31 n ar left f x y j (magnitude a) (magnitude b) 0 0 (sign_of a) (sign_of b) t s js low e shape port (omega arith) turns most less (none_yet (magnitude a) (magnitude b) most some) in
      let signs = signs_back a b l.q l.r al bl l.divides in
      let mid = at DIVIDE_SIGNS ar l.left f x y s (y ∷ x ∷ l.j ∷ js) (magnitude a ∷ magnitude b ∷ l.r ∷ l.k ∷ l.q ∷ sign_of a ∷ sign_of b ∷ l.t ∷ low) true in
      let end : ℕ → ℕ → Sketch = λ r q. at (LADD - 1) ar l.left f x y s (y ∷ x ∷ l.j ∷ js) (magnitude a ∷ magnitude b ∷ r ∷ l.k ∷ q ∷ sign_of a ∷ sign_of b ∷ l.t ∷ low) true in
      let ended = end (signed_remainder l.r a) (signed_quotient l.q a b) in
      let last = went laws 9 [] n mid ended l.reaches.env l.reaches.shape l.reaches.port (signed f ar l.left x y y x (magnitude a) (magnitude b) l.r l.k l.q (sign_of a) (sign_of b) l.t s (l.j ∷ js) low) (refl {a = true}) in
      let all : Reaches n from ended e = followed_by laws n from mid ended e l.reaches last (refl {a = false}) in
      record { left = l.left; k = l.k; t = l.t; j = l.j; reaches = subst (λ r. Reaches n from (end r (quotient a b)) e) signs.1 (subst (λ q. Reaches n from (end (signed_remainder l.r a) q) e) signs.0 all) }

  -- from the head of the loop to the next opcode, with the word of AR's place
  pub divides_from : (n op ar : ℕ) (p : CostParams) (x : Sketch) (e : Env) (s : MachineState) (mpc word : ℕ) → StandsAt n p op x e s → CanDivide x → (o : Entered n mpc x e) → ar < 32 →
      ((k t : ℕ) (low : List ℕ) → get_or (results x.next x.top k t low) ar 0 ≡ word) →
      Reaches n (opened mpc x o.u o.a o.l) (head_of ar x x.left o.u.a o.u.b 1 x.next x.top o.l.h o.u.rest (o.a.b ∷ o.a.rest) o.l.rest) e → RowRun n (results_in word x) x e
  divides_from n op ar p x e s mpc word t can o small is first =
      let u = o.u in
      let js = o.a.b ∷ o.a.rest in
      let from = opened mpc x o.u o.a o.l in
      let head = head_of ar x x.left u.a u.b 1 x.next x.top o.l.h u.rest js o.l.rest in
      let w = divided n ar x.left x u.a u.b 1 x.next x.top o.l.h u.rest js o.l.rest first.env first.shape first.port (turns_enough n op p x e s t) can.dividend can.divisor can.not_zero in
      let low = results x.next x.top w.k w.t o.l.rest in
      let end = at (LADD - 1) ar w.left x u.a u.b u.rest (u.b ∷ u.a ∷ w.j ∷ js) low true in
      let result = get_or low ar 0 in
      let two : Reaches n from end e = followed_by laws n from head end e first w.reaches (refl {a = false}) in
      let y = finished ar result w.left x u.a u.b w.j u.rest js low in
      let last : Reaches n end y two.env = low_load laws n end two.env (record { not_done = refl {a = false}; running = refl {a = Running} }) two.shape two.port small (refl {a = true}) in
      subst (λ i. RowRun n (results_in i x) x e) (is w.k w.t o.l.rest)
      (row_by n op ar p x e s mpc t o result w.left w.j (magnitude x.next) (magnitude x.top) (remainder x.next x.top) w.k (quotient x.next x.top) (sign_of x.next) (sign_of x.top) w.t js (followed_by laws n from end y e two last (refl {a = false})))

  pub idiv_divides : (n : ℕ) (p : CostParams) (x : Sketch) (e : Env) (s : MachineState) → StandsAt n p 108 x e s → CanDivide x → RowRun n (results_in (quotient x.next x.top) x) x e
  idiv_divides n p x e s t can =
      let o = entered n 108 p x e s IDIV t t.entry.at in
      let l = o.l in
      divides_from n 108 4 p x e s IDIV (quotient x.next x.top) t can o (omega arith) (λ k t low. refl)
      (went laws 36 (false ∷ []) n (opened IDIV x o.u o.a l) _ e o.shape o.port (from_idiv x x.ar x.left x.top x.next o.u.a o.u.b o.a.a l.a l.b l.c l.d l.e l.f l.g l.h o.u.rest (o.a.b ∷ o.a.rest) l.rest) (not_taken x.top can.not_zero))

  pub irem_divides : (n : ℕ) (p : CostParams) (x : Sketch) (e : Env) (s : MachineState) → StandsAt n p 112 x e s → CanDivide x → RowRun n (results_in (remainder x.next x.top) x) x e
  irem_divides n p x e s t can =
      let o = entered n 112 p x e s IREM t t.entry.at in
      let l = o.l in
      divides_from n 112 2 p x e s IREM (remainder x.next x.top) t can o (omega arith) (λ k t low. refl)
      (went laws 35 (false ∷ []) n (opened IREM x o.u o.a l) _ e o.shape o.port (from_irem x x.ar x.left x.top x.next o.u.a o.u.b o.a.a l.a l.b l.c l.d l.e l.f l.g l.h o.u.rest (o.a.b ∷ o.a.rest) l.rest) (not_taken x.top can.not_zero))
