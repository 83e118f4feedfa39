-- The loop of a division, by induction over the turns that are left.
use Rattle.std.proofs.Common.{◌≡◌, ℕ, zero, suc, ◌-◌, ◌/◌, ◌^◌, ◌<◌, ◌≤◌, List, [], ◌∷◌, Bool, true, false, ◌&&◌, nat_lt, refl, ap, ◌∙◌, subst, arith, lt-ltb}
use Rattle.std.proofs.Math.Nat.{div-one}
use Rattle.micro_flow.specs.Walk.{used}
use Rattle.microcode.specs.declared.addresses.TheConstants.{DIVIDE_SIGNS, DIVIDE_TURN}
use Rattle.micro_sketch.specs.Sketch.{Sketch, same_bool}
use Rattle.micro_sketch.specs.Stands.{Env, Shaped, Reaches}
use Rattle.micro_sketch.proofs.PlainRows.DivideTurn.{at, again, leaves, grown, goes_in, less_one}
use Rattle.micro_sketch.proofs.PlainRows.DivideMath.{Divides, counted, turned, quotient_after, remainder_after}
use Rattle.micro_sketch.proofs.PlainRows.DivideRunning.{DivisionLaws, went, followed_by}

-- the loop comes to its end with the quotient and the remainder
pub record Looped (n ar : ℕ) (f : Sketch) (x y : ℕ) (s js low : List ℕ) (a d g h : ℕ) (from : Sketch) (e : Env) : Type 0 where
  pub left : ℕ → ℕ
  pub q : ℕ
  pub r : ℕ
  pub k : ℕ
  pub t : ℕ
  pub j : ℕ
  pub reaches : Reaches n from (at DIVIDE_SIGNS ar left f x y s (y ∷ x ∷ j ∷ js) (a ∷ d ∷ r ∷ k ∷ q ∷ g ∷ h ∷ t ∷ low) true) e
  pub divides : Divides a d q r

pub both : (a b : Bool) → a ≡ true → b ≡ true → (a && (b && true)) ≡ true
both a b p q = ap (λ z. z && (b && true)) p ∙ ap (λ z. z && true) q

module _ (laws : DivisionLaws) where
  -- a turn after which another one comes
  pub turn_again : (n ar : ℕ) (left : ℕ → ℕ) (f : Sketch) (x y j k a d r q g h t : ℕ) (s js low : List ℕ) (e : Env) → let from = at DIVIDE_TURN ar left f x y s (y ∷ x ∷ j ∷ js) (a ∷ d ∷ r ∷ suc k ∷ q ∷ g ∷ h ∷ t ∷ low) true in
      Shaped n from → e.port ≡ 0 → suc k < 2 ^ 32 → 0 < left (DIVIDE_SIGNS - 1) → let r1 = grown a (suc k) r in
      Reaches n from (at DIVIDE_TURN ar (used (DIVIDE_SIGNS - 1) left) f x y s (y ∷ x ∷ suc k ∷ js) (a ∷ d ∷ remainder_after r1 d ∷ k ∷ quotient_after q r1 d ∷ g ∷ h ∷ goes_in r1 d ∷ low) true) e
  turn_again n ar left f x y j k a d r q g h t s js low e shape port small some =
      let from = at DIVIDE_TURN ar left f x y s (y ∷ x ∷ j ∷ js) (a ∷ d ∷ r ∷ suc k ∷ q ∷ g ∷ h ∷ t ∷ low) true in
      let r1 = grown a (suc k) r in
      let fine = both (nat_lt 0 (left (DIVIDE_SIGNS - 1))) (same_bool true (nat_lt 0 (suc k))) (lt-ltb 0 (left (DIVIDE_SIGNS - 1)) some) (lt-ltb 0 (suc k) (omega arith)) in
      subst (λ i. Reaches n from (at DIVIDE_TURN ar (used (DIVIDE_SIGNS - 1) left) f x y s (y ∷ x ∷ suc k ∷ js) (a ∷ d ∷ remainder_after r1 d ∷ i ∷ quotient_after q r1 d ∷ g ∷ h ∷ goes_in r1 d ∷ low) true) e) (counted k small)
      (went laws 33 (true ∷ []) n from _ e shape port (again f ar left x y y x j a d r (suc k) q g h t s js low) fine)

  -- the last turn
  pub turn_last : (n ar : ℕ) (left : ℕ → ℕ) (f : Sketch) (x y j a d r q g h t : ℕ) (s js low : List ℕ) (e : Env) → let from = at DIVIDE_TURN ar left f x y s (y ∷ x ∷ j ∷ js) (a ∷ d ∷ r ∷ 0 ∷ q ∷ g ∷ h ∷ t ∷ low) true in
      Shaped n from → e.port ≡ 0 → let r1 = grown a 0 r in
      Reaches n from (at DIVIDE_SIGNS ar left f x y s (y ∷ x ∷ 0 ∷ js) (a ∷ d ∷ remainder_after r1 d ∷ less_one 0 ∷ quotient_after q r1 d ∷ g ∷ h ∷ goes_in r1 d ∷ low) true) e
  turn_last n ar left f x y j a d r q g h t s js low e shape port =
      let from = at DIVIDE_TURN ar left f x y s (y ∷ x ∷ j ∷ js) (a ∷ d ∷ r ∷ 0 ∷ q ∷ g ∷ h ∷ t ∷ low) true in
      went laws 33 (false ∷ []) n from _ e shape port (leaves f ar left x y y x j a d r 0 q g h t s js low) (refl {a = true})

  pub loop : (k n ar : ℕ) (left : ℕ → ℕ) (f : Sketch) (x y j a d r q g h t : ℕ) (s js low : List ℕ) (e : Env) → let from = at DIVIDE_TURN ar left f x y s (y ∷ x ∷ j ∷ js) (a ∷ d ∷ r ∷ k ∷ q ∷ g ∷ h ∷ t ∷ low) true in
      Shaped n from → e.port ≡ 0 → k < 32 → k ≤ left (DIVIDE_SIGNS - 1) → a ≤ 2 ^ 31 → d ≤ 2 ^ 31 → Divides (a / 2 ^ suc k) d q r → Looped n ar f x y s js low a d g h from e
  loop zero n ar left f x y j a d r q g h t s js low e shape port kl turns al dl v =
      let r1 = grown a 0 r in
      record {
        left = left;
        q = quotient_after q r1 d;
        r = remainder_after r1 d;
        k = less_one 0;
        t = goes_in r1 d;
        j = 0;
        reaches = turn_last n ar left f x y j a d r q g h t s js low e shape port;
        divides = subst (λ m. Divides m d (quotient_after q r1 d) (remainder_after r1 d)) (div-one a) (turned a 0 d q r kl al dl v);
      }
  loop (suc k) n ar left f x y j a d r q g h t s js low e shape port kl turns al dl v =
      let r1 = grown a (suc k) r in
      let q' = quotient_after q r1 d in
      let r' = remainder_after r1 d in
      let u = goes_in r1 d in
      let from = at DIVIDE_TURN ar left f x y s (y ∷ x ∷ j ∷ js) (a ∷ d ∷ r ∷ suc k ∷ q ∷ g ∷ h ∷ t ∷ low) true in
      let mid = at DIVIDE_TURN ar (used (DIVIDE_SIGNS - 1) left) f x y s (y ∷ x ∷ suc k ∷ js) (a ∷ d ∷ r' ∷ k ∷ q' ∷ g ∷ h ∷ u ∷ low) true in
      let one : Reaches n from mid e = turn_again n ar left f x y j k a d r q g h t s js low e shape port (omega arith) (omega arith) in
      let fewer : used (DIVIDE_SIGNS - 1) left (DIVIDE_SIGNS - 1) ≡ left (DIVIDE_SIGNS - 1) - 1 = refl in
      let rest = loop k n ar (used (DIVIDE_SIGNS - 1) left) f x y (suc k) a d r' q' g h u s js low one.env one.shape one.port (omega arith) (omega (arith, fewer)) al dl (turned a (suc k) d q r kl al dl v) in
      record {
        left = rest.left;
        q = rest.q;
        r = rest.r;
        k = rest.k;
        t = rest.t;
        j = rest.j;
        reaches = followed_by laws n from mid (at DIVIDE_SIGNS ar rest.left f x y s (y ∷ x ∷ rest.j ∷ js) (a ∷ d ∷ rest.r ∷ rest.k ∷ rest.q ∷ g ∷ h ∷ rest.t ∷ low) true) e one rest.reaches (refl {a = false});
        divides = rest.divides;
      }
