-- The straight-line parts of a division, and a turn of its loop, by what the sketch computes to.
use Rattle.std.proofs.Common.{◌≡◌, ℕ, ◌+◌, ◌-◌, ◌*◌, ◌/◌, ◌%◌, ◌^◌, ◌==◌, List, [], ◌∷◌, Bool, true, false, ◌&&◌, nat_lt, refl, bit_and}
use Rattle.jop_core.specs.declared.halt.Halt.TheVariants.{Running}
use Rattle.jop_core.specs.Operations.{number_of}
use Rattle.micro_flow.specs.Walk.{used}
use Rattle.microcode.specs.declared.addresses.TheConstants.{DIVIDE_SIGNS, DIVIDE_TURN, IDIV, IREM, LADD}
use Rattle.micro_sketch.specs.Sketch.{Sketch, exec, same_bool}

-- f on the way through a row, with nothing under way
abbrev pub at : (mpc ar : ℕ) → (left : ℕ → ℕ) → Sketch → (top next : ℕ) → (under above low : List ℕ) → (fine : Bool) → Sketch
at mpc ar left f top next under above low fine = record f {
  mpc = mpc;
  ar = ar;
  left = left;
  top = top;
  next = next;
  under = under;
  above = above;
  low = low;
  fine = fine;
  operand = 0;
  busy = false;
  halt = Running;
  loads = 0;
  words = 0;
  done = false;
}

-- the low bit of the dividend's part that is above place k
abbrev pub bit_at : (dividend k : ℕ) → ℕ
bit_at dividend k = bit_and (dividend / 2 ^ (k % 32)) 1

-- the remainder with that bit below it
abbrev pub grown : (dividend k r : ℕ) → ℕ
grown dividend k r = ((r + r) % 2 ^ 32 + bit_at dividend k) % 2 ^ 32

-- 1 where the divisor goes into the remainder, and else 0
abbrev pub goes_in : (r d : ℕ) → ℕ
goes_in r d = (1 + (2 ^ 32 - number_of (nat_lt r d))) % 2 ^ 32

abbrev pub taken_off : (r d t : ℕ) → ℕ
taken_off r d t = (r + (2 ^ 32 - (d * t) % 2 ^ 32)) % 2 ^ 32

abbrev pub lengthened : (q t : ℕ) → ℕ
lengthened q t = ((q + q) % 2 ^ 32 + t) % 2 ^ 32

abbrev pub less_one : ℕ → ℕ
less_one k = (k + (2 ^ 32 - 1)) % 2 ^ 32

pub again : (f : Sketch) (ar : ℕ) (left : ℕ → ℕ) (x y j1 j2 j3 a d r k q g h t : ℕ) (s js low : List ℕ) →
    exec 34 (true ∷ []) (at DIVIDE_TURN ar left f x y s (j1 ∷ j2 ∷ j3 ∷ js) (a ∷ d ∷ r ∷ k ∷ q ∷ g ∷ h ∷ t ∷ low) true) ≡
    (let r1 = grown a k r in let u = goes_in r1 d in
    at DIVIDE_TURN ar (used (DIVIDE_SIGNS - 1) left) f x y s (y ∷ x ∷ k ∷ js) (a ∷ d ∷ taken_off r1 d u ∷ less_one k ∷ lengthened q u ∷ g ∷ h ∷ u ∷ low) (nat_lt 0 (left (DIVIDE_SIGNS - 1)) && (same_bool true (nat_lt 0 k) && true)))
again f ar left x y j1 j2 j3 a d r k q g h t s js low = refl

pub leaves : (f : Sketch) (ar : ℕ) (left : ℕ → ℕ) (x y j1 j2 j3 a d r k q g h t : ℕ) (s js low : List ℕ) →
    exec 34 (false ∷ []) (at DIVIDE_TURN ar left f x y s (j1 ∷ j2 ∷ j3 ∷ js) (a ∷ d ∷ r ∷ k ∷ q ∷ g ∷ h ∷ t ∷ low) true) ≡
    (let r1 = grown a k r in let u = goes_in r1 d in
    at DIVIDE_SIGNS ar left f x y s (y ∷ x ∷ k ∷ js) (a ∷ d ∷ taken_off r1 d u ∷ less_one k ∷ lengthened q u ∷ g ∷ h ∷ u ∷ low) (same_bool false (nat_lt 0 k) && true))
leaves f ar left x y j1 j2 j3 a d r k q g h t s js low = refl

-- 1 or -1, as the sign of a word is
abbrev pub sign_of : ℕ → ℕ
sign_of w = (1 + (2 ^ 32 - (w / 2 ^ 31 + w / 2 ^ 31) % 2 ^ 32)) % 2 ^ 32

abbrev pub magnitude : ℕ → ℕ
magnitude w = (w * sign_of w) % 2 ^ 32

-- from the row of idiv to the loop, and from that of irem
pub from_idiv : (f : Sketch) (ar : ℕ) (left : ℕ → ℕ) (b a x y j l0 l1 l2 l3 l4 l5 l6 l7 : ℕ) (s js low : List ℕ) →
    exec 37 (false ∷ []) (at IDIV ar left f b a (x ∷ y ∷ s) (j ∷ js) (l0 ∷ l1 ∷ l2 ∷ l3 ∷ l4 ∷ l5 ∷ l6 ∷ l7 ∷ low) true) ≡
    at DIVIDE_TURN 4 left f x y s (y ∷ x ∷ 1 ∷ js) (magnitude a ∷ magnitude b ∷ 0 ∷ 31 ∷ 0 ∷ sign_of a ∷ sign_of b ∷ l7 ∷ low) (same_bool false (b == 0) && true)
from_idiv f ar left b a x y j l0 l1 l2 l3 l4 l5 l6 l7 s js low = refl

pub from_irem : (f : Sketch) (ar : ℕ) (left : ℕ → ℕ) (b a x y j l0 l1 l2 l3 l4 l5 l6 l7 : ℕ) (s js low : List ℕ) →
    exec 36 (false ∷ []) (at IREM ar left f b a (x ∷ y ∷ s) (j ∷ js) (l0 ∷ l1 ∷ l2 ∷ l3 ∷ l4 ∷ l5 ∷ l6 ∷ l7 ∷ low) true) ≡
    at DIVIDE_TURN 2 left f x y s (y ∷ x ∷ 1 ∷ js) (magnitude a ∷ magnitude b ∷ 0 ∷ 31 ∷ 0 ∷ sign_of a ∷ sign_of b ∷ l7 ∷ low) (same_bool false (b == 0) && true)
from_irem f ar left b a x y j l0 l1 l2 l3 l4 l5 l6 l7 s js low = refl

-- from the loop to the load of the result
pub signed : (f : Sketch) (ar : ℕ) (left : ℕ → ℕ) (x y j1 j2 a d r k q g h t : ℕ) (s js low : List ℕ) →
    exec 10 [] (at DIVIDE_SIGNS ar left f x y s (j1 ∷ j2 ∷ js) (a ∷ d ∷ r ∷ k ∷ q ∷ g ∷ h ∷ t ∷ low) true) ≡
    at (LADD - 1) ar left f x y s (y ∷ x ∷ js) (a ∷ d ∷ (r * g) % 2 ^ 32 ∷ k ∷ ((q * g) % 2 ^ 32 * h) % 2 ^ 32 ∷ g ∷ h ∷ t ∷ low) true
signed f ar left x y j1 j2 a d r k q g h t s js low = refl
