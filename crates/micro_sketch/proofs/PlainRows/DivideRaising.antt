-- From the rows of idiv and irem to the raise routine.
use Rattle.std.proofs.Common.{◌≡◌, ℕ, ◌+◌, ◌%◌, ◌^◌, ◌==◌, List, [], ◌∷◌, Bool, true, ◌&&◌, get_or, slice_set, refl}
use Rattle.microcode.specs.declared.TheConstants.{RAISE}
use Rattle.microcode.specs.declared.addresses.TheConstants.{IDIV, IREM}
use Rattle.micro_sketch.specs.Sketch.{Sketch, exec, same_bool}
use Rattle.micro_sketch.proofs.PlainRows.DivideTurn.{at}

-- f where the object was raised: its place is at place 31
abbrev pub raising : (ar : ℕ) → (left : ℕ → ℕ) → Sketch → (a b x y : ℕ) → (s js : List ℕ) → (l2 l3 l4 l5 l6 l7 : ℕ) → (low : List ℕ) → (fine : Bool) → Sketch
raising ar left f a b x y s js l2 l3 l4 l5 l6 l7 low fine =
    let object = get_or f.memory ((0 + get_or low 22 0) % 2 ^ 32) 0 in
    record (at RAISE ar left f x y s (y ∷ x ∷ js) (a ∷ b ∷ l2 ∷ l3 ∷ l4 ∷ l5 ∷ l6 ∷ l7 ∷ slice_set low 23 object) fine) { value = object; done = true }

pub idiv_raises : (f : Sketch) (ar : ℕ) (left : ℕ → ℕ) (b a x y j l0 l1 l2 l3 l4 l5 l6 l7 : ℕ) (s js low : List ℕ) →
    exec 15 (true ∷ []) (at IDIV ar left f b a (x ∷ y ∷ s) (j ∷ js) (l0 ∷ l1 ∷ l2 ∷ l3 ∷ l4 ∷ l5 ∷ l6 ∷ l7 ∷ low) true) ≡
    raising 4 left f a b x y s (a ∷ js) l2 l3 l4 l5 l6 l7 low (same_bool true (b == 0) && true)
idiv_raises f ar left b a x y j l0 l1 l2 l3 l4 l5 l6 l7 s js low = refl

pub irem_raises : (f : Sketch) (ar : ℕ) (left : ℕ → ℕ) (b a x y j l0 l1 l2 l3 l4 l5 l6 l7 : ℕ) (s js low : List ℕ) →
    exec 14 (true ∷ []) (at IREM ar left f b a (x ∷ y ∷ s) (j ∷ js) (l0 ∷ l1 ∷ l2 ∷ l3 ∷ l4 ∷ l5 ∷ l6 ∷ l7 ∷ low) true) ≡
    raising 2 left f a b x y s (a ∷ js) l2 l3 l4 l5 l6 l7 low (same_bool true (b == 0) && true)
irem_raises f ar left b a x y j l0 l1 l2 l3 l4 l5 l6 l7 s js low = refl
