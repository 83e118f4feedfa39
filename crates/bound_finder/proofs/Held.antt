-- Whether a charged loop has a node is the same under the other numbers of nodes.
use Rattle.std.proofs.Common.{◌≡◌, ℕ, zero, suc, ◌<◌, ◌&&◌, Bool, true, false, List, [], ◌∷◌, length, map, get_or, replicate, Contains, refl, sym, ap, ap₂, ◌∙◌, subst, arith}
use Rattle.std.specs.Prelude.{slice_index, slice_index_or, if◌then◌else◌}
use Rattle.std.proofs.lemmas.List.{get_or-replicate, length-replicate}
use Rattle.lists.specs.Members.{map_contains}
use Rattle.lists.specs.Tests.{and_left, and_right}
use Rattle.loop_nest.specs.Nest.{NaturalLoop, members_at}
use Rattle.loop_nest.proofs.Elements.{from_map}
use Rattle.section_check.specs.Bounded.{holds}
use Rattle.section_check.proofs.Elements.{contains_from_holds, holds_from_contains}
use Rattle.path_solver.specs.Reaching.{IsFlagged}
use Rattle.bound_rules.specs.Numbers.{is_in_charged}
use Rattle.compact_walks.specs.Charging.{IsInFlagged, AreHeld}
use Rattle.compact_walks.specs.Moving.{moved_nest}
use Rattle.bound_finder.specs.declared.shape.Shape.{Shape}
use Rattle.bound_finder.specs.Prepared.{AreWithout, nest_of}

-- a flagged loop of the nest has a node of this other number
abbrev IsHeldAt : (ℕ → ℕ) → List NaturalLoop → List Bool → ℕ → Type 0
IsHeldAt node ls flags x = (u : ℕ) × IsInFlagged ls flags u × (node u ≡ x)

no_flag : (k : ℕ) → IsFlagged [] k → ⊥
no_flag k flagged = let e : false ≡ true = flagged in cc

later_held : (node : ℕ → ℕ) (l : NaturalLoop) (ls : List NaturalLoop) (f : Bool) (fs : List Bool) (x : ℕ) → IsHeldAt node ls fs x → IsHeldAt node (l ∷ ls) (f ∷ fs) x
later_held node l ls f fs x h = let i = h.1 in let lt = i.below in (h.0, record { index = suc i.index; below = omega arith; flagged = i.flagged; inside = i.inside }, h.2)

held_first : (node : ℕ → ℕ) (l : NaturalLoop) (ls : List NaturalLoop) (f : Bool) (fs : List Bool) (x : ℕ) (b : Bool) → (f && holds (map node l.members) x) ≡ b
    → (is_in_charged (moved_nest node ls) fs x ≡ true → IsHeldAt node ls fs x) → (if b then true else is_in_charged (moved_nest node ls) fs x) ≡ true → IsHeldAt node (l ∷ ls) (f ∷ fs) x
held_first node l ls f fs x true here rest e =
    let r = from_map node l.members x (contains_from_holds (map node l.members) x (and_right f (holds (map node l.members) x) here)) in
    (r.0, record { index = 0; below = omega arith; flagged = and_left f (holds (map node l.members) x) here; inside = r.1 }, r.2)
held_first node l ls f fs x false here rest e = later_held node l ls f fs x (rest e)

held_out : (node : ℕ → ℕ) (ls : List NaturalLoop) (flags : List Bool) (x : ℕ) → is_in_charged (moved_nest node ls) flags x ≡ true → IsHeldAt node ls flags x
held_out node [] flags x e = absurd (let f : false ≡ true = e in cc)
held_out node (l ∷ ls) [] x e = absurd (let f : false ≡ true = e in cc)
held_out node (l ∷ ls) (f ∷ fs) x e = held_first node l ls f fs x (f && holds (map node l.members) x) refl (held_out node ls fs x) e

either_true : (b r : Bool) → r ≡ true → (if b then true else r) ≡ true
either_true true r e = refl
either_true false r e = e

first_true : (b r : Bool) → b ≡ true → (if b then true else r) ≡ true
first_true true r e = refl
first_true false r e = absurd (let f : false ≡ true = e in cc)

held_at : (node : ℕ → ℕ) (ls : List NaturalLoop) (flags : List Bool) (u k : ℕ) → k < length ls → IsFlagged flags k → Contains (members_at ls k) u → is_in_charged (moved_nest node ls) flags (node u) ≡ true
held_at node [] flags u k lt flagged inside = absurd (omega arith)
held_at node (l ∷ ls) [] u k lt flagged inside = absurd (no_flag k flagged)
held_at node (l ∷ ls) (f ∷ fs) u zero lt flagged inside =
    first_true (f && holds (map node l.members) (node u)) (is_in_charged (moved_nest node ls) fs (node u))
    (ap₂ (λ (a b : Bool). a && b) flagged (holds_from_contains (map node l.members) (node u) (map_contains node l.members u inside)))
held_at node (l ∷ ls) (f ∷ fs) u (suc k) lt flagged inside =
    either_true (f && holds (map node l.members) (node u)) (is_in_charged (moved_nest node ls) fs (node u)) (held_at node ls fs u k (omega arith) flagged inside)

held_back : (node : ℕ → ℕ) (ls : List NaturalLoop) (flags : List Bool) (x : ℕ) → IsHeldAt node ls flags x → is_in_charged (moved_nest node ls) flags x ≡ true
held_back node ls flags x h = let i = h.1 in subst (λ (y : ℕ). is_in_charged (moved_nest node ls) flags y ≡ true) h.2 (held_at node ls flags h.0 i.index i.below i.flagged i.inside)

same_test : (a b : Bool) → (a ≡ true → b ≡ true) → (b ≡ true → a ≡ true) → a ≡ b
same_test true b f g = sym (f refl)
same_test false true f g = g refl
same_test false false f g = refl

-- where nothing is loaded again
pub without_all : (s : Shape) (flags without : List Bool) → without ≡ replicate s.size true → AreWithout true s flags without
without_all s flags without are = record {
  long = ap length are ∙ length-replicate s.size true;
  each = λ x lt. ap (λ (bs : List Bool). get_or bs x false) are ∙ get_or-replicate s.size x true false lt;
}

-- where that is so in charged loops
pub without_charged : (s : Shape) (flags without : List Bool) → AreHeld (slice_index s.nodes) s.nest flags s.size without → AreWithout false s flags without
without_charged s flags without held = record {
  long = held.long;
  each = λ x lt. same_test (slice_index_or without x false) (is_in_charged (nest_of s) flags x)
      (λ f. held_back (slice_index s.nodes) s.nest flags x ((held.each x).0 f)) (λ e. (held.each x).1 (held_out (slice_index s.nodes) s.nest flags x e));
}
