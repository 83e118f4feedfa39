use Rattle.std.proofs.Common.{◌≡◌, ◌↔◌, ℕ, true, false, Contains, get_or, map, take}
use Rattle.loop_nest.specs.Entered.{class_of, edge_at, IsEnteredAs}
use Rattle.loop_nest.specs.Pointers.{AreFollowed, KeepsMarks}
use Rattle.loop_nest.proofs.Scanning.{HoldsOfSource}
use Rattle.loop_nest.proofs.passes.scan.Given as goal

abbrev pub invariant-loop-number : goal.invariant-loop-number
invariant-loop-number l = record {
  entered : (c : ℕ → ℕ) → AreFollowed c l.into → IsEnteredAs (map (edge_at l.edges) (take l.number-index l.numbers)) c l.x l.entered;
  marked : (c : ℕ → ℕ) → AreFollowed c l.into → (i : ℕ) → Contains (take l.number-index l.numbers) i → (get_or l.back i false ≡ true) ↔ (c (edge_at l.edges i).0 ≡ l.x);
  left : HoldsOfSource (λ p. class_of l.into p ≡ p) l.entered;
  kept : KeepsMarks l.edges l.x l.fn.back l.back;
}
