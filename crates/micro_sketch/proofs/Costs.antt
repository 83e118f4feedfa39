-- No run from an entry to a boundary takes more than the cost and the stalls of its loads.
use Rattle.std.proofs.Common.{ℕ, ◌+◌, ◌≤◌, refl, sym, ◌∙◌, arith, slice_index}
use Rattle.microcode.specs.declared.TheConstants.{ENTRIES, RAISE}
use Rattle.micro_flow.specs.declared.CostParams.{CostParams}
use Rattle.micro_flow.specs.Walk.{begin, IsGreatestTime, IsCost, IsRaiseCost}
use Rattle.micro_sketch.specs.Sketch.{Sketch}
use Rattle.micro_sketch.specs.Laws.{StartsAt, AtEntry}
use Rattle.micro_sketch.specs.Stands.{Env, Reaches, IsDone, stalls}

pub within_greatest : (p : CostParams) (address c n : ℕ) (x y : Sketch) (e : Env) → StartsAt p address x e → (r : Reaches n x y e) → IsDone y → IsGreatestTime p address c → r.cycles ≤ c + stalls y p.r
within_greatest p address c n x y e a r d k =
    let s = begin p address in
    let w = r.way p a.read a.write s (record { at = λ _. a.at; port = sym a.idle; left = a.turns; over = sym a.going; fine = refl }) in
    let g = k.greatest w.choices (record { fine = w.tells.fine; over = w.tells.over ∙ d.done }) in
    let ck = w.clock in let none = a.none in omega arith

pub within_cost : (p : CostParams) (op c n : ℕ) (x y : Sketch) (e : Env) → AtEntry p op x e → (r : Reaches n x y e) → IsDone y → IsCost op p c → r.cycles ≤ c + stalls y p.r
within_cost p op c n x y e a r d k = within_greatest p (slice_index ENTRIES op) c n x y e a r d k

pub within_raise_cost : (p : CostParams) (c n : ℕ) (x y : Sketch) (e : Env) → StartsAt p RAISE x e → (r : Reaches n x y e) → IsDone y → IsRaiseCost p c → r.cycles ≤ c + stalls y p.r
within_raise_cost p c n x y e a r d k = within_greatest p RAISE c n x y e a r d k
