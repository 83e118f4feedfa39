-- That own costs and what is added to them are told by the program.
use Rattle.std.proofs.Common.{◌≡◌, ℕ, List, [], ◌∷◌, length, Contains, Option, Some, None, refl, ap₂, IsSomeAnd, arith, true}
use Rattle.std.specs.Option.{option_map_or}
use Rattle.lists.specs.Members.{at_head, in_tail, nil_contains}
use Rattle.micro_flow.specs.declared.CostParams.{CostParams}
use Rattle.micro_flow.specs.Walk.{IsGreatestTime, IsCost, IsRaiseCost}
use Rattle.opcodes.specs.Bytes.{u1}
use Rattle.bytecode_model.specs.Program.{Program, body_of, instr_at}
use Rattle.bytecode_model.specs.Rows as rows
use Rattle.bytecode_model.specs.Rows.{Row}
use Rattle.bytecode_model.specs.Steps.{row_in}
use Rattle.bytecode_model.specs.WellFormed.{is_call}
use Rattle.method_flow.specs.Nodes.{Node, At, RaiseAt}
use Rattle.method_flow.specs.Calls.{targets_of_row, IsTarget, IsCall}
use Rattle.method_flow.specs.declared.timing.Timing.{Timing}
use Rattle.method_flow.specs.Costs.{params, IsOwnCost}
use Rattle.bound_rules.specs.Costs.{greater, greatest_of}

-- what holds of the value of a partial result, one fact and another
pub both_hold : {X : Type 0} (o : Option X) (K L : X → Type 0) → IsSomeAnd o K → IsSomeAnd o L → (x : X) × (o ≡ Some x) × K x × L x
both_hold None K L k l = absurd k
both_hold (Some x) K L k l = (x, refl, k, l)

pub same_greatest : (p : CostParams) (at a b : ℕ) → IsGreatestTime p at a → IsGreatestTime p at b → a ≡ b
same_greatest p at a b x y =
    let up = x.greatest y.attained.choices y.attained.ends in
    let down = y.greatest x.attained.choices x.attained.ends in
    omega (arith, up, down, x.attained.takes, y.attained.takes)

pub same_own : (P : Program) (t : Timing) (m : ℕ) (u : Node) (a b : ℕ) → IsOwnCost P t m u a → IsOwnCost P t m u b → a ≡ b
same_own P t m (At p) a b x y =
    let body = both_hold (body_of P m) (λ c. IsSomeAnd (instr_at P m p) (λ i. IsCost (u1 c.code p) (params t i.count 0) a)) (λ c. IsSomeAnd (instr_at P m p) (λ i. IsCost (u1 c.code p) (params t i.count 0) b)) x y in
    let instr = both_hold (instr_at P m p) (λ i. IsCost (u1 body.0.code p) (params t i.count 0) a) (λ i. IsCost (u1 body.0.code p) (params t i.count 0) b) body.2 body.3 in
    same_greatest (params t instr.0.count 0) _ a b instr.2 instr.3
same_own P t m (RaiseAt p) a b x y =
    let body = both_hold (body_of P m) (λ c. IsRaiseCost (params t 0 (length c.handlers)) a) (λ c. IsRaiseCost (params t 0 (length c.handlers)) b) x y in
    same_greatest (params t 0 (length body.0.handlers)) _ a b body.2 body.3

-- the greatest of equal values
pub same_of_each : (f g : ℕ → Option ℕ) (xs : List ℕ) → ((x : ℕ) → Contains xs x → f x ≡ g x) → greatest_of f xs ≡ greatest_of g xs
same_of_each f g [] each = refl
same_of_each f g (x ∷ xs) each = ap₂ (λ (a b : Option ℕ). greater a b) (each x (at_head x xs)) (same_of_each f g xs (λ y c. each y (in_tail x y xs c)))

-- only an invoke has targets
row_calls : (P : Program) (r : Row) (x : ℕ) → Contains (targets_of_row P r) x → is_call r ≡ true
row_calls P (rows.CallStatic m) x has = refl
row_calls P (rows.CallSpecial named m) x has = refl
row_calls P (rows.CallVirtual named m) x has = refl
row_calls P (rows.CallInterface named m) x has = refl
row_calls P r x has = absurd (nil_contains x has)

pub target_calls : (P : Program) (m p x : ℕ) → IsTarget P m p x → IsCall P m p
target_calls P m p x target = by (row_in P m p) target
  where
    by : (o : Option (ℕ × Row)) → Contains (option_map_or (λ y. targets_of_row P y.1) o []) x → IsSomeAnd o (λ y. is_call y.1 ≡ true)
    by None has = absurd (nil_contains x has)
    by (Some y) has = row_calls P y.1 x has
