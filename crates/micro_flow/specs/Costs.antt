-- What the prices of a row come to, and what holds of the costs.
use Rattle.std.specs.Prelude.{ℕ, ◌+◌, ◌*◌, ◌^◌, ◌≤◌, ◌<◌, nat_lt, if◌then◌else◌}
use Rattle.micro_flow.specs.declared.CostParams.{CostParams}
use Rattle.micro_flow.specs.declared.price.Price.{Price}
use Rattle.micro_flow.specs.declared.price.RowCost.{RowCost}
use Rattle.micro_flow.specs.Walk.{times_of, IsCost, IsRaiseCost}

abbrev pub worth : CostParams → Price → ℕ
worth p f = f.fixed + f.reads * p.r + f.writes * p.w

abbrev pub larger : ℕ → ℕ → ℕ
larger a b = if nat_lt a b then b else a

-- the larger of two prices, and that of each turn
abbrev pub total : CostParams → RowCost → ℕ
total p c = larger (worth p c.one) (worth p c.other) + times_of p c.turns * worth p c.turn

-- invokevirtual, invokespecial, invokestatic and invokeinterface are 182 to 185
pub record IsInvoke (op : ℕ) : Type 0 where
  pub from : 182 ≤ op
  pub to : op ≤ 185

-- n is the cost of one of the invokes, and that of none of them is larger
pub record IsGreatestInvoke (p : CostParams) (n : ℕ) : Type 0 where
  pub op : ℕ
  pub invoke : IsInvoke op
  pub is : IsCost op p n
  pub greatest : (other c : ℕ) → IsInvoke other → IsCost other p c → c ≤ n

-- the waits of a machine's memory, and the pairs and entries that its code can have
pub record AreInRange (p : CostParams) : Type 0 where
  pub r : p.r ≤ 63
  pub w : p.w ≤ 63
  pub pairs : p.pairs < 2 ^ 32
  pub entries : p.entries < 2 ^ 32

-- a cost of the opcode that isn't large
pub record SmallCost (p : CostParams) (op : ℕ) : Type 0 where
  pub cycles : ℕ
  pub is : IsCost op p cycles
  pub small : cycles < 2 ^ 61

-- a cost of a step of the raise routine that isn't large
pub record SmallRaiseCost (p : CostParams) : Type 0 where
  pub cycles : ℕ
  pub is : IsRaiseCost p cycles
  pub small : cycles < 2 ^ 61

-- each opcode has a cost, which isn't large
abbrev pub CostsAreSmall : Type 0
CostsAreSmall = (p : CostParams) → AreInRange p → (op : ℕ) → SmallCost p op

-- so has a step of the raise routine
abbrev pub RaiseIsSmall : Type 0
RaiseIsSmall = (p : CostParams) → AreInRange p → SmallRaiseCost p
