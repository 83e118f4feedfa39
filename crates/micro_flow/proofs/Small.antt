-- No opcode costs too much to count.
use Rattle.std.proofs.Common.{◌≡◌, ℕ, zero, suc, ◌+◌, ◌*◌, ◌^◌, ◌<◌, ◌≤◌, ◌&&◌, Bool, true, false, nat_lt, if◌then◌else◌, List, [], ◌∷◌, length, slice_get, get_or, Some, refl, sym, subst, arith, ltb-true, ltb-false, mul-le-mul_left}
use Rattle.microcode.specs.declared.isa.Turns.{Turns}
use Rattle.microcode.specs.declared.isa.Turns.TheVariants.{Count, PerPair, PerEntry}
use Rattle.microcode.specs.declared.TheConstants.{ENTRIES}
use Rattle.micro_flow.specs.declared.CostParams.{CostParams}
use Rattle.micro_flow.specs.declared.price.Price.{Price}
use Rattle.micro_flow.specs.declared.price.RowCost.{RowCost}
use Rattle.micro_flow.specs.declared.table.TheConstants.{COSTS}
use Rattle.micro_flow.specs.declared.table.TheConstants as table
use Rattle.micro_flow.specs.Walk.{IsGreatestTime, times_of}
use Rattle.micro_flow.specs.Costs.{worth, larger, total, AreInRange, SmallCost, CostsAreSmall, RaiseIsSmall}
use Rattle.micro_flow.proofs.Prices.{first, second}
use Rattle.micro_flow.proofs.Rows.{opcode_costs, raise_costs}

-- the worth of a price at the longest waits
abbrev pub most_of : Price → ℕ
most_of f = f.fixed + f.reads * 63 + f.writes * 63

abbrev pub few_turns : Turns → Bool
few_turns (Count n) = nat_lt n (2 ^ 32)
few_turns PerPair = true
few_turns PerEntry = true

abbrev pub is_small : RowCost → Bool
is_small row = nat_lt (most_of row.one) (2 ^ 20) && (nat_lt (most_of row.other) (2 ^ 20) && (nat_lt (most_of row.turn) (2 ^ 20) && few_turns row.turns))

abbrev pub all_small : List RowCost → Bool
all_small [] = true
all_small (row ∷ rows) = is_small row && all_small rows

-- a row of a table
pub record Found (rows : List RowCost) (k : ℕ) : Type 0 where
  pub row : RowCost
  pub found : slice_get rows k ≡ Some row

pub found_at : (rows : List RowCost) (k : ℕ) → k < length rows → Found rows k
found_at [] k below = absurd (omega arith)
found_at (row ∷ rows) zero below = record { row = row; found = refl }
found_at (row ∷ rows) (suc k) below = let later = found_at rows k (omega arith) in record { row = later.row; found = later.found }

small_at : (rows : List RowCost) (k : ℕ) (row : RowCost) → all_small rows ≡ true → slice_get rows k ≡ Some row → is_small row ≡ true
small_at [] k row h e = cc
small_at (r ∷ rows) zero row h e = let same : r ≡ row = cc in subst (λ (x : RowCost). is_small x ≡ true) same (first (is_small r) (all_small rows) h)
small_at (r ∷ rows) (suc k) row h e = small_at rows k row (second (is_small r) (all_small rows) h) e

worth_small : (p : CostParams) → AreInRange p → (f : Price) → nat_lt (most_of f) (2 ^ 20) ≡ true → worth p f < 2 ^ 20
worth_small p range f h = omega (arith, ltb-true (most_of f) (2 ^ 20) h, mul-le-mul_left f.reads range.r, mul-le-mul_left f.writes range.w)

times_small : (p : CostParams) → AreInRange p → (turns : Turns) → few_turns turns ≡ true → times_of p turns < 2 ^ 32
times_small p range (Count n) h = ltb-true n (2 ^ 32) h
times_small p range PerPair h = range.pairs
times_small p range PerEntry h = range.entries

larger_below : (a b c : ℕ) → a < c → b < c → larger a b < c
larger_below a b c h k = on (nat_lt a b)
  where
    on : (t : Bool) → (if t then b else a) < c
    on true = k
    on false = h

product_below : (a b : ℕ) → a < 2 ^ 32 → b < 2 ^ 20 → a * b < 2 ^ 60
product_below a b h k =
    let u : a * b ≤ a * 2 ^ 20 = mul-le-mul_left a (omega (arith, k)) in
    omega (arith, u, h)

total_small : (p : CostParams) → AreInRange p → (row : RowCost) → is_small row ≡ true → total p row < 2 ^ 61
total_small p range row h =
    let others = second (nat_lt (most_of row.one) (2 ^ 20)) _ h in
    let last = second (nat_lt (most_of row.other) (2 ^ 20)) _ others in
    let one = worth_small p range row.one (first (nat_lt (most_of row.one) (2 ^ 20)) _ h) in
    let other = worth_small p range row.other (first (nat_lt (most_of row.other) (2 ^ 20)) _ others) in
    let turn = worth_small p range row.turn (first (nat_lt (most_of row.turn) (2 ^ 20)) _ last) in
    let times = times_small p range row.turns (second (nat_lt (most_of row.turn) (2 ^ 20)) _ last) in
    omega (arith, larger_below (worth p row.one) (worth p row.other) (2 ^ 20) one other, product_below (times_of p row.turns) (worth p row.turn) times turn)

-- a byte's opcode
small_below : (p : CostParams) → AreInRange p → (op : ℕ) → op < 256 → SmallCost p op
small_below p range op below =
    let row = found_at COSTS op below in
    record { cycles = total p row.row; is = opcode_costs p (record { r = range.r; w = range.w }) op row.row row.found; small = total_small p range row.row (small_at COSTS op row.row refl row.found) }

past_all : (xs : List ℕ) (i : ℕ) → length xs ≤ i → get_or xs i 0 ≡ 0
past_all [] i past = refl
past_all (x ∷ xs) zero past = absurd (omega arith)
past_all (x ∷ xs) (suc i) past = past_all xs i (omega (arith, past))

pub costs_are_small : CostsAreSmall
costs_are_small p range op = by (nat_lt op 256) refl
  where
    by : (b : Bool) → nat_lt op 256 ≡ b → SmallCost p op
    by true e = small_below p range op (ltb-true op 256 e)
    by false e =
        let zero_cost = small_below p range 0 (omega arith) in
        record { cycles = zero_cost.cycles; is = subst (λ at. IsGreatestTime p at zero_cost.cycles) (sym (past_all ENTRIES op (ltb-false op 256 e))) zero_cost.is; small = zero_cost.small }

pub raise_is_small : RaiseIsSmall
raise_is_small p range = record { cycles = total p table.RAISE; is = raise_costs p (record { r = range.r; w = range.w }); small = total_small p range table.RAISE refl }
