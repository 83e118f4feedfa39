-- The costs keep their ceilings, and which of the invokes costs most.
use Rattle.std.proofs.Common.{◌≡◌, ℕ, zero, suc, ◌+◌, ◌*◌, ◌≤◌, ◌&&◌, Bool, true, false, nat_lt, if◌then◌else◌, List, [], ◌∷◌, Option, Some, None, slice_get, get_or, refl, sym, ap, ◌∙◌, subst, arith, mul-le-mul_left}
use Rattle.microcode.specs.declared.isa.Turns.{Turns}
use Rattle.microcode.specs.declared.isa.Turns.TheVariants.{Count, PerPair, PerEntry}
use Rattle.microcode.specs.declared.TheConstants.{ENTRIES, RAISE}
use Rattle.micro_flow.specs.declared.CostParams.{CostParams}
use Rattle.micro_flow.specs.declared.price.Price.{Price}
use Rattle.micro_flow.specs.declared.price.RowCost.{RowCost}
use Rattle.micro_flow.specs.declared.table.TheConstants.{COSTS}
use Rattle.micro_flow.specs.declared.table.TheConstants as table
use Rattle.micro_flow.specs.Walk.{IsGreatestTime, times_of}
use Rattle.micro_flow.specs.Costs.{worth, larger, total}
use Rattle.micro_flow.specs.Ceilings.{Ceiling, ceiling_of, raise_ceiling, allowed, Meets, Keeps, CostsKeepCeilings, RaiseKeepsCeiling}
use Rattle.micro_flow.proofs.Prices.{IsShort, plus, below, below_value, plus_value, first, second}
use Rattle.micro_flow.proofs.Upper.{cycles}
use Rattle.micro_flow.proofs.Cert.{same_price, same_value}
use Rattle.micro_flow.proofs.Rows.{opcode_costs, raise_costs}
use Rattle.micro_flow.proofs.Small.{found_at}

-- there is one greatest walk
pub greatest_is : (p : CostParams) (at n m : ℕ) → IsGreatestTime p at n → IsGreatestTime p at m → n ≡ m
greatest_is p at n m g h =
    let a = g.attained in let b = h.attained in
    let above = h.greatest a.choices a.ends in
    let under = g.greatest b.choices b.ends in
    let an = a.takes in let bm = b.takes in
    omega arith

-- so many times a price
abbrev pub scaled : ℕ → Price → Price
scaled n f = record { fixed = n * f.fixed; reads = n * f.reads; writes = n * f.writes }

abbrev pub none : Price → Bool
none f = same_price f (cycles 0)

-- The test that a row of the table keeps a ceiling.
abbrev pub turns_fit : RowCost → Ceiling → Turns → Bool
turns_fit row c (Count n) = below (plus row.one (scaled n row.turn)) c.base && below (plus row.other (scaled n row.turn)) c.base
turns_fit row c PerPair = below row.one c.base && (below row.other c.base && below row.turn c.each)
turns_fit row c PerEntry = below row.one c.base && (below row.other c.base && below row.turn c.each)

abbrev pub just : RowCost → Ceiling → Bool
just row c = same_price row.one c.base && (same_price row.other c.base && (none row.turn && none c.each))

abbrev pub is_kept : RowCost → Ceiling → Bool
is_kept row c = if c.exact then just row c else turns_fit row c row.turns

abbrev pub opcode_kept : RowCost → Option Ceiling → Bool
opcode_kept row None = true
opcode_kept row (Some c) = (elim row.turns [ PerEntry ↦ false | _ ↦ true ]) && is_kept row c

abbrev pub all_kept : (op : ℕ) → List RowCost → Bool
all_kept op [] = true
all_kept op (row ∷ rows) = opcode_kept row (ceiling_of op) && all_kept (op + 1) rows

scaled_value : (p : CostParams) (n : ℕ) (f : Price) → worth p (scaled n f) ≡ n * worth p f
scaled_value p n f = omega arith

larger_below : (a b c : ℕ) → a ≤ c → b ≤ c → larger a b ≤ c
larger_below a b c h k = by (nat_lt a b)
  where
    by : (t : Bool) → (if t then b else a) ≤ c
    by true = k
    by false = h

counted_fits : (p : CostParams) → IsShort p → (row : RowCost) (c : Ceiling) (n : ℕ) → turns_fit row c (Count n) ≡ true → larger (worth p row.one) (worth p row.other) + n * worth p row.turn ≤ worth p c.base
counted_fits p short row c n h =
    let t = n * worth p row.turn in
    let one = below_value p short (plus row.one (scaled n row.turn)) c.base (first (below (plus row.one (scaled n row.turn)) c.base) (below (plus row.other (scaled n row.turn)) c.base) h) in
    let other = below_value p short (plus row.other (scaled n row.turn)) c.base (second (below (plus row.one (scaled n row.turn)) c.base) (below (plus row.other (scaled n row.turn)) c.base) h) in
    sums (worth p row.one) (worth p row.other) t (worth p c.base)
    (sum_below (worth p row.one) (worth p (scaled n row.turn)) t (worth p c.base) (plus_value p row.one (scaled n row.turn)) (scaled_value p n row.turn) one)
    (sum_below (worth p row.other) (worth p (scaled n row.turn)) t (worth p c.base) (plus_value p row.other (scaled n row.turn)) (scaled_value p n row.turn) other)
  where
    sum_below : {whole : ℕ} (a s t base : ℕ) → whole ≡ a + s → s ≡ t → whole ≤ base → a + t ≤ base
    sum_below a s t base e d l = omega arith

    sums : (a b t base : ℕ) → a + t ≤ base → b + t ≤ base → larger a b + t ≤ base
    sums a b t base h k = by (nat_lt a b)
      where
        by : (u : Bool) → (if u then b else a) + t ≤ base
        by true = k
        by false = h

several_fit : (p : CostParams) → IsShort p → (row : RowCost) (c : Ceiling) (n : ℕ) → turns_fit row c PerPair ≡ true → larger (worth p row.one) (worth p row.other) + n * worth p row.turn ≤ worth p c.base + n * worth p c.each
several_fit p short row c n h =
    let k = second (below row.one c.base) (below row.other c.base && below row.turn c.each) h in
    let one = below_value p short row.one c.base (first (below row.one c.base) (below row.other c.base && below row.turn c.each) h) in
    let other = below_value p short row.other c.base (first (below row.other c.base) (below row.turn c.each) k) in
    let turn = below_value p short row.turn c.each (second (below row.other c.base) (below row.turn c.each) k) in
    omega (arith, larger_below (worth p row.one) (worth p row.other) (worth p c.base) one other, mul-le-mul_left n turn)

nothing : (p : CostParams) (f : Price) → none f ≡ true → worth p f ≡ 0
nothing p f h = same_value p f (cycles 0) h ∙ omega arith

is_just : (p : CostParams) (row : RowCost) (c : Ceiling) (times : ℕ) → just row c ≡ true → total p row ≡ allowed p times c
is_just p row c times h =
    let h1 = second (same_price row.one c.base) (same_price row.other c.base && (none row.turn && none c.each)) h in
    let h2 = second (same_price row.other c.base) (none row.turn && none c.each) h1 in
    let one = same_value p row.one c.base (first (same_price row.one c.base) (same_price row.other c.base && (none row.turn && none c.each)) h) in
    let other = same_value p row.other c.base (first (same_price row.other c.base) (none row.turn && none c.each) h1) in
    let turn = nothing p row.turn (first (none row.turn) (none c.each) h2) in
    let each = nothing p c.each (second (none row.turn) (none c.each) h2) in
    ap (λ n. larger n (worth p row.other) + times_of p row.turns * worth p row.turn) one
    ∙ ap (λ n. larger (worth p c.base) n + times_of p row.turns * worth p row.turn) other
    ∙ ap (λ n. larger (worth p c.base) (worth p c.base) + times_of p row.turns * n) turn
    ∙ same (worth p c.base) (times_of p row.turns) times
    ∙ ap (λ n. worth p c.base + times * n) (sym each)
  where
    same : (a t u : ℕ) → larger a a + t * 0 ≡ a + u * 0
    same a t u = by (nat_lt a a)
      where
        by : (b : Bool) → (if b then a else a) + t * 0 ≡ a + u * 0
        by true = omega arith
        by false = omega arith

-- what a ceiling counts is what the turns of a row go by
abbrev pub Counts : CostParams → (times : ℕ) → Turns → Type 0
Counts p times (Count n) = Unit {0}
Counts p times PerPair = times ≡ p.pairs
Counts p times PerEntry = times ≡ p.entries

at_most : (p : CostParams) → IsShort p → (row : RowCost) (c : Ceiling) (times : ℕ) (turns : Turns) → Counts p times turns → turns_fit row c turns ≡ true → larger (worth p row.one) (worth p row.other) + times_of p turns * worth p row.turn ≤ allowed p times c
at_most p short row c times (Count n) same h = omega (arith, counted_fits p short row c n h)
at_most p short row c times PerPair same h = subst (λ n. larger (worth p row.one) (worth p row.other) + n * worth p row.turn ≤ allowed p times c) same (several_fit p short row c times h)
at_most p short row c times PerEntry same h = subst (λ n. larger (worth p row.one) (worth p row.other) + n * worth p row.turn ≤ allowed p times c) same (several_fit p short row c times h)

kept : (p : CostParams) → IsShort p → (row : RowCost) (c : Ceiling) (times : ℕ) → Counts p times row.turns → is_kept row c ≡ true → Keeps p times (total p row) (Some c)
kept p short row c times same h = by c.exact h
  where
    by : (b : Bool) → (if b then just row c else turns_fit row c row.turns) ≡ true → Meets b (total p row) (allowed p times c)
    by true k = is_just p row c times k
    by false k = at_most p short row c times row.turns same k

opcode_keeps : (p : CostParams) → IsShort p → (row : RowCost) (o : Option Ceiling) → opcode_kept row o ≡ true → Keeps p p.pairs (total p row) o
opcode_keeps p short row None h = tt
opcode_keeps p short row (Some c) h =
    let pairs : Bool = elim row.turns [ PerEntry ↦ false | _ ↦ true ] in
    kept p short row c p.pairs (by row.turns (first pairs (is_kept row c) h)) (second pairs (is_kept row c) h)
  where
    by : (turns : Turns) → (elim turns [ PerEntry ↦ false | _ ↦ true ]) ≡ true → Counts p p.pairs turns
    by (Count n) k = tt
    by PerPair k = refl
    by PerEntry k = cc

kept_at : (p : CostParams) → IsShort p → (op : ℕ) (rows : List RowCost) → all_kept op rows ≡ true → (k : ℕ) (row : RowCost) → slice_get rows k ≡ Some row → Keeps p p.pairs (total p row) (ceiling_of (op + k))
kept_at p short op [] h k row e = cc
kept_at p short op (r ∷ rows) h zero row e =
    let same : r ≡ row = cc in
    let here : op ≡ op + 0 = omega arith in
    subst (λ i. Keeps p p.pairs (total p row) (ceiling_of i)) here
    (subst (λ (x : RowCost). Keeps p p.pairs (total p x) (ceiling_of op)) same (opcode_keeps p short r (ceiling_of op) (first (opcode_kept r (ceiling_of op)) (all_kept (op + 1) rows) h)))
kept_at p short op (r ∷ rows) h (suc k) row e =
    let here : op + 1 + k ≡ op + suc k = omega arith in
    subst (λ i. Keeps p p.pairs (total p row) (ceiling_of i)) here (kept_at p short (op + 1) rows (second (opcode_kept r (ceiling_of op)) (all_kept (op + 1) rows) h) k row e)

pub costs_keep_ceilings : CostsKeepCeilings
costs_keep_ceilings p op n r w below cost =
    let short : IsShort p = record { r = r; w = w } in
    let row = found_at COSTS op below in
    let here : 0 + op ≡ op = omega arith in
    let same = greatest_is p (get_or ENTRIES op 0) (total p row.row) n (opcode_costs p short op row.row row.found) cost in
    subst (λ i. Keeps p p.pairs i (ceiling_of op)) same (subst (λ k. Keeps p p.pairs (total p row.row) (ceiling_of k)) here (kept_at p short 0 COSTS refl op row.row row.found))

pub raise_keeps_ceiling : RaiseKeepsCeiling
raise_keeps_ceiling p n r w cost =
    let short : IsShort p = record { r = r; w = w } in
    let same = greatest_is p RAISE (total p table.RAISE) n (raise_costs p short) cost in
    subst (λ i. Keeps p p.entries i (Some raise_ceiling)) same (kept p short table.RAISE raise_ceiling p.entries refl refl)
