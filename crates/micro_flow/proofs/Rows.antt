-- The prices of the table are the greatest walks of the rows.
use Rattle.std.proofs.Common.{◌≡◌, ℕ, suc, zero, ◌+◌, ◌-◌, ◌++◌, ◌*◌, Bool, true, false, ◌==◌, ◌&&◌, if◌then◌else◌, List, [], ◌∷◌, Some, slice_get, get_or, refl, sym, ap, ◌∙◌, subst, eqb-true}
use Rattle.microcode.specs.declared.isa.Turns.{Turns}
use Rattle.microcode.specs.declared.isa.Turns.TheVariants.{Count, PerPair, PerEntry}
use Rattle.microcode.specs.declared.TheConstants.{WORDS, ENTRIES, RAISE}
use Rattle.microcode.specs.declared.addresses.TheConstants.{DIVIDE_TURN, DIVIDE_SIGNS, LOOKUP_TURN, LOOKUP_HIT, HANDLER_TURN, HANDLER_FOUND}
use Rattle.micro_flow.specs.declared.CostParams.{CostParams}
use Rattle.micro_flow.specs.declared.price.Price.{Price}
use Rattle.micro_flow.specs.declared.price.RowCost.{RowCost}
use Rattle.micro_flow.specs.declared.table.TheConstants.{COSTS}
use Rattle.micro_flow.specs.declared.table.TheConstants as table
use Rattle.micro_flow.specs.Walk.{IsGreatestTime, IsCost, IsRaiseCost, turns_at, times_of}
use Rattle.micro_flow.specs.Costs.{worth, larger, total}
use Rattle.micro_flow.proofs.Prices.{IsShort, all_below, raised, first, second}
use Rattle.micro_flow.proofs.Upper.{cycles, look, Keeps, told}
use Rattle.micro_flow.proofs.Cert.{Plan, Priced, Good, solved, all_prices, all_ways, turn_ok, same_price, same_value, larger_none, good_greatest}

-- the walk that goes straight on for so many words
abbrev pub on : (words : ℕ) → List Bool
on zero = []
on (suc words) = false ∷ on words

-- No loop: its branch lies at no address, and the header is where the row begins.
abbrev pub no_loop : (entry : ℕ) → Plan
no_loop entry = record { loop = record { branch = 2048; gain = cycles 0 }; header = entry; exit = cycles 0; turn = []; after = 2048 }

abbrev pub division : Plan
division = record { loop = record { branch = DIVIDE_SIGNS - 1; gain = cycles 36 }; header = DIVIDE_TURN; exit = cycles 45; turn = on 33 ++ (true ∷ []); after = 45 }

abbrev pub search : Plan
search = record { loop = record { branch = LOOKUP_HIT - 1; gain = cycles 21 }; header = LOOKUP_TURN; exit = cycles 22; turn = on 19; after = 20 }

abbrev pub handlers : Plan
handlers = record { loop = record { branch = HANDLER_FOUND - 1; gain = record { fixed = 58; reads = 3; writes = 0 } }; header = HANDLER_TURN; exit = record { fixed = 80; reads = 5; writes = 0 }; turn = on 56; after = 78 }

-- what is known of each address, for rows without a loop and for those with each loop
abbrev pub straight : List (List Priced)
straight = solved (no_loop 0) 0 WORDS

abbrev pub dividing : List (List Priced)
dividing = solved division 0 WORDS

abbrev pub searching : List (List Priced)
searching = solved search 0 WORDS

abbrev pub raising : List (List Priced)
raising = solved handlers 0 WORDS

pub straight_keeps : Keeps (all_prices straight) (no_loop 0).loop
straight_keeps = refl

pub dividing_keeps : Keeps (all_prices dividing) division.loop
dividing_keeps = refl

pub searching_keeps : Keeps (all_prices searching) search.loop
searching_keeps = refl

pub raising_keeps : Keeps (all_prices raising) handlers.loop
raising_keeps = refl

-- the prices of a row, on the plan of its loop
abbrev pub prices : RowCost → List Price
prices row = row.one ∷ row.other ∷ []

-- the test of what a table says of an address
abbrev pub is_good : Plan → List (List Priced) → (entry : ℕ) → RowCost → Bool
is_good c table entry row =
    told (look (all_prices table) entry) && (all_below (look (all_prices table) entry) (raised c.loop.gain (prices row)) && (all_ways c entry (prices row) (get_or table entry []) && (turn_ok c && same_price row.turn c.loop.gain)))

abbrev pub entry_ok : (entry : ℕ) → RowCost → Bool
entry_ok entry row =
    elim row.turns [
      | Count n ↦ if n == 0 then is_good (no_loop entry) straight entry row else (n == 31 && is_good division dividing entry row)
      | PerPair ↦ is_good search searching entry row
      | PerEntry ↦ is_good handlers raising entry row
    ]

-- each opcode's row costs what the table says
abbrev pub all_priced : List ℕ → List RowCost → Bool
all_priced [] [] = true
all_priced [] (cost ∷ costs) = false
all_priced (entry ∷ entries) [] = false
all_priced (entry ∷ entries) (cost ∷ costs) = entry_ok entry cost && all_priced entries costs

good_costs : (p : CostParams) → IsShort p → (c : Plan) (table : List (List Priced)) (entry : ℕ) (row : RowCost) (turns : ℕ) → Keeps (all_prices table) c.loop → is_good c table entry row ≡ true → turns ≡ turns_at p c.loop.branch
    → IsGreatestTime p entry (larger (worth p row.one) (worth p row.other) + turns * worth p row.turn)
good_costs p short c table entry row turns keeps h t =
    let known = told (look (all_prices table) entry) in
    let below = all_below (look (all_prices table) entry) (raised c.loop.gain (prices row)) in
    let ways = all_ways c entry (prices row) (get_or table entry []) in
    let turn = turn_ok c in
    let gains = same_price row.turn c.loop.gain in
    let h1 = second known (below && (ways && (turn && gains))) h in
    let h2 = second below (ways && (turn && gains)) h1 in
    let h3 = second ways (turn && gains) h2 in
    let good : Good c table entry (prices row) = record { known = first known (below && (ways && (turn && gains))) h; prices = first below (ways && (turn && gains)) h1; ways = first ways (turn && gains) h2; turn = first turn gains h3 } in
    let g = good_greatest p short c table entry row.one (row.other ∷ []) keeps good in
    subst (λ n. IsGreatestTime p entry (larger (worth p row.one) (worth p row.other) + n)) (ap (λ n. n * worth p c.loop.gain) (sym t) ∙ ap (λ n. turns * n) (sym (same_value p row.turn c.loop.gain (second turn gains h3))))
    (subst (λ n. IsGreatestTime p entry (larger (worth p row.one) n + turns_at p c.loop.branch * worth p c.loop.gain)) (larger_none (worth p row.other)) g)

entry_costs : (p : CostParams) → IsShort p → (entry : ℕ) (row : RowCost) → entry_ok entry row ≡ true → IsGreatestTime p entry (total p row)
entry_costs p short entry row h = by row.turns refl h
  where
    shown : Turns → Type 0
    shown turns = IsGreatestTime p entry (larger (worth p row.one) (worth p row.other) + times_of p turns * worth p row.turn)

    counted : (n : ℕ) (b : Bool) → (n == 0) ≡ b → (if b then is_good (no_loop entry) straight entry row else (n == 31 && is_good division dividing entry row)) ≡ true → shown (Count n)
    counted n true e k = good_costs p short (no_loop entry) straight entry row n straight_keeps k (eqb-true n 0 e)
    counted n false e k = good_costs p short division dividing entry row n dividing_keeps (second (n == 31) (is_good division dividing entry row) k) (eqb-true n 31 (first (n == 31) (is_good division dividing entry row) k))

    by : (turns : Turns) → row.turns ≡ turns
        → (elim turns [
          | Count n ↦ if n == 0 then is_good (no_loop entry) straight entry row else (n == 31 && is_good division dividing entry row)
          | PerPair ↦ is_good search searching entry row
          | PerEntry ↦ is_good handlers raising entry row
        ]) ≡ true → IsGreatestTime p entry (total p row)
    by (Count n) e k = subst shown (sym e) (counted n (n == 0) refl k)
    by PerPair e k = subst shown (sym e) (good_costs p short search searching entry row p.pairs searching_keeps k refl)
    by PerEntry e k = subst shown (sym e) (good_costs p short handlers raising entry row p.entries raising_keeps k refl)

priced_at : (p : CostParams) → IsShort p → (entries : List ℕ) (costs : List RowCost) → all_priced entries costs ≡ true → (op : ℕ) (row : RowCost) → slice_get costs op ≡ Some row → IsGreatestTime p (get_or entries op 0) (total p row)
priced_at p short [] [] h op row e = cc
priced_at p short [] (cost ∷ costs) h op row e = cc
priced_at p short (entry ∷ entries) [] h op row e = cc
priced_at p short (entry ∷ entries) (cost ∷ costs) h zero row e =
    let same : cost ≡ row = cc in
    subst (λ (x : RowCost). IsGreatestTime p entry (total p x)) same (entry_costs p short entry cost (first (entry_ok entry cost) (all_priced entries costs) h))
priced_at p short (entry ∷ entries) (cost ∷ costs) h (suc op) row e = priced_at p short entries costs (second (entry_ok entry cost) (all_priced entries costs) h) op row e

pub table_holds : all_priced ENTRIES COSTS ≡ true
table_holds = refl

pub opcode_costs : (p : CostParams) → IsShort p → (op : ℕ) (row : RowCost) → slice_get COSTS op ≡ Some row → IsCost op p (total p row)
opcode_costs p short op row h = priced_at p short ENTRIES COSTS table_holds op row h

pub raise_costs : (p : CostParams) → IsShort p → IsRaiseCost p (total p table.RAISE)
raise_costs p short = entry_costs p short RAISE table.RAISE refl
