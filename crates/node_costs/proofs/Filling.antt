-- Costs of nodes that are filled in, instruction by instruction, and whose they are.
use Rattle.std.proofs.Common.{◌≡◌, ◌≢◌, ℕ, ◌+◌, ◌*◌, ◌^◌, ◌<◌, ◌≤◌, List, length, map, get_or, set, replicate, All, Contains, Some, Result, Ok, Err, IfOk, IsSomeAnd, sym, ap, ◌∙◌, subst, inl, inr, arith}
use Rattle.std.proofs.lemmas.Bool.{cases_eq}
use Rattle.std.proofs.lemmas.List.{get_or-set_same, get_or-set_other, get_or-replicate, length-map, length-replicate, length-set}
use Rattle.std.proofs.lemmas.List.Elements.{All-set, All-replicate}
use Rattle.std.proofs.lemmas.List.{get_or_default}
use Rattle.opcodes.specs.declared.instruction.Instr.{Instr}
use Rattle.opcodes.specs.declared.instruction.DecodeFault.{DecodeFault}
use Rattle.opcodes.specs.Bytes.{u1}
use Rattle.opcodes.specs.Instruction.{decoded}
use Rattle.opcodes.specs.Start.{IsStart, starts_of, AreStarts}
use Rattle.bytecode_model.specs.Lists.{onto}
use Rattle.bytecode_model.specs.Program.{Program, Body, body_of, instr_at, as_instr}
use Rattle.lists.proofs.Lemmas.{some_is, some_in}
use Rattle.lists.specs.Members.{place_of}
use Rattle.micro_flow.specs.declared.CostParams.{CostParams}
use Rattle.micro_flow.specs.Costs.{CostsAreSmall}
use Rattle.micro_flow.specs.Walk.{IsGreatestTime, IsCost, IsRaiseCost}
use Rattle.method_flow.specs.declared.timing.Timing.{Timing}
use Rattle.method_flow.specs.Costs.{params}
use Rattle.method_flow.specs.Flow.{Coded, IsCodedOf, StaysInCode, range_of}
use Rattle.node_costs.specs.Costs.{AreOwnCosts, AreCodeCosts, IsInstructionCost}

-- the costs of the instructions at the first i starts are filled in
pub record AreFilled (code : List ℕ) (t : Timing) (raise : ℕ) (starts : List ℕ) (i : ℕ) (costs : List ℕ) : Type 0 where
  pub long : length costs ≡ 2 * length code
  pub instructions : (j : ℕ) → j < i → IsInstructionCost code t (get_or starts j 0) (get_or costs (2 * get_or starts j 0) 0)
  pub raises : (p : ℕ) → p < length code → get_or costs (2 * p + 1) 0 ≡ raise
  pub small : All (λ c. c < 2 ^ 61) costs

pub filled_none : (code : List ℕ) (t : Timing) (raise : ℕ) (starts costs : List ℕ) → costs ≡ replicate (2 * length code) raise → raise < 2 ^ 61
    → AreFilled code t raise starts 0 costs
filled_none code t raise starts costs are few =
    record {
      long = ap length are ∙ length-replicate (2 * length code) raise;
      instructions = λ j lt. absurd (omega arith);
      raises = λ p lt. ap (λ (cs : List ℕ). get_or cs (2 * p + 1) 0) are ∙ get_or-replicate (2 * length code) (2 * p + 1) raise 0 (omega arith);
      small = let Q : List ℕ → Type 0 = λ cs. All (λ c. c < 2 ^ 61) cs in subst Q (sym are) (All-replicate (λ c. c < 2 ^ 61) (2 * length code) raise few);
    }

pub filled_more : (code : List ℕ) (t : Timing) (raise : ℕ) (starts : List ℕ) (i : ℕ) (costs : List ℕ) (cost : ℕ) → AreFilled code t raise starts i costs
    → get_or starts i 0 < length code → IsInstructionCost code t (get_or starts i 0) cost → cost < 2 ^ 61
    → AreFilled code t raise starts (i + 1) (set costs (2 * get_or starts i 0) cost)
filled_more code t raise starts i costs cost h lt is few =
    let at = get_or starts i 0 in
    let long = h.long in
    let inside : 2 * at < length costs = omega arith in
    let costs' = set costs (2 * at) cost in
    record {
      long = length-set costs (2 * at) cost ∙ h.long;
      instructions =
          λ j below.
          elim (cases_eq (get_or starts j 0) at) [
            | inl same ↦
                let P : ℕ → Type 0 = λ p. IsInstructionCost code t p (get_or costs' (2 * p) 0) in
                let Q : ℕ → Type 0 = λ c. IsInstructionCost code t at c in
                subst P (sym same) (subst Q (sym (get_or-set_same costs (2 * at) cost 0 inside)) is)
            | inr other ↦
                let apart : j ≢ i = λ e. other (ap (λ (k : ℕ). get_or starts k 0) e) in
                let before : j < i = omega arith in
                let Q : ℕ → Type 0 = λ c. IsInstructionCost code t (get_or starts j 0) c in
                let ne : 2 * get_or starts j 0 ≢ 2 * at = omega arith in
                subst Q (sym (get_or-set_other costs (2 * at) (2 * get_or starts j 0) cost 0 ne)) (h.instructions j before)
          ];
      raises = λ p below. let ne : 2 * p + 1 ≢ 2 * at = omega arith in get_or-set_other costs (2 * at) (2 * p + 1) cost 0 ne ∙ h.raises p below;
      small = All-set (λ c. c < 2 ^ 61) costs (2 * at) cost few h.small;
    }

pub filled_all : (code : List ℕ) (t : Timing) (raise : ℕ) (starts costs : List ℕ) → starts ≡ starts_of code → AreFilled code t raise starts (length starts) costs
    → AreCodeCosts code t raise costs
filled_all code t raise starts costs are h =
    record {
      long = h.long;
      instructions =
          λ p start.
          let P : List ℕ → Type 0 = λ ls. Contains ls p in
          let place = place_of starts p (subst P (sym are) start) in
          let Q : ℕ → Type 0 = λ q. IsInstructionCost code t q (get_or costs (2 * q) 0) in
          subst Q place.2 (h.instructions place.0 place.1);
      raises = h.raises;
    }

-- an instruction begins at each of the starts
pub start_at : (code starts : List ℕ) (i : ℕ) → AreStarts code → starts ≡ starts_of code → i < length starts → IsStart code (get_or starts i 0)
start_at code starts i h are lt =
    let P : List ℕ → Type 0 = λ ls. Contains ls (get_or starts i 0) in
    subst P are (i, lt, get_or_default starts i (get_or starts i 0) 0 lt)

pub start_within : (code starts : List ℕ) (i : ℕ) → AreStarts code → starts ≡ starts_of code → i < length starts → get_or starts i 0 < length code
start_within code starts i h are lt = h.within_code (get_or starts i 0) (start_at code starts i h are lt)

pub is_whole : (code : List ℕ) (p : ℕ) (fault : DecodeFault) → StaysInCode code p → Err fault ≡ decoded code p → ⊥
is_whole code p fault stays is = let e : Err fault ≡ Ok stays.instr = is ∙ stays.is in cc

-- ---- costs are the only ones

pub greatest_same : (p : CostParams) (at m n : ℕ) → IsGreatestTime p at m → IsGreatestTime p at n → m ≡ n
greatest_same p at m n x y =
    let up : m ≤ n = subst (λ (k : ℕ). k ≤ n) x.attained.takes (y.greatest x.attained.choices x.attained.ends) in
    let down : n ≤ m = subst (λ (k : ℕ). k ≤ m) y.attained.takes (x.greatest y.attained.choices y.attained.ends) in
    omega arith

pub greatest_small : (p : CostParams) (at m n : ℕ) → IsGreatestTime p at m → IsGreatestTime p at n → n < 2 ^ 61 → m < 2 ^ 61
greatest_small p at m n x y few = let same = greatest_same p at m n x y in omega arith

pub opcode_small : CostsAreSmall → (t : Timing) (pairs op cost : ℕ) → t.read ≤ 63 → t.write ≤ 63 → pairs < 2 ^ 32 → IsCost op (params t pairs 0) cost → cost < 2 ^ 61
opcode_small costs t pairs op cost read write few is =
    let small = costs (params t pairs 0) (record { r = read; w = write; pairs = few; entries = omega arith }) op in
    greatest_small (params t pairs 0) _ cost small.cycles is small.is small.small

-- ---- whose they are

pub if_ok : {X E : Type 0} (P Q : X → Type 0) (r : Result X E) → ((x : X) → P x → Q x) → IfOk r P → IfOk r Q
if_ok P Q (Ok x) f h = f x h
if_ok P Q (Err e) f h = h

pub own_of_code : (k : Coded) (t : Timing) (raise : ℕ) (costs : List ℕ) → AreStarts k.code → AreCodeCosts k.code t raise costs
    → IsRaiseCost (params t 0 (length k.ranges)) raise → (P : Program) (m : ℕ) → IsCodedOf P m k → AreOwnCosts P t m k.code costs
own_of_code k t raise costs starts h is_raise P m of =
    let found = some_is (body_of P m) (λ (b : Body). (b.code ≡ k.code) × (map range_of b.handlers ≡ k.ranges)) of.body in
    let b = found.0 in
    let same = found.2.0 in
    let handlers : length b.handlers ≡ length k.ranges = sym (length-map b.handlers range_of) ∙ ap length found.2.1 in
    record {
      long = h.long;
      instructions =
          λ p start.
          let c = get_or costs (2 * p) 0 in
          let own = h.instructions p start in
          let instr : instr_at P m p ≡ Some own.instr =
          ap (λ o. onto o (λ (x : Body). as_instr (decoded x.code p))) found.1 ∙ ap as_instr (ap (λ (xs : List ℕ). decoded xs p) same ∙ own.is) in
          let Q : List ℕ → Type 0 = λ xs. IsCost (u1 xs p) (params t own.instr.count 0) c in
          some_in (body_of P m) b (λ (x : Body). IsSomeAnd (instr_at P m p) (λ i. IsCost (u1 x.code p) (params t i.count 0) c)) found.1
          (some_in (instr_at P m p) own.instr (λ (i : Instr). IsCost (u1 b.code p) (params t i.count 0) c) instr (subst Q (sym same) own.cycles));
      raises =
          λ p start.
          let c = get_or costs (2 * p + 1) 0 in
          let R : ℕ → Type 0 = λ n. IsRaiseCost (params t 0 n) c in
          let S : ℕ → Type 0 = λ n. IsRaiseCost (params t 0 (length k.ranges)) n in
          some_in (body_of P m) b (λ (x : Body). IsRaiseCost (params t 0 (length x.handlers)) c) found.1
          (subst R (sym handlers) (subst S (sym (h.raises p (starts.within_code p start))) is_raise));
    }

pub own_of : (k : Coded) (t : Timing) (raise : ℕ) (code costs : List ℕ) → ((cs : List ℕ) → AreStarts cs) → code ≡ k.code → AreCodeCosts code t raise costs
    → IsRaiseCost (params t 0 (length k.ranges)) raise → (P : Program) (m : ℕ) → IsCodedOf P m k → AreOwnCosts P t m k.code costs
own_of k t raise code costs starts same h is_raise P m of =
    let Q : List ℕ → Type 0 = λ cs. AreCodeCosts cs t raise costs in own_of_code k t raise costs (starts k.code) (subst Q same h) is_raise P m of
