-- Loads of methods of the table, and the greatest of them.
use Rattle.std.proofs.Common.{◌≡◌, ℕ, suc, ◌+◌, ◌<◌, ◌≤◌, max, List, [], ◌∷◌, length, map, sum_by, take, All, Some, None, refl, sym, ap, ◌∙◌, subst, inl, inr, arith}
use Rattle.std.proofs.lemmas.Bool.{cases_eq, cases_lt, eqb-true}
use Rattle.std.proofs.lemmas.Bool.Decides.{Decides-eqb}
use Rattle.std.proofs.lemmas.List.Sums.{sum_by-cons}
use Rattle.std.proofs.lemmas.List.Elements.{All-contains}
use Rattle.std.proofs.lemmas.Option.{slice_get_cases}
use Rattle.std.proofs.lemmas.Map.Steps.{length-le_from_distinct_below}
use Rattle.std.proofs.lemmas.Map.Views.{Contains-from_any}
use Rattle.std.proofs.lemmas.Map.Made.{IsDistinct-from_AllPairs}
use Rattle.bytecode_model.specs.Program.{Program, Body, body_of}
use Rattle.std.proofs.lemmas.List.{take_all}
use Rattle.lists.proofs.Lemmas.{some_is}
use Rattle.base.specs.Packed.{words_for}
use Rattle.method_cache.specs.Regions.Region.{AreDistinct, load_stall}
use Rattle.method_flow.specs.Flow.{Coded, Flow, IsCodedOf, IsFlowOf, range_of}
use Rattle.method_flow.specs.Regions.{load, loads, IsGreatestLoad}
use Rattle.node_costs.specs.Costs.{code_load, method_load}

pub load_of : (k : Coded) (read : ℕ) (P : Program) (n : ℕ) → IsCodedOf P n k → code_load read k.code ≡ load P read n
load_of k read P n of =
    let found = some_is (body_of P n) (λ (b : Body). (b.code ≡ k.code) × (map range_of b.handlers ≡ k.ranges)) of.body in
    ap (load_stall read)
    (sym (ap (λ o. elim o [ None ↦ 0 | Some b ↦ words_for (length b.code) ]) found.1 ∙ ap (λ (xs : List ℕ). words_for (length xs)) found.2.0))

-- ---- the greatest

-- the greatest of the loads of the methods with the first numbers
pub record IsGreatestBelow (read : ℕ) (methods : List Coded) (i cycles : ℕ) : Type 0 where
  pub method : ℕ
  pub low : method < i
  pub attained : method_load read methods method ≡ cycles
  pub greatest : (m : ℕ) → m < i → method_load read methods m ≤ cycles

pub greatest_first : (read : ℕ) (methods : List Coded) (cycles : ℕ) → cycles ≡ method_load read methods 0 → IsGreatestBelow read methods 1 cycles
greatest_first read methods cycles is =
    record {
      method = 0;
      low = omega arith;
      attained = sym is;
      greatest = λ m lt. let zero' : m ≡ 0 = omega arith in let e = ap (method_load read methods) zero' in omega arith;
    }

pub greatest_more : (read : ℕ) (methods : List Coded) (i cycles next : ℕ) → IsGreatestBelow read methods i cycles → next ≡ method_load read methods i
    → IsGreatestBelow read methods (i + 1) (max next cycles)
greatest_more read methods i cycles next h is =
    let below : (m : ℕ) → m < i + 1 → method_load read methods m ≤ max next cycles =
    λ m lt.
    elim (cases_eq m i) [
      | inl same ↦ let e = ap (method_load read methods) same in omega arith
      | inr other ↦ let le = h.greatest m (omega arith) in omega arith
    ] in
    elim (cases_lt cycles next) [
      | inl up ↦ record { method = i; low = omega arith; attained = let e : max next cycles ≡ next = omega arith in sym is ∙ sym e; greatest = below }
      | inr down ↦
          record {
            method = h.method;
            low = let l = h.low in omega arith;
            attained = let e : max next cycles ≡ cycles = omega arith in h.attained ∙ sym e;
            greatest = below;
          }
    ]

-- ---- whose they are

pub load_of_method : (f : Flow) (read : ℕ) (P : Program) → IsFlowOf P f → (m : ℕ) → m < length f.methods → method_load read f.methods m ≡ load P read m
load_of_method f read P of m lt =
    elim (slice_get_cases f.methods m).1 [
      | inl there ↦
          let k = there.0 in
          ap (λ o. elim o [ None ↦ 0 | Some j ↦ code_load read j.code ]) there.2 ∙ load_of k read P m (of.methods m k there.2)
      | inr past ↦ let le = past.0 in absurd (omega arith)
    ]

pub greatest_of : (f : Flow) (read cycles : ℕ) → IsGreatestBelow read f.methods (length f.methods) cycles → (P : Program) → IsFlowOf P f → IsGreatestLoad P read cycles
greatest_of f read cycles h P of =
    record {
      method = h.method;
      coded = (of.coded h.method).1 h.low;
      attained = sym (load_of_method f read P of h.method h.low) ∙ h.attained;
      greatest =
          λ m coded.
          let lt = (of.coded m).0 coded in
          let e = load_of_method f read P of m lt in
          let le = h.greatest m lt in omega arith;
    }

-- ---- sums

sum_same : (g h : ℕ → ℕ) (n : ℕ) → ((m : ℕ) → m < n → g m ≡ h m) → (ms : List ℕ) → All (λ m. m < n) ms → sum_by g ms ≡ sum_by h ms
sum_same g h n same [] all = refl
sum_same g h n same (m ∷ ms) all =
    let head = same m (all 0 0 (omega arith)) in
    let rest = sum_same g h n same ms (λ k d lt. all (suc k) d (omega arith)) in
    omega (arith, sum_by-cons g m ms, sum_by-cons h m ms)

pub loads_of : (f : Flow) (read : ℕ) (ms : List ℕ) → All (λ m. m < length f.methods) ms → (P : Program) → IsFlowOf P f
    → sum_by (method_load read f.methods) ms ≡ loads P read ms
loads_of f read ms all P of = sum_same (method_load read f.methods) (load P read) (length f.methods) (load_of_method f read P of) ms all

-- numbers below n, each once, are at most n
pub few_members : (ms : List ℕ) (n : ℕ) → All (λ m. m < n) ms → AreDistinct ms → length ms ≤ n
few_members ms n all distinct =
    length-le_from_distinct_below ms n (IsDistinct-from_AllPairs Decides-eqb ms distinct)
    (λ q any. All-contains (λ m. m < n) ms q all (Contains-from_any eqb-true q ms any))

pub loads_at : (f : Flow) (read : ℕ) (ms : List ℕ) (i cycles : ℕ) → length ms ≤ i → cycles ≡ sum_by (method_load read f.methods) (take i ms)
    → All (λ m. m < length f.methods) ms → (P : Program) → IsFlowOf P f → cycles ≡ loads P read ms
loads_at f read ms i cycles past is all P of = is ∙ ap (λ (xs : List ℕ). sum_by (method_load read f.methods) xs) (take_all i ms past) ∙ loads_of f read ms all P of

pub greatest_at : (f : Flow) (read cycles i : ℕ) → i ≡ length f.methods → IsGreatestBelow read f.methods i cycles → (P : Program) → IsFlowOf P f → IsGreatestLoad P read cycles
greatest_at f read cycles i all h P of = let Q : ℕ → Type 0 = λ n. IsGreatestBelow read f.methods n cycles in greatest_of f read cycles (subst Q all h) P of

pub greatest_next : (read : ℕ) (methods : List Coded) (i cycles next top : ℕ) → IsGreatestBelow read methods i cycles → next ≡ method_load read methods i
    → top ≡ max next cycles → IsGreatestBelow read methods (i + 1) top
greatest_next read methods i cycles next top h is same =
    let Q : ℕ → Type 0 = λ n. IsGreatestBelow read methods (i + 1) n in subst Q (sym same) (greatest_more read methods i cycles next h is)
