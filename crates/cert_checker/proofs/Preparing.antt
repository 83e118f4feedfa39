-- What is prepared of a section by the table is what the section is checked with by what its invokes are told.
use Rattle.std.proofs.Common.{◌≡◌, ℕ, ◌+◌, ◌*◌, ◌<◌, ◌≤◌, ◌^◌, Bool, true, false, List, [], length, All, Contains, Option, Some, None, slice_index, refl, sym, ap, ◌∙◌, subst, inl, inr, arith, lit<}
use Rattle.std.specs.Prelude.{slice_get, unwrap_or, nat_le, slice_index_or, if◌then◌else◌}
use Rattle.std.proofs.lemmas.Bool.{cases_lt, leb-true}
use Rattle.std.proofs.lemmas.Option.{slice_get_within}
use Rattle.std.proofs.lemmas.List.{get_or_past}
use Rattle.std.proofs.lemmas.List.Elements.{All-contains, All-get_or}
use Rattle.lists.proofs.Lemmas.{none≢some, some_same, holds_at}
use Rattle.lists.specs.Members.{nil_contains}
use Rattle.opcodes.specs.Start.{IsStart, AreStarts}
use Rattle.bytecode_model.specs.Program.{Program}
use Rattle.method_flow.specs.declared.flow.Call.{Call}
use Rattle.method_flow.specs.Calls.{IsTarget}
use Rattle.method_flow.specs.Flow.{Flow, Coded, IsCoded, IsCodedOf, IsFlow, IsFlowOf, targets_of_call}
use Rattle.method_flow.specs.Kinds.{RowsAreOfTheirKinds}
use Rattle.node_costs.specs.Costs.{AreOwnCosts}
use Rattle.certificates.specs.declared.cert.CertSection.{CertSection}
use Rattle.bound_rules.specs.Costs.{greatest_of}
use Rattle.bound_rules.specs.Told.{Valued, TargetValues, within_limit, most_cycles, is_without_loads}
use Rattle.cert_checker.specs.Setting.{CheckSetting, IsCheckSetting}
use Rattle.cert_checker.specs.Telling.{called_by, told_by, AreSummaries}
use Rattle.cert_checker.specs.Prepared.{IsPreparedWith, IsPrepared, FitsLimit, OnMethod}
use Rattle.cert_checker.specs.declared.prepared.Prepared.{Prepared}
use Rattle.cert_checker.specs.declared.summaries.Summary.{Summary}
use Rattle.cert_checker.proofs.Fulls.{called_is_said}
use Rattle.bound_rules.proofs.Greatest.{IsGreatestOf, greatest_is}
use Rattle.flow_graph.proofs.Starting.{call_at, among_at, call_listed}
use Rattle.cert_checker.proofs.Turning.{reached_back, told_graph, nodes_told, lacking_told, costs_told}

-- ---- targets

-- each list of targets names methods of the table
pub target_within : (f : Flow) → IsFlow f → (c : Call) (x : ℕ) → Contains (targets_of_call f c) x → x < length f.methods
target_within f h c x has =
    elim (cases_lt c.targets (length f.targets)) [
      | inl below ↦ All-contains (λ t. t < length f.methods) (targets_of_call f c) x (All-get_or (λ ts. All (λ t. t < length f.methods) ts) f.targets c.targets [] below h.within) has
      | inr past ↦
          let T : List ℕ → Type 0 = λ ts. Contains ts x in
          absurd (nil_contains x (subst T (past_the_end f.targets c.targets past) has))
    ]
  where
    past_the_end : (ts : List (List ℕ)) (i : ℕ) → length ts ≤ i → slice_index_or ts i [] ≡ []
    past_the_end ts i past = get_or_past ts i [] past

-- ---- the limit

-- a number that is told keeps the cost within the limit
told_small : (own n : ℕ) (said : Option (Option ℕ)) → within_limit own said ≡ Some (Some n) → own + n ≤ most_cycles
told_small own n None is = absurd (none≢some (Some n) is)
told_small own n (Some None) is = absurd (none≢some n (some_same None (Some n) is))
told_small own n (Some (Some m)) is = by (nat_le (own + m) most_cycles) refl is
  where
    by : (b : Bool) → nat_le (own + m) most_cycles ≡ b → (if b then Some (Some m) else None) ≡ Some (Some n) → own + n ≤ most_cycles
    by true e is =
        let same = some_same m n (some_same (Some m) (Some n) is) in
        let P : ℕ → Type 0 = λ x. own + x ≤ most_cycles in
        subst P same (leb-true (own + m) most_cycles e)
    by false e is = absurd (none≢some (Some n) is)

value_is : (said : Option (Option ℕ)) (n : ℕ) → unwrap_or said None ≡ Some n → said ≡ Some (Some n)
value_is None n is = absurd (none≢some n is)
value_is (Some v) n is = ap (λ (o : Option ℕ). Some o) is

small_own : (own : List ℕ) → All (λ c. c < 2 ^ 61) own → (u : ℕ) → slice_index own u < 2 ^ 61
small_own own h u =
    elim (cases_lt u (length own)) [
      | inl below ↦ All-get_or (λ c. c < 2 ^ 61) own u 0 below h
      | inr past ↦ let P : ℕ → Type 0 = λ c. c < 2 ^ 61 in subst P (sym (get_or_past own u 0 past)) (lit< tt)
    ]

pub limit_kept : (set : CheckSetting) (earlier : List Valued) (s : CertSection) (own : List ℕ) (calls : List Call) (summaries : List Summary) → All (λ c. c < 2 ^ 61) own
    → AreSummaries (told_by set earlier s own) set.flow calls summaries → FitsLimit calls summaries own
limit_kept set earlier s own calls summaries small are i c sum c_at s_at =
    by (greatest_of (value_at c) (targets_of_call set.flow c)) refl (greatest_is (value_at c) (targets_of_call set.flow c))
  where
    value_at : Call → ℕ → Option ℕ
    value_at c x = unwrap_or (told_by set earlier s own c.place x) None

    added_is : (n : ℕ) → (o : Option ℕ) → greatest_of (λ x. unwrap_or (told_by set earlier s own c.place x) None) (targets_of_call set.flow c) ≡ o → unwrap_or o 0 ≡ n → sum.added ≡ n
    added_is n o e same = (are.each i c sum c_at s_at).added ∙ ap (λ (x : Option ℕ). unwrap_or x 0) e ∙ same

    by : (o : Option ℕ) → greatest_of (λ x. unwrap_or (told_by set earlier s own c.place x) None) (targets_of_call set.flow c) ≡ o
        → IsGreatestOf (λ x. unwrap_or (told_by set earlier s own c.place x) None) (targets_of_call set.flow c) o → slice_index own (2 * c.place) + sum.added < 2 ^ 64
    by None e h = let zero = added_is 0 None e refl in let less = small_own own small (2 * c.place) in omega (arith, zero, less)
    by (Some m) e h =
        let is = added_is m (Some m) e refl in
        let x = h.0 in
        let less = told_small (slice_index own (2 * c.place)) m (called_by set earlier (is_without_loads s c.place) s.method x.0) (value_is (told_by set earlier s own c.place x.0) m x.2) in
        omega (arith, is, less)

-- ---- a section

-- what the calls are told, by the tables that are at hand
pub summaries_at : (set : CheckSetting) (earlier : List Valued) (s : CertSection) (k : Coded) (own others : List ℕ) (ss ts : List Summary) → slice_get set.flow.methods s.method ≡ Some k → others ≡ own → ts ≡ ss
    → OnMethod set s (λ k. AreSummaries (told_by set earlier s others) set.flow k.calls ss) → AreSummaries (told_by set earlier s own) set.flow k.calls ts
summaries_at set earlier s k own others ss ts is same_own same on =
    let O : List ℕ → Type 0 = λ o. AreSummaries (told_by set earlier s o) set.flow k.calls ts in
    let S : List Summary → Type 0 = λ xs. AreSummaries (told_by set earlier s others) set.flow k.calls xs in
    subst O same_own (subst S (sym same) (holds_at (slice_get set.flow.methods s.method) k (λ k. AreSummaries (told_by set earlier s others) set.flow k.calls ss) is on))

module _ (starts : (code : List ℕ) → AreStarts code) (kinds : RowsAreOfTheirKinds) (set : CheckSetting) (earlier : List Valued) (s : CertSection) (k : Coded) (own : List ℕ) (summaries : List Summary) (p : Prepared) where
  abbrev told : TargetValues
  told = told_by set earlier s own

  pub prepared_by : IsCheckSetting set → IsFlow set.flow → IsCoded k → slice_get set.flow.methods s.method ≡ Some k → ((P : Program) (n : ℕ) → IsCodedOf P n k → AreOwnCosts P set.timing n k.code own)
      → AreSummaries told set.flow k.calls summaries → IsPreparedWith k own summaries p → (P : Program) → IsFlowOf P set.flow → IsPrepared P set.timing earlier s p
  prepared_by setting form c is owned are h P of =
      let n = s.method in
      let coded = of.methods n k is in
      let own_is = owned P n coded in
      let graph = told_graph starts kinds P set.flow of n k c is told summaries are p.graph (h.graph P n coded) in
      record {
        told = told;
        by = record {
          are_told =
              λ q x reached call target.
              let start : IsStart k.code q = (reached_back starts kinds P set.flow of n k c is told summaries are reached).1 in
              let d = call_at k.calls q (call_listed starts kinds P n k c coded q start call) in
              let T : ℕ → Type 0 = λ a. IsTarget P n a x in
              let has = (of.targets n k d.1 is (among_at k.calls d.0 d.1 d.2) x).1 (subst T (sym d.3) target) in
              record {
                own = slice_index own (2 * q);
                is_own = own_is.instructions q start;
                said = called_by set earlier (is_without_loads s q) n x;
                says = called_is_said set P earlier (is_without_loads s q) n x setting of (slice_get_within set.flow.methods n k is) (target_within set.flow form d.1 x has);
                is = refl;
              };
          graph = graph;
          costs = costs_told starts kinds P set.flow of n k c is told summaries are set.timing own p.costs.items own_is h.costs p.graph graph;
          nodes = nodes_told starts kinds P set.flow of n k c is told summaries are p.graph p.nodes.items graph h.nodes;
          absent = lacking_told starts kinds P set.flow of n k c is told summaries are p.graph p.nodes.items graph h.nodes p.absent h.absent;
        };
      }
