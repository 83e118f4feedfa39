-- What calls add, written at their nodes one behind the other.
use Rattle.std.proofs.Common.{◌≡◌, ◌≢◌, ℕ, ◌+◌, ◌*◌, ◌<◌, ◌≤◌, Bool, false, not, List, length, get_or, set, All, Some, sym, ap, ◌∙◌, subst, inl, inr, arith}
use Rattle.std.specs.Prelude.{slice_get, slice_index_or}
use Rattle.std.specs.List.Sorted.{IsStrictlyIncreasing}
use Rattle.std.proofs.lemmas.Bool.{cases_lt, cases_order}
use Rattle.std.proofs.lemmas.List.{get_or-map, get_or-set_same, get_or-set_other, get_or_past, length-map}
use Rattle.std.proofs.lemmas.List.Elements.{All-get_or}
use Rattle.std.proofs.lemmas.Option.{slice_get_within, get_or_from_slice_get, slice_get-get_or}
use Rattle.lists.proofs.Lemmas.{some_same}
use Rattle.lists.specs.Members.{rising_apart}
use Rattle.method_flow.specs.declared.flow.Call.{Call}
use Rattle.method_flow.specs.Flow.{Flow, places_of, targets_of_call}
use Rattle.bound_finder.specs.declared.known.Known.{Known}
use Rattle.bound_report.specs.declared.callees.Callee.{Callee}
use Rattle.bound_report.specs.Callees.{IsCallee, no_callee, callee_at, AreCallees}

place_at : (calls : List Call) (k : ℕ) (c : Call) → slice_get calls k ≡ Some c → get_or (places_of calls) k 0 ≡ c.place
place_at calls k c is =
    get_or-map (λ (x : Call). x.place) calls k c 0 (slice_get_within calls k c is)
    ∙ ap (λ (x : Call). x.place) (get_or_from_slice_get calls k c c is)

-- the calls stand at places apart
places_apart : (calls : List Call) (i k : ℕ) (c e : Call) → IsStrictlyIncreasing (places_of calls) → slice_get calls i ≡ Some c → slice_get calls k ≡ Some e → (i ≡ k → ⊥) → c.place ≢ e.place
places_apart calls i k c e rise ci ek ne same =
    let long = length-map calls (λ (x : Call). x.place) in
    let lt_i = slice_get_within calls i c ci in
    let lt_k = slice_get_within calls k e ek in
    let ends = place_at calls i c ci ∙ same ∙ sym (place_at calls k e ek) in
    elim (cases_order i k) [
      | inl e ↦ ne e
      | inr apart ↦
          elim apart [
            | inl lt ↦ rising_apart (places_of calls) rise i k lt (omega arith) ends
            | inr gt ↦ rising_apart (places_of calls) rise k i gt (omega arith) (sym ends)
          ]
    ]

module _ (f : Flow) (calls : List Call) (table : List Known) (back : ℕ) (without : List Bool) where
  abbrev pub IsWrittenAt : Call → List Callee → Type 0
  IsWrittenAt d cs = IsCallee table (not (slice_index_or without (2 * d.place) false)) back (targets_of_call f d) (callee_at cs (2 * d.place))

  -- the first i of the calls are written
  pub record AreWritten (i : ℕ) (cs : List Callee) : Type 0 where
    pub at_calls : (k : ℕ) (d : Call) → k < i → slice_get calls k ≡ Some d → IsCallee table (not (slice_index_or without (2 * d.place) false)) back (targets_of_call f d) (callee_at cs (2 * d.place))
    pub others : (u : ℕ) → ((k : ℕ) (d : Call) → k < i → slice_get calls k ≡ Some d → u ≢ 2 * d.place) → callee_at cs u ≡ no_callee

  pub written_none : (cs : List Callee) → All (λ c. c ≡ no_callee) cs → AreWritten 0 cs
  written_none cs none = record {
    at_calls = λ k d early. absurd (omega arith);
    others = λ u apart. elim (cases_lt u (length cs)) [ inl below ↦ All-get_or (λ (c : Callee). c ≡ no_callee) cs u no_callee below none | inr past ↦ get_or_past cs u no_callee past ];
  }

  pub written_more : (i : ℕ) (cs : List Callee) (d : Call) (c : Callee) → IsStrictlyIncreasing (places_of calls) → slice_get calls i ≡ Some d → 2 * d.place < length cs
      → IsCallee table (not (slice_index_or without (2 * d.place) false)) back (targets_of_call f d) c → AreWritten i cs → AreWritten (i + 1) (set cs (2 * d.place) c)
  written_more i cs d c rise di inside is h = record {
    at_calls =
        λ k e early ek.
        elim (cases_lt k i) [
          | inl less ↦
              let kept : callee_at (set cs (2 * d.place) c) (2 * e.place) ≡ callee_at cs (2 * e.place) =
              get_or-set_other cs (2 * d.place) (2 * e.place) c no_callee (λ same. places_apart calls i k d e rise di ek (λ i_is_k. omega arith) (omega arith))
              in
              subst (λ (x : Callee). IsCallee table (not (slice_index_or without (2 * e.place) false)) back (targets_of_call f e) x) (sym kept) (h.at_calls k e less ek)
          | inr more ↦
              let at : k ≡ i = omega arith in
              let same : d ≡ e = some_same d e (sym di ∙ (ap (slice_get calls) (sym at) ∙ ek)) in
              let now : callee_at (set cs (2 * d.place) c) (2 * d.place) ≡ c = get_or-set_same cs (2 * d.place) c no_callee inside in
              subst (λ (x : Call). IsCallee table (not (slice_index_or without (2 * x.place) false)) back (targets_of_call f x) (callee_at (set cs (2 * d.place) c) (2 * x.place))) same
              (subst (λ (x : Callee). IsCallee table (not (slice_index_or without (2 * d.place) false)) back (targets_of_call f d) x) (sym now) is)
        ];
    others = λ u apart. get_or-set_other cs (2 * d.place) u c no_callee (apart i d (omega arith) di) ∙ h.others u (λ k e early ek. apart k e (omega arith) ek);
  }

  pub written_all : (i : ℕ) (cs : List Callee) → length calls ≤ i → AreWritten i cs → AreCallees f calls table back without cs
  written_all i cs all h = record {
    at_calls = λ d has. let lt = has.1 in h.at_calls has.0 d (omega arith) (slice_get-get_or calls has.0 d has.1 ∙ ap (λ (x : Call). Some x) has.2);
    others = λ u apart. h.others u (λ k d early dk. apart d (let lt = slice_get_within calls k d dk in (k, lt, get_or_from_slice_get calls k d d dk)));
  }
