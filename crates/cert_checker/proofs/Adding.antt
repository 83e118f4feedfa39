-- Costs to which what calls add is added, call by call.
use Rattle.std.proofs.Common.{◌≡◌, ◌≢◌, ℕ, ◌+◌, ◌*◌, ◌<◌, ◌≤◌, List, length, get_or, set, Some, refl, sym, ap, ◌∙◌, subst, inl, inr, arith}
use Rattle.std.specs.Prelude.{slice_get}
use Rattle.std.specs.List.Sorted.{IsStrictlyIncreasing}
use Rattle.std.proofs.lemmas.Bool.{cases_lt, cases_order}
use Rattle.std.proofs.lemmas.List.{get_or-map, get_or-set_same, get_or-set_other, length-set, length-map}
use Rattle.std.proofs.lemmas.Option.{slice_get_within, get_or_from_slice_get}
use Rattle.lists.proofs.Lemmas.{some_same}
use Rattle.lists.specs.Members.{rising_apart}
use Rattle.method_flow.specs.declared.flow.Call.{Call}
use Rattle.method_flow.specs.Flow.{places_of}
use Rattle.cert_checker.specs.declared.summaries.Summary.{Summary}
use Rattle.cert_checker.specs.Prepared.{AreCostsOf}

-- it is added at the first i of the calls
pub record AreAddedTo (own : List ℕ) (calls : List Call) (summaries : List Summary) (i : ℕ) (costs : List ℕ) : Type 0 where
  pub long : length costs ≡ length own
  pub at_calls : (k : ℕ) (c : Call) (s : Summary) → k < i → slice_get calls k ≡ Some c → slice_get summaries k ≡ Some s → get_or costs (2 * c.place) 0 ≡ get_or own (2 * c.place) 0 + s.added
  pub others : (u : ℕ) → ((k : ℕ) (c : Call) → k < i → slice_get calls k ≡ Some c → u ≢ 2 * c.place) → get_or costs u 0 ≡ get_or own u 0

pub added_none : (own : List ℕ) (calls : List Call) (summaries : List Summary) → AreAddedTo own calls summaries 0 own
added_none own calls summaries = record { long = refl; at_calls = λ k c s early. absurd (omega arith); others = λ u apart. refl }

place_at : (calls : List Call) (k : ℕ) (c : Call) → slice_get calls k ≡ Some c → get_or (places_of calls) k 0 ≡ c.place
place_at calls k c is =
    get_or-map (λ (x : Call). x.place) calls k c 0 (slice_get_within calls k c is)
    ∙ ap (λ (x : Call). x.place) (get_or_from_slice_get calls k c c is)

-- the calls stand at places apart
places_apart : (calls : List Call) (i k : ℕ) (c e : Call) → IsStrictlyIncreasing (places_of calls) → slice_get calls i ≡ Some c → slice_get calls k ≡ Some e → (i ≡ k → ⊥) → c.place ≢ e.place
places_apart calls i k c e rise ci ek ne same =
    let long = length-map calls (λ (x : Call). x.place) in
    let lt_i = slice_get_within calls i c ci in
    let lt_k = slice_get_within calls k e ek in
    let ends = place_at calls i c ci ∙ same ∙ sym (place_at calls k e ek) in
    elim (cases_order i k) [
      | inl e ↦ ne e
      | inr apart ↦
          elim apart [
            | inl lt ↦ rising_apart (places_of calls) rise i k lt (omega arith) ends
            | inr gt ↦ rising_apart (places_of calls) rise k i gt (omega arith) (sym ends)
          ]
    ]

-- nothing is added yet at the next call
pub not_yet : (own : List ℕ) (calls : List Call) (summaries : List Summary) (i : ℕ) (costs : List ℕ) (c : Call) → IsStrictlyIncreasing (places_of calls) → slice_get calls i ≡ Some c → AreAddedTo own calls summaries i costs
    → get_or costs (2 * c.place) 0 ≡ get_or own (2 * c.place) 0
not_yet own calls summaries i costs c rise ci h =
    h.others (2 * c.place) (λ k e early ek same. places_apart calls i k c e rise ci ek (λ i_is_k. omega arith) (omega arith))

pub added_more : (own : List ℕ) (calls : List Call) (summaries : List Summary) (i : ℕ) (costs : List ℕ) (c : Call) (s : Summary) (sum : ℕ) → IsStrictlyIncreasing (places_of calls) → slice_get calls i ≡ Some c → slice_get summaries i ≡ Some s
    → 2 * c.place < length costs → sum ≡ get_or costs (2 * c.place) 0 + s.added → AreAddedTo own calls summaries i costs → AreAddedTo own calls summaries (i + 1) (set costs (2 * c.place) sum)
added_more own calls summaries i costs c s sum rise ci si inside is h = record {
  long = length-set costs (2 * c.place) sum ∙ h.long;
  at_calls =
      λ k e t early ek tk.
      elim (cases_lt k i) [
        | inl less ↦
            get_or-set_other costs (2 * c.place) (2 * e.place) sum 0 (λ same. places_apart calls i k c e rise ci ek (λ i_is_k. omega arith) (omega arith))
            ∙ h.at_calls k e t less ek tk
        | inr ge ↦
            let at : k ≡ i = omega arith in
            let same_call : e ≡ c = some_same e c (sym ek ∙ ap (slice_get calls) at ∙ ci) in
            let same_summary : t ≡ s = some_same t s (sym tk ∙ ap (slice_get summaries) at ∙ si) in
            let place = ap (λ (x : Call). 2 * x.place) same_call in
            let more = ap (λ (x : Summary). x.added) same_summary in
            let now = get_or-set_same costs (2 * c.place) sum 0 inside in
            let was = not_yet own calls summaries i costs c rise ci h in
            let P : ℕ → Type 0 = λ u. get_or (set costs (2 * c.place) sum) u 0 ≡ get_or own u 0 + t.added in
            subst P (sym place) (omega arith)
      ];
  others =
      λ u apart.
      get_or-set_other costs (2 * c.place) u sum 0 (apart i c (omega arith) ci)
      ∙ h.others u (λ k e early ek. apart k e (omega arith) ek);
}

pub added_all : (own : List ℕ) (calls : List Call) (summaries : List Summary) (i : ℕ) (costs : List ℕ) → length calls ≤ i → AreAddedTo own calls summaries i costs → AreCostsOf own calls summaries costs
added_all own calls summaries i costs all h = record {
  long = h.long;
  at_calls = λ k c s ck sk. let below = slice_get_within calls k c ck in h.at_calls k c s (omega arith) ck sk;
  others = λ u below apart. h.others u (λ k c early ck. apart c (let lt = slice_get_within calls k c ck in (k, lt, get_or_from_slice_get calls k c c ck)));
}
