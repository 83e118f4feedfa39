-- Costs to which what calls are told is added, call by call.
use Rattle.std.proofs.Common.{◌≡◌, ◌≢◌, ℕ, ◌+◌, ◌*◌, ◌<◌, ◌≤◌, Bool, true, false, List, length, get_or, set, Some, refl, sym, ap, ◌∙◌, subst, inl, inr, arith}
use Rattle.std.specs.Prelude.{slice_get, slice_index_or}
use Rattle.std.specs.List.Sorted.{IsStrictlyIncreasing}
use Rattle.std.proofs.lemmas.Bool.{cases_lt, cases_order}
use Rattle.std.proofs.lemmas.List.{get_or-map, get_or-set_same, get_or-set_other, length-set, length-map}
use Rattle.std.proofs.lemmas.Option.{slice_get_within, get_or_from_slice_get}
use Rattle.lists.proofs.Lemmas.{some_same}
use Rattle.lists.specs.Members.{rising_apart}
use Rattle.method_flow.specs.declared.flow.Call.{Call}
use Rattle.method_flow.specs.Flow.{places_of}
use Rattle.compact_walks.specs.Limited.{cycles_limit, limited}
use Rattle.bound_finder.specs.declared.telling.Told.{Told}
use Rattle.bound_finder.specs.Telling.{AreToldAdded, added_by, IsSmallTold}

-- what is added at a call, where so is said of its number
abbrev pub more_at : (without : List Bool) → Call → Told → ℕ
more_at without c s = added_by (slice_index_or without (2 * c.place) false) s

-- it is added at the first i of the calls
pub record AreAddedTo (own : List ℕ) (calls : List Call) (told : List Told) (without : List Bool) (i : ℕ) (costs : List ℕ) : Type 0 where
  pub long : length costs ≡ length own
  pub at_calls : (k : ℕ) (c : Call) (s : Told) → k < i → slice_get calls k ≡ Some c → slice_get told k ≡ Some s → get_or costs (2 * c.place) 0 ≡ limited (get_or own (2 * c.place) 0 + more_at without c s)
  pub others : (u : ℕ) → ((k : ℕ) (c : Call) → k < i → slice_get calls k ≡ Some c → u ≢ 2 * c.place) → get_or costs u 0 ≡ get_or own u 0

pub added_none : (own : List ℕ) (calls : List Call) (told : List Told) (without : List Bool) → AreAddedTo own calls told without 0 own
added_none own calls told without = record { long = refl; at_calls = λ k c s early. absurd (omega arith); others = λ u apart. refl }

place_at : (calls : List Call) (k : ℕ) (c : Call) → slice_get calls k ≡ Some c → get_or (places_of calls) k 0 ≡ c.place
place_at calls k c is =
    get_or-map (λ (x : Call). x.place) calls k c 0 (slice_get_within calls k c is)
    ∙ ap (λ (x : Call). x.place) (get_or_from_slice_get calls k c c is)

-- the calls stand at places apart
places_apart : (calls : List Call) (i k : ℕ) (c e : Call) → IsStrictlyIncreasing (places_of calls) → slice_get calls i ≡ Some c → slice_get calls k ≡ Some e → (i ≡ k → ⊥) → c.place ≢ e.place
places_apart calls i k c e rise ci ek ne same =
    let long = length-map calls (λ (x : Call). x.place) in
    let lt_i = slice_get_within calls i c ci in
    let lt_k = slice_get_within calls k e ek in
    let ends = place_at calls i c ci ∙ same ∙ sym (place_at calls k e ek) in
    elim (cases_order i k) [
      | inl e ↦ ne e
      | inr apart ↦
          elim apart [
            | inl lt ↦ rising_apart (places_of calls) rise i k lt (omega arith) ends
            | inr gt ↦ rising_apart (places_of calls) rise k i gt (omega arith) (sym ends)
          ]
    ]

-- nothing is added yet at the next call
pub not_yet : (own : List ℕ) (calls : List Call) (told : List Told) (without : List Bool) (i : ℕ) (costs : List ℕ) (c : Call) → IsStrictlyIncreasing (places_of calls) → slice_get calls i ≡ Some c
    → AreAddedTo own calls told without i costs → get_or costs (2 * c.place) 0 ≡ get_or own (2 * c.place) 0
not_yet own calls told without i costs c rise ci h =
    h.others (2 * c.place) (λ k e early ek same. places_apart calls i k c e rise ci ek (λ i_is_k. omega arith) (omega arith))

pub added_more : (own : List ℕ) (calls : List Call) (told : List Told) (without : List Bool) (i : ℕ) (costs : List ℕ) (c : Call) (s : Told) (sum : ℕ) → IsStrictlyIncreasing (places_of calls)
    → slice_get calls i ≡ Some c → slice_get told i ≡ Some s → 2 * c.place < length costs → sum ≡ limited (get_or costs (2 * c.place) 0 + more_at without c s) → AreAddedTo own calls told without i costs
    → AreAddedTo own calls told without (i + 1) (set costs (2 * c.place) sum)
added_more own calls told without i costs c s sum rise ci si inside is h = record {
  long = length-set costs (2 * c.place) sum ∙ h.long;
  at_calls =
      λ k e t early ek tk.
      elim (cases_lt k i) [
        | inl less ↦
            get_or-set_other costs (2 * c.place) (2 * e.place) sum 0 (λ same. places_apart calls i k c e rise ci ek (λ i_is_k. omega arith) (omega arith))
            ∙ h.at_calls k e t less ek tk
        | inr ge ↦
            let at : k ≡ i = omega arith in
            let same_call : e ≡ c = some_same e c (sym ek ∙ ap (slice_get calls) at ∙ ci) in
            let same_told : t ≡ s = some_same t s (sym tk ∙ ap (slice_get told) at ∙ si) in
            let now = get_or-set_same costs (2 * c.place) sum 0 inside in
            let was = not_yet own calls told without i costs c rise ci h in
            let C : Call → Type 0 = λ d. get_or (set costs (2 * c.place) sum) (2 * d.place) 0 ≡ limited (get_or own (2 * d.place) 0 + more_at without d t) in
            let T : Told → Type 0 = λ r. get_or (set costs (2 * c.place) sum) (2 * c.place) 0 ≡ limited (get_or own (2 * c.place) 0 + more_at without c r) in
            subst C (sym same_call) (subst T (sym same_told) (now ∙ is ∙ ap (λ (n : ℕ). limited (n + more_at without c s)) was))
      ];
  others =
      λ u apart.
      get_or-set_other costs (2 * c.place) u sum 0 (apart i c (omega arith) ci)
      ∙ h.others u (λ k e early ek. apart k e (omega arith) ek);
}

pub added_all : (own : List ℕ) (calls : List Call) (told : List Told) (without : List Bool) (i : ℕ) (costs : List ℕ) → length calls ≤ i → AreAddedTo own calls told without i costs → AreToldAdded own calls told without costs
added_all own calls told without i costs all h = record {
  long = h.long;
  at_calls = λ k c s ck sk. let below = slice_get_within calls k c ck in h.at_calls k c s (omega arith) ck sk;
  others = λ u below apart. h.others u (λ k c early ck. apart c (let lt = slice_get_within calls k c ck in (k, lt, get_or_from_slice_get calls k c c ck)));
}

-- what is told is limited
pub small_more : (s : Told) (b : Bool) → IsSmallTold s → added_by b s ≤ cycles_limit
small_more s b small = by b
  where
    by : (b : Bool) → added_by b s ≤ cycles_limit
    by true = small.0
    by false = small.1
