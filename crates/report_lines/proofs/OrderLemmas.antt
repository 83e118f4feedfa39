-- Entries in order.
use Rattle.std.proofs.Common.{◌≡◌, ◌≢◌, ℕ, true, false, List, map, get_or, Option, sym, ◌∙◌, ap, ap₂, arith, inl, inr}
use Rattle.std.specs.Prelude.{AllPairs}
use Rattle.std.specs.List.{IsDistinct}
use Rattle.std.specs.List.Sorted.{IsPermutation, IsSortedBy}
use Rattle.std.specs.Cmp.{nat_cmp_is, IsStrictWeakOrder}
use Rattle.std.specs.Ordering.{is_lt, nat_cmp, ordering_then}
use Rattle.std.specs.declared.cmp.Ordering.{Ordering}
use Rattle.std.specs.declared.cmp.Ordering.TheVariants.{Less, Equal}
use Rattle.std.proofs.lemmas.Bool.{cases_order, true≢false}
use Rattle.std.proofs.lemmas.Cmp.{nat_cmp_total, on_total, then_total, back_total}
use Rattle.std.proofs.lemmas.List.{length-map, get_or-map}
use Rattle.std.proofs.lemmas.List.Sorted.{ranks_by, sorted_far, IsPermutation-map, IsPermutation-sym, Contains-permutation}
use Rattle.std.proofs.lemmas.Map.Keys.{IsDistinct-IsPermutation}
use Rattle.std.proofs.lemmas.Map.Made.{AllPairs-from_IsDistinct}
use Rattle.report_lines.specs.declared.key.Key.{Key}
use Rattle.bound_report.specs.declared.contents.rows.ReportRow.{ReportRow}
use Rattle.report_lines.specs.Entries.{key_of, same_key, spot_by, ComesBefore, AreEntries}
use Rattle.report_lines.specs.Joining.{stands_before, AreJoined}
use Rattle.report_lines.proofs.KeyLemmas.{keys_are, are_keys, flips}
use Rattle.report_lines.proofs.JoinLemmas.{from_map}

-- ---- the order, and its test

before_is : (a b : ReportRow) → ComesBefore a b → stands_before a b ≡ true
before_is a b (inl less) =
    ap (λ (o : Ordering). is_lt (ordering_then (ordering_then o (nat_cmp a.method b.method)) (nat_cmp a.place b.place))) (sym (nat_cmp_is b.cycles a.cycles Less less))
before_is a b (inr (same, inl less)) =
    ap₂ (λ (o m : Ordering). is_lt (ordering_then (ordering_then o m) (nat_cmp a.place b.place))) (sym (nat_cmp_is b.cycles a.cycles Equal (sym same))) (sym (nat_cmp_is a.method b.method Less less))
before_is a b (inr (same, inr (method, less))) =
    ap₂ (λ (o m : Ordering). is_lt (ordering_then (ordering_then o m) (nat_cmp a.place b.place))) (sym (nat_cmp_is b.cycles a.cycles Equal (sym same))) (sym (nat_cmp_is a.method b.method Equal method))
    ∙ ap is_lt (sym (nat_cmp_is a.place b.place Less less))

is_order : IsStrictWeakOrder stands_before
is_order =
    ranks_by (then_total (then_total (on_total (λ (e : ReportRow). e.cycles) (back_total nat_cmp_total)) (on_total (λ (e : ReportRow). e.method) nat_cmp_total)) (on_total (λ (e : ReportRow). e.place) nat_cmp_total)) (λ (e : ReportRow). e)

module _ (source : ℕ → ℕ → Option (List ℕ × ℕ)) where
  -- of two at different spots one comes before the other
  comes_first : (a b : ReportRow) → stands_before b a ≡ false → key_of source a ≢ key_of source b → ComesBefore a b
  comes_first a b not apart =
      elim (cases_order a.cycles b.cycles) [
        | inr (inr more) ↦ inl more
        | inr (inl less) ↦ absurd (true≢false (sym (before_is b a (inl less)) ∙ not))
        | inl same ↦
            elim (cases_order a.method b.method) [
              | inr (inl lower) ↦ inr (same, inl lower)
              | inr (inr higher) ↦ absurd (true≢false (sym (before_is b a (inr (sym same, inl higher))) ∙ not))
              | inl method ↦
                  elim (cases_order a.place b.place) [
                    | inr (inl lower) ↦ inr (same, inr (method, lower))
                    | inr (inr higher) ↦ absurd (true≢false (sym (before_is b a (inr (sym same, inr (sym method, higher)))) ∙ not))
                    | inl place ↦ absurd (apart (ap₂ (λ (m p : ℕ). let k : Key = record { method = m; spot = spot_by p (source m p) } in k) method place))
                  ]
            ]
      ]

  module _ (rows es fs : List ReportRow) (joined : AreJoined source rows es) (distinct : IsDistinct same_key (map (key_of source) es)) (moved : IsPermutation es fs) (sorted : IsSortedBy stands_before fs) where
    apart_there : AllPairs (λ a b. a ≢ b) (map (key_of source) fs)
    apart_there =
        AllPairs-from_IsDistinct (λ a b. (keys_are a b, are_keys a b)) (map (key_of source) fs)
        (IsDistinct-IsPermutation same_key flips (map (key_of source) es) (map (key_of source) fs) (IsPermutation-map (key_of source) es fs moved) distinct)

    stand_apart : AllPairs (λ a b. key_of source a ≢ key_of source b) fs
    stand_apart i j d lt below e =
        let long = length-map fs (key_of source) in
        let at_i = get_or-map (key_of source) fs i d (key_of source d) (omega arith) in
        let at_j = get_or-map (key_of source) fs j d (key_of source d) below in
        apart_there i j (key_of source d) lt (omega arith) (at_i ∙ e ∙ sym at_j)

    -- the entries, sorted
    pub are_entries : AreEntries source rows fs
    are_entries = record {
      apart = stand_apart;
      whole = λ r c. let e = from_map (key_of source) es (key_of source r) (joined.whole r c) in (e.0, Contains-permutation es fs e.0 moved e.1, e.2);
      each = λ e c. joined.each e (Contains-permutation fs es e (IsPermutation-sym es fs moved) c);
      ordered = λ i j d lt below. comes_first (get_or fs i d) (get_or fs j d) (sorted_far stands_before is_order fs sorted i j d (omega arith) below) (stand_apart i j d lt below);
    }
