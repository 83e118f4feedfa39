-- The counts of one method more, and how large its times are.
use Rattle.std.proofs.Common.{◌≡◌, ℕ, ◌+◌, ◌*◌, ◌^◌, ◌≤◌, ◌<◌, Bool, cond, List, [], ◌∷◌, ◌++◌, sum_by, length, Contains, Option, Some, None, refl, sym, ap, ◌∙◌, subst, inl, inr, arith}
use Rattle.std.specs.Prelude.{if◌then◌else◌, slice_index}
use Rattle.std.proofs.lemmas.Bool.{cases_eq, eq-eqb, ne_eqb}
use Rattle.std.proofs.lemmas.List.{append-nil, append_assoc, map_push}
use Rattle.std.proofs.lemmas.List.Sums.{sum_by_push}
use Rattle.method_cache.specs.Regions.Region.{AreDistinct}
use Rattle.bound_report.specs.declared.counts.NodeCount.{NodeCount}
use Rattle.bound_report.specs.declared.counts.MethodCounts.{MethodCounts}
use Rattle.bound_report.specs.Times.{methods_of, is_call_of, calls_of, times_of, AreTimes, CallsAmong, AreOrdered}
use Rattle.bound_report.specs.Adding.{more_at, AreMoreAt, AreTimesAdded}
use Rattle.bound_report.proofs.Sums.{same_sum, at_one, one_sum, term_most}
use Rattle.bound_report.proofs.Telescoping.{call_part, weighed, IsSum, telescoped}

-- ---- the root

root_once : (root x : ℕ) → times_of root [] x ≡ at_one root 1 x
root_once root x =
    elim (cases_eq x root) [
      | inl same ↦ ap (λ (b : Bool). cond b 1 0 + 0) (eq-eqb x root same) ∙ sym (ap (λ (b : Bool). cond b 1 0) (eq-eqb root x (sym same)))
      | inr other ↦ ap (λ (b : Bool). cond b 1 0 + 0) (ne_eqb x root other) ∙ sym (ap (λ (b : Bool). cond b 1 0) (ne_eqb root x (λ e. other (sym e))))
    ]

module _ (root : ℕ) (number : ℕ → ℕ) (parts : MethodCounts → ℕ) where
  root_sum : (ys : List ℕ) → AreDistinct ys → Contains ys root → weighed root number parts [] ys ≡ number root
  root_sum ys apart has =
      same_sum (λ y. times_of root [] y * number y) (λ y. at_one root 1 y * number y) ys (λ y among. ap (λ (n : ℕ). n * number y) (root_once root y))
      ∙ (one_sum number root 1 ys apart has ∙ omega arith)

  module _ (ks : List MethodCounts) (further : List ℕ) (times : AreTimes root [] ks) (ordered : AreOrdered ks further) (apart : AreDistinct (methods_of ks ++ further)) (rooted : Contains (methods_of ks ++ further) root)
      (each : (k : MethodCounts) → Contains ks k → IsSum root number parts k) where
    -- the root's number, by the parts of these methods and the numbers of further ones
    pub whole : number root ≡ sum_by (λ k. k.times * parts k) ks + weighed root number parts ks further
    whole = sym (root_sum (methods_of ks ++ further) apart rooted) ∙ telescoped root number parts [] ks further times ordered apart each

    pub times_most : (x : ℕ) → Contains further x → times_of root ks x * number x ≤ number root
    times_most x has = let most = term_most (λ (y : ℕ). times_of root ks y * number y) further x has in let all = whole in omega arith

    pub parts_most : sum_by (λ k. k.times * parts k) ks ≤ number root
    parts_most = let all = whole in omega arith

-- ---- one method more

pub times_snoc : (root : ℕ) (before ks : List MethodCounts) (k : MethodCounts) → AreTimes root before ks → k.times ≡ times_of root (before ++ ks) k.method → AreTimes root before (ks ++ k ∷ [])
times_snoc root before [] k times is = (is ∙ ap (λ (js : List MethodCounts). times_of root js k.method) (append-nil before), tt)
times_snoc root before (j ∷ js) k times is = (times.0, times_snoc root (before ++ j ∷ []) js k times.1 (is ∙ ap (λ (hs : List MethodCounts). times_of root hs k.method) (sym (append_assoc before (j ∷ []) js))))

pub methods_snoc : (ks : List MethodCounts) (k : MethodCounts) (further : List ℕ) → methods_of (ks ++ k ∷ []) ++ further ≡ methods_of ks ++ k.method ∷ further
methods_snoc ks k further = ap (λ (ms : List ℕ). ms ++ further) (map_push (λ (j : MethodCounts). j.method) ks k) ∙ append_assoc (methods_of ks) (k.method ∷ []) further

pub ordered_snoc : (ks : List MethodCounts) (k : MethodCounts) (further : List ℕ) → AreOrdered ks (k.method ∷ further) → CallsAmong further k.nodes.items → AreOrdered (ks ++ k ∷ []) further
ordered_snoc [] k further ordered among = (among, tt)
ordered_snoc (j ∷ js) k further ordered among =
    (subst (λ (ms : List ℕ). CallsAmong ms j.nodes.items) (sym (methods_snoc js k further)) ordered.0, ordered_snoc js k further ordered.1 among)

-- ---- times that are added

module _ (count v more : ℕ) (is : count * v < 2 ^ 128 → more ≡ count * v) (x : ℕ) where
  more_is : (o : Option ℕ) → count * call_part o v x < 2 ^ 128 → more_at o more x ≡ count * call_part o v x
  more_is None few = omega arith
  more_is (Some y) few =
      elim (cases_eq y x) [
        | inl same ↦
            let here : call_part (Some y) v x ≡ v = ap (λ (b : Bool). cond b v 0) (eq-eqb y x same) in
            let there : more_at (Some y) more x ≡ more = ap (λ (b : Bool). cond b more 0) (eq-eqb y x same) in
            let value : count * call_part (Some y) v x ≡ count * v = ap (λ (n : ℕ). count * n) here in
            there ∙ (is (subst (λ (n : ℕ). n < 2 ^ 128) value few) ∙ sym value)
        | inr other ↦
            let here : call_part (Some y) v x ≡ 0 = ap (λ (b : Bool). cond b v 0) (ne_eqb y x other) in
            let there : more_at (Some y) more x ≡ 0 = ap (λ (b : Bool). cond b more 0) (ne_eqb y x other) in
            let value : count * call_part (Some y) v x ≡ 0 = ap (λ (n : ℕ). count * n) here ∙ omega arith in
            there ∙ sym value
      ]

pub added_none : (old : List ℕ) (count : ℕ) → AreTimesAdded old count [] old
added_none old count = record { long = refl; each = λ x below few. omega arith }

pub added_more : (old : List ℕ) (count : ℕ) (nodes : List NodeCount) (mid : List ℕ) (c : NodeCount) (more : ℕ) (new : List ℕ) → (count * c.visits < 2 ^ 128 → more ≡ count * c.visits) → AreTimesAdded old count nodes mid
    → AreMoreAt mid c.target more new → AreTimesAdded old count (nodes ++ c ∷ []) new
added_more old count nodes mid c more new is added one = record { long = one.long ∙ added.long; each = each }
  where
    each : (x : ℕ) → x < length old → slice_index old x + count * calls_of x (nodes ++ c ∷ []) < 2 ^ 128 → slice_index new x ≡ slice_index old x + count * calls_of x (nodes ++ c ∷ [])
    each x below few =
        let part = call_part c.target c.visits x in
        let calls : calls_of x (nodes ++ c ∷ []) ≡ calls_of x nodes + part = sum_by_push (λ (d : NodeCount). if is_call_of x d then d.visits else 0) nodes c in
        let product : count * calls_of x (nodes ++ c ∷ []) ≡ count * calls_of x nodes + count * part = ap (λ (n : ℕ). count * n) calls ∙ omega arith in
        let before = added.each x below (omega arith) in
        let value = more_is count c.visits more is x c.target (omega arith) in
        let long = added.long in
        let after = one.each x (omega arith) (omega arith) in
        omega arith
