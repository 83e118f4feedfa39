-- The least target that is absent, call by call.
use Rattle.std.proofs.Common.{◌≡◌, ℕ, ◌+◌, ◌*◌, ◌<◌, ◌≤◌, Bool, true, false, List, length, Option, Some, None, refl, sym, ap, ◌∙◌, subst, inl, inr, arith}
use Rattle.std.specs.Prelude.{slice_get}
use Rattle.std.proofs.lemmas.Bool.{cases_lt, both_ways}
use Rattle.std.proofs.lemmas.Option.{slice_get_within}
use Rattle.lists.proofs.Lemmas.{none≢some, some_same}
use Rattle.section_check.specs.Least.{IsLeast, lesser_of}
use Rattle.section_check.proofs.LeastLemmas.{least_same, least_either}
use Rattle.method_flow.specs.declared.flow.Call.{Call}
use Rattle.flow_graph.specs.Reach.{flag_at}
use Rattle.cert_checker.specs.declared.summaries.Summary.{Summary}
use Rattle.cert_checker.specs.Prepared.{IsAbsentAt}

-- one of the first i calls, to which control comes, is told of x, the least of its targets that are absent
pub record IsAbsentUnder (calls : List Call) (summaries : List Summary) (flags : List Bool) (i x : ℕ) : Type 0 where
  pub at : IsAbsentAt calls summaries flags x
  pub early : at.index < i

-- the least number that is this one, or there is none
itself : (o : Option ℕ) → IsLeast (λ x. o ≡ Some x) o
itself None = λ u e. none≢some u e
itself (Some n) = (refl, λ u less e. let same = some_same n u e in omega arith)

pub absent_none : (calls : List Call) (summaries : List Summary) (flags : List Bool) → IsLeast (IsAbsentUnder calls summaries flags 0) None
absent_none calls summaries flags = λ u h. let early = h.early in omega arith

-- at the call at place i
here : (calls : List Call) (summaries : List Summary) (flags : List Bool) (i x : ℕ) (c : Call) (s : Summary) → slice_get calls i ≡ Some c → slice_get summaries i ≡ Some s → (h : IsAbsentAt calls summaries flags x) → h.index ≡ i
    → (flag_at flags (2 * c.place) ≡ true) × (s.absent ≡ Some x)
here calls summaries flags i x c s c_is s_is h same =
    let same_call : h.call ≡ c = some_same h.call c (sym h.call_is ∙ ap (slice_get calls) same ∙ c_is) in
    let same_summary : h.summary ≡ s = some_same h.summary s (sym h.summary_is ∙ ap (slice_get summaries) same ∙ s_is) in
    let P : Call → Type 0 = λ k. flag_at flags (2 * k.place) ≡ true in
    let Q : Summary → Type 0 = λ k. k.absent ≡ Some x in (subst P same_call h.come_to, subst Q same_summary h.absent)

pub absent_more : (calls : List Call) (summaries : List Summary) (flags : List Bool) (i : ℕ) (c : Call) (s : Summary) (o : Option ℕ) → slice_get calls i ≡ Some c → slice_get summaries i ≡ Some s → flag_at flags (2 * c.place) ≡ true
    → IsLeast (IsAbsentUnder calls summaries flags i) o → IsLeast (IsAbsentUnder calls summaries flags (i + 1)) (lesser_of o s.absent)
absent_more calls summaries flags i c s o c_is s_is come h =
    least_either (IsAbsentUnder calls summaries flags i) (λ x. s.absent ≡ Some x) (IsAbsentUnder calls summaries flags (i + 1)) o s.absent
    (λ u x. let early = x.early in record { at = x.at; early = omega arith })
    (λ u is. record { at = record { index = i; call = c; summary = s; call_is = c_is; summary_is = s_is; come_to = come; absent = is }; early = omega arith })
    (λ u x.
    elim (cases_lt x.at.index i) [
      | inl less ↦ inl (record { at = x.at; early = less })
      | inr ge ↦ let early = x.early in inr (here calls summaries flags i u c s c_is s_is x.at (omega arith)).1
    ])
    h (itself s.absent)

-- control doesn't come to it
pub absent_skips : (calls : List Call) (summaries : List Summary) (flags : List Bool) (i : ℕ) (c : Call) (s : Summary) (o : Option ℕ) → slice_get calls i ≡ Some c → slice_get summaries i ≡ Some s → flag_at flags (2 * c.place) ≡ false
    → IsLeast (IsAbsentUnder calls summaries flags i) o → IsLeast (IsAbsentUnder calls summaries flags (i + 1)) o
absent_skips calls summaries flags i c s o c_is s_is never h =
    least_same (IsAbsentUnder calls summaries flags i) (IsAbsentUnder calls summaries flags (i + 1)) o
    (λ u x. let early = x.early in record { at = x.at; early = omega arith })
    (λ u x.
    elim (cases_lt x.at.index i) [
      | inl less ↦ record { at = x.at; early = less }
      | inr ge ↦ let early = x.early in absurd (both_ways (flag_at flags (2 * c.place)) never (here calls summaries flags i u c s c_is s_is x.at (omega arith)).0)
    ])
    h

pub absent_all : (calls : List Call) (summaries : List Summary) (flags : List Bool) (i : ℕ) (o : Option ℕ) → length calls ≤ i → IsLeast (IsAbsentUnder calls summaries flags i) o → IsLeast (IsAbsentAt calls summaries flags) o
absent_all calls summaries flags i o all h =
    least_same (IsAbsentUnder calls summaries flags i) (IsAbsentAt calls summaries flags) o (λ u x. x.at)
    (λ u x. let below = slice_get_within calls x.index x.call x.call_is in record { at = x; early = omega arith })
    h
