-- What is answered of all methods of an order, one behind the other.
use Rattle.std.proofs.Common.{ℕ, ◌+◌, List, [], ◌∷◌, ◌++◌, get_or, Contains, Option, None, sym, ap, ◌∙◌, subst, inl, inr, arith}
use Rattle.std.proofs.lemmas.List.{length_push}
use Rattle.std.proofs.lemmas.Option.{slice_get_within}
use Rattle.bound_rules.specs.Laws.{OneMoreMeets}
use Rattle.bound_finder.specs.declared.ending.MethodBound.{MethodBound}
use Rattle.bound_finder.specs.declared.methods.Methods.{Methods}
use Rattle.bound_finder.specs.Known.{BoundSetting, bounds_in, ForEach, known_at, IsKnownOf}
use Rattle.bound_finder.specs.Ready.{AreBehindCalls}
use Rattle.bound_finder.specs.Ending.{AreKnownWithin, IsMethodBound}
use Rattle.bound_finder.specs.Sharing.{AreLeastWithin, AreMethodBounds, AreFoundFor}
use Rattle.bound_finder.proofs.Gathering.{has_sections}
use Rattle.bound_finder.proofs.KnownWithin.{agree_within, exceed_within, numbers_within}
use Rattle.bound_finder.proofs.Pushed.{push_cases}

pub bounds_more : (set : BoundSetting) (done : List ℕ) (bounds : List MethodBound) (m : ℕ) (x : MethodBound) → AreMethodBounds set done bounds → ForEach set (λ P. IsMethodBound P set.timing (bounds_in set) m x)
    → AreMethodBounds set (done ++ m ∷ []) (bounds ++ x ∷ [])
bounds_more set done bounds m x h here = record {
  long = length_push bounds x ∙ (ap (λ (n : ℕ). n + 1) h.long ∙ sym (length_push done m));
  each = λ P of i n y ni yi.
      let long = h.long in
      elim (push_cases done m n i ni) [
        | inl old ↦
            elim (push_cases bounds x y i yi) [
              | inl before ↦ h.each P of i n y old before
              | inr new ↦ let below = slice_get_within done i n old in let at = new.0 in absurd (omega arith)
            ]
        | inr last ↦
            elim (push_cases bounds x y i yi) [
              | inl before ↦ let below = slice_get_within bounds i y before in let at = last.0 in absurd (omega arith)
              | inr new ↦
                  let N : ℕ → Type 0 = λ k. IsMethodBound P set.timing (bounds_in set) k y in
                  let Y : MethodBound → Type 0 = λ z. IsMethodBound P set.timing (bounds_in set) m z in
                  subst N last.1 (subst Y new.1 (here P of))
            ]
      ];
}

-- what is known of all that may run while one of them does
pub each_known : OneMoreMeets → (set : BoundSetting) (order : List ℕ) (a : Methods) (least : List (Option ℕ)) → AreFoundFor set order a → AreLeastWithin set order a.table.items least → (m : ℕ) → Contains order m
    → ForEach set (λ P. AreKnownWithin P set.timing (bounds_in set) a.table.items (get_or least m None) m)
each_known one_more set order a least h within m has = λ P of.
    let table = a.table.items in
    let behind : AreBehindCalls P order = h.behind P of in
    let known : (x : ℕ) → Contains order x → IsKnownOf P set.timing (bounds_in set) table x (known_at table x) = h.found.known P of behind in
    record {
      agree = λ N are x inside. (agree_within P set.timing (bounds_in set) order table behind known m has N are x inside, exceed_within P set.timing (bounds_in set) order table behind known m has N are x inside);
      known = λ small. numbers_within P set.timing (bounds_in set) order table behind known m has small;
      sections = has_sections one_more P set.timing (bounds_in set) order table behind known (h.found.shown P of behind) (λ x among. (get_or least x None, within.each P of behind x among)) m has;
      is_least = within.each P of behind m has;
    }
