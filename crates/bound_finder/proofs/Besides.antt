-- The least method that stands beside one of others.
use Rattle.std.proofs.Common.{◌≡◌, ◌⊎◌, ℕ, ◌<◌, ◌≤◌, Bool, true, List, [], ◌∷◌, ◌++◌, length, get_or, set as set_at, Contains, Option, Some, None, refl, sym, ap, ◌∙◌, subst, inl, inr, arith}
use Rattle.std.specs.Prelude.{slice_get}
use Rattle.std.proofs.lemmas.Bool.{cases_eq, cases_lt}
use Rattle.std.proofs.lemmas.List.{get_or-set_same, get_or-set_other, length-set}
use Rattle.std.proofs.lemmas.List.Elements.{Contains-push, Contains-push_cases, Contains-append_left}
use Rattle.std.proofs.lemmas.Option.{slice_get-get_or}
use Rattle.lists.proofs.Lemmas.{some_same, none≢some, some_is, some_in}
use Rattle.section_check.specs.Least.{IsLeast, lesser_of}
use Rattle.section_check.proofs.LeastLemmas.{least_either}
use Rattle.opcodes.specs.Start.{IsStart, AreStarts}
use Rattle.bytecode_model.specs.Program.{Program, Body, body_of}
use Rattle.method_flow.specs.declared.flow.Call.{Call}
use Rattle.method_flow.specs.Calls.{IsCall, IsStartOf, IsTarget}
use Rattle.method_flow.specs.Flow.{Flow, Coded, IsCoded, IsCodedOf, IsFlowOf, targets_of_call}
use Rattle.method_flow.specs.Kinds.{RowsAreOfTheirKinds}
use Rattle.method_flow.specs.Recursion.{MayCall}
use Rattle.method_flow.specs.Regions.{IsWithin}
use Rattle.method_flow.specs.Regions.IsWithin.{itself, calls}
use Rattle.flow_graph.proofs.Starting.{call_at, among_at, place_among, body, call_listed, listed_calls}
use Rattle.bound_finder.specs.declared.known.Known.{Known}
use Rattle.bound_finder.specs.Known.{BoundSetting, known_at}
use Rattle.bound_finder.specs.Ending.{IsLargeWithin}
use Rattle.bound_finder.specs.Sharing.{IsBesideCalled, IsLargeAlone, AreLeastCalled, AreLeastWithin}
use Rattle.bound_finder.proofs.Growing.{front_behind, last_behind}

-- ---- of a list with one item more

abbrev pub IsAmong : {X : Type 0} → (X → ℕ → Type 0) → List X → ℕ → Type 0
IsAmong {X} Q xs u = (x : X) × Contains xs x × Q x u

pub least_more : {X : Type 0} (Q : X → ℕ → Type 0) (xs : List X) (x : X) (a b : Option ℕ) → IsLeast (IsAmong Q xs) a → IsLeast (Q x) b → IsLeast (IsAmong Q (xs ++ x ∷ [])) (lesser_of a b)
least_more {X} Q xs x a b ha hb =
    least_either (IsAmong Q xs) (Q x) (IsAmong Q (xs ++ x ∷ [])) a b (λ u h. (h.0, Contains-append_left xs (x ∷ []) h.0 h.1, h.2)) (λ u h. (x, Contains-push xs x, h)) (λ u h.
    elim (Contains-push_cases xs x h.0 h.1) [
      | inl before ↦ inl (h.0, before, h.2)
      | inr same ↦ inr (let Y : X → Type 0 = λ y. Q y u in subst Y (sym same) h.2)
    ]) ha hb

-- the number that there is is the least one
pub least_alone : (o : Option ℕ) → IsLeast (λ u. o ≡ Some u) o
least_alone None = λ u e. none≢some u e
least_alone (Some n) = (refl, λ u less e. absurd (let same = some_same n u e in omega arith))

-- ---- of a method and all that it may call

-- a least number with one property is the least with another, where each number with that one isn't less than some with the first
pub least_through : (S R : ℕ → Type 0) (o : Option ℕ) → ((u : ℕ) → S u → R u) → ((u : ℕ) → R u → (v : ℕ) × (v ≤ u) × S v) → IsLeast S o → IsLeast R o
least_through S R None to below h = λ u r. let v = below u r in h v.0 v.2
least_through S R (Some n) to below h = (to n h.0, λ u less r. let v = below u r in let most = v.1 in h.1 v.0 (omega arith) v.2)

-- where some number has a property, the least one is there and isn't greater
pub least_there : (R : ℕ → Type 0) (o : Option ℕ) (u : ℕ) → R u → IsLeast R o → (v : ℕ) × (v ≤ u) × (o ≡ Some v)
least_there R None u r h = absurd (h u r)
least_there R (Some n) u r h = elim (cases_lt u n) [ inl less ↦ absurd (h.1 u less r) | inr ge ↦ (n, ge, refl) ]

within_cases : (P : Program) (m u : ℕ) → IsWithin P m u → (u ≡ m) ⊎ ((p x : ℕ) × IsStartOf P m p × IsCall P m p × IsTarget P m p x × IsWithin P x u)
within_cases P m u (itself {m = z}) = inl refl
within_cases P m u (calls {m = a} {t = t} {x = b} p start call target rest) = inr (p, t, start, call, target, rest)

module _ (starts : (code : List ℕ) → AreStarts code) (kinds : RowsAreOfTheirKinds) (P : Program) (f : Flow) (of : IsFlowOf P f) (m : ℕ) (k : Coded) (is : slice_get f.methods m ≡ Some k) (coded : IsCoded k) where
  coded_of : IsCodedOf P m k
  coded_of = of.methods m k is

  -- a target of a listed call may be called
  pub may_call : (c : Call) → Contains k.calls c → (x : ℕ) → Contains (targets_of_call f c) x → MayCall P m x
  may_call c among x has =
      let at : slice_get k.calls among.0 ≡ Some c = slice_get-get_or k.calls among.0 c among.1 ∙ ap (λ (d : Call). Some d) among.2 in
      let place = place_among k.calls among.0 c at in
      let b = body starts kinds P m k coded coded_of in
      let start : IsStart k.code c.place = ((coded.calls c.place).0 place).start in
      record {
        place = c.place;
        start = some_in (body_of P m) b.0 (λ z. IsStart z.code c.place) b.1 (subst (λ (xs : List ℕ). IsStart xs c.place) (sym b.2.0) start);
        call = listed_calls starts kinds P m k coded coded_of c.place place;
        is_target = (of.targets m k c is among x).0 has;
      }

  -- and each that may be called is one
  pub call_of : (p x : ℕ) → IsStartOf P m p → IsCall P m p → IsTarget P m p x → (c : Call) × Contains k.calls c × Contains (targets_of_call f c) x
  call_of p x start call target =
      let b = body starts kinds P m k coded coded_of in
      let s = some_is (body_of P m) (λ z. IsStart z.code p) start in
      let one : s.0 ≡ b.0 = some_same s.0 b.0 (sym s.1 ∙ b.1) in
      let B : Body → Type 0 = λ z. IsStart z.code p in
      let here : IsStart k.code p = subst (λ (xs : List ℕ). IsStart xs p) b.2.0 (subst B one s.2) in
      let c = call_at k.calls p (call_listed starts kinds P m k coded coded_of p here call) in
      let T : ℕ → Type 0 = λ q. IsTarget P m q x in
      (c.1, among_at k.calls c.0 c.1 c.2, (of.targets m k c.1 is (among_at k.calls c.0 c.1 c.2) x).1 (subst T (sym c.3) target))

  -- what stands beside m is the least that may run of which a number is too large, where that is so of all that it may call
  module _ (table : List Known) (least : List (Option ℕ)) (called : AreLeastCalled P table m least) where
    abbrev large : Bool
    large = (known_at table m).too_large

    abbrev IsBesideWithin : ℕ → Type 0
    IsBesideWithin u = IsBesideCalled f k.calls least u ⊎ IsLargeAlone m large u

    to : (u : ℕ) → IsBesideWithin u → IsLargeWithin P table m u
    to u (inr alone) = let A : ℕ → Type 0 = λ y. IsLargeWithin P table m y in subst A (sym alone.0) (itself, alone.1)
    to u (inl c) =
        let x = c.2.0 in
        let call = may_call c.0 c.1 x c.2.1 in
        let L : Option ℕ → Type 0 = λ p. IsLeast (IsLargeWithin P table x) p in
        let first : IsLeast (IsLargeWithin P table x) (Some u) = subst L c.2.2 (called x call) in
        (calls call.place call.start call.call call.is_target first.0.0, first.0.1)

    back : (u : ℕ) → IsLargeWithin P table m u → (v : ℕ) × (v ≤ u) × IsBesideWithin v
    back u h =
        elim (within_cases P m u h.0) [
          | inl same ↦ (u, omega arith, inr (same, let L : ℕ → Type 0 = λ y. (known_at table y).too_large ≡ true in subst L same h.1))
          | inr w ↦
              let x = w.1 in
              let v = least_there (IsLargeWithin P table x) (get_or least x None) u (w.5, h.1) (called x (record { place = w.0; start = w.2; call = w.3; is_target = w.4 })) in
              let c = call_of w.0 x w.2 w.3 w.4 in
              (v.0, v.1, inl (c.0, c.1, (x, c.2, v.2)))
        ]

    pub least_is : (a b : Option ℕ) → IsLeast (IsBesideCalled f k.calls least) a → IsLeast (IsLargeAlone m large) b → IsLeast (IsLargeWithin P table m) (lesser_of a b)
    least_is a b ha hb =
        least_through IsBesideWithin (IsLargeWithin P table m) (lesser_of a b) to back
        (least_either (IsBesideCalled f k.calls least) (IsLargeAlone m large) IsBesideWithin a b (λ u h. inl h) (λ u h. inr h) (λ u h. h) ha hb)

-- ---- of all methods of an order

-- one method more
pub within_more : (set : BoundSetting) (done : List ℕ) (m : ℕ) (table : List Known) (least : List (Option ℕ)) (o : Option ℕ) → m < length least → AreLeastWithin set done table least
    → ((P : Program) → IsFlowOf P set.flow → AreLeastCalled P table m least → IsLeast (IsLargeWithin P table m) o) → AreLeastWithin set (done ++ m ∷ []) table (set_at least m o)
within_more set done m table least o inside h here = record {
  long = length-set least m o ∙ h.long;
  each = λ P of behind x has.
      let front = front_behind P done m behind in
      elim (cases_eq m x) [
        | inl same ↦
            let L : ℕ → Type 0 = λ y. IsLeast (IsLargeWithin P table y) (get_or (set_at least m o) y None) in
            let M : Option ℕ → Type 0 = λ p. IsLeast (IsLargeWithin P table m) p in
            subst L same (subst M (sym (get_or-set_same least m o None inside)) (here P of (λ y call. h.each P of front y (last_behind P done m behind y call))))
        | inr ne ↦
            let before : Contains done x = elim (Contains-push_cases done m x has) [ inl old ↦ old | inr same ↦ absurd (ne same) ] in
            let L : Option ℕ → Type 0 = λ p. IsLeast (IsLargeWithin P table x) p in
            subst L (sym (get_or-set_other least m x o None (λ e. ne (sym e)))) (h.each P of front x before)
      ];
}
