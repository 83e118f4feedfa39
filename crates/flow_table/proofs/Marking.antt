-- Marks, one invoke and one method after another.
use Rattle.std.proofs.Common.{◌≡◌, ◌⊎◌, ℕ, ◌-◌, ◌<◌, ◌≤◌, Bool, true, false, List, [], ◌∷◌, ◌++◌, length, get_or, Contains, refl, sym, ap, ◌∙◌, subst, inl, inr, arith, length-append}
use Rattle.std.proofs.Math.ListN.{set, length-set}
use Rattle.std.specs.Prelude.{slice_get}
use Rattle.std.proofs.lemmas.Bool.{cases_eq, cases_lt}
use Rattle.std.proofs.lemmas.Grind.{get_or-set_at}
use Rattle.std.proofs.lemmas.List.{get_or-set_other}
use Rattle.std.proofs.lemmas.List.Elements.{Contains-append_cases}
use Rattle.std.proofs.lemmas.Option.{slice_get_within}
use Rattle.lists.proofs.Lemmas.{some_same}
use Rattle.lists.specs.Members.{nil_contains}
use Rattle.method_flow.specs.declared.flow.Call.{Call}
use Rattle.method_flow.specs.Flow.{Coded}
use Rattle.flow_table.specs.Marks.{AreMarked, HasMarks}
use Rattle.flow_table.specs.Targets.{IsNamedByInvoke}
use Rattle.flow_table.proofs.Listing.{in_front, last}
use Rattle.flow_table.proofs.Receiving.{single}

pub none_marked : (coded : ℕ) (marks : List Bool) → AreMarked coded [] marks marks
none_marked coded marks = record { long = refl; kept = λ i h. h; each = λ c has. absurd (nil_contains c has) }

-- an invoke that selects no other
pub mark_past : (coded : ℕ) (calls : List Call) (c : Call) (old marks : List Bool) → AreMarked coded calls old marks → c.targets < coded → AreMarked coded (calls ++ c ∷ []) old marks
mark_past coded calls c old marks h less = record { long = h.long; kept = h.kept; each = λ x has from. by x from (Contains-append_cases calls (c ∷ []) x has) }
  where
    by : (x : Call) → coded ≤ x.targets → Contains calls x ⊎ Contains (c ∷ []) x → get_or marks (x.targets - coded) false ≡ true
    by x from (inl there) = h.each x there from
    by x from (inr here) = let same : c.targets ≡ x.targets = ap (λ (y : Call). y.targets) (single c x here) in absurd (omega arith)

pub mark_one : (coded : ℕ) (calls : List Call) (c : Call) (old marks new : List Bool) → AreMarked coded calls old marks → coded ≤ c.targets → c.targets - coded < length marks → new ≡ set marks (c.targets - coded) true
    → AreMarked coded (calls ++ c ∷ []) old new
mark_one coded calls c old marks new h from inside is = record {
  long = ap length is ∙ length-set marks place true ∙ h.long;
  kept = λ i e. still i (h.kept i e);
  each = λ x has at. by x at (Contains-append_cases calls (c ∷ []) x has);
}
  where
    place : ℕ
    place = c.targets - coded

    at_place : (i : ℕ) → i ≡ place → get_or new i false ≡ true
    at_place i same = ap (λ (xs : List Bool). get_or xs i false) is ∙ get_or-set_at marks place i true false same inside

    still : (i : ℕ) → get_or marks i false ≡ true → get_or new i false ≡ true
    still i e = elim (cases_eq i place) [ inl same ↦ at_place i same | inr other ↦ ap (λ (xs : List Bool). get_or xs i false) is ∙ get_or-set_other marks place i true false other ∙ e ]

    by : (x : Call) → coded ≤ x.targets → Contains calls x ⊎ Contains (c ∷ []) x → get_or new (x.targets - coded) false ≡ true
    by x at (inl there) = still (x.targets - coded) (h.each x there at)
    by x at (inr here) = at_place (x.targets - coded) (ap (λ (y : Call). y.targets - coded) (sym (single c x here)))

pub no_marks : (coded count : ℕ) (marks : List Bool) → length marks ≡ count → HasMarks coded count [] marks
no_marks coded count marks long = record { long = long; named = λ m h. absurd (let within = slice_get_within [] h.caller h.method h.at in omega arith) }

pub marks_more : (coded count : ℕ) (ks : List Coded) (k : Coded) (calls : List Call) (old new : List Bool) → HasMarks coded count ks old → calls ≡ k.calls → AreMarked coded calls old new → HasMarks coded count (ks ++ k ∷ []) new
marks_more coded count ks k calls old new h same are = record {
  long = are.long ∙ h.long;
  named = λ m x. by m x (cases_lt x.caller (length ks));
}
  where
    by : (m : ℕ) (x : IsNamedByInvoke coded (ks ++ k ∷ []) m) → (x.caller < length ks) ⊎ (length ks ≤ x.caller) → get_or new m false ≡ true
    by m x (inl less) =
        are.kept m (h.named m (record { caller = x.caller; method = x.method; at = sym (in_front ks (k ∷ []) x.caller less) ∙ x.at; call = x.call; among = x.among; number = x.number }))
    by m x (inr ge) =
        let within = slice_get_within (ks ++ k ∷ []) x.caller x.method x.at in
        let size = length-append ks (k ∷ []) in
        let place : length ks ≡ x.caller = omega arith in
        let method : k ≡ x.method = some_same k x.method (sym (ap (slice_get (ks ++ k ∷ [])) (sym place) ∙ last ks k) ∙ x.at) in
        let among : Contains calls x.call = subst (λ (cs : List Call). Contains cs x.call) (ap (λ (y : Coded). y.calls) (sym method) ∙ sym same) x.among in
        let number = x.number in
        let index : x.call.targets - coded ≡ m = omega arith in
        subst (λ (i : ℕ). get_or new i false ≡ true) index (are.each x.call among (omega arith))
