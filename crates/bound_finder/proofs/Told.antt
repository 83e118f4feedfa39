-- What a call is told of its targets.
use Rattle.std.proofs.Common.{◌≡◌, ℕ, ◌+◌, ◌<◌, ◌≤◌, Bool, true, false, List, length, get_or, All, Contains, Option, Some, None, refl, sym, ap, ◌∙◌, subst}
use Rattle.std.specs.Prelude.{slice_get, ◌↔◌, IsSome, IsTrue, IfSome, is_some, unwrap_or}
use Rattle.std.proofs.lemmas.List.{get_or_default}
use Rattle.std.proofs.lemmas.List.Elements.{All-contains, All-get_or}
use Rattle.lists.proofs.Lemmas.{none≢some, some_same}
use Rattle.bound_rules.specs.Costs.{greatest_of}
use Rattle.bound_rules.proofs.Greatest.{IsGreatestOf, greatest_is}
use Rattle.compact_walks.specs.Limited.{cycles_limit, limited}
use Rattle.bound_finder.specs.declared.known.Known.{Known}
use Rattle.bound_finder.specs.declared.telling.Told.{Told}
use Rattle.method_flow.specs.declared.flow.Call.{Call}
use Rattle.method_flow.specs.Flow.{Coded, Flow}
use Rattle.node_costs.specs.Costs.{code_load, method_load}
use Rattle.bound_finder.specs.Known.{BoundSetting, unknown, known_at, IsLimited}
use Rattle.bound_finder.specs.Telling.{IsToldBy, AreToldBy, AreToldIn, IsSmallTold, with_back}
use Rattle.bound_finder.proofs.Greater.{greatest_small}
use Rattle.bound_finder.proofs.Limiting.{limited_most}

pub known_read : (table : List Known) (x : ℕ) (d : Known) → x < length table → get_or table x d ≡ known_at table x
known_read table x d lt = get_or_default table x d unknown lt

-- ---- whether a call goes on

some_back : (back : ℕ) (o : Option ℕ) (n : ℕ) → with_back back o ≡ Some n → IsSome o
some_back back None n is = absurd (none≢some n is)
some_back back (Some m) n is = refl

none_back : (back : ℕ) (o : Option ℕ) → IsSome o → with_back back o ≡ None → ⊥
none_back back None some is = let e : false ≡ true = some in cc
none_back back (Some m) some is = none≢some (limited (m + back)) (sym is)

-- a method with a number is among them where their greatest number is one
abbrev HasSome : List Known → List ℕ → Type 0
HasSome table targets = (x : ℕ) × Contains targets x × IsSome (known_at table x).full

goes_by : (table : List Known) (back : ℕ) (targets : List ℕ) (o : Option ℕ) → IsGreatestOf (λ x. with_back back (known_at table x).full) targets o → IsTrue (is_some o) ↔ HasSome table targets
goes_by table back targets None h = (
  λ yes. let e : false ≡ true = yes in absurd (cc),
  λ has. absurd (none_back back (known_at table has.0).full has.2 (h has.0 has.1)),
)
goes_by table back targets (Some n) h = (λ yes. (h.0.0, h.0.1, some_back back (known_at table h.0.0).full n h.0.2), λ has. refl)

-- ---- limited numbers

back_small : (back : ℕ) (o : Option ℕ) → IfSome (with_back back o) (λ n. n ≤ cycles_limit)
back_small back None = tt
back_small back (Some n) = limited_most (n + back)

known_small : (table : List Known) (targets : List ℕ) → All (λ t. t < length table) targets → All IsLimited table → (x : ℕ) → Contains targets x → IsLimited (known_at table x)
known_small table targets known limited x has = All-get_or IsLimited table x unknown (All-contains (λ t. t < length table) targets x known has) limited

-- ---- together

pub is_told : (table : List Known) (back : ℕ) (targets : List ℕ) (goes : Bool) (a b : ℕ) (inside full : Option ℕ) → inside ≡ greatest_of (λ x. (known_at table x).asked) targets
    → full ≡ greatest_of (λ x. with_back back (known_at table x).full) targets → goes ≡ is_some full → a ≡ unwrap_or inside 0 → b ≡ unwrap_or full 0
    → IsToldBy table back targets (record { goes_on = goes; inside = a; full = b })
is_told table back targets goes a b inside full inside_is full_is goes_is a_is b_is = record {
  goes_on =
      let f : ℕ → Option ℕ = λ x. with_back back (known_at table x).full in
      subst (λ (g : Bool). IsTrue g ↔ HasSome table targets) (sym (goes_is ∙ ap is_some full_is)) (goes_by table back targets (greatest_of f targets) (greatest_is f targets));
  inside = a_is ∙ ap (λ (o : Option ℕ). unwrap_or o 0) inside_is;
  full = b_is ∙ ap (λ (o : Option ℕ). unwrap_or o 0) full_is;
}

pub is_small : (table : List Known) (back : ℕ) (targets : List ℕ) (a b : ℕ) (inside full : Option ℕ) → inside ≡ greatest_of (λ x. (known_at table x).asked) targets
    → full ≡ greatest_of (λ x. with_back back (known_at table x).full) targets → a ≡ unwrap_or inside 0 → b ≡ unwrap_or full 0 → All (λ t. t < length table) targets → All IsLimited table → (a ≤ cycles_limit) × (b ≤ cycles_limit)
is_small table back targets a b inside full inside_is full_is a_is b_is known limited = (
  subst (λ (k : ℕ). k ≤ cycles_limit) (sym (a_is ∙ ap (λ (o : Option ℕ). unwrap_or o 0) inside_is))
      (greatest_small (λ x. (known_at table x).asked) targets cycles_limit (λ x has. (known_small table targets known limited x has).asked)),
  subst (λ (k : ℕ). k ≤ cycles_limit) (sym (b_is ∙ ap (λ (o : Option ℕ). unwrap_or o 0) full_is))
      (greatest_small (λ x. with_back back (known_at table x).full) targets cycles_limit (λ x has. back_small back (known_at table x).full)),
)

-- ---- all calls of a method

pub load_is : (read : ℕ) (methods : List Coded) (m : ℕ) (k : Coded) → slice_get methods m ≡ Some k → code_load read k.code ≡ method_load read methods m
load_is read methods m k is = ap (λ (o : Option Coded). elim o [ None ↦ 0 | Some x ↦ code_load read x.code ]) (sym is)

pub told_in : (set : BoundSetting) (m : ℕ) (table : List Known) (k : Coded) (calls : List Call) (f : Flow) (read back : ℕ) (told : List Told) → slice_get set.flow.methods m ≡ Some k → f ≡ set.flow → calls ≡ k.calls
    → read ≡ set.timing.read → back ≡ code_load read k.code → AreToldBy table back f calls told → All IsSmallTold told → AreToldIn set m table told
told_in set m table k calls f read back told is flow_is calls_are read_is back_is are small = (
  small,
  λ j at.
      let same : k ≡ j = some_same k j (sym is ∙ at) in
      let load : back ≡ method_load set.timing.read set.flow.methods m = back_is ∙ ap (λ (r : ℕ). code_load r k.code) read_is ∙ load_is set.timing.read set.flow.methods m k is in
      let B : ℕ → Type 0 = λ b. AreToldBy table b set.flow j.calls told in
      let F : Flow → Type 0 = λ g. AreToldBy table back g j.calls told in
      let C : List Call → Type 0 = λ cs. AreToldBy table back f cs told in
      subst B load (subst F flow_is (subst C (calls_are ∙ ap (λ (x : Coded). x.calls) same) are)),
)
