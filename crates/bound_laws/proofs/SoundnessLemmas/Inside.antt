-- What a section says of its nodes: the cost of a node covers its own cost, and the value of each target that can end.
use Rattle.std.proofs.Common.{◌≡◌, ◌⊎◌, ℕ, zero, suc, ◌+◌, ◌<◌, ◌≤◌, Bool, true, false, List, [], ◌∷◌, length, Contains, Option, Some, None, slice_index, refl, sym, ap, ◌∙◌, inl, inr, arith}
use Rattle.std.specs.Prelude.{if◌then◌else◌, unwrap_or, nat_lt, nat_le, slice_index_or}
use Rattle.std.proofs.lemmas.Bool.Decides.{leb_tells}
use Rattle.certificates.specs.declared.cert.CertSection.{CertSection}
use Rattle.bytecode_model.specs.Program.{Program}
use Rattle.method_flow.specs.Nodes.{Node, At, number_of}
use Rattle.method_flow.specs.Calls.{IsCall, IsTarget, targets_of}
use Rattle.method_flow.specs.Keeping.{BoundOf}
use Rattle.method_flow.specs.declared.timing.Timing.{Timing}
use Rattle.method_flow.specs.Costs.{IsOwnCost}
use Rattle.bound_rules.specs.Costs.{greater, greatest_of}
use Rattle.bound_rules.specs.Told.{Valued, most_cycles, within_limit, with_cycles}
use Rattle.bound_rules.specs.Sections.{IsSectionNode}
use Rattle.bound_laws.proofs.SoundnessLemmas.Supported.{IsSupported}

-- ---- the greatest of the targets' values

above_greater : (a b : Option ℕ) (n : ℕ) → (a ≡ Some n) ⊎ ((m : ℕ) × (b ≡ Some m) × (n ≤ m)) → (m : ℕ) × (greater a b ≡ Some m) × (n ≤ m)
above_greater None b n (inl e) = absurd (cc)
above_greater None b n (inr h) = h
above_greater (Some x) None n (inl e) = let same : x ≡ n = cc in (x, refl, omega arith)
above_greater (Some x) None n (inr (m, e, few)) = absurd (cc)
above_greater (Some x) (Some y) n h = by (nat_lt x y) refl
  where
    by : (b : Bool) → nat_lt x y ≡ b → (m : ℕ) × (◌≡◌ {A = Option ℕ} (Some (if b then y else x)) (Some m)) × (n ≤ m)
    by true is =
        elim (leb_tells (suc x) y) [
          | inl small ↦ (y, refl, elim h [ inl e ↦ let same : x ≡ n = cc in let l = small.1 in omega arith | inr r ↦ let same : y ≡ r.0 = cc in let l = r.2 in omega arith ])
          | inr large ↦ let bad : true ≡ false = sym is ∙ large.0 in absurd (cc)
        ]
    by false is =
        elim (leb_tells (suc x) y) [
          | inl small ↦ let bad : false ≡ true = sym is ∙ small.0 in absurd (cc)
          | inr large ↦ (x, refl, elim h [ inl e ↦ let same : x ≡ n = cc in omega arith | inr r ↦ let same : y ≡ r.0 = cc in let l = r.2 in let k = large.1 in omega arith ])
        ]

above_all : (value : ℕ → Option ℕ) (ts : List ℕ) (i : ℕ) (x n : ℕ) → i < length ts → slice_index_or ts i x ≡ x → value x ≡ Some n → (m : ℕ) × (greatest_of value ts ≡ Some m) × (n ≤ m)
above_all value [] i x n below at is = absurd (omega arith)
above_all value (t ∷ ts) zero x n below at is = above_greater (value t) (greatest_of value ts) n (inl (ap value at ∙ is))
above_all value (t ∷ ts) (suc i) x n below at is = let r = above_all value ts i x n (omega arith) at is in above_greater (value t) (greatest_of value ts) n (inr r)

at_least : (value : ℕ → Option ℕ) (ts : List ℕ) (x n : ℕ) → Contains ts x → value x ≡ Some n → n ≤ unwrap_or (greatest_of value ts) 0
at_least value ts x n has is =
    let r = above_all value ts has.0 x n has.1 has.2 is in
    let e : unwrap_or (greatest_of value ts) 0 ≡ r.0 = ap (λ (o : Option ℕ). unwrap_or o 0) r.1 in
    let l = r.2 in
    omega arith

-- ---- what an invoke is told, by what the sections say

pub number_said : (own : ℕ) (o : Option (Option ℕ)) (n : ℕ) → within_limit own o ≡ Some (Some n) → o ≡ Some (Some n)
number_said own None n e = absurd (cc)
number_said own (Some None) n e = absurd (cc)
number_said own (Some (Some k)) n e = by (nat_le (own + k) most_cycles) e
  where
    by : (b : Bool) → ◌≡◌ {A = Option (Option ℕ)} (if b then Some (Some k) else None) (Some (Some n)) → ◌≡◌ {A = Option (Option ℕ)} (Some (Some k)) (Some (Some n))
    by true e' = e'
    by false e' = absurd (cc)

pub never_said : (own : ℕ) (o : Option (Option ℕ)) → within_limit own o ≡ Some None → o ≡ Some None
never_said own None e = absurd (cc)
never_said own (Some None) e = refl
never_said own (Some (Some n)) e = by (nat_le (own + n) most_cycles) e
  where
    by : (b : Bool) → ◌≡◌ {A = Option (Option ℕ)} (if b then Some (Some n) else None) (Some None) → ◌≡◌ {A = Option (Option ℕ)} (Some (Some n)) (Some None)
    by true e' = absurd (cc)
    by false e' = absurd (cc)

pub never_without : (more : ℕ) (o : Option (Option ℕ)) → with_cycles more o ≡ Some None → o ≡ Some None
never_without more None e = absurd (cc)
never_without more (Some None) e = refl
never_without more (Some (Some n)) e = absurd (cc)

pub number_without : (more : ℕ) (o : Option (Option ℕ)) (n : ℕ) → with_cycles more o ≡ Some (Some n) → (v : ℕ) × (o ≡ Some (Some v)) × (n ≡ v + more)
number_without more None n e = absurd (cc)
number_without more (Some None) n e = absurd (cc)
number_without more (Some (Some v)) n e = let same : v + more ≡ n = cc in (v, refl, sym same)

-- ---- the costs of nodes

module _ (P : Program) (t : Timing) (bound_of : BoundOf) (Keep : ℕ → List ℕ → Type 0) (earlier : List Valued) (s : CertSection) (value : Option ℕ) (h : IsSupported P t bound_of Keep earlier s value) where
  -- so many cycles are at most each own cost of a node
  abbrev pub IsBelowOwn : Node → (micro : ℕ) → Type 0
  IsBelowOwn u micro = (c : ℕ) → IsOwnCost P t s.method u c → micro ≤ c

  pub node_covers : (u : Node) (micro : ℕ) → IsSectionNode P s.method h.view.told u → IsBelowOwn u micro → micro ≤ slice_index h.view.costs (number_of u)
  node_covers u micro reached few = let r = h.view.are_costs.each u reached in let l = few r.0 r.1 in let e = r.2 in omega arith

  -- a target that can end has a number, which the cost of the invoke covers, too
  pub record TargetCost (p x : ℕ) : Type 0 where
    pub number : ℕ
    pub told : h.view.told p x ≡ Some (Some number)
    pub covers : (micro : ℕ) → IsBelowOwn (At p) micro → micro + number ≤ slice_index h.view.costs (number_of (At p))

  pub target_cost : (p x : ℕ) → IsSectionNode P s.method h.view.told (At p) → IsCall P s.method p → IsTarget P s.method p x → (h.view.told p x ≡ Some None → ⊥) → TargetCost p x
  target_cost p x reached call target ended = by (h.view.told p x) refl
    where
      by : (o : Option (Option ℕ)) → h.view.told p x ≡ o → TargetCost p x
      by None is = absurd (h.present x (record { place = p; reached = reached; call = call; target = target; absent = is }))
      by (Some None) is = absurd (ended is)
      by (Some (Some n)) is = record {
        number = n;
        told = is;
        covers = λ micro few.
            let r = h.view.are_costs.each (At p) reached in
            let l = few r.0 r.1 in
            let e = r.2 in
            let above = at_least (λ y. unwrap_or (h.view.told p y) None) (targets_of P s.method p) x n target (ap (λ (o : Option (Option ℕ)). unwrap_or o None) is) in
            omega arith;
      }
