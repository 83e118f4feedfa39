-- Sections that meet their conditions one behind another, found by their values.
use Rattle.std.proofs.Common.{◌≡◌, ◌⊎◌, ℕ, ◌+◌, nat_le, Bool, true, false, ◌==◌, List, [], ◌∷◌, ◌++◌, Option, Some, None, refl, sym, ap, ◌∙◌, subst, inl, inr, eqb-true}
use Rattle.std.specs.Prelude.{if◌then◌else◌, ◌&&◌}
use Rattle.lists.specs.Tests.{and_left, and_right, not_true}
use Rattle.bytecode_model.specs.Program.{Program}
use Rattle.method_flow.specs.Keeping.{BoundOf}
use Rattle.method_flow.specs.declared.timing.Timing.{Timing}
use Rattle.bound_rules.specs.Told.{Valued, section_value, is_same, value_in, with_cycles, most_cycles, within_limit}
use Rattle.bound_rules.specs.Sections.{MeetsSection}
use Rattle.bound_rules.specs.Met.{AreMet}
use Rattle.bound_rules.specs.Met.AreMet.{one_more}
use Rattle.bound_rules.specs.Laws.{AllAreMet, OneMoreMeets}

pub all_are_met : AllAreMet
all_are_met P t bound_of earlier [] values met all = subst (λ (vs : List Valued). AreMet P t bound_of vs) (sym all) met
all_are_met P t bound_of earlier (s ∷ ss) values met (value, meets, more) = all_are_met P t bound_of (earlier ++ section_value s value ∷ []) ss values (one_more met s value meets) more

pub one_more_meets : OneMoreMeets
one_more_meets P t bound_of earlier [] values s value all meets =
    (value, subst (λ (vs : List Valued). MeetsSection P t bound_of vs s value) all meets, ap (λ (vs : List Valued). vs ++ section_value s value ∷ []) all)
one_more_meets P t bound_of earlier (x ∷ ss) values s value (first, one, more) meets =
    (first, one, one_more_meets P t bound_of (earlier ++ section_value x first ∷ []) ss values s value more meets)

-- ---- by a value

same_is : (a b : Bool) → is_same a b ≡ true → b ≡ a
same_is true b e = e
same_is false b e = not_true b e

-- the value among entries with one more behind them is that among the entries, or that of the one
pub found_behind : (inside : Bool) (m : ℕ) (vs : List Valued) (w : Valued) (x : Option ℕ) → value_in inside m (vs ++ w ∷ []) ≡ Some x
    → (value_in inside m vs ≡ Some x) ⊎ ((w.method ≡ m) × (w.inside ≡ inside) × (w.value ≡ x))
found_behind inside m [] w x e = by (is_same inside w.inside && w.method == m) refl e
  where
    by : (b : Bool) → (is_same inside w.inside && w.method == m) ≡ b → ◌≡◌ {A = Option (Option ℕ)} (if b then Some w.value else None) (Some x)
        → (value_in inside m [] ≡ Some x) ⊎ ((w.method ≡ m) × (w.inside ≡ inside) × (w.value ≡ x))
    by true is e' = inr (eqb-true w.method m (and_right (is_same inside w.inside) (w.method == m) is), same_is inside w.inside (and_left (is_same inside w.inside) (w.method == m) is), cc)
    by false is e' = absurd (cc)
found_behind inside m (v ∷ vs) w x e = by (is_same inside v.inside && v.method == m) e (found_behind inside m vs w x)
  where
    by : (b : Bool) → ◌≡◌ {A = Option (Option ℕ)} (if b then Some v.value else value_in inside m (vs ++ w ∷ [])) (Some x)
        → (value_in inside m (vs ++ w ∷ []) ≡ Some x → (value_in inside m vs ≡ Some x) ⊎ ((w.method ≡ m) × (w.inside ≡ inside) × (w.value ≡ x)))
        → (◌≡◌ {A = Option (Option ℕ)} (if b then Some v.value else value_in inside m vs) (Some x)) ⊎ ((w.method ≡ m) × (w.inside ≡ inside) × (w.value ≡ x))
    by true e' further = inl e'
    by false e' further = further e'

-- ---- what is told to have no value

pub none_raised : (more : ℕ) (o : Option (Option ℕ)) → with_cycles more o ≡ Some None → o ≡ Some None
none_raised more None e = absurd (cc)
none_raised more (Some None) e = refl
none_raised more (Some (Some n)) e = absurd (cc)

pub none_within : (own : ℕ) (o : Option (Option ℕ)) → within_limit own o ≡ Some None → o ≡ Some None
none_within own None e = absurd (cc)
none_within own (Some None) e = refl
none_within own (Some (Some n)) e = by (nat_le (own + n) most_cycles) e
  where
    by : (b : Bool) → ◌≡◌ {A = Option (Option ℕ)} (if b then Some (Some n) else None) (Some None) → ◌≡◌ {A = Option (Option ℕ)} (Some (Some n)) (Some None)
    by true e' = absurd (cc)
    by false e' = absurd (cc)
