-- What a profile tells of a method keeps the method's bound.
use Rattle.std.proofs.Common.{◌≡◌, ℕ, ◌≤◌, nat_lt, Bool, true, false, cond, List, [], ◌∷◌, ◌++◌, length, map, Contains, Option, Some, None, refl, sym, ap, ◌∙◌, subst, inl, inr, arith}
use Rattle.std.specs.Prelude.{MatchOption}
use Rattle.std.proofs.lemmas.Bool.{cases_eq, eq-eqb, ne_eqb}
use Rattle.lists.specs.Members.{at_head, in_tail}
use Rattle.run_follower.specs.declared.here.Here.{Here}
use Rattle.run_follower.specs.declared.watch.activation.Activation.{Activation}
use Rattle.run_follower.specs.Watch.Watched.{activations, of_method, profile_of, greatest, cycles_of}
use Rattle.method_flow.specs.declared.timing.Timing.{Timing}
use Rattle.activations.specs.Setting.{Setting, IsSetting}
use Rattle.activations.specs.Activations.{Stage, Follows}
use Rattle.activations.specs.Activations as boundaries
use Rattle.activations.specs.Steps.{PlacesTellWords, StepsAreTold}
use Rattle.activations.specs.Timing.{HasTiming}
use Rattle.activations.specs.Warrant.{BoundsActivations}
use Rattle.activation_laws.specs.Seen.{AreSeen, ActivationsAreSeen}
use Rattle.activation_laws.specs.Profiled.{FirstHasTiming, ProfileIsWithin, ProfilesKeepBounds}

-- ---- the timing stays

module _ (tell : PlacesTellWords) (told : StepsAreTold) (g : Setting) (is : IsSetting g) (t : Timing) where
  timing_next : (a b : Stage) → Follows g a b → HasTiming t a.machine → HasTiming t b.machine
  timing_next a b follows has = (told g t (tell g is).0 a b is (tell g is).1 has follows).timing

  pub timing_at : (earlier rest : List Stage) (a : Stage) (heres : List Here) → AreSeen g (earlier ++ (a ∷ rest)) heres → FirstHasTiming t (earlier ++ (a ∷ rest))
      → HasTiming t a.machine
  timing_at [] rest a heres seen has = has
  timing_at (x ∷ []) rest a [] seen has = absurd seen
  timing_at (x ∷ []) rest a (h ∷ hs) seen has = timing_next x a seen.0 has
  timing_at (x ∷ y ∷ ys) rest a [] seen has = absurd seen
  timing_at (x ∷ y ∷ ys) rest a (h ∷ hs) seen has = timing_at (y ∷ ys) rest a hs seen.2 (timing_next x y seen.0 has)

-- ---- the greatest of some numbers

most_cases : (n m most : ℕ) → n ≤ most → m ≤ most → (lesser : Bool) → cond lesser n m ≤ most
most_cases n m most first later true = first
most_cases n m most first later false = later

module _ (m : ℕ) where
  abbrev Keeps : Option ℕ → Activation → Type 0
  Keeps bound x = MatchOption bound ⊥ (λ most. cycles_of x ≤ most)

  abbrev AllKeep : Option ℕ → List Activation → Type 0
  AllKeep bound xs = (x : Activation) → Contains xs x → x.method ≡ m → Keeps bound x

  of_it : (x : Activation) (xs : List Activation) → x.method ≡ m → of_method m (x ∷ xs) ≡ x ∷ of_method m xs
  of_it x xs same = ap (λ (b : Bool). cond b (x ∷ of_method m xs) (of_method m xs)) (eq-eqb x.method m same)

  of_other : (x : Activation) (xs : List Activation) → (x.method ≡ m → ⊥) → of_method m (x ∷ xs) ≡ of_method m xs
  of_other x xs other = ap (λ (b : Bool). cond b (x ∷ of_method m xs) (of_method m xs)) (ne_eqb x.method m other)

  later_keep : (bound : Option ℕ) (x : Activation) (xs : List Activation) → AllKeep bound (x ∷ xs) → AllKeep bound xs
  later_keep bound x xs keep y has same = keep y (in_tail x y xs has) same

  none_ended : (xs : List Activation) → AllKeep None xs → of_method m xs ≡ []
  none_ended [] keep = refl
  none_ended (x ∷ xs) keep = elim (cases_eq x.method m) [
    | inl same ↦ absurd (keep x (at_head x xs) same)
    | inr other ↦ of_other x xs other ∙ none_ended xs (later_keep None x xs keep)
  ]

  most_kept : (most : ℕ) (xs : List Activation) → AllKeep (Some most) xs → greatest (map cycles_of (of_method m xs)) ≤ most
  most_kept most [] keep = omega arith
  most_kept most (x ∷ xs) keep =
      let M : List Activation → Type 0 = λ ys. greatest (map cycles_of ys) ≤ most in
      let later = most_kept most xs (later_keep (Some most) x xs keep) in
      elim (cases_eq x.method m) [
        | inl same ↦
            subst M (sym (of_it x xs same))
            (most_cases (cycles_of x) (greatest (map cycles_of (of_method m xs))) most (keep x (at_head x xs) same) later (nat_lt (greatest (map cycles_of (of_method m xs))) (cycles_of x)))
        | inr other ↦ subst M (sym (of_other x xs other)) later
      ]

  row_kept : (bound : Option ℕ) (xs : List Activation) → AllKeep bound xs → ProfileIsWithin (profile_of (of_method m xs)) bound
  row_kept None xs keep = ap length (none_ended xs keep)
  row_kept (Some most) xs keep = most_kept most xs keep

-- ---- the bounds

-- by the clocks of the boundaries
pub by_clocks : (bound : Option ℕ) (n k : ℕ) → n ≡ k → MatchOption bound ⊥ (λ most. n ≤ most) → MatchOption bound ⊥ (λ most. k ≤ most)
by_clocks bound n k same within = subst (λ (c : ℕ). MatchOption bound ⊥ (λ most. c ≤ most)) same within

pub profiles_keep_bounds : PlacesTellWords → StepsAreTold → ActivationsAreSeen → ProfilesKeepBounds
profiles_keep_bounds tell told all g stages heres t bound_of m bound is seen timing bounds keeps =
    row_kept m bound (activations heres) (λ x has same.
    let i = (all g stages heres is seen x).0 has in
    let begun = i.begun_is.clock in
    let ended = i.ended_is.clock in
    let T : List Stage → Type 0 = λ ss. FirstHasTiming t ss in
    let S : List Stage → Type 0 = λ ss. AreSeen g ss heres in
    let rest = i.is.first ∷ (i.is.between ++ (i.ended ∷ i.later)) in
    let has_timing = timing_at tell told g is t i.earlier rest i.begun heres (subst S i.stand seen) (subst T i.stand timing) in
    let of_it : BoundsActivations g.program t bound_of x.method bound = subst (λ (k : ℕ). BoundsActivations g.program t bound_of k bound) (sym same) bounds in
    let cycles : boundaries.cycles_of i.begun i.ended ≡ cycles_of x = omega (arith, begun, ended) in
    by_clocks bound (boundaries.cycles_of i.begun i.ended) (cycles_of x) cycles (of_it g i.begun i.ended is refl has_timing i.is (keeps x i same)))
