-- Types in whose place another type is put.
use Rattle.std.proofs.Common.{◌≡◌, ℕ, zero, suc, ◌+◌, ◌<◌, Bool, true, false, ◌==◌, List, [], ◌∷◌, map, set, Option, Some, None, refl, sym, ap, ap₂, ◌∙◌, inl, inr, arith}
use Rattle.std.specs.Prelude.{slice_get, if◌then◌else◌}
use Rattle.std.specs.Option.{option_map}
use Rattle.std.proofs.lemmas.Bool.{cases_eq, cases_lt, eqb-true}
use Rattle.std.proofs.lemmas.Option.{slice_get-map}
use Rattle.lists.proofs.Lemmas.{none≢some}
use Rattle.bytecode_typing.specs.Types.{VarType, Uninitialized, UninitializedThis, is_initialized, substituted}
use Rattle.verifier_types.specs.Written.{IsSubstitutedAt}
use Rattle.verifier_types.specs.Numbered.{HoldsUpTo}
use Rattle.verifier_types.proofs.ComparedLemmas.{alike_lists}

-- the local variable of this index isn't of the type `old`, or it isn't there
abbrev pub IsFixed : List VarType → (old new : VarType) → (index : ℕ) → Type 0
IsFixed ts old new i = option_map (substituted old new) (slice_get ts i) ≡ slice_get ts i

same_either : (b : Bool) (t : VarType) → (if b then t else t) ≡ t
same_either true t = refl
same_either false t = refl

sub_new : (o n : VarType) → substituted o n n ≡ n
sub_new (Uninitialized p) (Uninitialized q) = same_either (p == q) (Uninitialized q)
sub_new UninitializedThis UninitializedThis = refl
sub_new o n = refl

sub_case : (p q : ℕ) (n : VarType) (b : Bool) → (p == q) ≡ b → substituted (Uninitialized p) n (if b then n else Uninitialized q) ≡ (if b then n else Uninitialized q)
sub_case p q n true e = sub_new (Uninitialized p) n
sub_case p q n false e = ap (λ b. if b then n else Uninitialized q) e

pub sub_sub : (o n t : VarType) → substituted o n (substituted o n t) ≡ substituted o n t
sub_sub (Uninitialized p) n (Uninitialized q) = sub_case p q n (p == q) refl
sub_sub UninitializedThis n UninitializedThis = sub_new UninitializedThis n
sub_sub o n t = refl

-- an initialised type has nothing put in its place
pub sub_initialized : (o n t : VarType) → is_initialized o ≡ true → substituted o n t ≡ t
sub_initialized (Uninitialized p) n t e = absurd (let f : false ≡ true = e in cc)
sub_initialized UninitializedThis n t e = absurd (let f : false ≡ true = e in cc)
sub_initialized o n t e = refl

pub all_initialized : (o n : VarType) (ts : List VarType) → is_initialized o ≡ true → ts ≡ map (substituted o n) ts
all_initialized o n [] e = refl
all_initialized o n (t ∷ ts) e = ap₂ (λ a b. a ∷ b) (sym (sub_initialized o n t e)) (all_initialized o n ts e)

pub fixed_here : (o n : VarType) (x y : Option VarType) → y ≡ option_map (substituted o n) x → option_map (substituted o n) y ≡ y
fixed_here o n x y e = ap (option_map (substituted o n)) e ∙ (again x ∙ sym e)
  where
    again : (x : Option VarType) → option_map (substituted o n) (option_map (substituted o n) x) ≡ option_map (substituted o n) x
    again None = refl
    again (Some t) = ap Some (sub_sub o n t)

-- where each is fixed, nothing is left to do
pub all_fixed : (o n : VarType) (ts us : List VarType) → ((i : ℕ) → IsFixed ts o n i) → map (substituted o n) ts ≡ map (substituted o n) us → ts ≡ map (substituted o n) us
all_fixed o n ts us h e = sym (alike_lists (map (substituted o n) ts) ts (λ i. slice_get-map (substituted o n) ts i ∙ h i)) ∙ e

-- ---- one local variable

set_here : {A : Type 0} (xs : List A) (i : ℕ) (v x : A) → slice_get xs i ≡ Some x → slice_get (set xs i v) i ≡ Some v
set_here [] i v x e = absurd (none≢some x e)
set_here (y ∷ xs) zero v x e = refl
set_here (y ∷ xs) (suc i) v x e = set_here xs i v x e

set_other : {A : Type 0} (xs : List A) (i j : ℕ) (v : A) → (j ≡ i → ⊥) → slice_get (set xs i v) j ≡ slice_get xs j
set_other [] i j v h = refl
set_other (x ∷ xs) zero zero v h = absurd (h refl)
set_other (x ∷ xs) zero (suc j) v h = refl
set_other (x ∷ xs) (suc i) zero v h = refl
set_other (x ∷ xs) (suc i) (suc j) v h = set_other xs i j v (λ e. h (ap suc e))

pub substituted_at : (ts us : List VarType) (k : ℕ) (o n item put : VarType) → us ≡ set ts k put → Some item ≡ slice_get ts k → put ≡ substituted o n item → IsSubstitutedAt k o n ts us
substituted_at ts us k o n item put e at is = record {
  here = ap (λ l. slice_get l k) e ∙ (set_here ts k put item (sym at) ∙ (ap Some is ∙ ap (option_map (substituted o n)) at));
  others = λ i other. ap (λ l. slice_get l i) e ∙ set_other ts k i put other;
}

pub none_at : (ts : List VarType) (k : ℕ) (o n : VarType) → None ≡ slice_get ts k → IsSubstitutedAt k o n ts ts
none_at ts k o n e = record { here = sym e ∙ ap (option_map (substituted o n)) e; others = λ i other. refl }

-- a local variable of another type stays
pub fixed_unlike : (o n : VarType) (x : Option VarType) → (x ≡ Some o → ⊥) → option_map (substituted o n) x ≡ x
fixed_unlike o n None h = refl
fixed_unlike o n (Some t) h = ap Some (unlike o n t (λ e. h (ap Some e)))
  where
    at_place : (p q : ℕ) (n : VarType) → (Uninitialized q ≡ Uninitialized p → ⊥) → (b : Bool) → (p == q) ≡ b → (if b then n else Uninitialized q) ≡ Uninitialized q
    at_place p q n h true e = absurd (h (ap Uninitialized (sym (eqb-true p q e))))
    at_place p q n h false e = refl

    unlike : (o n t : VarType) → (t ≡ o → ⊥) → substituted o n t ≡ t
    unlike (Uninitialized p) n (Uninitialized q) h = at_place p q n h (p == q) refl
    unlike UninitializedThis n UninitializedThis h = absurd (h refl)
    unlike o n t h = refl

-- ---- one after another

module _ (ts us : List VarType) (k : ℕ) (o n : VarType) (s : IsSubstitutedAt k o n ts us) where
  fixed_other : (i : ℕ) → (i ≡ k → ⊥) → IsFixed ts o n i → IsFixed us o n i
  fixed_other i other was = ap (option_map (substituted o n)) (s.others i other) ∙ (was ∙ sym (s.others i other))

  again : (x : Option VarType) → option_map (substituted o n) (option_map (substituted o n) x) ≡ option_map (substituted o n) x
  again None = refl
  again (Some t) = ap Some (sub_sub o n t)

  substituted_there : (i : ℕ) → option_map (substituted o n) (slice_get us i) ≡ option_map (substituted o n) (slice_get ts i)
  substituted_there i = elim (cases_eq i k) [
    | inl same ↦
        ap (λ (j : ℕ). option_map (substituted o n) (slice_get us j)) same
        ∙ (ap (option_map (substituted o n)) s.here ∙ (again (slice_get ts k) ∙ ap (λ (j : ℕ). option_map (substituted o n) (slice_get ts j)) (sym same)))
    | inr other ↦ ap (option_map (substituted o n)) (s.others i other)
  ]

  pub substituted_after : map (substituted o n) us ≡ map (substituted o n) ts
  substituted_after =
      alike_lists (map (substituted o n) us) (map (substituted o n) ts) (λ i. slice_get-map (substituted o n) us i ∙ (substituted_there i ∙ sym (slice_get-map (substituted o n) ts i)))

  pub fixed_after : (from : ℕ) → ((i : ℕ) → i < from → IsFixed ts o n i) → HoldsUpTo ts o from (Some k) → (i : ℕ) → i < k + 1 → IsFixed us o n i
  fixed_after from so_far holds i lt = elim (cases_eq i k) [
    | inl same ↦ fixed_here o n (slice_get ts k) (slice_get us i) (ap (slice_get us) same ∙ s.here)
    | inr other ↦ elim (cases_lt i from) [
      | inl early ↦ fixed_other i other (so_far i early)
      | inr late ↦ fixed_other i other (fixed_unlike o n (slice_get ts i) (holds.1 i late (omega (arith, lt, other))))
    ]
  ]

-- where none is left, nothing is left to do
pub none_left : (o n : VarType) (ts us : List VarType) (from : ℕ) → ((i : ℕ) → i < from → IsFixed us o n i) → HoldsUpTo us o from None → map (substituted o n) us ≡ map (substituted o n) ts → us ≡ map (substituted o n) ts
none_left o n ts us from so_far holds same =
    all_fixed o n us ts
    (λ i. elim (cases_lt i from) [
      | inl early ↦ so_far i early
      | inr late ↦ fixed_unlike o n (slice_get us i) (holds i late)
    ])
    same
