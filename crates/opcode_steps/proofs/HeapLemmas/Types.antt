-- What the records of types say, read in the memory of a machine that stands for a state.
use Rattle.std.proofs.Common.{◌≡◌, ℕ, suc, ◌+◌, ◌/◌, ◌%◌, ◌^◌, ◌<◌, true, List, ◌∷◌, length, Option, Some, None, refl, sym, ◌∙◌, ap, subst, arith, eqb-true}
use Rattle.std.specs.Prelude.{slice_get, slice_index, IfSome, IsSome}
use Rattle.std.proofs.lemmas.Option.{slice_get_within}
use Rattle.lists.proofs.Lemmas.{index_found}
use Rattle.jop_core.specs.State as machine
use Rattle.bytecode_model.specs.Types.{Kind, OfClass, OfNumbers, OfReferences, same_kind}
use Rattle.bytecode_model.specs.State.{State}
use Rattle.bytecode_model.specs.Program.{Program, type_number, is_of}
use Rattle.bytecode_model.specs.Effects.{component_of}
use Rattle.bytecode_model.specs.WellFormed.{IsWellFormed}
use Rattle.image_facts.specs.Places.{Places}
use Rattle.image_facts.specs.Says.{SaysLinked, SaysType, bit_of, counted_type, instance_words}
use Rattle.machine_stands.specs.StandsFor.{StandsFor, limits_of}
use Rattle.machine_stands.specs.Fixed.{FixedWordsAreRead}

if_there : {A : Type 0} (o : Option A) (x : A) (Q : A → Type 0) → o ≡ Some x → IfSome o Q → Q x
if_there o x Q e h = subst (λ o. IfSome o Q) e h

-- ---- the number of a type

kind_same : (k l : Kind) → same_kind k l ≡ true → k ≡ l
kind_same (OfClass c) (OfClass d) h = ap OfClass (eqb-true c d h)
kind_same (OfNumbers a) (OfNumbers b) h = ap OfNumbers (eqb-true a b h)
kind_same (OfReferences k) (OfReferences l) h = ap OfReferences (kind_same k l h)
kind_same (OfClass c) (OfNumbers b) h = cc
kind_same (OfClass c) (OfReferences l) h = cc
kind_same (OfNumbers a) (OfClass d) h = cc
kind_same (OfNumbers a) (OfReferences l) h = cc
kind_same (OfReferences k) (OfClass d) h = cc
kind_same (OfReferences k) (OfNumbers b) h = cc

-- the type of the number that a kind has is that kind
pub type_at : (P : Program) (k : Kind) (t : ℕ) → type_number P k ≡ Some t → slice_get P.types t ≡ Some k
type_at P k t h =
    let found = index_found (same_kind k) P.types t h in
    found.1 ∙ ap Some (sym (kind_same k found.0 found.2))

there : {A : Type 0} (o : Option A) → IsSome o → (x : A) × (o ≡ Some x)
there None h = absurd (cc)
there (Some x) h = (x, refl)

-- ---- the record of a type

module _ (words : FixedWordsAreRead) (P : Program) (pl : Places) (n size : ℕ) (m : machine.MachineState) (s : State) (st : StandsFor P pl n size m s) (well : IsWellFormed P (limits_of P pl n size) s) (says : SaysLinked P pl) where
  says_type : (t : ℕ) (k : Kind) → slice_get P.types t ≡ Some k → SaysType P pl t k
  says_type t k h = if_there (slice_get P.types t) k (SaysType P pl t) h (says.types t)

  abbrev record_of : (t : ℕ) (k : Kind) → SaysType P pl t k → List ℕ
  record_of t k type = t ∷ instance_words P k ∷ counted_type P (component_of (Some k)) ∷ pl.method_table t ∷ pl.interface_table t ∷ type.supertypes

  -- the third word of an array's is one more than the number of its component type
  pub record ReadsComponent (t : ℕ) (k : Kind) : Type 0 where
    pub number : ℕ
    pub is : type_number P k ≡ Some number
    pub within : pl.type t + 2 < size
    pub word_is : slice_index m.port.words (pl.type t + 2) ≡ number + 1

  pub component_read : (t : ℕ) (k : Kind) → slice_get P.types t ≡ Some (OfReferences k) → ReadsComponent t k
  component_read t k h =
      let type = says_type t (OfReferences k) h in
      let u = there (type_number P k) type.component in
      let read = words P pl n size m s (pl.type t) (record_of t (OfReferences k) type) 2 st well type.words (omega arith) in
      record { number = u.0; is = u.1; within = read.0; word_is = read.1 ∙ ap (λ (o : Option ℕ). elim o [ None ↦ 0 | Some t ↦ t + 1 ]) u.1 }

  -- so many words behind come those of its supertypes
  pub record ReadsSupertype (t : ℕ) (k : Kind) (u : ℕ) (l : Kind) : Type 0 where
    pub within : pl.type t + 5 + u / 32 < size
    pub bit : slice_index m.port.words (pl.type t + 5 + u / 32) / 2 ^ (u % 32) % 2 ≡ bit_of (is_of P k l)

  pub supertype_read : (t : ℕ) (k : Kind) (u : ℕ) (l : Kind) → slice_get P.types t ≡ Some k → slice_get P.types u ≡ Some l → ReadsSupertype t k u l
  supertype_read t k u l h g =
      let type = says_type t k h in
      let bits = if_there (slice_get P.types u) l (λ (q : Kind). slice_index type.supertypes (u / 32) / 2 ^ (u % 32) % 2 ≡ bit_of (is_of P k q)) g (type.bits u) in
      let less : u < length P.types = slice_get_within P.types u l g in
      let count = type.count in
      let few : u / 32 < length type.supertypes = omega (arith, count, less) in
      let read = words P pl n size m s (pl.type t) (record_of t k type) (suc (suc (suc (suc (suc (u / 32)))))) st well type.words (omega (arith, few)) in
      let at : pl.type t + 5 + u / 32 ≡ pl.type t + suc (suc (suc (suc (suc (u / 32))))) = omega arith in
      record {
        within = omega (arith, read.0, at);
        bit = ap (λ (k : ℕ). slice_index m.port.words k / 2 ^ (u % 32) % 2) at ∙ ap (λ (k : ℕ). k / 2 ^ (u % 32) % 2) read.1 ∙ bits;
      }
