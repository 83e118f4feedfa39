-- Methods by the place of their record.
use Rattle.std.proofs.Common.{◌≡◌, ℕ, ◌<◌, List, Some, None, refl, sym, ◌∙◌, ap}
use Rattle.std.proofs.lemmas.Option.{slice_get_within}
use Rattle.std.specs.declared.option.Option.{Option}
use Rattle.std.specs.Prelude.{slice_get, length, IsSomeAnd}
use Rattle.lists.proofs.Lemmas.{some_in, some_is}
use Rattle.image_facts.specs.declared.method.CodedMethod.{CodedMethod}
use Rattle.image_facts.specs.Methods.{IsMethodRecord, AreMethods}
use Rattle.bytecode_model.specs.Program.{Program, Body, body_of}
use Rattle.image_facts.specs.Places.{Places}
use Rattle.machine_stands.specs.ShownFrames.Methods.{IsThere, IsMethodAt}
use Rattle.machine_stands.proofs.ShownFramesLemmas.Options.{if_at}

module _ (P : Program) (pl : Places) (methods : List CodedMethod) (are : AreMethods P pl methods) (m : ℕ) (b : Body) (is : body_of P m ≡ Some b) where
  pub known_at : (e : CodedMethod) × (slice_get methods m ≡ Some e) × IsMethodRecord (pl.method m) b e
  known_at = some_is (slice_get methods m) (IsMethodRecord (pl.method m) b) (if_at (body_of P m) b (λ b. IsSomeAnd (slice_get methods m) (IsMethodRecord (pl.method m) b)) is (are.known m))

  pub lies : (place : ℕ) → place ≡ pl.method m → IsSomeAnd (slice_get methods m) (λ e. e.place ≡ place)
  lies place at = let (e, got, known) = known_at in some_in (slice_get methods m) e (λ e. e.place ≡ place) got (known.place_is ∙ sym at)

  pub there : (place : ℕ) → place ≡ pl.method m → IsThere methods place
  there place at = record { rising = are.rising; few = are.few; number = m; lies = lies place at }

  -- what is known of it
  pub of_method : (place : ℕ) → place ≡ pl.method m → (x : CodedMethod) → IsMethodAt methods place x → (x.max_locals ≡ b.max_locals) × (x.code.now ≡ b.code)
  of_method place at x is =
      let (e, got, known) = known_at in
      let same : x ≡ e = is m e got (known.place_is ∙ sym at) in
      (ap (λ (y : CodedMethod). y.max_locals) same ∙ known.max_locals, ap (λ (y : CodedMethod). y.code.now) same ∙ known.code)

-- a number of a method that lies at a place is one of the list
within : (methods : List CodedMethod) (k place : ℕ) (found : Option CodedMethod) → slice_get methods k ≡ found → IsSomeAnd found (λ e. e.place ≡ place) → k < length methods
within methods k place (Some e) is lies_there = slice_get_within methods k e is
within methods k place None is lies_there = absurd lies_there

pub within_list : (methods : List CodedMethod) (k place : ℕ) → IsSomeAnd (slice_get methods k) (λ e. e.place ≡ place) → k < length methods
within_list methods k place lies_there = within methods k place (slice_get methods k) refl lies_there
