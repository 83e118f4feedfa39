-- The words of methods' codes by the methods' places.
use Rattle.std.proofs.Common.{◌≡◌, ◌≢◌, ℕ, zero, suc, ◌<◌, Bool, true, false, ◌==◌, ◌&&◌, List, [], length, Option, Some, None, slice_get, refl, sym, ap, ◌∙◌, arith, eqb-true, eq-eqb}
use Rattle.std.specs.Prelude.{IsSome, is_some, if◌then◌else◌}
use Rattle.std.proofs.lemmas.Option.{slice_get_within}
use Rattle.base.specs.Packed.{words_of_bytes}
use Rattle.bytecode_model.specs.Program.{Program, Body, body_of}
use Rattle.lists.proofs.Lemmas.{onto_some}
use Rattle.image_facts.specs.Places.{Places}
use Rattle.activations.specs.Steps.{PlacesTellWords}

code_of : Program → ℕ → List ℕ
code_of P m = elim (body_of P m) [ None ↦ [] | Some b ↦ words_of_bytes b.code ]

-- of the first so many methods
words_below : Program → Places → ℕ → ℕ → List ℕ
words_below P pl zero place = []
words_below P pl (suc n) place = if is_some (body_of P n) && (pl.method n == place) then code_of P n else words_below P pl n place

both_true : (a b : Bool) → (a && b) ≡ true → (a ≡ true) × (b ≡ true)
both_true true b e = (refl, e)
both_true false b e = absurd (cc)

module _ (P : Program) (pl : Places) (apart : (m n : ℕ) → IsSome (body_of P m) → IsSome (body_of P n) → pl.method m ≡ pl.method n → m ≡ n) (m : ℕ) (b : Body) (body : body_of P m ≡ Some b) where
  there : is_some (body_of P m) ≡ true
  there = ap (λ (o : Option Body). is_some o) body

  found : code_of P m ≡ words_of_bytes b.code
  unfolding code_of
  found = ap (λ (o : Option Body). elim o as (λ _. List ℕ) [ None ↦ [] | Some c ↦ words_of_bytes c.code ]) body

  told : (n : ℕ) → m < n → words_below P pl n (pl.method m) ≡ words_of_bytes b.code
  unfolding words_below
  told zero below = absurd (omega arith)
  told (suc n) below = by (λ less. told n less) (is_some (body_of P n) && (pl.method n == pl.method m)) refl
    where
      at_other : (is_some (body_of P n) && (pl.method n == pl.method m)) ≡ false → n ≡ m → false ≡ true
      at_other other same =
          let one = ap (λ (x : ℕ). is_some (body_of P x) && (pl.method x == pl.method m)) same in
          let two : (is_some (body_of P m) && (pl.method m == pl.method m)) ≡ true = ap (λ (x : Bool). x && (pl.method m == pl.method m)) there ∙ eq-eqb (pl.method m) (pl.method m) refl in
          sym other ∙ (one ∙ two)

      differ : (is_some (body_of P n) && (pl.method n == pl.method m)) ≡ false → n ≢ m
      differ other same = let bad = at_other other same in absurd (cc)

      by : (m < n → words_below P pl n (pl.method m) ≡ words_of_bytes b.code) → (x : Bool) → (is_some (body_of P n) && (pl.method n == pl.method m)) ≡ x
          → (if x then code_of P n else words_below P pl n (pl.method m)) ≡ words_of_bytes b.code
      by later true is =
          let both = both_true (is_some (body_of P n)) (pl.method n == pl.method m) is in
          let same : n ≡ m = apart n m both.0 there (eqb-true (pl.method n) (pl.method m) both.1) in
          ap (λ (x : ℕ). code_of P x) same ∙ found
      by later false is = let other = differ is in later (omega arith)

pub places_tell_words : PlacesTellWords
places_tell_words g is = (
  words_below g.program g.places (length g.program.methods),
  λ m b body.
      let method = onto_some (slice_get g.program.methods m) _ b body in
      told g.program g.places is.says.apart m b body (length g.program.methods) (slice_get_within g.program.methods m method.0 method.1),
)
