-- What the words of fields mean.
use Rattle.std.proofs.Common.{◌≡◌, ℕ, zero, suc, ◌+◌, List, [], ◌∷◌, Some, take, refl, sym, ap, ap₂, ◌∙◌, subst}
use Rattle.std.specs.Prelude.{slice_get, sum_by, IfSome}
use Rattle.std.specs.Option.{option_map_or}
use Rattle.std.proofs.lemmas.List.{length-replicate}
use Rattle.bytecode_model.specs.Types.{Declared}
use Rattle.lists.proofs.Lemmas.{none≢some, some_same}
use Rattle.image_facts.specs.Words.{declared_words}
use Rattle.image_facts.specs.Places.{static_place}
use Rattle.image_facts.specs.Says.{field_place}
use Rattle.program_laws.specs.Laws.{FieldLaw}
use Rattle.program_tables.specs.Resolved.{resolved}
use Rattle.image_words.specs.Layout.{front_size, outline_of}
use Rattle.image_words.specs.Regions.{places_of}
use Rattle.image_laws.specs.Laws.{InstanceFieldsAreSaid, StaticFieldsAreSaid}
use Rattle.image_words.proofs.Placing.{front_length}

-- what begins as another list has its first items
same_first : (xs ys : List Declared) (i : ℕ) (d : Declared) → ((k : ℕ) → IfSome (slice_get ys k) (λ t. slice_get xs k ≡ Some t)) → slice_get ys i ≡ Some d → take i xs ≡ take i ys
same_first xs [] i d h e = absurd (none≢some d e)
same_first [] (y ∷ ys) i d h e = absurd (none≢some y (h zero))
same_first (x ∷ xs) (y ∷ ys) zero d h e = refl
same_first (x ∷ xs) (y ∷ ys) (suc i) d h e = ap₂ (λ (z : Declared) (zs : List Declared). z ∷ zs) (some_same x y (h zero)) (same_first xs ys i d (λ k. h (suc k)) e)

pub instance_fields_said : FieldLaw → InstanceFieldsAreSaid
instance_fields_said law cs r f i d h e =
    let P = resolved cs in
    let word = ap (λ o. option_map_or (field_place P f.0) o 0) h in
    let keeps = law.prefix cs r in
    record {
      inherited = λ c x. subst (λ o. IfSome o (λ t. slice_get (P.fields c) i ≡ Some t)) e (keeps c f.0 x i) ∙ sym e;
      place = λ c x. word ∙ ap (λ ds. 1 + sum_by declared_words ds) (sym (same_first (P.fields c) (P.fields f.0) i d (keeps c f.0 x) e));
    }

pub static_fields_said : StaticFieldsAreSaid
unfolding places_of
static_fields_said cs f n h =
    let P = resolved cs in
    let fields = sum_by declared_words (take n P.statics) in
    ap (λ o. option_map_or (static_place P (outline_of cs)) o 0) h
    ∙ ap (λ (k : ℕ). k + fields) (length-replicate {A = ℕ} front_size 0 ∙ sym (front_length cs (outline_of cs)))
