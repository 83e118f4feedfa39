-- The lengths that are kept of what is put to fields.
use Rattle.std.proofs.Common.{◌≡◌, ◌↔◌, ℕ, ◌+◌, ◌<◌, ℤ, Bool, true, false, List, [], ◌∷◌, ◌++◌, length, map, inl, inr, Option, Some, None, refl, sym, ap, ◌∙◌, subst, arith}
use Rattle.std.proofs.lemmas.Bool.{cases_lt, false≢true}
use Rattle.std.proofs.lemmas.List.{length_push, get_or_append_left, get_or_push}
use Rattle.std.proofs.lemmas.Option.{slice_get_within, get_or_from_slice_get, slice_get-get_or}
use Rattle.std.proofs.Math.ListN.{get_or-eq_default}
use Rattle.lists.proofs.Lemmas.{none≢some, some_same}
use Rattle.class_pool.specs.declared.class.ClassFile.{ClassFile}
use Rattle.bytecode_model.specs.Program.{Program}
use Rattle.class_lookup.specs.Laws.{HierarchyLaw}
use Rattle.program_tables.specs.Resolved.{resolved}
use Rattle.program_tables.specs.Resolving.{IsResolved}
use Rattle.loop_rules.specs.Further.Arrays.{length_at}
use Rattle.array_fields.specs.declared.puts.Put.{Put}
use Rattle.array_fields.specs.declared.contents.Content.{Content}
use Rattle.array_fields.specs.declared.contents.Content.TheVariants.{Unput, Arrays, Anything}
use Rattle.array_fields.specs.Contents.{content_at, flag_at}
use Rattle.array_fields.specs.First.{is_null, is_reference, has_first_object, AreSharing}
use Rattle.array_fields.specs.Puts.{PutsTo, AreContents, static_target, field_target}
use Rattle.array_fields.specs.Lengths.{length_kept, AreLengthsKept, AreStaticLengths, AreFieldLengths, AreClassLengths}
use Rattle.array_fields.proofs.Starting.{null_flagged, reference_flagged, no_first_object, some_first_object, not_object}
use Rattle.array_fields.proofs.Subclassing.{may_put}

-- ---- one length

kept_is : (b : Bool) (content : Content) (c : ℤ) → (length_kept b content ≡ Some c) ↔ ((b ≡ true) × (content ≡ Arrays c))
kept_is true Unput c = (λ h. absurd (none≢some c h), λ h. absurd (let bad = h.1 in let no : ⊥ = cc in no))
kept_is true (Arrays n) c = (λ h. (refl, ap Arrays (some_same n c h)), λ h. let is = h.1 in let same : n ≡ c = cc in ap (λ (z : ℤ). Some z) same)
kept_is true Anything c = (λ h. absurd (none≢some c h), λ h. absurd (let bad = h.1 in let no : ⊥ = cc in no))
kept_is false content c = (λ h. absurd (none≢some c h), λ h. absurd (false≢true h.0))

flag_within : (flags : List Bool) (i : ℕ) → flag_at flags i ≡ true → i < length flags
flag_within flags i h =
    elim (cases_lt i (length flags)) [
      | inl lt ↦ lt
      | inr ge ↦ absurd (false≢true (sym (get_or-eq_default flags false ge) ∙ h))
    ]

length_within : (xs : List (Option ℤ)) (i : ℕ) (c : ℤ) → length_at xs i ≡ Some c → i < length xs
length_within xs i c h =
    elim (cases_lt i (length xs)) [
      | inl lt ↦ lt
      | inr ge ↦ absurd (none≢some c (sym (get_or-eq_default xs None ge) ∙ h))
    ]

-- flagged, and just arrays of this length are put
abbrev IsHeld : (target : Put → Option ℕ) → List Bool → List Put → (index : ℕ) → ℤ → Type 0
IsHeld target flags puts i c = (flag_at flags i ≡ true) × PutsTo target puts i (Some c) × ((l : Option ℤ) → PutsTo target puts i l → l ≡ Some c)

held : (target : Put → Option ℕ) (flags : List Bool) (puts : List Put) (contents : List Content) (xs : List (Option ℤ)) → AreContents target (length flags) puts contents → AreLengthsKept flags contents xs
    → (i : ℕ) (c : ℤ) → (length_at xs i ≡ Some c) ↔ IsHeld target flags puts i c
held target flags puts contents xs are kept i c = (
  λ h.
      let within = length_within xs i c h in
      let long = kept.0 in
      let lt : i < length flags = omega arith in
      let k = (kept_is (flag_at flags i) (content_at contents i) c).0 (sym (kept.1 i lt) ∙ h) in
      let t = ((are.1 i lt).arrays c).0 k.1 in
      (k.0, t.0, t.1),
  λ h.
      let lt = flag_within flags i h.0 in
      kept.1 i lt ∙ (kept_is (flag_at flags i) (content_at contents i) c).1 (h.0, ((are.1 i lt).arrays c).1 (h.1, h.2)),
)

-- ---- of static fields

pub static_lengths : (P : Program) (nulls : List Bool) (puts : List Put) (contents : List Content) (xs : List (Option ℤ)) → nulls ≡ map is_null P.first_statics → AreContents static_target (length nulls) puts contents
    → AreLengthsKept nulls contents xs → AreStaticLengths P puts xs
static_lengths P nulls puts contents xs is are kept f c = (
  λ h.
      let k = (held static_target nulls puts contents xs are kept f c).0 h in
      record { first = (null_flagged P.first_statics f).0 (ap (λ (flags : List Bool). flag_at flags f) (sym is) ∙ k.0); put = k.1; each = k.2 },
  λ k.
      (held static_target nulls puts contents xs are kept f c).1 (ap (λ (flags : List Bool). flag_at flags f) is ∙ (null_flagged P.first_statics f).1 k.first, k.put, k.each),
)

-- ---- of instance fields

-- where an object at the start has the class
pub no_lengths : (cs : List ClassFile) (puts : List Put) (owner : ℕ) → IsResolved cs → has_first_object cs owner ≡ true → AreFieldLengths (resolved cs) puts owner []
no_lengths cs puts owner r has index c = (λ h. absurd (none≢some c h), λ k. absurd (some_first_object cs owner r has k.first))

module _ (law : HierarchyLaw) (cs : List ClassFile) (r : IsResolved cs) (owner : ℕ) (inside : owner < length cs) (none : has_first_object cs owner ≡ false) (puts : List Put) (references flags : List Bool) (contents : List Content) (xs : List (Option ℤ))
  where
    pub field_lengths : references ≡ map is_reference ((resolved cs).fields owner) → AreSharing (resolved cs) (length cs) owner flags → AreContents (field_target flags) (length references) puts contents
        → AreLengthsKept references contents xs → AreFieldLengths (resolved cs) puts owner xs
    field_lengths is sharing are kept index c =
        let P = resolved cs in
        let may = may_put law cs r owner inside (not_object cs owner none) flags sharing index in
        let holds = held (field_target flags) references puts contents xs are kept index c in (
          λ h.
              let k = holds.0 h in
              record {
                reference = (reference_flagged (P.fields owner) index).0 (ap (λ (bs : List Bool). flag_at bs index) (sym is) ∙ k.0);
                first = no_first_object cs owner r none;
                put = (k.1.0, k.1.1, (may k.1.0).0 k.1.2, k.1.3);
                each = λ l put. k.2 l (put.0, put.1, (may put.0).1 put.2, put.3);
              },
          λ k.
              holds.1 (
                ap (λ (bs : List Bool). flag_at bs index) is ∙ (reference_flagged (P.fields owner) index).1 k.reference,
                (k.put.0, k.put.1, (may k.put.0).1 k.put.2, k.put.3),
                λ l put. k.each l (put.0, put.1, (may put.0).0 put.2, put.3),
              ),
        )

-- ---- class by class

pub classes_first : (P : Program) (puts : List Put) → AreClassLengths P puts 0 []
classes_first P puts = record { long = refl; each = λ owner xs is. absurd (none≢some xs is) }

pub classes_more : (P : Program) (puts : List Put) (n : ℕ) (xss : List (List (Option ℤ))) (xs : List (Option ℤ)) → AreClassLengths P puts n xss → AreFieldLengths P puts n xs → AreClassLengths P puts (n + 1) (xss ++ xs ∷ [])
classes_more P puts n xss xs h new = record {
  long = length_push xss xs ∙ ap (λ (k : ℕ). k + 1) h.long;
  each = λ i ys is.
      let within = slice_get_within (xss ++ xs ∷ []) i ys is in
      let longer = length_push xss xs in
      let read = get_or_from_slice_get (xss ++ xs ∷ []) i ys ys is in
      elim (cases_lt i (length xss)) [
        | inl lt ↦ h.each i ys (slice_get-get_or xss i ys lt ∙ ap (λ (z : List (Option ℤ)). Some z) (sym (get_or_append_left xss (xs ∷ []) ys i lt) ∙ read))
        | inr ge ↦
            let at : i ≡ length xss = omega arith in
            let value : xs ≡ ys = sym (get_or_push xss xs ys i (sym at)) ∙ read in
            let number : n ≡ i = sym h.long ∙ sym at in
            subst (λ (z : List (Option ℤ)). AreFieldLengths P puts i z) value (subst (λ (k : ℕ). AreFieldLengths P puts k xs) number new)
      ];
}
