-- What stays in fields: constants that no instruction writes, and arrays of one length.
use Rattle.std.proofs.Common.{◌≡◌, ◌⊎◌, ℕ, zero, suc, Bool, true, false, List, [], ◌∷◌, ◌++◌, map, Option, Some, None, slice_get, refl, sym, ap, ◌∙◌, subst, inl, inr, IsSomeAnd, IfSome}
use Rattle.std.specs.Option.{option_map}
use Rattle.std.proofs.lemmas.Bool.{false≢true, cases_eq, eqb-true}
use Rattle.std.proofs.lemmas.Option.{slice_get-map}
use Rattle.lists.proofs.Lemmas.{none≢some, some_same, some_is, some_in, if_at, index_found}
use Rattle.bytecode_model.specs.declared.Value.{Value}
use Rattle.bytecode_model.specs.declared.Value.TheVariants.{Null}
use Rattle.bytecode_model.specs.declared.Ending.{Ending}
use Rattle.bytecode_model.specs.declared.Ending.TheVariants.{Running}
use Rattle.bytecode_model.specs.Lists.{replaced}
use Rattle.bytecode_model.specs.Types.{Kind, OfClass, OfNumbers, OfReferences, Declared, Numeric, Reference, same_kind, default}
use Rattle.bytecode_model.specs.State.{Object, Frame, State}
use Rattle.bytecode_model.specs.Program.{Program, kind_of}
use Rattle.bytecode_model.specs.Rows as rows
use Rattle.bytecode_model.specs.Rows.{Row}
use Rattle.bytecode_model.specs.Effects.{has_class, is_array}
use Rattle.bytecode_model.specs.Steps.{class_of}
use Rattle.bytecode_typing.specs.Tests.{Holds}
use Rattle.bytecode_typing.specs.Lawful.{Lawful}
use Rattle.code_lines.specs.Lines.{IsLine}
use Rattle.loop_rules.specs.Tests.{Constants}
use Rattle.loop_rules.specs.Further.Known.{Known}
use Rattle.loop_rules.specs.Further.Fields.{PutsArray, IsReferenceType, PutOnlyArrays}
use Rattle.counted_laws.specs.Visits.{lengths_of, Grows, IsArrayOf}
use Rattle.loop_rules.specs.Further.Found.{only_constants}
use Rattle.counted_laws.specs.Paths.{HoldConstants, HoldArrays}
use Rattle.counted_laws.proofs.Storing.{replaced_same, replaced_other}
use Rattle.counted_laws.proofs.Lengths.{same_grows, made_grows, still_array, Written}
use Rattle.counted_laws.proofs.Doing.{MadeBy, IsPut, WrittenBy}
use Rattle.counted_laws.proofs.Stepping.{Wrote}
use Rattle.counted_laws.proofs.Stepping.Wrote.{nothing, one, part, static}

-- ---- constants

same_constants : (P : Program) (constants : Constants) (s t : State) → t.statics ≡ s.statics → HoldConstants P constants s → HoldConstants P constants t
same_constants P constants s t e hold f c is never = ap (λ (vs : List Value). slice_get vs f) e ∙ hold f c is never

pub constants_stay : (P : Program) (constants : Constants) (mode : Ending) (s : State) (f : Frame) (t : State) → Wrote P mode s f t → HoldConstants P constants s → HoldConstants P constants t
constants_stay P constants mode s f t (nothing objects statics) hold = same_constants P constants s t statics hold
constants_stay P constants mode s f t (one o by objects statics) hold = same_constants P constants s t statics hold
constants_stay P constants mode s f t (part next r p k v running line by written statics) hold = same_constants P constants s t statics hold
constants_stay P constants mode s f t (static next k v rest running line top written objects) hold = λ i c is never.
    let other : i ≡ k → ⊥ = λ same. never f.method f.pc next (subst (λ (x : ℕ). IsLine P f.method f.pc next (rows.PutStatic x)) (sym same) line) in
    replaced_other s.statics k v t.statics written i other ∙ hold i c is never

-- ---- objects stay

pub grown : (P : Program) (mode : Ending) (s : State) (f : Frame) (t : State) → Wrote P mode s f t → Grows (lengths_of s.objects) (lengths_of t.objects)
grown P mode s f t (nothing objects statics) = same_grows (lengths_of s.objects) (lengths_of t.objects) (ap lengths_of (sym objects))
grown P mode s f t (one o by objects statics) = subst (λ (os : List Object). Grows (lengths_of s.objects) (lengths_of os)) (sym objects) (made_grows s.objects o)
grown P mode s f t (part next r p k v running line by written statics) = same_grows (lengths_of s.objects) (lengths_of t.objects) (sym written.lengths)
grown P mode s f t (static next k v rest running line top written objects) = same_grows (lengths_of s.objects) (lengths_of t.objects) (ap lengths_of (sym objects))

-- ---- arrays

-- where no fields are known to hold arrays
pub no_arrays : (P : Program) (constants : Constants) (s : State) → HoldArrays P (only_constants constants) s
no_arrays P constants s = record { statics = λ f n is. absurd (none≢some n is); fields = λ owner index n p o is at has. absurd (none≢some n is) }

still_in : (xs ys : List ℕ) → Grows xs ys → (n : ℕ) (o : Option Value) → IsSomeAnd o (IsArrayOf xs n) → IsSomeAnd o (IsArrayOf ys n)
still_in xs ys grows n None h = h
still_in xs ys grows n (Some v) h = still_array xs ys grows n v h

in_class : (P : Program) (k : Option Kind) (owner : ℕ) → has_class P k owner ≡ true → (c : ℕ) × (k ≡ Some (OfClass c)) × (P.extends c owner ≡ true)
in_class P None owner h = absurd (false≢true h)
in_class P (Some (OfClass c)) owner h = (c, refl, h)
in_class P (Some (OfNumbers a)) owner h = absurd (false≢true h)
in_class P (Some (OfReferences k)) owner h = absurd (false≢true h)

no_class : (P : Program) (k : Option Kind) (owner : ℕ) → is_array k ≡ true → has_class P k owner ≡ true → ⊥
no_class P None owner a h = false≢true h
no_class P (Some (OfClass c)) owner a h = false≢true a
no_class P (Some (OfNumbers n)) owner a h = false≢true h
no_class P (Some (OfReferences k)) owner a h = false≢true h

holds_true : (b : Bool) → b ≡ true → Holds b
holds_true true e = tt
holds_true false e = absurd (false≢true e)

-- ---- an object that is made

last_cases : (os : List Object) (x : Object) (p : ℕ) (o : Object) → slice_get (os ++ x ∷ []) p ≡ Some o → (slice_get os p ≡ Some o) ⊎ (x ≡ o)
last_cases [] x zero o is = inr (some_same x o is)
last_cases [] x (suc p) o is = absurd (none≢some o is)
last_cases (y ∷ os) x zero o is = inl is
last_cases (y ∷ os) x (suc p) o is = last_cases os x p o is

of_this_class : (k : Kind) (c : ℕ) → same_kind k (OfClass c) ≡ true → k ≡ OfClass c
of_this_class (OfClass d) c h = ap OfClass (eqb-true d c h)
of_this_class (OfNumbers a) c h = absurd (false≢true h)
of_this_class (OfReferences k) c h = absurd (false≢true h)

default_null : (d : Declared) → IsReferenceType d → default d ≡ Null
default_null (Numeric t) h = absurd h
default_null (Reference k) h = refl

module _ (P : Program) (lawful : Lawful P) (known : Known) (are : PutOnlyArrays P known) where
  -- its fields of this kind are null
  made_null : (o : Object) → MadeBy P o → (owner index n : ℕ) → known.fields owner index ≡ Some n → has_class P (kind_of P o) owner ≡ true → slice_get o.parts index ≡ Some Null
  made_null o by owner index n is has =
      let y = index_found (same_kind by.0) P.types o.kind by.1 in
      let c = in_class P (kind_of P o) owner has in
      let kind : y.0 ≡ OfClass c.0 = some_same y.0 (OfClass c.0) (sym y.1 ∙ c.1) in
      let same : by.0 ≡ OfClass c.0 = of_this_class by.0 c.0 (subst (λ (k : Kind). same_kind by.0 k ≡ true) kind y.2) in
      let parts : o.parts ≡ map default (P.fields c.0) = subst (λ (k : Kind). IfSome (class_of k) (λ c. o.parts ≡ map default (P.fields c))) same by.2 in
      let d = some_is (slice_get (P.fields owner) index) IsReferenceType (are.references owner index n is) in
      let there : slice_get (P.fields c.0) index ≡ Some d.0 = if_at (slice_get (P.fields owner) index) d.0 (λ t. slice_get (P.fields c.0) index ≡ Some t) d.1 (lawful.fields c.0 owner (holds_true (P.extends c.0 owner) c.2) index) in
      ap (λ (vs : List Value). slice_get vs index) parts ∙ slice_get-map default (P.fields c.0) index ∙ ap (λ (z : Option Declared). option_map default z) there ∙ ap Some (default_null d.0 d.2)

  module _ (mode : Ending) (s : State) (f : Frame) (t : State) (hold : HoldArrays P known s)
      (puts : mode ≡ Running → (n : ℕ) (v : Value) (rest : List Value) → PutsArray P known f.method f.pc n → f.operands ≡ v ∷ rest → IsArrayOf (lengths_of s.objects) n v) where
    abbrev Old : ℕ → Option Value → Type 0
    Old n o = IsSomeAnd o (IsArrayOf (lengths_of s.objects) n)

    abbrev New : ℕ → Option Value → Type 0
    New n o = IsSomeAnd o (IsArrayOf (lengths_of t.objects) n)

    module _ (grows : Grows (lengths_of s.objects) (lengths_of t.objects)) where
      renew : (n : ℕ) (o : Option Value) → Old n o → New n o
      renew n o h = still_in (lengths_of s.objects) (lengths_of t.objects) grows n o h

      same_statics : t.statics ≡ s.statics → (i n : ℕ) → known.statics i ≡ Some n → New n (slice_get t.statics i)
      same_statics e i n is = subst (λ (vs : List Value). New n (slice_get vs i)) (sym e) (renew n (slice_get s.statics i) (hold.statics i n is))

      old_fields : (owner index n p : ℕ) (o : Object) → known.fields owner index ≡ Some n → slice_get s.objects p ≡ Some o → has_class P (kind_of P o) owner ≡ true → New n (slice_get o.parts index)
      old_fields owner index n p o is at has = renew n (slice_get o.parts index) (hold.fields owner index n p o is at has)

      same_fields : t.objects ≡ s.objects → (owner index n p : ℕ) (o : Object) → known.fields owner index ≡ Some n → slice_get t.objects p ≡ Some o → has_class P (kind_of P o) owner ≡ true → New n (slice_get o.parts index)
      same_fields e owner index n p o is at has = old_fields owner index n p o is (ap (λ (os : List Object). slice_get os p) (sym e) ∙ at) has

      more_fields : (x : Object) → MadeBy P x → t.objects ≡ s.objects ++ x ∷ [] → (owner index n p : ℕ) (o : Object) → known.fields owner index ≡ Some n → slice_get t.objects p ≡ Some o → has_class P (kind_of P o) owner ≡ true
          → New n (slice_get o.parts index)
      more_fields x by e owner index n p o is at has =
          elim (last_cases s.objects x p o (ap (λ (os : List Object). slice_get os p) (sym e) ∙ at)) [
            | inl old ↦ old_fields owner index n p o is old has
            | inr same ↦ some_in (slice_get o.parts index) Null (IsArrayOf (lengths_of t.objects) n) (made_null o (subst (MadeBy P) same by) owner index n is has) tt
          ]

      -- the object that was written
      module _ (next : ℕ) (r : Row) (p k : ℕ) (v : Value) (running : mode ≡ Running) (line : IsLine P f.method f.pc next r) (by : WrittenBy P s f r p k v) (w : Written s.objects p k v t.objects) where
        same_object : by.0 ≡ w.object
        same_object = some_same by.0 w.object (sym by.1 ∙ w.is)

        written_part : (owner index n : ℕ) → known.fields owner index ≡ Some n → has_class P (kind_of P w.object) owner ≡ true → (is_array (kind_of P w.object) ≡ true) ⊎ IsPut P f r w.object k v → New n (slice_get w.parts index)
        written_part owner index n is has (inl array) = absurd (no_class P (kind_of P w.object) owner array has)
        written_part owner index n is has (inr (named, other, rest, row, below, top)) =
            elim (cases_eq index k) [
              | inl same ↦
                  let c = in_class P (kind_of P w.object) owner has in
                  let d = in_class P (kind_of P w.object) other below in
                  let class : OfClass d.0 ≡ OfClass c.0 = some_same (OfClass d.0) (OfClass c.0) (sym d.1 ∙ c.1) in
                  let both : P.extends c.0 other ≡ true = subst (λ (x : Kind). has_class P (Some x) other ≡ true) class d.2 in
                  let here : IsLine P f.method f.pc next (rows.PutField named other index) = subst (λ (x : ℕ). IsLine P f.method f.pc next (rows.PutField named other x)) (sym same) (subst (λ (q : Row). IsLine P f.method f.pc next q) row line) in
                  let array : IsArrayOf (lengths_of s.objects) n v = puts running n v rest (are.fields named owner other index c.0 n f.method f.pc next is here c.2 both) top in
                  let at : slice_get w.parts index ≡ Some v = ap (λ (x : ℕ). slice_get w.parts x) same ∙ replaced_same w.object.parts k v w.parts w.replaced_part in
                  some_in (slice_get w.parts index) v (IsArrayOf (lengths_of t.objects) n) at (still_array (lengths_of s.objects) (lengths_of t.objects) grows n v array)
              | inr differ ↦
                  let stays : slice_get w.parts index ≡ slice_get w.object.parts index = replaced_other w.object.parts k v w.parts w.replaced_part index differ in
                  subst (λ (z : Option Value). New n z) (sym stays) (old_fields owner index n p w.object is w.is has)
            ]

        written_fields : (owner index n q : ℕ) (o : Object) → known.fields owner index ≡ Some n → slice_get t.objects q ≡ Some o → has_class P (kind_of P o) owner ≡ true → New n (slice_get o.parts index)
        written_fields owner index n q o is at has =
            elim (cases_eq q p) [
              | inl same ↦
                  let u : Object = record w.object { parts = w.parts } in
                  let now : slice_get t.objects q ≡ Some u = ap (λ (x : ℕ). slice_get t.objects x) same ∙ replaced_same s.objects p u t.objects w.replaced_object in
                  let object : u ≡ o = some_same u o (sym now ∙ at) in
                  let has' : has_class P (kind_of P u) owner ≡ true = subst (λ (x : Object). has_class P (kind_of P x) owner ≡ true) (sym object) has in
                  let how = subst (λ (x : Object). (is_array (kind_of P x) ≡ true) ⊎ IsPut P f r x k v) same_object by.2 in
                  subst (λ (x : Object). New n (slice_get x.parts index)) object (written_part owner index n is has' how)
              | inr differ ↦
                  let u : Object = record w.object { parts = w.parts } in
                  old_fields owner index n q o is (sym (replaced_other s.objects p u t.objects w.replaced_object q differ) ∙ at) has
            ]

      put_statics : (next k : ℕ) (v : Value) (rest : List Value) → mode ≡ Running → IsLine P f.method f.pc next (rows.PutStatic k) → f.operands ≡ v ∷ rest → replaced s.statics k v ≡ Some t.statics
          → (i n : ℕ) → known.statics i ≡ Some n → New n (slice_get t.statics i)
      put_statics next k v rest running line top written i n is =
          elim (cases_eq i k) [
            | inl same ↦
                let here : IsLine P f.method f.pc next (rows.PutStatic i) = subst (λ (x : ℕ). IsLine P f.method f.pc next (rows.PutStatic x)) (sym same) line in
                let array : IsArrayOf (lengths_of s.objects) n v = puts running n v rest (are.statics i n f.method f.pc next is here) top in
                let at : slice_get t.statics i ≡ Some v = ap (λ (x : ℕ). slice_get t.statics x) same ∙ replaced_same s.statics k v t.statics written in
                some_in (slice_get t.statics i) v (IsArrayOf (lengths_of t.objects) n) at (still_array (lengths_of s.objects) (lengths_of t.objects) grows n v array)
            | inr differ ↦ subst (λ (z : Option Value). New n z) (sym (replaced_other s.statics k v t.statics written i differ)) (renew n (slice_get s.statics i) (hold.statics i n is))
          ]

    by_write : Wrote P mode s f t → Grows (lengths_of s.objects) (lengths_of t.objects) → HoldArrays P known t
    by_write (nothing objects statics) grows = record { statics = same_statics grows statics; fields = same_fields grows objects }
    by_write (one o by objects statics) grows = record { statics = same_statics grows statics; fields = more_fields grows o by objects }
    by_write (part next r p k v running line by w statics) grows = record { statics = same_statics grows statics; fields = written_fields grows next r p k v running line by w }
    by_write (static next k v rest running line top written objects) grows = record { statics = put_statics grows next k v rest running line top written; fields = same_fields grows objects }

    pub arrays_stay : Wrote P mode s f t → HoldArrays P known t
    arrays_stay wrote = by_write wrote (grown P mode s f t wrote)
