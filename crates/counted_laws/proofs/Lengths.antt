-- The lengths of objects, as objects are made and written.
use Rattle.std.proofs.Common.{◌≡◌, ℕ, zero, suc, List, [], ◌∷◌, ◌++◌, length, Option, Some, slice_get, refl, sym, ap, ◌∙◌}
use Rattle.std.specs.Option.{option_map}
use Rattle.std.proofs.lemmas.Option.{slice_get-map}
use Rattle.lists.proofs.Lemmas.{none≢some, some_same, onto_some, map_some}
use Rattle.bytecode_model.specs.declared.Value.{Value}
use Rattle.bytecode_model.specs.declared.Value.TheVariants.{Int, Long, Ref, Null, Unset}
use Rattle.bytecode_model.specs.Lists.{onto, replaced}
use Rattle.bytecode_model.specs.State.{Object}
use Rattle.bytecode_model.specs.Steps.{written}
use Rattle.counted_laws.specs.Visits.{lengths_of, Grows, IsArrayOf}

pub length_at : (os : List Object) (p : ℕ) (o : Object) → slice_get os p ≡ Some o → slice_get (lengths_of os) p ≡ Some (length o.parts)
length_at os p o is = slice_get-map (λ (x : Object). length x.parts) os p ∙ ap (λ (z : Option Object). option_map (λ (x : Object). length x.parts) z) is

pub last_of : (os : List Object) (o : Object) → slice_get (os ++ o ∷ []) (length os) ≡ Some o
last_of [] o = refl
last_of (x ∷ os) o = last_of os o

pub last_length : (os : List Object) (o : Object) → slice_get (lengths_of (os ++ o ∷ [])) (length os) ≡ Some (length o.parts)
last_length os o = length_at (os ++ o ∷ []) (length os) o (last_of os o)

-- ---- growth

pub same_grows : (xs ys : List ℕ) → xs ≡ ys → Grows xs ys
same_grows xs ys e p n is = ap (λ (zs : List ℕ). slice_get zs p) (sym e) ∙ is

pub then_grows : (xs ys zs : List ℕ) → Grows xs ys → Grows ys zs → Grows xs zs
then_grows xs ys zs a b p n is = b p n (a p n is)

pub still_there : (os : List Object) (x : Object) (p : ℕ) (o : Object) → slice_get os p ≡ Some o → slice_get (os ++ x ∷ []) p ≡ Some o
still_there [] x p o is = absurd (none≢some o is)
still_there (y ∷ os) x zero o is = is
still_there (y ∷ os) x (suc p) o is = still_there os x p o is

pub made_grows : (os : List Object) (x : Object) → Grows (lengths_of os) (lengths_of (os ++ x ∷ []))
made_grows os x p n is =
    let o = map_some (λ (y : Object). length y.parts) (slice_get os p) n (sym (slice_get-map (λ (y : Object). length y.parts) os p) ∙ is) in
    length_at (os ++ x ∷ []) p o.0 (still_there os x p o.0 o.1) ∙ ap Some o.2

replaced_length : {A : Type 0} (xs : List A) (k : ℕ) (y : A) (zs : List A) → replaced xs k y ≡ Some zs → length zs ≡ length xs
replaced_length [] k y zs e = absurd (none≢some zs e)
replaced_length (x ∷ xs) zero y zs e = ap (λ (l : List _). length l) (sym (some_same (y ∷ xs) zs e))
replaced_length (x ∷ xs) (suc k) y zs e =
    let r = onto_some (replaced xs k y) (λ ws. Some (x ∷ ws)) zs e in
    ap (λ (l : List _). length l) (sym (some_same (x ∷ r.0) zs r.2)) ∙ ap suc (replaced_length xs k y r.0 r.1)

replaced_lengths : (os : List Object) (p : ℕ) (o u : Object) (us : List Object) → slice_get os p ≡ Some o → length u.parts ≡ length o.parts → replaced os p u ≡ Some us → lengths_of us ≡ lengths_of os
replaced_lengths [] p o u us is long e = absurd (none≢some us e)
replaced_lengths (x ∷ os) zero o u us is long e =
    ap lengths_of (sym (some_same (u ∷ os) us e)) ∙ ap (λ (n : ℕ). n ∷ lengths_of os) (long ∙ ap (λ (z : Object). length z.parts) (sym (some_same x o is)))
replaced_lengths (x ∷ os) (suc p) o u us is long e =
    let r = onto_some (replaced os p u) (λ ws. Some (x ∷ ws)) us e in
    ap lengths_of (sym (some_same (x ∷ r.0) us r.2)) ∙ ap (λ (l : List ℕ). length x.parts ∷ l) (replaced_lengths os p o u r.0 is long r.1)

-- an object that was written, and the others
pub record Written (os : List Object) (p k : ℕ) (v : Value) (us : List Object) : Type 0 where
  pub object : Object
  pub is : slice_get os p ≡ Some object
  pub parts : List Value
  pub replaced_part : replaced object.parts k v ≡ Some parts
  pub replaced_object : replaced os p (record object { parts = parts }) ≡ Some us
  pub lengths : lengths_of us ≡ lengths_of os

pub was_written : (os : List Object) (p k : ℕ) (v : Value) (us : List Object) → written os p k v ≡ Some us → Written os p k v us
was_written os p k v us e =
    let o = onto_some (slice_get os p) (λ (x : Object). onto (replaced x.parts k v) (λ ps. replaced os p (record x { parts = ps }))) us e in
    let ps = onto_some (replaced o.0.parts k v) (λ ps. replaced os p (record o.0 { parts = ps })) us o.2 in
    let long : length ps.0 ≡ length o.0.parts = replaced_length o.0.parts k v ps.0 ps.1 in
    record {
      object = o.0;
      is = o.1;
      parts = ps.0;
      replaced_part = ps.1;
      replaced_object = ps.2;
      lengths = replaced_lengths os p o.0 (record o.0 { parts = ps.0 }) us o.1 long ps.2;
    }

-- ---- arrays

pub still_array : (xs ys : List ℕ) → Grows xs ys → (n : ℕ) (v : Value) → IsArrayOf xs n v → IsArrayOf ys n v
still_array xs ys grows n (Int x) h = h
still_array xs ys grows n (Long x) h = h
still_array xs ys grows n (Ref p) h = grows p n h
still_array xs ys grows n Null h = tt
still_array xs ys grows n Unset h = h
