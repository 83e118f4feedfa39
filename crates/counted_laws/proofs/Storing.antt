-- Local variables that are written, and those that aren't.
use Rattle.std.proofs.Common.{◌≡◌, ℕ, zero, suc, Bool, true, false, List, [], ◌∷◌, Option, Some, None, slice_get, refl, sym, ap, ◌∙◌}
use Rattle.std.specs.Prelude.{if◌then◌else◌}
use Rattle.lists.proofs.Lemmas.{none≢some, some_same, onto_some}
use Rattle.bytecode_model.specs.declared.Value.{Value}
use Rattle.bytecode_model.specs.declared.Value.TheVariants.{Unset}
use Rattle.bytecode_model.specs.Lists.{onto, replaced}
use Rattle.bytecode_model.specs.Types.{is_long}
use Rattle.bytecode_model.specs.Slots.{without_half, stored_at}
use Rattle.bytecode_model.specs.Effects.{stored}
use Rattle.bytecode_model.specs.WellFormed.{AreSpaced}

-- ---- one replaced

pub replaced_same : {A : Type 0} (xs : List A) (k : ℕ) (y : A) (zs : List A) → replaced xs k y ≡ Some zs → slice_get zs k ≡ Some y
replaced_same [] k y zs e = absurd (none≢some zs e)
replaced_same (x ∷ xs) zero y zs e = ap (λ (l : List _). slice_get l 0) (sym (some_same (y ∷ xs) zs e))
replaced_same (x ∷ xs) (suc k) y zs e =
    let r = onto_some (replaced xs k y) (λ ws. Some (x ∷ ws)) zs e in
    ap (λ (l : List _). slice_get l (suc k)) (sym (some_same (x ∷ r.0) zs r.2)) ∙ replaced_same xs k y r.0 r.1

pub replaced_other : {A : Type 0} (xs : List A) (k : ℕ) (y : A) (zs : List A) → replaced xs k y ≡ Some zs → (j : ℕ) → (j ≡ k → ⊥) → slice_get zs j ≡ slice_get xs j
replaced_other [] k y zs e j d = absurd (none≢some zs e)
replaced_other (x ∷ xs) zero y zs e zero d = absurd (d refl)
replaced_other (x ∷ xs) zero y zs e (suc j) d = ap (λ (l : List _). slice_get l (suc j)) (sym (some_same (y ∷ xs) zs e))
replaced_other (x ∷ xs) (suc k) y zs e zero d =
    let r = onto_some (replaced xs k y) (λ ws. Some (x ∷ ws)) zs e in
    ap (λ (l : List _). slice_get l 0) (sym (some_same (x ∷ r.0) zs r.2))
replaced_other (x ∷ xs) (suc k) y zs e (suc j) d =
    let r = onto_some (replaced xs k y) (λ ws. Some (x ∷ ws)) zs e in
    ap (λ (l : List _). slice_get l (suc j)) (sym (some_same (x ∷ r.0) zs r.2)) ∙ replaced_other xs k y r.0 r.1 j (λ same. d (ap suc same))

-- ---- one stored

abbrev at : List Value → ℕ → Value → Option (List Value)
at vs k v = stored_at is_long Unset vs k v

at_cons : (u : Value) (vs : List Value) (k : ℕ) (v : Value) → at (u ∷ vs) (suc k) v ≡ onto (at vs k v) (λ ws. Some (u ∷ ws))
at_cons u [] k v = refl
at_cons u (w ∷ vs) k v = refl

no_half : (vs : List Value) → without_half is_long Unset vs zero ≡ vs
no_half [] = refl
no_half (v ∷ vs) = refl

first_same : (b : Bool) (v : Value) (xs ys ws : List Value) → (if b then Some (v ∷ xs) else Some (v ∷ ys)) ≡ Some ws → slice_get ws 0 ≡ Some v
first_same true v xs ys ws e = ap (λ (l : List Value). slice_get l 0) (sym (some_same (v ∷ xs) ws e))
first_same false v xs ys ws e = ap (λ (l : List Value). slice_get l 0) (sym (some_same (v ∷ ys) ws e))

only_same : (b : Bool) (v : Value) (ws : List Value) → (if b then None else Some (v ∷ [])) ≡ Some ws → slice_get ws 0 ≡ Some v
only_same true v ws e = absurd (none≢some ws e)
only_same false v ws e = ap (λ (l : List Value). slice_get l 0) (sym (some_same (v ∷ []) ws e))

at_same : (vs : List Value) (k : ℕ) (v : Value) (ws : List Value) → at vs k v ≡ Some ws → slice_get ws k ≡ Some v
at_same [] k v ws e = absurd (none≢some ws e)
at_same (u ∷ []) zero v ws e = only_same (is_long v) v ws e
at_same (u ∷ w ∷ vs) zero v ws e = first_same (is_long v) v (Unset ∷ vs) ((if is_long u then Unset else w) ∷ vs) ws e
at_same (u ∷ vs) (suc k) v ws e =
    let r = onto_some (at vs k v) (λ xs. Some (u ∷ xs)) ws (sym (at_cons u vs k v) ∙ e) in
    ap (λ (l : List Value). slice_get l (suc k)) (sym (some_same (u ∷ r.0) ws r.2)) ∙ at_same vs k v r.0 r.1

pub stored_same : (vs : List Value) (k : ℕ) (v : Value) (ws : List Value) → stored vs k v ≡ Some ws → slice_get ws k ≡ Some v
stored_same vs k v ws e = at_same (without_half is_long Unset vs k) k v ws e

-- ---- the others

tail_spaced : (u : Value) (vs : List Value) → AreSpaced (u ∷ vs) → AreSpaced vs
tail_spaced u [] h = tt
tail_spaced u (w ∷ vs) h = h.1

still_short : (u y : Value) → is_long y ≡ false → Some u ≡ Some y → Some (if is_long u then Unset else u) ≡ Some y
still_short u y short e = ap (λ (b : Bool). Some (if b then Unset else u)) (ap is_long (some_same u y e) ∙ short) ∙ e

one_cons : (u : Value) (vs : List Value) (v : Value) → stored (u ∷ vs) (suc zero) v ≡ onto (stored vs zero v) (λ ws. Some ((if is_long u then Unset else u) ∷ ws))
one_cons u vs v =
    at_cons (if is_long u then Unset else u) vs zero v ∙ ap (λ (xs : List Value). onto (at xs zero v) (λ ws. Some ((if is_long u then Unset else u) ∷ ws))) (sym (no_half vs))

more_cons : (u : Value) (vs : List Value) (k : ℕ) (v : Value) → stored (u ∷ vs) (suc (suc k)) v ≡ onto (stored vs (suc k) v) (λ ws. Some (u ∷ ws))
more_cons u vs k v = at_cons u (without_half is_long Unset vs (suc k)) (suc k) v

-- where the first one is written
first_keeps : (u w : Value) (vs ws : List Value) (v : Value) → (is_long u ≡ true → w ≡ Unset) → (b : Bool) → is_long v ≡ b → (if b then Some (v ∷ Unset ∷ vs) else Some (v ∷ (if is_long u then Unset else w) ∷ vs)) ≡ Some ws
    → (j : ℕ) (y : Value) → slice_get (u ∷ w ∷ vs) (suc j) ≡ Some y → (b ≡ true → suc j ≡ suc zero → ⊥) → slice_get ws (suc j) ≡ Some y
first_keeps u w vs ws v spaced true is e zero y holds apart = absurd (apart refl refl)
first_keeps u w vs ws v spaced true is e (suc j) y holds apart = ap (λ (l : List Value). slice_get l (suc (suc j))) (sym (some_same (v ∷ Unset ∷ vs) ws e)) ∙ holds
first_keeps u w vs ws v spaced false is e zero y holds apart =
    ap (λ (l : List Value). slice_get l 1) (sym (some_same (v ∷ (if is_long u then Unset else w) ∷ vs) ws e)) ∙ by (is_long u) refl
  where
    by : (b : Bool) → is_long u ≡ b → Some (if b then Unset else w) ≡ Some y
    by true long = ap Some (sym (spaced long)) ∙ holds
    by false short = holds
first_keeps u w vs ws v spaced false is e (suc j) y holds apart = ap (λ (l : List Value). slice_get l (suc (suc j))) (sym (some_same (v ∷ (if is_long u then Unset else w) ∷ vs) ws e)) ∙ holds

abbrev no_values : List Value
no_values = []

none_past : (j : ℕ) (y : Value) → slice_get no_values j ≡ Some y → ⊥
none_past zero y e = none≢some y e
none_past (suc j) y e = none≢some y e

-- a value, but for a long, that isn't written, nor is the second half of a long that is, stays
pub stored_keeps : (vs : List Value) → AreSpaced vs → (k : ℕ) (v : Value) (ws : List Value) → stored vs k v ≡ Some ws → (j : ℕ) (y : Value) → is_long y ≡ false → slice_get vs j ≡ Some y → (j ≡ k → ⊥) → (is_long v ≡ true → j ≡ suc k → ⊥)
    → slice_get ws j ≡ Some y
stored_keeps [] spaced k v ws e j y short holds other apart = absurd (none_past j y holds)
stored_keeps (u ∷ vs) spaced zero v ws e zero y short holds other apart = absurd (other refl)
stored_keeps (u ∷ []) spaced zero v ws e (suc j) y short holds other apart = absurd (none_past j y holds)
stored_keeps (u ∷ w ∷ vs) spaced zero v ws e (suc j) y short holds other apart = first_keeps u w vs ws v spaced.0 (is_long v) refl e j y holds apart
stored_keeps (u ∷ vs) spaced (suc zero) v ws e zero y short holds other apart =
    let r = onto_some (stored vs zero v) (λ xs. Some ((if is_long u then Unset else u) ∷ xs)) ws (sym (one_cons u vs v) ∙ e) in
    ap (λ (l : List Value). slice_get l 0) (sym (some_same ((if is_long u then Unset else u) ∷ r.0) ws r.2)) ∙ still_short u y short holds
stored_keeps (u ∷ vs) spaced (suc zero) v ws e (suc j) y short holds other apart =
    let r = onto_some (stored vs zero v) (λ xs. Some ((if is_long u then Unset else u) ∷ xs)) ws (sym (one_cons u vs v) ∙ e) in
    ap (λ (l : List Value). slice_get l (suc j)) (sym (some_same ((if is_long u then Unset else u) ∷ r.0) ws r.2))
    ∙ stored_keeps vs (tail_spaced u vs spaced) zero v r.0 r.1 j y short holds (λ same. other (ap suc same)) (λ long same. apart long (ap suc same))
stored_keeps (u ∷ vs) spaced (suc (suc k)) v ws e zero y short holds other apart =
    let r = onto_some (stored vs (suc k) v) (λ xs. Some (u ∷ xs)) ws (sym (more_cons u vs k v) ∙ e) in
    ap (λ (l : List Value). slice_get l 0) (sym (some_same (u ∷ r.0) ws r.2)) ∙ holds
stored_keeps (u ∷ vs) spaced (suc (suc k)) v ws e (suc j) y short holds other apart =
    let r = onto_some (stored vs (suc k) v) (λ xs. Some (u ∷ xs)) ws (sym (more_cons u vs k v) ∙ e) in
    ap (λ (l : List Value). slice_get l (suc j)) (sym (some_same (u ∷ r.0) ws r.2))
    ∙ stored_keeps vs (tail_spaced u vs spaced) (suc k) v r.0 r.1 j y short holds (λ same. other (ap suc same)) (λ long same. apart long (ap suc same))
