-- The first value of a method, as values are put behind one another.
use Rattle.std.proofs.Common.{◌≡◌, ℕ, ◌<◌, ◌⊎◌, Bool, true, false, not, ◌&&◌, ◌==◌, List, [], ◌∷◌, ◌++◌, length, get_or, set, take, drop, replicate, Option, Some, None, refl, sym, ap, ◌∙◌, subst, inl, inr, arith}
use Rattle.std.specs.Prelude.{slice_get, if◌then◌else◌}
use Rattle.std.specs.Option.{option_or}
use Rattle.std.proofs.lemmas.Bool.{cases_eq, eq-eqb, ne_eqb}
use Rattle.std.proofs.lemmas.List.{get_or-replicate, length-replicate, get_or-set_same, get_or-set_other, length-set, take_at}
use Rattle.std.proofs.lemmas.Option.{slice_get-get_or, get_or_from_slice_get}
use Rattle.bound_rules.specs.Told.{Valued, is_same, value_in}
use Rattle.cert_checker.specs.Setting.{AreFirst, first_with, with_first}

-- what one value says of a method
abbrev pub said_by : (inside : Bool) → (method : ℕ) → Valued → Option (Option ℕ)
said_by inside m v = if is_same inside v.inside && v.method == m then Some v.value else None

behind_first : (b : Bool) (o : Option ℕ) (rest more : Option (Option ℕ)) → (if b then Some o else option_or rest more) ≡ option_or (if b then Some o else rest) more
behind_first true o rest more = refl
behind_first false o rest more = refl

-- of a list with one more value behind
pub value_in-push : (inside : Bool) (m : ℕ) (vs : List Valued) (x : Valued) → value_in inside m (vs ++ x ∷ []) ≡ option_or (value_in inside m vs) (said_by inside m x)
value_in-push inside m [] x = refl
value_in-push inside m (v ∷ vs) x =
    ap (λ (o : Option (Option ℕ)). if is_same inside v.inside && v.method == m then Some v.value else o) (value_in-push inside m vs x)
    ∙ behind_first (is_same inside v.inside && v.method == m) v.value (value_in inside m vs) (said_by inside m x)

or_none : (o : Option (Option ℕ)) → option_or o None ≡ o
or_none None = refl
or_none (Some v) = refl

said_none : (b : Bool) (same : Bool) (value : Option ℕ) → (b ≡ false) ⊎ (same ≡ false) → (if b && same then Some value else None) ≡ None
said_none false same value h = refl
said_none true false value h = refl
said_none true true value h = elim h [ inl e ↦ absurd (let f : true ≡ false = e in cc) | inr e ↦ absurd (let f : true ≡ false = e in cc) ]

said_some : (b same : Bool) (value : Option ℕ) → b ≡ true → same ≡ true → (if b && same then Some value else None) ≡ Some value
said_some true true value p q = refl
said_some true false value p q = absurd (let f : false ≡ true = q in cc)
said_some false same value p q = absurd (let f : false ≡ true = p in cc)

-- a value of the other kind, or of another method, says nothing
pub unchanged : (inside : Bool) (m : ℕ) (vs : List Valued) (x : Valued) → (is_same inside x.inside ≡ false) ⊎ (x.method ≡ m → ⊥) → value_in inside m (vs ++ x ∷ []) ≡ value_in inside m vs
unchanged inside m vs x h =
    value_in-push inside m vs x
    ∙ ap (option_or (value_in inside m vs)) (said_none (is_same inside x.inside) (x.method == m) x.value (elim h [ inl e ↦ inl e | inr ne ↦ inr (ne_eqb x.method m ne) ]))
    ∙ or_none (value_in inside m vs)

pub changed : (inside : Bool) (vs : List Valued) (x : Valued) → is_same inside x.inside ≡ true → value_in inside x.method (vs ++ x ∷ []) ≡ option_or (value_in inside x.method vs) (Some x.value)
changed inside vs x h =
    value_in-push inside x.method vs x
    ∙ ap (option_or (value_in inside x.method vs)) (said_some (is_same inside x.inside) (x.method == x.method) x.value h (eq-eqb x.method x.method refl))

-- ---- the first of each method

-- of a kind of which the value is not
pub first_other : (inside : Bool) (vs : List Valued) (n : ℕ) (x : Valued) (firsts : List (Option (Option ℕ))) → is_same inside x.inside ≡ false → AreFirst inside (record { valued = vs; methods = n }) firsts
    → AreFirst inside (record { valued = vs ++ x ∷ []; methods = n }) firsts
first_other inside vs n x firsts other h = record {
  long = h.long;
  each = λ m below. h.each m below ∙ ap Some (sym (unchanged inside m vs x (inl other)));
}

put : (inside : Bool) (vs : List Valued) (n : ℕ) (x : Valued) (firsts : List (Option (Option ℕ))) (o : Option (Option ℕ)) → is_same inside x.inside ≡ true → x.method < n → value_in inside x.method vs ≡ o
    → AreFirst inside (record { valued = vs; methods = n }) firsts → AreFirst inside (record { valued = vs ++ x ∷ []; methods = n }) (first_with firsts x.method x.value (Some o))
put inside vs n x firsts None same known is h =
    let fs = set firsts x.method (Some x.value) in
    let long = h.long in
    let inside_set : x.method < length firsts = omega arith in
    let now : value_in inside x.method (vs ++ x ∷ []) ≡ Some x.value = changed inside vs x same ∙ ap (λ (p : Option (Option ℕ)). option_or p (Some x.value)) is in
    record {
      long = length-set firsts x.method (Some x.value) ∙ h.long;
      each = λ m below.
          let set_long = length-set firsts x.method (Some x.value) in
          let within : m < length fs = omega arith in
          slice_get-get_or fs m None within
          ∙ ap Some (elim (cases_eq m x.method) [
            | inl e ↦ let P : ℕ → Type 0 = λ k. get_or fs k None ≡ value_in inside k (vs ++ x ∷ []) in subst P (sym e) (get_or-set_same firsts x.method (Some x.value) None inside_set ∙ sym now)
            | inr ne ↦
                get_or-set_other firsts x.method m (Some x.value) None ne
                ∙ get_or_from_slice_get firsts m (value_in inside m vs) None (h.each m below)
                ∙ sym (unchanged inside m vs x (inr (λ e. ne (sym e))))
          ]);
    }
put inside vs n x firsts (Some w) same known is h = record {
  long = h.long;
  each = λ m below.
      h.each m below
      ∙ ap Some (elim (cases_eq m x.method) [
        | inl e ↦
            let P : ℕ → Type 0 = λ k. value_in inside k vs ≡ value_in inside k (vs ++ x ∷ []) in
            subst P (sym e) (is ∙ sym (changed inside vs x same ∙ ap (λ (p : Option (Option ℕ)). option_or p (Some x.value)) is))
        | inr ne ↦ sym (unchanged inside m vs x (inr (λ e. ne (sym e))))
      ]);
}

-- of its kind
pub first_same : (inside : Bool) (vs : List Valued) (n : ℕ) (x : Valued) (firsts : List (Option (Option ℕ))) → is_same inside x.inside ≡ true → x.method < n → AreFirst inside (record { valued = vs; methods = n }) firsts
    → AreFirst inside (record { valued = vs ++ x ∷ []; methods = n }) (with_first firsts x.method x.value)
first_same inside vs n x firsts same known h =
    let P : Option (Option (Option ℕ)) → Type 0 = λ o. AreFirst inside (record { valued = vs ++ x ∷ []; methods = n }) (first_with firsts x.method x.value o) in
    subst P (sym (h.each x.method known)) (put inside vs n x firsts (value_in inside x.method vs) same known refl h)

-- before any value
none_yet : (inside : Bool) (n : ℕ) → AreFirst inside (record { valued = []; methods = n }) (replicate n None)
none_yet inside n =
    let none : Option (Option ℕ) = None in
    let long : length (replicate n none) ≡ n = length-replicate n none in
    record {
      long = long;
      each = λ m below. slice_get-get_or (replicate n none) m none (omega arith) ∙ ap Some (get_or-replicate n m none none below);
    }

pub first_none : (inside : Bool) (n k : ℕ) (vs : List Valued) (firsts : List (Option (Option ℕ))) → vs ≡ [] → k ≡ n → firsts ≡ replicate n None → AreFirst inside (record { valued = vs; methods = k }) firsts
first_none inside n k vs firsts empty count is =
    let P : List (Option (Option ℕ)) → Type 0 = λ fs. AreFirst inside (record { valued = vs; methods = k }) fs in
    let Q : List Valued → Type 0 = λ ws. AreFirst inside (record { valued = ws; methods = k }) (replicate n None) in
    let R : ℕ → Type 0 = λ j. AreFirst inside (record { valued = []; methods = j }) (replicate n None) in
    subst P (sym is) (subst Q (sym empty) (subst R (sym count) (none_yet inside n)))

-- ---- in a table that is written

with_first_long : (fs : List (Option (Option ℕ))) (m : ℕ) (value : Option ℕ) (o : Option (Option (Option ℕ))) → length (first_with fs m value o) ≡ length fs
with_first_long fs m value None = refl
with_first_long fs m value (Some None) = length-set fs m (Some value)
with_first_long fs m value (Some (Some v)) = refl

-- what a table holds once a slice of all of it has the value
pub written : (fs slice new : List (Option (Option ℕ))) (m : ℕ) (value : Option ℕ) (len : ℕ) → slice ≡ fs → new ≡ with_first slice m value → len ≡ length fs → take len (new ++ drop (length new) fs) ≡ with_first fs m value
written fs slice new m value len same is long =
    let now : new ≡ with_first fs m value = is ∙ ap (λ (xs : List (Option (Option ℕ))). with_first xs m value) same in
    let new_long = ap length now ∙ with_first_long fs m value (slice_get fs m) in
    take_at new (drop (length new) fs) len (new_long ∙ sym long) ∙ now

same_kind : (a b : Bool) → b ≡ a → is_same a b ≡ true
same_kind true b is = is
same_kind false b is = ap not is

other_kind : (a b : Bool) → b ≡ not a → is_same a b ≡ false
other_kind true b is = is
other_kind false b is = ap not is

-- the tables of both kinds, where the new value is inside
pub inside_more : (vs ws : List Valued) (x : Valued) (fs others new : List (Option (Option ℕ))) → ws ≡ vs ++ x ∷ [] → new ≡ with_first fs x.method x.value → x.inside ≡ true → x.method < length fs
    → AreFirst true (record { valued = vs; methods = length fs }) fs × AreFirst false (record { valued = vs; methods = length fs }) others
    → AreFirst true (record { valued = ws; methods = length new }) new × AreFirst false (record { valued = ws; methods = length new }) others
inside_more vs ws x fs others new more is inside known h =
    let P : List Valued → Type 0 = λ us. AreFirst true (record { valued = us; methods = length new }) new × AreFirst false (record { valued = us; methods = length new }) others in
    let Q : List (Option (Option ℕ)) → Type 0 = λ gs. AreFirst true (record { valued = vs ++ x ∷ []; methods = length gs }) gs × AreFirst false (record { valued = vs ++ x ∷ []; methods = length gs }) others in
    let R : ℕ → Type 0 = λ n. AreFirst true (record { valued = vs ++ x ∷ []; methods = n }) (with_first fs x.method x.value) × AreFirst false (record { valued = vs ++ x ∷ []; methods = n }) others in
    subst P (sym more) (subst Q (sym is) (subst R (sym (with_first_long fs x.method x.value (slice_get fs x.method))) (
      first_same true vs (length fs) x fs (same_kind true x.inside inside) known h.0,
      first_other false vs (length fs) x others (other_kind false x.inside inside) h.1,
    )))

-- and where it isn't
pub others_more : (vs ws : List Valued) (x : Valued) (fs others new : List (Option (Option ℕ))) → ws ≡ vs ++ x ∷ [] → new ≡ with_first others x.method x.value → x.inside ≡ false → x.method < length fs
    → AreFirst true (record { valued = vs; methods = length fs }) fs × AreFirst false (record { valued = vs; methods = length fs }) others
    → AreFirst true (record { valued = ws; methods = length fs }) fs × AreFirst false (record { valued = ws; methods = length fs }) new
others_more vs ws x fs others new more is inside known h =
    let P : List Valued → Type 0 = λ us. AreFirst true (record { valued = us; methods = length fs }) fs × AreFirst false (record { valued = us; methods = length fs }) new in
    let Q : List (Option (Option ℕ)) → Type 0 = λ gs. AreFirst true (record { valued = vs ++ x ∷ []; methods = length fs }) fs × AreFirst false (record { valued = vs ++ x ∷ []; methods = length fs }) gs in
    subst P (sym more) (subst Q (sym is) (
      first_other true vs (length fs) x fs (other_kind true x.inside inside) h.0,
      first_same false vs (length fs) x others (same_kind false x.inside inside) known h.1,
    ))
