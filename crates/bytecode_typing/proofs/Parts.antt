-- Fields and elements, and lists of objects.
use Rattle.std.proofs.Common.{◌≡◌, ℕ, zero, suc, ◌+◌, Bool, List, [], ◌∷◌, ◌++◌, Option, Some, None, refl, sym, ap, ◌∙◌, subst, length, map, drop, replicate, arith}
use Rattle.std.specs.Prelude.{IfSome, slice_get, sum_by, if◌then◌else◌, FitsSigned, pos}
use Rattle.std.specs.Int.{w32, w64}
use Rattle.std.specs.Option.{IsSomeAnd}
use Rattle.std.proofs.lemmas.Int.{fits_signed_from_abs}
use Rattle.std.proofs.lemmas.List.Sums.{sum_by-cons, sum_by_push}
use Rattle.bytecode_model.specs.declared.Value.{Value}
use Rattle.bytecode_model.specs.Lists.{onto, replaced}
use Rattle.bytecode_model.specs.Types.{IntType, LongType, Kind, OfClass, OfNumbers, OfReferences, Declared, Numeric, Reference, is_long, default, element_type}
use Rattle.bytecode_model.specs.State.{Object}
use Rattle.bytecode_model.specs.Program.{Program, kind_of}
use Rattle.bytecode_model.specs.Sizes.{value_words, object_words}
use Rattle.bytecode_model.specs.Steps.{written}
use Rattle.bytecode_typing.specs.Tests.{AllTwo}
use Rattle.bytecode_typing.specs.Fits.{kind_in, HasDeclared, HasEach, PartsFit, ObjectFits, BeginWith, numbers_of}
use Rattle.bytecode_typing.proofs.Relations.{some_in, onto_is, weaken_two}
use Rattle.bytecode_typing.proofs.Values.{grow_declared, declared_long}

-- an item is replaced
pub replaced_length : {A : Type 0} (xs zs : List A) (k : ℕ) (v : A) → replaced xs k v ≡ Some zs → length zs ≡ length xs
replaced_length [] zs k v e = absurd (cc)
replaced_length (x ∷ xs) zs zero v e = let is : v ∷ xs ≡ zs = cc in ap length (sym is)
replaced_length (x ∷ xs) zs (suc k) v e = at (replaced xs k v) refl (λ ys g. replaced_length xs ys k v g) e
  where
    at : (o : Option (List _)) → replaced xs k v ≡ o → ((ys : List _) → replaced xs k v ≡ Some ys → length ys ≡ length xs) → onto o (λ ys. Some (x ∷ ys)) ≡ Some zs → length zs ≡ length (x ∷ xs)
    at None g rec e = absurd (cc)
    at (Some ys) g rec e = let is : x ∷ ys ≡ zs = cc in ap length (sym is) ∙ ap suc (rec ys g)

-- and the sum over the items stays where the new one counts as much
pub replaced_sum : {A : Type 0} (f : A → ℕ) (xs zs : List A) (k : ℕ) (w v : A) → slice_get xs k ≡ Some w → replaced xs k v ≡ Some zs → f w ≡ f v → sum_by f zs ≡ sum_by f xs
replaced_sum f [] zs k w v g e s = absurd (cc)
replaced_sum f (x ∷ xs) zs zero w v g e s =
    let is : v ∷ xs ≡ zs = cc in let x_is : x ≡ w = cc in
    ap (sum_by f) (sym is) ∙ sum_by-cons f v xs ∙ ap (λ a. a + sum_by f xs) (sym s ∙ ap f (sym x_is)) ∙ sym (sum_by-cons f x xs)
replaced_sum f (x ∷ xs) zs (suc k) w v g e s = at (replaced xs k v) refl (λ ys h. replaced_sum f xs ys k w v g h s) e
  where
    at : (o : Option (List _)) → replaced xs k v ≡ o → ((ys : List _) → replaced xs k v ≡ Some ys → sum_by f ys ≡ sum_by f xs) → onto o (λ ys. Some (x ∷ ys)) ≡ Some zs → sum_by f zs ≡ sum_by f (x ∷ xs)
    at None h rec e = absurd (cc)
    at (Some ys) h rec e = let is : x ∷ ys ≡ zs = cc in ap (sum_by f) (sym is) ∙ sum_by-cons f x ys ∙ ap (λ a. f x + a) (rec ys h) ∙ sym (sum_by-cons f x xs)

module _ (P : Program) where
  pub grow_each : (ks more : List ℕ) (d : Declared) (vs : List Value) → HasEach P ks d vs → HasEach P (ks ++ more) d vs
  grow_each ks more d [] h = tt
  grow_each ks more d (v ∷ vs) h = (grow_declared P ks more d v h.0, grow_each ks more d vs h.1)

  pub grow_parts : (ks more : List ℕ) (k : Kind) (vs : List Value) → PartsFit P ks k vs → PartsFit P (ks ++ more) k vs
  grow_parts ks more (OfClass c) vs h = (h.0, weaken_two (HasDeclared P ks) (HasDeclared P (ks ++ more)) (λ d v g. grow_declared P ks more d v g) (P.fields c) vs h.1)
  grow_parts ks more (OfNumbers a) vs h = (h.0, grow_each ks more (Numeric (element_type a)) vs h.1)
  grow_parts ks more (OfReferences k) vs h = (h.0, grow_each ks more (Reference k) vs h.1)

  pub each_at : (ks : List ℕ) (d : Declared) (vs : List Value) (k : ℕ) → HasEach P ks d vs → IfSome (slice_get vs k) (HasDeclared P ks d)
  each_at ks d [] k h = tt
  each_at ks d (v ∷ vs) zero h = h.0
  each_at ks d (v ∷ vs) (suc k) h = each_at ks d vs k h.1

  pub each_put : (ks : List ℕ) (d : Declared) (vs : List Value) (k : ℕ) (w v : Value) → HasEach P ks d vs → slice_get vs k ≡ Some w → HasDeclared P ks d v → (zs : List Value) × (replaced vs k v ≡ Some zs) × HasEach P ks d zs
  each_put ks d [] k w v h e g = absurd (cc)
  each_put ks d (x ∷ vs) zero w v h e g = (v ∷ vs, refl, (g, h.1))
  each_put ks d (x ∷ vs) (suc k) w v h e g =
      let (zs, ez, hz) = each_put ks d vs k w v h.1 e g in (x ∷ zs, onto_is (replaced vs k v) zs (λ zs. Some (x ∷ zs)) (Some (x ∷ zs)) ez refl, (h.0, hz))

  -- what objects begin with
  pub zero_fits : FitsSigned w32 (pos 0)
  zero_fits = fits_signed_from_abs w32 (pos 0) (omega arith)

  pub zero_fits_long : FitsSigned w64 (pos 0)
  zero_fits_long = fits_signed_from_abs w64 (pos 0) (omega arith)

  pub default_fits : (ks : List ℕ) (d : Declared) → HasDeclared P ks d (default d)
  default_fits ks (Numeric IntType) = zero_fits
  default_fits ks (Numeric LongType) = zero_fits_long
  default_fits ks (Reference l) = tt

  pub defaults_fit : (ks : List ℕ) (ds : List Declared) → AllTwo (HasDeclared P ks) ds (map default ds)
  defaults_fit ks [] = tt
  defaults_fit ks (d ∷ ds) = (default_fits ks d, defaults_fit ks ds)

  pub replicated_fit : (ks : List ℕ) (d : Declared) (v : Value) → HasDeclared P ks d v → (n : ℕ) → HasEach P ks d (replicate n v)
  replicated_fit ks d v h zero = tt
  replicated_fit ks d v h (suc n) = (h, replicated_fit ks d v h n)

  -- ---- objects by number

  pub kind_at : (os : List Object) (p : ℕ) (o : Object) (Q : Kind → Type 0) → slice_get os p ≡ Some o → IsSomeAnd (kind_of P o) Q → IsSomeAnd (kind_in P (numbers_of os) p) Q
  kind_at [] p o Q e h = absurd (cc)
  kind_at (x ∷ os) zero o Q e h = let is : x ≡ o = cc in subst (λ o. IsSomeAnd (kind_of P o) Q) (sym is) h
  kind_at (x ∷ os) (suc p) o Q e h = kind_at os p o Q e h

  pub object_at : (os : List Object) (p : ℕ) (Q : Kind → Type 0) → IsSomeAnd (kind_in P (numbers_of os) p) Q → (o : Object) × (slice_get os p ≡ Some o) × IsSomeAnd (kind_of P o) Q
  object_at [] p Q h = absurd h
  object_at (x ∷ os) zero Q h = (x, refl, h)
  object_at (x ∷ os) (suc p) Q h = object_at os p Q h

  pub numbers_append : (os more : List Object) → numbers_of (os ++ more) ≡ numbers_of os ++ numbers_of more
  numbers_append [] more = refl
  numbers_append (o ∷ os) more = ap (λ l. o.kind ∷ l) (numbers_append os more)

  pub numbers_length : (os : List Object) → length (numbers_of os) ≡ length os
  numbers_length [] = refl
  numbers_length (o ∷ os) = ap suc (numbers_length os)

  pub last_object : (os : List Object) (o : Object) → slice_get (os ++ o ∷ []) (length os) ≡ Some o
  last_object [] o = refl
  last_object (x ∷ os) o = last_object os o

  -- ---- the objects of the start

  pub begin_at : (xs os : List Object) (p : ℕ) (x : Object) → BeginWith xs os → slice_get xs p ≡ Some x → (o : Object) × (slice_get os p ≡ Some o) × (o.kind ≡ x.kind)
  begin_at [] os p x h e = absurd (cc)
  begin_at (y ∷ xs) [] p x h e = absurd h
  begin_at (y ∷ xs) (o ∷ os) zero x h e = let is : y ≡ x = cc in (o, refl, h.0 ∙ ap (λ y. y.kind) is)
  begin_at (y ∷ xs) (o ∷ os) (suc p) x h e = begin_at xs os p x h.2 e

  pub begin_append : (xs os more : List Object) → BeginWith xs os → BeginWith xs (os ++ more)
  begin_append [] os more h = tt
  begin_append (x ∷ xs) [] more h = absurd h
  begin_append (x ∷ xs) (o ∷ os) more h = (h.0, h.1, begin_append xs os more h.2)

  pub begin_self : (xs : List Object) → BeginWith xs xs
  begin_self [] = tt
  begin_self (x ∷ xs) = (refl, refl, begin_self xs)

  pub begin_put : (xs os zs : List Object) (p : ℕ) (o : Object) (ps : List Value) → slice_get os p ≡ Some o → length ps ≡ length o.parts → replaced os p (record o { parts = ps }) ≡ Some zs → BeginWith xs os → BeginWith xs zs
  begin_put [] os zs p o ps e l r h = tt
  begin_put (x ∷ xs) [] zs p o ps e l r h = absurd h
  begin_put (x ∷ xs) (y ∷ os) zs zero o ps e l r h =
      let is : y ≡ o = cc in let z : record o { parts = ps } ∷ os ≡ zs = cc in
      subst (λ zs. BeginWith (x ∷ xs) zs) z (ap (λ o. o.kind) (sym is) ∙ h.0, l ∙ ap (λ o. length o.parts) (sym is) ∙ h.1, h.2)
  begin_put (x ∷ xs) (y ∷ os) zs (suc p) o ps e l r h = at (replaced os p (record o { parts = ps })) refl (λ us g. begin_put xs os us p o ps e l g h.2) r
    where
      at : (q : Option (List Object)) → replaced os p (record o { parts = ps }) ≡ q → ((us : List Object) → replaced os p (record o { parts = ps }) ≡ Some us → BeginWith xs us) → onto q (λ us. Some (y ∷ us)) ≡ Some zs → BeginWith (x ∷ xs) zs
      at None g rec r = absurd (cc)
      at (Some us) g rec r = let z : y ∷ us ≡ zs = cc in subst (λ zs. BeginWith (x ∷ xs) zs) z (h.0, h.1, rec us g)

  -- ---- one object's parts are written

  pub numbers_put : (os zs : List Object) (p : ℕ) (o : Object) (ps : List Value) → slice_get os p ≡ Some o → replaced os p (record o { parts = ps }) ≡ Some zs → numbers_of zs ≡ numbers_of os
  numbers_put [] zs p o ps e r = absurd (cc)
  numbers_put (x ∷ os) zs zero o ps e r =
      let is : x ≡ o = cc in let z : record o { parts = ps } ∷ os ≡ zs = cc in ap numbers_of (sym z) ∙ ap (λ y. y.kind ∷ numbers_of os) (sym is)
  numbers_put (x ∷ os) zs (suc p) o ps e r = at (replaced os p (record o { parts = ps })) refl (λ us g. numbers_put os us p o ps e g) r
    where
      at : (q : Option (List Object)) → replaced os p (record o { parts = ps }) ≡ q → ((us : List Object) → replaced os p (record o { parts = ps }) ≡ Some us → numbers_of us ≡ numbers_of os) → onto q (λ us. Some (x ∷ us)) ≡ Some zs → numbers_of zs ≡ numbers_of (x ∷ os)
      at None g rec r = absurd (cc)
      at (Some us) g rec r = let z : x ∷ us ≡ zs = cc in ap numbers_of (sym z) ∙ ap (λ l. x.kind ∷ l) (rec us g)

  all_cons : (F : Object → Type 0) (x : Object) (xs : List Object) → F x → ((q : ℕ) → IfSome (slice_get xs q) F) → (q : ℕ) → IfSome (slice_get (x ∷ xs) q) F
  all_cons F x xs h g zero = h
  all_cons F x xs h g (suc q) = g q

  pub put_all : (F : Object → Type 0) (xs zs : List Object) (p : ℕ) (a : Object) → ((q : ℕ) → IfSome (slice_get xs q) F) → F a → replaced xs p a ≡ Some zs → (q : ℕ) → IfSome (slice_get zs q) F
  put_all F [] zs p a h g r = absurd (cc)
  put_all F (x ∷ xs) zs zero a h g r = let z : a ∷ xs ≡ zs = cc in subst (λ zs. (q : ℕ) → IfSome (slice_get zs q) F) z (all_cons F a xs g (λ q. h (suc q)))
  put_all F (x ∷ xs) zs (suc p) a h g r = at (replaced xs p a) refl (λ us e. put_all F xs us p a (λ q. h (suc q)) g e) r
    where
      at : (o : Option (List Object)) → replaced xs p a ≡ o → ((us : List Object) → replaced xs p a ≡ Some us → (q : ℕ) → IfSome (slice_get us q) F) → onto o (λ us. Some (x ∷ us)) ≡ Some zs → (q : ℕ) → IfSome (slice_get zs q) F
      at None e rec r = absurd (cc)
      at (Some us) e rec r = let z : x ∷ us ≡ zs = cc in subst (λ zs. (q : ℕ) → IfSome (slice_get zs q) F) z (all_cons F x us (h zero) (rec us e))

  pub put_there : (os : List Object) (p : ℕ) (o a : Object) → slice_get os p ≡ Some o → (zs : List Object) × (replaced os p a ≡ Some zs)
  put_there [] p o a e = absurd (cc)
  put_there (x ∷ os) zero o a e = (a ∷ os, refl)
  put_there (x ∷ os) (suc p) o a e = let (zs, r) = put_there os p o a e in (x ∷ zs, onto_is (replaced os p a) zs (λ zs. Some (x ∷ zs)) (Some (x ∷ zs)) r refl)

  pub written_is : (os : List Object) (p k : ℕ) (v : Value) (o : Object) (ps : List Value) (zs : List Object) → slice_get os p ≡ Some o → replaced o.parts k v ≡ Some ps → replaced os p (record o { parts = ps }) ≡ Some zs → written os p k v ≡ Some zs
  written_is os p k v o ps zs eo ep ez =
      onto_is (slice_get os p) o (λ o. onto (replaced o.parts k v) (λ ps. replaced os p (record o { parts = ps }))) (Some zs) eo
      (onto_is (replaced o.parts k v) ps (λ ps. replaced os p (record o { parts = ps })) (Some zs) ep ez)

  -- ---- the words of the objects that were made

  pub put_made : (n : ℕ) (os zs : List Object) (p : ℕ) (o a : Object) → slice_get os p ≡ Some o → object_words P o ≡ object_words P a → replaced os p a ≡ Some zs → sum_by (object_words P) (drop n zs) ≡ sum_by (object_words P) (drop n os)
  put_made zero os zs p o a e s r = replaced_sum (object_words P) os zs p o a e r s
  put_made (suc n) [] zs p o a e s r = absurd (cc)
  put_made (suc n) (x ∷ os) zs zero o a e s r = let z : a ∷ os ≡ zs = cc in ap (λ zs. sum_by (object_words P) (drop (suc n) zs)) (sym z)
  put_made (suc n) (x ∷ os) zs (suc p) o a e s r = at (replaced os p a) refl (λ us g. put_made n os us p o a e s g) r
    where
      at : (q : Option (List Object)) → replaced os p a ≡ q → ((us : List Object) → replaced os p a ≡ Some us → sum_by (object_words P) (drop n us) ≡ sum_by (object_words P) (drop n os)) → onto q (λ us. Some (x ∷ us)) ≡ Some zs → sum_by (object_words P) (drop (suc n) zs) ≡ sum_by (object_words P) (drop (suc n) (x ∷ os))
      at None g rec r = absurd (cc)
      at (Some us) g rec r = let z : x ∷ us ≡ zs = cc in ap (λ zs. sum_by (object_words P) (drop (suc n) zs)) (sym z) ∙ rec us g

  begin_drop : (xs os more : List Object) → BeginWith xs os → drop (length xs) (os ++ more) ≡ drop (length xs) os ++ more
  begin_drop [] os more h = refl
  begin_drop (x ∷ xs) [] more h = absurd h
  begin_drop (x ∷ xs) (o ∷ os) more h = begin_drop xs os more h.2

  pub append_made : (xs os : List Object) (o : Object) → BeginWith xs os → sum_by (object_words P) (drop (length xs) (os ++ o ∷ [])) ≡ sum_by (object_words P) (drop (length xs) os) + object_words P o
  append_made xs os o h = ap (sum_by (object_words P)) (begin_drop xs os (o ∷ []) h) ∙ sum_by_push (object_words P) (drop (length xs) os) o

  pub grow_objects : (os : List Object) (o : Object) (js more : List ℕ) → ((p : ℕ) → IfSome (slice_get os p) (ObjectFits P js)) → ObjectFits P (js ++ more) o → (p : ℕ) → IfSome (slice_get (os ++ o ∷ []) p) (ObjectFits P (js ++ more))
  grow_objects [] o js more h g zero = g
  grow_objects [] o js more h g (suc p) = tt
  grow_objects (x ∷ os) o js more h g zero = some_in (kind_of P x) _ _ (h zero) (λ k l. grow_parts js more k x.parts l)
  grow_objects (x ∷ os) o js more h g (suc p) = grow_objects os o js more (λ q. h (suc q)) g p

  -- the widths of values of one declared type
  words_of_long : (v w : Value) → is_long v ≡ is_long w → value_words v ≡ value_words w
  words_of_long v w e = ap (λ (b : Bool). if b then 2 else 1) e

  pub same_words : (ks : List ℕ) (d : Declared) (v w : Value) → HasDeclared P ks d v → HasDeclared P ks d w → value_words v ≡ value_words w
  same_words ks d v w h g = words_of_long v w (declared_long P ks d v h ∙ sym (declared_long P ks d w g))
