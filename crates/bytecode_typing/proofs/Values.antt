-- What the types say of values.
use Rattle.std.proofs.Common.{◌≡◌, ℕ, ◌≤◌, Bool, true, false, List, ◌++◌, Option, Some, None, refl, sym, ◌∙◌, subst, length, arith, length-append}
use Rattle.std.specs.Prelude.{◌==◌, if◌then◌else◌}
use Rattle.std.specs.Option.{IsSomeAnd}
use Rattle.bytecode_model.specs.declared.Value.{Value}
use Rattle.bytecode_model.specs.declared.Value.TheVariants.{Int, Long, Ref, Null, Unset}
use Rattle.bytecode_model.specs.Types.{IntType, LongType, OfClass, Declared, Numeric, Reference, Moved, Numbers, References, is_moved, suits, is_long}
use Rattle.bytecode_model.specs.Program.{Program, Method}
use Rattle.bytecode_model.specs.WellFormed.{IsValue}
use Rattle.bytecode_typing.specs.Tests.{Holds, AllTwo, all_two}
use Rattle.bytecode_typing.specs.Types.{VarType, Top, Integer, LongInteger, NullReference, UninitializedThis, Uninitialized, ReferenceTo, is_long_type, type_of, moves, substituted}
use Rattle.bytecode_typing.specs.Assignable.{is_assignable, is_assignable_item}
use Rattle.bytecode_model.specs.Effects.{same_bool}
use Rattle.bytecode_typing.specs.Checks.{made_at, as_reference, seen}
use Rattle.bytecode_typing.specs.Fits.{may_be, kind_in, Has, HasItem, HasDeclared}
use Rattle.bytecode_typing.specs.Lawful.{Lawful}
use Rattle.bytecode_typing.proofs.Relations.{both_left, both_right, some_in, some_is, widen_two}
use Rattle.bytecode_typing.proofs.Hierarchy.{equal, is_may_be, class_is_of, to_class, or_right, may_assign, kind_below, kind_grows}

pub bool_same : (a b : Bool) → Holds (same_bool a b) → a ≡ b
bool_same true true h = refl
bool_same false false h = refl
bool_same true false h = absurd h
bool_same false true h = absurd h

pub more_values : (a b : ℕ) (v : Value) → a ≤ b → IsValue a v → IsValue b v
more_values a b (Int i) l h = h
more_values a b (Long i) l h = h
more_values a b (Ref p) l h = omega (arith, l, h)
more_values a b Null l h = tt
more_values a b Unset l h = tt

appended : (ks more : List ℕ) → length ks ≤ length (ks ++ more)
appended ks more = omega (arith, length-append ks more)

-- ---- declared types

module _ (P : Program) where
  pub declared_value : (ks : List ℕ) (d : Declared) (v : Value) → HasDeclared P ks d v → IsValue (length ks) v
  declared_value ks (Numeric IntType) (Int i) h = h
  declared_value ks (Numeric LongType) (Long i) h = h
  declared_value ks (Reference l) Null h = tt
  declared_value ks (Reference l) (Ref p) h = kind_below P ks p _ h
  declared_value ks (Numeric IntType) v h = absurd h
  declared_value ks (Numeric LongType) v h = absurd h
  declared_value ks (Reference l) v h = absurd h

  pub grow_declared : (ks more : List ℕ) (d : Declared) (v : Value) → HasDeclared P ks d v → HasDeclared P (ks ++ more) d v
  grow_declared ks more (Numeric IntType) (Int i) h = h
  grow_declared ks more (Numeric LongType) (Long i) h = h
  grow_declared ks more (Reference l) Null h = tt
  grow_declared ks more (Reference l) (Ref p) h = kind_grows P ks more p _ h
  grow_declared ks more (Numeric IntType) v h = absurd h
  grow_declared ks more (Numeric LongType) v h = absurd h
  grow_declared ks more (Reference l) v h = absurd h

  pub declared_suits : (ks : List ℕ) (d : Declared) (v : Value) → HasDeclared P ks d v → suits d v ≡ true
  declared_suits ks (Numeric IntType) (Int i) h = refl
  declared_suits ks (Numeric LongType) (Long i) h = refl
  declared_suits ks (Reference l) Null h = refl
  declared_suits ks (Reference l) (Ref p) h = refl
  declared_suits ks (Numeric IntType) v h = absurd h
  declared_suits ks (Numeric LongType) v h = absurd h
  declared_suits ks (Reference l) v h = absurd h

  pub declared_long : (ks : List ℕ) (d : Declared) (v : Value) → HasDeclared P ks d v → is_long v ≡ is_long_type (type_of d)
  declared_long ks (Numeric IntType) (Int i) h = refl
  declared_long ks (Numeric LongType) (Long i) h = refl
  declared_long ks (Reference l) Null h = refl
  declared_long ks (Reference l) (Ref p) h = refl
  declared_long ks (Numeric IntType) v h = absurd h
  declared_long ks (Numeric LongType) v h = absurd h
  declared_long ks (Reference l) v h = absurd h

  pub declared_set : (ks : List ℕ) (d : Declared) → HasDeclared P ks d Unset → ⊥
  declared_set ks (Numeric IntType) h = h
  declared_set ks (Numeric LongType) h = h
  declared_set ks (Reference l) h = h

  module _ (n : ℕ) (m : Method) where
    pub from_declared : (ks : List ℕ) (d : Declared) (v : Value) → HasDeclared P ks d v → HasItem P n m ks (type_of d) v
    from_declared ks (Numeric IntType) (Int i) h = (h, refl)
    from_declared ks (Numeric LongType) (Long i) h = (h, refl)
    from_declared ks (Reference l) Null h = (tt, refl)
    from_declared ks (Reference l) (Ref p) h = (h, refl)
    from_declared ks (Numeric IntType) v h = absurd h
    from_declared ks (Numeric LongType) v h = absurd h
    from_declared ks (Reference l) v h = absurd h

    pub to_declared : (ks : List ℕ) (d : Declared) (v : Value) → Has P n m ks (type_of d) v → HasDeclared P ks d v
    to_declared ks (Numeric IntType) (Int i) h = h
    to_declared ks (Numeric LongType) (Long i) h = h
    to_declared ks (Reference l) Null h = tt
    to_declared ks (Reference l) (Ref p) h = h
    to_declared ks (Numeric IntType) v h = absurd h
    to_declared ks (Numeric LongType) v h = absurd h
    to_declared ks (Reference l) v h = absurd h

    -- ---- verification types

    pub has_value : (ks : List ℕ) (t : VarType) (v : Value) → Has P n m ks t v → IsValue (length ks) v
    has_value ks Top v h = h
    has_value ks Integer (Int i) h = h
    has_value ks LongInteger (Long i) h = h
    has_value ks NullReference Null h = tt
    has_value ks UninitializedThis (Ref p) h = kind_below P ks p _ h
    has_value ks (Uninitialized q) (Ref p) h = kind_below P ks p _ h
    has_value ks (ReferenceTo l) Null h = tt
    has_value ks (ReferenceTo l) (Ref p) h = kind_below P ks p _ h
    has_value ks t v h = absurd h

    pub grow : (ks more : List ℕ) (t : VarType) (v : Value) → Has P n m ks t v → Has P n m (ks ++ more) t v
    grow ks more Top v h = more_values (length ks) (length (ks ++ more)) v (appended ks more) h
    grow ks more Integer (Int i) h = h
    grow ks more LongInteger (Long i) h = h
    grow ks more NullReference Null h = tt
    grow ks more UninitializedThis (Ref p) h = kind_grows P ks more p _ h
    grow ks more (Uninitialized q) (Ref p) h = kind_grows P ks more p _ h
    grow ks more (ReferenceTo l) Null h = tt
    grow ks more (ReferenceTo l) (Ref p) h = kind_grows P ks more p _ h
    grow ks more t v h = absurd h

    -- what a store leaves of half a Long
    pub kept : (ks : List ℕ) (t : VarType) (v : Value) → Has P n m ks t v → Has P n m ks (if is_long_type t then Top else t) (if is_long v then Unset else v)
    kept ks Top (Int i) h = h
    kept ks Top (Long i) h = tt
    kept ks Top (Ref p) h = h
    kept ks Top Null h = h
    kept ks Top Unset h = h
    kept ks Integer (Int i) h = h
    kept ks LongInteger (Long i) h = tt
    kept ks NullReference Null h = tt
    kept ks UninitializedThis (Ref p) h = h
    kept ks (Uninitialized q) (Ref p) h = h
    kept ks (ReferenceTo l) Null h = tt
    kept ks (ReferenceTo l) (Ref p) h = h
    kept ks t v h = absurd h

    pub wide : (ks : List ℕ) (t : VarType) (v : Value) → Has P n m ks t v → is_long_type t ≡ true → is_long v ≡ true
    wide ks LongInteger (Long i) h e = refl
    wide ks LongInteger v h e = absurd h
    wide ks Top v h e = absurd (cc)
    wide ks Integer v h e = absurd (cc)
    wide ks NullReference v h e = absurd (cc)
    wide ks UninitializedThis v h e = absurd (cc)
    wide ks (Uninitialized q) v h e = absurd (cc)
    wide ks (ReferenceTo l) v h e = absurd (cc)

    -- a value that an instruction moves is as wide as its type
    pub moved_long : (ks : List ℕ) (sort : Moved) (t : VarType) (v : Value) → Holds (moves sort t) → Has P n m ks t v → is_long v ≡ is_long_type t
    moved_long ks (Numbers IntType) Integer (Int i) g h = refl
    moved_long ks (Numbers IntType) Integer v g h = absurd h
    moved_long ks (Numbers LongType) LongInteger (Long i) g h = refl
    moved_long ks (Numbers LongType) LongInteger v g h = absurd h
    moved_long ks References NullReference Null g h = refl
    moved_long ks References NullReference v g h = absurd h
    moved_long ks References UninitializedThis (Ref p) g h = refl
    moved_long ks References UninitializedThis v g h = absurd h
    moved_long ks References (Uninitialized q) (Ref p) g h = refl
    moved_long ks References (Uninitialized q) v g h = absurd h
    moved_long ks References (ReferenceTo l) Null g h = refl
    moved_long ks References (ReferenceTo l) (Ref p) g h = refl
    moved_long ks References (ReferenceTo l) v g h = absurd h
    moved_long ks (Numbers IntType) t v g h = absurd g
    moved_long ks (Numbers LongType) t v g h = absurd g
    moved_long ks References t v g h = absurd g

    pub moved_is : (ks : List ℕ) (sort : Moved) (t : VarType) (v : Value) → Holds (moves sort t) → Has P n m ks t v → is_moved sort v ≡ true
    moved_is ks (Numbers IntType) Integer (Int i) g h = refl
    moved_is ks (Numbers IntType) Integer v g h = absurd h
    moved_is ks (Numbers LongType) LongInteger (Long i) g h = refl
    moved_is ks (Numbers LongType) LongInteger v g h = absurd h
    moved_is ks References NullReference Null g h = refl
    moved_is ks References NullReference v g h = absurd h
    moved_is ks References UninitializedThis (Ref p) g h = refl
    moved_is ks References UninitializedThis v g h = absurd h
    moved_is ks References (Uninitialized q) (Ref p) g h = refl
    moved_is ks References (Uninitialized q) v g h = absurd h
    moved_is ks References (ReferenceTo l) Null g h = refl
    moved_is ks References (ReferenceTo l) (Ref p) g h = refl
    moved_is ks References (ReferenceTo l) v g h = absurd h
    moved_is ks (Numbers IntType) t v g h = absurd g
    moved_is ks (Numbers LongType) t v g h = absurd g
    moved_is ks References t v g h = absurd g

    -- what isn't initialised is an object of its class
    seen_made : (ks : List ℕ) (q p : ℕ) (o : Option ℕ) → IsSomeAnd (kind_in P ks p) (λ k. IsSomeAnd o (λ c. k ≡ OfClass c)) → (self : (c : ℕ) → Holds (P.extends c c)) → Has P n m ks (as_reference (Uninitialized q) o) (Ref p)
    seen_made ks q p None h self = absurd ((some_is (kind_in P ks p) _ h).2)
    seen_made ks q p (Some c) h self =
        some_in (kind_in P ks p) _ _ h (λ k e. subst (λ k. Holds (may_be P k (OfClass c))) (sym e) (to_class P (OfClass c) c (or_right (P.is_interface c) _ (self c))))

    made_long : (t : VarType) (o : Option ℕ) → is_long_type t ≡ false → is_long_type (as_reference t o) ≡ false
    made_long t None e = e
    made_long t (Some c) e = refl

    pub seen_long : (t : VarType) → is_long_type (seen P n m t) ≡ is_long_type t
    seen_long Top = refl
    seen_long Integer = refl
    seen_long LongInteger = refl
    seen_long NullReference = refl
    seen_long UninitializedThis = refl
    seen_long (Uninitialized q) = made_long (Uninitialized q) (made_at P n q) refl
    seen_long (ReferenceTo l) = refl

    -- other types for values that have one
    new_one : (ks : List ℕ) (w : VarType) (p q : ℕ) (b : Bool) (v : Value) → (Holds b → p ≡ q) → ((x : Value) → Has P n m ks (Uninitialized p) x → Has P n m ks w x) → Has P n m ks (Uninitialized q) v → Has P n m ks (if b then w else Uninitialized q) v
    new_one ks w p q true v eq e h = e v (subst (λ q. Has P n m ks (Uninitialized q) v) (sym (eq tt)) h)
    new_one ks w p q false v eq e h = h

    pub renewed : (ks : List ℕ) (t w u : VarType) (v : Value) → ((x : Value) → Has P n m ks t x → Has P n m ks w x) → Has P n m ks u v → Has P n m ks (substituted t w u) v
    renewed ks (Uninitialized p) w (Uninitialized q) v e h = new_one ks w p q (p == q) v (equal p q) e h
    renewed ks UninitializedThis w UninitializedThis v e h = e v h
    renewed ks t w u v e h = h

    new_short : (w : VarType) (q : ℕ) (b : Bool) → is_long_type w ≡ false → is_long_type (if b then w else Uninitialized q) ≡ false
    new_short w q true e = e
    new_short w q false e = refl

    renewed_long : (t w u : VarType) → is_long_type w ≡ false → is_long_type (substituted t w u) ≡ is_long_type u
    renewed_long (Uninitialized p) w (Uninitialized q) e = new_short w q (p == q) e
    renewed_long UninitializedThis w UninitializedThis e = e
    renewed_long t w u e = refl

    pub renewed_item : (ks : List ℕ) (t w u : VarType) (v : Value) → is_long_type w ≡ false → ((x : Value) → Has P n m ks t x → Has P n m ks w x) → HasItem P n m ks u v → HasItem P n m ks (substituted t w u) v
    renewed_item ks t w u v s e h = (renewed ks t w u v e h.0, h.1 ∙ sym (renewed_long t w u s))

    module _ (law : Lawful P) where
      pub has_seen : (ks : List ℕ) (t : VarType) (v : Value) → Has P n m ks t v → Has P n m ks (seen P n m t) v
      has_seen ks UninitializedThis (Ref p) h = some_in (kind_in P ks p) _ _ h (λ k e. is_may_be P k (OfClass m.owner) (class_is_of P k m.owner e))
      has_seen ks UninitializedThis v h = absurd h
      has_seen ks (Uninitialized q) (Ref p) h = seen_made ks q p (made_at P n q) h law.self
      has_seen ks (Uninitialized q) v h = absurd h
      has_seen ks Top v h = h
      has_seen ks Integer v h = h
      has_seen ks LongInteger v h = h
      has_seen ks NullReference v h = h
      has_seen ks (ReferenceTo l) v h = h

      pub item_seen : (ks : List ℕ) (t : VarType) (v : Value) → HasItem P n m ks t v → HasItem P n m ks (seen P n m t) v
      item_seen ks t v h = (has_seen ks t v h.0, h.1 ∙ sym (seen_long t))

      pub widen : (ks : List ℕ) (t u : VarType) (v : Value) → Holds (is_assignable P t u) → Has P n m ks t v → Has P n m ks u v
      widen ks t Top v a h = has_value ks t v h
      widen ks Integer Integer v a h = h
      widen ks LongInteger LongInteger v a h = h
      widen ks NullReference NullReference v a h = h
      widen ks NullReference (ReferenceTo k) Null a h = tt
      widen ks NullReference (ReferenceTo k) v a h = absurd h
      widen ks (ReferenceTo k) (ReferenceTo l) Null a h = tt
      widen ks (ReferenceTo k) (ReferenceTo l) (Ref p) a h = some_in (kind_in P ks p) _ _ h (λ j e. may_assign P law j k l e a)
      widen ks (ReferenceTo k) (ReferenceTo l) v a h = absurd h
      widen ks UninitializedThis UninitializedThis v a h = h
      widen ks (Uninitialized p) (Uninitialized q) v a h = subst (λ q. Has P n m ks (Uninitialized q) v) (equal p q a) h
      widen ks t u v a h = absurd a

      pub widen_item : (ks : List ℕ) (t u : VarType) (v : Value) → Holds (is_assignable_item P t u) → HasItem P n m ks t v → HasItem P n m ks u v
      widen_item ks t u v a h = (widen ks t u v (both_left (is_assignable P t u) _ a) h.0, h.1 ∙ bool_same (is_long_type t) (is_long_type u) (both_right (is_assignable P t u) _ a))

      pub all_widen : (ks : List ℕ) (ts us : List VarType) (vs : List Value) → Holds (all_two (is_assignable P) ts us) → AllTwo (Has P n m ks) ts vs → AllTwo (Has P n m ks) us vs
      all_widen ks ts us vs a h = widen_two (is_assignable P) (Has P n m ks) (Has P n m ks) (λ t u v. widen ks t u v) ts us vs a h

      pub all_widen_item : (ks : List ℕ) (ts us : List VarType) (vs : List Value) → Holds (all_two (is_assignable_item P) ts us) → AllTwo (HasItem P n m ks) ts vs → AllTwo (HasItem P n m ks) us vs
      all_widen_item ks ts us vs a h = widen_two (is_assignable_item P) (HasItem P n m ks) (HasItem P n m ks) (λ t u v. widen_item ks t u v) ts us vs a h
