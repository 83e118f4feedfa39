-- The rows of fields, objects, arrays and type tests: the effect of each fits.
use Rattle.std.proofs.Common.{◌≡◌, ℕ, zero, suc, ◌+◌, ◌<◌, ◌^◌, Bool, true, false, List, [], ◌∷◌, ◌++◌, Option, Some, None, refl, sym, ap, ◌∙◌, subst, length, map, replicate, arith}
use Rattle.std.specs.Prelude.{◌&&◌, ◌||◌, ◌==◌, not, nat_le, IfSome, slice_get, if◌then◌else◌, FitsSigned, ℤ, pos, negsuc}
use Rattle.std.specs.Int.{w32}
use Rattle.std.specs.List.{list_any}
use Rattle.std.proofs.lemmas.Bool.{leb-true}
use Rattle.std.proofs.lemmas.Int.{fits_signed_from_abs}
use Rattle.bytecode_model.specs.declared.Value.{Value}
use Rattle.bytecode_model.specs.declared.Value.TheVariants.{Int, Long, Ref, Null, Unset}
use Rattle.bytecode_model.specs.Lists.{onto, natural}
use Rattle.bytecode_model.specs.Types.{NumberType, IntType, LongType, References, Kind, OfClass, OfNumbers, OfReferences, Declared, Numeric, Reference, is_moved, suits, zero_of, default, element_type}
use Rattle.bytecode_model.specs.State.{Object, Frame, State}
use Rattle.bytecode_model.specs.Program.{Program, Limits, Method, Body, kind_of, type_number, is_of, object_class, serializable_class, cloneable_class, throwable_class}
use Rattle.bytecode_model.specs.Sizes.{object_words, made_words}
use Rattle.bytecode_model.specs.Rows as rows
use Rattle.bytecode_model.specs.Rows.{Row}
use Rattle.bytecode_model.specs.Effects.{Effect, Go, Make, WritePart, Fault, ArrayIndexOutOfBoundsException, ArrayStoreException, ClassCastException, NegativeArraySizeException, NullPointerException, OutOfMemoryError, fault, fault_object, on, or_fault, only_if, on_number, on_object, number, has_class, is_instance, allocate, on_size, is_array_of, is_array, component_of, on_element, effect}
use Rattle.bytecode_model.specs.Steps.{row_in}
use Rattle.bytecode_model.specs.WellFormed.{AreSpaced}
use Rattle.bytecode_typing.specs.Tests.{Holds, AllTwo}
use Rattle.bytecode_typing.specs.Types.{VarType, Top, Integer, NullReference, UninitializedThis, Uninitialized, ReferenceTo, TypeFrame, is_reference_type, number_type, type_of, substituted, holds_made}
use Rattle.bytecode_typing.specs.Assignable.{flows_to}
use Rattle.bytecode_typing.specs.Rules as rule
use Rattle.bytecode_typing.specs.Rules.{Checked, Leaves, need, found, on_type, on_number_types, is_number_type}
use Rattle.bytecode_typing.specs.Checks.{class_made_by, made_at, seen, same_number, is_array_type, is_array_type_of, component_type, is_there, is_seen_as, is_seen_for, row_check}
use Rattle.bytecode_typing.specs.Typed.{Typing, IsChecked, GoesOn}
use Rattle.bytecode_typing.specs.Fits.{may_be, kind_in, Has, HasItem, HasDeclared, HasEach, PartsFit, ObjectFits, numbers_of, IsThrowable}
use Rattle.bytecode_typing.specs.Lawful.{Lawful, IsThere, IsFieldOf}
use Rattle.bytecode_typing.proofs.Relations.{is_true, both_left, both_right, some_in, some_is, some_at, at_some, there_at, onto_is, replaced_two, retype_two, weaken_two}
use Rattle.bytecode_typing.proofs.Hierarchy.{equal, may_through, or_else, or_right, not_so, is_then, is_of_self, is_may_be, type_number_is}
use Rattle.bytecode_typing.proofs.Values.{has_value, has_seen, widen, grow, from_declared, renewed, declared_suits}
use Rattle.bytecode_typing.proofs.Parts.{object_at, kind_at, grow_parts, each_at, each_put, replaced_length, defaults_fit, replicated_fit, zero_fits, zero_fits_long, same_words}
use Rattle.bytecode_typing.proofs.Pairs.{need_checked, found_checked, IsGoing, IsWrite, EffectFits, arrive, top_fits, number_fits}
use Rattle.bytecode_typing.proofs.Plain.{number_item, on_some, only_so, goes_on, seen_declared}

two_at : {A B : Type 0} (R : A → B → Type 0) (xs : List A) (ys : List B) (k : ℕ) (x : A) → AllTwo R xs ys → slice_get xs k ≡ Some x → (y : B) × (slice_get ys k ≡ Some y) × R x y
two_at R [] ys k x h e = absurd (cc)
two_at R (a ∷ xs) [] k x h e = absurd h
two_at R (a ∷ xs) (b ∷ ys) zero x h e = let is : a ≡ x = cc in (b, refl, subst (λ a. R a b) is h.0)
two_at R (a ∷ xs) (b ∷ ys) (suc k) x h e = two_at R xs ys k x h.1 e

-- an initialised reference of any class is one of Object
pub is_an_object : (P : Program) (law : Lawful P) (k : Kind) → Holds (may_be P k (OfClass object_class))
is_an_object P law (OfClass c) = or_right (P.is_interface object_class) _ (law.object c)
is_an_object P law (OfNumbers a) = or_right (P.is_interface object_class) _ tt
is_an_object P law (OfReferences k) = or_right (P.is_interface object_class) _ tt

pub as_object : (P : Program) (law : Lawful P) (n : ℕ) (m : Method) (ks : List ℕ) (t : VarType) (v : Value) → Holds (is_reference_type t) → Has P n m ks t v → Has P n m ks (ReferenceTo (OfClass object_class)) v
as_object P law n m ks NullReference Null a h = tt
as_object P law n m ks NullReference v a h = absurd h
as_object P law n m ks UninitializedThis (Ref p) a h = some_in (kind_in P ks p) _ _ h (λ k e. is_an_object P law k)
as_object P law n m ks UninitializedThis v a h = absurd h
as_object P law n m ks (Uninitialized q) (Ref p) a h = some_in (kind_in P ks p) _ _ h (λ k e. is_an_object P law k)
as_object P law n m ks (Uninitialized q) v a h = absurd h
as_object P law n m ks (ReferenceTo l) Null a h = tt
as_object P law n m ks (ReferenceTo l) (Ref p) a h = some_in (kind_in P ks p) _ _ h (λ k e. is_an_object P law k)
as_object P law n m ks (ReferenceTo l) v a h = absurd h
as_object P law n m ks t v a h = absurd a

-- the object that is made has the last number
new_kind : (P : Program) (os : List Object) (t : ℕ) → kind_in P (numbers_of os ++ t ∷ []) (length os) ≡ slice_get P.types t
new_kind P [] t = refl
new_kind P (o ∷ os) t = new_kind P os t

module _ (P : Program) (law : Lawful P) where
  no_array_field : (named owner k : ℕ) (d : Declared) (G : Type 0) → IsFieldOf P named owner → slice_get (P.fields owner) k ≡ Some d → Holds (named == object_class || named == serializable_class || named == cloneable_class) → G
  no_array_field named owner k d G field e h =
      or_else (named == object_class || named == serializable_class) _ G h
      (λ g. or_else (named == object_class) _ G g
      (λ x. let top : owner ≡ object_class = law.root owner (subst (λ c. Holds (P.extends c owner)) (equal named object_class x) field.inherited) in
      let none : slice_get (P.fields owner) k ≡ None = ap (λ (c : ℕ). slice_get (P.fields c) k) top ∙ ap (λ (l : List Declared). slice_get l k) law.object_fields in absurd (cc (none, e)))
      (λ x. not_so (P.is_interface named) G field.class (subst (λ c. Holds (P.is_interface c)) (sym (equal named serializable_class x)) law.serializable)))
      (λ x. not_so (P.is_interface named) G field.class (subst (λ c. Holds (P.is_interface c)) (sym (equal named cloneable_class x)) law.cloneable))

  -- what has a field is an instance of the field's class
  field_class : (named owner k : ℕ) (d : Declared) (kind : Kind) → IsFieldOf P named owner → slice_get (P.fields owner) k ≡ Some d → Holds (is_of P kind (OfClass named)) → (c : ℕ) × (kind ≡ OfClass c) × Holds (P.extends c owner)
  field_class named owner k d (OfClass c) field e h = (c, refl, law.through c named owner h field.inherited)
  field_class named owner k d (OfNumbers a) field e h = no_array_field named owner k d _ field e h
  field_class named owner k d (OfReferences l) field e h = no_array_field named owner k d _ field e h

-- one row in a frame that fits
module _ (P : Program) (types : Typing) (law : Lawful P) (limits : Limits) (s : State) (m : Method) (b : Body) (f : Frame) (t : TypeFrame) (count : length f.locals ≡ b.max_locals) (spaced : AreSpaced f.locals)
    (hl : AllTwo (Has P f.method m (numbers_of s.objects)) t.locals f.locals) (hs : AllTwo (HasItem P f.method m (numbers_of s.objects)) t.stack f.operands) (next : ℕ)
    (objects : (p : ℕ) → IfSome (slice_get s.objects p) (ObjectFits P (numbers_of s.objects))) (faults : (x : Fault) → IsThrowable P (numbers_of s.objects) (fault_object x)) where
  abbrev ks : List ℕ
  ks = numbers_of s.objects

  abbrev Fit : Effect → Type 0
  Fit e = EffectFits P types limits s m b f e

  abbrev K : Option TypeFrame → Type 0
  K after = GoesOn P (types f.method) next after

  abbrev RowChecked : Row → Type 0
  RowChecked row = IsChecked (row_check P f.method m b (types f.method) f.pc t row) K

  abbrev on_to : (st : List VarType) (ops : List Value) → Holds (flows_to P (record t { locals = t.locals; stack = st }) (types f.method next)) → AllTwo (HasItem P f.method m ks) st ops → IsGoing P types f.method m b ks next f.locals ops
  on_to st ops fl k = goes_on P types law limits s m b f t count spaced hl hs next next st ops fl k

  -- null, or an object that may stand where the typing has a reference to the kind, with its parts
  object_fits : (k : Kind) (v : Value) (ops : List Value) (go : ℕ → Object → List Value → Effect) → Has P f.method m ks (ReferenceTo k) v
      → ((p : ℕ) (o : Object) (kind : Kind) → slice_get s.objects p ≡ Some o → kind_of P o ≡ Some kind → Holds (may_be P kind k) → PartsFit P ks kind o.parts → Fit (go p o ops)) → Fit (on_object s.objects (v ∷ ops) go)
  object_fits k Null ops go h then_ = faults NullPointerException
  object_fits k (Ref p) ops go h then_ =
      let (o, eo, ho) = object_at P s.objects p _ h in
      let (kind, ek, mb) = some_is (kind_of P o) _ ho in
      on_some Fit (slice_get s.objects p) o _ eo (then_ p o kind eo ek mb (at_some (kind_of P o) kind _ ek (there_at (slice_get s.objects p) o _ eo (objects p))))
  object_fits k (Int i) ops go h then_ = absurd h
  object_fits k (Long i) ops go h then_ = absurd h
  object_fits k Unset ops go h then_ = absurd h

  pub seen_reference : (k : Kind) (u : VarType) (v : Value) → Holds (is_seen_as P f.method m b (types f.method) f.pc t k u) → Has P f.method m ks u v → Has P f.method m ks (ReferenceTo k) v
  seen_reference k u v a h = widen P f.method m law ks (seen P f.method m u) (ReferenceTo k) v a (has_seen P f.method m law ks u v h)

  object_top : (go : VarType → List VarType → Checked) (ts : List VarType) (vs : List Value) (then_ : ℕ → Object → List Value → Effect) → AllTwo (HasItem P f.method m ks) ts vs → IsChecked (on_type ts go) K
      → ((u : VarType) (v : Value) (rest : List VarType) (ops : List Value) → HasItem P f.method m ks u v → AllTwo (HasItem P f.method m ks) rest ops → IsChecked (go u rest) K → Fit (on_object s.objects (v ∷ ops) then_)) → Fit (on_object s.objects vs then_)
  object_top go [] vs then_ h c next_ = absurd c
  object_top go (u ∷ ts) [] then_ h c next_ = absurd h
  object_top go (u ∷ ts) (v ∷ vs) then_ h c next_ = next_ u v ts vs h.0 h.1 c

  -- ---- fields

  class_so : (o : Object) (kind : Kind) (c owner : ℕ) → kind_of P o ≡ Some kind → kind ≡ OfClass c → Holds (P.extends c owner) → has_class P (kind_of P o) owner ≡ true
  class_so o kind c owner ek is x = ap (λ (q : Option Kind). has_class P q owner) (ek ∙ ap Some is) ∙ is_true (P.extends c owner) x

  -- the fields of an instance of the class c, of which one is that of a class above it
  field_at : (c owner k : ℕ) (d : Declared) (parts : List Value) → Holds (P.extends c owner) → slice_get (P.fields owner) k ≡ Some d → AllTwo (HasDeclared P ks) (P.fields c) parts → (slice_get (P.fields c) k ≡ Some d) × ((v : Value) × (slice_get parts k ≡ Some v) × HasDeclared P ks d v)
  field_at c owner k d parts x e h =
      let same : slice_get (P.fields c) k ≡ Some d = there_at (slice_get (P.fields owner) k) d _ e (law.fields c owner x k) in
      (same, two_at (HasDeclared P ks) (P.fields c) parts k d h same)

  pub field_fits : (named owner k : ℕ) → IsFieldOf P named owner → RowChecked (rows.GetField named owner k) → Fit (effect P limits s f next (rows.GetField named owner k))
  field_fits named owner k field c =
      let (d, ed, c1) = found_checked K (slice_get (P.fields owner) k) rule.Operand _ c in
      object_top _ t.stack f.operands _ hs c1 (λ u v rest ops hv h c.
      let (a, c2) = need_checked K (is_seen_as P f.method m b (types f.method) f.pc t (OfClass named) u) rule.Stack _ c in
      object_fits (OfClass named) v ops _ (seen_reference (OfClass named) u v a hv.0) (λ p o kind eo ek mb parts.
      let (cl, is, x) = field_class P law named owner k d kind field ed (is_then P kind named field.class mb) in
      let fits = subst (λ kind. PartsFit P ks kind o.parts) is parts in
      let (same, w, ew, hw) = field_parts cl owner k d o.parts x ed fits.1 in
      only_so Fit (has_class P (kind_of P o) owner) _ (class_so o kind cl owner ek is x)
      (on_some Fit (slice_get o.parts k) w _ ew (on_to (type_of d ∷ rest) (w ∷ ops) c2.3 (from_declared P f.method m ks d w hw, h)))))
    where
      field_parts : (c owner k : ℕ) (d : Declared) (parts : List Value) → Holds (P.extends c owner) → slice_get (P.fields owner) k ≡ Some d → AllTwo (HasDeclared P ks) (P.fields c) parts → (same : slice_get (P.fields c) k ≡ Some d) × (v : Value) × (slice_get parts k ≡ Some v) × HasDeclared P ks d v
      field_parts c owner k d parts x e h = let r = field_at c owner k d parts x e h in (r.0, r.1.0, r.1.1, r.1.2)

  -- what is below the top, where the typing has something there
  one_below : (go : VarType → List VarType → Checked) (ts : List VarType) (vs : List Value) (then_ : List Value → Effect) → AllTwo (HasItem P f.method m ks) ts vs → IsChecked (on_type ts go) K
      → ((u : VarType) (v : Value) (rest : List VarType) (ops : List Value) → HasItem P f.method m ks u v → AllTwo (HasItem P f.method m ks) rest ops → IsChecked (go u rest) K → Fit (then_ (v ∷ ops))) → Fit (then_ vs)
  one_below go [] vs then_ h c next_ = absurd c
  one_below go (u ∷ ts) [] then_ h c next_ = absurd h
  one_below go (u ∷ ts) (v ∷ vs) then_ h c next_ = next_ u v ts vs h.0 h.1 c

  pub put_field_fits : (named owner k : ℕ) → IsFieldOf P named owner → RowChecked (rows.PutField named owner k) → Fit (effect P limits s f next (rows.PutField named owner k))
  put_field_fits named owner k field c =
      let (d, ed, c1) = found_checked K (slice_get (P.fields owner) k) rule.Operand _ c in
      top_fits P types law f.method m b ks Fit K _ t.stack f.operands _ hs c1 (λ u v rest ops hv h c.
      one_below _ rest ops (λ vs. on (slice_get (P.fields owner) k) (λ d. only_if (suits d v) (on_object s.objects vs (λ p o rest2. only_if (has_class P (kind_of P o) owner) (WritePart p k v next f.locals rest2))))) h c
      (λ u2 r rest2 ops2 hr h2 c.
      let (a, c2) = need_checked K (is_seen_for P f.method m b (types f.method) f.pc t d u && is_seen_as P f.method m b (types f.method) f.pc t (OfClass named) u2) rule.Stack _ c in
      let w = seen_declared P types law limits s m b f t count spaced hl hs next d u v (both_left (is_seen_for P f.method m b (types f.method) f.pc t d u) _ a) hv in
      on_some Fit (slice_get (P.fields owner) k) d _ ed (only_so Fit (suits d v) _ (declared_suits P ks d v w)
      (object_fits (OfClass named) r ops2 _ (seen_reference (OfClass named) u2 r (both_right (is_seen_for P f.method m b (types f.method) f.pc t d u) _ a) hr.0) (λ p o kind eo ek mb parts.
      let (cl, is, x) = field_class P law named owner k d kind field ed (is_then P kind named field.class mb) in
      only_so Fit (has_class P (kind_of P o) owner) _ (class_so o kind cl owner ek is x)
      (write p o kind cl d v eo ek is x ed parts w, on_to rest2 ops2 c2.3 h2))))))
    where
      write : (p : ℕ) (o : Object) (kind : Kind) (cl : ℕ) (d : Declared) (v : Value) → slice_get s.objects p ≡ Some o → kind_of P o ≡ Some kind → kind ≡ OfClass cl → Holds (P.extends cl owner) → slice_get (P.fields owner) k ≡ Some d → PartsFit P ks kind o.parts → HasDeclared P ks d v → IsWrite P s.objects p k v
      write p o kind cl d v eo ek is x ed parts w =
          let fits = subst (λ kind. PartsFit P ks kind o.parts) is parts in
          let r = field_at cl owner k d o.parts x ed fits.1 in
          let (zs, ez, hz, l) = replaced_two (HasDeclared P ks) (P.fields cl) o.parts k d v fits.1 r.0 w in
          record {
            object = o;
            at_object = eo;
            old = r.1.0;
            at_part = r.1.1;
            words = same_words P ks d r.1.0 v r.1.2 w;
            parts = zs;
            put = ez;
            fits = some_at (kind_of P o) (OfClass cl) (λ kind. PartsFit P ks kind zs) (ek ∙ ap Some is) (fits.0, hz);
          }

  -- ---- objects that are made

  room : (o : Object) (ls ops : List Value) (is : Bool) → nat_le (made_words P s + object_words P o) limits.heap ≡ is → ObjectFits P (ks ++ o.kind ∷ []) o → IsGoing P types f.method m b (ks ++ o.kind ∷ []) next ls (Ref (length s.objects) ∷ ops) → Fit (if is then Make o next ls ops else fault OutOfMemoryError)
  room o ls ops true e h g = (h, leb-true (made_words P s + object_words P o) limits.heap e, g)
  room o ls ops false e h g = faults OutOfMemoryError

  make_fits : (k : Kind) (parts ls ops : List Value) → IsThere (type_number P k) → PartsFit P ks k parts → ((j : ℕ) → slice_get P.types j ≡ Some k → IsGoing P types f.method m b (ks ++ j ∷ []) next ls (Ref (length s.objects) ∷ ops)) → Fit (allocate P limits s k parts next ls ops)
  make_fits k parts ls ops there h go =
      let (j, ej, u) = some_is (type_number P k) _ there in
      let kj = type_number_is P k j ej in
      let o : Object = record { kind = j; parts = parts } in
      on_some Fit (type_number P k) j _ ej
      (room o ls ops (nat_le (made_words P s + object_words P o) limits.heap) refl (some_at (slice_get P.types j) k (λ k. PartsFit P (ks ++ j ∷ []) k parts) kj (grow_parts P ks (j ∷ []) k parts h)) (go j kj))

  grown : (j : ℕ) (ts : List VarType) (vs : List Value) → AllTwo (Has P f.method m ks) ts vs → AllTwo (Has P f.method m (ks ++ j ∷ [])) ts vs
  grown j ts vs h = weaken_two (Has P f.method m ks) (Has P f.method m (ks ++ j ∷ [])) (λ u v g. grow P f.method m ks (j ∷ []) u v g) ts vs h

  grown_items : (j : ℕ) (ts : List VarType) (vs : List Value) → AllTwo (HasItem P f.method m ks) ts vs → AllTwo (HasItem P f.method m (ks ++ j ∷ [])) ts vs
  grown_items j ts vs h = weaken_two (HasItem P f.method m ks) (HasItem P f.method m (ks ++ j ∷ [])) (λ u v g. (grow P f.method m ks (j ∷ []) u v g.0, g.1)) ts vs h

  pub new_fits : (c : ℕ) → row_in P f.method f.pc ≡ Some (next, rows.New c) → (P.is_concrete c ≡ true) × IsThere (type_number P (OfClass c)) → RowChecked (rows.New c) → Fit (effect P limits s f next (rows.New c))
  new_fits c at row c1 =
      let fl = (need_checked K (not (holds_made f.pc t.stack)) rule.Stack _ c1).1.3 in
      let made : made_at P f.method f.pc ≡ Some c = ap (λ (o : Option (ℕ × Row)). onto o (λ x. class_made_by x.1)) at in
      only_so Fit (P.is_concrete c) _ row.0
      (make_fits (OfClass c) (map default (P.fields c)) f.locals f.operands row.1 (row.0, defaults_fit P ks (P.fields c)) (λ j kj.
      arrive P types law f.method m b (ks ++ j ∷ []) next (record t { locals = map (substituted (Uninitialized f.pc) Top) t.locals; stack = Uninitialized f.pc ∷ t.stack }) f.locals (Ref (length s.objects) ∷ f.operands) fl count spaced
      (grown j (map (substituted (Uninitialized f.pc) Top) t.locals) f.locals
      (retype_two (Has P f.method m ks) (Has P f.method m ks) (substituted (Uninitialized f.pc) Top) (λ u v h. renewed P f.method m ks (Uninitialized f.pc) Top u v (λ x g. has_value P f.method m ks (Uninitialized f.pc) x g) h) t.locals f.locals hl))
      ((some_at (kind_in P (ks ++ j ∷ []) (length s.objects)) (OfClass c) _ (new_kind P s.objects j ∙ kj) (some_at (made_at P f.method f.pc) c _ made refl), refl), grown_items j t.stack f.operands hs)))

  array_going : (k : Kind) (rest : List VarType) (ops : List Value) → Holds (flows_to P (record t { locals = t.locals; stack = ReferenceTo k ∷ rest }) (types f.method next)) → AllTwo (HasItem P f.method m ks) rest ops → (j : ℕ) → slice_get P.types j ≡ Some k → IsGoing P types f.method m b (ks ++ j ∷ []) next f.locals (Ref (length s.objects) ∷ ops)
  array_going k rest ops fl h j kj =
      arrive P types law f.method m b (ks ++ j ∷ []) next (record t { locals = t.locals; stack = ReferenceTo k ∷ rest }) f.locals (Ref (length s.objects) ∷ ops) fl count spaced (grown j t.locals f.locals hl)
      ((some_at (kind_in P (ks ++ j ∷ []) (length s.objects)) k _ (new_kind P s.objects j ∙ kj) (is_may_be P k k (is_of_self P law k)), refl), grown_items j rest ops h)

  -- an int with its range
  int_one : (u : VarType) (v : Value) (rest : List Value) (then_ : ℤ → List Value → Effect) → Holds (is_number_type IntType u) → HasItem P f.method m ks u v → ((x : ℤ) → FitsSigned w32 x → Fit (then_ x rest)) → Fit (on_number IntType (v ∷ rest) then_)
  int_one Integer (Int i) rest then_ a h go = go i h.0
  int_one Integer v rest then_ a h go = absurd h.0
  int_one u v rest then_ a h go = absurd a

  size_fits : (c : List VarType → Checked) (ts : List VarType) (vs : List Value) (then_ : ℕ → List Value → Effect) → AllTwo (HasItem P f.method m ks) ts vs → IsChecked (on_number_types (IntType ∷ []) ts c) K
      → ((size : ℕ) (rest : List VarType) (ops : List Value) → size < 2 ^ 31 → AllTwo (HasItem P f.method m ks) rest ops → IsChecked (c rest) K → Fit (then_ size ops)) → Fit (on_size vs then_)
  size_fits c [] vs then_ h k go = absurd k
  size_fits c (u ∷ ts) [] then_ h k go = absurd h
  size_fits c (u ∷ ts) (v ∷ vs) then_ h k go =
      let (a, l) = need_checked K (is_number_type IntType u) rule.Stack (c ts) k in int_one u v vs _ a h.0 (λ x fit. sized x fit l)
    where
      sized : (x : ℤ) → FitsSigned w32 x → IsChecked (c ts) K → Fit (or_fault NegativeArraySizeException (natural x) (λ size. then_ size vs))
      sized (pos size) fit l = go size ts vs (omega (arith, fit.sfits)) h.1 l
      sized (negsuc size) fit l = faults NegativeArraySizeException

  replicated_length : (n : ℕ) (v : Value) → length (replicate n v) ≡ n
  replicated_length zero v = refl
  replicated_length (suc n) v = ap suc (replicated_length n v)

  number_zero : (u : NumberType) → HasDeclared P ks (Numeric u) (zero_of u)
  number_zero IntType = zero_fits P
  number_zero LongType = zero_fits_long P

  pub new_numbers_fits : (code : ℕ) → IsThere (type_number P (OfNumbers code)) → RowChecked (rows.NewNumbers code) → Fit (effect P limits s f next (rows.NewNumbers code))
  new_numbers_fits code there c =
      size_fits _ t.stack f.operands _ hs c (λ size rest ops l h c.
      make_fits (OfNumbers code) (replicate size (zero_of (element_type code))) f.locals ops there
      (subst (λ n. n < 2 ^ 31) (sym (replicated_length size (zero_of (element_type code)))) l, replicated_fit P ks (Numeric (element_type code)) (zero_of (element_type code)) (number_zero (element_type code)) size)
      (array_going (OfNumbers code) rest ops c.3 h))

  pub new_references_fits : (k : Kind) → IsThere (type_number P (OfReferences k)) → RowChecked (rows.NewReferences k) → Fit (effect P limits s f next (rows.NewReferences k))
  new_references_fits k there c =
      size_fits _ t.stack f.operands _ hs c (λ size rest ops l h c.
      make_fits (OfReferences k) (replicate size Null) f.locals ops there
      (subst (λ n. n < 2 ^ 31) (sym (replicated_length size Null)) l, replicated_fit P ks (Reference k) Null tt size)
      (array_going (OfReferences k) rest ops c.3 h))

  -- ---- arrays

  array_length : (k kind : Kind) (parts : List Value) → Holds (is_array_type (ReferenceTo k)) → Holds (may_be P kind k) → PartsFit P ks kind parts → length parts < 2 ^ 31
  array_length (OfNumbers a) (OfNumbers c) parts g mb h = h.0
  array_length (OfReferences l) (OfReferences j) parts g mb h = h.0
  array_length (OfNumbers a) (OfClass c) parts g mb h = absurd mb
  array_length (OfNumbers a) (OfReferences j) parts g mb h = absurd mb
  array_length (OfReferences l) (OfClass c) parts g mb h = absurd mb
  array_length (OfReferences l) (OfNumbers c) parts g mb h = absurd mb
  array_length (OfClass c) kind parts g mb h = absurd g

  an_array : (k kind : Kind) → Holds (is_array_type (ReferenceTo k)) → Holds (may_be P kind k) → is_array (Some kind) ≡ true
  an_array (OfNumbers a) (OfNumbers c) g mb = refl
  an_array (OfReferences l) (OfReferences j) g mb = refl
  an_array (OfNumbers a) (OfClass c) g mb = absurd mb
  an_array (OfNumbers a) (OfReferences j) g mb = absurd mb
  an_array (OfReferences l) (OfClass c) g mb = absurd mb
  an_array (OfReferences l) (OfNumbers c) g mb = absurd mb
  an_array (OfClass c) kind g mb = absurd g

  as_array : (u : VarType) (v : Value) → Holds (is_array_type u) → Has P f.method m ks u v → (k : Kind) × Holds (is_array_type (ReferenceTo k)) × Has P f.method m ks (ReferenceTo k) v
  as_array NullReference Null a h = (OfNumbers 0, tt, tt)
  as_array NullReference v a h = absurd h
  as_array (ReferenceTo (OfNumbers c)) v a h = (OfNumbers c, tt, h)
  as_array (ReferenceTo (OfReferences k)) v a h = (OfReferences k, tt, h)
  as_array u v a h = absurd a

  pub length_fits : RowChecked rows.Length → Fit (effect P limits s f next rows.Length)
  length_fits c =
      object_top _ t.stack f.operands _ hs c (λ u v rest ops hv h c.
      let (a, c2) = need_checked K (is_array_type u) rule.Stack _ c in
      let (k, g, hk) = as_array u v a hv.0 in
      object_fits k v ops _ hk (λ p o kind eo ek mb parts.
      only_so Fit (is_array (kind_of P o)) _ (ap is_array ek ∙ an_array k kind g mb)
      (on_to (Integer ∷ rest) (Int (pos (length o.parts)) ∷ ops) c2.3 ((fits_signed_from_abs w32 (pos (length o.parts)) (omega (arith, array_length k kind o.parts g mb parts)), refl), h))))

  element_fits : (d : Declared) (o : Object) (x : ℤ) (go : ℕ → Value → Effect) → HasEach P ks d o.parts → ((k : ℕ) (v : Value) → slice_get o.parts k ≡ Some v → HasDeclared P ks d v → Fit (go k v)) → Fit (on_element o x go)
  element_fits d o (negsuc k) go h then_ = faults ArrayIndexOutOfBoundsException
  element_fits d o (pos k) go h then_ = at (slice_get o.parts k) refl (each_at P ks d o.parts k h)
    where
      at : (q : Option Value) → slice_get o.parts k ≡ q → IfSome q (HasDeclared P ks d) → Fit (or_fault ArrayIndexOutOfBoundsException q (λ v. go k v))
      at None e g = faults ArrayIndexOutOfBoundsException
      at (Some v) e g = then_ k v e g

  number_same : (u w : NumberType) → Holds (same_number u w) → u ≡ w
  number_same IntType IntType h = refl
  number_same LongType LongType h = refl
  number_same IntType LongType h = absurd h
  number_same LongType IntType h = absurd h

  -- an array that may stand for one of a code is of that code
  array_code : (u : NumberType) (codes : List ℕ) (a : ℕ) (o : Object) (kind : Kind) → Holds (is_array_type_of u codes (ReferenceTo (OfNumbers a))) → kind_of P o ≡ Some kind → Holds (may_be P kind (OfNumbers a)) → PartsFit P ks kind o.parts → (is_array_of codes (kind_of P o) ≡ true) × HasEach P ks (Numeric u) o.parts × (length o.parts < 2 ^ 31) × (kind_of P o ≡ Some (OfNumbers a)) × (element_type a ≡ u)
  array_code u codes a o (OfNumbers c) g ek mb h =
      let is = equal c a mb in
      let n = number_same (element_type a) u (both_right (list_any (λ c. c == a) codes) _ g) in
      let k : kind_of P o ≡ Some (OfNumbers a) = ek ∙ ap (λ (c : ℕ). Some (OfNumbers c)) is in (
        ap (is_array_of codes) k ∙ is_true (list_any (λ c. c == a) codes) (both_left (list_any (λ c. c == a) codes) _ g),
        subst (λ u. HasEach P ks (Numeric u) o.parts) (ap element_type is ∙ n) h.1,
        h.0,
        k,
        n,
      )
  array_code u codes a o (OfClass c) g ek mb h = absurd mb
  array_code u codes a o (OfReferences j) g ek mb h = absurd mb

  pub load_number_fits : (number_ : NumberType) (codes : List ℕ) → RowChecked (rows.LoadNumber number_ codes) → Fit (effect P limits s f next (rows.LoadNumber number_ codes))
  load_number_fits number_ codes c =
      number_fits P types law f.method m b ks Fit K IntType _ t.stack f.operands _ hs c (λ x rest ops h c.
      object_top _ rest ops _ h c (λ u v rest2 ops2 hv h2 c.
      let (a, c2) = need_checked K (is_array_type_of number_ codes u) rule.Stack _ c in array u v x rest2 ops2 a hv.0 c2.3 h2))
    where
      array : (u : VarType) (v : Value) (x : ℤ) (rest : List VarType) (ops : List Value) → Holds (is_array_type_of number_ codes u) → Has P f.method m ks u v → Holds (flows_to P (record t { locals = t.locals; stack = number_type number_ ∷ rest }) (types f.method next)) → AllTwo (HasItem P f.method m ks) rest ops
          → Fit (on_object s.objects (v ∷ ops) (λ p o rest2. only_if (is_array_of codes (kind_of P o)) (on_element o x (λ i v. Go next f.locals (v ∷ rest2)))))
      array NullReference Null x rest ops a hv fl h = faults NullPointerException
      array NullReference v x rest ops a hv fl h = absurd hv
      array (ReferenceTo (OfNumbers code)) v x rest ops a hv fl h =
          object_fits (OfNumbers code) v ops _ hv (λ p o kind eo ek mb parts.
          let r = array_code number_ codes code o kind a ek mb parts in
          only_so Fit (is_array_of codes (kind_of P o)) _ r.0
          (element_fits (Numeric number_) o x _ r.1 (λ i w ew hw. on_to (number_type number_ ∷ rest) (w ∷ ops) fl (from_declared P f.method m ks (Numeric number_) w hw, h))))
      array u v x rest ops a hv fl h = absurd a

  number_declared : (u : NumberType) (x : ℤ) → HasDeclared P ks (Numeric u) (number u x)
  number_declared IntType x = (number_item P f.method m ks IntType x).0
  number_declared LongType x = (number_item P f.method m ks LongType x).0

  pub store_number_fits : (number_ : NumberType) (codes : List ℕ) (kept_ : ℤ → ℤ) → RowChecked (rows.StoreNumber number_ codes kept_) → Fit (effect P limits s f next (rows.StoreNumber number_ codes kept_))
  store_number_fits number_ codes kept_ c =
      number_fits P types law f.method m b ks Fit K number_ (λ rest. on_number_types (IntType ∷ []) rest _) t.stack f.operands _ hs c (λ y rest ops h c.
      number_fits P types law f.method m b ks Fit K IntType _ rest ops _ h c (λ x rest2 ops2 h2 c.
      object_top _ rest2 ops2 _ h2 c (λ u v rest3 ops3 hv h3 c.
      let (a, c2) = need_checked K (is_array_type_of number_ codes u) rule.Stack _ c in array u v x (kept_ y) rest3 ops3 a hv.0 c2.3 h3)))
    where
      array : (u : VarType) (v : Value) (x y : ℤ) (rest : List VarType) (ops : List Value) → Holds (is_array_type_of number_ codes u) → Has P f.method m ks u v → Holds (flows_to P (record t { locals = t.locals; stack = rest }) (types f.method next)) → AllTwo (HasItem P f.method m ks) rest ops
          → Fit (on_object s.objects (v ∷ ops) (λ p o rest2. only_if (is_array_of codes (kind_of P o)) (on_element o x (λ i old. WritePart p i (number number_ y) next f.locals rest2))))
      array NullReference Null x y rest ops a hv fl h = faults NullPointerException
      array NullReference v x y rest ops a hv fl h = absurd hv
      array (ReferenceTo (OfNumbers code)) v x y rest ops a hv fl h =
          object_fits (OfNumbers code) v ops _ hv (λ p o kind eo ek mb parts.
          let r = array_code number_ codes code o kind a ek mb parts in
          only_so Fit (is_array_of codes (kind_of P o)) _ r.0
          (element_fits (Numeric number_) o x _ r.1 (λ i old eold hold.
          let (zs, ez, hz) = each_put P ks (Numeric number_) o.parts i old (number number_ y) r.1 eold (number_declared number_ y) in (
            record {
              object = o;
              at_object = eo;
              old = old;
              at_part = eold;
              words = same_words P ks (Numeric number_) old (number number_ y) hold (number_declared number_ y);
              parts = zs;
              put = ez;
              fits = some_at (kind_of P o) (OfNumbers code) (λ kind. PartsFit P ks kind zs) r.3
                  (subst (λ n. n < 2 ^ 31) (sym (replaced_length o.parts zs i (number number_ y) ez)) r.2, subst (λ u. HasEach P ks (Numeric u) zs) (sym r.4) hz);
            },
            on_to rest ops fl h,
          ))))
      array u v x y rest ops a hv fl h = absurd a

  -- an element of an array of references, which may be where the typing has a reference to the component
  component_item : (j k : Kind) (v : Value) → Holds (may_be P j k) → HasDeclared P ks (Reference j) v → HasItem P f.method m ks (ReferenceTo k) v
  component_item j k Null mb h = (tt, refl)
  component_item j k (Ref p) mb h = (some_in (kind_in P ks p) _ _ h (λ l g. may_through P law l j k g mb), refl)
  component_item j k (Int i) mb h = absurd h
  component_item j k (Long i) mb h = absurd h
  component_item j k Unset mb h = absurd h

  pub load_reference_fits : RowChecked rows.LoadReference → Fit (effect P limits s f next rows.LoadReference)
  load_reference_fits c =
      number_fits P types law f.method m b ks Fit K IntType _ t.stack f.operands _ hs c (λ x rest ops h c.
      object_top _ rest ops _ h c (λ u v rest2 ops2 hv h2 c. array u v x rest2 ops2 hv.0 c h2))
    where
      part : (k kind : Kind) (o : Object) (x : ℤ) (rest : List VarType) (ops : List Value) → kind_of P o ≡ Some kind → Holds (may_be P kind (OfReferences k)) → PartsFit P ks kind o.parts → Holds (flows_to P (record t { locals = t.locals; stack = ReferenceTo k ∷ rest }) (types f.method next)) → AllTwo (HasItem P f.method m ks) rest ops
          → Fit (on (component_of (kind_of P o)) (λ k. on_element o x (λ i v. Go next f.locals (v ∷ ops))))
      part k (OfReferences j) o x rest ops ek mb parts fl h =
          on_some Fit (component_of (kind_of P o)) j _ (ap component_of ek)
          (element_fits (Reference j) o x _ parts.1 (λ i w ew hw. on_to (ReferenceTo k ∷ rest) (w ∷ ops) fl (component_item j k w mb hw, h)))
      part k (OfClass d) o x rest ops ek mb parts fl h = absurd mb
      part k (OfNumbers a) o x rest ops ek mb parts fl h = absurd mb

      array : (u : VarType) (v : Value) (x : ℤ) (rest : List VarType) (ops : List Value) → Has P f.method m ks u v → IsChecked (found (component_type u) rule.Stack (λ w. Leaves (Some (record t { locals = t.locals; stack = w ∷ rest })) true true true)) K → AllTwo (HasItem P f.method m ks) rest ops
          → Fit (on_object s.objects (v ∷ ops) (λ p o rest2. on (component_of (kind_of P o)) (λ k. on_element o x (λ i v. Go next f.locals (v ∷ rest2)))))
      array NullReference Null x rest ops hv c h = faults NullPointerException
      array NullReference v x rest ops hv c h = absurd hv
      array (ReferenceTo (OfReferences k)) v x rest ops hv c h =
          object_fits (OfReferences k) v ops _ hv (λ p o kind eo ek mb parts. part k kind o x rest ops ek mb parts c.3 h)
      array u v x rest ops hv c h = absurd c

  -- ---- type tests

  -- whether a reference is of a kind is known; where it is and null counts, it is of the declared type
  instance_known : (null : Bool) (k : Kind) (v : Value) → Has P f.method m ks (ReferenceTo (OfClass object_class)) v → (x : Bool) × (is_instance P s.objects null k v ≡ Some x) × (Holds x → HasDeclared P ks (Reference k) v)
  instance_known null k Null h = (null, refl, λ g. tt)
  instance_known null k (Ref p) h =
      let (o, eo, ho) = object_at P s.objects p _ h in
      let (l, el, u) = some_is (kind_of P o) _ ho in (
        is_of P l k,
        onto_is (slice_get s.objects p) o (λ o. onto (kind_of P o) (λ l. Some (is_of P l k))) (Some (is_of P l k)) eo (onto_is (kind_of P o) l (λ l. Some (is_of P l k)) (Some (is_of P l k)) el refl),
        λ g. kind_at P s.objects p o (λ l. Holds (may_be P l k)) eo (some_at (kind_of P o) l (λ l. Holds (may_be P l k)) el (is_may_be P l k g)),
      )
  instance_known null k (Int i) h = absurd h
  instance_known null k (Long i) h = absurd h
  instance_known null k Unset h = absurd h

  pub cast_fits : (k : Kind) → RowChecked (rows.Cast k) → Fit (effect P limits s f next (rows.Cast k))
  cast_fits k c =
      top_fits P types law f.method m b ks Fit K _ t.stack f.operands _ hs c (λ u v rest ops hv h c.
      let (a, c2) = need_checked K (is_reference_type u) rule.Stack _ c in
      let (x, is, g) = instance_known true k v (as_object P law f.method m ks u v a hv.0) in
      on_some Fit (is_instance P s.objects true k v) x _ is (test x v rest ops g c2.3 h))
    where
      test : (x : Bool) (v : Value) (rest : List VarType) (ops : List Value) → (Holds x → HasDeclared P ks (Reference k) v) → Holds (flows_to P (record t { locals = t.locals; stack = ReferenceTo k ∷ rest }) (types f.method next)) → AllTwo (HasItem P f.method m ks) rest ops → Fit (if x then Go next f.locals (v ∷ ops) else fault ClassCastException)
      test true v rest ops g fl h = on_to (ReferenceTo k ∷ rest) (v ∷ ops) fl (from_declared P f.method m ks (Reference k) v (g tt), h)
      test false v rest ops g fl h = faults ClassCastException

  pub test_fits : (k : Kind) → RowChecked (rows.Test k) → Fit (effect P limits s f next (rows.Test k))
  test_fits k c =
      top_fits P types law f.method m b ks Fit K _ t.stack f.operands _ hs c (λ u v rest ops hv h c.
      let (a, c2) = need_checked K (is_reference_type u) rule.Stack _ c in
      let (x, is, g) = instance_known false k v (as_object P law f.method m ks u v a hv.0) in
      on_some Fit (is_instance P s.objects false k v) x _ is (on_to (Integer ∷ rest) (Int (if x then pos 1 else pos 0) ∷ ops) c2.3 (flag x, h)))
    where
      flag : (x : Bool) → HasItem P f.method m ks Integer (Int (if x then pos 1 else pos 0))
      flag true = (fits_signed_from_abs w32 (pos 1) (omega arith), refl)
      flag false = (fits_signed_from_abs w32 (pos 0) (omega arith), refl)

  pub store_reference_fits : RowChecked rows.StoreReference → Fit (effect P limits s f next rows.StoreReference)
  store_reference_fits c =
      top_fits P types law f.method m b ks Fit K _ t.stack f.operands _ hs c (λ u v rest ops hv h c.
      let (a, c2) = need_checked K (is_reference_type u) rule.Stack _ c in
      only_so Fit (is_moved References v) _ (a_reference v (as_object P law f.method m ks u v a hv.0))
      (number_fits P types law f.method m b ks Fit K IntType _ rest ops _ h c2 (λ x rest2 ops2 h2 c.
      object_top _ rest2 ops2 _ h2 c (λ u2 r rest3 ops3 hr h3 c.
      let (g, c3) = need_checked K (is_there (component_type u2)) rule.Stack _ c in array u2 r v x rest3 ops3 g hr.0 (as_object P law f.method m ks u v a hv.0) c3.3 h3))))
    where
      a_reference : (v : Value) → Has P f.method m ks (ReferenceTo (OfClass object_class)) v → is_moved References v ≡ true
      a_reference (Ref p) h = refl
      a_reference Null h = refl
      a_reference (Int i) h = absurd h
      a_reference (Long i) h = absurd h
      a_reference Unset h = absurd h

      stored : (y : Bool) (j : Kind) (p i : ℕ) (o : Object) (old v : Value) (rest : List VarType) (ops : List Value) → slice_get s.objects p ≡ Some o → kind_of P o ≡ Some (OfReferences j) → PartsFit P ks (OfReferences j) o.parts → slice_get o.parts i ≡ Some old → HasDeclared P ks (Reference j) old → (Holds y → HasDeclared P ks (Reference j) v)
          → Holds (flows_to P (record t { locals = t.locals; stack = rest }) (types f.method next)) → AllTwo (HasItem P f.method m ks) rest ops → Fit (if y then WritePart p i v next f.locals ops else fault ArrayStoreException)
      stored true j p i o old v rest ops eo ek parts eold hold g fl h =
          let (zs, ez, hz) = each_put P ks (Reference j) o.parts i old v parts.1 eold (g tt) in (
            record {
              object = o;
              at_object = eo;
              old = old;
              at_part = eold;
              words = same_words P ks (Reference j) old v hold (g tt);
              parts = zs;
              put = ez;
              fits = some_at (kind_of P o) (OfReferences j) (λ kind. PartsFit P ks kind zs) ek (subst (λ n. n < 2 ^ 31) (sym (replaced_length o.parts zs i v ez)) parts.0, hz);
            },
            on_to rest ops fl h,
          )
      stored false j p i o old v rest ops eo ek parts eold hold g fl h = faults ArrayStoreException

      part : (k kind : Kind) (p : ℕ) (o : Object) (v : Value) (x : ℤ) (rest : List VarType) (ops : List Value) → slice_get s.objects p ≡ Some o → kind_of P o ≡ Some kind → Holds (may_be P kind (OfReferences k)) → PartsFit P ks kind o.parts → Has P f.method m ks (ReferenceTo (OfClass object_class)) v → Holds (flows_to P (record t { locals = t.locals; stack = rest }) (types f.method next)) → AllTwo (HasItem P f.method m ks) rest ops
          → Fit (on (component_of (kind_of P o)) (λ k. on_element o x (λ i old. on (is_instance P s.objects true k v) (λ b. if b then WritePart p i v next f.locals ops else fault ArrayStoreException))))
      part k (OfReferences j) p o v x rest ops eo ek mb parts hv fl h =
          let (y, is, g) = instance_known true j v hv in
          on_some Fit (component_of (kind_of P o)) j _ (ap component_of ek)
          (element_fits (Reference j) o x _ parts.1 (λ i old eold hold. on_some Fit (is_instance P s.objects true j v) y _ is (stored y j p i o old v rest ops eo ek parts eold hold g fl h)))
      part k (OfClass d) p o v x rest ops eo ek mb parts hv fl h = absurd mb
      part k (OfNumbers a) p o v x rest ops eo ek mb parts hv fl h = absurd mb

      array : (u : VarType) (r v : Value) (x : ℤ) (rest : List VarType) (ops : List Value) → Holds (is_there (component_type u)) → Has P f.method m ks u r → Has P f.method m ks (ReferenceTo (OfClass object_class)) v → Holds (flows_to P (record t { locals = t.locals; stack = rest }) (types f.method next)) → AllTwo (HasItem P f.method m ks) rest ops
          → Fit (on_object s.objects (r ∷ ops) (λ p o rest3. on (component_of (kind_of P o)) (λ k. on_element o x (λ i old. on (is_instance P s.objects true k v) (λ b. if b then WritePart p i v next f.locals rest3 else fault ArrayStoreException)))))
      array NullReference Null v x rest ops a hr hv fl h = faults NullPointerException
      array NullReference r v x rest ops a hr hv fl h = absurd hr
      array (ReferenceTo (OfReferences k)) r v x rest ops a hr hv fl h =
          object_fits (OfReferences k) r ops _ hr (λ p o kind eo ek mb parts. part k kind p o v x rest ops eo ek mb parts hv fl h)
      array u r v x rest ops a hr hv fl h = absurd a

  pub monitor_fits : RowChecked rows.Monitor → Fit (effect P limits s f next rows.Monitor)
  monitor_fits c =
      object_top _ t.stack f.operands _ hs c (λ u v rest ops hv h c.
      let (a, c2) = need_checked K (is_reference_type u) rule.Stack _ c in
      object_fits (OfClass object_class) v ops _ (as_object P law f.method m ks u v a hv.0) (λ p o kind eo ek mb parts. on_to rest ops c2.3 h))

  pub throw_fits : RowChecked rows.Throw → Fit (effect P limits s f next rows.Throw)
  throw_fits c =
      object_top _ t.stack f.operands _ hs c (λ u v rest ops hv h c.
      let (a, c2) = need_checked K (is_seen_as P f.method m b (types f.method) f.pc t (OfClass throwable_class) u) rule.Stack _ c in
      object_fits (OfClass throwable_class) v ops _ (seen_reference (OfClass throwable_class) u v a hv.0) (λ p o kind eo ek mb parts.
      kind_at P s.objects p o (λ k. Holds (is_of P k (OfClass throwable_class))) eo (some_at (kind_of P o) kind (λ k. Holds (is_of P k (OfClass throwable_class))) ek (is_then P kind throwable_class law.throwable mb))))
