-- The rows that call methods: the first frame of the callee fits, and the caller waits for its result.
use Rattle.std.proofs.Common.{◌≡◌, ℕ, Bool, true, false, List, [], ◌∷◌, ◌++◌, Option, Some, None, refl, sym, ap, ◌∙◌, subst, length, map, reverse, append_assoc, append-nil}
use Rattle.std.specs.Prelude.{◌&&◌, ◌||◌, ◌==◌, not, IfSome, slice_get, if◌then◌else◌}
use Rattle.std.specs.List.{list_all}
use Rattle.std.specs.Option.{IsSomeAnd}
use Rattle.std.proofs.lemmas.List.{reverse-reverse}
use Rattle.std.proofs.lemmas.Grind.{reverse_onto}
use Rattle.bytecode_model.specs.declared.Value.{Value}
use Rattle.bytecode_model.specs.declared.Value.TheVariants.{Int, Long, Ref, Null, Unset}
use Rattle.bytecode_model.specs.Lists.{onto}
use Rattle.bytecode_model.specs.Types.{Kind, OfClass, OfNumbers, OfReferences, Declared, Reference, suits, is_long}
use Rattle.bytecode_model.specs.State.{Object, Frame, State}
use Rattle.bytecode_model.specs.Program.{Program, Limits, Method, Body, kind_of, is_of, object_class, serializable_class, cloneable_class}
use Rattle.bytecode_model.specs.Slots.{spread, padded}
use Rattle.bytecode_model.specs.Rows as rows
use Rattle.bytecode_model.specs.Rows.{Row}
use Rattle.bytecode_model.specs.Effects.{Effect, Call, Fault, NullPointerException, IncompatibleClassChangeError, StackOverflowError, fault, fault_object, on, only_if, on_object, on_receiver, has_class, selected, effect}
use Rattle.bytecode_model.specs.Steps.{row_in, taken_types, all_suit}
use Rattle.bytecode_model.specs.WellFormed.{AreSpaced}
use Rattle.bytecode_typing.specs.Tests.{Holds, AllTwo}
use Rattle.bytecode_typing.specs.Types.{VarType, Top, NullReference, UninitializedThis, Uninitialized, ReferenceTo, TypeFrame, is_long_type, is_reference_type, is_initialized, type_of, result_types, substituted}
use Rattle.bytecode_typing.specs.Assignable.{flows_to}
use Rattle.bytecode_typing.specs.Rules as rule
use Rattle.bytecode_typing.specs.Rules.{Checked, on_type, on_argument_types}
use Rattle.bytecode_typing.specs.Checks.{made_at, seen, is_class, is_own_class, is_seen_as, may_begin, begun, init_check, super_check, row_check}
use Rattle.bytecode_typing.specs.Walk.{this_types, first_types}
use Rattle.bytecode_typing.specs.Typed.{Typing, Typed, IsChecked, GoesOn}
use Rattle.bytecode_typing.specs.Fits.{may_be, kind_in, Has, HasItem, HasDeclared, PartsFit, ObjectFits, numbers_of, IsThrowable, MayHaveCalled, Waits}
use Rattle.bytecode_typing.specs.Lawful.{Lawful, IsThere, IsStaticCall, IsSpecialCall, IsVirtualCall, IsInterfaceCall}
use Rattle.bytecode_typing.proofs.Relations.{is_true, from_true, both_left, both_right, some_in, some_is, some_at, at_some, there_at, onto_is, onto_back, OptTwo, retype_two, padded_two, spread_two}
use Rattle.bytecode_typing.proofs.Spaced.{from_spaced, begin_spaced, padded_length}
use Rattle.bytecode_typing.proofs.Hierarchy.{equal, or_else, not_so, is_then, is_may_be, may_up, class_is, class_is_of}
use Rattle.bytecode_typing.proofs.Values.{from_declared, declared_suits, has_seen, widen, renewed, renewed_item, seen_long}
use Rattle.bytecode_typing.proofs.Parts.{object_at, kind_at}
use Rattle.bytecode_typing.proofs.Pairs.{need_checked, found_checked, Begins, EffectFits, pour, arrive, values_fit}
use Rattle.bytecode_typing.proofs.Plain.{on_some, only_so}
use Rattle.bytecode_typing.proofs.ObjectRows.{as_object}

pour_is : (ds acc : List Declared) → pour ds acc ≡ reverse ds ++ acc
pour_is [] acc = refl
pour_is (d ∷ ds) acc = pour_is ds (d ∷ acc) ∙ sym (append_assoc (reverse ds) (d ∷ []) acc) ∙ ap (λ (l : List Declared). l ++ acc) (sym (reverse_onto ds d []))

pub in_order : (ds : List Declared) → pour (reverse ds) [] ≡ ds
in_order ds = pour_is (reverse ds) [] ∙ append-nil (reverse (reverse ds)) ∙ reverse-reverse ds

opt_two_at : {A B : Type 0} (R : A → B → Type 0) (o : Option A) (p : Option B) (a : A) → o ≡ Some a → OptTwo R o p → (b : B) × (p ≡ Some b) × R a b
opt_two_at R o None a e h = absurd (subst (λ o. OptTwo R o None) e h)
opt_two_at R o (Some b) a e h = (b, refl, subst (λ o. OptTwo R o (Some b)) e h)

module _ (P : Program) (types : Typing) (law : Lawful P) (typed : Typed P types) (ks : List ℕ) where
  all_suits : (ds : List Declared) (vs : List Value) → AllTwo (HasDeclared P ks) ds vs → all_suit ds vs ≡ true
  all_suits [] [] h = refl
  all_suits [] (v ∷ vs) h = absurd h
  all_suits (d ∷ ds) [] h = absurd h
  all_suits (d ∷ ds) (v ∷ vs) h = both (suits d v) (all_suit ds vs) (declared_suits P ks d v h.0) (all_suits ds vs h.1)
    where
      both : (x y : Bool) → x ≡ true → y ≡ true → (x && y) ≡ true
      both x y e g = ap (λ (x : Bool). x && y) e ∙ g

  items : (c : ℕ) (k : Method) (ds : List Declared) (vs : List Value) → AllTwo (HasDeclared P ks) ds vs → AllTwo (HasItem P c k ks) (map type_of ds) vs
  items c k ds vs h = retype_two (HasDeclared P ks) (HasItem P c k ks) type_of (λ d v g. from_declared P c k ks d v g) ds vs h

  -- a method begins with arguments that suit it and have the types of its first frame
  pub begins : (c : ℕ) (k : Method) (b : Body) (ts : List VarType) (args : List Value) → slice_get P.methods c ≡ Some k → k.body ≡ Some b → this_types k ++ map type_of k.parameters ≡ ts → AllTwo (HasItem P c k ks) ts args → all_suit (taken_types k) args ≡ true → Begins P types ks c args
  begins c k b ts args ek eb et h su =
      let (ft, ef, fl) = some_is (first_types k b) _ (typed.methods c k b ek eb).first in
      let (lt, el, is) = onto_back (padded Top b.max_locals (spread is_long_type Top (this_types k ++ map type_of k.parameters))) _ ft ef in
      let el2 : padded Top b.max_locals (spread is_long_type Top ts) ≡ Some lt = ap (λ (ts : List VarType). padded Top b.max_locals (spread is_long_type Top ts)) (sym et) ∙ el in
      let (ls, es, hl) = opt_two_at (AllTwo (Has P c k ks)) (padded Top b.max_locals (spread is_long_type Top ts)) (padded Unset b.max_locals (spread is_long Unset args)) lt el2
      (padded_two (Has P c k ks) is_long_type is_long Top Unset tt b.max_locals _ _ (spread_two (Has P c k ks) is_long_type is_long Top Unset tt ts args h)) in
      let is2 = some_frame _ ft is in
      let g = arrive P types law c k b ks 0 ft ls [] fl (there_at (padded Unset b.max_locals (spread is_long Unset args)) ls _ es (padded_length b.max_locals (spread is_long Unset args)))
      (from_spaced ls (there_at (padded Unset b.max_locals (spread is_long Unset args)) ls _ es (begin_spaced b.max_locals args))) (subst (λ ft. AllTwo (Has P c k ks) ft.locals ls) is2 hl) (subst (λ ft. AllTwo (HasItem P c k ks) ft.stack []) is2 tt) in
      let first : Frame = record { method = c; pc = 0; locals = ls; operands = [] } in
      record {
        frame = first;
        is_first = onto_is (slice_get P.methods c) k _ (Some first) ek (onto_is k.body b _ (Some first) eb (whole (all_suit (taken_types k) args) su ls es));
        is_of_method = refl;
        fits = record {
          fits = record {
            method = k;
            at_method = ek;
            body = b;
            at_body = eb;
            frame = g.frame;
            at_place = g.at_place;
            count = g.count;
            spaced = g.spaced;
            locals = g.locals;
          };
          operands = g.operands;
        };
      }
    where
      some_frame : (x y : TypeFrame) → Some x ≡ Some y → x ≡ y
      some_frame x y e = cc

      whole : (x : Bool) → x ≡ true → (ls : List Value) → padded Unset b.max_locals (spread is_long Unset args) ≡ Some ls
          → (if x then onto {B = Frame} (padded Unset b.max_locals (spread is_long Unset args)) (λ ls. Some (record { method = c; pc = 0; locals = ls; operands = [] })) else None) ≡ Some (record { method = c; pc = 0; locals = ls; operands = [] })
      whole true e ls es = onto_is (padded Unset b.max_locals (spread is_long Unset args)) ls _ _ es refl
      whole false e ls es = absurd (cc)

  -- a class method
  pub begins_static : (c : ℕ) (k : Method) (args : List Value) → slice_get P.methods c ≡ Some k → k.has_this ≡ false → IsThere k.body → AllTwo (HasDeclared P ks) k.parameters args → Begins P types ks c args
  begins_static c k args ek st code h =
      let (b, eb, u) = some_is k.body _ code in
      let none : this_types k ≡ [] = ap (λ (x : Bool). if x then (if k.is_init && not (k.owner == object_class) then UninitializedThis else ReferenceTo (OfClass k.owner)) ∷ [] else []) st in
      let same : taken_types k ≡ k.parameters = ap (λ (x : Bool). if x then Reference (OfClass k.owner) ∷ k.parameters else k.parameters) st in
      begins c k b (map type_of k.parameters) args ek eb (ap (λ (l : List VarType). l ++ map type_of k.parameters) none) (items c k k.parameters args h)
      (ap (λ (ds : List Declared). all_suit ds args) same ∙ all_suits k.parameters args h)

  -- an instance method, with `this` of this type
  pub begins_with : (c : ℕ) (k : Method) (p : ℕ) (args : List Value) (u : VarType) → slice_get P.methods c ≡ Some k → k.has_this ≡ true → IsThere k.body → (if k.is_init && not (k.owner == object_class) then UninitializedThis else ReferenceTo (OfClass k.owner)) ≡ u → HasItem P c k ks u (Ref p) → AllTwo (HasDeclared P ks) k.parameters args → Begins P types ks c (Ref p ∷ args)
  begins_with c k p args u ek st code eu hu h =
      let (b, eb, x) = some_is k.body _ code in
      let this : this_types k ≡ u ∷ [] = ap (λ (x : Bool). if x then (if k.is_init && not (k.owner == object_class) then UninitializedThis else ReferenceTo (OfClass k.owner)) ∷ [] else []) st ∙ ap (λ (u : VarType). u ∷ []) eu in
      let same : taken_types k ≡ Reference (OfClass k.owner) ∷ k.parameters = ap (λ (x : Bool). if x then Reference (OfClass k.owner) ∷ k.parameters else k.parameters) st in
      begins c k b (u ∷ map type_of k.parameters) (Ref p ∷ args) ek eb (ap (λ (l : List VarType). l ++ map type_of k.parameters) this) (hu, items c k k.parameters args h)
      (ap (λ (ds : List Declared). all_suit ds (Ref p ∷ args)) same ∙ all_suits k.parameters args h)

-- one row in a frame that fits
module _ (P : Program) (types : Typing) (law : Lawful P) (typed : Typed P types) (limits : Limits) (s : State) (m : Method) (b : Body) (f : Frame) (t : TypeFrame) (em : slice_get P.methods f.method ≡ Some m) (eb : m.body ≡ Some b) (et : types f.method f.pc ≡ Some t)
    (count : length f.locals ≡ b.max_locals) (spaced : AreSpaced f.locals) (hl : AllTwo (Has P f.method m (numbers_of s.objects)) t.locals f.locals) (hs : AllTwo (HasItem P f.method m (numbers_of s.objects)) t.stack f.operands) (next : ℕ)
    (objects : (p : ℕ) → IfSome (slice_get s.objects p) (ObjectFits P (numbers_of s.objects))) (faults : (x : Fault) → IsThrowable P (numbers_of s.objects) (fault_object x)) where
  abbrev ks : List ℕ
  ks = numbers_of s.objects

  abbrev Fit : Effect → Type 0
  Fit e = EffectFits P types limits s m b f e

  abbrev K : Option TypeFrame → Type 0
  K after = GoesOn P (types f.method) next after

  abbrev RowChecked : Row → Type 0
  RowChecked row = IsChecked (row_check P f.method m b (types f.method) f.pc t row) K

  abbrev see : VarType → VarType
  see u = seen P f.method m u

  -- the caller behind its invoke
  waits : (callee : ℕ) (row : Row) (k : Method) (g : TypeFrame) (rest : List VarType) (ops : List Value) → row_in P f.method f.pc ≡ Some (next, row) → MayHaveCalled P row callee → slice_get P.methods callee ≡ Some k → Holds (flows_to P g (types f.method next)) → AllTwo (Has P f.method m ks) g.locals f.locals → g.stack ≡ result_types k.result ++ rest → AllTwo (HasItem P f.method m ks) rest ops → Waits P types ks callee (record f { operands = ops })
  waits callee row k g rest ops er may ek fl h eg ho = record {
    fits = record {
      method = m;
      at_method = em;
      body = b;
      at_body = eb;
      frame = t;
      at_place = et;
      count = count;
      spaced = spaced;
      locals = hl;
    };
    next = next;
    row = row;
    at_invoke = er;
    may_call = may;
    after = g;
    rest = rest;
    flows = fl;
    locals = h;
    stack = some_at (slice_get P.methods callee) k _ ek eg;
    operands = ho;
  }

  pub static_fits : (c : ℕ) → row_in P f.method f.pc ≡ Some (next, rows.CallStatic c) → IsSomeAnd (slice_get P.methods c) IsStaticCall → RowChecked (rows.CallStatic c) → Fit (effect P limits s f next (rows.CallStatic c))
  static_fits c er row c1 =
      let (k, ek, c2) = found_checked K (slice_get P.methods c) rule.Operand _ c1 in
      let call = at_some (slice_get P.methods c) k _ ek row in
      on_some Fit (slice_get P.methods c) k _ ek
      (values_fit P types law f.method m b ks Fit K _ (reverse k.parameters) t.stack f.operands [] [] _ hs c2 tt (λ args taken rest ops a h c3. (
        begins_static P types law typed ks c k args ek call.static call.code (subst (λ ds. AllTwo (HasDeclared P ks) ds args) (in_order k.parameters) a),
        waits c (rows.CallStatic c) k (record t { locals = t.locals; stack = result_types k.result ++ rest }) rest ops er refl ek c3.3 hl refl h,
        faults StackOverflowError,
      )))

  -- the object on which an instance method is called
  receiver_fits : (c : ℕ) (k : Method) (chk : (u : VarType) (taken rest : List VarType) → Checked) (go : Method → Object → List Value → List Value → Effect) → slice_get P.methods c ≡ Some k → k.has_this ≡ true → IsChecked (on_argument_types P see (reverse k.parameters) t.stack (λ taken rest. on_type rest (λ u rest2. chk u taken rest2))) K
      → ((u : VarType) (taken rest : List VarType) (v : Value) → IsChecked (chk u taken rest) K → Has P f.method m ks u v → Has P f.method m ks (ReferenceTo (OfClass object_class)) v)
      → ((args : List Value) (p : ℕ) (o : Object) (kind : Kind) (u : VarType) (taken rest : List VarType) (ops : List Value) → AllTwo (HasDeclared P ks) k.parameters args → Has P f.method m ks u (Ref p) → slice_get s.objects p ≡ Some o → kind_of P o ≡ Some kind → PartsFit P ks kind o.parts → AllTwo (HasItem P f.method m ks) rest ops → IsChecked (chk u taken rest) K → Fit (go k o (Ref p ∷ args) ops))
      → Fit (on_receiver P s f c go)
  receiver_fits c k chk go ek st c1 as_ref then_ =
      on_some Fit (slice_get P.methods c) k _ ek (only_so Fit k.has_this _ st
      (values_fit P types law f.method m b ks Fit K (λ taken rest. on_type rest (λ u rest2. chk u taken rest2)) (reverse k.parameters) t.stack f.operands [] [] _ hs c1 tt (λ args taken rest ops a h c2.
      top rest ops taken args (subst (λ ds. AllTwo (HasDeclared P ks) ds args) (in_order k.parameters) a) h c2)))
    where
      one : (u : VarType) (v : Value) (rest : List VarType) (ops : List Value) (taken : List VarType) (args : List Value) → AllTwo (HasDeclared P ks) k.parameters args → Has P f.method m ks (ReferenceTo (OfClass object_class)) v → Has P f.method m ks u v → AllTwo (HasItem P f.method m ks) rest ops → IsChecked (chk u taken rest) K → Fit (on_object s.objects (v ∷ ops) (λ p o rest2. go k o (Ref p ∷ args) rest2))
      one u Null rest ops taken args a hr hv h c2 = faults NullPointerException
      one u (Ref p) rest ops taken args a hr hv h c2 =
          let (o, eo, ho) = object_at P s.objects p _ hr in
          let (kind, ekind, mb) = some_is (kind_of P o) _ ho in
          on_some Fit (slice_get s.objects p) o _ eo (then_ args p o kind u taken rest ops a hv eo ekind (at_some (kind_of P o) kind _ ekind (there_at (slice_get s.objects p) o _ eo (objects p))) h c2)
      one u (Int i) rest ops taken args a hr hv h c2 = absurd hr
      one u (Long i) rest ops taken args a hr hv h c2 = absurd hr
      one u Unset rest ops taken args a hr hv h c2 = absurd hr

      top : (rest : List VarType) (ops : List Value) (taken : List VarType) (args : List Value) → AllTwo (HasDeclared P ks) k.parameters args → AllTwo (HasItem P f.method m ks) rest ops → IsChecked (on_type rest (λ u rest2. chk u taken rest2)) K → Fit (on_object s.objects ops (λ p o rest2. go k o (Ref p ∷ args) rest2))
      top [] ops taken args a h c2 = absurd c2
      top (u ∷ rest) [] taken args a h c2 = absurd h
      top (u ∷ rest) (v ∷ ops) taken args a h c2 = one u v rest ops taken args a (as_ref u taken rest v c2 h.0.0) h.0.0 h.1 c2

  seen_as : (k : Kind) (u : VarType) (v : Value) → Holds (is_seen_as P f.method m b (types f.method) f.pc t k u) → Has P f.method m ks u v → Has P f.method m ks (ReferenceTo k) v
  seen_as k u v a h = widen P f.method m law ks (see u) (ReferenceTo k) v a (has_seen P f.method m law ks u v h)

  seen_object : (k : Kind) (u : VarType) (v : Value) → Holds (is_seen_as P f.method m b (types f.method) f.pc t k u) → Has P f.method m ks u v → Has P f.method m ks (ReferenceTo (OfClass object_class)) v
  seen_object k u v a h = as_object P law f.method m ks (ReferenceTo k) v tt (seen_as k u v a h)

  -- the kind of the receiver
  kind_known : (p : ℕ) (o : Object) (kind : Kind) (Q : Kind → Type 0) → slice_get s.objects p ≡ Some o → kind_of P o ≡ Some kind → IsSomeAnd (kind_in P ks p) Q → Q kind
  kind_known p o kind Q eo ek h =
      let (j, ej, q) = some_is (kind_in P ks p) Q h in
      let (i, ei, same) = some_is (kind_in P ks p) (λ i. i ≡ kind) (kind_at P s.objects p o (λ i. i ≡ kind) eo (some_at (kind_of P o) kind (λ i. i ≡ kind) ek refl)) in
      let is : j ≡ i = cc (ej, ei) in subst Q (is ∙ same) q

  -- ---- virtual calls

  no_array_method : (named : ℕ) (k : Method) (c : ℕ) (G : Type 0) → slice_get P.methods c ≡ Some k → IsVirtualCall P named k → Holds (named == object_class || named == serializable_class || named == cloneable_class) → G
  no_array_method named k c G ek call h =
      or_else (named == object_class || named == serializable_class) _ G h
      (λ g. or_else (named == object_class) _ G g
      (λ x. let top : k.owner ≡ object_class = law.root k.owner (subst (λ c. Holds (P.extends c k.owner)) (equal named object_class x) call.inherited) in
      let init : k.is_init ≡ true = law.object_methods c k ek top call.instance in let other : k.is_init ≡ false = call.other in absurd (cc (init, other)))
      (λ x. not_so (P.is_interface named) G call.class (subst (λ c. Holds (P.is_interface c)) (sym (equal named serializable_class x)) law.serializable)))
      (λ x. not_so (P.is_interface named) G call.class (subst (λ c. Holds (P.is_interface c)) (sym (equal named cloneable_class x)) law.cloneable))

  method_class : (named : ℕ) (k : Method) (c : ℕ) (kind : Kind) → slice_get P.methods c ≡ Some k → IsVirtualCall P named k → Holds (is_of P kind (OfClass named)) → (cl : ℕ) × (kind ≡ OfClass cl) × Holds (P.extends cl named)
  method_class named k c (OfClass cl) ek call h = (cl, refl, h)
  method_class named k c (OfNumbers a) ek call h = no_array_method named k c _ ek call h
  method_class named k c (OfReferences l) ek call h = no_array_method named k c _ ek call h

  -- a receiver of the class cl runs the method that the class selects
  selected_fits : (c : ℕ) (row : Row) (k : Method) (cl p : ℕ) (o : Object) (kind : Kind) (args : List Value) (rest : List VarType) (ops : List Value) → row_in P f.method f.pc ≡ Some (next, row) → ((callee : ℕ) → P.select cl c ≡ Some callee → MayHaveCalled P row callee) → slice_get P.methods c ≡ Some k → k.has_this ≡ true → k.is_init ≡ false → Holds (P.extends cl k.owner) → slice_get s.objects p ≡ Some o → kind_of P o ≡ Some kind → kind ≡ OfClass cl → PartsFit P ks kind o.parts
      → AllTwo (HasDeclared P ks) k.parameters args → Holds (flows_to P (record t { locals = t.locals; stack = result_types k.result ++ rest }) (types f.method next)) → AllTwo (HasItem P f.method m ks) rest ops → Fit (on (selected P (kind_of P o) c) (λ callee. Call callee (Ref p ∷ args) ops))
  selected_fits c row k cl p o kind args rest ops er may ek st other x eo ekind is parts a fl h =
      let concrete = (subst (λ kind. PartsFit P ks kind o.parts) is parts).0 in
      let (callee, es, hj) = some_is (P.select cl c) _ (law.selects cl c k ek st other concrete x) in
      let (j, ej, g) = some_is (slice_get P.methods callee) _ hj in
      let known : kind_of P o ≡ Some (OfClass cl) = ekind ∙ ap Some is in
      on_some Fit (selected P (kind_of P o) c) callee _ (ap (λ (q : Option Kind). selected P q c) known ∙ es) (
        begins_with P types law typed ks callee j p args (ReferenceTo (OfClass j.owner)) ej g.instance g.code
            (ap (λ (x : Bool). if x && not (j.owner == object_class) then UninitializedThis else ReferenceTo (OfClass j.owner)) g.other)
            (kind_at P s.objects p o (λ l. Holds (may_be P l (OfClass j.owner))) eo (some_at (kind_of P o) (OfClass cl) (λ l. Holds (may_be P l (OfClass j.owner))) known (is_may_be P (OfClass cl) (OfClass j.owner) g.above)), refl)
            (subst (λ ds. AllTwo (HasDeclared P ks) ds args) (sym g.parameters) a),
        waits callee row j (record t { locals = t.locals; stack = result_types k.result ++ rest }) rest ops er (may callee es) ej fl hl (ap (λ (r : Option Declared). result_types r ++ rest) (sym g.result)) h,
        faults StackOverflowError,
      )

  pub virtual_fits : (named c : ℕ) → row_in P f.method f.pc ≡ Some (next, rows.CallVirtual named c) → IsSomeAnd (slice_get P.methods c) (IsVirtualCall P named) → RowChecked (rows.CallVirtual named c) → Fit (effect P limits s f next (rows.CallVirtual named c))
  virtual_fits named c er row c1 =
      let (k, ek, c2) = found_checked K (slice_get P.methods c) rule.Operand _ c1 in
      let call = at_some (slice_get P.methods c) k _ ek row in
      receiver_fits c k _ (λ k o args rest. only_if (has_class P (kind_of P o) named) (on (selected P (kind_of P o) c) (λ t. Call t args rest))) ek call.instance c2
      (λ u taken rest v c3 hv. seen_object (OfClass named) u v (need_checked K (is_seen_as P f.method m b (types f.method) f.pc t (OfClass named) u) rule.Stack _ c3).0 hv)
      (λ args p o kind u taken rest ops a hv eo ekind parts h c3.
      let (g, c4) = need_checked K (is_seen_as P f.method m b (types f.method) f.pc t (OfClass named) u) rule.Stack _ c3 in
      let mb = kind_known p o kind (λ k. Holds (may_be P k (OfClass named))) eo ekind (seen_as (OfClass named) u (Ref p) g hv) in
      let (cl, is, x) = method_class named k c kind ek call (is_then P kind named call.class mb) in
      only_so Fit (has_class P (kind_of P o) named) _ (ap (λ (q : Option Kind). has_class P q named) (ekind ∙ ap Some is) ∙ is_true (P.extends cl named) x)
      (selected_fits c (rows.CallVirtual named c) k cl p o kind args rest ops er (λ callee e. (cl, e)) ek call.instance call.other (law.through cl named k.owner x call.inherited) eo ekind is parts a c4.3 h))

  pub interface_fits : (named c : ℕ) → row_in P f.method f.pc ≡ Some (next, rows.CallInterface named c) → IsSomeAnd (slice_get P.methods c) IsInterfaceCall → RowChecked (rows.CallInterface named c) → Fit (effect P limits s f next (rows.CallInterface named c))
  interface_fits named c er row c1 =
      let (k, ek, c2) = found_checked K (slice_get P.methods c) rule.Operand _ c1 in
      let call = at_some (slice_get P.methods c) k _ ek row in
      receiver_fits c k _ (λ k o args rest. if has_class P (kind_of P o) k.owner then on (selected P (kind_of P o) c) (λ t. Call t args rest) else fault IncompatibleClassChangeError) ek call.instance c2
      (λ u taken rest v c3 hv. seen_object (OfClass named) u v (need_checked K (is_seen_as P f.method m b (types f.method) f.pc t (OfClass named) u) rule.Stack _ c3).0 hv)
      (λ args p o kind u taken rest ops a hv eo ekind parts h c3.
      let (g, c4) = need_checked K (is_seen_as P f.method m b (types f.method) f.pc t (OfClass named) u) rule.Stack _ c3 in
      test (has_class P (kind_of P o) k.owner) k args p o kind rest ops refl call ek eo ekind parts a c4.3 h)
    where
      test : (x : Bool) (k : Method) (args : List Value) (p : ℕ) (o : Object) (kind : Kind) (rest : List VarType) (ops : List Value) → has_class P (kind_of P o) k.owner ≡ x → IsInterfaceCall k → slice_get P.methods c ≡ Some k → slice_get s.objects p ≡ Some o → kind_of P o ≡ Some kind → PartsFit P ks kind o.parts
          → AllTwo (HasDeclared P ks) k.parameters args → Holds (flows_to P (record t { locals = t.locals; stack = result_types k.result ++ rest }) (types f.method next)) → AllTwo (HasItem P f.method m ks) rest ops → Fit (if x then on (selected P (kind_of P o) c) (λ callee. Call callee (Ref p ∷ args) ops) else fault IncompatibleClassChangeError)
      test true k args p o kind rest ops e call ek eo ekind parts a fl h =
          let (cl, is, x) = class_is P kind k.owner (from_true (has_class P (Some kind) k.owner) (ap (λ (q : Option Kind). has_class P q k.owner) (sym ekind) ∙ e)) in
          selected_fits c (rows.CallInterface named c) k cl p o kind args rest ops er (λ callee e. (cl, e)) ek call.instance call.other x eo ekind is parts a fl h
      test false k args p o kind rest ops e call ek eo ekind parts a fl h = faults IncompatibleClassChangeError

  -- ---- special calls

  super_fits : (named c : ℕ) (k : Method) → row_in P f.method f.pc ≡ Some (next, rows.CallSpecial named c) → slice_get P.methods c ≡ Some k → IsSpecialCall P m named k → k.is_init ≡ false → (args : List Value) (p : ℕ) (o : Object) (kind : Kind) (u : VarType) (taken rest : List VarType) (ops : List Value) → AllTwo (HasDeclared P ks) k.parameters args → Has P f.method m ks u (Ref p) → slice_get s.objects p ≡ Some o → kind_of P o ≡ Some kind → AllTwo (HasItem P f.method m ks) rest ops → IsChecked (super_check P f.method m b (types f.method) f.pc t named k u taken rest) K → Fit (Call c (Ref p ∷ args) ops)
  super_fits named c k er ek call other args p o kind u taken rest ops a hv eo ekind h c3 =
      let (g, c4) = need_checked K (is_own_class P m named && is_seen_as P f.method m b (types f.method) f.pc t (OfClass m.owner) u) rule.Stack _ c3 in
      let mb = kind_known p o kind (λ k. Holds (may_be P k (OfClass m.owner))) eo ekind (seen_as (OfClass m.owner) u (Ref p) (both_right (is_own_class P m named) _ g) hv) in
      let up = may_up P law kind m.owner k.owner mb (call.above other (both_left (is_own_class P m named) _ g)) in (
        begins_with P types law typed ks c k p args (ReferenceTo (OfClass k.owner)) ek call.instance call.code
            (ap (λ (x : Bool). if x && not (k.owner == object_class) then UninitializedThis else ReferenceTo (OfClass k.owner)) other)
            (kind_at P s.objects p o (λ l. Holds (may_be P l (OfClass k.owner))) eo (some_at (kind_of P o) kind (λ l. Holds (may_be P l (OfClass k.owner))) ekind up), refl) a,
        waits c (rows.CallSpecial named c) k (record t { locals = t.locals; stack = result_types k.result ++ rest }) rest ops er refl ek c4.3 hl refl h,
        faults StackOverflowError,
      )

  -- the class of what an `<init>` begins
  superclass_up : (o : Option ℕ) (c named : ℕ) → P.superclass c ≡ o → Holds (is_class o named) → Holds (P.extends c named)
  superclass_up None c named e h = absurd h
  superclass_up (Some d) c named e h = subst (λ d. Holds (P.extends c d)) (equal d named h) (law.superclass c d e)

  made_class : (o : Option ℕ) (named : ℕ) (kind : Kind) → Holds (is_class o named) → IsSomeAnd o (λ c. kind ≡ OfClass c) → Holds (has_class P (Some kind) named)
  made_class None named kind a h = absurd h
  made_class (Some c) named kind a h = subst (λ k. Holds (has_class P (Some k) named)) (sym (h ∙ ap OfClass (equal c named a))) (law.self named)

  begun_class : (u : VarType) (p named : ℕ) → Holds (may_begin P f.method m b (types f.method) f.pc t named u) → Has P f.method m ks u (Ref p) → IsSomeAnd (kind_in P ks p) (λ k. Holds (has_class P (Some k) named))
  begun_class UninitializedThis p named a h =
      some_in (kind_in P ks p) _ _ h (λ k e. let (c, is, x) = class_is P k m.owner e in subst (λ k. Holds (has_class P (Some k) named)) (sym is) (law.through c m.owner named x above))
    where
      above : Holds (P.extends m.owner named)
      above = or_else (named == m.owner) _ _ a (λ g. subst (λ d. Holds (P.extends m.owner d)) (sym (equal named m.owner g)) (law.self m.owner)) (λ g. superclass_up (P.superclass m.owner) m.owner named refl g)
  begun_class (Uninitialized q) p named a h = some_in (kind_in P ks p) _ _ h (λ k e. made_class (made_at P f.method q) named k a e)
  begun_class u p named a h = absurd a

  -- `this` of the `<init>` that is called
  this_item : (c : ℕ) (k : Method) (p : ℕ) (x : Bool) → IsSomeAnd (kind_in P ks p) (λ l. Holds (has_class P (Some l) k.owner)) → HasItem P c k ks (if x then UninitializedThis else ReferenceTo (OfClass k.owner)) (Ref p)
  this_item c k p true h = (h, refl)
  this_item c k p false h = (some_in (kind_in P ks p) _ _ h (λ l e. is_may_be P l (OfClass k.owner) (class_is_of P l k.owner e)), refl)

  short : (u : VarType) → Holds (is_reference_type u) → is_long_type u ≡ false
  short NullReference h = refl
  short UninitializedThis h = refl
  short (Uninitialized q) h = refl
  short (ReferenceTo k) h = refl
  short u h = absurd h

  init_fits : (named c : ℕ) (k : Method) → row_in P f.method f.pc ≡ Some (next, rows.CallSpecial named c) → slice_get P.methods c ≡ Some k → IsSpecialCall P m named k → k.is_init ≡ true → (args : List Value) (p : ℕ) (u : VarType) (taken rest : List VarType) (ops : List Value) → AllTwo (HasDeclared P ks) k.parameters args → Has P f.method m ks u (Ref p) → AllTwo (HasItem P f.method m ks) rest ops → IsChecked (init_check P f.method m b (types f.method) f.pc t named u taken rest) K → Fit (Call c (Ref p ∷ args) ops)
  init_fits named c k er ek call init args p u taken rest ops a hv h c3 =
      let (g, c4) = need_checked K (is_reference_type u) rule.Stack _ c3 in
      let owner = call.init init in
      let h1 = begun_class u p named (both_right (list_all is_initialized taken) _ c4.1) hv in
      let h2 = subst (λ d. IsSomeAnd (kind_in P ks p) (λ l. Holds (has_class P (Some l) d))) (sym owner.0) h1 in
      let up = λ (v : Value) (x : Has P f.method m ks u v). has_seen P f.method m law ks u v x in
      let after = begun P f.method m b (types f.method) f.pc t u rest in (
        begins_with P types law typed ks c k p args (if k.is_init && not (k.owner == object_class) then UninitializedThis else ReferenceTo (OfClass k.owner)) ek call.instance call.code refl (this_item c k p (k.is_init && not (k.owner == object_class)) h2) a,
        waits c (rows.CallSpecial named c) k after (map (substituted u (see u)) rest) ops er refl ek c4.3
            (retype_two (Has P f.method m ks) (Has P f.method m ks) (substituted u (see u)) (λ w v x. renewed P f.method m ks u (see u) w v up x) t.locals f.locals hl)
            (ap (λ (r : Option Declared). result_types r ++ map (substituted u (see u)) rest) (sym owner.1))
            (retype_two (HasItem P f.method m ks) (HasItem P f.method m ks) (substituted u (see u)) (λ w v x. renewed_item P f.method m ks u (see u) w v (seen_long P f.method m u ∙ short u g) up x) rest ops h),
        faults StackOverflowError,
      )

  pub special_fits : (named c : ℕ) → row_in P f.method f.pc ≡ Some (next, rows.CallSpecial named c) → IsSomeAnd (slice_get P.methods c) (IsSpecialCall P m named) → RowChecked (rows.CallSpecial named c) → Fit (effect P limits s f next (rows.CallSpecial named c))
  special_fits named c er row c1 =
      let (k, ek, c2) = found_checked K (slice_get P.methods c) rule.Operand _ c1 in
      let call = at_some (slice_get P.methods c) k _ ek row in
      receiver_fits c k (λ u taken rest. if k.is_init then init_check P f.method m b (types f.method) f.pc t named u taken rest else super_check P f.method m b (types f.method) f.pc t named k u taken rest) (λ k o args rest. Call c args rest) ek call.instance c2
      (λ u taken rest v c3 hv. either_object k.is_init k u taken rest v c3 hv)
      (λ args p o kind u taken rest ops a hv eo ekind parts h c3. either k.is_init k args p o kind u taken rest ops refl ek call a hv eo ekind h c3)
    where
      either_object : (x : Bool) (k : Method) (u : VarType) (taken rest : List VarType) (v : Value) → IsChecked (if x then init_check P f.method m b (types f.method) f.pc t named u taken rest else super_check P f.method m b (types f.method) f.pc t named k u taken rest) K → Has P f.method m ks u v → Has P f.method m ks (ReferenceTo (OfClass object_class)) v
      either_object true k u taken rest v c3 hv = as_object P law f.method m ks u v (need_checked K (is_reference_type u) rule.Stack _ c3).0 hv
      either_object false k u taken rest v c3 hv =
          seen_object (OfClass m.owner) u v (both_right (is_own_class P m named) _ (need_checked K (is_own_class P m named && is_seen_as P f.method m b (types f.method) f.pc t (OfClass m.owner) u) rule.Stack _ c3).0) hv

      either : (x : Bool) (k : Method) (args : List Value) (p : ℕ) (o : Object) (kind : Kind) (u : VarType) (taken rest : List VarType) (ops : List Value) → k.is_init ≡ x → slice_get P.methods c ≡ Some k → IsSpecialCall P m named k → AllTwo (HasDeclared P ks) k.parameters args → Has P f.method m ks u (Ref p) → slice_get s.objects p ≡ Some o → kind_of P o ≡ Some kind → AllTwo (HasItem P f.method m ks) rest ops
          → IsChecked (if x then init_check P f.method m b (types f.method) f.pc t named u taken rest else super_check P f.method m b (types f.method) f.pc t named k u taken rest) K → Fit (Call c (Ref p ∷ args) ops)
      either true k args p o kind u taken rest ops e ek call a hv eo ekind h c3 = init_fits named c k er ek call e args p u taken rest ops a hv h c3
      either false k args p o kind u taken rest ops e ek call a hv eo ekind h c3 = super_fits named c k er ek call e args p o kind u taken rest ops a hv eo ekind h c3
