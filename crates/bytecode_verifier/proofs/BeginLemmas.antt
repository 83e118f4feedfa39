-- The first frame of a method by the names of classes is the one that typing gives.
use Rattle.std.proofs.Common.{◌≡◌, ◌↔◌, ℕ, zero, suc, Bool, true, false, not, ◌&&◌, ◌||◌, List, [], ◌∷◌, ◌++◌, map, Option, Some, None, refl, sym, ap, ap₂, ◌∙◌, subst}
use Rattle.std.specs.Prelude.{if◌then◌else◌, ◌==◌, is_some, codes, replicate}
use Rattle.std.specs.Option.{option_map, option_map_or}
use Rattle.std.specs.List.{list_all, list_any, filter_map, cons_option, AllByRecursion}
use Rattle.std.proofs.Math.Dec.{leb-zero}
use Rattle.std.proofs.Math.Bool.{or-false}
use Rattle.std.proofs.lemmas.Bool.{false≢true, eqb-true, cond-true, cond-false, and_parts}
use Rattle.std.proofs.lemmas.List.{map-append}
use Rattle.std.proofs.lemmas.List.Folds.{list_all-append, list_any-append}
use Rattle.lists.specs.Lists.{onto}
use Rattle.class_pool.specs.declared.class.Code.{Code}
use Rattle.class_pool.specs.declared.class.Member.{Member}
use Rattle.class_pool.specs.declared.class.ClassFile.{ClassFile}
use Rattle.descriptors.specs.declared.descriptor.Element.{Element}
use Rattle.descriptors.specs.declared.descriptor.Element.TheVariants as elements
use Rattle.descriptors.specs.declared.descriptor.FieldType.{FieldType}
use Rattle.descriptors.specs.declared.descriptor.MethodType.{MethodType}
use Rattle.descriptors.specs.Descriptors.{letter_of, behind_letter, type_units, IsType, IsElement, IsFieldDescriptor}
use Rattle.descriptors.specs.Names.{is_class_name}
use Rattle.descriptors.specs.Parsing as descriptors
use Rattle.descriptors.specs.Parsing.{field_in}
use Rattle.class_lookup.specs.Parts.{same_text, name_of, signature_of, is_static, is_init}
use Rattle.class_pool.specs.Grammar.{text_at}
use Rattle.class_lookup.specs.Hierarchy.{find_class}
use Rattle.bytecode_model.specs.Types.{IntType, LongType, Kind, OfClass, OfNumbers, Declared, Numeric, Reference}
use Rattle.bytecode_model.specs.Program.{Method}
use Rattle.bytecode_model.specs.Slots.{spread, padded}
use Rattle.bytecode_typing.specs.Types as typing
use Rattle.bytecode_typing.specs.Types.{is_long_type}
use Rattle.bytecode_typing.specs.Checks.{reference_or_top}
use Rattle.bytecode_typing.specs.Walk as walk
use Rattle.bytecode_typing.specs.Walk.{first_types}
use Rattle.frame_types.specs.declared.types.VarType.{VarType}
use Rattle.frame_types.specs.declared.types.VarType.TheVariants.{Top, Integer, UninitializedThis, Object, Long}
use Rattle.frame_types.specs.declared.types.TypeFrame.{TypeFrame}
use Rattle.frame_types.specs.Types.{is_long, is_this, names_new}
use Rattle.frame_types.specs.Frames.{frame_of}
use Rattle.frame_types.specs.Locals as locals
use Rattle.frame_types.specs.Locals.{types_of, first_locals}
use Rattle.bytecode_verifier.specs.Named.{type_by, frame_by}
use Rattle.bytecode_verifier.proofs.SteppedLemmas.{spread_by, padded_by}
use Rattle.program_tables.specs.Kinds.{type_named, class_in_element, class_in_type, array_code, arrays_of, arrays_of_numbers, kind_by, kind_of_type, number_declared, reference_declared, declared_by, declared_of}
use Rattle.program_tables.specs.Resolved.{method_in, body_in}
use Rattle.program_tables.specs.Unresolved.{is_there, are_there}
use Rattle.program_tables.specs.Unsupported.{is_float, is_double}

abbrev pub ReadFields : Type 0
ReadFields = (units : List ℕ) (t : FieldType) → (field_in units ≡ Some t) ↔ IsFieldDescriptor units t

-- a parameter's type is one that is supported, and its class is there
pub record TypeFits (cs : List ClassFile) (t : FieldType) : Type 0 where
  pub type : IsType t
  pub no_float : is_float t.element ≡ false
  pub no_double : is_double t.element ≡ false
  pub there : are_there cs (class_in_type t) ≡ true

-- the method's class is found by its name under this number, and its parameters fit
pub record IsPlaced (cs : List ClassFile) (owner : ℕ) (c : ClassFile) (m : Member) : Type 0 where
  pub found : find_class cs (name_of c) ≡ Some owner
  pub named : is_class_name (name_of c) ≡ true
  pub object : same_text (name_of c) (codes "java/lang/Object") ≡ (owner == 0)
  pub type : MethodType
  pub read : descriptors.method_in (text_at c.pool m.descriptor) ≡ Some type
  pub parameters : AllByRecursion (TypeFits cs) type.parameters

-- its first frame by names is that of typing
pub record HasFirst (cs : List ClassFile) (owner : ℕ) (c : ClassFile) (m : Member) (k : Code) : Type 0 where
  pub locals : List VarType
  pub locals_are : first_locals c m ≡ Some locals
  pub types : map (type_by cs) locals ≡ walk.this_types (method_in cs owner c m) ++ map typing.type_of (method_in cs owner c m).parameters
  pub same : option_map (frame_by cs) (frame_of k locals []) ≡ first_types (method_in cs owner c m) (body_in cs c k)

-- ---- kinds

-- the descriptor of an array is the name of no class
array_no_class : (n : ℕ) (units : List ℕ) → (n == 0) ≡ false → is_class_name (replicate n 91 ++ units) ≡ false
array_no_class zero units h = absurd (false≢true (sym h))
array_no_class (suc n) units h = refl

array_named : ReadFields → (t : FieldType) → IsType t → (t.dimensions == 0) ≡ false → type_named (type_units t) ≡ Some t
array_named read t right h =
    cond-false (is_class_name (type_units t)) (Some (record { dimensions = 0; element = elements.Class (type_units t) })) (field_in (type_units t)) (array_no_class t.dimensions (letter_of t.element ∷ behind_letter t.element) h)
    ∙ (read (type_units t) t).1 (right, refl)

class_named : (cs : List ClassFile) (name : List ℕ) (c : ℕ) → is_class_name name ≡ true → find_class cs name ≡ Some c → onto (type_named name) (kind_of_type cs) ≡ Some (OfClass c)
class_named cs name c right found =
    ap (λ o. onto o (kind_of_type cs)) (cond-true (is_class_name name) (Some (record { dimensions = 0; element = elements.Class name })) (field_in name) right)
    ∙ ap (option_map (λ c. OfClass c)) found

found_case : (o : Option ℕ) → is_some o ≡ true → (c : ℕ) × (o ≡ Some c)
found_case None h = absurd (false≢true h)
found_case (Some c) h = (c, refl)

class_found : (cs : List ClassFile) (name : List ℕ) → are_there cs (name ∷ []) ≡ true → (c : ℕ) × (find_class cs name ≡ Some c)
class_found cs name h = found_case (find_class cs name) (and_parts (is_there cs name) true h).0

array_there : (n code : ℕ) → (n == 0) ≡ false → (k : Kind) × (arrays_of_numbers n code ≡ Some k)
array_there zero code h = absurd (false≢true (sym h))
array_there (suc n) code h = (arrays_of n (OfNumbers code), refl)

kind_there : (cs : List ClassFile) (n : ℕ) (e : Element) → are_there cs (class_in_element e) ≡ true → (n == 0) ≡ false → (k : Kind) × (kind_by cs n e ≡ Some k)
kind_there cs n (elements.Class name) t h = let c = class_found cs name t in (arrays_of n (OfClass c.0), ap (option_map (λ c. arrays_of n (OfClass c))) c.1)
kind_there cs n elements.Byte t h = array_there n (array_code elements.Byte) h
kind_there cs n elements.Char t h = array_there n (array_code elements.Char) h
kind_there cs n elements.Double t h = array_there n (array_code elements.Double) h
kind_there cs n elements.Float t h = array_there n (array_code elements.Float) h
kind_there cs n elements.Int t h = array_there n (array_code elements.Int) h
kind_there cs n elements.Long t h = array_there n (array_code elements.Long) h
kind_there cs n elements.Short t h = array_there n (array_code elements.Short) h
kind_there cs n elements.Boolean t h = array_there n (array_code elements.Boolean) h

declared_array : (cs : List ClassFile) (t : FieldType) (e : Element) → (t.dimensions == 0) ≡ false → declared_by cs t e ≡ reference_declared cs t
declared_array cs t (elements.Class name) h = refl
declared_array cs t elements.Byte h = cond-false (t.dimensions == 0) (number_declared elements.Byte) (reference_declared cs t) h
declared_array cs t elements.Char h = cond-false (t.dimensions == 0) (number_declared elements.Char) (reference_declared cs t) h
declared_array cs t elements.Double h = cond-false (t.dimensions == 0) (number_declared elements.Double) (reference_declared cs t) h
declared_array cs t elements.Float h = cond-false (t.dimensions == 0) (number_declared elements.Float) (reference_declared cs t) h
declared_array cs t elements.Int h = cond-false (t.dimensions == 0) (number_declared elements.Int) (reference_declared cs t) h
declared_array cs t elements.Long h = cond-false (t.dimensions == 0) (number_declared elements.Long) (reference_declared cs t) h
declared_array cs t elements.Short h = cond-false (t.dimensions == 0) (number_declared elements.Short) (reference_declared cs t) h
declared_array cs t elements.Boolean h = cond-false (t.dimensions == 0) (number_declared elements.Boolean) (reference_declared cs t) h

-- ---- a parameter

record IsTyped (cs : List ClassFile) (t : FieldType) : Type 0 where
  pub seen : VarType
  pub declared : Declared
  pub seen_is : locals.type_of t ≡ Some seen
  pub declared_is : declared_of cs t ≡ Some declared
  pub same : type_by cs seen ≡ typing.type_of declared
  pub not_this : is_this seen ≡ false
  pub no_new : (code : List ℕ) → names_new code seen ≡ true

abbrev flat : Element → FieldType
flat e = record { dimensions = 0; element = e }

int_typed : (cs : List ClassFile) (e : Element) → locals.type_of (flat e) ≡ Some Integer → declared_of cs (flat e) ≡ Some (Numeric IntType) → IsTyped cs (flat e)
int_typed cs e s d = record { seen = Integer; declared = Numeric IntType; seen_is = s; declared_is = d; same = refl; not_this = refl; no_new = λ code. refl }

class_typed : (cs : List ClassFile) (name : List ℕ) → is_class_name name ≡ true → are_there cs (name ∷ []) ≡ true → IsTyped cs (flat (elements.Class name))
class_typed cs name right there =
    let c = class_found cs name there in
    record {
      seen = Object name;
      declared = Reference (OfClass c.0);
      seen_is = refl;
      declared_is = ap (λ o. option_map Reference (option_map (λ c. OfClass c) o)) c.1;
      same = ap reference_or_top (class_named cs name c.0 right c.1);
      not_this = refl;
      no_new = λ code. refl;
    }

flat_typed : (cs : List ClassFile) (e : Element) → IsElement e → is_float e ≡ false → is_double e ≡ false → are_there cs (class_in_element e) ≡ true → IsTyped cs (flat e)
flat_typed cs (elements.Class name) right f d there = class_typed cs name right there
flat_typed cs elements.Byte right f d there = int_typed cs elements.Byte refl refl
flat_typed cs elements.Char right f d there = int_typed cs elements.Char refl refl
flat_typed cs elements.Double right f d there = absurd (false≢true (sym d))
flat_typed cs elements.Float right f d there = absurd (false≢true (sym f))
flat_typed cs elements.Int right f d there = int_typed cs elements.Int refl refl
flat_typed cs elements.Long right f d there =
    record { seen = Long; declared = Numeric LongType; seen_is = refl; declared_is = refl; same = refl; not_this = refl; no_new = λ code. refl }
flat_typed cs elements.Short right f d there = int_typed cs elements.Short refl refl
flat_typed cs elements.Boolean right f d there = int_typed cs elements.Boolean refl refl

array_typed : ReadFields → (cs : List ClassFile) (t : FieldType) → TypeFits cs t → (t.dimensions == 0) ≡ false → IsTyped cs t
array_typed read cs t fits h =
    let k = kind_there cs t.dimensions t.element fits.there h in
    record {
      seen = Object (type_units t);
      declared = Reference k.0;
      seen_is = cond-false (t.dimensions == 0) (locals.element_type t.element) (Some (Object (type_units t))) h;
      declared_is = declared_array cs t t.element h ∙ ap (option_map Reference) k.1;
      same = ap (λ o. reference_or_top (onto o (kind_of_type cs))) (array_named read t fits.type h) ∙ ap reference_or_top k.1;
      not_this = refl;
      no_new = λ code. refl;
    }

typed_by : ReadFields → (cs : List ClassFile) (t : FieldType) → TypeFits cs t → (b : Bool) → (t.dimensions == 0) ≡ b → IsTyped cs t
typed_by read cs t fits true h =
    subst (λ (n : ℕ). IsTyped cs (record { dimensions = n; element = t.element })) (sym (eqb-true t.dimensions 0 h)) (flat_typed cs t.element fits.type.1 fits.no_float fits.no_double fits.there)
typed_by read cs t fits false h = array_typed read cs t fits h

-- ---- all parameters

record AreTyped (cs : List ClassFile) (ts : List FieldType) : Type 0 where
  pub seen : List VarType
  pub seen_are : types_of ts ≡ Some seen
  pub same : map (type_by cs) seen ≡ map typing.type_of (filter_map (declared_of cs) ts)
  pub not_this : list_any is_this seen ≡ false
  pub no_new : (code : List ℕ) → list_all (names_new code) seen ≡ true

all_typed : ReadFields → (cs : List ClassFile) (ts : List FieldType) → AllByRecursion (TypeFits cs) ts → AreTyped cs ts
all_typed read cs [] a = record { seen = []; seen_are = refl; same = refl; not_this = refl; no_new = λ code. refl }
all_typed read cs (t ∷ ts) a =
    let x = typed_by read cs t a.0 (t.dimensions == 0) refl in
    let xs = all_typed read cs ts a.1 in
    record {
      seen = x.seen ∷ xs.seen;
      seen_are = ap (λ o. onto o (λ first. onto (types_of ts) (λ others. Some (first ∷ others)))) x.seen_is ∙ ap (λ o. onto o (λ others. Some (x.seen ∷ others))) xs.seen_are;
      same = ap₂ (λ (y : typing.VarType) (ys : List typing.VarType). y ∷ ys) x.same xs.same ∙ sym (ap (λ o. map typing.type_of (cons_option o (filter_map (declared_of cs) ts))) x.declared_is);
      not_this = ap₂ (λ (b c : Bool). b || c) x.not_this xs.not_this;
      no_new = λ code. ap₂ (λ (b c : Bool). b && c) (x.no_new code) (xs.no_new code);
    }

-- ---- `this`

module _ (cs : List ClassFile) (owner : ℕ) (c : ClassFile) (m : Member) (p : IsPlaced cs owner c m) where
  abbrev by_name : Bool
  by_name = not (same_text (name_of c) (codes "java/lang/Object"))

  begins_same : locals.begins_uninitialized c m ≡ (is_init (signature_of c m) && not (owner == 0))
  begins_same = ap (λ (b : Bool). is_init (signature_of c m) && not b) p.object

  begun_case : (b : Bool) → type_by cs (if b then UninitializedThis else Object (name_of c)) ≡ (if b then typing.UninitializedThis else typing.ReferenceTo (OfClass owner))
  begun_case true = refl
  begun_case false = ap reference_or_top (class_named cs (name_of c) owner p.named p.found)

  this_case : (b : Bool) (v : VarType) (w : typing.VarType) → type_by cs v ≡ w → map (type_by cs) (if b then [] else v ∷ []) ≡ (if not b then w ∷ [] else [])
  this_case true v w e = refl
  this_case false v w e = ap (λ (x : typing.VarType). x ∷ []) e

  abbrev method : Method
  method = method_in cs owner c m

  this_same : map (type_by cs) (locals.this_types c m) ≡ walk.this_types method
  this_same =
      let w : Bool → typing.VarType = λ b. if b then typing.UninitializedThis else typing.ReferenceTo (OfClass owner) in
      this_case (is_static m) (locals.this_type c m) (w (is_init (signature_of c m) && not (owner == 0))) (begun_case (locals.begins_uninitialized c m) ∙ ap w begins_same)

  begun_flag : (b : Bool) → (is_this (if b then UninitializedThis else Object (name_of c)) || false) ≡ b
  begun_flag true = refl
  begun_flag false = refl

  flag_case : (b begins : Bool) (v : VarType) → (is_this v || false) ≡ begins → list_any is_this (if b then [] else v ∷ []) ≡ (not b && begins)
  flag_case true begins v e = refl
  flag_case false begins v e = e

  this_flag : list_any is_this (locals.this_types c m) ≡ walk.begins_uninitialized method
  this_flag = flag_case (is_static m) (is_init (signature_of c m) && not (owner == 0)) (locals.this_type c m) (begun_flag (locals.begins_uninitialized c m) ∙ begins_same)

  begun_new : (code : List ℕ) (b : Bool) → (names_new code (if b then UninitializedThis else Object (name_of c)) && true) ≡ true
  begun_new code true = refl
  begun_new code false = refl

  new_case : (code : List ℕ) (b : Bool) (v : VarType) → (names_new code v && true) ≡ true → list_all (names_new code) (if b then [] else v ∷ []) ≡ true
  new_case code true v e = refl
  new_case code false v e = e

  this_new : (code : List ℕ) → list_all (names_new code) (locals.this_types c m) ≡ true
  this_new code = new_case code (is_static m) (locals.this_type c m) (begun_new code (locals.begins_uninitialized c m))

  -- ---- the frame

  framed : (flag : Bool) (o : Option (List VarType)) → option_map (frame_by cs) (onto o (λ all. Some (record { locals = all; stack = []; flag = flag })))
      ≡ onto (option_map (map (type_by cs)) o) (λ ls. let f : Option typing.TypeFrame = Some (record { locals = ls; stack = []; flag = flag }) in f)
  framed flag None = refl
  framed flag (Some all) = refl

  frame_there : (k : Code) (ts : List VarType) → list_all (names_new k.code) ts ≡ true
      → frame_of k ts [] ≡ onto (padded Top k.max_locals (spread is_long Top ts)) (λ all. Some (record { locals = all; stack = []; flag = list_any is_this ts }))
  frame_there k ts news =
      let f = onto (padded Top k.max_locals (spread is_long Top ts)) (λ all. let g : Option TypeFrame = Some (record { locals = all; stack = []; flag = list_any is_this ts }) in g) in
      ap₂ (λ (a b : Bool). if a && (b && true) then f else None) (leb-zero k.max_stack) news

  module _ (read : ReadFields) (k : Code) where
    abbrev parameters : AreTyped cs p.type.parameters
    parameters = all_typed read cs p.type.parameters p.parameters

    abbrev all : List VarType
    all = locals.this_types c m ++ parameters.seen

    all_are : first_locals c m ≡ Some all
    unfolding first_locals
    all_are =
        ap (λ o. onto o (λ d. onto (types_of d.parameters) (λ ts. Some (locals.this_types c m ++ ts)))) p.read
        ∙ ap (λ o. onto o (λ ts. Some (locals.this_types c m ++ ts))) parameters.seen_are

    all_new : list_all (names_new k.code) all ≡ true
    all_new = list_all-append (names_new k.code) (locals.this_types c m) parameters.seen ∙ ap₂ (λ (a b : Bool). a && b) (this_new k.code) (parameters.no_new k.code)

    all_flag : list_any is_this all ≡ walk.begins_uninitialized method
    all_flag =
        list_any-append is_this (locals.this_types c m) parameters.seen ∙ (ap₂ (λ (a b : Bool). a || b) this_flag parameters.not_this ∙ or-false (walk.begins_uninitialized method))

    declared_are : method.parameters ≡ filter_map (declared_of cs) p.type.parameters
    declared_are = ap (λ o. option_map_or (λ (t : MethodType). filter_map (declared_of cs) t.parameters) o []) p.read

    all_same : map (type_by cs) all ≡ walk.this_types method ++ map typing.type_of method.parameters
    all_same =
        map-append (type_by cs) (locals.this_types c m) parameters.seen
        ∙ ap₂ (λ (a b : List typing.VarType). a ++ b) this_same (parameters.same ∙ ap (map typing.type_of) (sym declared_are))

    padded_same : option_map (map (type_by cs)) (padded Top k.max_locals (spread is_long Top all)) ≡ padded typing.Top k.max_locals (spread is_long_type typing.Top (walk.this_types method ++ map typing.type_of method.parameters))
    padded_same =
        sym (padded_by cs k.max_locals (spread is_long Top all)) ∙ ap (padded typing.Top k.max_locals) (spread_by cs all ∙ ap (spread is_long_type typing.Top) all_same)

    frame_same : option_map (frame_by cs) (frame_of k all []) ≡ first_types method (body_in cs c k)
    frame_same =
        ap (option_map (frame_by cs)) (frame_there k all all_new)
        ∙ (framed (list_any is_this all) (padded Top k.max_locals (spread is_long Top all))
        ∙ ap₂ (λ (o : Option (List typing.VarType)) (flag : Bool). onto o (λ ls. let f : Option typing.TypeFrame = Some (record { locals = ls; stack = []; flag = flag }) in f)) padded_same all_flag)

pub has_first : ReadFields → (cs : List ClassFile) (owner : ℕ) (c : ClassFile) (m : Member) (k : Code) → IsPlaced cs owner c m → HasFirst cs owner c m k
has_first read cs owner c m k p = record { locals = all cs owner c m p read k; locals_are = all_are cs owner c m p read k; types = all_same cs owner c m p read k; same = frame_same cs owner c m p read k }
