-- The objects that are there at the start of a lawful program are well formed.
use Rattle.std.proofs.Common.{◌≡◌, ℕ, zero, suc, List, [], ◌∷◌, Option, Some, None, refl, sym, ◌∙◌, subst, length, map, replicate}
use Rattle.std.specs.Prelude.{IfSome, slice_get}
use Rattle.std.specs.Option.{IsSomeAnd}
use Rattle.std.proofs.lemmas.List.{length-map}
use Rattle.bytecode_typing.proofs.Formed.{default_long}
use Rattle.bytecode_model.specs.declared.Value.{Value}
use Rattle.bytecode_model.specs.declared.Value.TheVariants.{Null, Unset}
use Rattle.bytecode_model.specs.Types.{NumberType, IntType, LongType, Kind, OfClass, OfNumbers, OfReferences, Declared, Numeric, Reference, is_long, zero_of, default, element_type}
use Rattle.bytecode_model.specs.State.{Object}
use Rattle.bytecode_model.specs.Program.{Program, kind_of}
use Rattle.bytecode_model.specs.WellFormed.{AreValues, AreAlike, first_parts, IsLength, IsObject, AreObjects}
use Rattle.bytecode_typing.specs.Tests.{AllTwo}
use Rattle.bytecode_typing.specs.Types.{is_long_type, type_of}
use Rattle.bytecode_typing.specs.Fits.{HasDeclared, HasEach, PartsFit, ObjectFits, numbers_of}
use Rattle.bytecode_typing.specs.Lawful.{Lawful}
use Rattle.bytecode_typing.proofs.Relations.{some_in}
use Rattle.bytecode_typing.proofs.Values.{declared_value, declared_long, declared_set}
use Rattle.program_tables.specs.Resolved.{resolved}
use Rattle.program_laws.specs.Laws.{ProgramLaw}
use Rattle.image_laws.specs.Laws.{FirstObjectsLaw}

module _ (P : Program) (ks : List ℕ) where
  not_unset : (d : Declared) (v : Value) → HasDeclared P ks d v → v ≡ Unset → ⊥
  not_unset d v h e = declared_set P ks d (subst (λ v. HasDeclared P ks d v) e h)

  alike_one : (d : Declared) (v : Value) → HasDeclared P ks d v → is_long v ≡ is_long (default d)
  alike_one d v h = declared_long P ks d v h ∙ sym (default_long d)

  fields_alike : (ds : List Declared) (vs : List Value) → AllTwo (HasDeclared P ks) ds vs → AreAlike vs (map default ds)
  fields_alike [] [] h = tt
  fields_alike [] (v ∷ vs) h = absurd h
  fields_alike (d ∷ ds) [] h = absurd h
  fields_alike (d ∷ ds) (v ∷ vs) h = (alike_one d v h.0, not_unset d v h.0, fields_alike ds vs h.1)

  each_alike : (d : Declared) (z : Value) (vs : List Value) → is_long z ≡ is_long_type (type_of d) → HasEach P ks d vs → AreAlike vs (replicate (length vs) z)
  each_alike d z [] e h = tt
  each_alike d z (v ∷ vs) e h = (declared_long P ks d v h.0 ∙ sym e, not_unset d v h.0, each_alike d z vs e h.1)

  field_values : (ds : List Declared) (vs : List Value) → AllTwo (HasDeclared P ks) ds vs → AreValues (length ks) vs
  field_values [] [] h = tt
  field_values [] (v ∷ vs) h = absurd h
  field_values (d ∷ ds) [] h = absurd h
  field_values (d ∷ ds) (v ∷ vs) h = (declared_value P ks d v h.0, field_values ds vs h.1)

  each_values : (d : Declared) (vs : List Value) → HasEach P ks d vs → AreValues (length ks) vs
  each_values d [] h = tt
  each_values d (v ∷ vs) h = (declared_value P ks d v h.0, each_values d vs h.1)

  zero_long : (t : NumberType) → is_long (zero_of t) ≡ is_long_type (type_of (Numeric t))
  zero_long IntType = refl
  zero_long LongType = refl

  parts_values : (k : Kind) (vs : List Value) → PartsFit P ks k vs → AreValues (length ks) vs
  parts_values (OfClass c) vs h = field_values (P.fields c) vs h.1
  parts_values (OfNumbers a) vs h = each_values (Numeric (element_type a)) vs h.1
  parts_values (OfReferences k) vs h = each_values (Reference k) vs h.1

  parts_shape : (k : Kind) (vs : List Value) → PartsFit P ks k vs → AreAlike vs (first_parts P k (length vs)) × IsLength k (length vs)
  parts_shape (OfClass c) vs h = (fields_alike (P.fields c) vs h.1, tt)
  parts_shape (OfNumbers a) vs h = (each_alike (Numeric (element_type a)) (zero_of (element_type a)) vs (zero_long (element_type a)) h.1, h.0)
  parts_shape (OfReferences k) vs h = (each_alike (Reference k) Null vs refl h.1, h.0)

  values : (o : Object) (q : Option Kind) → IsSomeAnd q (λ k. PartsFit P ks k o.parts) → AreValues (length ks) o.parts
  values o None g = absurd g
  values o (Some k) g = parts_values k o.parts g

  object_formed : (o : Object) → ObjectFits P ks o → IsObject P (length ks) o
  object_formed o h = record {
    values = values o (kind_of P o) h;
    shape = some_in (kind_of P o) _ _ h (λ k g. parts_shape k o.parts g);
  }

  objects_formed : (os : List Object) → ((p : ℕ) → IfSome (slice_get os p) (ObjectFits P ks)) → AreObjects P (length ks) os
  objects_formed [] h = tt
  objects_formed (o ∷ os) h = (object_formed o (h zero), objects_formed os (λ p. h (suc p)))

first_formed : (P : Program) → Lawful P → AreObjects P (length P.first_objects) P.first_objects
first_formed P law =
    subst (λ (n : ℕ). AreObjects P n P.first_objects) (length-map P.first_objects (λ (o : Object). o.kind)) (objects_formed P (numbers_of P.first_objects) P.first_objects law.first_objects)

pub first_objects : ProgramLaw → FirstObjectsLaw
first_objects law cs r = first_formed (resolved cs) (law cs r)
