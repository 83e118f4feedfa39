-- All that the image says of the program.
use Rattle.std.proofs.Common.{◌≡◌, ℕ, ◌≤◌, true, false, List, map, length, length-append, arith}
use Rattle.std.specs.Prelude.{slice_get, is_some, IfSome}
use Rattle.std.specs.List.{flat_map, enumerate_from}
use Rattle.std.specs.Int.{div_ceil}
use Rattle.std.proofs.lemmas.List.FromFn.{length-map-range_with_len}
use Rattle.class_pool.specs.declared.class.ClassFile.{ClassFile}
use Rattle.bytecode_model.specs.Program.{Method, body_of}
use Rattle.lists.proofs.Lemmas.{onto_some}
use Rattle.image_facts.specs.Says.{SaysType}
use Rattle.std.proofs.lemmas.Bool.{false_from_ne_true}
use Rattle.class_lookup.specs.Hierarchy.{is_interface, is_concrete}
use Rattle.program_laws.proofs.Facts.{interface_not_concrete}
use Rattle.program_tables.specs.Core.{raised_classes}
use Rattle.program_tables.specs.Numbers.{types_of, strings_of}
use Rattle.program_tables.specs.Resolving.{IsResolved}
use Rattle.program_tables.specs.Resolved.{raised_object, string_objects, objects_at_start, resolved_methods, resolved}
use Rattle.image_words.specs.Regions.{supertype_word, supertype_words, places_of}
use Rattle.image_words.specs.Laws.{TypesLie, FrontLaw}
use Rattle.image_laws.specs.Laws.{SupertypesAreSaid, ComponentsAreNumbered, CodesAreSaid, MethodsAreSaid, MethodsAreApart, FirstObjectsLaw, OperandsLaw, InstancesAreSmall, ImagesSayPrograms}
use Rattle.image_laws.proofs.Said.{some_get}
use Rattle.image_laws.proofs.Codes.{if_some}
use Rattle.image_laws.proofs.Types.{class_numbered}

type_said : TypesLie → SupertypesAreSaid → ComponentsAreNumbered → InstancesAreSmall → (cs : List ClassFile) → IsResolved cs → length (types_of cs) ≤ 2048 → (t : ℕ) → IfSome (slice_get (types_of cs) t) (SaysType (resolved cs) (places_of cs) t)
type_said lie bits components small cs r few t =
    if_some (slice_get (types_of cs) t) (SaysType (resolved cs) (places_of cs) t) (λ k h. record {
      supertypes = supertype_words cs k;
      words = lie cs t k h;
      count = length-map-range_with_len (supertype_word cs k) 0 (div_ceil (length (types_of cs)) 32);
      size = small cs r few k;
      bits = bits cs k;
      component = components cs t k h;
    })

nine : (cs : List ClassFile) → 9 ≤ length (objects_at_start cs)
nine cs =
    let all = length-append (map (raised_object cs) raised_classes) (flat_map string_objects (enumerate_from 0 (strings_of cs))) in
    omega (arith, all)

methods_apart : MethodsAreApart → (cs : List ClassFile) (m n : ℕ) → is_some (body_of (resolved cs) m) ≡ true → is_some (body_of (resolved cs) n) ≡ true → (places_of cs).method m ≡ (places_of cs).method n → m ≡ n
methods_apart apart cs m n h k e =
    let b = some_get (body_of (resolved cs) m) h in
    let c = some_get (body_of (resolved cs) n) k in
    let x = onto_some (slice_get (resolved_methods cs) m) (λ (k : Method). k.body) b.0 b.1 in
    let y = onto_some (slice_get (resolved_methods cs) n) (λ (k : Method). k.body) c.0 c.1 in
    apart cs m n x.0 y.0 b.0 c.0 x.1 x.2 y.1 y.2 e

concrete : (cs : List ClassFile) → IsResolved cs → (c : ℕ) → is_concrete cs c ≡ true → is_interface cs c ≡ false
concrete cs r c h = false_from_ne_true (is_interface cs c) (λ i. interface_not_concrete cs r c i h)

pub says : FrontLaw → TypesLie → SupertypesAreSaid → ComponentsAreNumbered → InstancesAreSmall → CodesAreSaid → MethodsAreSaid → MethodsAreApart → FirstObjectsLaw → OperandsLaw → ImagesSayPrograms
says front lie bits components small codes methods apart first operands cs r limits catches tables =
    let f = front cs in
    let few = limits.types in
    record {
      codes = codes cs r;
      apart = methods_apart apart cs;
      first = first cs r;
      all = record {
        header = f.header;
        arrays = f.arrays;
        raise_list = f.raise_list;
        raise_objects = nine cs;
        methods = methods cs r catches tables;
        types = type_said lie bits components small cs r limits.types;
        few_types = omega (arith, few);
        class_numbers = class_numbered cs;
        concrete = concrete cs r;
        operands = operands cs r limits.words;
      };
    }
