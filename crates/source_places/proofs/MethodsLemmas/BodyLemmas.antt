-- The code of a method by its number, in the class file and in the program that it makes.
use Rattle.std.proofs.Common.{◌≡◌, ℕ, ◌<◌, true, false, length, refl, sym, ◌∙◌, ap, Option, Some, None}
use Rattle.std.specs.Prelude.{List, slice_get, IsSome}
use Rattle.std.specs.Option.{option_map, option_map_or}
use Rattle.std.proofs.lemmas.Option.{slice_get_within}
use Rattle.lists.specs.Lists.{onto}
use Rattle.lists.proofs.Lemmas.{onto_some, map_some}
use Rattle.class_pool.specs.declared.class.ClassFile.{ClassFile}
use Rattle.class_pool.specs.declared.class.Code.{Code}
use Rattle.class_pool.specs.Found.{code_of}
use Rattle.class_lookup.specs.Lookup.{Place, method_at}
use Rattle.bytecode_model.specs.Program.{Method, Body, body_of}
use Rattle.program_tables.specs.Laws.{MethodsStandByNumber}
use Rattle.program_tables.specs.Numbers.{methods_by_number}
use Rattle.program_tables.specs.Resolved.{body_in, method_in, resolved_method, resolved_methods, resolved}
use Rattle.source_places.specs.Methods.Sources.{code_in}

-- a body is that of a code
pub record IsBodyOf (cs : List ClassFile) (m : ℕ) (b : Body) : Type 0 where
  pub numbered : m < length (methods_by_number cs)
  pub code : Code
  pub code_is : code_in cs m ≡ Some code
  pub same : b.code ≡ code.code

pub body_is : MethodsStandByNumber → (cs : List ClassFile) (m : ℕ) (b : Body) → body_of (resolved cs) m ≡ Some b → IsBodyOf cs m b
body_is by_number cs m b h =
    let r = onto_some (slice_get (resolved_methods cs) m) (λ (x : Method). x.body) b h in
    let p = onto_some (slice_get (methods_by_number cs) m) (resolved_method cs) r.0 (sym (by_number cs m) ∙ r.1) in
    let c = onto_some (slice_get cs p.0.0) (λ c. option_map (method_in cs p.0.0 c) (method_at cs p.0)) r.0 p.2 in
    let k = map_some (method_in cs p.0.0 c.0) (method_at cs p.0) r.0 c.2 in
    let body : option_map (body_in cs c.0) (code_of k.0) ≡ Some b = ap (λ (x : Method). x.body) k.2 ∙ r.2 in
    let code = map_some (body_in cs c.0) (code_of k.0) b body in
    record {
      numbered = slice_get_within (methods_by_number cs) m p.0 p.1;
      code = code.0;
      code_is = ap (λ (o : Option Place). option_map_or (λ q. onto (method_at cs q) code_of) o None) p.1 ∙ ap (λ o. onto o code_of) k.1 ∙ code.1;
      same = sym (ap (λ (x : Body). x.code) code.2);
    }

pub coded_is : MethodsStandByNumber → (cs : List ClassFile) (m : ℕ) → IsSome (body_of (resolved cs) m) → m < length (methods_by_number cs)
coded_is by_number cs m h = by (body_of (resolved cs) m) refl h
  where
    by : (o : Option Body) → body_of (resolved cs) m ≡ o → IsSome o → m < length (methods_by_number cs)
    by None e h = absurd (let f : false ≡ true = h in cc)
    by (Some b) e h = (body_is by_number cs m b e).numbered
