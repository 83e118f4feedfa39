-- The places of a program's methods, by number.
use Rattle.std.proofs.Common.{◌≡◌, ℕ, ◌<◌, List, length, get_or, Some, sym, ◌∙◌, ap, arith}
use Rattle.std.specs.Prelude.{slice_get}
use Rattle.std.proofs.lemmas.List.FromFn.{length-map-range_with_len, get_or-map-range_with_len}
use Rattle.std.proofs.lemmas.Option.{slice_get_within, get_or_from_slice_get}
use Rattle.lists.proofs.Lemmas.{onto_some}
use Rattle.class_pool.specs.declared.class.ClassFile.{ClassFile}
use Rattle.bytecode_model.specs.Program.{Method, Body, body_of}
use Rattle.program_tables.specs.Resolved.{resolved, resolved_methods}
use Rattle.image_words.specs.Layout.{method_place}
use Rattle.image_words.specs.Regions.{places_of}
use Rattle.jopizer.specs.Methods.Placed.{ArePlaced}
use Rattle.jopizer.proofs.MethodsLemmas.Filled.{place_is}

-- there are as many as methods
pub has_place : (cs : List ClassFile) (places : List ℕ) (m : ℕ) (b : Body) → ArePlaced cs places → body_of (resolved cs) m ≡ Some b → m < length places
has_place cs places m b placed h =
    let k = onto_some (slice_get (resolved_methods cs) m) (λ (x : Method). x.body) b h in
    let count = ap length placed ∙ length-map-range_with_len (places_of cs).method 0 (length (resolved_methods cs)) in
    omega (arith, count, slice_get_within (resolved_methods cs) m k.0 k.1)

pub place_at : (cs : List ClassFile) (places : List ℕ) (m place : ℕ) (b : Body) → ArePlaced cs places → body_of (resolved cs) m ≡ Some b → slice_get places m ≡ Some place → place ≡ method_place cs m
place_at cs places m place b placed h at =
    let k = onto_some (slice_get (resolved_methods cs) m) (λ (x : Method). x.body) b h in
    sym (get_or_from_slice_get places m place place at)
    ∙ ap (λ (xs : List ℕ). get_or xs m place) placed
    ∙ get_or-map-range_with_len (places_of cs).method 0 (length (resolved_methods cs)) m m place (slice_get_within (resolved_methods cs) m k.0 k.1) (omega arith)
    ∙ place_is cs m
