-- The places of items that lie one behind another.
use Rattle.std.proofs.Common.{◌≡◌, ℕ, zero, suc, ◌+◌, ◌<◌, ◌≤◌, List, [], Some, map, take, length, get_or, sum, refl, sym, ap, ◌∙◌, arith}
use Rattle.std.specs.Prelude.{sum_by}
use Rattle.std.proofs.lemmas.List.{length-replicate}
use Rattle.std.proofs.lemmas.Option.{slice_get-get_or}
use Rattle.class_pool.specs.declared.class.ClassFile.{ClassFile}
use Rattle.bytecode_model.specs.Sizes.{object_words}
use Rattle.bytecode_model.specs.Types.{Declared}
use Rattle.image_facts.specs.Places.{objects_place, image_words, static_place}
use Rattle.image_facts.specs.Says.{field_place}
use Rattle.image_facts.specs.Words.{declared_words}
use Rattle.program_tables.specs.Resolved.{resolved}
use Rattle.image_words.specs.Layout.{front_size, methods_size, middle_size, methods_place, outline_of}
use Rattle.image_words.specs.Outline.{AreInstances}
use Rattle.image_words.specs.Regions.{first_place}
use Rattle.image_builder.specs.declared.sums.Run.{Run}
use Rattle.image_builder.specs.Runs.{IsRun}
use Rattle.image_builder.proofs.RunLemmas.{run_place, run_end}
use Rattle.image_words.proofs.FieldLemmas.{fields_past}

-- the objects lie behind the methods
pub objects_begin : (cs : List ClassFile) → objects_place (resolved cs) (outline_of cs) ≡ methods_place cs + methods_size cs
objects_begin cs =
    let front = length-replicate {A = ℕ} front_size 0 in
    let middle = length-replicate {A = ℕ} (middle_size cs) 0 in
    omega (arith, front, middle)

pub object_at : (cs : List ClassFile) (p r : ℕ) → r ≡ methods_place cs + methods_size cs + sum_by (object_words (resolved cs)) (take p (resolved cs).first_objects) → r ≡ first_place cs (outline_of cs) p
object_at cs p r h = h ∙ ap (λ n. n + sum_by (object_words (resolved cs)) (take p (resolved cs).first_objects)) (sym (objects_begin cs))

pub words_end : (cs : List ClassFile) (run : Run) → IsRun (methods_place cs + methods_size cs) (map (object_words (resolved cs)) (resolved cs).first_objects) run → run.end ≡ image_words (resolved cs) (outline_of cs)
words_end cs run is =
    let objects = (resolved cs).first_objects in
    run_end (object_words (resolved cs)) objects (methods_place cs + methods_size cs) run is ∙ ap (λ n. n + sum_by (object_words (resolved cs)) objects) (sym (objects_begin cs))

pub static_at : (cs : List ClassFile) (i r : ℕ) → r ≡ front_size + sum_by declared_words (take i (resolved cs).statics) → r ≡ static_place (resolved cs) (outline_of cs) i
static_at cs i r h = h ∙ ap (λ n. n + sum_by declared_words (take i (resolved cs).statics)) (sym (length-replicate {A = ℕ} front_size 0))

pub field_at : (cs : List ClassFile) (runs : List Run) (c i : ℕ) (run : Run) (r : ℕ) → c < length runs → run ≡ get_or runs c run → AreInstances cs runs → ((start : ℕ) (sizes : List ℕ) → IsRun start sizes run → r ≡ start + sum (take i sizes)) → r ≡ field_place (resolved cs) c i
field_at cs runs c i run r lt is are at = run_place declared_words ((resolved cs).fields c) 1 run i r (are.each c run (slice_get-get_or runs c run lt ∙ ap Some (sym is))) at

pub field_none : (cs : List ClassFile) (runs : List Run) (c i : ℕ) → length runs ≤ c → AreInstances cs runs → 1 ≡ field_place (resolved cs) c i
field_none cs runs c i past are =
    let count = are.count in
    sym (ap (λ (ds : List Declared). 1 + sum_by declared_words (take i ds)) (fields_past cs c (omega (arith, past, count))) ∙ ap (λ (ds : List Declared). 1 + sum_by declared_words ds) (nothing i))
  where
    nothing : (i : ℕ) → take i (let ds : List Declared = [] in ds) ≡ []
    nothing zero = refl
    nothing (suc i) = refl
