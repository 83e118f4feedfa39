-- How many words instance fields take.
use Rattle.std.proofs.Common.{◌≡◌, ℕ, zero, suc, ◌+◌, ◌<◌, ◌≤◌, List, [], ◌∷◌, ◌++◌, Option, None, map, length, get_or, reverse, refl, sym, ap, ◌∙◌, arith}
use Rattle.std.specs.Prelude.{slice_get, sum_by}
use Rattle.std.specs.Option.{option_map_or, option_to_list}
use Rattle.std.specs.List.{filter, filter_map, flat_map, range_with_len}
use Rattle.std.proofs.lemmas.List.Sums.{sum-map}
use Rattle.std.proofs.lemmas.Option.{slice_get-get_or, slice_get_past}
use Rattle.class_pool.specs.declared.class.ClassFile.{ClassFile}
use Rattle.bytecode_model.specs.Types.{Declared}
use Rattle.lists.specs.Lists.{onto}
use Rattle.lists.specs.Numbers.{reached}
use Rattle.class_lookup.specs.Parts.{superclass_name}
use Rattle.class_lookup.specs.Hierarchy.{find_class, superclass, superclasses}
use Rattle.class_lookup.specs.Lookup.{Place}
use Rattle.image_facts.specs.Words.{declared_words}
use Rattle.program_tables.specs.Numbers.{is_instance_field, own_instance_fields}
use Rattle.program_tables.specs.Resolved.{declared_at, resolved}
use Rattle.image_builder.specs.declared.sums.Run.{Run}
use Rattle.image_words.specs.Outline.{AreInstances}

fields_case : (cs : List ClassFile) (c : ℕ) → slice_get cs c ≡ None → (n : ℕ) → flat_map (own_instance_fields cs) (reverse (reached (λ k. option_to_list (superclass cs k)) n c)) ≡ []
fields_case cs c h zero = refl
fields_case cs c h (suc n) =
    let none : superclass cs c ≡ None = ap (λ o. onto o (λ k. find_class cs (superclass_name k))) h in
    ap (λ (o : Option ℕ). flat_map (own_instance_fields cs) (reverse (c ∷ flat_map (reached (λ k. option_to_list (superclass cs k)) n) (option_to_list o)))) none
    ∙ ap (λ (o : Option ClassFile). filter (is_instance_field cs) (option_map_or (λ k. map (λ (i : ℕ). place c i) (range_with_len 0 (length k.fields))) o []) ++ []) h
  where
    place : ℕ → ℕ → Place
    place c i = (c, i)

-- what is no class has none
pub fields_past : (cs : List ClassFile) (c : ℕ) → length cs ≤ c → (resolved cs).fields c ≡ []
unfolding superclasses
fields_past cs c past = ap (filter_map (declared_at cs)) (fields_case cs c (slice_get_past cs c past) (length cs))

pub run_read : (cs : List ClassFile) (runs : List Run) (c : ℕ) (d : Run) → c < length runs → AreInstances cs runs → (get_or runs c d).end ≡ 1 + sum_by declared_words ((resolved cs).fields c)
run_read cs runs c d lt are =
    let fields = (resolved cs).fields c in
    (are.each c (get_or runs c d) (slice_get-get_or runs c d lt)).end ∙ ap (λ n. 1 + n) (sum-map declared_words fields)

pub run_none : (cs : List ClassFile) (runs : List Run) (c : ℕ) → length runs ≤ c → AreInstances cs runs → 1 ≡ 1 + sum_by declared_words ((resolved cs).fields c)
run_none cs runs c past are =
    let count = are.count in
    ap (λ (ds : List Declared). 1 + sum_by declared_words ds) (sym (fields_past cs c (omega (arith, past, count))))
