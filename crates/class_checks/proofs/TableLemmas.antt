-- What tables of a pool's entries have at an index.
use Rattle.std.proofs.Common.{◌≡◌, ℕ, suc, List, [], Option, Some, None, map, refl, sym, ap, ◌∙◌, ◌+◌, ◌≤◌, length, arith}
use Rattle.std.specs.Prelude.{slice_get, unwrap_or}
use Rattle.std.specs.Option.{option_map}
use Rattle.std.proofs.lemmas.Option.{slice_get-map, slice_get_past}
use Rattle.class_pool.specs.declared.entry.Entry.{Entry}
use Rattle.class_pool.specs.declared.entry.Entry.TheVariants as entries
use Rattle.class_pool.specs.Grammar.{utf8_of, text_at}
use Rattle.program_tables.specs.declared.refusal.Item.{Item}
use Rattle.descriptors.specs.Parsing.{field_in, method_in, type_from}
use Rattle.class_checks.specs.Descriptors.{of_entry, field_item, method_item}

of_case : (say : List ℕ → Option Item) → say [] ≡ None → (o : Option Entry) (x : Option Item) → option_map (of_entry say) o ≡ Some x → x ≡ say (unwrap_or (utf8_of o) [])
of_case say h None x e = absurd (cc)
of_case say h (Some (entries.Utf8 units)) x e = let f : Some (say units) ≡ Some x = e in cc
of_case say h (Some entry) x e = let f : Some None ≡ Some x = e in (let g : None ≡ x = cc in sym g ∙ sym h)

past_case : (say : List ℕ → Option Item) → say [] ≡ None → (o : Option Entry) → option_map (of_entry say) o ≡ None → None ≡ say (unwrap_or (utf8_of o) [])
past_case say h None e = sym h
past_case say h (Some entry) e = absurd (cc)

at_place : (index place : ℕ) → index ≡ place + 1 → index ≡ suc place
at_place index place e = omega (arith, e)

pub item_there : (say : List ℕ → Option Item) → say [] ≡ None → (items : List (Option Item)) (pool : List Entry) (place index : ℕ) (x : Option Item)
    → index ≡ place + 1 → items ≡ map (of_entry say) pool → slice_get items place ≡ Some x → x ≡ say (text_at pool index)
item_there say h items pool place index x n e is =
    of_case say h (slice_get pool place) x (sym (ap (λ (xs : List (Option Item)). slice_get xs place) e ∙ slice_get-map (of_entry say) pool place) ∙ is)
    ∙ ap (λ u. say (text_at pool u)) (sym (at_place index place n))

pub item_past : (say : List ℕ → Option Item) → say [] ≡ None → (items : List (Option Item)) (pool : List Entry) (place index : ℕ)
    → index ≡ place + 1 → items ≡ map (of_entry say) pool → length items ≤ place → None ≡ say (text_at pool index)
item_past say h items pool place index n e past =
    past_case say h (slice_get pool place) (sym (ap (λ (xs : List (Option Item)). slice_get xs place) e ∙ slice_get-map (of_entry say) pool place) ∙ slice_get_past items place past)
    ∙ ap (λ u. say (text_at pool u)) (sym (at_place index place n))

pub no_field_item : field_item [] ≡ None
unfolding field_in type_from
no_field_item = refl

pub no_method_item : method_item [] ≡ None
unfolding method_in
no_method_item = refl
