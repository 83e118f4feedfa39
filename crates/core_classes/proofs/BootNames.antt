-- What the class that is run says, and what its instructions name.
use Rattle.std.proofs.Common.{◌≡◌, ℕ, ◌+◌, ◌*◌, ◌^◌, ◌<◌, ◌≤◌, Bool, true, false, cond, List, [], ◌∷◌, ◌++◌, length, Option, Some, None, refl, ◌∙◌, ap, ap₂, arith, nat_lt, lit<, ltb-true}
use Rattle.std.specs.Prelude.{unwrap_or, option_map}
use Rattle.std.specs.Option.{option_map_or}
use Rattle.std.specs.List.{flat_map, AllByRecursion}
use Rattle.std.proofs.lemmas.List.{length-append}
use Rattle.class_making.proofs.ListLemmas.{all_left}
use Rattle.class_pool.specs.declared.entry.Entry.{Entry}
use Rattle.class_pool.specs.Grammar.{entry_at, utf8_of, class_name_of, name_and_type_of, text_at}
use Rattle.class_making.specs.declared.item.Item.{Item}
use Rattle.class_making.specs.declared.item.Item.TheVariants.{Text, Class, Method}
use Rattle.class_making.specs.declared.plan.Piece.{Piece}
use Rattle.class_making.specs.Making.{expanded, index_from, index_of, entry_of}
use Rattle.class_making.specs.Plans.{piece_mentions, plan_mentions, items_of}
use Rattle.class_making.specs.Laws.{ItemsAreFew}
use Rattle.core_classes.specs.Core.{string_name, call_pieces, main_pieces, boot_pieces, boot_method, boot_plan}
use Rattle.class_lookup.specs.Parts.{class_text}
use Rattle.lists.specs.Lists.{onto}
use Rattle.program_tables.specs.Instructions as named
use Rattle.program_tables.specs.Instructions.{Named, named_by}
use Rattle.core_classes.proofs.BootWalk.{call_item, main_item}

-- ---- room

index_from_fits : (o : Option ℕ) → index_from o < 2 ^ 16
index_from_fits None = lit< tt
index_from_fits (Some place) = chosen (nat_lt place 65534) refl
  where
    chosen : (b : Bool) → nat_lt place 65534 ≡ b → cond b (place + 1) 0 < 2 ^ 16
    chosen true e = let lt : place < 65534 = ltb-true place 65534 e in omega arith
    chosen false e = lit< tt

calls_count : (calls : List (List ℕ)) (rest : List Piece) → length (flat_map piece_mentions (flat_map call_pieces calls ++ rest)) ≡ length calls + length (flat_map piece_mentions rest)
unfolding call_pieces
calls_count [] rest = omega arith
calls_count (name ∷ calls) rest = omega (arith, calls_count calls rest)

mentions_room : (calls : List (List ℕ)) (main : List ℕ) → length calls ≤ 10000 → 6 * length (plan_mentions (boot_plan calls main)) ≤ 65534
unfolding boot_plan boot_method boot_pieces main_pieces
mentions_room calls main few =
    omega (arith, length-append (flat_map piece_mentions (flat_map call_pieces calls ++ main_pieces main)) [], calls_count calls (main_pieces main), few)

pub boot_room : (few : ItemsAreFew) (calls : List (List ℕ)) (main : List ℕ) → length calls ≤ 10000 → length (items_of (boot_plan calls main)) ≤ 65534
boot_room few calls main count = omega (arith, few (boot_plan calls main), mentions_room calls main count)

-- ---- what has entries

-- all that the calls mention, the array's class, and what the call of main mentions
pub record AreMentioned (P : Item → Type 0) (calls : List (List ℕ)) (main : List ℕ) : Type 0 where
  pub of_calls : AllByRecursion (λ name. P (call_item name)) calls
  pub of_array : P (Class string_name)
  pub of_main : P (main_item main)

pieces_mentioned : (P : Item → Type 0) (calls : List (List ℕ)) (main : List ℕ) → AllByRecursion P (flat_map piece_mentions (flat_map call_pieces calls ++ main_pieces main)) → AreMentioned P calls main
unfolding call_pieces main_pieces
pieces_mentioned P [] main h = record { of_calls = tt; of_array = h.0; of_main = h.1.0 }
pieces_mentioned P (name ∷ calls) main h = let r = pieces_mentioned P calls main h.1 in record { of_calls = (h.0, r.of_calls); of_array = r.of_array; of_main = r.of_main }

pub boot_mentions : (P : Item → Type 0) (calls : List (List ℕ)) (main : List ℕ) → AllByRecursion P (plan_mentions (boot_plan calls main)) → AreMentioned P calls main
unfolding boot_plan boot_method boot_pieces
boot_mentions P calls main h = pieces_mentioned P calls main (all_left P (flat_map piece_mentions (flat_map call_pieces calls ++ main_pieces main)) [] h.1.1.1.1.1)

-- ---- what is named

module _ (pool : List Entry) (items : List Item) where
  abbrev pub Stands : Item → Type 0
  Stands x = entry_at pool (index_of items x) ≡ Some (entry_of items x)

  text_said : (t : List ℕ) → Stands (Text t) → text_at pool (index_of items (Text t)) ≡ t
  text_said t h = ap (λ (e : Option Entry). unwrap_or (utf8_of e) []) h

  pub class_said : (t : List ℕ) → Stands (Class t) → Stands (Text t) → class_text pool (index_of items (Class t)) ≡ t
  class_said t h i = ap (λ (e : Option Entry). option_map_or (text_at pool) (class_name_of e) []) h ∙ text_said t i

  -- a method, by invokestatic
  pub names_method : (t s d : List ℕ) → AllByRecursion Stands (expanded (Method t s d))
      → onto (entry_at pool (index_of items (Method t s d))) (named_by pool 52 184 (index_of items (Method t s d))) ≡ Some (named.Method false (index_of items (Class t)) (record { name = s; descriptor = d }))
  names_method t s d h =
      let owner : ℕ = index_of items (Class t) in
      let all : List ℕ → List ℕ → Option Named = λ a b. Some (named.Method false owner (record { name = a; descriptor = b })) in
      ap (λ (e : Option Entry). onto e (named_by pool 52 184 (index_of items (Method t s d)))) h.0
      ∙ (ap (λ (e : Option Entry). option_map (named.Method false owner) (option_map (λ n. record { name = text_at pool n.0; descriptor = text_at pool n.1 }) (name_and_type_of e))) h.1.1.1.0
      ∙ ap₂ all (text_said s h.1.1.1.1.0) (text_said d h.1.1.1.1.1.0))

  -- a class, by anewarray
  pub names_class : (t : List ℕ) → Stands (Class t)
      → onto (entry_at pool (index_of items (Class t))) (named_by pool 52 189 (index_of items (Class t))) ≡ Some (named.Class (index_of items (Class t)))
  names_class t h = ap (λ (e : Option Entry). onto e (named_by pool 52 189 (index_of items (Class t)))) h
