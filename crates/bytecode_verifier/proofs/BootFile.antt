-- What the class that is run says, and what its instructions name.
use Rattle.std.proofs.Common.{◌≡◌, ℕ, ◌+◌, ◌*◌, ◌^◌, ◌<◌, ◌≤◌, Bool, true, false, cond, List, [], ◌∷◌, ◌++◌, length, Option, Some, None, refl, ◌∙◌, ap, ap₂, arith, nat_lt, lit<, ltb-true}
use Rattle.std.specs.Prelude.{unwrap_or, option_map, codes}
use Rattle.std.specs.Option.{option_map_or}
use Rattle.std.specs.List.{flat_map, AllByRecursion}
use Rattle.std.proofs.lemmas.List.{length-append}
use Rattle.core_classes.proofs.BootSupport.{first_pair}
use Rattle.class_making.proofs.ListLemmas.{all_left}
use Rattle.core_classes.proofs.BootLaws.{boot_room}
use Rattle.class_pool.specs.declared.entry.Entry.{Entry}
use Rattle.class_pool.specs.declared.class.Body.TheVariants as bodies
use Rattle.class_pool.specs.declared.class.Member.{Member}
use Rattle.class_pool.specs.declared.class.ClassFile.{ClassFile}
use Rattle.class_pool.specs.Grammar.{entry_at, utf8_of, class_name_of, name_and_type_of, text_at}
use Rattle.class_making.specs.declared.item.Item.{Item}
use Rattle.class_making.specs.declared.item.Item.TheVariants.{Text, Class, Method}
use Rattle.class_making.specs.declared.plan.Piece.{Piece}
use Rattle.class_making.specs.Making.{expanded, index_from, index_of, entry_of, pool_of}
use Rattle.class_making.specs.Plans.{code_name, piece_bytes, piece_mentions, plan_mentions, items_of, class_of}
use Rattle.class_making.specs.Laws.{PlansHaveEntries, ItemsAreFew}
use Rattle.core_classes.specs.Core as core
use Rattle.core_classes.specs.Core.{object_name, string_name, no_arguments, call_pieces, main_pieces, boot_pieces, boot_method, boot_plan, boot}
use Rattle.core_classes.specs.Laws.{BootSaysPlan}
use Rattle.class_lookup.specs.Parts.{class_text, name_of, superclass_name}
use Rattle.lists.specs.Lists.{onto}
use Rattle.program_tables.specs.Core.{boot_name}
use Rattle.program_tables.specs.Instructions as named
use Rattle.program_tables.specs.Instructions.{Named, named_by, named_in}
use Rattle.bytecode_verifier.proofs.BootSteps.{index_instr}

abbrev pub call_item : List ℕ → Item
call_item name = Method name (codes "<clinit>") no_arguments

abbrev pub main_item : List ℕ → Item
main_item name = Method name (codes "main") (codes "([Ljava/lang/String;)V")

-- ---- room

index_from_fits : (o : Option ℕ) → index_from o < 2 ^ 16
index_from_fits None = lit< tt
index_from_fits (Some place) = chosen (nat_lt place 65534) refl
  where
    chosen : (b : Bool) → nat_lt place 65534 ≡ b → cond b (place + 1) 0 < 2 ^ 16
    chosen true e = let lt : place < 65534 = ltb-true place 65534 e in omega arith
    chosen false e = lit< tt

calls_count : (calls : List (List ℕ)) (rest : List Piece) → length (flat_map piece_mentions (flat_map call_pieces calls ++ rest)) ≡ length calls + length (flat_map piece_mentions rest)
unfolding call_pieces
calls_count [] rest = omega arith
calls_count (name ∷ calls) rest = omega (arith, calls_count calls rest)

mentions_room : (calls : List (List ℕ)) (main : List ℕ) → length calls ≤ 10000 → 6 * length (plan_mentions (boot_plan calls main)) ≤ 65534
unfolding boot_plan boot_method boot_pieces main_pieces
mentions_room calls main few =
    omega (arith, length-append (flat_map piece_mentions (flat_map call_pieces calls ++ main_pieces main)) [], calls_count calls (main_pieces main), few)

-- ---- what has entries

-- all that the calls mention, the array's class, and what the call of main mentions
pub record AreMentioned (P : Item → Type 0) (calls : List (List ℕ)) (main : List ℕ) : Type 0 where
  pub of_calls : AllByRecursion (λ name. P (call_item name)) calls
  pub of_array : P (Class string_name)
  pub of_main : P (main_item main)

pieces_mentioned : (P : Item → Type 0) (calls : List (List ℕ)) (main : List ℕ) → AllByRecursion P (flat_map piece_mentions (flat_map call_pieces calls ++ main_pieces main)) → AreMentioned P calls main
unfolding call_pieces main_pieces
pieces_mentioned P [] main h = record { of_calls = tt; of_array = h.0; of_main = h.1.0 }
pieces_mentioned P (name ∷ calls) main h = let r = pieces_mentioned P calls main h.1 in record { of_calls = (h.0, r.of_calls); of_array = r.of_array; of_main = r.of_main }

pub boot_mentions : (P : Item → Type 0) (calls : List (List ℕ)) (main : List ℕ) → AllByRecursion P (plan_mentions (boot_plan calls main)) → AreMentioned P calls main
unfolding boot_plan boot_method boot_pieces
boot_mentions P calls main h = pieces_mentioned P calls main (all_left P (flat_map piece_mentions (flat_map call_pieces calls ++ main_pieces main)) [] h.1.1.1.1.1)

-- ---- what is named

module _ (pool : List Entry) (items : List Item) where
  abbrev pub Stands : Item → Type 0
  Stands x = entry_at pool (index_of items x) ≡ Some (entry_of items x)

  text_said : (t : List ℕ) → Stands (Text t) → text_at pool (index_of items (Text t)) ≡ t
  text_said t h = ap (λ (e : Option Entry). unwrap_or (utf8_of e) []) h

  pub class_said : (t : List ℕ) → Stands (Class t) → Stands (Text t) → class_text pool (index_of items (Class t)) ≡ t
  class_said t h i = ap (λ (e : Option Entry). option_map_or (text_at pool) (class_name_of e) []) h ∙ text_said t i

  -- a method, by invokestatic
  pub names_method : (t s d : List ℕ) → AllByRecursion Stands (expanded (Method t s d))
      → onto (entry_at pool (index_of items (Method t s d))) (named_by pool 52 184 (index_of items (Method t s d))) ≡ Some (named.Method false (index_of items (Class t)) (record { name = s; descriptor = d }))
  names_method t s d h =
      let owner : ℕ = index_of items (Class t) in
      let all : List ℕ → List ℕ → Option Named = λ a b. Some (named.Method false owner (record { name = a; descriptor = b })) in
      ap (λ (e : Option Entry). onto e (named_by pool 52 184 (index_of items (Method t s d)))) h.0
      ∙ (ap (λ (e : Option Entry). option_map (named.Method false owner) (option_map (λ n. record { name = text_at pool n.0; descriptor = text_at pool n.1 }) (name_and_type_of e))) h.1.1.1.0
      ∙ ap₂ all (text_said s h.1.1.1.1.0) (text_said d h.1.1.1.1.1.0))

  -- a class, by anewarray
  pub names_class : (t : List ℕ) → Stands (Class t)
      → onto (entry_at pool (index_of items (Class t))) (named_by pool 52 189 (index_of items (Class t))) ≡ Some (named.Class (index_of items (Class t)))
  names_class t h = ap (λ (e : Option Entry). onto e (named_by pool 52 189 (index_of items (Class t)))) h

-- ---- the class file

abbrev pub boot_member : List Item → (calls : List (List ℕ)) (main : List ℕ) → Member
boot_member items calls main = record {
  flags = 0x000A;
  name = index_of items (Text (codes "boot"));
  descriptor = index_of items (Text no_arguments);
  attributes =
      record {
        name = index_of items (Text code_name);
        body = bodies.Code (record { max_stack = 1; max_locals = 0; code = flat_map (piece_bytes items) (boot_pieces calls main); handlers = []; attributes = [] });
      }
      ∷ [];
}

abbrev pub boot_file : List Item → (calls : List (List ℕ)) (main : List ℕ) → ClassFile
boot_file items calls main = record {
  minor = 0;
  major = 52;
  pool = pool_of items;
  flags = 0x0030;
  this_class = index_of items (Class (codes "jop/Boot"));
  super_class = index_of items (Class object_name);
  interfaces = [];
  fields = [];
  methods = boot_member items calls main ∷ [];
  attributes = [];
}

pub boot_is : (calls : List (List ℕ)) (main : List ℕ) → boot_file (items_of (boot_plan calls main)) calls main ≡ boot calls main
unfolding boot class_of boot_plan core.boot_method
boot_is calls main = refl

-- what it says, and what its pool has
pub record SaysBoot (items : List Item) (calls : List (List ℕ)) (main : List ℕ) : Type 0 where
  pub name : name_of (boot_file items calls main) ≡ boot_name
  pub superclass : superclass_name (boot_file items calls main) ≡ object_name
  pub method : text_at (pool_of items) (index_of items (Text (codes "boot"))) ≡ codes "boot"
  pub descriptor : text_at (pool_of items) (index_of items (Text no_arguments)) ≡ codes "()V"
  pub mentioned : AreMentioned (λ m. AllByRecursion (Stands (pool_of items) items) (expanded m)) calls main

pub says_boot : ItemsAreFew → PlansHaveEntries → BootSaysPlan → (calls : List (List ℕ)) (main : List ℕ) → length calls ≤ 10000 → SaysBoot (items_of (boot_plan calls main)) calls main
unfolding boot class_of boot_plan core.boot_method
says_boot few entries says calls main count =
    let s = says calls main count in
    let items : List Item = items_of (boot_plan calls main) in
    let m = first_pair (text_at (pool_of items) (index_of items (Text (codes "boot"))), text_at (pool_of items) (index_of items (Text no_arguments))) (codes "boot", codes "()V") [] [] s.methods in
    record {
      name = s.name;
      superclass = s.superclass;
      method = ap (λ (x : List ℕ × List ℕ). x.0) m;
      descriptor = ap (λ (x : List ℕ × List ℕ). x.1) m;
      mentioned = boot_mentions (λ m. AllByRecursion (Stands (pool_of items) items) (expanded m)) calls main (entries (boot_plan calls main) (boot_room few calls main count));
    }

module _ (items : List Item) (calls : List (List ℕ)) (main : List ℕ) (says : SaysBoot items calls main) where
  pub call_named : (name : List ℕ) → AllByRecursion (Stands (pool_of items) items) (expanded (call_item name))
      → named_in (boot_file items calls main) (index_instr 184 (index_of items (call_item name))) ≡ Some (named.Method false (index_of items (Class name)) (record { name = codes "<clinit>"; descriptor = codes "()V" }))
  call_named name h = names_method (pool_of items) items name (codes "<clinit>") (codes "()V") h

  pub main_named :
      named_in (boot_file items calls main) (index_instr 184 (index_of items (main_item main))) ≡ Some (named.Method false (index_of items (Class main)) (record { name = codes "main"; descriptor = codes "([Ljava/lang/String;)V" }))
  main_named = names_method (pool_of items) items main (codes "main") (codes "([Ljava/lang/String;)V") says.mentioned.of_main

  pub array_named : named_in (boot_file items calls main) (index_instr 189 (index_of items (Class string_name))) ≡ Some (named.Class (index_of items (Class string_name)))
  array_named = names_class (pool_of items) items string_name says.mentioned.of_array.0
  -- what holds of all instructions
