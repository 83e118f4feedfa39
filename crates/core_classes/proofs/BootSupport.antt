-- The class that is run, what it says, and that it is supported.
use Rattle.std.proofs.Common.{◌≡◌, ℕ, ◌≤◌, List, [], ◌∷◌, ◌++◌, length, false, Some, refl, sym, ◌∙◌, ap, ap₂}
use Rattle.std.specs.Prelude.{codes}
use Rattle.std.specs.List.{flat_map, AllByRecursion}
use Rattle.std.proofs.lemmas.List.{append-nil}
use Rattle.class_making.proofs.PoolLemmas.{index_fits}
use Rattle.class_pool.specs.declared.class.Body.TheVariants as bodies
use Rattle.class_pool.specs.declared.class.Member.{Member}
use Rattle.class_pool.specs.declared.class.ClassFile.{ClassFile}
use Rattle.opcodes.specs.declared.instruction.Instr.{Instr}
use Rattle.opcodes.specs.Row.{row_of}
use Rattle.class_making.specs.declared.item.Item.{Item}
use Rattle.class_making.specs.declared.item.Item.TheVariants.{Text, Class}
use Rattle.class_making.specs.Making.{expanded, index_of, pool_of}
use Rattle.class_making.specs.Plans.{code_name, piece_bytes, items_of, class_of}
use Rattle.class_making.specs.Laws.{PlansHaveEntries, ItemsAreFew}
use Rattle.core_classes.specs.Core as core
use Rattle.core_classes.specs.Core.{object_name, string_name, no_arguments, boot_pieces, boot_plan, boot}
use Rattle.core_classes.specs.Laws.{BootSaysPlan}
use Rattle.descriptors.specs.Parsing.{primitive_in, split_in, class_in, element_in, type_from, types_in, field_in, result_in, method_in}
use Rattle.class_lookup.specs.Parts.{name_of, superclass_name}
use Rattle.class_pool.specs.Grammar.{text_at}
use Rattle.program_tables.specs.declared.refusal.Item.{Item as Refused}
use Rattle.program_tables.specs.declared.refusal.Site.{Site}
use Rattle.program_tables.specs.declared.refusal.Site.TheVariants as sites
use Rattle.program_tables.specs.Core.{boot_name}
use Rattle.program_tables.specs.Instructions as named
use Rattle.program_tables.specs.Instructions.{Placed, named_in, instructions_of}
use Rattle.program_tables.specs.Unsupported.{items_of_types, types_in_method, items_of_named, items_at_instruction, items_at_method, sited, unsupported_in}
use Rattle.core_classes.specs.Linkage.{BootIsSupported}
use Rattle.core_classes.proofs.Lists.{all_along, nothing_of_all}
use Rattle.core_classes.proofs.BootWalk.{call_item, main_item, index_instr, HoldsOfMain, walk}
use Rattle.core_classes.proofs.BootNames.{boot_room, AreMentioned, boot_mentions, Stands, names_method, names_class}

-- ---- the class file

abbrev pub boot_member : List Item → (calls : List (List ℕ)) (main : List ℕ) → Member
boot_member items calls main = record {
  flags = 0x000A;
  name = index_of items (Text (codes "boot"));
  descriptor = index_of items (Text no_arguments);
  attributes =
      record {
        name = index_of items (Text code_name);
        body = bodies.Code (record { max_stack = 1; max_locals = 0; code = flat_map (piece_bytes items) (boot_pieces calls main); handlers = []; attributes = [] });
      }
      ∷ [];
}

abbrev pub boot_file : List Item → (calls : List (List ℕ)) (main : List ℕ) → ClassFile
boot_file items calls main = record {
  minor = 0;
  major = 52;
  pool = pool_of items;
  flags = 0x0030;
  this_class = index_of items (Class (codes "jop/Boot"));
  super_class = index_of items (Class object_name);
  interfaces = [];
  fields = [];
  methods = boot_member items calls main ∷ [];
  attributes = [];
}

pub boot_is : (calls : List (List ℕ)) (main : List ℕ) → boot_file (items_of (boot_plan calls main)) calls main ≡ boot calls main
unfolding boot class_of boot_plan core.boot_method
boot_is calls main = refl

-- what it says, and what its pool has
pub record SaysBoot (items : List Item) (calls : List (List ℕ)) (main : List ℕ) : Type 0 where
  pub name : name_of (boot_file items calls main) ≡ boot_name
  pub superclass : superclass_name (boot_file items calls main) ≡ object_name
  pub method : text_at (pool_of items) (index_of items (Text (codes "boot"))) ≡ codes "boot"
  pub descriptor : text_at (pool_of items) (index_of items (Text no_arguments)) ≡ codes "()V"
  pub mentioned : AreMentioned (λ m. AllByRecursion (Stands (pool_of items) items) (expanded m)) calls main

pub first_pair : {A : Type 0} (a b : A × A) (xs ys : List (A × A)) → (a ∷ xs) ≡ (b ∷ ys) → a ≡ b
first_pair a b xs ys h = cc

pub says_boot : ItemsAreFew → PlansHaveEntries → BootSaysPlan → (calls : List (List ℕ)) (main : List ℕ) → length calls ≤ 10000 → SaysBoot (items_of (boot_plan calls main)) calls main
unfolding boot class_of boot_plan core.boot_method
says_boot few entries says calls main count =
    let s = says calls main count in
    let items : List Item = items_of (boot_plan calls main) in
    let m = first_pair (text_at (pool_of items) (index_of items (Text (codes "boot"))), text_at (pool_of items) (index_of items (Text no_arguments))) (codes "boot", codes "()V") [] [] s.methods in
    record {
      name = s.name;
      superclass = s.superclass;
      method = ap (λ (x : List ℕ × List ℕ). x.0) m;
      descriptor = ap (λ (x : List ℕ × List ℕ). x.1) m;
      mentioned = boot_mentions (λ m. AllByRecursion (Stands (pool_of items) items) (expanded m)) calls main (entries (boot_plan calls main) (boot_room few calls main count));
    }

-- ---- descriptors

nothing_taken : items_of_types (types_in_method (codes "()V")) ≡ []
unfolding primitive_in split_in class_in element_in type_from types_in field_in result_in method_in
nothing_taken = refl

strings_taken : items_of_types (types_in_method (codes "([Ljava/lang/String;)V")) ≡ []
unfolding primitive_in split_in class_in element_in type_from types_in field_in result_in method_in
strings_taken = refl

module _ (items : List Item) (calls : List (List ℕ)) (main : List ℕ) (says : SaysBoot items calls main) where
  -- what the instructions name
  pub call_named : (name : List ℕ) → AllByRecursion (Stands (pool_of items) items) (expanded (call_item name))
      → named_in (boot_file items calls main) (index_instr 184 (index_of items (call_item name))) ≡ Some (named.Method false (index_of items (Class name)) (record { name = codes "<clinit>"; descriptor = codes "()V" }))
  call_named name h = names_method (pool_of items) items name (codes "<clinit>") (codes "()V") h

  pub main_named :
      named_in (boot_file items calls main) (index_instr 184 (index_of items (main_item main))) ≡ Some (named.Method false (index_of items (Class main)) (record { name = codes "main"; descriptor = codes "([Ljava/lang/String;)V" }))
  main_named = names_method (pool_of items) items main (codes "main") (codes "([Ljava/lang/String;)V") says.mentioned.of_main

  pub array_named : named_in (boot_file items calls main) (index_instr 189 (index_of items (Class string_name))) ≡ Some (named.Class (index_of items (Class string_name)))
  array_named = names_class (pool_of items) items string_name says.mentioned.of_array.0

  -- what holds of all instructions
  pub of_code : (Q : Instr → Type 0) → AllByRecursion (λ name. Q (index_instr 184 (index_of items (call_item name)))) calls → HoldsOfMain Q items (index_fits items) main
      → AllByRecursion (λ (x : Placed). Q x.instr) (instructions_of (boot_member items calls main))
  of_code Q each h = walk Q items (index_fits items) main calls each h

  -- ---- none is refused

  call_supported : (name : List ℕ) → AllByRecursion (Stands (pool_of items) items) (expanded (call_item name)) → items_at_instruction (boot_file items calls main) (index_instr 184 (index_of items (call_item name))) ≡ []
  unfolding row_of
  call_supported name h = ap items_of_named (call_named name h) ∙ nothing_taken

  code_supported : AllByRecursion (λ (x : Placed). items_at_instruction (boot_file items calls main) x.instr ≡ []) (instructions_of (boot_member items calls main))
  unfolding row_of
  code_supported =
      of_code (λ i. items_at_instruction (boot_file items calls main) i ≡ [])
      (all_along (λ name. AllByRecursion (Stands (pool_of items) items) (expanded (call_item name)))
      (λ name. items_at_instruction (boot_file items calls main) (index_instr 184 (index_of items (call_item name))) ≡ []) call_supported calls says.mentioned.of_calls)
      (record {
        constant = refl;
        array = ap items_of_named array_named;
        call = ap items_of_named main_named ∙ strings_taken;
        end = refl;
      })

  method_supported : items_at_method (boot_file items calls main) (boot_member items calls main) ≡ []
  method_supported = ap (λ (t : List ℕ). items_of_types (types_in_method t) ++ []) says.descriptor ∙ (append-nil (items_of_types (types_in_method (codes "()V"))) ∙ nothing_taken)

  pub supported : unsupported_in (boot_file items calls main) ≡ []
  unfolding unsupported_in
  supported =
      let c = boot_file items calls main in
      let m = boot_member items calls main in
      let at : Placed → List (Site × Refused) = λ x. sited (sites.Code 0 x.pc) (items_at_instruction c x.instr) in
      append-nil (sited (sites.Method 0) (items_at_method c m) ++ flat_map at (instructions_of m))
      ∙ ap₂ (λ (xs ys : List (Site × Refused)). xs ++ ys) (ap (sited (sites.Method 0)) method_supported)
      (nothing_of_all (λ (x : Placed). items_at_instruction c x.instr ≡ []) at (λ x e. ap (sited (sites.Code 0 x.pc)) e) (instructions_of m) code_supported)

pub boot_supported : ItemsAreFew → PlansHaveEntries → BootSaysPlan → BootIsSupported
boot_supported few entries says calls main count =
    let items : List Item = items_of (boot_plan calls main) in
    ap unsupported_in (sym (boot_is calls main)) ∙ supported items calls main (says_boot few entries says calls main count)
