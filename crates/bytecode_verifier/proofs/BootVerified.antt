-- The class that is run behind other classes: it is verified, where it calls methods that are there.
use Rattle.std.proofs.Common.{◌≡◌, ℕ, suc, ◌+◌, ◌<◌, Bool, true, false, not, List, [], ◌∷◌, ◌++◌, length, drop, Option, Some, None, Ok, refl, sym, ap, ap₂, ◌∙◌, subst, arith, append_assoc}
use Rattle.std.specs.Prelude.{slice_get, codes, nat_lt, if◌then◌else◌}
use Rattle.std.specs.Option.{option_map, option_map_or}
use Rattle.std.specs.List.{flat_map, AllByRecursion}
use Rattle.std.proofs.lemmas.Bool.{lt-ltb}
use Rattle.std.proofs.lemmas.List.{length-append}
use Rattle.core_classes.proofs.First.{at_end}
use Rattle.program_laws.proofs.Rows.{operand_is}
use Rattle.class_making.proofs.PoolLemmas.{index_fits}
use Rattle.lists.specs.Lists.{onto}
use Rattle.class_pool.specs.declared.class.Code.{Code}
use Rattle.class_pool.specs.declared.class.Member.{Member}
use Rattle.class_pool.specs.declared.class.ClassFile.{ClassFile}
use Rattle.class_pool.specs.Found.{code_of}
use Rattle.class_pool.specs.Spelling as spelling
use Rattle.class_making.specs.declared.item.Item.{Item}
use Rattle.class_making.specs.declared.item.Item.TheVariants.{Class}
use Rattle.class_making.specs.Making.{index_of, expanded, pool_of}
use Rattle.class_making.specs.Plans.{piece_bytes, items_of, class_of}
use Rattle.class_making.specs.Laws.{PlansHaveEntries, ItemsAreFew}
use Rattle.core_classes.specs.Core.{core, string_name, call_pieces, main_pieces, boot_pieces, boot_plan, empty_init, object_plan, interface_plan, length_method, char_at_method, string_plan, plain_init, keeping_init, get_message_method, throwable_plan, handing_init, error_plan, error_plans, read_method, write_method, io_plan, first_plans, core_plans}
use Rattle.core_classes.specs.Laws.{BootSaysPlan}
use Rattle.core_classes.specs.Linkage.{DeclaresStatic, initializer, main_signature}
use Rattle.class_lookup.specs.Parts.{Signature, is_static, is_init}
use Rattle.class_pool.specs.Grammar.{text_at}
use Rattle.class_lookup.specs.Hierarchy.{supertypes}
use Rattle.descriptors.specs.Parsing.{primitive_in, split_in, class_in, element_in, type_from, types_in, field_in, result_in, method_in as method_type_in}
use Rattle.opcodes.specs.declared.instruction.Instr.{Instr}
use Rattle.opcodes.specs.Form.{Absent, UnsignedShort, Fixed, one}
use Rattle.opcodes.specs.Row.{row_of}
use Rattle.opcodes.specs.Instruction.{decoded}
use Rattle.opcodes.specs.Start.{starts_of, starts_from, first_bad}
use Rattle.bytecode_model.specs.Types.{Kind, Reference, OfClass, OfReferences}
use Rattle.bytecode_model.specs.Program.{Program, Method, NoOperand, AType}
use Rattle.bytecode_typing.specs.Types.{Integer}
use Rattle.program_tables.specs.Instructions.{Named}
use Rattle.program_tables.specs.Kinds.{kind_of_type, type_named, parameters_declared, result_declared}
use Rattle.program_tables.specs.Laws.{MethodsStandByNumber}
use Rattle.program_tables.specs.Numbers.{methods_by_number}
use Rattle.program_tables.specs.Operands.{operand_in, operand_by}
use Rattle.program_tables.specs.Resolved.{resolved, method_in, body_in}
use Rattle.bytecode_verifier.specs.Failure.{Opcode, method_failure}
use Rattle.bytecode_verifier.specs.CoreLaws.{BootIsVerified}
use Rattle.bytecode_verifier.proofs.CoreWalks.{passes}
use Rattle.bytecode_verifier.proofs.BootSteps.{bare_instr, index_instr, bare_at, index_at, boot_body, boot_here, with_stack, strings, Passing, none_passes, step, call_passes, constant_passes, array_passes, main_passes, return_passes}
use Rattle.bytecode_verifier.proofs.BootFile.{call_item, main_item, Stands, class_said, boot_member, boot_file, boot_is, SaysBoot, says_boot, call_named, main_named, array_named}
use Rattle.bytecode_verifier.proofs.BootRun.{calls_method, method_there, boot_code, first_frame, no_frames, nothing_taken, nothing_given}

-- ---- forms

constant_form : (row_of 3).form ≡ Fixed (one Absent)
unfolding row_of
constant_form = refl

return_form : (row_of 177).form ≡ Fixed (one Absent)
unfolding row_of
return_form = refl

array_form : (row_of 189).form ≡ Fixed (one UnsignedShort)
unfolding row_of
array_form = refl

call_form : (row_of 184).form ≡ Fixed (one UnsignedShort)
unfolding row_of
call_form = refl

-- ---- of the core classes

strings_taken : (others : List ClassFile) → parameters_declared (core ++ others) (codes "([Ljava/lang/String;)V") ≡ Reference (OfReferences (OfClass 3)) ∷ []
unfolding empty_init object_plan interface_plan length_method char_at_method string_plan plain_init keeping_init get_message_method throwable_plan handing_init error_plan error_plans read_method write_method io_plan first_plans core_plans core items_of class_of supertypes primitive_in split_in class_in element_in type_from types_in field_in result_in method_type_in
strings_taken others = refl

nothing_given_by_main : (others : List ClassFile) → result_declared (core ++ others) (codes "([Ljava/lang/String;)V") ≡ None
unfolding empty_init object_plan interface_plan length_method char_at_method string_plan plain_init keeping_init get_message_method throwable_plan handing_init error_plan error_plans read_method write_method io_plan first_plans core_plans core items_of class_of supertypes primitive_in split_in class_in element_in type_from types_in field_in result_in method_type_in
nothing_given_by_main others = refl

string_kind : (others : List ClassFile) → onto (type_named string_name) (kind_of_type (core ++ others)) ≡ Some (OfClass 3)
unfolding empty_init object_plan interface_plan length_method char_at_method string_plan plain_init keeping_init get_message_method throwable_plan handing_init error_plan error_plans read_method write_method io_plan first_plans core_plans core items_of class_of supertypes primitive_in split_in class_in element_in type_from types_in field_in result_in method_type_in
string_kind others = refl

string_same : (others : List ClassFile) → (resolved (core ++ others)).extends 3 3 ≡ true
unfolding empty_init object_plan interface_plan length_method char_at_method string_plan plain_init keeping_init get_message_method throwable_plan handing_init error_plan error_plans read_method write_method io_plan first_plans core_plans core items_of class_of supertypes primitive_in split_in class_in element_in type_from types_in field_in result_in method_type_in
string_same others = refl

string_is_class : (others : List ClassFile) → (resolved (core ++ others)).is_interface 3 ≡ false
unfolding empty_init object_plan interface_plan length_method char_at_method string_plan plain_init keeping_init get_message_method throwable_plan handing_init error_plan error_plans read_method write_method io_plan first_plans core_plans core items_of class_of supertypes primitive_in split_in class_in element_in type_from types_in field_in result_in method_type_in
string_is_class others = refl

-- ---- the last class

abbrev bytes_of : List Item → (main : List ℕ) → List (List ℕ) → List ℕ
bytes_of items main calls = flat_map (piece_bytes items) (flat_map call_pieces calls ++ main_pieces main)

some_bytes : (items : List Item) (main : List ℕ) (calls : List (List ℕ)) → 0 < length (bytes_of items main calls)
unfolding call_pieces main_pieces
some_bytes items main [] = omega arith
some_bytes items main (name ∷ calls) = omega arith

method_plain : (cs : List ClassFile) (owner : ℕ) (c : ClassFile) (m : Member) (code : List ℕ) → text_at c.pool m.name ≡ codes "boot" → text_at c.pool m.descriptor ≡ codes "()V" → is_static m ≡ true → code_of m ≡ Some (boot_code code)
    → method_in cs owner c m ≡ boot_here owner code
unfolding primitive_in split_in class_in element_in type_from types_in field_in result_in method_type_in
method_plain cs owner c m code name descriptor static coded =
    let made = λ (a b : List ℕ) (st : Bool) (o : Option Code). let s : Signature = record { name = a; descriptor = b } in let r : Method = record { owner = owner; has_this = not st; is_init = is_init s; parameters = parameters_declared cs b; result = result_declared cs b; body = option_map (body_in cs c) o } in r in
    ap₂ (λ (a b : List ℕ). made a b (is_static m) (code_of m)) name descriptor ∙ ap₂ (λ (st : Bool) (o : Option Code). made (codes "boot") (codes "()V") st o) static coded

module _ (stand : MethodsStandByNumber) (ks : List ClassFile) (items : List Item) (calls : List (List ℕ)) (main : List ℕ) (says : SaysBoot items calls main) (n : ℕ) where
  abbrev c : ClassFile
  c = boot_file items calls main

  abbrev m : Member
  m = boot_member items calls main

  abbrev others : List ClassFile
  others = ks ++ c ∷ []

  abbrev cs : List ClassFile
  cs = core ++ others

  abbrev P : Program
  P = resolved cs

  abbrev owner : ℕ
  owner = length (core ++ ks)

  abbrev code : List ℕ
  code = flat_map (piece_bytes items) (boot_pieces calls main)

  behind : cs ≡ (core ++ ks) ++ c ∷ []
  behind = sym (append_assoc core ks (c ∷ []))

  at_owner : slice_get cs owner ≡ Some c
  at_owner = ap (λ (ys : List ClassFile). slice_get ys owner) behind ∙ at_end (core ++ ks) c

  long : length cs ≡ suc owner
  long = let e = ap length behind in omega (arith, e, length-append (core ++ ks) (c ∷ []))

  here : method_in cs owner c m ≡ boot_here owner code
  here = method_plain cs owner c m code says.method says.descriptor refl refl

  abbrev Numbered : Type 0
  Numbered = slice_get (methods_by_number cs) n ≡ Some (owner, 0)

  there : Numbered → slice_get P.methods n ≡ Some (boot_here owner code)
  there numbered = method_there stand cs n (owner, 0) c m numbered at_owner refl ∙ ap (λ (x : Method). Some x) here

  named_at : Numbered → (pc : ℕ) (i : Instr) → decoded code pc ≡ Ok i → P.operand n pc ≡ operand_in cs owner c i
  named_at numbered pc i decode = operand_is cs n (owner, 0) c m (boot_code code) pc i numbered at_owner refl refl decode

  within : (pc size : ℕ) (rest : List ℕ) → pc + size + length rest ≡ length code → 0 < length rest → nat_lt (pc + size) (length code) ≡ true
  within pc size rest inside some = lt-ltb (pc + size) (length code) (omega arith)

  array_operand : operand_in cs owner c (index_instr 189 (index_of items (Class string_name))) ≡ AType (OfClass 3)
  array_operand =
      ap (λ (o : Option Named). option_map_or (operand_by cs owner c 189) o NoOperand) (array_named items calls main says)
      ∙ (ap (λ (t : List ℕ). option_map_or AType (onto (type_named t) (kind_of_type cs)) NoOperand) (class_said (pool_of items) items string_name says.mentioned.of_array.0 says.mentioned.of_array.1.0)
      ∙ ap (λ (o : Option Kind). option_map_or AType o NoOperand) (string_kind others))

  main_walk : (numbered : Numbered) (pc most : ℕ) → drop pc code ≡ bytes_of items main [] → DeclaresStatic cs main main_signature → Passing P owner n code (there numbered) (starts_from most code (Some pc)) (Some (with_stack []))
  unfolding main_pieces
  main_walk numbered pc most at mained =
      let string : ℕ = index_of items (Class string_name) in
      let method : ℕ = index_of items (main_item main) in
      let last : List ℕ = 177 ∷ [] in
      let third : List ℕ = 184 ∷ (spelling.u2 method ++ last) in
      let second : List ℕ = 189 ∷ (spelling.u2 string ++ third) in
      let t = there numbered in
      let a = bare_at code pc 3 second constant_form at in
      let b = index_at code (pc + 1) 189 string third (index_fits items (Class string_name)) array_form a.behind in
      let d = index_at code (pc + 1 + 3) 184 method last (index_fits items (main_item main)) call_form b.behind in
      let e = bare_at code (pc + 1 + 3 + 3) 177 [] return_form d.behind in
      let f =
      calls_method stand cs owner owner c method (index_of items (Class main)) main_signature main long refl (main_named items calls main says) (class_said (pool_of items) items main says.mentioned.of_main.1.0 says.mentioned.of_main.1.1.0) mained in
      let one = constant_passes P owner n code t pc a.is (within pc 1 second a.inside (omega arith)) in
      let two = array_passes P owner n code t (pc + 1) string b.is (within (pc + 1) 3 third b.inside (omega arith)) (named_at numbered (pc + 1) (index_instr 189 string) b.is ∙ array_operand) in
      let three =
      main_passes P owner n code t (pc + 1 + 3) method f.class f.number f.callee d.is (within (pc + 1 + 3) 3 last d.inside (omega arith)) (named_at numbered (pc + 1 + 3) (index_instr 184 method) d.is ∙ f.names) f.there
      (f.parameters ∙ strings_taken others) (f.result ∙ nothing_given_by_main others) (string_same others) (string_is_class others) in
      let four = return_passes P owner n code t (pc + 1 + 3 + 3) e.is in
      step P owner n code t pc most (bare_instr 3) second [] (with_stack []) (Some (with_stack (Integer ∷ []))) a one (λ i _.
      step P owner n code t (pc + 1) i (index_instr 189 string) third (Integer ∷ []) (with_stack (Integer ∷ [])) (Some (with_stack (strings ∷ []))) b two (λ j _.
      step P owner n code t (pc + 1 + 3) j (index_instr 184 method) last (strings ∷ []) (with_stack (strings ∷ [])) (Some (with_stack [])) d three (λ k _.
      step P owner n code t (pc + 1 + 3 + 3) k (bare_instr 177) [] [] (with_stack []) None e four (λ l lt. absurd (omega arith)))))

  abbrev Mentioned : List ℕ → Type 0
  Mentioned name = AllByRecursion (Stands (pool_of items) items) (expanded (call_item name))

  call_walk : (numbered : Numbered) (names : List (List ℕ)) (pc most : ℕ) → drop pc code ≡ bytes_of items main names → AllByRecursion Mentioned names → AllByRecursion (λ name. DeclaresStatic cs name initializer) names → DeclaresStatic cs main main_signature
      → Passing P owner n code (there numbered) (starts_from most code (Some pc)) (Some (with_stack []))
  unfolding call_pieces
  call_walk numbered [] pc most at said declared mained = main_walk numbered pc most at mained
  call_walk numbered (name ∷ names) pc most at said declared mained =
      let x : ℕ = index_of items (call_item name) in
      let rest : List ℕ = bytes_of items main names in
      let t = there numbered in
      let a = index_at code pc 184 x rest (index_fits items (call_item name)) call_form at in
      let f =
      calls_method stand cs owner owner c x (index_of items (Class name)) initializer name long refl (call_named items calls main says name said.0) (class_said (pool_of items) items name said.0.1.0 said.0.1.1.0) declared.0 in
      let one =
      call_passes P owner n code t pc x f.class f.number f.callee a.is (within pc 3 rest a.inside (some_bytes items main names)) (named_at numbered pc (index_instr 184 x) a.is ∙ f.names) f.there (f.parameters ∙ nothing_taken cs) (f.result ∙ nothing_given cs) in
      step P owner n code t pc most (index_instr 184 x) rest [] (with_stack []) (Some (with_stack [])) a one (λ k _. call_walk numbered names (pc + 3) k a.behind said.1 declared.1 mained)

  whole_walk : (numbered : Numbered) → AllByRecursion (λ name. DeclaresStatic cs name initializer) calls → DeclaresStatic cs main main_signature → Passing P owner n code (there numbered) (starts_of code) (Some (with_stack []))
  unfolding starts_of boot_pieces
  whole_walk numbered declared mained = chosen (nat_lt 0 (length code))
    where
      chosen : (b : Bool) → Passing P owner n code (there numbered) (starts_from (length code) code (if b then Some 0 else None)) (Some (with_stack []))
      chosen true = call_walk numbered calls 0 (length code) refl says.mentioned.of_calls declared mained
      chosen false = none_passes P owner n code (there numbered) (length code) (Some (with_stack []))

  pub file_verified : Numbered → AllByRecursion (λ name. DeclaresStatic cs name initializer) calls → DeclaresStatic cs main main_signature → method_failure cs n ≡ None
  unfolding first_bad
  file_verified numbered declared mained =
      let all = whole_walk numbered declared mained in
      passes cs n (owner, 0) c m (boot_code code) (boot_here owner code) (boot_body code) (with_stack []) first_frame numbered at_owner refl refl
      (ap (λ (o : Option ℕ). option_map (λ pc. (pc, Opcode)) o) all.whole) refl (no_frames c m code says.descriptor refl) here refl refl all.walked

pub boot_verified : ItemsAreFew → PlansHaveEntries → BootSaysPlan → MethodsStandByNumber → BootIsVerified
boot_verified few entries says stand ks calls main count declared mained n numbered =
    let items : List Item = items_of (boot_plan calls main) in
    let Q : ClassFile → Type 0 =
    λ k. AllByRecursion (λ name. DeclaresStatic (core ++ (ks ++ k ∷ [])) name initializer) calls → DeclaresStatic (core ++ (ks ++ k ∷ [])) main main_signature
    → slice_get (methods_by_number (core ++ (ks ++ k ∷ []))) n ≡ Some (length (core ++ ks), 0) → method_failure (core ++ (ks ++ k ∷ [])) n ≡ None in
    subst Q (boot_is calls main) (λ d e at. file_verified stand ks items calls main (says_boot few entries says calls main count) n at d e) declared mained numbered
