-- The class that is run is verified, where it calls methods that are there.
use Rattle.std.proofs.Common.{◌≡◌, ℕ, suc, Bool, true, false, ◌&&◌, List, [], ◌∷◌, ◌++◌, length, Option, Some, None, Ok, refl, sym, ap, ap₂, ◌∙◌, subst}
use Rattle.std.specs.Prelude.{slice_get, codes, if◌then◌else◌}
use Rattle.std.specs.Option.{option_map, option_map_or}
use Rattle.std.specs.Cmp.Lexicographic.{same_text as texts_same}
use Rattle.std.proofs.lemmas.Option.{slice_get_within}
use Rattle.lists.specs.Lists.{onto}
use Rattle.lists.proofs.Lemmas.{index_found, map_some, onto_some}
use Rattle.class_pool.specs.declared.class.Code.{Code}
use Rattle.class_pool.specs.declared.class.Member.{Member}
use Rattle.class_pool.specs.declared.class.ClassFile.{ClassFile}
use Rattle.core_classes.specs.Linkage.{DeclaresStatic}
use Rattle.class_lookup.specs.Parts.{Signature, signature_of, class_text, is_static, is_init, same_text, same_signature}
use Rattle.class_pool.specs.Grammar.{text_at}
use Rattle.class_lookup.specs.Hierarchy.{find_class}
use Rattle.class_lookup.specs.Lookup.{Place, declared_in, declared_method, find_method}
use Rattle.descriptors.specs.Parsing.{primitive_in, split_in, class_in, element_in, type_from, types_in, field_in, result_in, method_in as method_type_in}
use Rattle.bytecode_model.specs.Program.{Program, Method, Operand, NoOperand, AMethod}
use Rattle.frame_types.specs.declared.types.VarType.{VarType as MapType}
use Rattle.frame_types.specs.declared.types.TypeFrame.{TypeFrame as MapFrame}
use Rattle.frame_types.specs.Table.{entries_of}
use Rattle.frame_types.specs.Locals.{types_of, this_type, this_types, first_locals}
use Rattle.frame_types.specs.Frames.{or_fails_at, frame_of, with_first, frames_from, frames_of}
use Rattle.program_tables.specs.Instructions.{Named, named_in}
use Rattle.program_tables.specs.Instructions as named
use Rattle.program_tables.specs.Kinds.{parameters_declared, result_declared}
use Rattle.program_tables.specs.Laws.{MethodsStandByNumber}
use Rattle.program_tables.specs.Numbers.{methods_by_number, method_number}
use Rattle.program_tables.specs.Operands.{operand_in, operand_by, method_operand, method_taken}
use Rattle.program_tables.specs.Resolved.{resolved, resolved_method, method_in}
use Rattle.bytecode_verifier.proofs.BootPlaces.{has_number, found_first}
use Rattle.bytecode_verifier.proofs.BootSteps.{index_instr}

-- ---- a member that is found has the signature by which it was looked up

pub record IsDeclared (cs : List ClassFile) (s : Signature) (p : Place) : Type 0 where
  pub class : ClassFile
  pub member : Member
  pub in_classes : slice_get cs p.0 ≡ Some class
  pub in_methods : slice_get class.methods p.1 ≡ Some member
  pub signature : signature_of class member ≡ s

signatures_same : (a b : Signature) → same_signature a b ≡ true → a ≡ b
signatures_same a b h = decided (same_text a.name b.name) (same_text a.descriptor b.descriptor) refl refl h
  where
    decided : (x y : Bool) → same_text a.name b.name ≡ x → same_text a.descriptor b.descriptor ≡ y → (x && y) ≡ true → a ≡ b
    decided true true e f h = ap₂ (λ (m n : List ℕ). let s : Signature = record { name = m; descriptor = n } in s) (texts_same a.name b.name (sym e)) (texts_same a.descriptor b.descriptor (sym f))
    decided true false e f h = absurd (let g : false ≡ true = h in cc)
    decided false y e f h = absurd (let g : false ≡ true = h in cc)

is_declared : (cs : List ClassFile) (s : Signature) (d : ℕ) (p : Place) → declared_method cs s d ≡ Some p → IsDeclared cs s p
is_declared cs s d p at =
    let class = onto_some (slice_get cs d) (λ (k : ClassFile). option_map (λ (i : ℕ). let q : Place = (d, i) in q) (declared_in (λ k2. k2.methods) s k)) p at in
    let index = map_some (λ (i : ℕ). let q : Place = (d, i) in q) (declared_in (λ k2. k2.methods) s class.0) p class.2 in
    let member = index_found (λ m. same_signature (signature_of class.0 m) s) class.0.methods index.0 index.1 in
    let owner : d ≡ p.0 = ap (λ (q : Place). q.0) index.2 in
    let place : index.0 ≡ p.1 = ap (λ (q : Place). q.1) index.2 in
    record {
      class = class.0;
      member = member.0;
      in_classes = subst (λ (k : ℕ). slice_get cs k ≡ Some class.0) owner class.1;
      in_methods = subst (λ (k : ℕ). slice_get class.0.methods k ≡ Some member.0) place member.1;
      signature = signatures_same (signature_of class.0 member.0) s member.2;
    }

-- ---- the method of a place in the program

pub method_there : MethodsStandByNumber → (cs : List ClassFile) (n : ℕ) (p : Place) (c : ClassFile) (m : Member) → slice_get (methods_by_number cs) n ≡ Some p → slice_get cs p.0 ≡ Some c → slice_get c.methods p.1 ≡ Some m
    → slice_get (resolved cs).methods n ≡ Some (method_in cs p.0 c m)
method_there stand cs n p c m at class member =
    stand cs n
    ∙ (ap (λ (o : Option Place). onto o (resolved_method cs)) at
    ∙ (ap (λ (o : Option ClassFile). onto o (λ k. option_map (method_in cs p.0 k) (onto o (λ k2. slice_get k2.methods p.1)))) class
    ∙ ap (λ (o : Option Member). option_map (method_in cs p.0 c) o) member))

-- ---- what an instruction of a method names

method_operand_is : (cs : List ClassFile) (current : ℕ) (c : ClassFile) (x index : ℕ) (s : Signature) (t : List ℕ) (d k : ℕ) (p : Place) → named_in c (index_instr 184 x) ≡ Some (named.Method false index s) → class_text c.pool index ≡ t → find_class cs t ≡ Some d
    → find_method cs d s ≡ Some p → method_number cs p ≡ Some k → operand_in cs current c (index_instr 184 x) ≡ AMethod d k
method_operand_is cs current c x index s t d k p names text class method number =
    ap (λ (o : Option Named). option_map_or (operand_by cs current c 184) o NoOperand) names
    ∙ (ap (λ (u : List ℕ). option_map_or (λ n. method_operand cs n (onto (find_method cs n s) (method_taken cs 184 current n))) (find_class cs u) NoOperand) text
    ∙ (ap (λ (o : Option ℕ). option_map_or (λ n. method_operand cs n (onto (find_method cs n s) (method_taken cs 184 current n))) o NoOperand) class
    ∙ (ap (λ (o : Option Place). method_operand cs d (onto o (method_taken cs 184 current d))) method
    ∙ ap (λ (o : Option ℕ). option_map_or (AMethod d) o NoOperand) number)))

-- what a call of a static method needs
pub record CanCall (P : Program) (operand : Operand) : Type 0 where
  pub class : ℕ
  pub number : ℕ
  pub callee : Method
  pub names : operand ≡ AMethod class number
  pub there : slice_get P.methods number ≡ Some callee

pub record Calls (cs : List ClassFile) (s : Signature) (operand : Operand) : Type 0 where
  pub class : ℕ
  pub number : ℕ
  pub callee : Method
  pub names : operand ≡ AMethod class number
  pub there : slice_get (resolved cs).methods number ≡ Some callee
  pub parameters : callee.parameters ≡ parameters_declared cs s.descriptor
  pub result : callee.result ≡ result_declared cs s.descriptor

pub calls_method : MethodsStandByNumber → (cs : List ClassFile) (current most : ℕ) (c : ClassFile) (x index : ℕ) (s : Signature) (t : List ℕ) → length cs ≡ suc most → is_init s ≡ false → named_in c (index_instr 184 x) ≡ Some (named.Method false index s) → class_text c.pool index ≡ t
    → DeclaresStatic cs t s → Calls cs s (operand_in cs current c (index_instr 184 x))
calls_method stand cs current most c x index s t long plain names text d =
    let found = is_declared cs s d.place.0 d.place d.declared in
    let number = has_number cs d.place found.class found.in_classes (slice_get_within found.class.methods d.place.1 found.member found.in_methods) in
    record {
      class = d.place.0;
      number = number.number;
      callee = method_in cs d.place.0 found.class found.member;
      names = method_operand_is cs current c x index s t d.place.0 number.number d.place names text d.found (found_first cs s d.place.0 most d.place long plain d.declared) number.is;
      there = method_there stand cs number.number d.place found.class found.member number.there found.in_classes found.in_methods;
      parameters = ap (λ (u : Signature). parameters_declared cs u.descriptor) found.signature;
      result = ap (λ (u : Signature). result_declared cs u.descriptor) found.signature;
    }

-- ---- the method that is run

abbrev pub boot_code : List ℕ → Code
boot_code code = record { max_stack = 1; max_locals = 0; code = code; handlers = []; attributes = [] }

no_locals : (c : ClassFile) (m : Member) → text_at c.pool m.descriptor ≡ codes "()V" → is_static m ≡ true → first_locals c m ≡ Some []
unfolding first_locals primitive_in split_in class_in element_in type_from types_in field_in result_in method_type_in
no_locals c m descriptor static =
    ap (λ (t : List ℕ). onto (method_type_in t) (λ d. onto (types_of d.parameters) (λ ts. Some (this_types c m ++ ts)))) descriptor
    ∙ ap (λ (b : Bool). let none : List MapType = [] in Some ((if b then none else this_type c m ∷ none) ++ none)) static

abbrev pub first_frame : MapFrame
first_frame = record { locals = []; stack = []; flag = false }

pub no_frames : (c : ClassFile) (m : Member) (code : List ℕ) → text_at c.pool m.descriptor ≡ codes "()V" → is_static m ≡ true → frames_of c m (boot_code code) ≡ Ok (record { first = first_frame; at = [] })
unfolding frames_of
no_frames c m code descriptor static =
    ap (λ (ls : Option (List MapType)). or_fails_at 0 (entries_of c.pool (boot_code code)) (λ entries. or_fails_at 0 ls (λ locals. or_fails_at 0 (frame_of (boot_code code) locals []) (λ first. with_first first (frames_from (boot_code code) 0 locals entries)))))
    (no_locals c m descriptor static)

pub nothing_taken : (cs : List ClassFile) → parameters_declared cs (codes "()V") ≡ []
unfolding primitive_in split_in class_in element_in type_from types_in field_in result_in method_type_in
nothing_taken cs = refl

pub nothing_given : (cs : List ClassFile) → result_declared cs (codes "()V") ≡ None
unfolding primitive_in split_in class_in element_in type_from types_in field_in result_in method_type_in
nothing_given cs = refl
