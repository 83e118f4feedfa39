-- The walks over methods of the core classes that use a field, in any program that has such methods and fields.
use Rattle.std.proofs.Common.{◌≡◌, ℕ, true, false, List, [], ◌∷◌, Option, Some, None, refl, ap, ap₂, ◌∙◌}
use Rattle.std.specs.Prelude.{slice_get}
use Rattle.opcodes.specs.Row.{row_of}
use Rattle.opcodes.specs.Entry.{entry_row}
use Rattle.opcodes.specs.Instruction.{decoded}
use Rattle.opcodes.specs.Start.{starts_of, first_bad}
use Rattle.bytecode_model.specs.Table.{row_of as meaning_of}
use Rattle.bytecode_model.specs.Types.{Numeric, Reference, IntType, OfClass, OfNumbers}
use Rattle.bytecode_model.specs.Program.{Program, Method, Body, AField, AMethod}
use Rattle.bytecode_typing.specs.Types.{TypeFrame}
use Rattle.bytecode_typing.specs.Walk.{walked}
use Rattle.std.specs.Prelude.{Result, Ok}
use Rattle.std.specs.Option.{option_map_or}
use Rattle.class_pool.specs.declared.class.Code.{Code}
use Rattle.class_pool.specs.declared.class.Member.{Member}
use Rattle.class_pool.specs.declared.class.ClassFile.{ClassFile}
use Rattle.class_pool.specs.Found.{code_of, otherwise}
use Rattle.class_lookup.specs.Lookup.{Place}
use Rattle.frame_types.specs.declared.types.Frames.{Frames}
use Rattle.frame_types.specs.declared.types.TypeFrame.{TypeFrame as MapFrame}
use Rattle.frame_types.specs.Frames.{frames_of}
use Rattle.program_tables.specs.Numbers.{methods_by_number}
use Rattle.program_tables.specs.Resolved.{method_in, body_in, resolved}
use Rattle.bytecode_typing.specs.Walk.{first_types}
use Rattle.bytecode_verifier.specs.Failure.{Failure, walk_failure, opcode_failure, table_failure, types_failure, code_failure, method_failure}

abbrev pub nothing_mapped : ℕ → Option TypeFrame
nothing_mapped pc = None

abbrev said : (cs : List ClassFile) (n : ℕ) (p : Place) (c : ClassFile) (m : Member) → Option Code → Option Failure
said cs n p c m None = None
said cs n p c m (Some k) = code_failure cs n (method_in cs p.0 c m) (body_in cs c k) c m k

abbrev in_code : (cs : List ClassFile) (n : ℕ) (p : Place) (c : ClassFile) → Option Member → Option Failure
in_code cs n p c None = None
in_code cs n p c (Some m) = said cs n p c m (code_of m)

abbrev in_member : (cs : List ClassFile) (n : ℕ) (p : Place) → Option ClassFile → Option Failure
in_member cs n p None = None
in_member cs n p (Some c) = in_code cs n p c (slice_get c.methods p.1)

abbrev in_class : (cs : List ClassFile) (n : ℕ) (p : Place) → Option Failure
in_class cs n p = in_member cs n p (slice_get cs p.0)

-- where a method's code has whole instructions, no StackMapTable and no table out of its form, what fails first in it is what the walk finds
pub passes : (cs : List ClassFile) (n : ℕ) (p : Place) (c : ClassFile) (m : Member) (k : Code) (here : Method) (body : Body) (f : TypeFrame) (first : MapFrame) → slice_get (methods_by_number cs) n ≡ Some p → slice_get cs p.0 ≡ Some c → slice_get c.methods p.1 ≡ Some m → code_of m ≡ Some k
    → opcode_failure k.code ≡ None → table_failure k.code k.handlers ≡ None → frames_of c m k ≡ Ok (record { first = first; at = [] }) → method_in cs p.0 c m ≡ here → body_in cs c k ≡ body → first_types here body ≡ Some f
    → walk_failure (walked (resolved cs) n here body nothing_mapped) ≡ None → method_failure cs n ≡ None
unfolding method_failure
passes cs n p c m k here body f first at class member code opcode table maps method coded types walk =
    let by_code : code_failure cs n (method_in cs p.0 c m) (body_in cs c k) c m k ≡ None =
    ap₂ (λ (a b : Option Failure). otherwise a (otherwise b (types_failure cs n (method_in cs p.0 c m) (body_in cs c k) (first_types (method_in cs p.0 c m) (body_in cs c k)) (frames_of c m k)))) opcode table
    ∙ ap (λ (r : Result Frames ℕ). types_failure cs n (method_in cs p.0 c m) (body_in cs c k) (first_types (method_in cs p.0 c m) (body_in cs c k)) r) maps
    ∙ ap₂ (λ (x : Method) (y : Body). types_failure cs n x y (first_types x y) (Ok (record { first = first; at = [] }))) method coded
    ∙ ap (λ (o : Option TypeFrame). types_failure cs n here body o (Ok (record { first = first; at = [] }))) types
    ∙ walk in
    ap (λ (o : Option Place). option_map_or (in_class cs n) o None) at ∙ (ap (in_member cs n p) class ∙ (ap (in_code cs n p c) member ∙ (ap (said cs n p c m) code ∙ by_code)))

abbrev pub length_body : (hi lo : ℕ) → Body
length_body hi lo = record { max_locals = 1; max_stack = 1; code = 42 ∷ 180 ∷ hi ∷ lo ∷ 190 ∷ 172 ∷ []; handlers = [] }

abbrev pub length_here : (hi lo : ℕ) → Method
length_here hi lo = record { owner = 3; has_this = true; is_init = false; parameters = []; result = Some (Numeric IntType); body = Some (length_body hi lo) }

pub length_walks : (P : Program) (n hi lo : ℕ) → slice_get P.methods n ≡ Some (length_here hi lo) → P.operand n 1 ≡ AField 3 3 0 → slice_get (P.fields 3) 0 ≡ Some (Reference (OfNumbers 5)) → P.guarded n 1 ≡ false → P.extends 3 3 ≡ true → P.is_interface 3 ≡ false
    → walk_failure (walked P n (length_here hi lo) (length_body hi lo) nothing_mapped) ≡ None
unfolding row_of entry_row decoded starts_of first_bad meaning_of
length_walks P n hi lo there operand field free same class = rw (there, operand, field, free, same, class) refl

abbrev pub char_at_body : (hi lo : ℕ) → Body
char_at_body hi lo = record { max_locals = 2; max_stack = 2; code = 42 ∷ 180 ∷ hi ∷ lo ∷ 27 ∷ 52 ∷ 172 ∷ []; handlers = [] }

abbrev pub char_at_here : (hi lo : ℕ) → Method
char_at_here hi lo = record { owner = 3; has_this = true; is_init = false; parameters = Numeric IntType ∷ []; result = Some (Numeric IntType); body = Some (char_at_body hi lo) }

pub char_at_walks : (P : Program) (n hi lo : ℕ) → slice_get P.methods n ≡ Some (char_at_here hi lo) → P.operand n 1 ≡ AField 3 3 0 → slice_get (P.fields 3) 0 ≡ Some (Reference (OfNumbers 5)) → P.guarded n 1 ≡ false → P.extends 3 3 ≡ true → P.is_interface 3 ≡ false
    → walk_failure (walked P n (char_at_here hi lo) (char_at_body hi lo) nothing_mapped) ≡ None
unfolding row_of entry_row decoded starts_of first_bad meaning_of
char_at_walks P n hi lo there operand field free same class = rw (there, operand, field, free, same, class) refl

abbrev pub get_message_body : (hi lo : ℕ) → Body
get_message_body hi lo = record { max_locals = 1; max_stack = 1; code = 42 ∷ 180 ∷ hi ∷ lo ∷ 176 ∷ []; handlers = [] }

abbrev pub get_message_here : (hi lo : ℕ) → Method
get_message_here hi lo = record { owner = 4; has_this = true; is_init = false; parameters = []; result = Some (Reference (OfClass 3)); body = Some (get_message_body hi lo) }

pub get_message_walks : (P : Program) (n hi lo : ℕ) → slice_get P.methods n ≡ Some (get_message_here hi lo) → P.operand n 1 ≡ AField 4 4 0 → slice_get (P.fields 4) 0 ≡ Some (Reference (OfClass 3)) → P.guarded n 1 ≡ false → P.extends 3 3 ≡ true → P.is_interface 3 ≡ false
    → P.extends 4 4 ≡ true → P.is_interface 4 ≡ false
    → walk_failure (walked P n (get_message_here hi lo) (get_message_body hi lo) nothing_mapped) ≡ None
unfolding row_of entry_row decoded starts_of first_bad meaning_of
get_message_walks P n hi lo there operand field free string class same own = rw (there, operand, field, free, same, own, string, class) refl

abbrev pub keeping_body : (hi lo hi2 lo2 : ℕ) → Body
keeping_body hi lo hi2 lo2 = record { max_locals = 2; max_stack = 2; code = 42 ∷ 183 ∷ hi ∷ lo ∷ 42 ∷ 43 ∷ 181 ∷ hi2 ∷ lo2 ∷ 177 ∷ []; handlers = [] }

abbrev pub keeping_here : (hi lo hi2 lo2 : ℕ) → Method
keeping_here hi lo hi2 lo2 = record { owner = 4; has_this = true; is_init = true; parameters = Reference (OfClass 3) ∷ []; result = None; body = Some (keeping_body hi lo hi2 lo2) }

pub keeping_walks : (P : Program) (n hi lo hi2 lo2 : ℕ) (object : Method) → slice_get P.methods n ≡ Some (keeping_here hi lo hi2 lo2) → P.operand n 1 ≡ AMethod 0 0 → slice_get P.methods 0 ≡ Some object
    → object.is_init ≡ true → object.parameters ≡ [] → P.superclass 4 ≡ Some 0
    → P.operand n 6 ≡ AField 4 4 0 → slice_get (P.fields 4) 0 ≡ Some (Reference (OfClass 3)) → P.guarded n 6 ≡ false → P.extends 3 3 ≡ true → P.is_interface 3 ≡ false → P.extends 4 4 ≡ true → P.is_interface 4 ≡ false
    → walk_failure (walked P n (keeping_here hi lo hi2 lo2) (keeping_body hi lo hi2 lo2) nothing_mapped) ≡ None
unfolding row_of entry_row decoded starts_of first_bad meaning_of
keeping_walks P n hi lo hi2 lo2 object there begins first init none up operand field free string class same own =
    rw (there, begins, first, init, none, up, operand, field, string, class, same, own, free) refl
