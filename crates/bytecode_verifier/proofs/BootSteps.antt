-- The instructions of the class that is run: each is decoded where its bytes stand, and no rule of the verifier fails there.
use Rattle.std.proofs.Common.{◌≡◌, ℕ, zero, suc, ◌+◌, ◌*◌, ◌^◌, ◌<◌, ◌≤◌, Bool, true, false, not, List, [], ◌∷◌, ◌++◌, length, drop, Option, Some, None, Result, Ok, Err, refl, sym, ◌∙◌, ap, ap₂, subst, arith, add-one, add-zero, length-drop, le-leb, ltb-true, ⊎_elim}
use Rattle.std.specs.Prelude.{nat_le, nat_lt, if◌then◌else◌, slice_index, slice_get, pos, is_ok, find}
use Rattle.std.proofs.Math.Seq.{drop-cons}
use Rattle.std.proofs.lemmas.List.{drop_all}
use Rattle.std.proofs.lemmas.Option.{slice_get_cases}
use Rattle.core_classes.proofs.BootWalk.{index_number}
use Rattle.class_pool.specs.Spelling as spelling
use Rattle.opcodes.specs.declared.instruction.Instr.{Instr}
use Rattle.opcodes.specs.declared.instruction.DecodeFault.{DecodeFault}
use Rattle.opcodes.specs.declared.instruction.DecodeFault.TheVariants.{Short}
use Rattle.opcodes.specs.Bytes.{u1}
use Rattle.opcodes.specs.Form.{Absent, UnsignedShort, Fixed, Operands, one}
use Rattle.opcodes.specs.Row.{row_of}
use Rattle.opcodes.specs.Entry.{entry_row}
use Rattle.opcodes.specs.Instruction.{decoded, within, spelled_at, fixed_at}
use Rattle.opcodes.specs.Start.{starts_from, place_behind, next_start}
use Rattle.bytecode_model.specs.Types.{Reference, OfClass, OfReferences}
use Rattle.bytecode_model.specs.Program.{Program, Method, Body, AMethod, AType}
use Rattle.bytecode_model.specs.Table.{row_of as meaning_of}
use Rattle.bytecode_typing.specs.Types.{VarType, Integer, ReferenceTo, TypeFrame}
use Rattle.bytecode_typing.specs.Walk.{Verdict, Passes, Walked, Failed, Frames, with_frame, unless_failed, verdict_at, walk}
use Rattle.bytecode_verifier.specs.Failure.{walk_failure}
use Rattle.bytecode_verifier.proofs.CoreWalks.{nothing_mapped}

-- ---- bytes

-- the byte at a place, and what is behind it
record ByteAt (code : List ℕ) (pc x : ℕ) (rest : List ℕ) : Type 0 where
  inside : pc < length code
  byte : slice_index code pc ≡ x
  behind : drop (pc + 1) code ≡ rest

byte_at-drop : (code : List ℕ) (pc x : ℕ) (rest : List ℕ) → drop pc code ≡ x ∷ rest → ByteAt code pc x rest
byte_at-drop code pc x rest is =
    ⊎_elim
    (λ here.
    let split : drop pc code ≡ slice_index code pc ∷ drop (suc pc) code = drop-cons code pc 0 here.1 in
    let both : slice_index code pc ∷ drop (suc pc) code ≡ x ∷ rest = sym split ∙ is in
    record {
      inside = here.1;
      byte = (let e : slice_index code pc ≡ x = cc in e);
      behind = ap (λ k. drop k code) (add-one pc) ∙ (let e : drop (suc pc) code ≡ rest = cc in e);
    })
    (λ past. absurd (let nothing : [] ≡ x ∷ rest = sym (drop_all pc code past.0) ∙ is in cc))
    (slice_get_cases code pc).1

-- ---- one instruction

decodes : (code : List ℕ) (pc op : ℕ) (o : Operands) → u1 code pc ≡ op → (row_of op).form ≡ Fixed o → pc + (fixed_at code pc false o).length ≤ length code → decoded code pc ≡ Ok (fixed_at code pc false o)
unfolding decoded
decodes code pc op o is form ends =
    let i = fixed_at code pc false o in
    let fits : nat_le (pc + i.length) (length code) ≡ true = le-leb (pc + i.length) (length code) ends in
    ap (λ k. within code pc (spelled_at code pc (row_of k).form)) is
    ∙ ap (λ f. within code pc (spelled_at code pc f)) form
    ∙ ap (λ (b : Bool). let r : Result Instr DecodeFault = if b then Ok i else Err Short in r) fits

-- an instruction without operands, and one with an index
abbrev pub bare_instr : (op : ℕ) → Instr
bare_instr op = record { op = op; wide = false; length = 1; first = pos 0; second = pos 0; count = 0; table = 0 }

abbrev pub index_instr : (op index : ℕ) → Instr
index_instr op index = record { op = op; wide = false; length = 3; first = pos index; second = pos 0; count = 0; table = 0 }

-- the instruction at a place, and what is behind it
pub record StandsAt (code : List ℕ) (pc : ℕ) (i : Instr) (rest : List ℕ) : Type 0 where
  pub is : decoded code pc ≡ Ok i
  pub behind : drop (pc + i.length) code ≡ rest
  pub inside : pc + i.length + length rest ≡ length code

pub bare_at : (code : List ℕ) (pc op : ℕ) (rest : List ℕ) → (row_of op).form ≡ Fixed (one Absent) → drop pc code ≡ op ∷ rest → StandsAt code pc (bare_instr op) rest
bare_at code pc op rest form at =
    let here = byte_at-drop code pc op rest at in
    let inside = here.inside in
    let counts = sym (length-drop (pc + 1) code) ∙ ap length here.behind in
    let opcode : u1 code (pc + 0) ≡ op = ap (λ k. u1 code k) (add-zero pc) ∙ here.byte in
    let decode = decodes code pc op (one Absent) here.byte form (omega arith) in
    record {
      is = decode ∙ ap (λ k. let r : Result Instr DecodeFault = Ok (bare_instr k) in r) opcode;
      behind = here.behind;
      inside = omega (arith, counts, inside);
    }

pub index_at : (code : List ℕ) (pc op x : ℕ) (rest : List ℕ) → x < 2 ^ 16 → (row_of op).form ≡ Fixed (one UnsignedShort) → drop pc code ≡ op ∷ (spelling.u2 x ++ rest) → StandsAt code pc (index_instr op x) rest
index_at code pc op x rest small form at =
    let a = slice_index (spelling.u2 x) 0 in
    let b = slice_index (spelling.u2 x) 1 in
    let here = byte_at-drop code pc op (a ∷ b ∷ rest) at in
    let high = byte_at-drop code (pc + 1) a (b ∷ rest) here.behind in
    let low = byte_at-drop code (pc + 1 + 1) b rest high.behind in
    let inside = low.inside in
    let three : pc + 1 + 1 + 1 ≡ pc + 3 = omega arith in
    let behind : drop (pc + 3) code ≡ rest = ap (λ k. drop k code) (sym three) ∙ low.behind in
    let counts = sym (length-drop (pc + 3) code) ∙ ap length behind in
    let opcode : u1 code (pc + 0) ≡ op = ap (λ k. u1 code k) (add-zero pc) ∙ here.byte in
    let first : u1 code (pc + 0 + 1) * 256 + u1 code (pc + 0 + 1 + 1) ≡ x =
    ap (λ k. u1 code (k + 1) * 256 + u1 code (k + 1 + 1)) (add-zero pc) ∙ (ap₂ (λ (m n : ℕ). m * 256 + n) high.byte low.byte ∙ index_number x small) in
    let decode = decodes code pc op (one UnsignedShort) here.byte form (omega arith) in
    record {
      is = decode ∙ ap₂ (λ (k n : ℕ). let r : Result Instr DecodeFault = Ok (index_instr k n) in r) opcode first;
      behind = behind;
      inside = omega (arith, counts, inside);
    }

-- ---- what the verifier says of them

abbrev pub boot_body : List ℕ → Body
boot_body code = record { max_locals = 0; max_stack = 1; code = code; handlers = [] }

abbrev pub boot_here : (owner : ℕ) → List ℕ → Method
boot_here owner code = record { owner = owner; has_this = false; is_init = false; parameters = []; result = None; body = Some (boot_body code) }

abbrev pub with_stack : List VarType → TypeFrame
with_stack stack = record { locals = []; stack = stack; flag = false }

abbrev pub strings : VarType
strings = ReferenceTo (OfReferences (OfClass 3))

module _ (P : Program) (owner n : ℕ) (code : List ℕ) (there : slice_get P.methods n ≡ Some (boot_here owner code)) where
  abbrev pub verdict : (pc : ℕ) → List VarType → Verdict
  verdict pc stack = verdict_at P n (boot_here owner code) (boot_body code) nothing_mapped pc (Some (with_stack stack))

  pub call_passes : (pc x d k : ℕ) (callee : Method) → decoded code pc ≡ Ok (index_instr 184 x) → nat_lt (pc + 3) (length code) ≡ true → P.operand n pc ≡ AMethod d k → slice_get P.methods k ≡ Some callee → callee.parameters ≡ [] → callee.result ≡ None
      → verdict pc [] ≡ Passes (with_stack []) (Some (with_stack []))
  unfolding row_of entry_row meaning_of
  call_passes pc x d k callee decode fits operand method parameters result = rw (there, decode, fits, operand, method, parameters, result) refl

  pub constant_passes : (pc : ℕ) → decoded code pc ≡ Ok (bare_instr 3) → nat_lt (pc + 1) (length code) ≡ true → verdict pc [] ≡ Passes (with_stack []) (Some (with_stack (Integer ∷ [])))
  unfolding row_of entry_row meaning_of
  constant_passes pc decode fits = rw (there, decode, fits) refl

  pub array_passes : (pc x : ℕ) → decoded code pc ≡ Ok (index_instr 189 x) → nat_lt (pc + 3) (length code) ≡ true → P.operand n pc ≡ AType (OfClass 3) → verdict pc (Integer ∷ []) ≡ Passes (with_stack (Integer ∷ [])) (Some (with_stack (strings ∷ [])))
  unfolding row_of entry_row meaning_of
  array_passes pc x decode fits operand = rw (there, decode, fits, operand) refl

  pub main_passes : (pc x d k : ℕ) (callee : Method) → decoded code pc ≡ Ok (index_instr 184 x) → nat_lt (pc + 3) (length code) ≡ true → P.operand n pc ≡ AMethod d k → slice_get P.methods k ≡ Some callee → callee.parameters ≡ Reference (OfReferences (OfClass 3)) ∷ [] → callee.result ≡ None
      → P.extends 3 3 ≡ true → P.is_interface 3 ≡ false → verdict pc (strings ∷ []) ≡ Passes (with_stack (strings ∷ [])) (Some (with_stack []))
  unfolding row_of entry_row meaning_of
  main_passes pc x d k callee decode fits operand method parameters result same class = rw (there, decode, fits, operand, method, parameters, result, same, class) refl

  pub return_passes : (pc : ℕ) → decoded code pc ≡ Ok (bare_instr 177) → verdict pc [] ≡ Passes (with_stack []) None
  unfolding row_of entry_row meaning_of
  return_passes pc decode = rw (there, decode) refl

  -- ---- from a place on

  abbrev is_bad : ℕ → Bool
  is_bad pc = not (is_ok (decoded code pc))

  -- each instruction that begins at these places is whole, and no rule fails there
  pub record Passing (pcs : List ℕ) (falling : Option TypeFrame) : Type 0 where
    pub walked : walk_failure (walk P n (boot_here owner code) (boot_body code) nothing_mapped pcs falling) ≡ None
    pub whole : find is_bad pcs ≡ None

  pub none_passes : (most : ℕ) (falling : Option TypeFrame) → Passing (starts_from most code None) falling
  none_passes zero falling = record { walked = refl; whole = refl }
  none_passes (suc most) falling = record { walked = refl; whole = refl }

  frame_kept : (pc : ℕ) (f : TypeFrame) (w : Walked) → walk_failure w ≡ None → walk_failure (with_frame pc f w) ≡ None
  frame_kept pc f (Failed place r) h = h
  frame_kept pc f (Frames fs) h = refl

  pub step : (pc most : ℕ) (i : Instr) (rest : List ℕ) (stack : List VarType) (f : TypeFrame) (after : Option TypeFrame) → StandsAt code pc i rest → verdict pc stack ≡ Passes f after
      → ((m : ℕ) → 0 < length rest → Passing (starts_from m code (Some (pc + i.length))) after) → Passing (starts_from most code (Some pc)) (Some (with_stack stack))
  step pc zero i rest stack f after at passes later = record { walked = refl; whole = refl }
  step pc (suc most) i rest stack f after at passes later =
      let next : Passing (starts_from most code (next_start code pc)) after = subst (λ (o : Option ℕ). Passing (starts_from most code o) after) (sym (ap (place_behind code pc) at.is)) (chosen (nat_lt (pc + i.length) (length code)) refl) in
      record {
        walked =
            ap (λ (v : Verdict). walk_failure (unless_failed pc v (λ a. walk P n (boot_here owner code) (boot_body code) nothing_mapped (starts_from most code (next_start code pc)) a))) passes
            ∙ frame_kept pc f (walk P n (boot_here owner code) (boot_body code) nothing_mapped (starts_from most code (next_start code pc)) after) next.walked;
        whole = ap (λ (r : Result Instr DecodeFault). let o : Option ℕ = if not (is_ok r) then Some pc else find is_bad (starts_from most code (next_start code pc)) in o) at.is ∙ next.whole;
      }
    where
      chosen : (b : Bool) → nat_lt (pc + i.length) (length code) ≡ b → Passing (starts_from most code (if b then Some (pc + i.length) else None)) after
      chosen true e = let lt = ltb-true (pc + i.length) (length code) e in let inside = at.inside in later most (omega arith)
      chosen false e = none_passes most after
