-- The instructions of the class that is run, one behind another.
use Rattle.std.proofs.Common.{◌≡◌, ℕ, zero, suc, ◌+◌, ◌*◌, ◌^◌, ◌<◌, ◌≤◌, Bool, true, false, List, [], ◌∷◌, ◌++◌, length, drop, Option, Some, None, Result, Ok, Err, refl, sym, ◌∙◌, ap, ap₂, subst, arith, add-one, add-zero, length-drop, le-leb, ltb-true, ⊎_elim}
use Rattle.std.specs.Prelude.{nat_le, nat_lt, if◌then◌else◌, codes, slice_index, pos, option_map}
use Rattle.std.specs.List.{filter_map, cons_option, flat_map, AllByRecursion}
use Rattle.std.proofs.Math.Seq.{drop-cons}
use Rattle.std.proofs.lemmas.List.{drop_all}
use Rattle.std.proofs.lemmas.Option.{slice_get_cases}
use Rattle.class_pool.specs.Spelling as spelling
use Rattle.opcodes.specs.declared.instruction.Instr.{Instr}
use Rattle.opcodes.specs.declared.instruction.DecodeFault.{DecodeFault}
use Rattle.opcodes.specs.declared.instruction.DecodeFault.TheVariants.{Short}
use Rattle.opcodes.specs.Bytes.{u1}
use Rattle.opcodes.specs.Form.{Absent, UnsignedShort, Fixed, Operands, one}
use Rattle.opcodes.specs.Row.{row_of}
use Rattle.opcodes.specs.Instruction.{decoded, within, spelled_at, fixed_at}
use Rattle.opcodes.specs.Start.{starts_of, starts_from, place_behind}
use Rattle.bytecode_model.specs.Program.{as_instr}
use Rattle.class_making.specs.declared.item.Item.{Item}
use Rattle.class_making.specs.declared.item.Item.TheVariants.{Class, Method}
use Rattle.class_making.specs.Making.{index_of}
use Rattle.class_making.specs.Plans.{piece_bytes}
use Rattle.core_classes.specs.Core.{string_name, no_arguments, call_pieces, main_pieces, boot_pieces}
use Rattle.program_tables.specs.Instructions.{Placed, placed_at, instructions_in}

-- ---- bytes

-- the byte at a place, and what is behind it
record ByteAt (code : List ℕ) (pc x : ℕ) (rest : List ℕ) : Type 0 where
  inside : pc < length code
  byte : slice_index code pc ≡ x
  behind : drop (pc + 1) code ≡ rest

byte_at-drop : (code : List ℕ) (pc x : ℕ) (rest : List ℕ) → drop pc code ≡ x ∷ rest → ByteAt code pc x rest
byte_at-drop code pc x rest is =
    ⊎_elim
    (λ here.
    let split : drop pc code ≡ slice_index code pc ∷ drop (suc pc) code = drop-cons code pc 0 here.1 in
    let both : slice_index code pc ∷ drop (suc pc) code ≡ x ∷ rest = sym split ∙ is in
    record {
      inside = here.1;
      byte = (let e : slice_index code pc ≡ x = cc in e);
      behind = ap (λ k. drop k code) (add-one pc) ∙ (let e : drop (suc pc) code ≡ rest = cc in e);
    })
    (λ past. absurd (let nothing : [] ≡ x ∷ rest = sym (drop_all pc code past.0) ∙ is in cc))
    (slice_get_cases code pc).1

-- ---- one instruction

decodes : (code : List ℕ) (pc op : ℕ) (o : Operands) → u1 code pc ≡ op → (row_of op).form ≡ Fixed o → pc + (fixed_at code pc false o).length ≤ length code → decoded code pc ≡ Ok (fixed_at code pc false o)
unfolding decoded
decodes code pc op o is form ends =
    let i = fixed_at code pc false o in
    let fits : nat_le (pc + i.length) (length code) ≡ true = le-leb (pc + i.length) (length code) ends in
    ap (λ k. within code pc (spelled_at code pc (row_of k).form)) is
    ∙ ap (λ f. within code pc (spelled_at code pc f)) form
    ∙ ap (λ (b : Bool). let r : Result Instr DecodeFault = if b then Ok i else Err Short in r) fits

-- an instruction without operands, and one with an index
abbrev pub bare_instr : (op : ℕ) → Instr
bare_instr op = record { op = op; wide = false; length = 1; first = pos 0; second = pos 0; count = 0; table = 0 }

abbrev pub index_instr : (op index : ℕ) → Instr
index_instr op index = record { op = op; wide = false; length = 3; first = pos index; second = pos 0; count = 0; table = 0 }

-- the instruction at a place, and what is behind it
record StandsAt (code : List ℕ) (pc : ℕ) (i : Instr) (rest : List ℕ) : Type 0 where
  is : decoded code pc ≡ Ok i
  behind : drop (pc + i.length) code ≡ rest
  inside : pc + i.length + length rest ≡ length code

bare_at : (code : List ℕ) (pc op : ℕ) (rest : List ℕ) → (row_of op).form ≡ Fixed (one Absent) → drop pc code ≡ op ∷ rest → StandsAt code pc (bare_instr op) rest
bare_at code pc op rest form at =
    let here = byte_at-drop code pc op rest at in
    let inside = here.inside in
    let counts = sym (length-drop (pc + 1) code) ∙ ap length here.behind in
    let opcode : u1 code (pc + 0) ≡ op = ap (λ k. u1 code k) (add-zero pc) ∙ here.byte in
    let decode = decodes code pc op (one Absent) here.byte form (omega arith) in
    record {
      is = decode ∙ ap (λ k. let r : Result Instr DecodeFault = Ok (bare_instr k) in r) opcode;
      behind = here.behind;
      inside = omega (arith, counts, inside);
    }

pub index_number : (x : ℕ) → x < 2 ^ 16 → slice_index (spelling.u2 x) 0 * 256 + slice_index (spelling.u2 x) 1 ≡ x
index_number x lt = omega arith

index_at : (code : List ℕ) (pc op x : ℕ) (rest : List ℕ) → x < 2 ^ 16 → (row_of op).form ≡ Fixed (one UnsignedShort) → drop pc code ≡ op ∷ (spelling.u2 x ++ rest) → StandsAt code pc (index_instr op x) rest
index_at code pc op x rest small form at =
    let a = slice_index (spelling.u2 x) 0 in
    let b = slice_index (spelling.u2 x) 1 in
    let here = byte_at-drop code pc op (a ∷ b ∷ rest) at in
    let high = byte_at-drop code (pc + 1) a (b ∷ rest) here.behind in
    let low = byte_at-drop code (pc + 1 + 1) b rest high.behind in
    let inside = low.inside in
    let three : pc + 1 + 1 + 1 ≡ pc + 3 = omega arith in
    let behind : drop (pc + 3) code ≡ rest = ap (λ k. drop k code) (sym three) ∙ low.behind in
    let counts = sym (length-drop (pc + 3) code) ∙ ap length behind in
    let opcode : u1 code (pc + 0) ≡ op = ap (λ k. u1 code k) (add-zero pc) ∙ here.byte in
    let first : u1 code (pc + 0 + 1) * 256 + u1 code (pc + 0 + 1 + 1) ≡ x =
    ap (λ k. u1 code (k + 1) * 256 + u1 code (k + 1 + 1)) (add-zero pc) ∙ (ap₂ (λ (m n : ℕ). m * 256 + n) high.byte low.byte ∙ index_number x small) in
    let decode = decodes code pc op (one UnsignedShort) here.byte form (omega arith) in
    record {
      is = decode ∙ ap₂ (λ (k n : ℕ). let r : Result Instr DecodeFault = Ok (index_instr k n) in r) opcode first;
      behind = behind;
      inside = omega (arith, counts, inside);
    }

-- ---- all from a place on

module _ (Q : Instr → Type 0) (code : List ℕ) where
  abbrev placed : (pc : ℕ) → Instr → Placed
  placed pc i = record { pc = pc; instr = i }

  -- it holds of each instruction from the place on
  abbrev pub Each : (most : ℕ) → Option ℕ → Type 0
  Each most place = AllByRecursion (λ (p : Placed). Q p.instr) (filter_map (placed_at code) (starts_from most code place))

  no_more : (most : ℕ) → Each most None
  no_more zero = tt
  no_more (suc most) = tt

  step : (pc most : ℕ) (i : Instr) (rest : List ℕ) → StandsAt code pc i rest → Q i → ((m : ℕ) → 0 < length rest → Each m (Some (pc + i.length))) → Each most (Some pc)
  step pc zero i rest at q later = tt
  step pc (suc most) i rest at q later =
      let P : Result Instr DecodeFault → Type 0 =
      λ r. AllByRecursion (λ (p : Placed). Q p.instr) (cons_option (option_map (placed pc) (as_instr r)) (filter_map (placed_at code) (starts_from most code (place_behind code pc r)))) in
      subst P (sym at.is) (q, chosen (nat_lt (pc + i.length) (length code)) refl)
    where
      chosen : (b : Bool) → nat_lt (pc + i.length) (length code) ≡ b → Each most (if b then Some (pc + i.length) else None)
      chosen true e = let lt = ltb-true (pc + i.length) (length code) e in let inside = at.inside in later most (omega arith)
      chosen false e = no_more most

-- ---- the code that calls

abbrev pub call_item : List ℕ → Item
call_item name = Method name (codes "<clinit>") no_arguments

abbrev pub main_item : List ℕ → Item
main_item name = Method name (codes "main") (codes "([Ljava/lang/String;)V")

module _ (Q : Instr → Type 0) (items : List Item) (fits : (x : Item) → index_of items x < 2 ^ 16) (main : List ℕ) where
  -- it holds of what calls main
  pub record HoldsOfMain : Type 0 where
    pub constant : Q (bare_instr 3)
    pub array : Q (index_instr 189 (index_of items (Class string_name)))
    pub call : Q (index_instr 184 (index_of items (main_item main)))
    pub end : Q (bare_instr 177)

  abbrev bytes_of : List (List ℕ) → List ℕ
  bytes_of calls = flat_map (piece_bytes items) (flat_map call_pieces calls ++ main_pieces main)

  constant_form : (row_of 3).form ≡ Fixed (one Absent)
  unfolding row_of
  constant_form = refl

  return_form : (row_of 177).form ≡ Fixed (one Absent)
  unfolding row_of
  return_form = refl

  array_form : (row_of 189).form ≡ Fixed (one UnsignedShort)
  unfolding row_of
  array_form = refl

  call_form : (row_of 184).form ≡ Fixed (one UnsignedShort)
  unfolding row_of
  call_form = refl

  main_walk : (code : List ℕ) (pc most : ℕ) → drop pc code ≡ bytes_of [] → HoldsOfMain → Each Q code most (Some pc)
  unfolding main_pieces
  main_walk code pc most at h =
      let string : ℕ = index_of items (Class string_name) in
      let method : ℕ = index_of items (main_item main) in
      let last : List ℕ = 177 ∷ [] in
      let third : List ℕ = 184 ∷ (spelling.u2 method ++ last) in
      let second : List ℕ = 189 ∷ (spelling.u2 string ++ third) in
      let a = bare_at code pc 3 second constant_form at in
      let b = index_at code (pc + 1) 189 string third (fits (Class string_name)) array_form a.behind in
      let c = index_at code (pc + 1 + 3) 184 method last (fits (main_item main)) call_form b.behind in
      let d = bare_at code (pc + 1 + 3 + 3) 177 [] return_form c.behind in
      step Q code pc most (bare_instr 3) second a h.constant (λ m _.
      step Q code (pc + 1) m (index_instr 189 string) third b h.array (λ n _.
      step Q code (pc + 1 + 3) n (index_instr 184 method) last c h.call (λ k _.
      step Q code (pc + 1 + 3 + 3) k (bare_instr 177) [] d h.end (λ j lt. absurd (omega arith)))))

  call_walk : (code : List ℕ) (calls : List (List ℕ)) (pc most : ℕ) → drop pc code ≡ bytes_of calls → AllByRecursion (λ name. Q (index_instr 184 (index_of items (call_item name)))) calls → HoldsOfMain → Each Q code most (Some pc)
  unfolding call_pieces
  call_walk code [] pc most at each h = main_walk code pc most at h
  call_walk code (name ∷ calls) pc most at each h =
      let x : ℕ = index_of items (call_item name) in
      let a = index_at code pc 184 x (bytes_of calls) (fits (call_item name)) call_form at in
      step Q code pc most (index_instr 184 x) (bytes_of calls) a each.0 (λ m _. call_walk code calls (pc + 3) m a.behind each.1 h)

  pub walk : (calls : List (List ℕ)) → AllByRecursion (λ name. Q (index_instr 184 (index_of items (call_item name)))) calls → HoldsOfMain
      → AllByRecursion (λ (p : Placed). Q p.instr) (instructions_in (flat_map (piece_bytes items) (boot_pieces calls main)))
  unfolding instructions_in starts_of boot_pieces
  walk calls each h = chosen (nat_lt 0 (length (bytes_of calls)))
    where
      chosen : (b : Bool) → Each Q (bytes_of calls) (length (bytes_of calls)) (if b then Some 0 else None)
      chosen true = call_walk (bytes_of calls) calls 0 (length (bytes_of calls)) refl each h
      chosen false = no_more Q (bytes_of calls) (length (bytes_of calls))
