-- The instructions of a bare image, one behind another.
use Rattle.std.proofs.Common.{◌≡◌, ℕ, zero, suc, ◌+◌, ◌-◌, ◌^◌, ◌<◌, ◌≤◌, Bool, true, false, ◌==◌, ◌||◌, List, [], ◌∷◌, ◌++◌, length, drop, Option, Some, None, Result, Ok, Err, refl, sym, ◌∙◌, ap, subst, arith, add-one, add-zero, append_assoc, length-append, length-drop, drop-drop, le-leb, lt-ltb, ◌⊎◌, inl, inr, ⊎_elim}
use Rattle.std.specs.Prelude.{nat_le, nat_lt, if◌then◌else◌, is_some, slice_index, slice_index_or, IsSomeAnd}
use Rattle.std.proofs.Math.Seq.{drop-cons, drop-append_seam}
use Rattle.std.proofs.lemmas.List.{drop_all}
use Rattle.std.proofs.lemmas.Option.{slice_get_cases}
use Rattle.image_file.specs.declared.bare.shape.Shape.{Shape}
use Rattle.image_file.specs.Bare as image
use Rattle.image_file.specs.Bare.{BareContent, IsBareContent, Instruction, spelled, return_code}
use Rattle.opcodes.specs.declared.instruction.Instr.{Instr}
use Rattle.opcodes.specs.declared.instruction.DecodeFault.{DecodeFault}
use Rattle.opcodes.specs.declared.instruction.DecodeFault.TheVariants.{Short}
use Rattle.opcodes.specs.Bytes.{u1}
use Rattle.opcodes.specs.Form.{Fixed, Operands}
use Rattle.opcodes.specs.Row as opcodes
use Rattle.opcodes.specs.Instruction.{decoded, within, spelled_at, fixed_at}
use Rattle.opcodes.specs.Start.{IsStart, starts_of, starts_from, next_start, place_behind}
use Rattle.bytecode_model.specs.Lists.{onto}
use Rattle.bytecode_model.specs.Program.{Program, Body, NoOperand, as_instr}
use Rattle.bytecode_model.specs.Rows as rows
use Rattle.bytecode_model.specs.Rows.{Row}
use Rattle.bytecode_model.specs.Table.{row_of}
use Rattle.bytecode_model.specs.Steps.{row_in}
use Rattle.bytecode_typing.specs.Typed.{RaisesNothing}
use Rattle.bytecode_typing.specs.Bare.{bare_program, depth_behind, IsIntConstant, StayWithin, IsStraightLine}
use Rattle.machine_stands.specs.Bare as bare
use Rattle.machine_stands.specs.Simulates.{is_bare}
use Rattle.boundary.proofs.BareRows.{IsSilent, none, return_is, return_form, found}

-- ---- bytes

-- the byte at a place, and what is behind it
record ByteAt (code : List ℕ) (pc x : ℕ) (rest : List ℕ) : Type 0 where
  inside : pc < length code
  byte : slice_index code pc ≡ x
  behind : drop (pc + 1) code ≡ rest

byte_at-drop : (code : List ℕ) (pc x : ℕ) (rest : List ℕ) → drop pc code ≡ x ∷ rest → ByteAt code pc x rest
byte_at-drop code pc x rest is =
    ⊎_elim
    (λ here.
    let split : drop pc code ≡ slice_index code pc ∷ drop (suc pc) code = drop-cons code pc 0 here.1 in
    let both : slice_index code pc ∷ drop (suc pc) code ≡ x ∷ rest = sym split ∙ is in
    record {
      inside = here.1;
      byte = (let e : slice_index code pc ≡ x = cc in e);
      behind = ap (λ k. drop k code) (add-one pc) ∙ (let e : drop (suc pc) code ≡ rest = cc in e);
    })
    (λ past. absurd (let nothing : [] ≡ x ∷ rest = sym (drop_all pc code past.0) ∙ is in cc))
    (slice_get_cases code pc).1

-- ---- one instruction

decodes : (code : List ℕ) (pc op : ℕ) (o : Operands) → u1 code pc ≡ op → (opcodes.row_of op).form ≡ Fixed o → pc + (fixed_at code pc false o).length ≤ length code → decoded code pc ≡ Ok (fixed_at code pc false o)
unfolding decoded
decodes code pc op o is form ends =
    let i = fixed_at code pc false o in
    let fits : nat_le (pc + i.length) (length code) ≡ true = le-leb (pc + i.length) (length code) ends in
    ap (λ k. within code pc (spelled_at code pc (opcodes.row_of k).form)) is
    ∙ ap (λ f. within code pc (spelled_at code pc f)) form
    ∙ ap (λ (b : Bool). let r : Result Instr DecodeFault = if b then Ok i else Err Short in r) fits

module _ (b : Body) where
  abbrev P : Program
  P = bare_program b

  -- the instruction at a place, with its row and the place behind it
  row_is : (pc op : ℕ) (o : Operands) (r : Row) → u1 b.code pc ≡ op → decoded b.code pc ≡ Ok (fixed_at b.code pc false o) → row_of b.code (fixed_at b.code pc false o) NoOperand ≡ Some r
      → row_in P 0 pc ≡ Some (pc + (fixed_at b.code pc false o).length, r)
  row_is pc op o r is at row =
      let i = fixed_at b.code pc false o in
      ap (λ x. onto (as_instr x) (λ i. onto (row_of b.code i NoOperand) (λ r. Some (pc + i.length, r)))) at
      ∙ ap (λ x. onto x (λ r. Some (pc + i.length, r))) row

opcode_at : (code : List ℕ) (pc op : ℕ) (o : Operands) → u1 code pc ≡ op → (fixed_at code pc false o).op ≡ op
opcode_at code pc op o is = ap (λ k. u1 code k) (add-zero pc) ∙ is

-- ---- all of them

module _ (i : BareContent) (bytes : (k : ℕ) → slice_index i.code k < 2 ^ 8) where
  abbrev b : Body
  b = bare.body_of i

  -- the opcode is one that a bare image may have, and only impdep2 puts something out
  abbrev pub IsBareAt : (pc : ℕ) → Type 0
  IsBareAt pc = (is_bare (u1 i.code pc) ≡ true) × IsSomeAnd (row_in (bare_program b) 0 pc) (λ x. RaisesNothing x.1 × ((u1 i.code pc ≡ 255) ⊎ IsSilent x.1))

  abbrev AreBare : List ℕ → Type 0
  AreBare [] = Unit {0}
  AreBare (pc ∷ pcs) = IsBareAt pc × AreBare pcs

  record Walked (pc d : ℕ) (places : List ℕ) : Type 0 where
    rest : List ℕ
    is : places ≡ pc ∷ rest
    stays : StayWithin b (pc ∷ rest) d
    each : AreBare (pc ∷ rest)

  some_row : (K : ℕ × Row → Type 0) (pc next : ℕ) (r : Row) → row_in (bare_program b) 0 pc ≡ Some (next, r) → K (next, r) → IsSomeAnd (row_in (bare_program b) 0 pc) K
  some_row K pc next r is h = subst (λ o. IsSomeAnd o K) (sym is) h

  no_more : (most : ℕ) → starts_from most i.code None ≡ []
  no_more zero = refl
  no_more (suc most) = refl

  -- the return at the end
  ends : (pc d most : ℕ) → drop pc i.code ≡ return_code ∷ [] → Walked pc d (starts_from (suc most) i.code (Some pc))
  ends pc d most at =
      let here = byte_at-drop i.code pc return_code [] at in
      let counts : length i.code - pc ≡ 1 = sym (length-drop pc i.code) ∙ ap length at in
      let inside = here.inside in
      let last : pc + 1 ≡ length i.code = omega (arith, counts, inside) in
      let whole = decodes i.code pc 177 none here.byte return_form (omega (arith, last)) in
      let row = row_is b pc 177 none (rows.Return None) here.byte whole (return_is i.code (fixed_at i.code pc false none) (opcode_at i.code pc 177 none here.byte)) in
      let past : nat_lt (pc + (fixed_at i.code pc false none).length) (length i.code) ≡ false = grind (arith, last) in
      let next : next_start i.code pc ≡ None = ap (place_behind i.code pc) whole ∙ ap (λ (t : Bool). if t then Some (pc + (fixed_at i.code pc false none).length) else None) past in
      record {
        rest = [];
        is = ap (λ (o : Option ℕ). pc ∷ starts_from most i.code o) next ∙ ap (λ (ps : List ℕ). pc ∷ ps) (no_more most);
        stays = some_row (λ x. x.1 ≡ rows.Return None) pc _ (rows.Return None) row refl;
        each = ((ap is_bare here.byte, some_row (λ x. RaisesNothing x.1 × ((u1 i.code pc ≡ 255) ⊎ IsSilent x.1)) pc _ (rows.Return None) row (tt, inr tt)), tt);
      }

  walk : (is : List Instruction) (pc d most : ℕ) → drop pc i.code ≡ spelled is ++ return_code ∷ [] → image.KeepLimits i.max_locals i.max_stack d is → length i.code ≤ pc + most → Walked pc d (starts_from most i.code (Some pc))
  walk is pc d zero at stay room = absurd (omega (arith, room, (inside_of is pc at)))
    where
      inside_of : (is : List Instruction) (pc : ℕ) → drop pc i.code ≡ spelled is ++ return_code ∷ [] → pc < length i.code
      inside_of [] pc at = (byte_at-drop i.code pc return_code [] at).inside
      inside_of (j ∷ js) pc at = (byte_at-drop i.code pc j.opcode ((j.operands ++ spelled js) ++ return_code ∷ []) at).inside
  walk [] pc d (suc most) at stay room = ends pc d most at
  walk (j ∷ js) pc d (suc most) at (t, fits, stay) room =
      let here = byte_at-drop i.code pc j.opcode ((j.operands ++ spelled js) ++ return_code ∷ []) at in
      let line = found j.opcode t fits.known in
      let o = line.operands in
      let instr = fixed_at i.code pc false o in
      let wide : instr.length ≡ 1 + t.bytes = omega (arith, line.width) in
      let rest : List ℕ = spelled js ++ return_code ∷ [] in
      let all : drop (pc + 1) i.code ≡ j.operands ++ rest = here.behind ∙ append_assoc j.operands (spelled js) (return_code ∷ []) in
      let counts : length i.code - (pc + 1) ≡ length j.operands + (length (spelled js) + 1) =
      sym (length-drop (pc + 1) i.code) ∙ ap length all ∙ length-append j.operands rest ∙ ap (λ k. length j.operands + k) (length-append (spelled js) (return_code ∷ [])) in
      let same : length j.operands ≡ t.bytes = fits.bytes in
      let inside = here.inside in
      let more : pc + instr.length < length i.code = omega (arith, wide, counts, same, inside) in
      let whole = decodes i.code pc j.opcode o here.byte line.form (omega (arith, more)) in
      let row = row_is b pc j.opcode o (line.row instr) here.byte whole (line.is i.code instr (opcode_at i.code pc j.opcode o here.byte)) in
      let q : ℕ = pc + instr.length in
      let on : nat_lt q (length i.code) ≡ true = lt-ltb q (length i.code) more in
      let next : next_start i.code pc ≡ Some q = ap (place_behind i.code pc) whole ∙ ap (λ (t : Bool). if t then Some q else None) on in
      let behind : drop q i.code ≡ rest =
      ap (λ k. drop k i.code) (let k : q ≡ (pc + 1) + length j.operands = omega (arith, wide, same) in k) ∙ sym (drop-drop (length j.operands) (pc + 1) i.code) ∙ ap (drop (length j.operands)) all ∙ drop-append_seam j.operands rest in
      let further = walk js q (d - t.pops + t.pushes) most behind stay (omega (arith, room, wide)) in
      let deep = line.depth b instr d fits.locals fits.pops fits.pushes in
      record {
        rest = q ∷ further.rest;
        is = ap (λ (x : Option ℕ). pc ∷ starts_from most i.code x) next ∙ ap (λ (ps : List ℕ). pc ∷ ps) further.is;
        stays = some_row (λ x. (x.0 ≡ q) × RaisesNothing x.1 × IsIntConstant x.1 × IsSomeAnd (depth_behind b x.1 d) (λ e. StayWithin b (q ∷ further.rest) e)) pc q (line.row instr) row
            (refl, line.quiet instr, line.constant i.code pc bytes, subst (λ o. IsSomeAnd o (λ e. StayWithin b (q ∷ further.rest) e)) (sym deep) further.stays);
        each = (
          (
            ap is_bare here.byte ∙ ap (λ (x : Option Shape). is_some x || j.opcode == return_code) fits.known,
            some_row (λ x. RaisesNothing x.1 × ((u1 i.code pc ≡ 255) ⊎ IsSilent x.1)) pc q (line.row instr) row (line.quiet instr, ⊎_elim (λ is. inl (here.byte ∙ is)) (λ silent. inr (silent instr)) line.silent),
          ),
          further.each,
        );
      }

  at_index : (pcs : List ℕ) (q k : ℕ) → k < length pcs → slice_index_or pcs k q ≡ q → AreBare pcs → IsBareAt q
  at_index [] q k l e h = absurd (omega arith)
  at_index (pc ∷ pcs) q zero l e h = subst IsBareAt e h.0
  at_index (pc ∷ pcs) q (suc k) l e h = at_index pcs q k (omega arith) e h.1

  module _ (grammar : IsBareContent i) where
    first_walk : Walked 0 0 (starts_from (length i.code) i.code (Some 0))
    first_walk = walk grammar.instructions 0 0 (length i.code) grammar.code grammar.within (omega arith)

    starts_are : starts_of i.code ≡ 0 ∷ first_walk.rest
    unfolding starts_of
    starts_are =
        let some : length i.code ≡ length (spelled grammar.instructions) + 1 = ap length grammar.code ∙ length-append (spelled grammar.instructions) (return_code ∷ []) in
        let inside : nat_lt 0 (length i.code) ≡ true = lt-ltb 0 (length i.code) (omega (arith, some)) in
        ap (λ (t : Bool). starts_from (length i.code) i.code (if t then Some 0 else None)) inside ∙ first_walk.is

    pub bare_body : IsStraightLine b
    bare_body = record { handlers = refl; within = subst (λ ps. StayWithin b ps 0) (sym starts_are) first_walk.stays }

    pub bare_at : (pc : ℕ) → IsStart i.code pc → IsBareAt pc
    bare_at pc (k, l, e) =
        at_index (0 ∷ first_walk.rest) pc k (subst (λ ps. k < length ps) starts_are l) (ap (λ ps. slice_index_or ps k pc) (sym starts_are) ∙ e) first_walk.each
