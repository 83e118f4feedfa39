-- When no instruction begins at a place.
use Rattle.std.proofs.Common.{◌≡◌, ℕ, ◌+◌, ◌-◌, ◌<◌, ◌≤◌, Bool, true, false, not, List, [], ◌∷◌, ◌++◌, length, get_or, map, replicate, refl, sym, ◌∙◌, ap, arith, Result, Ok, Err, cond, ◌⊎◌, inl, inr, length-append, IsTrue, eqb-true}
use Rattle.std.specs.Prelude.{◌==◌, is_ok}
use Rattle.std.proofs.lemmas.Bool.{cases_lt, false≢true, cond_below}
use Rattle.std.proofs.lemmas.List.{get_or-append_right, length-replicate}
use Rattle.std.proofs.lemmas.List.FromFn.{get_or-map-range_with_len}
use Rattle.std.specs.List.{range_with_len}
use Rattle.opcodes.specs.declared.instruction.Instr.{Instr}
use Rattle.opcodes.specs.declared.instruction.DecodeFault.{DecodeFault}
use Rattle.opcodes.specs.declared.instruction.DecodeFault.TheVariants.{NoOpcode, Short}
use Rattle.opcodes.specs.Bytes.{u1}
use Rattle.opcodes.specs.Fault.{is_unassigned, may_be_wide, IsNoOpcodeAt, IsWholeAt, PassesEnd}
use Rattle.opcodes.specs.Form.{UnsignedShort, Operands, Form, NotAnOpcode, Fixed, Widened, TableSwitch, LookupSwitch, Wide, one, local}
use Rattle.opcodes.specs.Instruction.{decoded, spelled_at, widened_at, within, fixed_at, table_switch_at, lookup_switch_at, default_place}
use Rattle.opcodes.specs.Row.{row_of}
use Rattle.opcodes.proofs.DecodeLemmas.{decoded-form, wide-inside, wide-end}
use Rattle.opcodes.proofs.ReadLemmas.{agree-append, agree-zeros, same_fixed, same_table_switch, same_lookup_switch, Ok-within}

-- tests that say the same of all bytes, say the same of each
pub same_at : (f g : ℕ → Bool) → map f (range_with_len 0 256) ≡ map g (range_with_len 0 256) → (byte : ℕ) → byte < 256 → f byte ≡ g byte
same_at f g e byte h =
    sym (get_or-map-range_with_len f 0 256 byte byte false h (omega arith))
    ∙ ap (λ (list : List Bool). get_or list byte false) e
    ∙ get_or-map-range_with_len g 0 256 byte byte false h (omega arith)

abbrev is_none : Form → Bool
is_none NotAnOpcode = true
is_none _ = false

abbrev pub is_widened : Form → Bool
is_widened (Widened plain widened) = true
is_widened _ = false

abbrev is_wide : Form → Bool
is_wide Wide = true
is_wide _ = false

-- computed over all bytes: which have no row, which have a form behind `wide`, and which is `wide`
none_where_unassigned : (byte : ℕ) → byte < 256 → is_none (row_of byte).form ≡ is_unassigned byte
unfolding row_of
none_where_unassigned = same_at (λ byte. is_none (row_of byte).form) is_unassigned refl

pub widened_where_wide : (byte : ℕ) → byte < 256 → is_widened (row_of byte).form ≡ may_be_wide byte
unfolding row_of
widened_where_wide = same_at (λ byte. is_widened (row_of byte).form) may_be_wide refl

wide_at_196 : (byte : ℕ) → byte < 256 → is_wide (row_of byte).form ≡ (byte == 196)
unfolding row_of
wide_at_196 = same_at (λ byte. is_wide (row_of byte).form) (λ byte. byte == 196) refl

pub form_196 : (row_of 196).form ≡ Wide
unfolding row_of
form_196 = refl

form_21 : (row_of 21).form ≡ local
unfolding row_of
form_21 = refl

none_form : (form : Form) → is_none form ≡ true → form ≡ NotAnOpcode
none_form NotAnOpcode e = refl
none_form (Fixed o) e = absurd (false≢true e)
none_form (Widened o w) e = absurd (false≢true e)
none_form TableSwitch e = absurd (false≢true e)
none_form LookupSwitch e = absurd (false≢true e)
none_form Wide e = absurd (false≢true e)

not_true : (b : Bool) → not b ≡ true → b ≡ false
not_true false e = refl
not_true true e = absurd (false≢true e)

-- ---- `NoOpcode`

abbrev no_opcode_fault : ℕ → Result Instr DecodeFault
no_opcode_fault byte = Err (NoOpcode byte)

no_opcode_test : (test : Bool) (found : Instr) (byte : ℕ) → cond test (Ok found) (Err Short) ≡ Err (NoOpcode byte) → ⊥
no_opcode_test true found byte e = cc
no_opcode_test false found byte e = cc

abbrev NoOpcodeHere : List ℕ → ℕ → ℕ → Form → Type 0
NoOpcodeHere code pc byte form =
    ((byte ≡ u1 code pc) × (is_none form ≡ true))
    ⊎ ((is_wide form ≡ true) × (pc + 1 < length code) × (byte ≡ u1 code (pc + 1)) × (is_widened (row_of (u1 code (pc + 1))).form ≡ false))

module _ (code : List ℕ) (pc byte : ℕ) where
  widened-NoOpcode : (form : Form) → within code pc (widened_at code pc form) ≡ Err (NoOpcode byte) → (byte ≡ u1 code (pc + 1)) × (is_widened form ≡ false)
  widened-NoOpcode NotAnOpcode e = (cc, refl)
  widened-NoOpcode (Fixed o) e = (cc, refl)
  widened-NoOpcode (Widened o w) e = absurd (no_opcode_test _ (fixed_at code pc true w) byte e)
  widened-NoOpcode TableSwitch e = (cc, refl)
  widened-NoOpcode LookupSwitch e = (cc, refl)
  widened-NoOpcode Wide e = (cc, refl)

  spelled-NoOpcode : (form : Form) → within code pc (spelled_at code pc form) ≡ Err (NoOpcode byte) → NoOpcodeHere code pc byte form
  spelled-NoOpcode NotAnOpcode e = inl (cc, refl)
  spelled-NoOpcode (Fixed o) e = absurd (no_opcode_test _ (fixed_at code pc false o) byte e)
  spelled-NoOpcode (Widened o w) e = absurd (no_opcode_test _ (fixed_at code pc false o) byte e)
  spelled-NoOpcode TableSwitch e = absurd (no_opcode_test _ (table_switch_at code pc) byte e)
  spelled-NoOpcode LookupSwitch e = absurd (no_opcode_test _ (lookup_switch_at code pc) byte e)
  spelled-NoOpcode Wide e = elim (cases_lt (pc + 1) (length code)) [
    | inl h ↦
        let form = (row_of (u1 code (pc + 1))).form in
        let found = widened-NoOpcode form (wide-inside code pc form h refl ∙ e) in
        inr (refl, h, found.0, found.1)
    | inr h ↦ let short = wide-end code pc h ∙ e in absurd (cc)
  ]

  pub IsNoOpcodeAt-decoded : ((k : ℕ) → u1 code k < 256) → decoded code pc ≡ Err (NoOpcode byte) → IsNoOpcodeAt code pc byte
  IsNoOpcodeAt-decoded range e =
      elim (spelled-NoOpcode (row_of (u1 code pc)).form (decoded-form code pc (row_of (u1 code pc)).form refl ∙ e)) [
        | inl w ↦ inl (w.0, ap is_unassigned w.0 ∙ sym (none_where_unassigned (u1 code pc) (range pc)) ∙ w.1)
        | inr w ↦ inr (
          eqb-true (u1 code pc) 196 (sym (wide_at_196 (u1 code pc) (range pc)) ∙ w.0),
          w.1,
          w.2,
          ap (λ (b : ℕ). not (may_be_wide b)) w.2 ∙ ap not (sym (widened_where_wide (u1 code (pc + 1)) (range (pc + 1))) ∙ w.3),
        )
      ]

  widened-none : (form : Form) → is_widened form ≡ false → within code pc (widened_at code pc form) ≡ Err (NoOpcode (u1 code (pc + 1)))
  widened-none NotAnOpcode e = refl
  widened-none (Fixed o) e = refl
  widened-none (Widened o w) e = absurd (false≢true (sym e))
  widened-none TableSwitch e = refl
  widened-none LookupSwitch e = refl
  widened-none Wide e = refl

  decoded-unassigned : u1 code pc < 256 → (byte ≡ u1 code pc) × IsTrue (is_unassigned byte) → decoded code pc ≡ Err (NoOpcode byte)
  decoded-unassigned range w =
      let test : is_none (row_of (u1 code pc)).form ≡ true = none_where_unassigned (u1 code pc) range ∙ ap is_unassigned (sym w.0) ∙ w.1 in
      sym (decoded-form code pc NotAnOpcode (sym (none_form (row_of (u1 code pc)).form test)))
      ∙ ap (λ (b : ℕ). no_opcode_fault b) (sym w.0)

  decoded-not_wide : u1 code (pc + 1) < 256 → (u1 code pc ≡ 196) × (pc + 1 < length code) × (byte ≡ u1 code (pc + 1)) × IsTrue (not (may_be_wide byte)) → decoded code pc ≡ Err (NoOpcode byte)
  decoded-not_wide range w =
      let form = (row_of (u1 code (pc + 1))).form in
      let here : (row_of (u1 code pc)).form ≡ Wide = ap (λ (b : ℕ). (row_of b).form) w.0 ∙ form_196 in
      let test : is_widened form ≡ false = widened_where_wide (u1 code (pc + 1)) range ∙ ap may_be_wide (sym w.2) ∙ not_true (may_be_wide byte) w.3 in
      sym (decoded-form code pc Wide (sym here))
      ∙ sym (wide-inside code pc form w.1 refl)
      ∙ widened-none form test
      ∙ ap (λ (b : ℕ). no_opcode_fault b) (sym w.2)

pub decoded-IsNoOpcodeAt : (code : List ℕ) (pc byte : ℕ) → ((k : ℕ) → u1 code k < 256) → IsNoOpcodeAt code pc byte → decoded code pc ≡ Err (NoOpcode byte)
decoded-IsNoOpcodeAt code pc byte range w = elim w [
  | inl w ↦ decoded-unassigned code pc byte (range pc) w
  | inr w ↦ decoded-not_wide code pc byte (range (pc + 1)) w
]

-- bytes behind a code give no opcode either
decoded-append_NoOpcode : (code more : List ℕ) (pc byte : ℕ) → pc < length code → ((k : ℕ) → u1 code k < 256) → IsNoOpcodeAt code pc byte → decoded (code ++ more) pc ≡ Err (NoOpcode byte)
decoded-append_NoOpcode code more pc byte inside range w =
    let same = agree-append 0 code more in
    elim w [
      | inl w ↦
          let e : u1 (code ++ more) pc ≡ u1 code pc = same.same pc (omega arith) inside in
          decoded-unassigned (code ++ more) pc byte (omega (arith, range pc, e)) (w.0 ∙ sym e, w.1)
      | inr w ↦
          let e : u1 (code ++ more) pc ≡ u1 code pc = same.same pc (omega arith) inside in
          let f : u1 (code ++ more) (pc + 1) ≡ u1 code (pc + 1) = same.same (pc + 1) (omega arith) w.1 in
          decoded-not_wide (code ++ more) pc byte (omega (arith, range (pc + 1), f)) (e ∙ w.0, omega (arith, w.1, length-append code more), w.2 ∙ sym f, w.3)
    ]

-- ---- `Short`

short_code : (r : Result Instr DecodeFault) → r ≡ Err Short → is_ok r ≡ true → ⊥
short_code r e w = false≢true (sym (ap is_ok e) ∙ w)

outcomes : (r : Result Instr DecodeFault) → ((i : Instr) × (r ≡ Ok i)) ⊎ (((byte : ℕ) × (r ≡ Err (NoOpcode byte))) ⊎ (r ≡ Err Short))
outcomes (Ok i) = inl (i, refl)
outcomes (Err (NoOpcode byte)) = inr (inl (byte, refl))
outcomes (Err Short) = inr (inr refl)

pub decoded-PassesEnd : (code : List ℕ) (pc : ℕ) → pc < length code → ((k : ℕ) → u1 code k < 256) → PassesEnd code pc → decoded code pc ≡ Err Short
decoded-PassesEnd code pc inside range w = elim (outcomes (decoded code pc)) [
  | inl (i, e) ↦ absurd (w.cut_off (ap is_ok e))
  | inr (inl (byte, e)) ↦
      let more_too = decoded-append_NoOpcode code w.more pc byte inside range (IsNoOpcodeAt-decoded code pc byte range e) in
      absurd (false≢true (sym (ap is_ok more_too) ∙ w.completed))
  | inr (inr e) ↦ e
]

module _ (code : List ℕ) (pc : ℕ) (inside : pc < length code) where
  -- enough bytes for an instruction that passes the end
  abbrev rest : Instr → List ℕ
  rest found = replicate (pc + found.length) 0

  abbrev Completed : Type 0
  Completed = (more : List ℕ) × IsWholeAt (code ++ more) pc

  abbrev ok : Instr → Result Instr DecodeFault
  ok found = Ok found

  completed : (found : Instr) (form : Form) → spelled_at (code ++ rest found) pc form ≡ Ok found → form ≡ (row_of (u1 code pc)).form → Completed
  completed found form e same =
      let new = code ++ rest found in
      let byte : u1 new pc ≡ u1 code pc = (agree-zeros (pc + 1) (pc + found.length) code).same pc (omega arith) (omega arith) in
      let fits : pc + found.length ≤ length new = omega (arith, length-append code (rest found), length-replicate {A = ℕ} (pc + found.length) 0) in
      let whole : decoded new pc ≡ Ok found =
      sym (decoded-form new pc form (same ∙ ap (λ (b : ℕ). (row_of b).form) (sym byte)))
      ∙ ap (within new pc) e ∙ Ok-within new pc found fits in
      (rest found, ap is_ok whole)

  short-fixed : (o : Operands) (found : Instr) → fixed_at code pc false o ≡ found → spelled_at (code ++ rest found) pc (Fixed o) ≡ Ok found
  short-fixed o found e =
      let n = pc + (fixed_at code pc false o).length in
      ap ok (same_fixed 0 n code (code ++ rest found) (agree-zeros n (pc + found.length) code) pc false o (omega arith) (omega arith) ∙ e)

  short-wide : (form : Form) → within code pc (widened_at code pc form) ≡ Err Short → form ≡ (row_of (u1 code (pc + 1))).form → pc + 1 < length code → Wide ≡ (row_of (u1 code pc)).form → Completed
  short-wide NotAnOpcode e same more wide = absurd (cc)
  short-wide (Fixed o) e same more wide = absurd (cc)
  short-wide (Widened o w) e same more wide =
      let found = fixed_at code pc true w in
      let new = code ++ rest found in
      let n = pc + 2 + found.length in
      let agree = agree-zeros n (pc + found.length) code in
      let byte : u1 new (pc + 1) ≡ u1 code (pc + 1) = agree.same (pc + 1) (omega arith) (omega arith) in
      let form : (row_of (u1 new (pc + 1))).form ≡ Widened o w = ap (λ (b : ℕ). (row_of b).form) byte ∙ sym same in
      completed found Wide
      (sym (cond_below (pc + 1) (length new) (widened_at new pc (row_of (u1 new (pc + 1))).form) (Err Short) (omega (arith, more, length-append code (rest found))))
      ∙ ap (widened_at new pc) form
      ∙ ap ok (same_fixed 0 n code new agree pc true w (omega arith) (omega arith)))
      wide
  short-wide TableSwitch e same more wide = absurd (cc)
  short-wide LookupSwitch e same more wide = absurd (cc)
  short-wide Wide e same more wide = absurd (cc)

  -- `wide` as the last byte: the code with `iload` and an index behind it
  short-end : length code ≤ pc + 1 → Wide ≡ (row_of (u1 code pc)).form → Completed
  short-end last wide =
      let more : List ℕ = 21 ∷ 0 ∷ 0 ∷ [] in
      let new = code ++ more in
      let byte : u1 new pc ≡ u1 code pc = (agree-append 0 code more).same pc (omega arith) inside in
      let at : pc + 1 - length code ≡ 0 = omega arith in
      let next : u1 new (pc + 1) ≡ 21 = get_or-append_right code more (length code) (pc + 1) 0 refl last ∙ ap (λ (k : ℕ). get_or more k 0) at in
      let form : local ≡ (row_of (u1 new (pc + 1))).form = sym (ap (λ (b : ℕ). (row_of b).form) next ∙ form_21) in
      let size : length new ≡ length code + 3 = length-append code more in
      let found = fixed_at new pc true (one UnsignedShort) in
      let whole : decoded new pc ≡ Ok found =
      sym (decoded-form new pc Wide (wide ∙ ap (λ (b : ℕ). (row_of b).form) (sym byte)))
      ∙ sym (wide-inside new pc local (omega arith) form)
      ∙ Ok-within new pc found (omega arith) in
      (more, ap is_ok whole)

  short-form : (form : Form) → within code pc (spelled_at code pc form) ≡ Err Short → form ≡ (row_of (u1 code pc)).form → Completed
  short-form NotAnOpcode e same = absurd (cc)
  short-form (Fixed o) e same = completed (fixed_at code pc false o) (Fixed o) (short-fixed o (fixed_at code pc false o) refl) same
  short-form (Widened o w) e same = completed (fixed_at code pc false o) (Widened o w) (short-fixed o (fixed_at code pc false o) refl) same
  short-form TableSwitch e same =
      let found = table_switch_at code pc in
      let n = pc + 1 + (default_place pc + 12) in
      completed found TableSwitch (ap ok (same_table_switch 0 n code (code ++ rest found) (agree-zeros n (pc + found.length) code) pc (omega arith) (omega arith) (omega arith))) same
  short-form LookupSwitch e same =
      let found = lookup_switch_at code pc in
      let n = pc + 1 + (default_place pc + 8) in
      completed found LookupSwitch (ap ok (same_lookup_switch 0 n code (code ++ rest found) (agree-zeros n (pc + found.length) code) pc (omega arith) (omega arith) (omega arith))) same
  short-form Wide e same = elim (cases_lt (pc + 1) (length code)) [
    | inl h ↦ short-wide (row_of (u1 code (pc + 1))).form (wide-inside code pc (row_of (u1 code (pc + 1))).form h refl ∙ e) refl h same
    | inr h ↦ short-end h same
  ]

pub PassesEnd-decoded : (code : List ℕ) (pc : ℕ) → pc < length code → decoded code pc ≡ Err Short → PassesEnd code pc
PassesEnd-decoded code pc inside e =
    let found = short-form code pc inside (row_of (u1 code pc)).form (decoded-form code pc (row_of (u1 code pc)).form refl ∙ e) refl in
    record { more = found.0; completed = found.1; cut_off = short_code (decoded code pc) e }
