-- An instruction has what isn't supported only where its opcode says so.
use Rattle.std.proofs.Common.{◌≡◌, ℕ, Bool, true, false, not, ◌&&◌, ◌||◌, ◌==◌, List, [], ◌++◌, None, Result, Ok, Err, refl, sym, ap, ap₂, ◌∙◌}
use Rattle.std.specs.Prelude.{if◌then◌else◌}
use Rattle.std.specs.Option.{option_map, option_map_or}
use Rattle.std.proofs.lemmas.Bool.{false≢true}
use Rattle.bytecode_model.specs.Program.{as_instr}
use Rattle.class_pool.specs.declared.class.ClassFile.{ClassFile}
use Rattle.opcodes.specs.declared.instruction.Instr.{Instr}
use Rattle.opcodes.specs.declared.instruction.DecodeFault.{DecodeFault}
use Rattle.opcodes.specs.Instruction.{decoded}
use Rattle.opcodes.specs.Row.{row_of}
use Rattle.lists.specs.Lists.{first}
use Rattle.program_tables.specs.Core.{is_io}
use Rattle.program_tables.specs.Instructions.{placed_at, named_in}
use Rattle.program_tables.specs.Naming.{NamesNothing, IsOpcodeAt}
use Rattle.program_tables.specs.declared.refusal.Item.{Item}
use Rattle.program_tables.specs.declared.refusal.Item.TheVariants.{Opcode}
use Rattle.program_tables.specs.declared.refusal.Site.TheVariants as sites
use Rattle.program_tables.specs.Unsupported.{is_of_devices, is_refused_opcode, items_where, items_of_named, items_of_newarray, sited}
use Rattle.class_checks.specs.Causes.{refused_opcode, instruction_items, unsupported_at, HasNoItems}

-- ---- one opcode

refused_by : (unsupported devices in_io : Bool) → (unsupported || (devices && true)) ≡ false → (unsupported || (devices && not in_io)) ≡ false
refused_by true devices in_io h = h
refused_by false true in_io h = absurd (false≢true (sym h))
refused_by false false in_io h = refl

no_refused : (in_io : Bool) (op : ℕ) → refused_opcode false op ≡ false → is_refused_opcode in_io op ≡ false
unfolding refused_opcode
no_refused in_io op h = refused_by (not (row_of op).supported) (is_of_devices op) in_io h

pub not_wide : (op : ℕ) → refused_opcode false op ≡ false → op ≡ 196 → ⊥
unfolding refused_opcode row_of
not_wide op h is = false≢true (sym h ∙ ap (λ n. is_refused_opcode false n) is)

no_array : (b : Bool) (xs : List Item) → b ≡ false → (if b then xs else []) ≡ []
no_array true xs h = absurd (false≢true (sym h))
no_array false xs h = refl

pub no_items : (op : ℕ) → refused_opcode false op ≡ false → (op == 188) ≡ false → NamesNothing op → HasNoItems op
unfolding instruction_items
no_items op refused array nothing c i is =
    let opcode : items_where (is_refused_opcode (is_io c) i.op) (Opcode i.op) ≡ [] = no_array (is_refused_opcode (is_io c) i.op) _ (ap (is_refused_opcode (is_io c)) is ∙ no_refused (is_io c) op refused) in
    let made : items_of_newarray i ≡ [] = no_array (i.op == 188) _ (ap (λ n. n == 188) is ∙ array) in
    let named : items_of_named (named_in c i) ≡ [] = ap items_of_named (nothing c i is) in
    ap₂ (λ (xs ys : List Item). xs ++ ys) opcode (ap₂ (λ (xs ys : List Item). xs ++ ys) made named)

-- ---- at a place

pub nothing_at : (c : ClassFile) (method : ℕ) (code : List ℕ) (pc op : ℕ) → HasNoItems op → IsOpcodeAt code pc op → (op ≡ 196 → ⊥) → None ≡ first (option_map_or (unsupported_at c method) (placed_at code pc) [])
unfolding unsupported_at instruction_items
nothing_at c method code pc op none here other = by (decoded code pc) refl
  where
    by : (r : Result Instr DecodeFault) → decoded code pc ≡ r → None ≡ first (option_map_or (unsupported_at c method) (option_map (λ i. record { pc = pc; instr = i }) (as_instr r)) [])
    by (Ok i) e = ap (λ items. first (sited (sites.Code method pc) items)) (sym (none c i (here i e other)))
    by (Err fault) e = refl
