-- A method whose instructions are checked, and what is found at a place of it: JVM Specification SE 8, 4.10.1.6.
-- For contracts within this crate alone: no public contract's meaning rests on this file.
use Rattle.std.specs.Prelude.{◌≡◌, ◌==◌, ◌||◌, not, nat_lt, ◌+◌, ℕ, Bool, true, List, length, map, Option, Some, Result, Ok, Err}
use Rattle.std.specs.Option.{option_map}
use Rattle.opcodes.specs.declared.instruction.Instr.{Instr}
use Rattle.bytecode_model.specs.Program.{Program, Handler, Method, Body, body_of}
use Rattle.bytecode_model.specs.Rows.{Row}
use Rattle.program_tables.specs.declared.operand.Instruction.{Instruction}
use Rattle.program_tables.specs.Meanings.{operand_seen, handler_seen, declared_seen}
use Rattle.program_tables.specs.Resolved.{resolved}
use Rattle.bytecode_typing.specs.Types.{VarType, TypeFrame}
use Rattle.bytecode_typing.specs.Rules as rules
use Rattle.bytecode_typing.specs.Walk as walk
use Rattle.verifier_types.specs.Frame.{frame_seen}
use Rattle.verifier_types.specs.Locals.{LocalTable, lists_seen}
use Rattle.verifier_types.specs.Site.{Site, rule_seen}
use Rattle.bytecode_verifier.specs.declared.rows.Checking.{Checking}
use Rattle.bytecode_verifier.specs.declared.place.Step.{Step}
use Rattle.bytecode_verifier.specs.declared.place.Step.TheVariants.{Breaks, Goes}
use Rattle.bytecode_verifier.specs.Handled.{HoldAlike, IsHeld}
use Rattle.bytecode_verifier.specs.Maps.{AreGiven}

-- the code of the method of this number is what is checked
pub record HasCode (c : Checking) (number : ℕ) : Type 0 where
  pub body : Body
  pub there : body_of (resolved c.program.now) number ≡ Some body
  pub code : body.code ≡ c.code.now

-- what is checked is the method m of this number with its body b, and the frames of its StackMapTable by place, the lists of types of local variables
-- being those of this table and perhaps others behind them
pub record IsMethodOf (t : LocalTable) (c : Checking) (number : ℕ) (m : Method) (b : Body) (given : ℕ → Option TypeFrame) : Type 0 where
  pub classes : t.classes ≡ c.program.now
  pub around : c.around.classes.now ≡ c.program.now
  pub owner : m.owner ≡ c.around.owner
  pub init : m.is_init ≡ c.around.is_init
  pub stands : c.around.number ≡ number
  pub maps : AreGiven (lists_seen t) c.maps.now given
  pub locals : b.max_locals ≡ c.max_locals
  pub stack : b.max_stack ≡ c.max_stack
  pub code : b.code ≡ c.code.now
  pub handlers : HoldAlike b.handlers (map handler_seen c.handlers.now.items.items)
  pub result : m.result ≡ option_map declared_seen c.result

-- the instruction at a place of the method of this number
pub record IsNamedAs (c : Checking) (number place : ℕ) (x : Instruction) : Type 0 where
  pub operand : (resolved c.program.now).operand number place ≡ operand_seen x.operand
  pub guarded : (resolved c.program.now).guarded number place ≡ x.guarded

-- the instruction at a place as a site
abbrev pub site_at : Checking → (number : ℕ) → Method → Body → (maps : ℕ → Option TypeFrame) → (place : ℕ) → Site
site_at c n m b maps place = record { program = resolved c.program.now; number = n; method = m; body = b; maps = maps; place = place }

-- control doesn't pass the end of the code behind the instruction
abbrev pub stays_within : (code : List ℕ) → (place : ℕ) → Instr → Option Row → Bool
stays_within code place i row = i.op == 171 || not (walk.falls_through row) || nat_lt (place + i.length) (length code)

-- the rule that fails, or the frame that falls into the next instruction
abbrev pub behind : walk.Verdict → Result (Option TypeFrame) rules.Rule
behind (walk.Breaks r) = Err r
behind (walk.Passes f after) = Ok after

abbrev pub step_seen : List (List VarType) → Step → Result (Option TypeFrame) rules.Rule
step_seen ls (Breaks rule) = Err (rule_seen rule)
step_seen ls (Goes frame held) = Ok (option_map (frame_seen ls) frame)

-- the handlers that cover the place take the frame that falls into the next instruction, where that is said
abbrev pub IsHeldBehind : List (List VarType) → Program → (frames : ℕ → Option TypeFrame) → (place : ℕ) → Step → List Handler → Type 0
IsHeldBehind ls P frames place (Goes frame true) hs = IsHeld P frames (Some place) (option_map (frame_seen ls) frame) hs
IsHeldBehind ls P frames place step hs = Unit {0}
