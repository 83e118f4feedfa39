-- What the decoded microinstructions mean.
use Rattle.std.specs.Prelude.{ℕ, ◌+◌, ◌<◌, Bool, false, Some, None}
use Rattle.std.specs.declared.option.Option.{Option}
use Rattle.microcode.specs.declared.isa.Body.{Body}
use Rattle.microcode.specs.declared.isa.Body.TheVariants as body
use Rattle.microcode.specs.declared.isa.Micro.{Micro}
use Rattle.microcode.specs.Isa.Operations.{operation_of}
use Rattle.jop_core.specs.declared.steps.Action.{Action}
use Rattle.jop_core.specs.declared.steps.Action.TheVariants.{Nop, Pop, Dup, Add, Sub, And, Or, Xor, Shl, Shr, Ushr, Mul, Slt, Sltu, Ldo, Ldo8, Ldo16, Ldl, Stl}
use Rattle.jop_core.specs.declared.steps.Action.TheVariants.{Ld0, Ld1, Ld2, Ld3, St0, St1, St2, St3, Ldvp, Stvp, Ldsp, Stsp, Ldjpc, Stjpc, Star, Ldmi, Stmi}
use Rattle.jop_core.specs.declared.steps.Action.TheVariants.{Stmra, Stmwa, Stmwd, Wait, Ldmrd, Stbc, Jbr, Jbg, Ldin, Stout, Hltb, Hltu, Stm, Ldm, Ldi, Bz, Bnz}
use Rattle.jop_core.specs.declared.steps.Action.TheVariants.{Jmp}
use Rattle.jop_core.specs.declared.steps.Flags.{Flags}
use Rattle.jop_core.specs.declared.steps.Step.{Step}
use Rattle.jop_core.specs.State.{MachineState}
use Rattle.jop_core.specs.Operations.{pushed, popped, stored, word_at, operated}

-- the body of a microinstruction that does this
abbrev pub body_of : Action → Body
body_of Nop = body.Plain 0
body_of Pop = body.Plain 1
body_of Dup = body.Plain 2
body_of Add = body.Plain 3
body_of Sub = body.Plain 4
body_of And = body.Plain 5
body_of Or = body.Plain 6
body_of Xor = body.Plain 7
body_of Shl = body.Plain 8
body_of Shr = body.Plain 9
body_of Ushr = body.Plain 10
body_of Mul = body.Plain 11
body_of Slt = body.Plain 12
body_of Sltu = body.Plain 13
body_of Ldo = body.Plain 14
body_of Ldo8 = body.Plain 15
body_of Ldo16 = body.Plain 16
body_of Ldl = body.Plain 17
body_of Stl = body.Plain 18
body_of Ld0 = body.Plain 19
body_of Ld1 = body.Plain 20
body_of Ld2 = body.Plain 21
body_of Ld3 = body.Plain 22
body_of St0 = body.Plain 23
body_of St1 = body.Plain 24
body_of St2 = body.Plain 25
body_of St3 = body.Plain 26
body_of Ldvp = body.Plain 27
body_of Stvp = body.Plain 28
body_of Ldsp = body.Plain 29
body_of Stsp = body.Plain 30
body_of Ldjpc = body.Plain 31
body_of Stjpc = body.Plain 32
body_of Star = body.Plain 33
body_of Ldmi = body.Plain 34
body_of Stmi = body.Plain 35
body_of Stmra = body.Plain 36
body_of Stmwa = body.Plain 37
body_of Stmwd = body.Plain 38
body_of Wait = body.Plain 39
body_of Ldmrd = body.Plain 40
body_of Stbc = body.Plain 41
body_of Jbr = body.Plain 42
body_of Jbg = body.Plain 43
body_of Ldin = body.Plain 44
body_of Stout = body.Plain 45
body_of Hltb = body.Plain 46
body_of Hltu = body.Plain 47
body_of (Stm place) = body.Stm place
body_of (Ldm place) = body.Ldm place
body_of (Ldi number) = body.Ldi number
body_of (Bz to) = body.Bz to
body_of (Bnz to) = body.Bnz to
body_of (Jmp to) = body.Jmp to

abbrev pub has_opd : Option Flags → Bool
has_opd None = false
has_opd (Some flags) = flags.opd

abbrev pub has_nxt : Option Flags → Bool
has_nxt None = false
has_nxt (Some flags) = flags.nxt

abbrev pub meaning : Step → Micro
meaning step = record { body = body_of step.action; opd = has_opd step.flags; nxt = has_nxt step.flags }

-- where it branches, it does so to an address of the ROM
abbrev pub HasTarget : Action → Type 0
HasTarget (Bz to) = to < 2048
HasTarget (Bnz to) = to < 2048
HasTarget (Jmp to) = to < 2048
HasTarget _ = Unit {0}

-- what a microinstruction that doesn't branch does, apart from its flags
abbrev pub acted : (input : Option ℕ) → Body → MachineState → MachineState
acted input (body.Plain code) s = operated input (operation_of code) s
acted input (body.Stm place) s = stored place s
acted input (body.Ldm place) s = pushed (word_at s place) s
acted input (body.Ldi number) s = pushed (word_at s (32 + number)) s
acted input _ s = s

-- pops, and sets A
abbrev pub replaced : ℕ → MachineState → MachineState
replaced word s = record (popped s) { a = word }
