-- What a microinstruction does to the method cache, to the stall and to the port.
use Rattle.std.proofs.Common.{◌≡◌, ◌≢◌, ℕ, ◌+◌, ◌%◌, ◌^◌, Bool, true, false, Option, refl, sym, ap, ◌∙◌}
use Rattle.std.specs.Prelude.{◌==◌, nat_lt, if◌then◌else◌, slice_index}
use Rattle.microcode.specs.declared.isa.operation.Operation.{Operation}
use Rattle.microcode.specs.declared.isa.operation.Operation.TheVariants.{Add, Stmra, Stbc, Jbr, Hltb, Hltu}
use Rattle.microcode.specs.declared.isa.Body.{Body}
use Rattle.microcode.specs.declared.isa.Body.TheVariants.{Plain, Stm, Ldm, Ldi, Bz, Bnz, Jmp}
use Rattle.microcode.specs.Isa.Operations.{operation_of}
use Rattle.machine_memory.specs.Timing.Port.{Port}
use Rattle.method_cache.specs.Contents.{is_cached}
use Rattle.base.specs.Signed.{holds}
use Rattle.jop_core.specs.declared.halt.Halt.TheVariants.{Ended, Uncaught}
use Rattle.jop_core.specs.State.{MachineState}
use Rattle.jop_core.specs.Operations.{popped, looked_up, can_switch, operated, after_binary, branch_target, word_at, pushed, stored}
use Rattle.jop_core.specs.Cycle.{branched, with_flags, performed}
use Rattle.circuit_cycles.proofs.Signals.{code_of, code_own, Says}
use Rattle.circuit_cycles.proofs.Rounds.{eqb_ne, eqb_eq}
use Rattle.circuit_cycles.proofs.Bodies.{body_does, body_taken}

-- ---- the flags

-- what no flag changes
pub record FlagsKeep (s t : MachineState) : Type 0 where
  pub a : t.a ≡ s.a
  pub cache : t.cache ≡ s.cache
  pub method : t.method ≡ s.method
  pub stall : t.stall ≡ s.stall
  pub port : t.port ≡ s.port

pub flags_keep : (body : Body) (opd nxt : Bool) (s : MachineState) → FlagsKeep s (with_flags (record { body = body; opd = opd; nxt = nxt }) s)
flags_keep body false false s = record { a = refl; cache = refl; method = refl; stall = refl; port = refl }
flags_keep body true false s = record { a = refl; cache = refl; method = refl; stall = refl; port = refl }
flags_keep body false true s = record { a = refl; cache = refl; method = refl; stall = refl; port = refl }
flags_keep body true true s = record { a = refl; cache = refl; method = refl; stall = refl; port = refl }

-- ---- microinstructions that switch no method

pub record Kept (s t : MachineState) : Type 0 where
  pub cache : t.cache ≡ s.cache
  pub method : t.method ≡ s.method
  pub stall : t.stall ≡ s.stall

if_kept : (b : Bool) (s t u : MachineState) → Kept s t → Kept s u → Kept s (if b then t else u)
if_kept true s t u first second = first
if_kept false s t u first second = second

operated_keeps : (input : Option ℕ) (op : Operation) (s : MachineState) → code_of op ≢ 41 → Kept s (operated input op s)
operated_keeps input Stbc s other = absurd (other refl)
operated_keeps input Jbr s other = by (holds s.opcode s.b s.a)
  where
    by : (b : Bool) → Kept s (if b then record (popped s) { jpc = branch_target s } else popped s)
    by true = record { cache = refl; method = refl; stall = refl }
    by false = record { cache = refl; method = refl; stall = refl }
operated_keeps input Hltb s other = if_kept (s.vp == 64) s (record s { halt = Ended }) s (record { cache = refl; method = refl; stall = refl }) (record { cache = refl; method = refl; stall = refl })
operated_keeps input Hltu s other = if_kept (s.vp == 64) s (record s { halt = Uncaught }) s (record { cache = refl; method = refl; stall = refl }) (record { cache = refl; method = refl; stall = refl })
operated_keeps input _ s other = record { cache = refl; method = refl; stall = refl }

-- what a microinstruction leaves that switches no method
pub record Leaves (taken : Bool) (s t : MachineState) : Type 0 where
  pub cache : t.cache ≡ s.cache
  pub method : t.method ≡ s.method
  pub stall : t.stall ≡ (if taken then 2 else s.stall)

flagged_leaves : (body : Body) (opd nxt : Bool) (s t : MachineState) → Kept s t → Leaves false s (with_flags (record { body = body; opd = opd; nxt = nxt }) t)
flagged_leaves body opd nxt s t h = let f = flags_keep body opd nxt t in record { cache = f.cache ∙ h.cache; method = f.method ∙ h.method; stall = f.stall ∙ h.stall }

branch_leaves : (taken : Bool) (to : ℕ) (s t : MachineState) → Kept s t → Leaves taken s (branched taken to t)
branch_leaves true to s t h = record { cache = h.cache; method = h.method; stall = refl }
branch_leaves false to s t h = record { cache = h.cache; method = h.method; stall = h.stall }

pub performed_leaves : (input : Option ℕ) (word : ℕ) (body : Body) (opd nxt : Bool) (s : MachineState) → Says word body → body_does 41 body ≡ false
    → Leaves (body_taken body s.a) s (performed input (record { body = body; opd = opd; nxt = nxt }) s)
performed_leaves input word (Plain code) opd nxt s said none =
    let other : code_of (operation_of code) ≢ 41 = λ e. let wrong = eqb_ne code 41 none in wrong (sym (code_own code said.2) ∙ e) in
    flagged_leaves (Plain code) opd nxt s (operated input (operation_of code) s) (operated_keeps input (operation_of code) s other)
performed_leaves input word (Stm place) opd nxt s said none = flagged_leaves (Stm place) opd nxt s (stored place s) (record { cache = refl; method = refl; stall = refl })
performed_leaves input word (Ldm place) opd nxt s said none = flagged_leaves (Ldm place) opd nxt s (pushed (word_at s place) s) (record { cache = refl; method = refl; stall = refl })
performed_leaves input word (Ldi number) opd nxt s said none = flagged_leaves (Ldi number) opd nxt s (pushed (word_at s (32 + number)) s) (record { cache = refl; method = refl; stall = refl })
performed_leaves input word (Bz to) opd nxt s said none = branch_leaves (s.a == 0) to s (popped s) (record { cache = refl; method = refl; stall = refl })
performed_leaves input word (Bnz to) opd nxt s said none = branch_leaves (nat_lt 0 s.a) to s (popped s) (record { cache = refl; method = refl; stall = refl })
performed_leaves input word (Jmp to) opd nxt s said none = branch_leaves true to s s (record { cache = refl; method = refl; stall = refl })

-- ---- the value that was read

looked_value : (hit : Bool) (m : ℕ) (s : MachineState) → (looked_up hit m s).port.value ≡ s.port.value
looked_value true m s = refl
looked_value false m s = refl

operated_value : (input : Option ℕ) (op : Operation) (s : MachineState) → code_of op ≢ 36 → (operated input op s).port.value ≡ s.port.value
operated_value input Stmra s other = absurd (other refl)
operated_value input Stbc s other = by (can_switch s s.a)
  where
    by : (b : Bool) → (if b then looked_up (is_cached s.a s.cache) s.a (popped s) else popped s).port.value ≡ s.port.value
    by true = looked_value (is_cached s.a s.cache) s.a (popped s)
    by false = refl
operated_value input Jbr s other = by (holds s.opcode s.b s.a)
  where
    by : (b : Bool) → (if b then record (popped s) { jpc = branch_target s } else popped s).port.value ≡ s.port.value
    by true = refl
    by false = refl
operated_value input Hltb s other = by (s.vp == 64)
  where
    by : (b : Bool) → (if b then record s { halt = Ended } else s).port.value ≡ s.port.value
    by true = refl
    by false = refl
operated_value input Hltu s other = by (s.vp == 64)
  where
    by : (b : Bool) → (if b then record s { halt = Uncaught } else s).port.value ≡ s.port.value
    by true = refl
    by false = refl
operated_value input _ s other = refl

flagged_value : (body : Body) (opd nxt : Bool) (s t : MachineState) → t.port.value ≡ s.port.value → (with_flags (record { body = body; opd = opd; nxt = nxt }) t).port.value ≡ s.port.value
flagged_value body opd nxt s t h = ap (λ (p : Port). p.value) (flags_keep body opd nxt t).port ∙ h

branch_value : (taken : Bool) (to : ℕ) (s t : MachineState) → t.port.value ≡ s.port.value → (branched taken to t).port.value ≡ s.port.value
branch_value true to s t h = h
branch_value false to s t h = h

pub performed_value : (input : Option ℕ) (word : ℕ) (body : Body) (opd nxt : Bool) (s : MachineState) → Says word body → body_does 36 body ≡ false
    → (performed input (record { body = body; opd = opd; nxt = nxt }) s).port.value ≡ s.port.value
performed_value input word (Plain code) opd nxt s said none =
    let other : code_of (operation_of code) ≢ 36 = λ e. let wrong = eqb_ne code 36 none in wrong (sym (code_own code said.2) ∙ e) in
    flagged_value (Plain code) opd nxt s (operated input (operation_of code) s) (operated_value input (operation_of code) s other)
performed_value input word (Stm place) opd nxt s said none = flagged_value (Stm place) opd nxt s (stored place s) refl
performed_value input word (Ldm place) opd nxt s said none = flagged_value (Ldm place) opd nxt s (pushed (word_at s place) s) refl
performed_value input word (Ldi number) opd nxt s said none = flagged_value (Ldi number) opd nxt s (pushed (word_at s (32 + number)) s) refl
performed_value input word (Bz to) opd nxt s said none = branch_value (s.a == 0) to s (popped s) refl
performed_value input word (Bnz to) opd nxt s said none = branch_value (nat_lt 0 s.a) to s (popped s) refl
performed_value input word (Jmp to) opd nxt s said none = branch_value true to s s refl

-- ---- one operation

-- a microinstruction that does the operation of a code is that one
pub plain_of : (code : ℕ) (body : Body) → body_does code body ≡ true → body ≡ Plain code
plain_of code (Plain other) h = ap (λ k. Plain k) (eqb_eq other code h)
plain_of code (Stm place) h = let bad : ⊥ = cc in absurd bad
plain_of code (Ldm place) h = let bad : ⊥ = cc in absurd bad
plain_of code (Ldi number) h = let bad : ⊥ = cc in absurd bad
plain_of code (Bz to) h = let bad : ⊥ = cc in absurd bad
plain_of code (Bnz to) h = let bad : ⊥ = cc in absurd bad
plain_of code (Jmp to) h = let bad : ⊥ = cc in absurd bad

-- a read gives the word at A's place
pub performed_read : (input : Option ℕ) (opd nxt : Bool) (s : MachineState) → (performed input (record { body = Plain 36; opd = opd; nxt = nxt }) s).port.value ≡ slice_index s.port.words s.a
performed_read input opd nxt s = ap (λ (p : Port). p.value) (flags_keep (Plain 36) opd nxt (operated input Stmra s)).port

-- an addition leaves the sum
pub performed_sum : (input : Option ℕ) (opd nxt : Bool) (s : MachineState) → (performed input (record { body = Plain 3; opd = opd; nxt = nxt }) s).a ≡ (s.b + s.a) % 2 ^ 32
performed_sum input opd nxt s = (flags_keep (Plain 3) opd nxt (after_binary Add s)).a
