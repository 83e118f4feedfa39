-- A call for the input, and one for the output, is what an opcode begins with: where it fails, the machine is where it was.
use Rattle.std.proofs.Common.{◌≡◌, ◌≢◌, ℕ, suc, zero, ◌+◌, ◌-◌, ◌%◌, ◌^◌, ◌<◌, ◌≤◌, ◌&&◌, ◌||◌, ◌==◌, not, Bool, true, false, nat_lt, if◌then◌else◌, List, [], ◌∷◌, ◌++◌, length, get_or, Option, Some, None, ⊎_elim, refl, sym, ap, ◌∙◌, subst, arith, ltb-true, ltb-false, eqb-true, eq-eqb, append-nil}
use Rattle.std.proofs.lemmas.Bool.{cases_lt}
use Rattle.microcode.specs.declared.isa.Body.{Body}
use Rattle.microcode.specs.declared.isa.Body.TheVariants.{Plain, Stm, Ldm, Ldi, Bz, Bnz, Jmp}
use Rattle.microcode.specs.declared.isa.Micro.{Micro}
use Rattle.microcode.specs.declared.isa.operation.Operation.{Operation}
use Rattle.microcode.specs.declared.isa.operation.Operation.TheVariants.{Nop, Pop, Dup, Add, Sub, And, Or, Xor, Shl, Shr, Ushr, Mul, Slt, Sltu, Ldo, Ldo8, Ldo16, Ldl, Stl, Ld0, Ld1, Ld2, Ld3, St0, St1, St2, St3, Ldvp, Stvp, Ldsp, Stsp, Ldjpc, Stjpc, Star, Ldmi, Stmi, Stmra, Stmwa, Stmwd, Wait, Ldmrd, Stbc, Jbr, Jbg, Ldin, Stout, Hltb, Hltu}
use Rattle.microcode.specs.Isa.Operations.{operation_of}
use Rattle.microcode.specs.Isa.Words.{micro_of}
use Rattle.microcode.specs.declared.TheConstants.{WORDS, ENTRIES, RAISE}
use Rattle.method_cache.specs.Contents.{is_cached}
use Rattle.jop_core.specs.declared.halt.Halt.TheVariants.{Running, Ended, Uncaught}
use Rattle.jop_core.specs.declared.places.TheConstants.{STACK}
use Rattle.jop_core.specs.State.{MachineState}
use Rattle.jop_core.specs.Operations.{popped, pushed, stored, word_at, looked_up, can_switch, switched, branch_target, holds, operated}
use Rattle.jop_core.specs.Cycle.{byte_at, entry_of, branched, with_opd, with_nxt, with_flags, performed, waits, ran, micro_at, counted, cycle_of, asks, asks_input, body_outputs, puts, output_of, at_boundary}
use Rattle.jop_core.specs.Scene.{Scene, begun, run, next_scene, given}
use Rattle.device_traits.specs.declared.fault.DeviceFault.TheVariants as faults
use Rattle.device_traits.specs.Told.{Told}
use Rattle.micro_sketch.specs.Step.{Broke}
use Rattle.bytecode_model.specs.declared.Ending.{Ending}
use Rattle.bytecode_model.specs.declared.Ending.TheVariants as modes
use Rattle.bytecode_model.specs.Program.{Program, Body as CodeBody}
use Rattle.bytecode_model.specs.State as bytecode
use Rattle.bytecode_typing.specs.Fits.{IsGoing}
use Rattle.image_facts.specs.Places.{Places}
use Rattle.machine_stands.specs.StandsFor.{IsAt}

-- ---- tests of the words

both : (a b : Bool) → (a && b) ≡ true → (a ≡ true) × (b ≡ true)
both true true h = (refl, refl)
both true false h = absurd (cc)
both false b h = absurd (cc)

-- the word at an address leads to this one by its flag `nxt` alone
abbrev pub on_by : (to : ℕ) → (at : ℕ) → Bool → Bool
on_by to at nxt = nxt || not ((at + 1) % 2048 == to)

abbrev pub off_by : (to : ℕ) → (at : ℕ) → (branch : ℕ) → Bool
off_by to at branch = not (branch == to) && (nat_lt branch 2048 && not ((at + 1) % 2048 == to))

abbrev pub body_avoids : (to : ℕ) → (at : ℕ) → (nxt : Bool) → Body → Bool
body_avoids to at nxt (Plain code) = on_by to at nxt
body_avoids to at nxt (Stm place) = on_by to at nxt
body_avoids to at nxt (Ldm place) = on_by to at nxt
body_avoids to at nxt (Ldi number) = on_by to at nxt
body_avoids to at nxt (Bz branch) = off_by to at branch
body_avoids to at nxt (Bnz branch) = off_by to at branch
body_avoids to at nxt (Jmp branch) = off_by to at branch

abbrev pub avoids : (to : ℕ) → (at : ℕ) → Option Micro → Bool
avoids to at None = true
avoids to at (Some m) = body_avoids to at m.nxt m.body

-- a test of each word, with its address
abbrev pub each : (test : ℕ → ℕ → Bool) → (at : ℕ) → List ℕ → Bool
each test at [] = true
each test at (word ∷ words) = test at word && each test (at + 1) words

each_at : (test : ℕ → ℕ → Bool) (at : ℕ) (words : List ℕ) → each test at words ≡ true → (k : ℕ) → k < length words → test (at + k) (get_or words k 0) ≡ true
each_at test at [] all k below = absurd (omega arith)
each_at test at (word ∷ words) all zero below =
    let same : at + 0 ≡ at = omega arith in ap (λ o. test o word) same ∙ (both (test at word) (each test (at + 1) words) all).0
each_at test at (word ∷ words) all (suc k) below =
    let same : at + suc k ≡ at + 1 + k = omega arith in
    ap (λ o. test o (get_or words k 0)) same ∙ each_at test (at + 1) words (both (test at word) (each test (at + 1) words) all).1 k (omega (arith, below))

at_word : (test : ℕ → ℕ → Bool) → each test 0 WORDS ≡ true → (k : ℕ) → k < length WORDS → test k (get_or WORDS k 0) ≡ true
at_word test all k below = let same : 0 + k ≡ k = omega arith in ap (λ o. test o (get_or WORDS k 0)) (sym same) ∙ each_at test 0 WORDS all k below

past : (xs : List ℕ) (k : ℕ) → length xs ≤ k → get_or xs k 0 ≡ 0
past [] k from = refl
past (x ∷ xs) zero from = absurd (omega arith)
past (x ∷ xs) (suc k) from = past xs k (omega (arith, from))

is_not : (a b : ℕ) → a ≢ b → not (a == b) ≡ true
is_not a b other = by (a == b) refl
  where
    by : (t : Bool) → (a == b) ≡ t → not t ≡ true
    by true e = absurd (other (eqb-true a b e))
    by false e = refl

is_other : (a b : ℕ) → not (a == b) ≡ true → a ≢ b
is_other a b out same = by (a == b) refl out
  where
    by : (t : Bool) → (a == b) ≡ t → not t ≡ true → ⊥
    by true e h = cc
    by false e h = let here : (a == b) ≡ true = subst (λ k. (a == k) ≡ true) same (eq-eqb a a refl) in let clash : true ≡ false = sym here ∙ e in cc

-- an address of the ROM behind which no word comes to it but by `nxt`
pub record IsApart (to : ℕ) : Type 0 where
  pub words : each (λ at word. avoids to at (micro_of word)) 0 WORDS ≡ true
  pub first : 1 ≤ to
  pub inside : to ≤ length WORDS

all_avoid : (to : ℕ) → IsApart to → (at : ℕ) → at < 2048 → avoids to at (micro_of (get_or WORDS at 0)) ≡ true
all_avoid to is at small =
    ⊎_elim
    (λ below. at_word (λ at word. avoids to at (micro_of word)) is.words at below)
    (λ from.
    let nop = past WORDS at from in
    let apart : (at + 1) % 2048 ≢ to = λ e. absurd (omega (arith, from, is.first, is.inside, e)) in
    ap (λ word. avoids to at (micro_of word)) nop ∙ is_not ((at + 1) % 2048) to apart)
    (cases_lt at (length WORDS))

-- ---- entries

short_entries : each (λ at entry. nat_lt entry 2048) 0 ENTRIES ≡ true
short_entries = refl

entry_is_short : (op : ℕ) → entry_of op < 2048
entry_is_short op =
    ⊎_elim
    (λ below. ltb-true (get_or ENTRIES op 0) 2048 (each_at (λ at entry. nat_lt entry 2048) 0 ENTRIES short_entries op below))
    (λ from. let none : get_or ENTRIES op 0 ≡ 0 = past ENTRIES op from in omega (arith, none))
    (cases_lt op (length ENTRIES))

-- ---- a cycle

-- the state is at the address only where its opcode's row begins there
pub record Keeps (to : ℕ) (s : MachineState) : Type 0 where
  pub small : s.mpc < 2048
  pub entered : s.mpc ≡ to → entry_of s.opcode ≡ to

either : (b : Bool) (x y : MachineState) (at : ℕ) → x.mpc ≡ at → y.mpc ≡ at → (if b then x else y).mpc ≡ at
either true x y at first second = first
either false x y at first second = second

looked_mpc : (hit : Bool) (m : ℕ) (s : MachineState) → (looked_up hit m s).mpc ≡ s.mpc
looked_mpc true m s = refl
looked_mpc false m s = refl

switched_mpc : (s : MachineState) → (switched s).mpc ≡ s.mpc
switched_mpc s = either (can_switch s s.a) (looked_up (is_cached s.a s.cache) s.a (popped s)) (popped s) s.mpc (looked_mpc (is_cached s.a s.cache) s.a (popped s)) refl

operated_mpc : (input : Option ℕ) (op : Operation) (s : MachineState) → (operated input op s).mpc ≡ s.mpc
operated_mpc input Nop s = refl
operated_mpc input Pop s = refl
operated_mpc input Dup s = refl
operated_mpc input Add s = refl
operated_mpc input Sub s = refl
operated_mpc input And s = refl
operated_mpc input Or s = refl
operated_mpc input Xor s = refl
operated_mpc input Shl s = refl
operated_mpc input Shr s = refl
operated_mpc input Ushr s = refl
operated_mpc input Mul s = refl
operated_mpc input Slt s = refl
operated_mpc input Sltu s = refl
operated_mpc input Ldo s = refl
operated_mpc input Ldo8 s = refl
operated_mpc input Ldo16 s = refl
operated_mpc input Ldl s = refl
operated_mpc input Stl s = refl
operated_mpc input Ld0 s = refl
operated_mpc input Ld1 s = refl
operated_mpc input Ld2 s = refl
operated_mpc input Ld3 s = refl
operated_mpc input St0 s = refl
operated_mpc input St1 s = refl
operated_mpc input St2 s = refl
operated_mpc input St3 s = refl
operated_mpc input Ldvp s = refl
operated_mpc input Stvp s = refl
operated_mpc input Ldsp s = refl
operated_mpc input Stsp s = refl
operated_mpc input Ldjpc s = refl
operated_mpc input Stjpc s = refl
operated_mpc input Star s = refl
operated_mpc input Ldmi s = refl
operated_mpc input Stmi s = refl
operated_mpc input Stmra s = refl
operated_mpc input Stmwa s = refl
operated_mpc input Stmwd s = refl
operated_mpc input Wait s = refl
operated_mpc input Ldmrd s = refl
operated_mpc input Stbc s = switched_mpc s
operated_mpc input Jbr s = either (holds s.opcode s.b s.a) (record (popped s) { jpc = branch_target s }) (popped s) s.mpc refl refl
operated_mpc input Jbg s = refl
operated_mpc input Ldin s = refl
operated_mpc input Stout s = refl
operated_mpc input Hltb s = either (s.vp == STACK) (record s { halt = Ended }) s s.mpc refl refl
operated_mpc input Hltu s = either (s.vp == STACK) (record s { halt = Uncaught }) s s.mpc refl refl

opd_mpc : (opd : Bool) (s : MachineState) → (with_opd opd s).mpc ≡ s.mpc
opd_mpc true s = refl
opd_mpc false s = refl

small_next : (at : ℕ) → (at + 1) % 2048 < 2048
small_next at = omega arith

-- behind a word without a branch
on : (to at : ℕ) (nxt opd : Bool) (x : MachineState) → x.mpc ≡ at → on_by to at nxt ≡ true → Keeps to (with_nxt nxt (with_opd opd x))
on to at true opd x here avoiding = record { small = entry_is_short (byte_at (with_opd opd x)); entered = λ same. same }
on to at false opd x here avoiding =
    let next : ((with_opd opd x).mpc + 1) % 2048 ≡ (at + 1) % 2048 = ap (λ k. (k + 1) % 2048) (opd_mpc opd x ∙ here) in
    record {
      small = small_next (with_opd opd x).mpc;
      entered = λ same. absurd (is_other ((at + 1) % 2048) to avoiding (sym next ∙ same));
    }

-- behind a branch
off : (to at branch : ℕ) (taken : Bool) (x : MachineState) → x.mpc ≡ at → off_by to at branch ≡ true → Keeps to (branched taken branch x)
off to at branch true x here avoiding =
    let parts = both (not (branch == to)) (nat_lt branch 2048 && not ((at + 1) % 2048 == to)) avoiding in
    record {
      small = ltb-true branch 2048 (both (nat_lt branch 2048) (not ((at + 1) % 2048 == to)) parts.1).0;
      entered = λ same. absurd (is_other branch to parts.0 same);
    }
off to at branch false x here avoiding =
    let parts = both (not (branch == to)) (nat_lt branch 2048 && not ((at + 1) % 2048 == to)) avoiding in
    let next : (x.mpc + 1) % 2048 ≡ (at + 1) % 2048 = ap (λ k. (k + 1) % 2048) here in
    record {
      small = small_next x.mpc;
      entered = λ same. absurd (is_other ((at + 1) % 2048) to (both (nat_lt branch 2048) (not ((at + 1) % 2048 == to)) parts.1).1 (sym next ∙ same));
    }

-- what a microinstruction does, by its body
abbrev pub performed_as : (input : Option ℕ) → Micro → Body → MachineState → MachineState
performed_as input m body s =
    elim body [
      | Plain code ↦ with_flags m (operated input (operation_of code) s)
      | Stm place ↦ with_flags m (stored place s)
      | Ldm place ↦ with_flags m (pushed (word_at s place) s)
      | Ldi number ↦ with_flags m (pushed (word_at s (32 + number)) s)
      | Bz to ↦ branched (s.a == 0) to (popped s)
      | Bnz to ↦ branched (nat_lt 0 s.a) to (popped s)
      | Jmp to ↦ branched true to s
    ]

performs : (to : ℕ) (input : Option ℕ) (m : Micro) (body : Body) (s : MachineState) → body_avoids to s.mpc m.nxt body ≡ true → Keeps to (performed_as input m body s)
performs to input m (Plain code) s avoiding = on to s.mpc m.nxt m.opd (operated input (operation_of code) s) (operated_mpc input (operation_of code) s) avoiding
performs to input m (Stm place) s avoiding = on to s.mpc m.nxt m.opd (stored place s) refl avoiding
performs to input m (Ldm place) s avoiding = on to s.mpc m.nxt m.opd (pushed (word_at s place) s) refl avoiding
performs to input m (Ldi number) s avoiding = on to s.mpc m.nxt m.opd (pushed (word_at s (32 + number)) s) refl avoiding
performs to input m (Bz branch) s avoiding = off to s.mpc branch (s.a == 0) (popped s) refl avoiding
performs to input m (Bnz branch) s avoiding = off to s.mpc branch (nat_lt 0 s.a) (popped s) refl avoiding
performs to input m (Jmp branch) s avoiding = off to s.mpc branch true s refl avoiding

keeps_either : (to : ℕ) (b : Bool) (x y : MachineState) → Keeps to x → Keeps to y → Keeps to (if b then x else y)
keeps_either to true x y first second = first
keeps_either to false x y first second = second

runs : (to : ℕ) (input : Option ℕ) (o : Option Micro) (s : MachineState) → Keeps to s → avoids to s.mpc o ≡ true → Keeps to (ran input o s)
runs to input None s keeps avoiding = keeps
runs to input (Some m) s keeps avoiding = keeps_either to (waits m s) s (performed input m s) keeps (performs to input m m.body s avoiding)

cycle_keeps : (to : ℕ) → IsApart to → (input : Option ℕ) (s : MachineState) → Keeps to s → Keeps to (cycle_of input s)
unfolding cycle_of
cycle_keeps to is input s keeps =
    let here : Keeps to (counted s) = record { small = keeps.small; entered = keeps.entered } in
    keeps_either to (nat_lt 0 s.stall) (record (counted s) { stall = s.stall - 1 }) (ran input (micro_at s) (counted s)) (record { small = keeps.small; entered = keeps.entered })
    (runs to input (micro_at s) (counted s) here (all_avoid to is s.mpc keeps.small))

pub run_keeps : (to : ℕ) → IsApart to → (k : ℕ) (c : Scene) → Keeps to c.state → Keeps to (run k c).state
run_keeps to is zero c keeps = keeps
run_keeps to is (suc k) c keeps = run_keeps to is k (next_scene c) (cycle_keeps to is (given (asks_input c.state) c.answers) c.state keeps)

-- ---- where the device is called

-- the one word that asks for the input, and the one that puts a byte out
abbrev pub reading : ℕ
reading = 1555

abbrev pub writing : ℕ
writing = 1556

reading_apart : IsApart reading
reading_apart = record { words = refl; first = omega arith; inside = omega arith }

writing_apart : IsApart writing
writing_apart = record { words = refl; first = omega arith; inside = omega arith }

abbrev putting : Option Micro → Bool
putting None = false
putting (Some m) = body_outputs m.body

or_right : (a b : Bool) → a ≡ true → (not a || b) ≡ true → b ≡ true
or_right true b here either = either
or_right false b here either = absurd (cc)

-- a test of microinstructions that only the word at this address passes
module _ (test : Option Micro → Bool) (to : ℕ) (only : each (λ at word. not (test (micro_of word)) || at == to) 0 WORDS ≡ true) (nop : test (micro_of 0) ≡ false) where
  only_there : (at : ℕ) → test (micro_of (get_or WORDS at 0)) ≡ true → at ≡ to
  only_there at here =
      ⊎_elim
      (λ below. eqb-true at to (or_right (test (micro_of (get_or WORDS at 0))) (at == to) here (at_word (λ at word. not (test (micro_of word)) || at == to) only at below)))
      (λ from. let clash : true ≡ false = sym here ∙ ap (λ word. test (micro_of word)) (past WORDS at from) ∙ nop in absurd (cc))
      (cases_lt at (length WORDS))

-- where the machine is, without a stall
pub record IsReady (to : ℕ) (s : MachineState) : Type 0 where
  pub still : s.stall ≡ 0
  pub at : s.mpc ≡ to

unstalled : (n : ℕ) → nat_lt 0 n ≡ false → n ≡ 0
unstalled n e = omega (arith, ltb-false 0 n e)

pub asks_there : (s : MachineState) → asks_input s ≡ true → IsReady reading s
unfolding asks_input
asks_there s asking = by (nat_lt 0 s.stall) refl asking
  where
    by : (b : Bool) → nat_lt 0 s.stall ≡ b → (if b then false else asks (micro_at s)) ≡ true → IsReady reading s
    by true e h = absurd (cc)
    by false e h = record { still = unstalled s.stall e; at = only_there asks reading refl refl s.mpc h }

puts_there : (o : Option Micro) (a : ℕ) → puts o a ≢ [] → putting o ≡ true
puts_there None a some = absurd (some refl)
puts_there (Some m) a some = by (body_outputs m.body) refl
  where
    by : (b : Bool) → body_outputs m.body ≡ b → b ≡ true
    by true e = refl
    by false e = absurd (some (ap (λ t. if t then a % 2 ^ 8 ∷ [] else []) e))

pub output_there : (s : MachineState) → output_of s ≢ [] → IsReady writing s
unfolding output_of
output_there s some = by (nat_lt 0 s.stall) refl some
  where
    by : (b : Bool) → nat_lt 0 s.stall ≡ b → (if b then [] else puts (micro_at s) s.a) ≢ [] → IsReady writing s
    by true e h = absurd (h refl)
    by false e h = record { still = unstalled s.stall e; at = only_there putting writing refl refl s.mpc (puts_there (micro_at s) s.a h) }

-- ---- the way to there

self_eq : (k : ℕ) → (k == k) ≡ true
self_eq k = eq-eqb k k refl

boundary_here : (s : MachineState) → s.halt ≡ Running → s.stall ≡ 0 → s.mpc ≡ entry_of s.opcode → at_boundary s ≡ true
boundary_here s running still at = rw (running, still, at, self_eq (entry_of s.opcode)) refl

-- On a way without a boundary no such word is come to: the machine was there.
pub same_state : (to : ℕ) → IsApart to → (old new : MachineState) (cycles : ℕ) (answers : List (Option ℕ)) → ((more : List (Option ℕ)) → (run cycles (begun old (answers ++ more))).state ≡ new)
    → ((i : ℕ) → suc i < suc cycles → at_boundary (run (suc i) (begun old answers)).state ≡ false) → Keeps to old → new.halt ≡ Running → IsReady to new → new ≡ old
same_state to is old new zero answers ran quiet keeps running ready = sym (ran [])
same_state to is old new (suc k) answers ran quiet keeps running ready =
    let entered : entry_of new.opcode ≡ to = (subst (Keeps to) (ran []) (run_keeps to is (suc k) (begun old (answers ++ [])) keeps)).entered ready.at in
    let here : at_boundary new ≡ true = boundary_here new running ready.still (ready.at ∙ sym entered) in
    let reached : (run (suc k) (begun old answers)).state ≡ new = ap (λ (xs : List (Option ℕ)). (run (suc k) (begun old xs)).state) (sym (append-nil answers)) ∙ ran [] in
    let clash : true ≡ false = sym here ∙ ap at_boundary (sym reached) ∙ quiet k (omega arith) in
    absurd (cc)

-- at an instruction, or about to look for a handler
keeps_at : (to : ℕ) → to ≢ RAISE → (P : Program) (pl : Places) (m : MachineState) (s : bytecode.State) (f : bytecode.Frame) (b : CodeBody) (mode : Ending) → IsGoing mode → IsAt P pl m s f b mode → Keeps to m
keeps_at to other P pl m s f b modes.Running going at = record { small = subst (λ k. k < 2048) (sym at.mpc) (entry_is_short m.opcode); entered = λ same. sym at.mpc ∙ same }
keeps_at to other P pl m s f b (modes.Raising p) going at = record { small = omega (arith, at.mpc); entered = λ same. absurd (other (sym same ∙ at.mpc)) }
keeps_at to other P pl m s f b modes.Ended going at = absurd going
keeps_at to other P pl m s f b (modes.Uncaught c) going at = absurd going

module _ (P : Program) (pl : Places) (s : bytecode.State) (f : bytecode.Frame) (b : CodeBody) (mode : Ending) (going : IsGoing mode) (old : MachineState) (at : IsAt P pl old s f b mode) (new : MachineState) (t0 t1 : Told) where
  pub same_read : Broke old new t0 t1 faults.Input → new ≡ old
  same_read r = same_state reading reading_apart old new r.cycles r.answers r.ran.state r.quiet (keeps_at reading (λ e. omega (arith, e)) P pl old s f b mode going at) r.tried.0 (asks_there new r.tried.4)

  pub same_write : Broke old new t0 t1 faults.Output → new ≡ old
  same_write r = same_state writing writing_apart old new r.cycles r.answers r.ran.state r.quiet (keeps_at writing (λ e. omega (arith, e)) P pl old s f b mode going at) r.tried.0 (output_there new r.tried.4)
