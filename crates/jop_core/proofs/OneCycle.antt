-- What a cycle is where the word of the ROM is known.
use Rattle.std.proofs.Common.{◌≡◌, ◌≢◌, ℕ, ◌%◌, ◌^◌, ◌∙◌, refl, sym, ap, Bool, false, cond, nat_lt, subst, arith, List, [], ◌∷◌, Some, None}
use Rattle.std.specs.Prelude.{slice_index, Ok, Err}
use Rattle.std.specs.declared.option.Option.{Option}
use Rattle.microcode.specs.declared.isa.Body.{Body}
use Rattle.microcode.specs.declared.isa.Body.TheVariants.{Plain, Stm, Ldm, Ldi, Bz, Bnz, Jmp}
use Rattle.microcode.specs.declared.isa.Micro.{Micro}
use Rattle.microcode.specs.declared.isa.operation.Operation.{Operation}
use Rattle.microcode.specs.declared.isa.operation.Operation.TheVariants.{Ldin}
use Rattle.microcode.specs.Isa.Operations.{operation_of}
use Rattle.microcode.specs.Isa.Words.{micro_of}
use Rattle.microcode.specs.declared.TheConstants.{WORDS}
use Rattle.jop_core.specs.declared.halt.Halt.TheVariants.{Running}
use Rattle.jop_core.specs.declared.tick.Tick.TheVariants.{Went}
use Rattle.device_traits.specs.declared.fault.DeviceFault.{DeviceFault}
use Rattle.device_traits.specs.declared.fault.DeviceFault.TheVariants.{Input, Output, Seen as SeenFault}
use Rattle.device_traits.specs.declared.seen.Seen.{Seen}
use Rattle.jop_core.specs.State.{MachineState, seen_of}
use Rattle.device_traits.specs.Told.{Told, Saw, Passed, PassedInPart, Exchanged, CountsRise, OnlyReads, OnlySees, OnlyWrites, Sees}
use Rattle.jop_core.specs.Ticked.{Ticked, AskedIn, PutOut, writes_of, first_write, notes_of}
use Rattle.jop_core.proofs.Tells.{Passed-trans, PassedInPart-after, Passed-quiet, Exchanged-after, Exchanged-before}
use Rattle.jop_core.specs.Cycle.{cycle_of, asks_input, output_of, ran, counted, asks, body_asks, is_ldin, puts, body_outputs, is_stout}

pub cycle_of-here : (s : MachineState) (address : ℕ) (m : Option Micro) (input : Option ℕ) → nat_lt 0 s.stall ≡ false → address ≡ s.mpc → micro_of (slice_index WORDS address) ≡ m
    → cycle_of input s ≡ ran input m (counted s)
unfolding cycle_of
cycle_of-here s address m input still at is = rw (still, ← at, is) refl

pub output_of-here : (s : MachineState) (address : ℕ) (m : Option Micro) (a : ℕ) → nat_lt 0 s.stall ≡ false → address ≡ s.mpc → micro_of (slice_index WORDS address) ≡ m → a ≡ s.a
    → output_of s ≡ puts m a
unfolding output_of
output_of-here s address m a still at is top = rw (still, ← at, is, top) refl

pub asks_input-here : (s : MachineState) (address : ℕ) (m : Option Micro) → nat_lt 0 s.stall ≡ false → address ≡ s.mpc → micro_of (slice_index WORDS address) ≡ m → asks_input s ≡ asks m
unfolding asks_input
asks_input-here s address m still at is = rw (still, ← at, is) refl

-- the state was handed over, and then a byte was asked for where the microinstruction asks for one
pub record Begun (old : MachineState) (asked : Bool) (input : Option ℕ) (t0 t2 : Told) : Type 0 where
  pub exchanged : Exchanged t0 t2 asked input [] (seen_of old ∷ []) (Saw (seen_of old) ∷ [])
  pub counts : CountsRise t0 t2

pub begun : (old : MachineState) (at : Seen) (asked : Bool) (input : Option ℕ) (t0 t1 t2 : Told) → at ≡ seen_of old
    → Passed t0 t1 [] (at ∷ []) (Saw at ∷ []) → OnlySees t0 t1 → Exchanged t1 t2 asked input [] [] [] → OnlyReads t1 t2 → Begun old asked input t0 t2
begun old at asked input t0 t1 t2 at_is seen sees took reads = record {
  exchanged = Exchanged-after t0 t1 t2 asked input [] [] [] (at ∷ []) [] (seen_of old ∷ []) (Saw at ∷ []) [] (Saw (seen_of old) ∷ []) seen took refl
      (ap (λ (x : Seen). x ∷ []) (sym at_is)) (ap (λ (x : Seen). Saw x ∷ []) (sym at_is));
  counts = record { reads = omega arith; writes = omega arith; sees = omega arith };
}

-- a cycle that was done: then the byte was put out
pub Ticked-went : (old new : MachineState) (input : Option ℕ) (asked : Bool) (out : List ℕ) (t0 t1 t2 : Told) → old.halt ≡ Running → new ≡ cycle_of input old
    → asks_input old ≡ asked → output_of old ≡ out → Begun old asked input t0 t1 → Passed t1 t2 out [] (writes_of out) → OnlyWrites t1 t2 → Ticked old new t0 t2 (Ok Went)
Ticked-went old new input asked out t0 t1 t2 running is asks_is outputs start put writes =
    let A : Bool → Type 0 = λ b. Exchanged t0 t2 b input (output_of old) (seen_of old ∷ []) (notes_of old) in (
      running,
      input,
      is,
      subst A (sym asks_is)
          (Exchanged-before t0 t1 t2 asked input [] out (output_of old) (seen_of old ∷ []) [] (seen_of old ∷ []) (Saw (seen_of old) ∷ []) (writes_of out) (notes_of old)
          start.exchanged put outputs refl (ap (λ bytes. Saw (seen_of old) ∷ writes_of bytes) outputs)),
      record { reads = omega (arith, start.counts.reads); writes = omega (arith, start.counts.writes); sees = omega (arith, start.counts.sees) },
    )

-- a cycle whose byte could not be put out: a microinstruction that puts one out asks for none
pub Ticked-refused : (old : MachineState) (input : Option ℕ) (asked : Bool) (out : List ℕ) (t0 t1 t2 : Told) (fault : DeviceFault) → old.halt ≡ Running
    → (out ≢ [] → asked ≡ false) → output_of old ≡ out → Begun old asked input t0 t1 → PutOut {T = ℕ} t1 t2 out (Err fault) → Ticked old old t0 t2 (Err fault)
Ticked-refused old input asked out t0 t1 t2 Output running quiet outputs start put =
    let A : Bool → Type 0 = λ b. Exchanged t0 t1 b input [] (seen_of old ∷ []) (Saw (seen_of old) ∷ []) in
    let W : List ℕ → Type 0 = λ bytes. PassedInPart t0 t2 (seen_of old ∷ []) (Saw (seen_of old) ∷ []) (first_write bytes) in
    let writes = put.1 in
    let passed = Passed-quiet t0 t1 input [] (seen_of old ∷ []) (Saw (seen_of old) ∷ []) (subst A (quiet put.2) start.exchanged) in (
      running,
      refl,
      subst W (sym outputs) (PassedInPart-after t0 t1 t2 (seen_of old ∷ []) [] (seen_of old ∷ []) (Saw (seen_of old) ∷ []) (first_write out) passed put.0 refl),
      record { reads = omega (arith, start.counts.reads); writes = omega (arith, start.counts.writes); sees = omega (arith, start.counts.sees) },
      (λ none. put.2 (sym outputs ∙ none)),
      omega (arith, put.3, start.counts.writes),
    )
Ticked-refused old input asked out t0 t1 t2 Input running quiet outputs start put = absurd put
Ticked-refused old input asked out t0 t1 t2 SeenFault running quiet outputs start put = absurd put

-- a cycle whose input failed
pub Ticked-unread : (old : MachineState) (asked : Bool) (at : Seen) (t0 t1 t2 : Told) (fault : DeviceFault) → old.halt ≡ Running → asks_input old ≡ asked → at ≡ seen_of old
    → Passed t0 t1 [] (at ∷ []) (Saw at ∷ []) → OnlySees t0 t1 → AskedIn t1 t2 asked (Err fault) → Ticked old old t0 t2 (Err fault)
Ticked-unread old asked at t0 t1 t2 Input running asks_is at_is seen sees failed = let reads = failed.1 in (
  running,
  refl,
  Passed-trans t0 t1 t2 [] [] [] (at ∷ []) [] (seen_of old ∷ []) (Saw at ∷ []) [] (Saw (seen_of old) ∷ []) seen failed.0 refl
      (ap (λ (x : Seen). x ∷ []) (sym at_is)) (ap (λ (x : Seen). Saw x ∷ []) (sym at_is)),
  record { reads = omega arith; writes = omega arith; sees = omega arith },
  asks_is ∙ failed.2,
  omega (arith, failed.3),
)
Ticked-unread old asked at t0 t1 t2 Output running asks_is at_is seen sees failed = absurd failed
Ticked-unread old asked at t0 t1 t2 SeenFault running asks_is at_is seen sees failed = absurd failed

-- a cycle whose state could not be handed over
pub Ticked-unseen : (old : MachineState) (at : Seen) (t0 t1 : Told) (fault : DeviceFault) → old.halt ≡ Running → at ≡ seen_of old → Sees {T = ℕ} t0 t1 at (Err fault)
    → Ticked old old t0 t1 (Err fault)
Ticked-unseen old at t0 t1 SeenFault running at_is failed =
    let P : Seen → Type 0 = λ x. PassedInPart t0 t1 [] [] (Saw x) in
    let sees = failed.1 in (running, refl, subst P at_is failed.0, record { reads = omega arith; writes = omega arith; sees = omega arith }, failed.2)
Ticked-unseen old at t0 t1 Input running at_is failed = absurd failed
Ticked-unseen old at t0 t1 Output running at_is failed = absurd failed

-- what puts a byte out asks for none
operation-asks : (op : Operation) (a : ℕ) → cond (is_stout op) (a % 2 ^ 8 ∷ []) [] ≢ [] → is_ldin op ≡ false
operation-asks Ldin a some = absurd (some refl)
operation-asks op a some = refl

body-asks : (body : Body) (a : ℕ) → cond (body_outputs body) (a % 2 ^ 8 ∷ []) [] ≢ [] → body_asks body ≡ false
body-asks (Plain code) a some = operation-asks (operation_of code) a some
body-asks (Stm k) a some = refl
body-asks (Ldm k) a some = refl
body-asks (Ldi k) a some = refl
body-asks (Bz to) a some = refl
body-asks (Bnz to) a some = refl
body-asks (Jmp to) a some = refl

pub asks-puts : (m : Option Micro) (a : ℕ) → puts m a ≢ [] → asks m ≡ false
asks-puts None a some = refl
asks-puts (Some m) a some = body-asks m.body a some
