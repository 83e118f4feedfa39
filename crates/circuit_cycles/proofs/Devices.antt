-- What a clock puts out and takes, and whether it looks a method up, as the cycle does.
use Rattle.std.proofs.Common.{◌≡◌, ℕ, ◌%◌, ◌^◌, ◌<◌, Bool, true, false, [], ◌∷◌, Option, Some, None, refl, sym, ap, subst, ◌∙◌, arith, ltb-true, ltb-false}
use Rattle.std.specs.Prelude.{◌==◌, ◌&&◌, ◌||◌, not, nat_lt, if◌then◌else◌, slice_index}
use Rattle.std.proofs.lemmas.Bool.{and_parts, ne_eqb, eq-eqb}
use Rattle.microcode.specs.declared.TheConstants.{WORDS}
use Rattle.microcode.specs.declared.isa.operation.Operation.{Operation}
use Rattle.microcode.specs.declared.isa.operation.Operation.TheVariants.{Ldin, Stout, Stbc}
use Rattle.microcode.specs.declared.isa.Body.{Body}
use Rattle.microcode.specs.declared.isa.Body.TheVariants.{Plain, Stm, Ldm, Ldi, Bz, Bnz, Jmp}
use Rattle.microcode.specs.declared.isa.Micro.{Micro}
use Rattle.microcode.specs.Isa.Operations.{operation_of}
use Rattle.microcode.specs.Isa.Words.{micro_of}
use Rattle.jop_core.specs.declared.halt.Halt.TheVariants.{Running}
use Rattle.jop_core.specs.State.{MachineState}
use Rattle.jop_core.specs.Operations.{code_words}
use Rattle.jop_core.specs.Cycle.{micro_at, is_ldin, is_stout, body_asks, body_outputs, asks, puts, asks_input, output_of}
use Rattle.circuit_cycles.specs.Shape.{Shape}
use Rattle.circuit_cycles.specs.Words.{bits_of, is, wait, ldin, stout, stbc}
use Rattle.circuit_cycles.specs.Core.{Core, Given, runs, goes, does, is_stalled, waits}
use Rattle.circuit_cycles.specs.Stands.{Stands, HasWord, loads, load_left, halt_code}
use Rattle.circuit_cycles.specs.Runs.{is_stbc, body_switches, looks_up, SeesTheSame, ClocksSeeTheSame}
use Rattle.circuit_cycles.proofs.Rounds.{eqb_eq}
use Rattle.circuit_cycles.proofs.Signals.{code_of, code_own, lt_is, ge_is, Says}
use Rattle.circuit_cycles.proofs.Rows.{row, plain_body}
use Rattle.circuit_cycles.proofs.Bodies.{body_does, does_is}
use Rattle.circuit_cycles.proofs.Phases.{left_header, left_words, left_none}
use Rattle.circuit_cycles.proofs.IdleClocks.{is_quiet}
use Rattle.circuit_cycles.proofs.Following.{own, spells}
use Rattle.circuit_cycles.proofs.Running.{no_stall}

-- a microinstruction that asks, puts out or looks up is the one of its operation
asks_is : (word : ℕ) (body : Body) → Says word body → body_does 44 body ≡ body_asks body
asks_is word (Plain code) said = by (operation_of code) (code_own code said.2)
  where
    by : (op : Operation) → code_of op ≡ code → (code == 44) ≡ is_ldin op
    by Ldin e = sym (ap (λ k. k == 44) e)
    by _ e = sym (ap (λ k. k == 44) e)
asks_is word (Stm place) said = refl
asks_is word (Ldm place) said = refl
asks_is word (Ldi number) said = refl
asks_is word (Bz to) said = refl
asks_is word (Bnz to) said = refl
asks_is word (Jmp to) said = refl

puts_is : (word : ℕ) (body : Body) → Says word body → body_does 45 body ≡ body_outputs body
puts_is word (Plain code) said = by (operation_of code) (code_own code said.2)
  where
    by : (op : Operation) → code_of op ≡ code → (code == 45) ≡ is_stout op
    by Stout e = sym (ap (λ k. k == 45) e)
    by _ e = sym (ap (λ k. k == 45) e)
puts_is word (Stm place) said = refl
puts_is word (Ldm place) said = refl
puts_is word (Ldi number) said = refl
puts_is word (Bz to) said = refl
puts_is word (Bnz to) said = refl
puts_is word (Jmp to) said = refl

looks_is : (word : ℕ) (body : Body) → Says word body → body_does 41 body ≡ body_switches body
looks_is word (Plain code) said = by (operation_of code) (code_own code said.2)
  where
    by : (op : Operation) → code_of op ≡ code → (code == 41) ≡ is_stbc op
    by Stbc e = sym (ap (λ k. k == 41) e)
    by _ e = sym (ap (λ k. k == 41) e)
looks_is word (Stm place) said = refl
looks_is word (Ldm place) said = refl
looks_is word (Ldi number) said = refl
looks_is word (Bz to) said = refl
looks_is word (Bnz to) said = refl
looks_is word (Jmp to) said = refl

-- whatever comes from outside
abbrev nothing_given : Given
nothing_given = record { input = None; rom = 0; below = 0; loaded = 0; ring = 0; main = 0 }

module _ (shape : Shape) (c : Core) (s : MachineState) (alive : s.halt ≡ Running) (stands : Stands shape c s) where
  -- ---- a word runs

  module _ (on : runs c ≡ true) where
    does_so : (code : ℕ) → code < 48 → does code c ≡ body_does code (own shape nothing_given c s alive stands on).micro.body
    does_so code low = does_is c (own shape nothing_given c s alive stands on).micro.body code on (own shape nothing_given c s alive stands on).said.body low

    sees_running : SeesTheSame c s
    unfolding output_of asks_input
    sees_running =
        let r = own shape nothing_given c s alive stands on in
        let none = no_stall shape nothing_given c s alive stands on in
        let idle : nat_lt 0 s.stall ≡ false = ge_is 0 s.stall (omega (arith, none)) in
        let here : micro_at s ≡ Some r.micro = spells shape nothing_given c s alive stands on in
        record {
          output =
              ap (λ b. if b then c.a % 2 ^ 8 ∷ [] else []) (does_so stout (omega arith) ∙ puts_is c.word r.micro.body r.said.body)
              ∙ ap (λ k. if body_outputs r.micro.body then k % 2 ^ 8 ∷ [] else []) stands.registers.a
              ∙ sym (ap (λ b. if b then [] else puts (micro_at s) s.a) idle ∙ ap (λ (m : Option Micro). puts m s.a) here);
          input =
              does_so ldin (omega arith) ∙ asks_is c.word r.micro.body r.said.body
              ∙ sym (ap (λ b. if b then false else asks (micro_at s)) idle ∙ ap asks here);
          method =
              does_so stbc (omega arith) ∙ looks_is c.word r.micro.body r.said.body
              ∙ sym (ap (λ b. if b then false else looks_up (micro_at s)) idle ∙ ap looks_up here);
        }

  -- ---- no word runs

  module _ (idle : runs c ≡ false) where
    -- the machine is stalled
    sees_stalled : 0 < s.stall → SeesTheSame c s
    unfolding output_of asks_input
    sees_stalled some =
        let busy : nat_lt 0 s.stall ≡ true = lt_is 0 s.stall some in
        record {
          output = ap (λ r. if r && is stout c.word then c.a % 2 ^ 8 ∷ [] else []) idle ∙ sym (ap (λ b. if b then [] else puts (micro_at s) s.a) busy);
          input = ap (λ r. r && is ldin c.word) idle ∙ sym (ap (λ b. if b then false else asks (micro_at s)) busy);
          method = ap (λ r. r && is stbc c.word) idle ∙ sym (ap (λ b. if b then false else looks_up (micro_at s)) busy);
        }

    -- or it waits
    sees_waiting : s.stall ≡ 0 → bits_of (slice_index WORDS c.mpc) ≡ 39 → SeesTheSame c s
    unfolding output_of asks_input
    sees_waiting none bits =
        let free : nat_lt 0 s.stall ≡ false = ge_is 0 s.stall (omega (arith, none)) in
        let r = row c.mpc in
        let body : r.micro.body ≡ Plain 39 = plain_body (slice_index WORDS c.mpc) 39 r.micro.body r.said.body bits (omega arith) in
        let here : micro_at s ≡ Some r.micro = ap (λ k. micro_of (slice_index WORDS k)) (sym stands.registers.mpc) ∙ r.spells in
        record {
          output =
              ap (λ r. if r && is stout c.word then c.a % 2 ^ 8 ∷ [] else []) idle
              ∙ sym (ap (λ b. if b then [] else puts (micro_at s) s.a) free ∙ ap (λ (m : Option Micro). puts m s.a) here ∙ ap (λ (b : Body). if body_outputs b then s.a % 2 ^ 8 ∷ [] else []) body);
          input = ap (λ r. r && is ldin c.word) idle ∙ sym (ap (λ b. if b then false else asks (micro_at s)) free ∙ ap asks here ∙ ap body_asks body);
          method = ap (λ r. r && is stbc c.word) idle ∙ sym (ap (λ b. if b then false else looks_up (micro_at s)) free ∙ ap looks_up here ∙ ap body_switches body);
        }

    going : goes c ≡ true
    going =
        let halt : c.halt ≡ 0 = stands.registers.halt ∙ ap halt_code alive in
        ap (λ b. b && c.halt == 0) (eq-eqb c.starting 0 stands.registers.begun) ∙ eq-eqb c.halt 0 halt

    -- a load has cycles left
    load_some : loads c ≡ true → 0 < load_left shape c (code_words s.port.words s.method)
    load_some on = by (nat_lt 0 c.header) (nat_lt 0 c.left) refl refl on
      where
        by : (h l : Bool) → nat_lt 0 c.header ≡ h → nat_lt 0 c.left ≡ l → (h || l) ≡ true → 0 < load_left shape c (code_words s.port.words s.method)
        by true l e f g =
            let some = ltb-true 0 c.header e in
            let left = left_header shape c (code_words s.port.words s.method) some in
            omega (arith, some, left)
        by false true e f g =
            let head = ltb-false 0 c.header e in
            let some = ltb-true 0 c.left f in
            let left = left_words shape c (code_words s.port.words s.method) (omega (arith, head)) some in
            omega (arith, left)
        by false false e f g = let bad : ⊥ = cc in absurd bad

    sees_idle : SeesTheSame c s
    sees_idle = by (nat_lt 0 c.refill) (loads c) (waits c) refl refl refl
      where
        by : (r l w : Bool) → nat_lt 0 c.refill ≡ r → loads c ≡ l → waits c ≡ w → SeesTheSame c s
        by true l w e f g = let some = ltb-true 0 c.refill e in let stall = stands.stall in sees_stalled (omega (arith, some, stall))
        by false true w e f g = let some = load_some f in let stall = stands.stall in sees_stalled (omega (arith, some, stall))
        by false false true e f g =
            let refill = ltb-false 0 c.refill e in
            let q = is_quiet c f in
            let left = left_none shape c (code_words s.port.words s.method) q.header q.left in
            let stall = stands.stall in
            let parts = and_parts (is wait c.word) (nat_lt 1 c.count) g in
            let ready : HasWord false c = subst (λ b. HasWord b c) (ne_eqb c.refill 2 (omega (arith, refill))) stands.read.word in
            sees_waiting (omega (arith, stall, left, refill)) (sym (ap bits_of ready.0) ∙ eqb_eq (bits_of c.word) 39 parts.0)
        by false false false e f g =
            let q = is_quiet c f in
            let head = q.header in
            let left = q.left in
            let awake : is_stalled c ≡ false =
            ap (λ b. b || nat_lt 0 c.header || nat_lt 0 c.left) e
            ∙ ap (λ b. false || b || nat_lt 0 c.left) (ge_is 0 c.header (omega (arith, head)))
            ∙ ap (λ b. false || false || b) (ge_is 0 c.left (omega (arith, left))) in
            let on : runs c ≡ true = ap (λ b. b && not (is_stalled c) && not (waits c)) going ∙ ap (λ b. not b && not (waits c)) awake ∙ ap (λ b. not b) g in
            let bad : ⊥ = cc in absurd bad

  sees_the_same : SeesTheSame c s
  sees_the_same = by (runs c) refl
    where
      by : (b : Bool) → runs c ≡ b → SeesTheSame c s
      by true on = sees_running on
      by false idle = sees_idle idle

pub clocks_see_the_same : ClocksSeeTheSame
clocks_see_the_same shape c s alive stands = sees_the_same shape c s alive stands
