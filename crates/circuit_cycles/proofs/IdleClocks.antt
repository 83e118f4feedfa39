-- A clock in which no word runs is a cycle: stalled behind a branch, stalled by a load, or waiting for the port.
use Rattle.std.proofs.Common.{◌≡◌, ℕ, ◌+◌, ◌-◌, ◌%◌, ◌^◌, ◌<◌, Bool, true, false, Option, Some, refl, sym, ap, subst, inl, inr, ◌∙◌, arith, ltb-true, ltb-false}
use Rattle.std.specs.Prelude.{◌==◌, ◌&&◌, ◌||◌, not, nat_lt, if◌then◌else◌, slice_set, slice_index}
use Rattle.std.proofs.lemmas.Bool.{eq-eqb, ne_eqb, and_parts}
use Rattle.microcode.specs.declared.TheConstants.{WORDS}
use Rattle.microcode.specs.declared.isa.Body.TheVariants.{Plain}
use Rattle.microcode.specs.declared.isa.Micro.{Micro}
use Rattle.microcode.specs.Isa.Words.{micro_of}
use Rattle.jop_core.specs.declared.halt.Halt.TheVariants.{Running}
use Rattle.jop_core.specs.State.{MachineState}
use Rattle.jop_core.specs.Operations.{code_words}
use Rattle.jop_core.specs.Cycle.{counted, cycle_of, ran, micro_at, performed, body_waits, waits as waits_for}
use Rattle.circuit_cycles.specs.Shape.{Shape}
use Rattle.circuit_cycles.specs.Tags.{behind}
use Rattle.circuit_cycles.specs.Words.{bits_of, has_nxt, is, wait, takes_at_a}
use Rattle.circuit_cycles.specs.Core.{Core, Given, next, goes, runs, is_stalled, waits, fills, fills_word, tag_taken}
use Rattle.circuit_cycles.specs.Stands.{Stands, HasWord, HasCache, HasRing, loads, halt_code}
use Rattle.circuit_cycles.specs.Laws.{rested, LoadGoesOn}
use Rattle.circuit_cycles.proofs.Quiet as quiet
use Rattle.circuit_cycles.proofs.Idle as idly
use Rattle.circuit_cycles.proofs.Rounds.{eqb_eq}
use Rattle.circuit_cycles.proofs.Signals.{lt_is, ge_is}
use Rattle.circuit_cycles.proofs.Rows.{row, plain_body}
use Rattle.circuit_cycles.proofs.UnderWay.{SameRing, ring_same}
use Rattle.circuit_cycles.proofs.Phases.{left_none, loads_no}
use Rattle.circuit_cycles.proofs.Going.{loading_goes_on}
use Rattle.circuit_cycles.proofs.IdleStands.{paused, idle_stands}

pub nothing : (x y : Bool) → (x || y) ≡ false → (x ≡ false) × (y ≡ false)
nothing true y h = let bad : ⊥ = cc in absurd bad
nothing false y h = (refl, h)

-- no load is under way
pub record IsQuiet (c : Core) : Type 0 where
  pub header : c.header ≡ 0
  pub left : c.left ≡ 0

pub is_quiet : (c : Core) → loads c ≡ false → IsQuiet c
is_quiet c h =
    let parts = nothing (nat_lt 0 c.header) (nat_lt 0 c.left) h in
    let head = ltb-false 0 c.header parts.0 in
    let left = ltb-false 0 c.left parts.1 in
    record { header = omega (arith, head); left = omega (arith, left) }

pub no_fill : (shape : Shape) (c : Core) → IsQuiet c → fills_word shape c ≡ false
no_fill shape c h = by (c.header == 0) (nat_lt 0 c.left) (ge_is 0 c.left (let l = h.left in omega (arith, l)))
  where
    by : (b l : Bool) → l ≡ false → ((b && l) && (c.turn == shape.read_wait + 1)) ≡ false
    by true true e = let bad : ⊥ = cc in absurd bad
    by true false e = refl
    by false l e = refl

pub no_left : (shape : Shape) (given : Given) (c : Core) (idle : runs c ≡ false) → IsQuiet c → (next shape given c).left ≡ 0
no_left shape given c idle h =
    quiet.left shape given c idle
    ∙ ap (λ b. if b then c.main_out % 2 ^ 16 else if fills c && c.turn == 0 then c.left - 1 else c.left) (ne_eqb c.header 4 (let e = h.header in omega (arith, e)))
    ∙ by (fills c && c.turn == 0)
  where
    by : (b : Bool) → (if b then c.left - 1 else c.left) ≡ 0
    by true = ap (λ k. k - 1) h.left
    by false = h.left

module _ (shape : Shape) (given : Given) (c : Core) (s : MachineState) (running : s.halt ≡ Running) (stands : Stands shape c s) (idle : runs c ≡ false) where
  going : goes c ≡ true
  going =
      let halt : c.halt ≡ 0 = stands.registers.halt ∙ ap halt_code running in
      ap (λ b. b && c.halt == 0) (eq-eqb c.starting 0 stands.registers.begun) ∙ eq-eqb c.halt 0 halt

  -- the cache stays where no load is under way
  cache_stays : (stall : ℕ) → loads c ≡ false → HasCache shape (next shape given c) (paused stall s)
  cache_stays stall off =
      let q = is_quiet c off in
      let none = no_fill shape c q in
      let was : HasCache shape c s = subst (λ b. HasRing b shape c s) off stands.ring in
      let same : SameRing c (next shape given c) = record {
        ring = quiet.ring shape given c idle ∙ ap (λ b. if b then slice_set c.ring c.target c.main_out else c.ring) none;
        tags = quiet.tags shape given c idle ∙ ap (λ b. if b && c.in_block == 0 then slice_set c.tags c.next_block (tag_taken c) else c.tags) none;
        next_block = quiet.next_block shape given c idle ∙ ap (λ b. if b && c.in_block == 0 then behind shape.blocks c.next_block else c.next_block) none;
        base = quiet.base shape given c idle;
        place = quiet.place shape given c idle;
      } in
      let cur = was.current in
      let head = q.header in
      record {
        methods = ring_same shape c (next shape given c) s.cache same was.methods;
        newer = was.newer;
        method = was.method;
        older = was.older;
        current = record {
          split = cur.split;
          method = cur.method;
          place = same.place ∙ cur.place;
          base = same.base ∙ cur.base;
          words = λ _.
              quiet.words shape given c idle ∙ ap (λ b. if b then c.main_out % 2 ^ 16 else c.words) (ne_eqb c.header 4 (omega (arith, head)))
              ∙ cur.words (omega (arith, head));
        };
      }

  -- nothing is loaded behind it either
  still_quiet : loads c ≡ false → IsQuiet (next shape given c)
  still_quiet off =
      let q = is_quiet c off in
      record { header = quiet.header shape given c idle ∙ ap (λ k. k - 1) q.header; left = no_left shape given c idle q }

  quietly : (stall : ℕ) → loads c ≡ false → takes_at_a (slice_index WORDS c.mpc) ≡ false → stall ≡ c.refill - 1 → Stands shape (next shape given c) (paused stall s)
  quietly stall off apart falls =
      let q = still_quiet off in
      let none = loads_no (next shape given c) q.header q.left in
      let words = code_words s.port.words s.method in
      let nothing_left = left_none shape (next shape given c) words q.header q.left in
      let refill = idly.refill shape given c idle in
      idle_stands shape given c s stands going idle apart stall
      (subst (λ b. HasRing b shape (next shape given c) (paused stall s)) (sym none) (cache_stays stall off))
      (omega (arith, nothing_left, refill, falls)) (inr none)

  cycle_is : (b : Bool) → nat_lt 0 s.stall ≡ b → cycle_of given.input s ≡ (if b then rested s else ran given.input (micro_at s) (counted s))
  unfolding cycle_of
  cycle_is b e = ap (λ x. if x then rested s else ran given.input (micro_at s) (counted s)) e

  -- stalled by a load
  loading : loads c ≡ true → is_stalled c ≡ true → Stands shape (next shape given c) (cycle_of given.input s)
  loading on stalled =
      let go : LoadGoesOn shape c (next shape given c) s = loading_goes_on shape given c s stands idle on in
      let none : c.refill ≡ 0 = elim stands.one [ inl h ↦ h | inr off ↦ let bad : ⊥ = cc in absurd bad ] in
      let stall = stands.stall in
      let left = go.left in
      let refill = idly.refill shape given c idle in
      let apart = stands.read.stalled stalled in
      subst (λ t. Stands shape (next shape given c) t) (sym (cycle_is true (lt_is 0 s.stall (omega (arith, stall, left)))))
      (idle_stands shape given c s stands going idle apart (s.stall - 1) go.ring (omega (arith, stall, left, refill, none)) (inl (omega (arith, refill, none))))

  -- stalled behind a branch
  refilling : loads c ≡ false → is_stalled c ≡ true → Stands shape (next shape given c) (cycle_of given.input s)
  refilling off stalled =
      let q = is_quiet c off in
      let words = code_words s.port.words s.method in
      let left = left_none shape c words q.header q.left in
      let stall = stands.stall in
      let some : 0 < c.refill = ltb-true 0 c.refill (first (nat_lt 0 c.refill) (nat_lt 0 c.header) (nat_lt 0 c.left) (ge_is 0 c.header (let e = q.header in omega (arith, e))) (ge_is 0 c.left (let e = q.left in omega (arith, e))) stalled) in
      subst (λ t. Stands shape (next shape given c) t) (sym (cycle_is true (lt_is 0 s.stall (omega (arith, stall, some)))))
      (quietly (s.stall - 1) off (stands.read.stalled stalled) (omega (arith, stall, left)))
    where
      first : (r h l : Bool) → h ≡ false → l ≡ false → (r || h || l) ≡ true → r ≡ true
      first true h l eh el e = refl
      first false true l eh el e = let bad : ⊥ = cc in absurd bad
      first false false true eh el e = let bad : ⊥ = cc in absurd bad
      first false false false eh el e = e

  -- waiting for the port
  waiting : is_stalled c ≡ false → waits c ≡ true → Stands shape (next shape given c) (cycle_of given.input s)
  waiting awake waits' =
      let one = nothing (nat_lt 0 c.refill || nat_lt 0 c.header) (nat_lt 0 c.left) awake in
      let two = nothing (nat_lt 0 c.refill) (nat_lt 0 c.header) one.0 in
      let refill = ltb-false 0 c.refill two.0 in
      let off : loads c ≡ false = ap (λ b. b || nat_lt 0 c.left) two.1 ∙ one.1 in
      let q = is_quiet c off in
      let words = code_words s.port.words s.method in
      let left = left_none shape c words q.header q.left in
      let stall = stands.stall in
      let parts = and_parts (is wait c.word) (nat_lt 1 c.count) waits' in
      let ready : HasWord false c = subst (λ b. HasWord b c) (ne_eqb c.refill 2 (omega (arith, refill))) stands.read.word in
      let bits : bits_of (slice_index WORDS c.mpc) ≡ 39 = sym (ap bits_of ready.0) ∙ eqb_eq (bits_of c.word) 39 parts.0 in
      let r = row c.mpc in
      let body : r.micro.body ≡ Plain 39 = plain_body (slice_index WORDS c.mpc) 39 r.micro.body r.said.body bits (omega arith) in
      let apart : takes_at_a (slice_index WORDS c.mpc) ≡ false = ap (λ k. k == 32 && has_nxt (slice_index WORDS c.mpc)) bits in
      let busy = ltb-true 1 c.count parts.1 in
      let count = stands.registers.count in
      let here : micro_at s ≡ Some r.micro = ap (λ k. micro_of (slice_index WORDS k)) (sym stands.registers.mpc) ∙ r.spells in
      let waits_too : waits_for r.micro (counted s) ≡ true = ap (λ b. body_waits b && nat_lt 0 (s.port.count - 1)) body ∙ lt_is 0 (s.port.count - 1) (omega (arith, busy, count)) in
      let same : cycle_of given.input s ≡ paused s.stall s =
      cycle_is false (ge_is 0 s.stall (omega (arith, stall, left, refill)))
      ∙ ap (λ (m : Option Micro). ran given.input m (counted s)) here
      ∙ ap (λ b. if b then counted s else performed given.input r.micro (counted s)) waits_too in
      subst (λ t. Stands shape (next shape given c) t) (sym same) (quietly s.stall off apart (omega (arith, stall, left, refill)))

  pub idle_clock : Stands shape (next shape given c) (cycle_of given.input s)
  idle_clock = by (is_stalled c) (loads c) (waits c) refl refl refl
    where
      by : (st l w : Bool) → is_stalled c ≡ st → loads c ≡ l → waits c ≡ w → Stands shape (next shape given c) (cycle_of given.input s)
      by true true w e l h = loading l e
      by true false w e l h = refilling l e
      by false l true e lh h = waiting e h
      by false l false e lh h =
          let on : runs c ≡ true = ap (λ b. b && not (is_stalled c) && not (waits c)) going ∙ ap (λ b. not b && not (waits c)) e ∙ ap (λ b. not b) h in
          let bad : ⊥ = cc in absurd bad
