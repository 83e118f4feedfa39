-- The microinstructions of one cycle.
use Rattle.std.proofs.Common.{◌≡◌, ℕ, ◌+◌, ◌-◌, ◌<◌, ◌&&◌, ◌||◌, Bool, true, false, get_or, nat_lt, refl, sym, ap, ◌∙◌, subst, Some, ltb-true}
use Rattle.std.proofs.lemmas.Bool.{and_parts}
use Rattle.microcode.specs.declared.isa.Body.TheVariants.{Plain}
use Rattle.microcode.specs.declared.isa.Micro.{Micro}
use Rattle.microcode.specs.Isa.Operations.{operation_of}
use Rattle.microcode.specs.Isa.Words.{micro_of}
use Rattle.microcode.specs.declared.isa.operation.Operation.{Operation}
use Rattle.microcode.specs.declared.isa.operation.Operation.TheVariants.{Stmra, Stmwd, Wait, Stbc, Hltb, Hltu}
use Rattle.std.proofs.Math.ListN.{length-set}
use Rattle.jop_core.specs.State.{MachineState}
use Rattle.jop_core.specs.Operations.{pushed, stored, operated}
use Rattle.jop_core.specs.Cycle.{is_wait, is_ldin}
use Rattle.jop_core.specs.declared.halt.Halt.TheVariants.{Running}
use Rattle.jop_core.specs.Scene.{given}
use Rattle.micro_flow.specs.declared.CostParams.{CostParams}
use Rattle.micro_flow.specs.Walk.{TimeKind, Waits, Reads, Writes, Halts, Other, kind_of, Walker, onward, timed, stops}
use Rattle.micro_sketch.specs.Sketch.{Sketch, apush, apop, need, astm, aplain, lead, opd_byte}
use Rattle.micro_sketch.specs.Stands.{Env, Shaped, Does, Goes, Reaches, PortFits, conc, tick, env_after, env_kind, constants}
use Rattle.microcode.specs.declared.TheConstants.{WORDS, CONSTANTS}
use Rattle.micro_sketch.proofs.OnChip.{fetched, put_in, push_sim, pop_sim, read_low, read_constant, write_low}
use Rattle.micro_sketch.proofs.PlainSim.{plain_sim}
use Rattle.micro_sketch.proofs.Counts.{counts_plain, busy_after, halt_after}
use Rattle.micro_sketch.proofs.Boundaries.{flags_fine}
use Rattle.micro_sketch.proofs.Cycles.{Timed, ended, one_cycle, ticked_port}

pub stm_sim : (n : ℕ) (x : Sketch) (e : Env) (k : ℕ) → Shaped n x → (need (nat_lt k 32) (astm k x)).fine ≡ true → Does n x (need (nat_lt k 32) (astm k x)) e (stored k (conc n x e))
stm_sim n x e k h f =
    let lt : k < 32 = ltb-true k 32 ((and_parts (nat_lt k 32) (astm k x).fine f).0) in
    let d = pop_sim n x e h ((and_parts (nat_lt k 32) (astm k x).fine f).1) in
    record {
      same = ap (λ (s : MachineState). put_in k x.top s) d.same ∙ write_low n (apop x) e k x.top d.shape lt;
      shape = record { low = length-set (apop x).low k x.top ∙ d.shape.low; total = d.shape.total };
      was = d.was;
    }

pub ldm_sim : (n : ℕ) (x : Sketch) (e : Env) (k : ℕ) → Shaped n x → (need (nat_lt k 32) (apush (get_or x.low k 0) x)).fine ≡ true → Does n x (need (nat_lt k 32) (apush (get_or x.low k 0) x)) e (fetched k (conc n x e))
ldm_sim n x e k h f =
    let lt : k < 32 = ltb-true k 32 ((and_parts (nat_lt k 32) (apush (get_or x.low k 0) x).fine f).0) in
    let d = push_sim n x e (get_or x.low k 0) h ((and_parts (nat_lt k 32) (apush (get_or x.low k 0) x).fine f).1) in
    record { same = ap (λ v. pushed v (conc n x e)) (read_low n x e k h lt) ∙ d.same; shape = record { low = d.shape.low; total = d.shape.total }; was = d.was }

pub constants_are : (k : ℕ) → get_or constants k 0 ≡ get_or CONSTANTS k 0
unfolding constants
constants_are k = refl

pub ldi_sim : (n : ℕ) (x : Sketch) (e : Env) (k : ℕ) → Shaped n x → (need (nat_lt k 32) (apush (get_or CONSTANTS k 0) x)).fine ≡ true → Does n x (need (nat_lt k 32) (apush (get_or CONSTANTS k 0) x)) e (fetched (32 + k) (conc n x e))
ldi_sim n x e k h f =
    let lt : k < 32 = ltb-true k 32 ((and_parts (nat_lt k 32) (apush (get_or CONSTANTS k 0) x).fine f).0) in
    let d = push_sim n x e (get_or CONSTANTS k 0) h ((and_parts (nat_lt k 32) (apush (get_or CONSTANTS k 0) x).fine f).1) in
    record { same = ap (λ v. pushed v (conc n x e)) (read_constant n x e k h lt ∙ constants_are k) ∙ d.same; shape = record { low = d.shape.low; total = d.shape.total }; was = d.was }

pub kind_clock : (k : TimeKind) (e : Env) → (env_kind k e).clock ≡ e.clock
kind_clock Reads e = refl
kind_clock Writes e = refl
kind_clock Waits e = refl
kind_clock Halts e = refl
kind_clock Other e = refl

pub kind_read : (k : TimeKind) (e : Env) → (env_kind k e).read ≡ e.read
kind_read Reads e = refl
kind_read Writes e = refl
kind_read Waits e = refl
kind_read Halts e = refl
kind_read Other e = refl

pub kind_write : (k : TimeKind) (e : Env) → (env_kind k e).write ≡ e.write
kind_write Reads e = refl
kind_write Writes e = refl
kind_write Waits e = refl
kind_write Halts e = refl
kind_write Other e = refl

pub fits_after : (op : Operation) (b : Bool) (e : Env) → (op ≡ Wait → e.port ≡ 0) → PortFits b e → PortFits (busy_after op b) (env_after op e)
fits_after Wait b e w h = w refl
fits_after Stmra b e w h = tt
fits_after Stmwd b e w h = tt
fits_after _ b e w h = h

-- what sort of microinstruction it is
pub data Sort (op : Operation) : Type 0 where
  IsWait : op ≡ Wait → Sort op
  IsStbc : op ≡ Stbc → Sort op
  IsOther : is_wait op ≡ false → (kind_of op ≡ Waits → ⊥) → (op ≡ Stbc → ⊥) → Sort op

pub sort : (op : Operation) → Sort op
sort Wait = IsWait refl
sort Stbc = IsStbc refl
sort _ = IsOther refl (λ h. cc) (λ h. cc)

pub not_wait : (op : Operation) → (kind_of op ≡ Waits → ⊥) → op ≡ Wait → ⊥
not_wait op k h = k (ap kind_of h)

-- where a walk stops is where the machine halts or goes on to the next opcode
pub stops_where : (op : Operation) (choice nxt : Bool) → stops (kind_of op) choice nxt ≡ (ended (halt_after op choice Running) || nxt)
stops_where Hltb true nxt = refl
stops_where Hltb false nxt = refl
stops_where Hltu true nxt = refl
stops_where Hltu false nxt = refl
stops_where _ choice nxt = refl

pub kind_timed : (k : TimeKind) (nxt choice over : Bool) (p : CostParams) (s : Walker) (e : Env) → (k ≡ Waits → ⊥) → p.r ≡ e.read → p.w ≡ e.write → s.port ≡ e.port → (code : ℕ) (opd : Bool) → k ≡ kind_of (operation_of code) →
    stops k choice nxt ≡ (over || nxt) → Timed p (record { body = Plain code; opd = opd; nxt = nxt }) choice over s (env_kind k (tick e))
kind_timed Waits nxt choice over p s e w r q h code opd same st = absurd (w refl)
kind_timed Reads nxt choice over p s e w r q h code opd same st = record { next = timed Reads p s; is = ap (λ k. onward (stops k choice nxt) (timed k p s)) (sym same) ∙ ap (λ b. onward b (timed Reads p s)) st; at = refl; left = refl; clock = refl; port = ap (λ i. i + 1) r; fine = refl }
kind_timed Writes nxt choice over p s e w r q h code opd same st = record { next = timed Writes p s; is = ap (λ k. onward (stops k choice nxt) (timed k p s)) (sym same) ∙ ap (λ b. onward b (timed Writes p s)) st; at = refl; left = refl; clock = refl; port = ap (λ i. i + 1) q; fine = refl }
kind_timed Halts nxt choice over p s e w r q h code opd same st = record { next = timed Halts p s; is = ap (λ k. onward (stops k choice nxt) (timed k p s)) (sym same) ∙ ap (λ b. onward b (timed Halts p s)) st; at = refl; left = refl; clock = refl; port = ap (λ i. i - 1) h; fine = refl }
kind_timed Other nxt choice over p s e w r q h code opd same st = record { next = timed Other p s; is = ap (λ k. onward (stops k choice nxt) (timed k p s)) (sym same) ∙ ap (λ b. onward b (timed Other p s)) st; at = refl; left = refl; clock = refl; port = ap (λ i. i - 1) h; fine = refl }

pub plain_step : (n : ℕ) (x : Sketch) (e : Env) (code : ℕ) (opd nxt guess : Bool) → Goes x → Shaped n x → PortFits x.busy e →
    micro_of (get_or WORDS x.mpc 0) ≡ Some (record { body = Plain code; opd = opd; nxt = nxt }) → is_wait (operation_of code) ≡ false → (kind_of (operation_of code) ≡ Waits → ⊥) → (operation_of code ≡ Stbc → ⊥) →
    (lead nxt (opd_byte opd (aplain (operation_of code) guess x))).fine ≡ true → Reaches n x (lead nxt (opd_byte opd (aplain (operation_of code) guess x))) e
plain_step n x e code opd nxt guess nd h p d w kw nb f =
    let op = operation_of code in
    let y = aplain op guess x in
    let m : Micro = record { body = Plain code; opd = opd; nxt = nxt } in
    let c = counts_plain op guess x nb in
    let g : y.fine ≡ true = flags_fine opd nxt y f in
    let stop = stops_where op guess nxt ∙ ap (λ h. ended (halt_after op guess h) || nxt) (sym nd.running) ∙ ap (λ h. ended h || nxt) (sym c.halt) in
    one_cycle n x y e (env_after op (tick e)) m guess (operated (given (is_ldin op) x.answers) op (conc n x (tick e))) nd d (ap (λ b. b && nat_lt 0 (e.port - 1)) w) refl (plain_sim op guess n x (tick e) nb h g)
    (kind_clock (kind_of op) (tick e)) (kind_read (kind_of op) (tick e)) (kind_write (kind_of op) (tick e))
    (subst (λ b. PortFits b (env_after op (tick e))) (sym c.busy) (fits_after op x.busy (tick e) (λ q. absurd (not_wait op kw q)) (ticked_port x.busy e p)))
    (record { left = c.left; loads = c.loads; words = c.words; mpc = c.mpc; answers = c.answers; output = c.output }) (λ p r q s z. kind_timed (kind_of op) nxt guess (ended y.halt) p s e kw r q z code opd refl stop) f
