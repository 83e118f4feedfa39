-- No walk takes more than what potentials over the addresses say.
use Rattle.std.proofs.Common.{◌≡◌, ℕ, suc, pred, ◌+◌, ◌-◌, ◌*◌, ◌%◌, ◌<◌, ◌≤◌, ◌&&◌, ◌||◌, ◌==◌, Bool, true, false, nat_lt, if◌then◌else◌, List, [], ◌∷◌, Option, Some, None, get_or, refl, sym, ap, subst, ◌∙◌, zero, mul-le-mul_right, arith, ltb-true, eqb-true, eq-eqb}
use Rattle.microcode.specs.declared.isa.Body.{Body}
use Rattle.microcode.specs.declared.isa.Body.TheVariants.{Plain, Stm, Ldm, Ldi, Bz, Bnz, Jmp}
use Rattle.microcode.specs.declared.isa.Micro.{Micro}
use Rattle.microcode.specs.Isa.Operations.{operation_of}
use Rattle.microcode.specs.Isa.Words.{micro_of}
use Rattle.microcode.specs.declared.TheConstants.{WORDS, RAISE}
use Rattle.micro_flow.specs.declared.CostParams.{CostParams}
use Rattle.micro_flow.specs.declared.price.Price.{Price}
use Rattle.micro_flow.specs.Costs.{worth}
use Rattle.micro_flow.specs.Walk.{Walker, TimeKind, Waits, Reads, Writes, Halts, Other, kind_of, passed, arrived, onward, used, turned, branched, timed, stops, step, going, walk, Ends}
use Rattle.micro_flow.proofs.Prices.{IsShort, Within, plus, plus_value, raised, some_above, all_below, above_within, all_within, raise_within, lower_within, rebase, first, second}

-- A loop: its branch that goes back, and what each turn adds. Prices are told on top of one turn's, so that none is below 0 at the branch.
pub record Loop : Type 0 where
  pub branch : ℕ
  pub gain : Price

-- for each address of the list, prices over what a walk from there takes, besides the turns that it has left; none are told of an address from which such a walk isn't known
pub record Ctx : Type 0 where
  pub p : CostParams
  pub short : IsShort p
  pub nodes : List (List Price)
  pub loop : Loop

abbrev pub look : List (List Price) → ℕ → List Price
look nodes a = get_or nodes a []

abbrev pub cycles : ℕ → Price
cycles c = record { fixed = c; reads = 0; writes = 0 }

abbrev pub covered : List Price → Price → List Price → Bool
covered fs d [] = false
covered fs d (g ∷ gs) = all_below (raised d (g ∷ gs)) fs

-- fs covers that the walk is over at the price d
abbrev pub ends : Loop → List Price → Price → Bool
ends l fs d = some_above (plus d l.gain) fs

-- fs covers going to an address at the price d
abbrev pub edge : List (List Price) → Loop → List Price → Price → ℕ → Bool
edge ns l fs d to = if to == RAISE then ends l fs d else covered fs d (look ns to)

abbrev pub on_ok : List (List Price) → Loop → ℕ → List Price → Price → Bool → Bool
on_ok ns l at fs d true = ends l fs d
on_ok ns l at fs d false = edge ns l fs d ((at + 1) % 2048)

-- fs covers the wait for the port, at the price d
abbrev pub wait_ok : List (List Price) → Loop → ℕ → List Price → Price → Option Micro → Bool
wait_ok ns l at fs d None = false
wait_ok ns l at fs d (Some m) = elim m.body [ Plain code ↦ (elim (kind_of (operation_of code)) [ Waits ↦ on_ok ns l at fs d m.nxt | _ ↦ false ]) | _ ↦ false ]

-- a start of the port, with its wait right after
abbrev pub start_ok : List (List Price) → Loop → ℕ → List Price → Price → Bool
start_ok ns l at fs d = (if at == RAISE then false else true) && wait_ok ns l at fs d (micro_of (get_or WORDS at 0))

abbrev pub plain_ok : List (List Price) → Loop → ℕ → List Price → TimeKind → Bool → Bool
plain_ok ns l at fs Waits nxt = on_ok ns l at fs (cycles 1) nxt
plain_ok ns l at fs Reads nxt = (if nxt then false else true) && start_ok ns l ((at + 1) % 2048) fs (record { fixed = 2; reads = 1; writes = 0 })
plain_ok ns l at fs Writes nxt = (if nxt then false else true) && start_ok ns l ((at + 1) % 2048) fs (record { fixed = 2; reads = 0; writes = 1 })
plain_ok ns l at fs Halts nxt = ends l fs (cycles 1) && on_ok ns l at fs (cycles 1) nxt
plain_ok ns l at fs Other nxt = on_ok ns l at fs (cycles 1) nxt

-- A branch back is the loop's, unless it goes to the raise routine, where the walk is over.
abbrev pub branch_ok : List (List Price) → Loop → ℕ → List Price → ℕ → Bool → Bool
branch_ok ns l at fs to true = edge ns l fs (cycles 3) to
branch_ok ns l at fs to false = if to == RAISE then ends l fs (cycles 3) else (at == l.branch && edge ns l (raised l.gain fs) (cycles 3) to)

abbrev pub word_ok : List (List Price) → Loop → ℕ → List Price → Option Micro → Bool
word_ok ns l at fs None = true
word_ok ns l at fs (Some m) =
    elim m.body [
      | Plain code ↦ plain_ok ns l at fs (kind_of (operation_of code)) m.nxt
      | Stm k ↦ on_ok ns l at fs (cycles 1) m.nxt
      | Ldm k ↦ on_ok ns l at fs (cycles 1) m.nxt
      | Ldi k ↦ on_ok ns l at fs (cycles 1) m.nxt
      | Bz to ↦ branch_ok ns l at fs to (nat_lt at to) && on_ok ns l at fs (cycles 1) false
      | Bnz to ↦ branch_ok ns l at fs to (nat_lt at to) && on_ok ns l at fs (cycles 1) false
      | Jmp to ↦ branch_ok ns l at fs to (nat_lt at to)
    ]

abbrev pub node_ok : List (List Price) → Loop → ℕ → List Price → (word : ℕ) → Bool
node_ok ns l at [] word = true
node_ok ns l at (f ∷ fs) word = word_ok ns l at (f ∷ fs) (micro_of word)

-- the prices hold from an address on
abbrev pub all_ok : List (List Price) → Loop → ℕ → (words : List ℕ) → (here : List (List Price)) → Bool
all_ok ns l at words [] = true
all_ok ns l at [] (fs ∷ here) = false
all_ok ns l at (word ∷ words) (fs ∷ here) = node_ok ns l at fs word && all_ok ns l (at + 1) words here

abbrev pub Keeps : List (List Price) → Loop → Type 0
Keeps ns l = all_ok ns l 0 WORDS ns ≡ true

pub ok_from : (ns : List (List Price)) (l : Loop) (at : ℕ) (words : List ℕ) (here : List (List Price)) → all_ok ns l at words here ≡ true → (k : ℕ) (f : Price) (fs : List Price) → look here k ≡ f ∷ fs
    → word_ok ns l (at + k) (f ∷ fs) (micro_of (get_or words k 0)) ≡ true
ok_from ns l at words [] h k f fs e = cc
ok_from ns l at [] (gs ∷ here) h k f fs e = cc
ok_from ns l at (word ∷ words) (gs ∷ here) h zero f fs e =
    let same : at + 0 ≡ at = omega arith in
    let now = first (node_ok ns l at gs word) (all_ok ns l (at + 1) words here) h in
    ap (λ a. word_ok ns l a (f ∷ fs) (micro_of word)) same ∙ ap (λ (x : List Price). node_ok ns l at x word) (sym e) ∙ now
ok_from ns l at (word ∷ words) (gs ∷ here) h (suc k) f fs e =
    let same : at + suc k ≡ at + 1 + k = omega arith in
    ap (λ a. word_ok ns l a (f ∷ fs) (micro_of (get_or words k 0))) same ∙ ok_from ns l (at + 1) words here (second (node_ok ns l at gs word) (all_ok ns l (at + 1) words here) h) k f fs e

pub found_ok : (ns : List (List Price)) (l : Loop) → Keeps ns l → (a : ℕ) (f : Price) (fs : List Price) → look ns a ≡ f ∷ fs → word_ok ns l a (f ∷ fs) (micro_of (get_or WORDS a 0)) ≡ true
found_ok ns l h a f fs e =
    let same : a ≡ 0 + a = omega arith in
    ap (λ k. word_ok ns l k (f ∷ fs) (micro_of (get_or WORDS a 0))) same ∙ ok_from ns l 0 WORDS ns h a f fs e

-- what a walk that ends well began with
pub was_onward : (b : Bool) (s : Walker) → (onward b s).fine ≡ true → s.fine ≡ true
was_onward true s f = f
was_onward false s f = f

pub was_timed : (k : TimeKind) (p : CostParams) (s : Walker) → (timed k p s).fine ≡ true → s.fine ≡ true
was_timed Waits p s f = f
was_timed Reads p s f = f
was_timed Writes p s f = f
was_timed Halts p s f = f
was_timed Other p s f = f

pub was_turned : (b : Bool) (s : Walker) → (turned b s).fine ≡ true → s.fine ≡ true
was_turned true s f = f
was_turned false s f = second (nat_lt 0 (s.left s.at)) s.fine f

pub was_branched : (b : Bool) (to : ℕ) (s : Walker) → (branched b to s).fine ≡ true → s.fine ≡ true
was_branched true to s f = was_turned (nat_lt s.at to) s f
was_branched false to s f = f

pub was_body : (b : Body) (opd nxt g : Bool) (p : CostParams) (s : Walker) → (step (Some (record { body = b; opd = opd; nxt = nxt })) g p s).fine ≡ true → s.fine ≡ true
was_body (Plain code) opd nxt g p s f = was_timed (kind_of (operation_of code)) p s (was_onward (stops (kind_of (operation_of code)) g nxt) (timed (kind_of (operation_of code)) p s) f)
was_body (Stm k) opd nxt g p s f = was_onward nxt (passed 1 s) f
was_body (Ldm k) opd nxt g p s f = was_onward nxt (passed 1 s) f
was_body (Ldi k) opd nxt g p s f = was_onward nxt (passed 1 s) f
was_body (Bz to) opd nxt g p s f = was_branched g to s f
was_body (Bnz to) opd nxt g p s f = was_branched g to s f
was_body (Jmp to) opd nxt g p s f = was_branched true to s f

pub was_step : (m : Option Micro) (g : Bool) (p : CostParams) (s : Walker) → (step m g p s).fine ≡ true → s.fine ≡ true
was_step None g p s f = cc
was_step (Some m) g p s f = was_body m.body m.opd m.nxt g p s f

pub was_walk : (p : CostParams) (gs : List Bool) (s : Walker) → (walk p gs s).fine ≡ true → s.fine ≡ true
was_walk p [] s f = f
was_walk p (g ∷ gs) s f = second (if s.over then false else true) s.fine (was_step (micro_of (get_or WORDS s.at 0)) g p (going s) (was_walk p gs (step (micro_of (get_or WORDS s.at 0)) g p (going s)) f))

pub not_over : (b c : Bool) → ((if b then false else true) && c) ≡ true → b ≡ false
not_over true c f = cc
not_over false c f = refl

-- nothing comes after the end
pub over_clock : (p : CostParams) (gs : List Bool) (s : Walker) → s.over ≡ true → (walk p gs s).fine ≡ true → (walk p gs s).clock ≡ s.clock
over_clock p [] s o f = refl
over_clock p (g ∷ gs) s o f =
    let n = not_over s.over s.fine (was_step (micro_of (get_or WORDS s.at 0)) g p (going s) (was_walk p gs (step (micro_of (get_or WORDS s.at 0)) g p (going s)) f)) in
    cc

abbrev pub stock : Ctx → Walker → ℕ
stock c s = s.left c.loop.branch * worth c.p c.loop.gain

-- the cycles of a walk, and one turn's
abbrev pub time : Ctx → Walker → ℕ
time c s = s.clock + worth c.p c.loop.gain

abbrev pub told : List Price → Bool
told [] = false
told (f ∷ fs) = true

-- s is idle at a node, or waits for the port
abbrev pub Ready : Ctx → Bool → Walker → List Price → Price → ℕ → Type 0
Ready c false s fs d base = (s.port ≡ 0) × (look c.nodes s.at ≡ fs) × (told fs ≡ true) × (base ≡ s.clock)
Ready c true s fs d base = (0 < s.port) × (wait_ok c.nodes c.loop s.at fs d (micro_of (get_or WORDS s.at 0)) ≡ true) × (base + worth c.p d ≡ s.clock + s.port)

abbrev pub Holds : Ctx → List Bool → Type 0
Holds c gs = (b : Bool) (s : Walker) (fs : List Price) (d : Price) (base : ℕ) → Ready c b s fs d base → s.over ≡ false → Ends (walk c.p gs s) → Within c.p fs (base + stock c s) (time c (walk c.p gs s))

-- fs covers that the walk is over
pub is_over : (c : Ctx) (gs : List Bool) (s : Walker) (fs : List Price) (d : Price) (base : ℕ) → ends c.loop fs d ≡ true → base + worth c.p d ≡ s.clock → s.over ≡ true → Ends (walk c.p gs s) → Within c.p fs (base + stock c s) (time c (walk c.p gs s))
is_over c gs s fs d base h q o e =
    let k = over_clock c.p gs s o e.fine in
    above_within c.p c.short (plus d c.loop.gain) fs (base + stock c s) (time c (walk c.p gs s)) h (omega (arith, plus_value c.p d c.loop.gain))

-- fs covers an address that is come to
pub arrive : (c : Ctx) (gs : List Bool) → Holds c gs → (to : ℕ) (s : Walker) (fs : List Price) (d : Price) (base : ℕ) → edge c.nodes c.loop fs d to ≡ true → base + worth c.p d ≡ s.clock → s.port ≡ 0 → Ends (walk c.p gs (arrived to s)) →
    Within c.p fs (base + stock c s) (time c (walk c.p gs (arrived to s)))
arrive c gs ih to s fs d base h q z e = by (to == RAISE) refl h
  where
    on : (hs : List Price) → look c.nodes to ≡ hs → (to == RAISE) ≡ false → covered fs d hs ≡ true → Within c.p fs (base + stock c s) (time c (walk c.p gs (arrived to s)))
    on [] k r w = cc
    on (h ∷ hs) k r w =
        let i = ih false (arrived to s) (h ∷ hs) d s.clock (z, k, refl, refl) r e in
        all_within c.p c.short (raised d (h ∷ hs)) fs (base + stock c s) (time c (walk c.p gs (arrived to s))) w
        (raise_within c.p d (h ∷ hs) (base + stock c s) (time c (walk c.p gs (arrived to s))) (rebase c.p (h ∷ hs) (s.clock + stock c s) (base + stock c s + worth c.p d) (time c (walk c.p gs (arrived to s))) (omega arith) i))

    by : (b : Bool) → (to == RAISE) ≡ b → (if b then ends c.loop fs d else covered fs d (look c.nodes to)) ≡ true → Within c.p fs (base + stock c s) (time c (walk c.p gs (arrived to s)))
    by true r w = is_over c gs (arrived to s) fs d base w q r e
    by false r w = on (look c.nodes to) refl r w

-- the next address, or the end
pub go_on : (c : Ctx) (gs : List Bool) → Holds c gs → (nxt : Bool) (s : Walker) (fs : List Price) (d : Price) (base : ℕ) → on_ok c.nodes c.loop s.at fs d nxt ≡ true → base + worth c.p d ≡ s.clock → s.port ≡ 0 → Ends (walk c.p gs (onward nxt s)) →
    Within c.p fs (base + stock c s) (time c (walk c.p gs (onward nxt s)))
go_on c gs ih true s fs d base h q z e = is_over c gs (record s { over = true }) fs d base h q refl e
go_on c gs ih false s fs d base h q z e = arrive c gs ih ((s.at + 1) % 2048) s fs d base h q z e

pub used_same : (at : ℕ) (left : ℕ → ℕ) (b : Bool) → (at == at) ≡ b → (if b then left at - 1 else left at) ≡ left at - 1
used_same at left true e = refl
used_same at left false e = absurd (let q = eq-eqb at at refl in let r : true ≡ false = cc in cc r)

pub used_less : (at : ℕ) (left : ℕ → ℕ) (k : ℕ) → used at left k ≤ left k
used_less at left k = by (k == at)
  where
    by : (b : Bool) → (if b then left k - 1 else left k) ≤ left k
    by true = omega arith
    by false = omega arith

pub one_turn : (a b v : ℕ) → a + 1 ≡ b → a * v + v ≡ b * v
one_turn a b v e = let q = ap (λ k. k * v) e in omega arith

pub branch_on : (c : Ctx) (gs : List Bool) → Holds c gs → (ahead : Bool) (to : ℕ) (s : Walker) (fs : List Price) → nat_lt s.at to ≡ ahead → branch_ok c.nodes c.loop s.at fs to ahead ≡ true → s.port ≡ 0 → Ends (walk c.p gs (arrived to (passed 3 (turned ahead s)))) →
    Within c.p fs (s.clock + stock c s) (time c (walk c.p gs (arrived to (passed 3 (turned ahead s)))))
branch_on c gs ih true to s fs a h z e = arrive c gs ih to (passed 3 s) fs (cycles 3) s.clock h (omega arith) (omega arith) e
branch_on c gs ih false to s fs a h z e = by (to == RAISE) refl h
  where
    t : Walker
    t = turned false s

    by : (b : Bool) → (to == RAISE) ≡ b → (if b then ends c.loop fs (cycles 3) else (s.at == c.loop.branch && edge c.nodes c.loop (raised c.loop.gain fs) (cycles 3) to)) ≡ true
        → Within c.p fs (s.clock + stock c s) (time c (walk c.p gs (arrived to (passed 3 t))))
    by true r h =
        let w = is_over c gs (arrived to (passed 3 t)) fs (cycles 3) s.clock h (omega arith) r e in
        let less : t.left c.loop.branch ≤ s.left c.loop.branch = used_less s.at s.left c.loop.branch in
        rebase c.p fs (s.clock + stock c t) (s.clock + stock c s) (time c (walk c.p gs (arrived to (passed 3 t)))) (omega (arith, mul-le-mul_right (worth c.p c.loop.gain) less)) w
    by false r h =
        let here : s.at ≡ c.loop.branch = eqb-true s.at c.loop.branch (first (s.at == c.loop.branch) (edge c.nodes c.loop (raised c.loop.gain fs) (cycles 3) to) h) in
        let more : 0 < s.left s.at = ltb-true 0 (s.left s.at) (first (nat_lt 0 (s.left s.at)) s.fine (was_walk c.p gs (arrived to (passed 3 t)) e.fine)) in
        let w = arrive c gs ih to (passed 3 t) (raised c.loop.gain fs) (cycles 3) s.clock (second (s.at == c.loop.branch) (edge c.nodes c.loop (raised c.loop.gain fs) (cycles 3) to) h) (omega arith) (omega arith) e in
        let less : t.left s.at ≡ s.left s.at - 1 = used_same s.at s.left (s.at == s.at) refl in
        let left : t.left c.loop.branch + 1 ≡ s.left c.loop.branch = subst (λ k. t.left k + 1 ≡ s.left k) here (omega arith) in
        let sum : stock c t + worth c.p c.loop.gain ≡ stock c s = one_turn (t.left c.loop.branch) (s.left c.loop.branch) (worth c.p c.loop.gain) left in
        rebase c.p fs (s.clock + stock c t + worth c.p c.loop.gain) (s.clock + stock c s) (time c (walk c.p gs (arrived to (passed 3 t)))) (omega arith)
        (lower_within c.p c.loop.gain fs (s.clock + stock c t) (time c (walk c.p gs (arrived to (passed 3 t)))) w)

-- a start of the port
pub busy : (c : Ctx) (gs : List Bool) → Holds c gs → (s : Walker) (fs : List Price) (d : Price) (base q : ℕ) → start_ok c.nodes c.loop ((s.at + 1) % 2048) fs d ≡ true → base + worth c.p d ≡ s.clock + suc q → Ends (walk c.p gs (onward false (record s { port = suc q }))) →
    Within c.p fs (base + stock c s) (time c (walk c.p gs (onward false (record s { port = suc q }))))
busy c gs ih s fs d base q h e w =
    let to = (s.at + 1) % 2048 in
    let on = if to == RAISE then false else true in
    let rest = wait_ok c.nodes c.loop to fs d (micro_of (get_or WORDS to 0)) in
    ih true (onward false (record s { port = suc q })) fs d base (omega arith, second on rest h, e) (not_raise (to == RAISE) (first on rest h)) w
  where
    not_raise : (b : Bool) → (if b then false else true) ≡ true → b ≡ false
    not_raise true k = cc
    not_raise false k = refl

pub ended : (c : Ctx) (gs : List Bool) → Holds c gs → (stop nxt : Bool) (s : Walker) (fs : List Price) (base : ℕ) → (ends c.loop fs (cycles 1) && on_ok c.nodes c.loop s.at fs (cycles 1) nxt) ≡ true → base + 1 ≡ s.clock → s.port ≡ 0 → Ends (walk c.p gs (onward (stop || nxt) s)) →
    Within c.p fs (base + stock c s) (time c (walk c.p gs (onward (stop || nxt) s)))
ended c gs ih true nxt s fs base h q z e = go_on c gs ih true s fs (cycles 1) base (first (ends c.loop fs (cycles 1)) (on_ok c.nodes c.loop s.at fs (cycles 1) nxt) h) (omega arith) z e
ended c gs ih false nxt s fs base h q z e = go_on c gs ih nxt s fs (cycles 1) base (second (ends c.loop fs (cycles 1)) (on_ok c.nodes c.loop s.at fs (cycles 1) nxt) h) (omega arith) z e

pub plain_on : (c : Ctx) (gs : List Bool) → Holds c gs → (k : TimeKind) (g nxt : Bool) (s : Walker) (fs : List Price) → plain_ok c.nodes c.loop s.at fs k nxt ≡ true → s.port ≡ 0 → Ends (walk c.p gs (onward (stops k g nxt) (timed k c.p s))) →
    Within c.p fs (s.clock + stock c s) (time c (walk c.p gs (onward (stops k g nxt) (timed k c.p s))))
plain_on c gs ih Waits g nxt s fs h z e = go_on c gs ih nxt (timed Waits c.p s) fs (cycles 1) s.clock h (let q : pred s.port ≡ 0 = ap pred z in omega arith) refl e
plain_on c gs ih Reads g true s fs h z e = cc
plain_on c gs ih Reads g false s fs h z e =
    let one : c.p.r + 1 ≡ suc c.p.r = omega arith in
    let l = λ (i : ℕ). walk c.p gs (onward false (record (passed 1 s) { port = i })) in
    subst (λ i. Within c.p fs (s.clock + stock c s) (time c (l i))) (sym one)
    (busy c gs ih (passed 1 s) fs (record { fixed = 2; reads = 1; writes = 0 }) s.clock c.p.r h (omega arith) (subst (λ i. Ends (l i)) one e))
plain_on c gs ih Writes g true s fs h z e = cc
plain_on c gs ih Writes g false s fs h z e =
    let one : c.p.w + 1 ≡ suc c.p.w = omega arith in
    let l = λ (i : ℕ). walk c.p gs (onward false (record (passed 1 s) { port = i })) in
    subst (λ i. Within c.p fs (s.clock + stock c s) (time c (l i))) (sym one)
    (busy c gs ih (passed 1 s) fs (record { fixed = 2; reads = 0; writes = 1 }) s.clock c.p.w h (omega arith) (subst (λ i. Ends (l i)) one e))
plain_on c gs ih Halts g nxt s fs h z e = ended c gs ih g nxt (passed 1 s) fs s.clock h refl (omega arith) e
plain_on c gs ih Other g nxt s fs h z e = go_on c gs ih nxt (passed 1 s) fs (cycles 1) s.clock h (omega arith) (omega arith) e

pub either_way : (c : Ctx) (gs : List Bool) → Holds c gs → (g : Bool) (to : ℕ) (s : Walker) (fs : List Price) → branch_ok c.nodes c.loop s.at fs to (nat_lt s.at to) ≡ true → on_ok c.nodes c.loop s.at fs (cycles 1) false ≡ true → s.port ≡ 0 →
    Ends (walk c.p gs (branched g to s)) → Within c.p fs (s.clock + stock c s) (time c (walk c.p gs (branched g to s)))
either_way c gs ih true to s fs h k z e = branch_on c gs ih (nat_lt s.at to) to s fs refl h z e
either_way c gs ih false to s fs h k z e = go_on c gs ih false (passed 1 s) fs (cycles 1) s.clock k (omega arith) (omega arith) e

pub body_on : (c : Ctx) (gs : List Bool) → Holds c gs → (b : Body) (opd nxt g : Bool) (s : Walker) (fs : List Price) → let m : Micro = record { body = b; opd = opd; nxt = nxt } in word_ok c.nodes c.loop s.at fs (Some m) ≡ true → s.port ≡ 0 →
    Ends (walk c.p gs (step (Some m) g c.p s)) → Within c.p fs (s.clock + stock c s) (time c (walk c.p gs (step (Some m) g c.p s)))
body_on c gs ih (Plain code) opd nxt g s fs h z e = plain_on c gs ih (kind_of (operation_of code)) g nxt s fs h z e
body_on c gs ih (Stm k) opd nxt g s fs h z e = go_on c gs ih nxt (passed 1 s) fs (cycles 1) s.clock h (omega arith) (omega arith) e
body_on c gs ih (Ldm k) opd nxt g s fs h z e = go_on c gs ih nxt (passed 1 s) fs (cycles 1) s.clock h (omega arith) (omega arith) e
body_on c gs ih (Ldi k) opd nxt g s fs h z e = go_on c gs ih nxt (passed 1 s) fs (cycles 1) s.clock h (omega arith) (omega arith) e
body_on c gs ih (Bz to) opd nxt g s fs h z e = let l = branch_ok c.nodes c.loop s.at fs to (nat_lt s.at to) in let r = on_ok c.nodes c.loop s.at fs (cycles 1) false in either_way c gs ih g to s fs (first l r h) (second l r h) z e
body_on c gs ih (Bnz to) opd nxt g s fs h z e = let l = branch_ok c.nodes c.loop s.at fs to (nat_lt s.at to) in let r = on_ok c.nodes c.loop s.at fs (cycles 1) false in either_way c gs ih g to s fs (first l r h) (second l r h) z e
body_on c gs ih (Jmp to) opd nxt g s fs h z e = branch_on c gs ih (nat_lt s.at to) to s fs refl h z e

pub word_on : (c : Ctx) (gs : List Bool) → Holds c gs → (m : Option Micro) (g : Bool) (s : Walker) (fs : List Price) → word_ok c.nodes c.loop s.at fs m ≡ true → s.port ≡ 0 →
    Ends (walk c.p gs (step m g c.p s)) → Within c.p fs (s.clock + stock c s) (time c (walk c.p gs (step m g c.p s)))
word_on c gs ih None g s fs h z e = let f = was_walk c.p gs (record s { fine = false }) e.fine in cc
word_on c gs ih (Some m) g s fs h z e = body_on c gs ih m.body m.opd m.nxt g s fs h z e

-- a wait at a port that isn't ready
pub wait_kind : (c : Ctx) (gs : List Bool) → Holds c gs → (k : TimeKind) (g nxt : Bool) (s : Walker) (fs : List Price) (d : Price) (base : ℕ) → (elim k [ Waits ↦ on_ok c.nodes c.loop s.at fs d nxt | _ ↦ false ]) ≡ true → 0 < s.port → base + worth c.p d ≡ s.clock + s.port
    → Ends (walk c.p gs (onward (stops k g nxt) (timed k c.p s))) → Within c.p fs (base + stock c s) (time c (walk c.p gs (onward (stops k g nxt) (timed k c.p s))))
wait_kind c gs ih Waits g nxt s fs d base h z r e = go_on c gs ih nxt (timed Waits c.p s) fs d base h (let k : suc (pred s.port) ≡ s.port = omega arith in omega arith) refl e
wait_kind c gs ih Reads g nxt s fs d base h z r e = cc
wait_kind c gs ih Writes g nxt s fs d base h z r e = cc
wait_kind c gs ih Halts g nxt s fs d base h z r e = cc
wait_kind c gs ih Other g nxt s fs d base h z r e = cc

pub wait_body : (c : Ctx) (gs : List Bool) → Holds c gs → (b : Body) (opd nxt g : Bool) (s : Walker) (fs : List Price) (d : Price) (base : ℕ) → let m : Micro = record { body = b; opd = opd; nxt = nxt } in wait_ok c.nodes c.loop s.at fs d (Some m) ≡ true → 0 < s.port
    → base + worth c.p d ≡ s.clock + s.port → Ends (walk c.p gs (step (Some m) g c.p s)) → Within c.p fs (base + stock c s) (time c (walk c.p gs (step (Some m) g c.p s)))
wait_body c gs ih (Plain code) opd nxt g s fs d base h z r e = wait_kind c gs ih (kind_of (operation_of code)) g nxt s fs d base h z r e
wait_body c gs ih (Stm k) opd nxt g s fs d base h z r e = cc
wait_body c gs ih (Ldm k) opd nxt g s fs d base h z r e = cc
wait_body c gs ih (Ldi k) opd nxt g s fs d base h z r e = cc
wait_body c gs ih (Bz k) opd nxt g s fs d base h z r e = cc
wait_body c gs ih (Bnz k) opd nxt g s fs d base h z r e = cc
wait_body c gs ih (Jmp k) opd nxt g s fs d base h z r e = cc

pub wait_on : (c : Ctx) (gs : List Bool) → Holds c gs → (m : Option Micro) (g : Bool) (s : Walker) (fs : List Price) (d : Price) (base : ℕ) → wait_ok c.nodes c.loop s.at fs d m ≡ true → 0 < s.port → base + worth c.p d ≡ s.clock + s.port
    → Ends (walk c.p gs (step m g c.p s)) → Within c.p fs (base + stock c s) (time c (walk c.p gs (step m g c.p s)))
wait_on c gs ih None g s fs d base h z r e = cc
wait_on c gs ih (Some m) g s fs d base h z r e = wait_body c gs ih m.body m.opd m.nxt g s fs d base h z r e

found_told : (ns : List (List Price)) (l : Loop) → Keeps ns l → (a : ℕ) (fs : List Price) → look ns a ≡ fs → told fs ≡ true → word_ok ns l a fs (micro_of (get_or WORDS a 0)) ≡ true
found_told ns l h a [] e t = cc
found_told ns l h a (f ∷ fs) e t = found_ok ns l h a f fs e

-- Each walk from a node is within its prices.
pub bounded : (c : Ctx) → Keeps c.nodes c.loop → (gs : List Bool) → Holds c gs
bounded c h [] b s fs d base r o e = absurd (let f = e.over in let g : true ≡ false = cc in cc g)
bounded c h (g ∷ gs) false s fs d base r o e =
    subst (λ k. Within c.p fs (k + stock c s) (time c (walk c.p (g ∷ gs) s))) (sym r.3)
    (word_on c gs (bounded c h gs) (micro_of (get_or WORDS s.at 0)) g (going s) fs (found_told c.nodes c.loop h s.at fs r.1 r.2) r.0 e)
bounded c h (g ∷ gs) true s fs d base r o e = wait_on c gs (bounded c h gs) (micro_of (get_or WORDS s.at 0)) g (going s) fs d base r.1 r.0 r.2 e
