-- Marks of addresses that no walk leaves, tested by computing.
use Rattle.std.proofs.Common.{◌≡◌, ℕ, suc, zero, ◌+◌, ◌%◌, ◌<◌, ◌&&◌, ◌||◌, Bool, true, false, if◌then◌else◌, List, [], ◌∷◌, length, Option, Some, None, get_or, ◌⊎◌, inl, inr, ⊎_elim, refl, sym, ap, ◌∙◌, arith}
use Rattle.microcode.specs.declared.isa.Body.{Body}
use Rattle.microcode.specs.declared.isa.Body.TheVariants.{Plain, Stm, Ldm, Ldi, Bz, Bnz, Jmp}
use Rattle.microcode.specs.declared.isa.Micro.{Micro}
use Rattle.microcode.specs.Isa.Operations.{operation_of}
use Rattle.microcode.specs.Isa.Words.{micro_of}
use Rattle.microcode.specs.declared.TheConstants.{WORDS}
use Rattle.micro_flow.specs.declared.CostParams.{CostParams}
use Rattle.micro_flow.specs.Walk.{Walker, TimeKind, Waits, Reads, Writes, Halts, Other, kind_of, passed, onward, turned, branched, timed, stops, step, going, walk}
use Rattle.micro_flow.proofs.Prices.{first, second}

abbrev pub marked : List Bool → ℕ → Bool
marked marks at = get_or marks at false

abbrev pub behind : {A : Type 0} → List A → List A
behind [] = []
behind (x ∷ xs) = xs

-- whether a word goes on to addresses that pass a test: the next one, if it falls through, and that of its branch
abbrev pub next_ok : (falls : Bool) → (lands : ℕ → Bool) → Option Micro → Bool
next_ok falls lands None = false
next_ok falls lands (Some m) =
    elim m.body [
      | Plain code ↦ m.nxt || falls
      | Stm k ↦ m.nxt || falls
      | Ldm k ↦ m.nxt || falls
      | Ldi k ↦ m.nxt || falls
      | Bz to ↦ falls && lands to
      | Bnz to ↦ falls && lands to
      | Jmp to ↦ lands to
    ]

-- whether each word at a mark of the first list goes on to marks of the other, which `next` has from the address behind on
abbrev pub closed : (to : List Bool) → (words : List ℕ) → (from next : List Bool) → Bool
closed to words [] next = true
closed to words (here ∷ from) next =
    (if here then next_ok (marked next 0) (marked to) (micro_of (get_or words 0 0)) else true) && closed to (behind words) from (behind next)

abbrev pub subset : List Bool → List Bool → Bool
subset [] all = true
subset (here ∷ part) all = (if here then marked all 0 else true) && subset part (behind all)

-- words at marks of `from` go on to marks of `to`, which are also marks of `from`
pub record Shut (from to : List Bool) : Type 0 where
  pub few : length from < 2048
  pub leads : closed to WORDS from (behind to) ≡ true
  pub within : subset to from ≡ true

get_or_behind : {A : Type 0} (xs : List A) (i : ℕ) (d : A) → get_or (behind xs) i d ≡ get_or xs (suc i) d
get_or_behind [] i d = refl
get_or_behind (x ∷ xs) i d = refl

pub marked_inside : (marks : List Bool) (i : ℕ) → marked marks i ≡ true → i < length marks
marked_inside [] i holds = cc
marked_inside (b ∷ marks) zero holds = omega arith
marked_inside (b ∷ marks) (suc i) holds = omega (arith, marked_inside marks i holds)

if_marked : (here b : Bool) → (if here then b else true) ≡ true → here ≡ true → b ≡ true
if_marked true b holds here = holds
if_marked false b holds here = cc

pub subset_at : (part all : List Bool) → subset part all ≡ true → (i : ℕ) → marked part i ≡ true → marked all i ≡ true
subset_at [] all holds i here = cc
subset_at (b ∷ part) all holds zero here = if_marked b (marked all 0) (first (if b then marked all 0 else true) (subset part (behind all)) holds) here
subset_at (b ∷ part) all holds (suc i) here = sym (get_or_behind all i false) ∙ subset_at part (behind all) (second (if b then marked all 0 else true) (subset part (behind all)) holds) i here

closed_at : (to : List Bool) (words : List ℕ) (from next : List Bool) → closed to words from next ≡ true → (i : ℕ) → marked from i ≡ true → next_ok (marked next i) (marked to) (micro_of (get_or words i 0)) ≡ true
closed_at to words [] next holds i here = cc
closed_at to words (b ∷ from) next holds zero here =
    let now = if b then next_ok (marked next 0) (marked to) (micro_of (get_or words 0 0)) else true in
    if_marked b (next_ok (marked next 0) (marked to) (micro_of (get_or words 0 0))) (first now (closed to (behind words) from (behind next)) holds) here
closed_at to words (b ∷ from) next holds (suc i) here =
    let now = if b then next_ok (marked next 0) (marked to) (micro_of (get_or words 0 0)) else true in
    let rest = closed_at to (behind words) from (behind next) (second now (closed to (behind words) from (behind next)) holds) i here in
    ap (λ word. next_ok (marked next (suc i)) (marked to) (micro_of word)) (sym (get_or_behind words i 0))
    ∙ ap (λ falls. next_ok falls (marked to) (micro_of (get_or (behind words) i 0))) (sym (get_or_behind next i false))
    ∙ rest

-- What one microinstruction does.

-- over where it stood, or at a mark
abbrev pub Lands : (to : List Bool) → (at : ℕ) → Walker → Type 0
Lands to at s = ((s.over ≡ true) × (s.at ≡ at)) ⊎ (marked to s.at ≡ true)

timed_at : (k : TimeKind) (p : CostParams) (s : Walker) → (timed k p s).at ≡ s.at
timed_at Waits p s = refl
timed_at Reads p s = refl
timed_at Writes p s = refl
timed_at Halts p s = refl
timed_at Other p s = refl

turned_at : (ahead : Bool) (s : Walker) → (turned ahead s).at ≡ s.at
turned_at true s = refl
turned_at false s = refl

onward_lands : (to : List Bool) (at : ℕ) (stop : Bool) (s : Walker) → s.at ≡ at → (stop ≡ false → marked to ((at + 1) % 2048) ≡ true) → Lands to at (onward stop s)
onward_lands to at true s here falls = inl (refl, here)
onward_lands to at false s here falls = inr (ap (λ k. marked to ((k + 1) % 2048)) here ∙ falls refl)

nxt_falls : (nxt falls : Bool) → (nxt || falls) ≡ true → nxt ≡ false → falls ≡ true
nxt_falls true falls holds none = cc
nxt_falls false falls holds none = holds

stops_falls : (k : TimeKind) (choice nxt falls : Bool) → (nxt || falls) ≡ true → stops k choice nxt ≡ false → falls ≡ true
stops_falls Waits choice nxt falls holds none = nxt_falls nxt falls holds none
stops_falls Reads choice nxt falls holds none = nxt_falls nxt falls holds none
stops_falls Writes choice nxt falls holds none = nxt_falls nxt falls holds none
stops_falls Other choice nxt falls holds none = nxt_falls nxt falls holds none
stops_falls Halts true nxt falls holds none = cc
stops_falls Halts false nxt falls holds none = nxt_falls nxt falls holds none

branched_lands : (to : List Bool) (taken : Bool) (place : ℕ) (s : Walker) → (taken ≡ false → marked to ((s.at + 1) % 2048) ≡ true) → marked to place ≡ true → Lands to s.at (branched taken place s)
branched_lands to true place s falls lands = inr lands
branched_lands to false place s falls lands = onward_lands to s.at false (passed 1 s) refl falls

body_lands : (p : CostParams) (to : List Bool) (body : Body) (opd nxt choice : Bool) (s : Walker) → next_ok (marked to ((s.at + 1) % 2048)) (marked to) (Some (record { body = body; opd = opd; nxt = nxt })) ≡ true
    → Lands to s.at (step (Some (record { body = body; opd = opd; nxt = nxt })) choice p s)
body_lands p to (Plain code) opd nxt choice s holds =
    let kind = kind_of (operation_of code) in
    onward_lands to s.at (stops kind choice nxt) (timed kind p s) (timed_at kind p s) (stops_falls kind choice nxt (marked to ((s.at + 1) % 2048)) holds)
body_lands p to (Stm k) opd nxt choice s holds = onward_lands to s.at nxt (passed 1 s) refl (nxt_falls nxt (marked to ((s.at + 1) % 2048)) holds)
body_lands p to (Ldm k) opd nxt choice s holds = onward_lands to s.at nxt (passed 1 s) refl (nxt_falls nxt (marked to ((s.at + 1) % 2048)) holds)
body_lands p to (Ldi k) opd nxt choice s holds = onward_lands to s.at nxt (passed 1 s) refl (nxt_falls nxt (marked to ((s.at + 1) % 2048)) holds)
body_lands p to (Bz place) opd nxt choice s holds =
    branched_lands to choice place s (λ not_taken. first (marked to ((s.at + 1) % 2048)) (marked to place) holds) (second (marked to ((s.at + 1) % 2048)) (marked to place) holds)
body_lands p to (Bnz place) opd nxt choice s holds =
    branched_lands to choice place s (λ not_taken. first (marked to ((s.at + 1) % 2048)) (marked to place) holds) (second (marked to ((s.at + 1) % 2048)) (marked to place) holds)
body_lands p to (Jmp place) opd nxt choice s holds = branched_lands to true place s (λ not_taken. cc) holds

step_lands : (p : CostParams) (to : List Bool) (m : Option Micro) (choice : Bool) (s : Walker) → next_ok (marked to ((s.at + 1) % 2048)) (marked to) m ≡ true → Lands to s.at (step m choice p s)
step_lands p to None choice s holds = cc
step_lands p to (Some m) choice s holds = body_lands p to m.body m.opd m.nxt choice s holds

-- What walks do.

abbrev pub stepped : CostParams → Bool → Walker → Walker
stepped p choice s = step (micro_of (get_or WORDS s.at 0)) choice p (going s)

one_lands : (p : CostParams) (from to : List Bool) → Shut from to → (choice : Bool) (s : Walker) → marked from s.at ≡ true → Lands to s.at (stepped p choice s)
one_lands p from to shut choice s here =
    let m = micro_of (get_or WORDS s.at 0) in
    let goes = closed_at to WORDS from (behind to) shut.leads s.at here in
    let few = shut.few in
    let inside = marked_inside from s.at here in
    let next : (s.at + 1) % 2048 ≡ suc s.at = omega arith in
    step_lands p to m choice (going s) (ap (λ k. next_ok (marked to k) (marked to) m) next ∙ ap (λ falls. next_ok falls (marked to) m) (sym (get_or_behind to s.at false)) ∙ goes)

-- a walk stays at marks
one_stays : (p : CostParams) (from to : List Bool) → Shut from to → (choice : Bool) (s : Walker) → marked from s.at ≡ true → marked from (stepped p choice s).at ≡ true
one_stays p from to shut choice s here =
    ⊎_elim
    (λ over. ap (marked from) over.1 ∙ here)
    (λ lands. subset_at to from shut.within (stepped p choice s).at lands)
    (one_lands p from to shut choice s here)

pub walk_stays : (p : CostParams) (from to : List Bool) → Shut from to → (choices : List Bool) (s : Walker) → marked from s.at ≡ true → marked from (walk p choices s).at ≡ true
walk_stays p from to shut [] s here = here
walk_stays p from to shut (choice ∷ choices) s here = walk_stays p from to shut choices (stepped p choice s) (one_stays p from to shut choice s here)

-- and after a word it is over or at a mark that words go on to
pub walk_lands : (p : CostParams) (from to : List Bool) → Shut from to → (choice : Bool) (choices : List Bool) (s : Walker) → marked from s.at ≡ true
    → ((walk p (choice ∷ choices) s).over ≡ true) ⊎ (marked to (walk p (choice ∷ choices) s).at ≡ true)
walk_lands p from to shut choice [] s here = ⊎_elim (λ over. inl over.0) (λ lands. inr lands) (one_lands p from to shut choice s here)
walk_lands p from to shut choice (other ∷ choices) s here = walk_lands p from to shut other choices (stepped p choice s) (one_stays p from to shut choice s here)
