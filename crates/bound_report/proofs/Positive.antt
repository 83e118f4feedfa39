-- What a node costs by itself is never nothing.
use Rattle.std.proofs.Common.{◌≡◌, ℕ, ◌≤◌, ◌<◌, Bool, true, false, cond, List, [], ◌∷◌, Option, Some, None, refl, arith}
use Rattle.std.specs.Prelude.{nat_lt, slice_index}
use Rattle.lists.specs.Tests.{and_right}
use Rattle.microcode.specs.declared.isa.Body.{Body}
use Rattle.microcode.specs.declared.isa.Body.TheVariants.{Plain, Stm, Ldm, Ldi, Bz, Bnz, Jmp}
use Rattle.microcode.specs.declared.isa.Micro.{Micro}
use Rattle.microcode.specs.Isa.Operations.{operation_of}
use Rattle.microcode.specs.Isa.Words.{micro_of}
use Rattle.microcode.specs.declared.TheConstants.{WORDS}
use Rattle.micro_flow.specs.declared.CostParams.{CostParams}
use Rattle.micro_flow.specs.Walk.{TimeKind, Waits, Reads, Writes, Halts, Other, kind_of, Walker, passed, onward, turned, branched, timed, stops, step, going, walk, begin, IsGreatestTime}

onward_clock : (b : Bool) (s : Walker) → (onward b s).clock ≡ s.clock
onward_clock true s = refl
onward_clock false s = refl

onward_fine : (b : Bool) (s : Walker) → (onward b s).fine ≡ s.fine
onward_fine true s = refl
onward_fine false s = refl

timed_clock : (k : TimeKind) (p : CostParams) (s : Walker) → s.clock < (timed k p s).clock
timed_clock Waits p s = omega arith
timed_clock Reads p s = omega arith
timed_clock Writes p s = omega arith
timed_clock Halts p s = omega arith
timed_clock Other p s = omega arith

timed_fine : (k : TimeKind) (p : CostParams) (s : Walker) → (timed k p s).fine ≡ s.fine
timed_fine Waits p s = refl
timed_fine Reads p s = refl
timed_fine Writes p s = refl
timed_fine Halts p s = refl
timed_fine Other p s = refl

turned_clock : (b : Bool) (s : Walker) → (turned b s).clock ≡ s.clock
turned_clock true s = refl
turned_clock false s = refl

turned_fine : (b : Bool) (s : Walker) → (turned b s).fine ≡ true → s.fine ≡ true
turned_fine true s e = e
turned_fine false s e = and_right (nat_lt 0 (s.left s.at)) s.fine e

branched_clock : (b : Bool) (to : ℕ) (s : Walker) → s.clock < (branched b to s).clock
branched_clock true to s = let same = turned_clock (nat_lt s.at to) s in omega arith
branched_clock false to s = omega arith

branched_fine : (b : Bool) (to : ℕ) (s : Walker) → (branched b to s).fine ≡ true → s.fine ≡ true
branched_fine true to s e = turned_fine (nat_lt s.at to) s e
branched_fine false to s e = e

-- a microinstruction takes a cycle at least, and does not allow what wasn't
record IsStep (old new : Walker) : Type 0 where
  later : old.clock < new.clock
  fine : new.fine ≡ true → old.fine ≡ true

plain_step : (b : Bool) (k : TimeKind) (p : CostParams) (s : Walker) → IsStep s (onward b (timed k p s))
plain_step b k p s = record {
  later = (let up = timed_clock k p s in let same = onward_clock b (timed k p s) in omega arith);
  fine = λ e. grind (arith, timed_fine k p s, onward_fine b (timed k p s));
}

other_step : (b : Bool) (s : Walker) → IsStep s (onward b (passed 1 s))
other_step b s = record {
  later = (let same = onward_clock b (passed 1 s) in omega arith);
  fine = λ e. grind (arith, onward_fine b (passed 1 s));
}

branch_step : (b : Bool) (to : ℕ) (s : Walker) → IsStep s (branched b to s)
branch_step b to s = record { later = branched_clock b to s; fine = branched_fine b to s }

abbrev stepped : (choice nxt : Bool) → CostParams → Walker → Body → Walker
stepped choice nxt p s (Plain code) = onward (stops (kind_of (operation_of code)) choice nxt) (timed (kind_of (operation_of code)) p s)
stepped choice nxt p s (Stm k) = onward nxt (passed 1 s)
stepped choice nxt p s (Ldm k) = onward nxt (passed 1 s)
stepped choice nxt p s (Ldi k) = onward nxt (passed 1 s)
stepped choice nxt p s (Bz to) = branched choice to s
stepped choice nxt p s (Bnz to) = branched choice to s
stepped choice nxt p s (Jmp to) = branched true to s

body_step : (choice nxt : Bool) (p : CostParams) (s : Walker) (b : Body) → IsStep s (stepped choice nxt p s b)
body_step choice nxt p s (Plain code) = plain_step (stops (kind_of (operation_of code)) choice nxt) (kind_of (operation_of code)) p s
body_step choice nxt p s (Stm k) = other_step nxt s
body_step choice nxt p s (Ldm k) = other_step nxt s
body_step choice nxt p s (Ldi k) = other_step nxt s
body_step choice nxt p s (Bz to) = branch_step choice to s
body_step choice nxt p s (Bnz to) = branch_step choice to s
body_step choice nxt p s (Jmp to) = branch_step true to s

going_fine : (s : Walker) → (going s).fine ≡ true → s.fine ≡ true
going_fine s e = and_right (cond s.over false true) s.fine e

-- where it stays allowed, it took a cycle
step_later : (o : Option Micro) (choice : Bool) (p : CostParams) (s : Walker) → (step o choice p (going s)).fine ≡ true → (s.clock < (step o choice p (going s)).clock) × (s.fine ≡ true)
step_later None choice p s e = absurd (let bad : false ≡ true = e in cc)
step_later (Some m) choice p s e = let one : IsStep (going s) (step (Some m) choice p (going s)) = body_step choice m.nxt p (going s) m.body in (one.later, going_fine s (one.fine e))

walk_later : (p : CostParams) (choices : List Bool) (s : Walker) → (walk p choices s).fine ≡ true → (s.clock ≤ (walk p choices s).clock) × (s.fine ≡ true)
walk_later p [] s e = (omega arith, e)
walk_later p (c ∷ cs) s e =
    let rest = walk_later p cs (step (micro_of (slice_index WORDS s.at)) c p (going s)) e in
    let one = step_later (micro_of (slice_index WORDS s.at)) c p s rest.1 in
    let up = one.0 in
    let more = rest.0 in
    (omega arith, one.1)

-- to a boundary
ends_later : (p : CostParams) (at : ℕ) (choices : List Bool) → (walk p choices (begin p at)).fine ≡ true → (walk p choices (begin p at)).over ≡ true → 0 < (walk p choices (begin p at)).clock
ends_later p at [] fine over = absurd (let bad : false ≡ true = over in cc)
ends_later p at (c ∷ cs) fine over =
    let rest = walk_later p cs (step (micro_of (slice_index WORDS at)) c p (going (begin p at))) fine in
    let one = step_later (micro_of (slice_index WORDS at)) c p (begin p at) rest.1 in
    let up = one.0 in
    let more = rest.0 in
    omega arith

pub cost_positive : (p : CostParams) (at n : ℕ) → IsGreatestTime p at n → 0 < n
cost_positive p at n g = let up = ends_later p at g.attained.choices g.attained.ends.fine g.attained.ends.over in let same = g.attained.takes in omega arith
