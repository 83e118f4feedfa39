-- The last line with the greatest load of a method that may call the root.
use Rattle.std.proofs.Common.{◌≡◌, ℕ, ◌+◌, ◌-◌, ◌≤◌, Option, Some, None, ap, ◌∙◌, is_some, IsSome, arith}
use Rattle.std.specs.Prelude.{option_map, unwrap_or}
use Rattle.bytecode_model.specs.Program.{Program, Body, body_of}
use Rattle.opcodes.specs.Start.{IsStart}
use Rattle.lists.proofs.Lemmas.{some_is}
use Rattle.method_flow.specs.Recursion.{MayCall}
use Rattle.method_flow.specs.Regions.{IsGreatestLoad}
use Rattle.method_flow.specs.declared.timing.Timing.{Timing}
use Rattle.bound_rules.specs.Told.{most_cycles}
use Rattle.bound_rules.specs.Conditions.{IsRight}
use Rattle.fact_rules.specs.Conditions.{IsCallersLoad, IsPricedRight}
use Rattle.fact_rules.specs.Conditions.IsCallersLoad.{none, greatest}
use Rattle.fact_bound.specs.Plain.{IsAtMost}

one_greatest : (P : Program) (r a b : ℕ) → IsGreatestLoad P r a → IsGreatestLoad P r b → a ≡ b
one_greatest P r a b x y =
    let up = x.greatest y.method y.coded in
    let down = y.greatest x.method x.coded in
    let at = x.attained in
    let at' = y.attained in
    omega (arith, up, down, at, at')

-- a method that may call another has code
coded : (P : Program) (m x : ℕ) → MayCall P m x → IsSome (body_of P m)
coded P m x may =
    let found = some_is (body_of P m) (λ (b : Body). IsStart b.code may.place) may.start in ap is_some found.1

callers_below : (P : Program) (r root back any : ℕ) → IsCallersLoad P r root back → IsGreatestLoad P r any → back ≤ any
callers_below P r root back any (none is never) g = omega arith
callers_below P r root back any (greatest m calls is most) g = let le = g.greatest m (coded P m root calls) in omega arith

pub less_at_most : (bound : Option ℕ) (less : ℕ) → IsAtMost (option_map (λ n. n - less) bound) bound
less_at_most None less = tt
less_at_most (Some n) less = omega arith

less_small : (bound : Option ℕ) (less : ℕ) → unwrap_or bound 0 ≤ most_cycles → unwrap_or (option_map (λ n. n - less) bound) 0 ≤ most_cycles
less_small None less small = small
less_small (Some n) less small = omega arith

-- with so many cycles less in the place of the greatest load
lessened_line : (full bound : Option ℕ) (invoke any back : ℕ) → back ≤ any → bound ≡ option_map (λ n. invoke + n + any) full
    → option_map (λ n. n - (any - back)) bound ≡ option_map (λ n. invoke + (n + 0) + back) full
lessened_line None bound invoke any back le is = ap (λ (o : Option ℕ). option_map (λ n. n - (any - back)) o) is
lessened_line (Some n) bound invoke any back le is =
    let same : invoke + n + any - (any - back) ≡ invoke + (n + 0) + back = omega arith in
    ap (λ (o : Option ℕ). option_map (λ x. x - (any - back)) o) is ∙ ap (λ (x : ℕ). Some x) same

pub right_for_callers : (P : Program) (t : Timing) (root any back : ℕ) (full bound : Option ℕ) → IsGreatestLoad P t.read any → IsCallersLoad P t.read root back → IsRight P t full bound
    → IsPricedRight P t root 0 full (option_map (λ n. n - (any - back)) bound)
right_for_callers P t root any back full bound g callers right =
    let p = right.printed in
    let same = one_greatest P t.read p.greatest_load any p.is_load g in
    let line : bound ≡ option_map (λ n. p.invoke + n + any) full = p.is ∙ ap (λ (l : ℕ). option_map (λ n. p.invoke + n + l) full) same in
    record {
      line = record {
        invoke = p.invoke;
        is_invoke = p.is_invoke;
        back = back;
        is_back = callers;
        is = lessened_line full bound p.invoke any back (callers_below P t.read root back any callers g) line;
      };
      small = less_small bound (any - back) right.small;
    }
