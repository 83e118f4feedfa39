-- The numbers of a loop by acts and numbers of nodes are those of the loop rules.
use Rattle.std.proofs.Common.{◌≡◌, ◌≢◌, ◌↔◌, ℕ, zero, suc, ◌*◌, ◌^◌, ◌<◌, ◌≤◌, ℤ, pos, negsuc, ◌+ℤ◌, Bool, true, false, List, Contains, Some, refl, sym, ap, ◌∙◌, subst, inl, inr, arith}
use Rattle.std.specs.Prelude.{not, FitsSigned}
use Rattle.std.specs.Int.{w32}
use Rattle.std.proofs.lemmas.Int.{ints}
use Rattle.std.proofs.lemmas.Bool.{cases_lt}
use Rattle.std.proofs.Math.Nat.{mul-le-mul_left}
use Rattle.section_check.specs.Least.{IsLeast}
use Rattle.bytecode_model.specs.Program.{Program}
use Rattle.bytecode_model.specs.Rows as rows
use Rattle.bytecode_model.specs.Rows.{Row}
use Rattle.loop_nest.specs.Digraph.{Digraph}
use Rattle.code_lines.specs.Laws.{LinesAreOne}
use Rattle.code_scan.specs.declared.rows.Comparison.{Comparison}
use Rattle.code_scan.specs.declared.rows.Comparison.TheVariants.{Equal, Unequal, Less, AtLeast, Greater, AtMost}
use Rattle.code_scan.specs.Rows.{test_of}
use Rattle.loop_rules.specs.Tests.{LeavesLoop}
use Rattle.loop_rules.specs.Tests.LeavesLoop.{where_taken, where_not}
use Rattle.loop_rules.specs.Values.{value_at, IsFirstOut}
use Rattle.loop_acts.specs.Rules.{Rules}
use Rattle.loop_finder.specs.Counted.{CountsWith}
use Rattle.loop_acts.specs.declared.effects.Test.{Test}
use Rattle.loop_acts.specs.declared.effects.Act.{Act}
use Rattle.loop_acts.specs.declared.effects.Act.TheVariants as does
use Rattle.loop_finder.specs.declared.counting.Choice.{Choice}
use Rattle.loop_acts.specs.Acts.{act_at, taken_by, written, IsTestAt, IsActAt, AreActs, HasRow}
use Rattle.loop_finder.specs.declared.body.Beginnings.{Beginnings}
use Rattle.loop_finder.specs.Beginning.{IsSteppedAt}
use Rattle.loop_finder.specs.Counting.{BeginsIn, Body, Counts, IsOnlyStep}
use Rattle.loop_finder.proofs.Meeting.{writes_at, writes, test_act, step_act}

-- ---- numbers are small

few_up : (first : ℤ) (t n : ℕ) → FitsSigned w32 first → FitsSigned w32 (first +ℤ pos (n * suc t)) → n < 2 ^ 32
few_up first t n low high =
    let more : n * 1 ≤ n * suc t = mul-le-mul_left n (omega arith) in
    omega (arith, ints)

few_down : (first : ℤ) (t n : ℕ) → FitsSigned w32 first → FitsSigned w32 (value_at first (negsuc t) n) → n < 2 ^ 32
few_down first t n high low =
    let more : n * 1 ≤ n * suc t = mul-le-mul_left n (omega arith) in
    omega (arith, ints)

few_values : (first s : ℤ) (out : ℤ → Bool) (n : ℕ) → s ≢ pos 0 → IsFirstOut first s out n → n < 2 ^ 32
few_values first (pos zero) out n moves is = absurd (moves refl)
few_values first (pos (suc t)) out n moves is = few_up first t n (begins is) (is.ints n (omega arith))
  where
    begins : IsFirstOut first (pos (suc t)) out n → FitsSigned w32 first
    begins is = let at : value_at first (pos (suc t)) 0 ≡ first = omega (arith, ints) in subst (λ (z : ℤ). FitsSigned w32 z) at (is.ints 0 (omega arith))
few_values first (negsuc t) out n moves is = few_down first t n (begins is) (is.ints n (omega arith))
  where
    begins : IsFirstOut first (negsuc t) out n → FitsSigned w32 first
    begins is = let at : value_at first (negsuc t) 0 ≡ first = omega (arith, ints) in subst (λ (z : ℤ). FitsSigned w32 z) at (is.ints 0 (omega arith))

-- ---- the comparison that holds where another doesn't

opposite : Comparison → Comparison
opposite Equal = Unequal
opposite Unequal = Equal
opposite Less = AtLeast
opposite AtLeast = Less
opposite Greater = AtMost
opposite AtMost = Greater

not_not : (b : Bool) → not (not b) ≡ b
not_not true = refl
not_not false = refl

opposite_is : (c : Comparison) (y x : ℤ) → not (test_of c y x) ≡ test_of (opposite c) y x
unfolding opposite
opposite_is Equal y x = not_not _
opposite_is Unequal y x = refl
opposite_is Less y x = refl
opposite_is AtLeast y x = not_not _
opposite_is Greater y x = refl
opposite_is AtMost y x = not_not _

out_same : (first s : ℤ) (out other : ℤ → Bool) (n : ℕ) → ((value : ℤ) → out value ≡ other value) → IsFirstOut first s out n → IsFirstOut first s other n
out_same first s out other n same is = record { ints = is.ints; leaves = sym (same _) ∙ is.leaves; stays = λ k less. sym (same _) ∙ is.stays k less }

-- which comparison says that a value leaves
out_by : (g : Digraph) (h p next : ℕ) (offset : ℤ) (t : Test) (out : ℤ → Bool) → LeavesLoop g h p next offset (taken_by t) out → (c : Comparison) × ((value : ℤ) → out value ≡ test_of c t.limit value)
out_by g h p next offset t out (where_taken at away inside) = (t.taken, λ value. refl)
out_by g h p next offset t out (where_not at inside away) = (opposite t.taken, λ value. opposite_is t.taken t.limit value)

module _ (P : Program) (rules : Rules) (m : ℕ) (acts : List Act) (g : Digraph) (begins : Beginnings) (h : ℕ) (one : LinesAreOne) (are : AreActs P rules m acts)
    (begins_as : (k u : ℕ) (c : ℤ) → IsSteppedAt (record { acts = acts; graph = g; begins = begins }) (2 * h) k u
    → rules.begins m g h k c ↔ BeginsIn (record { acts = acts; graph = g; begins = begins }) (2 * h) k c) where
  abbrev body : Body
  body = record { acts = acts; graph = g; begins = begins }

  pub counts_is : (n : ℕ) → Counts body (2 * h) n → CountsWith P rules m g h n
  counts_is n (p, (k, is, at, counts)) =
      let test : IsTestAt P rules m k.test is.test = subst (IsActAt P rules m k.test) is.is (are k.test) in
      let step : HasRow P m k.step (rows.Increment is.test.local k.by) = subst (IsActAt P rules m k.step) is.step.is (are k.step) in
      record {
        local = is.test.local;
        step = k.step;
        behind_step = step.0;
        s = k.by;
        increment = step.1;
        moves = is.step.moves;
        each_step = counts.each_step;
        no_other = λ q member w. is.step.alone q member (writes_at P rules m acts one are q is.test.local w);
        test = k.test;
        behind_test = is.test.next;
        offset = is.test.offset;
        taken = taken_by is.test;
        out = is.out;
        is_test = test.is;
        each_test = counts.each_test;
        leaves = is.leaves;
        c = k.begin;
        begins = (begins_as is.test.local (2 * k.step) k.begin (k.step, k.by, refl, is.step, counts.each_step)).1 is.begins;
        first = counts.first;
        tested = counts.tested;
        first_out = out_same counts.first k.by (λ value. test_of k.out k.limit value) is.out n (λ value. sym (is.same value)) counts.first_out;
        small = few_values counts.first k.by (λ value. test_of k.out k.limit value) n is.step.moves counts.first_out;
      }

  pub counts_found : (n : ℕ) → CountsWith P rules m g h n → Counts body (2 * h) n
  counts_found n r =
      let t = test_act P rules m acts one are r.test r.behind_test r.local r.offset r.taken r.is_test in
      let leaves =
      subst (λ (z : ℤ → Bool). LeavesLoop g (2 * h) r.test t.0.next t.0.offset z r.out) t.5
      (subst (λ (z : ℤ). LeavesLoop g (2 * h) r.test t.0.next z r.taken r.out) t.4
      (subst (λ (z : ℕ). LeavesLoop g (2 * h) r.test z r.offset r.taken r.out) t.2 r.leaves)) in
      let out = out_by g (2 * h) r.test t.0.next t.0.offset t.0 r.out leaves in
      let k : Choice = record { test = r.test; step = r.step; by = r.s; begin = r.c; out = out.0; limit = t.0.limit } in
      let step : act_at acts r.step ≡ does.Step t.0.local r.s = step_act P rules m acts one are r.step r.behind_step r.local r.s r.increment ∙ ap (λ (i : ℕ). does.Step i r.s) t.3 in
      let only : IsOnlyStep body (2 * h) t.0.local r.step r.s = record {
        is = step;
        moves = r.moves;
        member = r.each_step.member;
        alone = λ q member w. r.no_other q member (writes P rules m acts one are q r.local (subst (λ (i : ℕ). Contains (written (act_at acts q)) i) (sym t.3) w));
      } in (
        r.test,
        (
          k,
          record {
            test = t.0;
            is = t.1;
            step = only;
            begins = (begins_as t.0.local (2 * r.step) r.c (r.step, r.s, refl, only, r.each_step)).0 (subst (λ (i : ℕ). rules.begins m g h i r.c) t.3 r.begins);
            out = r.out;
            leaves = leaves;
            same = out.1;
          },
          refl,
          record { each_test = r.each_test; each_step = r.each_step; first = r.first; tested = r.tested; first_out = out_same r.first r.s r.out (λ value. test_of out.0 t.0.limit value) n out.1 r.first_out },
        ),
      )

  pub counted_is : (n : ℕ) → IsLeast (Counts body (2 * h)) (Some n) → CountsWith P rules m g h n × ((other : ℕ) → CountsWith P rules m g h other → n ≤ other)
  counted_is n is = (counts_is n is.0, λ other c. elim (cases_lt other n) [ inl less ↦ absurd (is.1 other less (counts_found other c)) | inr ge ↦ ge ])

  pub counted_found : (n : ℕ) → CountsWith P rules m g h n → ((other : ℕ) → CountsWith P rules m g h other → n ≤ other) → IsLeast (Counts body (2 * h)) (Some n)
  counted_found n counts least = (counts_found n counts, λ other less c. let le = least other (counts_is other c) in absurd (omega arith))
