use Rattle.std.proofs.Common.{◌≡◌, ◌+◌, ◌<◌, ℕ, List, length, get_or, Contains, sym, ap, ◌∙◌, subst, arith}
use Rattle.std.proofs.lemmas.List.{with_items_is}
use Rattle.std.proofs.lemmas.List.Elements.{All-contains, Contains-get_or}
use Rattle.method_flow.specs.Flow.{Flow}
use Rattle.bound_finder.specs.Known.{bounds_in}
use Rattle.bound_report.specs.declared.counts.MethodCounts.{MethodCounts}
use Rattle.bound_report.specs.Adding.{AddsCount}
use Rattle.bound_report.proofs.Turns.{IsCounting, counting_none, counting_more, counting_all}
use Rattle.bound_report.proofs.times.count_all.Goals as goal

pub loop-m-init : goal.loop-m-init
loop-m-init c =
    let set = c.args.task.now in
    let table = c.args.table.now in
    let methods = c.args.methods.now in
    let times = c.in-Ok.times.items in
    let start = c.in-Ok.ensures in
    let count : c.method_count.result ≡ length set.flow.methods = c.method_count.ensures.count ∙ ap (λ (f : Flow). length f.methods) c.flow.ensures in
    let known : (x : ℕ) → Contains methods x → x < c.method_count.result = λ x has. let below = All-contains (λ m. m < length set.flow.methods) methods x c.requires.known has in omega arith in
    record {
      long = start.long ∙ count;
      each = λ P of.
          let C : List MethodCounts → Type 0 = λ ks. IsCounting P set.timing (bounds_in set) table c.args.root methods 0 times ks in
          subst C (sym c.new-counted.ensures.items) (counting_none P set.timing (bounds_in set) table c.args.root methods c.method_count.result times known start);
    }

pub loop-m-preserved : goal.loop-m-preserved
loop-m-preserved c =
    let set = c.args.task.now in
    let table = c.args.table.now in
    let methods = c.args.methods.now in
    let i = c.loop-m.m-index in
    let m = get_or methods i 0 in
    let old = c.loop-m.times.items in
    let ks = c.loop-m.counted.items in
    let new = c.count_next.new.times in
    let value = c.deref_mut.ensures.value in
    let D : List ℕ → Type 0 = λ ts. AddsCount set table m ts ks new c.count_next.new.counted.items in
    let a = subst D value c.in_ok-count_next.ensures.counted in
    let same_long = a.times_added.long in
    let ok = c.loop-m.times.ok in
    let now = with_items_is c.loop-m.times new (omega (arith, ok.0)) in
    let long = c.loop-m.invariant.long in
    let known : (x : ℕ) → Contains methods x → x < length old = λ x has. let below = All-contains (λ y. y < length set.flow.methods) methods x c.requires.known has in omega arith in
    record {
      long = ap length now ∙ (same_long ∙ long);
      each = λ P of.
          let T : List ℕ → Type 0 = λ ts. IsCounting P set.timing (bounds_in set) table c.args.root methods (i + 1) ts c.count_next.new.counted.items in
          let C : List MethodCounts → Type 0 = λ js. IsCounting P set.timing (bounds_in set) table c.args.root methods (i + 1) new js in
          subst T (sym now)
          (subst C (sym a.added)
          (counting_more P set.timing (bounds_in set) table c.args.root methods (c.requires.settled P of) c.requires.limited i c.loop-m-test.true old ks (c.loop-m.invariant.each P of) a.counts (a.are.counts P of) a.are.method a.are.times new a.times_added known));
    }

pub count_next-requires-clause-settled : goal.count_next-requires-clause-settled
count_next-requires-clause-settled c = λ P of. (c.requires.settled P of).each (get_or c.args.methods.now c.loop-m.m-index 0) (Contains-get_or c.args.methods.now c.loop-m.m-index 0 c.loop-m-test.true)

pub returns-clause-counts : goal.returns-clause-counts
returns-clause-counts c = λ P of.
    let set = c.args.task.now in
    counting_all P set.timing (bounds_in set) c.args.table.now c.args.root c.args.methods.now c.loop-m.m-index c.loop-m.times.items c.loop-m.counted.items c.loop-m-test.false (c.loop-m.invariant.each P of)
