use Rattle.std.proofs.Common.{◌≡◌, ℕ, ◌<◌, false, List, [], ◌++◌, length, replicate, sym, ap, ◌∙◌, subst, arith}
use Rattle.std.proofs.lemmas.List.{nil_from_length, get_or_default}
use Rattle.std.proofs.lemmas.Bool.{both_ways}
use Rattle.fact_names.specs.Reach.{IsSearch, flag_at}
use Rattle.fact_names.proofs.Searching.{search_ends, search_skips, search_start, search_takes, smaller, stacked_within}
use Rattle.fact_names.proofs.reach.led_to.Goals.{else-not-index-via-then-not-index+else-not-barred-x, else-not-index-via-else-not-index}
use Rattle.fact_names.proofs.reach.led_to.Goals as goal

pub loop-x-init : goal.loop-x-init
loop-x-init c =
    search_start c.args.next.now c.args.barred.now c.args.start c.in_ok-stack.stack.items c.in_ok-flags.flags.items c.requires.start c.in_ok-stack.ensures.items
    (c.in_ok-flags.ensures.items_if_clones_equal (λ y h. h) ∙ ap (λ (n : ℕ). replicate n false) c.requires.long)

pub returns : goal.returns
returns c =
    let ok = c.loop-x.stack.ok in
    let cases = c.in_default.ensures.cases in
    let empty : c.loop-x.stack.items ≡ [] = nil_from_length c.loop-x.stack.items (omega (arith, ok.0, cases.0)) in
    let P : List ℕ → Type 0 = λ ls. IsSearch c.args.next.now c.args.barred.now c.args.start ls c.loop-x.flags.items in
    search_ends c.args.next.now c.args.barred.now c.args.start c.loop-x.flags.items (subst P empty c.loop-x.invariant)

pub loop-x-smaller-then-not-barred-x : goal.loop-x-smaller-then-not-barred-x
loop-x-smaller-then-not-barred-x c =
    let lists = c.args.next.now in
    let x = c.in-Some.x in
    let flags = c.loop-x.flags.items in
    let s = c.loop-x.invariant in
    let left = c.pop.new.self.items in
    let lt = stacked_within (length lists) x c.loop-x.stack.items left c.in-Some.ensures.items s.stack_within in
    let long = s.long in
    let inside : x < length flags = omega arith in
    let fresh : flag_at flags x ≡ false = sym (c.index.ensures ∙ get_or_default flags x c.index.result.now false inside) ∙ c.if-not-index.true in
    smaller lists x flags c.loop-x.stack.items left c.extend_from_slice.new.self.items inside fresh c.in-Some.ensures.items
    (c.in_ok-extend_from_slice.ensures.items ∙ ap (λ (us : List ℕ). left ++ us) c.of.ensures)

pub loop-x-preserved-then-not-barred-x : goal.loop-x-preserved-then-not-barred-x
loop-x-preserved-then-not-barred-x c =
    let lists = c.args.next.now in
    let x = c.in-Some.x in
    let flags = c.loop-x.flags.items in
    let s = c.loop-x.invariant in
    let left = c.pop.new.self.items in
    let P : List ℕ → Type 0 = λ ls. IsSearch lists c.args.barred.now c.args.start ls flags in
    search_takes lists c.args.barred.now c.args.start flags left x c.extend_from_slice.new.self.items c.requires.within (subst P c.in-Some.ensures.items s) c.if-not-barred-x.true
    (c.in_ok-extend_from_slice.ensures.items ∙ ap (λ (us : List ℕ). left ++ us) c.of.ensures)

pub loop-x-preserved : goal.loop-x-preserved
loop-x-preserved c =
    let lists = c.args.next.now in
    let x = c.in-Some.x in
    let flags = c.loop-x.flags.items in
    let s = c.loop-x.invariant in
    let left = c.pop.new.self.items in
    let lt = stacked_within (length lists) x c.loop-x.stack.items left c.in-Some.ensures.items s.stack_within in
    let long = s.long in
    let inside : x < length flags = omega arith in
    let read = sym (c.index.ensures ∙ get_or_default flags x c.index.result.now false inside) in
    let P : List ℕ → Type 0 = λ ls. IsSearch lists c.args.barred.now c.args.start ls flags in
    search_skips lists c.args.barred.now c.args.start flags left x (subst P c.in-Some.ensures.items s) (λ fine. elim c.else-not-index.branch [
      | else-not-index-via-then-not-index+else-not-barred-x w ↦ absurd (both_ways (flag_at c.args.barred.now x) fine w.if-not-barred-x.false)
      | else-not-index-via-else-not-index w ↦ read ∙ w.if-not-index.false
    ])
