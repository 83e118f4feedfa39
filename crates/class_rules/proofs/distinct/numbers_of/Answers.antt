use Rattle.std.proofs.Common.{arith, ◌≡◌, ◌<◌, ◌+◌, ℕ, List, ◌∷◌, [], ◌++◌, length, length-append, get_or, refl, sym, ap, ◌∙◌, unwrap_or}
use Rattle.class_pool.specs.declared.entry.Entry.{Entry}
use Rattle.class_pool.specs.Grammar.{text_at}
use Rattle.class_rules.specs.Distinct.{number_in}
use Rattle.class_rules.proofs.DistinctLemmas.{first_none, first_more, text_here, all_numbered}
use Rattle.class_rules.proofs.distinct.numbers_of.Goals as goal

pub loop-entry-init : goal.loop-entry-init
loop-entry-init c =
    let all : c.push.new.self.items ≡ c.in_ok-none.none ∷ [] = c.in_ok-push.ensures.items ∙ ap (λ (xs : List ℕ). xs ++ c.in_ok-none.none ∷ []) c.new-numbers.ensures.items in
    rw all (first_none c.args.pool.now c.new-known.result c.number_of.new.numbers c.in_ok-none.none c.new-known.ensures.empty c.in_ok-none.ensures.found c.in_ok-none.ensures.numbered, refl)

pub loop-entry-preserved : goal.loop-entry-preserved
loop-entry-preserved c =
    let numbers : List ℕ = c.loop-entry.numbers.items in
    let lt : c.loop-entry.entry-index < length c.args.pool.now = omega (arith, c.loop-entry-test.true, ap (λ (es : List Entry). length es) c.entries-entry-items.ensures) in
    let entry : c.entry-item.result ≡ get_or c.args.pool.now c.loop-entry.entry-index c.entry-item.result =
    c.entry-item.is ∙ ap (λ (es : List Entry). get_or es c.loop-entry.entry-index c.entry-item.result) c.entries-entry-items.ensures in
    let here : text_at c.args.pool.now (length numbers) ≡ c.text_of.result.now =
    ap (text_at c.args.pool.now) c.loop-entry.invariant.1 ∙ text_here c.args.pool.now c.loop-entry.entry-index c.entry-item.result lt entry ∙ sym c.text_of.ensures in
    let is : c.in_ok-number.number ≡ unwrap_or (number_in c.loop-entry.known c.text_of.result.now) (length numbers) =
    c.in_ok-number.ensures.found ∙ ap (unwrap_or (number_in c.loop-entry.known c.text_of.result.now)) (omega (arith, c.len.ensures)) in
    rw c.in_ok-push-2.ensures.items (
      first_more c.args.pool.now c.loop-entry.known c.number_of-in-loop-entry.new.numbers numbers c.text_of.result.now c.in_ok-number.number here is c.in_ok-number.ensures.numbered c.loop-entry.invariant.0,
      length-append numbers (c.in_ok-number.number ∷ []) ∙ ap (λ (n : ℕ). n + 1) c.loop-entry.invariant.1,
    )

pub returns : goal.returns
returns c =
    let long : length c.args.pool.now < length c.loop-entry.numbers.items = omega (arith, c.loop-entry-test.false, c.loop-entry.invariant.1, ap (λ (es : List Entry). length es) c.entries-entry-items.ensures) in
    all_numbered c.args.pool.now c.loop-entry.known c.loop-entry.numbers.items long c.loop-entry.invariant.0
