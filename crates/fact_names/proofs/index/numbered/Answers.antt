use Rattle.std.proofs.Common.{◌≡◌, ℕ, suc, ◌+◌, ◌≤◌, List, length, Vec, Global, refl, sym, ap, ◌∙◌, subst, arith}
use Rattle.std.proofs.lemmas.Option.{slice_get_read}
use Rattle.bound_texts.proofs.LoopsLemmas.NameLemmas.{texts, grown}
use Rattle.flow_facts.specs.declared.line.NumberedFact.{NumberedFact}
use Rattle.fact_names.specs.Found.{name_said}
use Rattle.fact_names.specs.Index.{AreNumbered}
use Rattle.fact_names.proofs.Listing.{next_numbered, one_more}
use Rattle.fact_names.proofs.index.numbered.Goals as goal

pub loop-i-preserved : goal.loop-i-preserved
loop-i-preserved c =
    let lines = c.args.lines.now in
    let i = c.loop-i.i in
    let keys = c.loop-i.names.keys in
    let more = c.insert_full.new.self.keys in
    let line = c.index-lines-i.result in
    let name = c.in_ok-name.name in
    let r = c.in_ok-number.ensures in
    let less = subst (λ (ks : List (Vec ℕ Global)). length (texts ks) ≤ suc (length (texts keys))) (sym r.keys) (one_more keys name) in
    subst (λ (es : List (ℕ × ℕ)). AreNumbered lines (i + 1) (texts more) es) (sym c.in_ok-push.ensures.items)
    (next_numbered lines i (texts keys) (texts more) c.loop-i.numbers.items c.in_ok-number.number name.items line c.loop-i.invariant (grown keys more c.in_ok-number.number name r.keys r.stored r.unique) less
    (slice_get_read lines (length lines) i line refl c.loop-i-test.true c.index-lines-i.is) (c.in_ok-name.ensures.items ∙ (c.name_said.ensures ∙ ap (λ (z : NumberedFact). name_said z.fact) (sym c.index-lines-i.is))))

pub returns : goal.returns
returns c =
    let end = c.loop-i-test.false in
    let top = c.loop-i.auto.i-end in
    let last : c.loop-i.i ≡ length c.args.lines.now = omega arith in
    subst (λ (n : ℕ). AreNumbered c.args.lines.now n (texts c.loop-i.names.keys) c.loop-i.numbers.items) last c.loop-i.invariant
