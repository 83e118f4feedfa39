use Rattle.std.proofs.Common.{sym, ◌∙◌, arith}
use Rattle.class_lookup.proofs.Numbering.{none_of}
use Rattle.image_words.proofs.SignatureLemmas.{symbols_within, added_none, added_more, added_left}
use Rattle.image_words.proofs.signatures.add_signatures.Goals as goal
use Rattle.image_words.proofs.signatures.add_signatures.Goals.{in-Some+in_ok-insert, in_default}

pub loop-index-init : goal.loop-index-init
loop-index-init c = added_none c.args.classes.now c.args.class c.args.signatures.now

pub loop-index-preserved : goal.loop-index-preserved
loop-index-preserved c =
    let cs = c.args.classes.now in
    let class = c.args.class in
    let start = c.args.signatures.now in
    let old = c.loop-index.signatures in
    let new = c.match-symbols_at.signatures in
    elim c.match-symbols_at.branch [
      | in-Some+in_ok-insert w ↦ added_more cs class c.loop-index.index start old new w.in-Some.symbols c.loop-index.invariant (sym c.symbols_at.ensures ∙ w.in-Some.is) (w.signatures-is ∙ w.in_ok-insert.ensures)
      | in_default w ↦ added_left cs class c.loop-index.index start old new c.loop-index.invariant (sym c.symbols_at.ensures ∙ none_of c.symbols_at.result w.in_default.not-Some) w.signatures-is
    ]

pub returns-clause-kept : goal.returns-clause-kept
returns-clause-kept c = c.loop-index.invariant.kept

pub returns-clause-there : goal.returns-clause-there
returns-clause-there c = λ i k h.
    let within = symbols_within c.args.classes.now (c.args.class, i) k h in
    let lt = within.1 in
    let test = c.loop-index-test.false in
    let count = c.method_count-index-end.ensures in
    c.loop-index.invariant.there i k (omega (arith, lt, test, count)) h
