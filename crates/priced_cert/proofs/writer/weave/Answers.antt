use Rattle.std.proofs.Common.{◌≡◌, ◌++◌, [], ◌∷◌, ℕ, List, ap, ap₂, sym, ◌∙◌, rules}
use Rattle.std.specs.Prelude.{flat_map}
use Rattle.priced_cert.specs.declared.prices.Price.{Price}
use Rattle.priced_cert.specs.declared.kind.LineKind.TheVariants.{OfSection, OfBound}
use Rattle.priced_cert.specs.Texts.{fed_line}
use Rattle.priced_cert.specs.Weaving.{woven}
use Rattle.priced_cert.proofs.WeavingLemmas.{weave_on, weave_past}
use Rattle.priced_cert.proofs.writer.weave.Goals as goal
use Rattle.priced_cert.proofs.writer.weave.Goals.{in-OfSection+in_ok-put_prices-in-OfSection, in-OfBound+in_ok-put_prices-in-OfBound, in_default}

pub loop-line-preserved : goal.loop-line-preserved
loop-line-preserved c =
    let out = c.loop-line.out.items in
    let more = c.put_line.new.out.items in
    let line = c.in-Some.line.now in
    let rest = c.next.new.self in
    let held = c.loop-line.held.now in
    let others = c.loop-line.others.now in
    let total = c.args.out.now.items ++ flat_map fed_line (woven [] c.args.left c.args.prices.now) in
    let is : out ++ flat_map fed_line (woven held (line ∷ rest) others) ≡ total =
    ap (λ (ls : List (List ℕ)). out ++ flat_map fed_line (woven held ls others)) (sym c.in-Some.ensures.steps) ∙ c.loop-line.invariant in
    let put = c.in_ok-put_line.ensures in
    elim c.match-kind_of.branch [
      | in-OfSection+in_ok-put_prices-in-OfSection w ↦
          ap₂ (λ (h : List Price) (o : List (List Price)). more ++ flat_map fed_line (woven h rest o)) (ap (λ r. r.now) w.held-is ∙ w.first_of.ensures.first) (ap (λ r. r.now) w.others-is ∙ w.first_of.ensures.others)
          ∙ weave_on out more total OfSection held line rest others (sym c.kind_of.ensures ∙ (search rules)) is
          (put ∙ (ap (λ v. v.items ++ fed_line line) w.out-is ∙ ap (λ (t : List ℕ). t ++ fed_line line) w.in_ok-put_prices-in-OfSection.ensures))
      | in-OfBound+in_ok-put_prices-in-OfBound w ↦
          ap₂ (λ (h : List Price) (o : List (List Price)). more ++ flat_map fed_line (woven h rest o)) (ap (λ r. r.now) w.held-is) (ap (λ r. r.now) w.others-is)
          ∙ weave_on out more total OfBound held line rest others (sym c.kind_of.ensures ∙ (search rules)) is
          (put ∙ (ap (λ v. v.items ++ fed_line line) w.out-is ∙ ap (λ (t : List ℕ). t ++ fed_line line) w.in_ok-put_prices-in-OfBound.ensures))
      | in_default w ↦
          ap₂ (λ (h : List Price) (o : List (List Price)). more ++ flat_map fed_line (woven h rest o)) (ap (λ r. r.now) w.held-is) (ap (λ r. r.now) w.others-is)
          ∙ weave_past out more total held line rest others c.kind_of.result (sym c.kind_of.ensures) w.in_default.not-OfSection w.in_default.not-OfBound is
          (put ∙ ap (λ v. v.items ++ fed_line line) w.out-is)
    ]
