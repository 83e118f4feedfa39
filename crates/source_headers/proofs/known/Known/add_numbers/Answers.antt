use Rattle.std.proofs.Common.{◌≡◌, List, ℕ, take, get_or, Contains, [], ◌∙◌, sym, ap, subst}
use Rattle.std.proofs.lemmas.Grind.{take_at_read}
use Rattle.std.proofs.lemmas.List.{take_all}
use Rattle.source_headers.specs.Known.{IsWith}
use Rattle.source_headers.proofs.KnownLemmas.{one_more}
use Rattle.source_headers.proofs.known.Known.add_numbers.Goals as goal

pub loop-number-preserved : goal.loop-number-preserved
loop-number-preserved c =
    let ns = c.args.numbers.now in
    let i = c.loop-number.number-index in
    let old = c.args.self.now in
    let name = get_or old.names c.args.name [] in
    let n = get_or ns i 0 in
    let W : List ℕ → Type 0 = λ ms. IsWith old.sites c.add_number.new.self.sites (λ s. (s.0 ≡ name) × Contains ms s.1) in
    let V : List ℕ → Type 0 = λ x. IsWith c.loop-number.self.sites c.add_number.new.self.sites (λ s. s ≡ (x, n)) in
    let at : get_or c.loop-number.self.names c.args.name [] ≡ name = ap (λ (xs : List (List ℕ)). get_or xs c.args.name []) c.loop-number.invariant.names in
    record {
      names = c.in_ok-add_number.ensures.names ∙ c.loop-number.invariant.names;
      sites =
          subst W (sym (take_at_read ns i 0 c.loop-number-test.true).1)
          (one_more old.sites c.loop-number.self.sites c.add_number.new.self.sites name (take i ns) n c.loop-number.invariant.sites (subst V at c.in_ok-add_number.ensures.sites));
    }

pub returns-clause-sites : goal.returns-clause-sites
returns-clause-sites c =
    let ns = c.args.numbers.now in
    let old = c.args.self.now in
    let W : List ℕ → Type 0 = λ ms. IsWith old.sites c.loop-number.self.sites (λ s. (s.0 ≡ get_or old.names c.args.name []) × Contains ms s.1) in
    subst W (take_all c.loop-number.number-index ns c.loop-number-test.false) c.loop-number.invariant.sites
