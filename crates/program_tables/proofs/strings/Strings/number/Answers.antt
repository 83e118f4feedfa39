use Rattle.std.proofs.Common.{◌≡◌, ◌<◌, ℕ, Bool, List, Option, None, Some, length, map, sym, ◌∙◌, arith}
use Rattle.std.specs.Prelude.{IfSome}
use Rattle.std.proofs.lemmas.Option.{slice_get_within}
use Rattle.bytecode_model.specs.Lists.{index_of}
use Rattle.lists.proofs.Lemmas.{index_found}
use Rattle.class_lookup.specs.Parts.{same_text}
use Rattle.class_lookup.proofs.Numbering.{long_keys}
use Rattle.program_tables.proofs.strings.Strings.number.Goals as goal

few : (test : List ℕ → Bool) (texts : List (List ℕ)) (o : Option ℕ) → o ≡ index_of test texts → length texts < 1073741824 → IfSome o (λ number. number < 1073741824)
few test texts None h small = tt
few test texts (Some n) h small =
    let f = index_found test texts n (sym h) in
    let within = slice_get_within texts n f.0 f.1 in
    omega (arith, within, small)

pub returns-clause-few : goal.returns-clause-few
returns-clause-few c =
    let texts = map (λ v. v.items) c.self.inside.texts.items in
    let long = long_keys c.self.inside.texts.items in
    let small = c.self.invariant.0 in
    few (same_text c.args.units.now) texts c.copied.result (c.copied.ensures ∙ (c.get.ensures.value ∙ c.self.invariant.1 c.args.units.now)) (omega (arith, long, small))
