use Rattle.std.proofs.Common.{ℕ, List, ap, ◌∙◌}
use Rattle.image_words.specs.Signatures.{number_of}
use Rattle.image_words.proofs.SignatureLemmas.{number_is}
use Rattle.image_words.proofs.signatures.Signatures.number.Goals as goal

pub returns : goal.returns
returns c =
    number_is c.args.symbols c.self.inside.symbols.keys c.get_index_of.result c.get_index_of.ensures.index ∙ ap (λ (xs : List (ℕ × ℕ)). number_of xs c.args.symbols) c.self.view_is
