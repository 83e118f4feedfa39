use Rattle.std.proofs.Common.{sym, ap, ◌∙◌, subst, List, ℕ}
use Rattle.std.specs.List.Sorted.{IsStrictlyIncreasing}
use Rattle.std.proofs.lemmas.List.Sorted.{searched}
use Rattle.lists.specs.Members.{rising_all}
use Rattle.opcodes.specs.Start.{starts_of}
use Rattle.lists.specs.Numbers.{is_among}
use Rattle.frame_types.proofs.SearchLemmas.{told}
use Rattle.bytecode_verifier.proofs.methods.is_start.Goals as goal

pub returns : goal.returns
returns c =
    let xs = c.args.starts.now in
    let x = c.from.result in
    let rising = subst (λ (l : List ℕ). IsStrictlyIncreasing l) (sym c.requires) (c.starts_follow_one_another.ensures c.args.code.now).rising in
    c.is_ok.ensures.value ∙ (told xs x c.binary_search.result (searched xs x c.binary_search.result c.binary_search.ensures.position (rising_all xs rising)) ∙ (ap (λ (l : List ℕ). is_among l x) c.requires ∙ ap (is_among (starts_of c.args.code.now)) c.from.ensures))
