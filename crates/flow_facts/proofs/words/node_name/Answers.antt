use Rattle.std.proofs.Common.{◌∷◌, [], Some, None, rules}
use Rattle.std.proofs.lemmas.Bool.Decides.{Decides-eqb}
use Rattle.std.proofs.lemmas.Slice.Eq.{strip_suffix_is}
use Rattle.flow_facts.specs.Lines.{NamesNode}
use Rattle.flow_facts.proofs.AddingLemmas.{nothing_found}
use Rattle.flow_facts.proofs.WordLemmas.{no_raise_step, no_instruction}
use Rattle.flow_facts.proofs.words.node_name.Goals as goal

pub returns-in_err-read_u32-in-Some : goal.returns-in_err-read_u32-in-Some
returns-in_err-read_u32-in-Some c =
    nothing_found (NamesNode c.args.word.now) c.from_residual.result (search rules)
    (no_raise_step c.args.word.now c.in-Some.digits.now (strip_suffix_is Decides-eqb c.args.word.now (114 ∷ []) (Some c.in-Some.digits) c.in-Some.ensures.cases)
    c.in_err-read_u32-in-Some.ensures)

pub returns-in_err-read_u32-in-None : goal.returns-in_err-read_u32-in-None
returns-in_err-read_u32-in-None c =
    nothing_found (NamesNode c.args.word.now) c.from_residual-in_err-read_u32-in-None.result (search rules)
    (no_instruction c.args.word.now (strip_suffix_is Decides-eqb c.args.word.now (114 ∷ []) None c.in-None.ensures.cases) c.in_err-read_u32-in-None.ensures)

pub returns-in_ok-read_u32-in-Some : goal.returns-in_ok-read_u32-in-Some
returns-in_ok-read_u32-in-Some c =
    (c.in-Some.digits.now, strip_suffix_is Decides-eqb c.args.word.now (114 ∷ []) (Some c.in-Some.digits) c.in-Some.ensures.cases, c.in_ok-read_u32-in-Some.ensures)
