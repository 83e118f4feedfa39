use Rattle.std.proofs.Common.{◌<◌, List, ℕ, [], length, get_or, refl, sym, ap, ◌∙◌, subst}
use Rattle.std.specs.Option.{option_map_or}
use Rattle.std.specs.List.{flat_map}
use Rattle.std.proofs.lemmas.List.Elements.{Contains-get_or}
use Rattle.opcodes.specs.Start.{starts_of}
use Rattle.lists.specs.Lists.{first}
use Rattle.lists.proofs.FirstLemmas.{found_here, none_first}
use Rattle.program_tables.specs.Instructions.{placed_at}
use Rattle.program_tables.proofs.MentionLemmas.{all_places}
use Rattle.unresolved_names.specs.Causes.{refused_instruction}
use Rattle.unresolved_names.proofs.mentions.first_at_instructions.Goals as goal

pub refused_at_place-requires-clause-inside : goal.refused_at_place-requires-clause-inside
refused_at_place-requires-clause-inside c =
    let code = c.args.code.now in
    let i = c.loop-pc.pc-index in
    let e = c.deref-pc-items.ensures.value ∙ c.in_ok-starts.ensures in
    let lt = subst (λ (xs : List ℕ). i < length xs) e c.loop-pc-test.true in
    subst (λ (xs : List ℕ). get_or xs i 0 < length code) (sym e) ((c.starts_follow_one_another.ensures code).within_code (get_or (starts_of code) i 0) (Contains-get_or (starts_of code) i 0 lt))

pub returns-in-Some : goal.returns-in-Some
returns-in-Some c =
    let caller = c.args.caller.now in
    let code = c.args.code.now in
    let f = refused_instruction caller.classes.now caller.namer.number caller.namer.class.now c.args.method.now in
    let g = λ (q : ℕ). option_map_or f (placed_at code q) [] in
    let ps = c.deref-pc-items.result.now in
    let i = c.loop-pc.pc-index in
    let e = c.deref-pc-items.ensures.value ∙ c.in_ok-starts.ensures in
    sym (found_here g ps i (get_or ps i 0) 0 c.in-Some.found c.loop-pc-test.true refl c.loop-pc.invariant (sym c.in-Some.ensures))
    ∙ (ap (λ (xs : List ℕ). first (flat_map g xs)) e ∙ ap first (all_places f code))

pub returns : goal.returns
returns c =
    let caller = c.args.caller.now in
    let code = c.args.code.now in
    let f = refused_instruction caller.classes.now caller.namer.number caller.namer.class.now c.args.method.now in
    let g = λ (q : ℕ). option_map_or f (placed_at code q) [] in
    let ps = c.deref-pc-items.result.now in
    let e = c.deref-pc-items.ensures.value ∙ c.in_ok-starts.ensures in
    sym (none_first g ps c.loop-pc.pc-index c.loop-pc-test.false c.loop-pc.invariant) ∙ (ap (λ (xs : List ℕ). first (flat_map g xs)) e ∙ ap first (all_places f code))
