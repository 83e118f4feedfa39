use Rattle.std.proofs.Common.{◌<◌, ◌++◌, List, ℕ, length, get_or, map, take_all, sym, ap, ◌∙◌, subst}
use Rattle.std.specs.List.{filter_map, range_with_len}
use Rattle.std.proofs.lemmas.Option.{slice_get-get_or}
use Rattle.std.proofs.lemmas.List.Elements.{Contains-get_or}
use Rattle.program_tables.proofs.ListLemmas.{no_value}
use Rattle.opcodes.specs.declared.instruction.Instr.{Instr}
use Rattle.opcodes.specs.Start.{starts_of}
use Rattle.program_tables.specs.Instructions.{placed_at, instructions_in}
use Rattle.image_layout.specs.Uses.{instr_of, use_of}
use Rattle.image_layout.proofs.UseLemmas.{before_place, place_noted, place_passed}
use Rattle.image_layout.proofs.uses.note_code.Goals as goal
use Rattle.image_layout.proofs.uses.note_code.Goals.{in-Some, in_default}

pub naming_at-requires-clause-inside : goal.naming_at-requires-clause-inside
naming_at-requires-clause-inside c =
    let code = c.args.code.now in
    let i = c.loop-pc.pc-index in
    let e = c.deref-pc-items.ensures.value ∙ c.in_ok-starts.ensures in
    let lt = subst (λ (xs : List ℕ). i < length xs) e c.loop-pc-test.true in
    subst (λ (xs : List ℕ). get_or xs i 0 < length code) (sym e) ((c.starts_follow_one_another.ensures code).within_code (get_or (starts_of code) i 0) (Contains-get_or (starts_of code) i 0 lt))

pub loop-pc-preserved : goal.loop-pc-preserved
loop-pc-preserved c =
    λ k before many at old.
    let cs = c.args.program.now in
    let n = c.args.number in
    let code = c.args.code.now in
    let ps = c.deref-pc-items.result.now in
    let i = c.loop-pc.pc-index in
    let pc = get_or ps i 0 in
    let here = slice_get-get_or ps i 0 c.loop-pc-test.true in
    let done = c.loop-pc.invariant k before many at old in
    elim c.match-naming_at.branch [
      | in-Some w ↦
          ap (λ v. v.items) w.uses-is
          ∙ (w.note_use.ensures k (before_place before code ps i) many at done
          ∙ ap (λ (is : List Instr). map (use_of cs n k is) (range_with_len 0 many)) (place_noted before code ps i pc w.in-Some.instr here w.in-Some.ensures.there))
      | in_default w ↦
          ap (λ v. v.items) w.uses-is
          ∙ place_passed cs n k before code ps i pc many c.loop-pc.uses.items here (c.naming_at.ensures.none (no_value c.naming_at.result w.in_default.not-Some)) done
    ]

pub returns : goal.returns
unfolding instructions_in
returns c =
    λ k before many at old.
    let code = c.args.code.now in
    let ps = c.deref-pc-items.result.now in
    let e = c.deref-pc-items.ensures.value ∙ c.in_ok-starts.ensures in
    c.loop-pc.invariant k before many at old
    ∙ ap (λ (pcs : List ℕ). map (use_of c.args.program.now c.args.number k (before ++ map instr_of (filter_map (placed_at code) pcs))) (range_with_len 0 many)) (take_all c.loop-pc.pc-index ps c.loop-pc-test.false ∙ e)
