use Rattle.std.proofs.Common.{◌≡◌, ℕ, ◌+◌, ◌≤◌, ℤ, List, length, Option, Vec, Global, sym, ap, ◌∙◌, subst, arith}
use Rattle.std.specs.Option.{option_copied}
use Rattle.lists.proofs.Lemmas.{some_in}
use Rattle.bytecode_model.specs.Program.{Body, body_of}
use Rattle.opcodes.specs.Start.{starts_of}
use Rattle.program_tables.specs.Numbers.{methods_by_number}
use Rattle.program_tables.specs.Resolved.{resolved}
use Rattle.program_sites.specs.Ints.Constants.{AreConstantsBelow}
use Rattle.program_sites.specs.Ints.Places.{AreLeft}
use Rattle.program_sites.specs.Ints.Rows.{put_at}
use Rattle.program_sites.proofs.IntsLemmas.Coding.{body_of_code}
use Rattle.program_sites.proofs.IntsLemmas.Leaving.{first_constants, more_constants, same_constants, all_constants}
use Rattle.program_sites.proofs.ints.sites.constants_left.Goals as goal
use Rattle.program_sites.proofs.ints.sites.constants_left.Goals.{in-Some+in_ok-take_written_in, in_default}

pub loop-number-init : goal.loop-number-init
loop-number-init c = first_constants c.args.program.now c.in_ok-left.left.items c.in_ok-left.ensures

pub take_written_in-requires-clause-code : goal.take_written_in-requires-clause-code
take_written_in-requires-clause-code c =
    let cs = c.args.program.now in
    let n = c.loop-number.number in
    let b = body_of_code c.methods_stand_by_number.ensures cs n c.in-Some.code.now (sym c.code.ensures.code ∙ ap option_copied c.in-Some.is) in
    some_in (body_of (resolved cs) n) b.body (λ (x : Body). x.code ≡ c.as_slice.result.now) b.is_body (b.code ∙ sym c.as_slice.ensures)

pub loop-number-preserved : goal.loop-number-preserved
loop-number-preserved c =
    let cs = c.args.program.now in
    let n = c.loop-number.number in
    let stand = c.methods_stand_by_number.ensures in
    let old = c.loop-number.left.items in
    elim c.match-code.branch [
      | in-Some+in_ok-take_written_in w ↦
          let k = w.in-Some.code.now in
          let at = sym c.code.ensures.code ∙ ap option_copied w.in-Some.is in
          let new = w.take_written_in.new.constants.items in
          let left = subst (λ (ps : List ℕ). AreLeft (put_at (resolved cs) n) (starts_of ps) old new) w.as_slice.ensures w.in_ok-take_written_in.ensures in
          subst (λ (v : Vec (Option ℤ) Global). AreConstantsBelow cs (n + 1) v.items) (sym w.left-is) (more_constants stand cs n k old new at c.loop-number.invariant left)
      | in_default w ↦
          let none = sym c.code.ensures.code ∙ ap option_copied w.in_default.is in
          subst (λ (v : Vec (Option ℤ) Global). AreConstantsBelow cs (n + 1) v.items) (sym w.left-is) (same_constants stand cs n old none c.loop-number.invariant)
    ]

pub returns : goal.returns
returns c =
    let past : length (methods_by_number c.args.program.now) ≤ c.loop-number.number = (let e = c.method_count-number-end.ensures in let t = c.loop-number-test.false in omega arith) in
    all_constants c.methods_stand_by_number.ensures c.args.program.now c.loop-number.number c.loop-number.left.items past c.loop-number.invariant
