use Rattle.std.proofs.Common.{ℕ, ◌<◌, ◌≤◌, List, length, get_or, Contains, Ok, Err, inl, inr, arith}
use Rattle.std.proofs.lemmas.Bool.{cases_lt}
use Rattle.std.proofs.lemmas.List.Sorted.{searched}
use Rattle.lists.specs.Members.{rising_all, place_of}
use Rattle.section_index.proofs.Elements.{above_place}
use Rattle.section_index.proofs.numbering.place.Goals as goal

not_among : (xs : List ℕ) (x i : ℕ) → ((k : ℕ) → k < i → get_or xs k 0 < x) → ((k : ℕ) → i ≤ k → k < length xs → x < get_or xs k 0) → Contains xs x → ⊥
not_among xs x i low high has =
    let at = place_of xs x has in
    let same = at.2 in
    elim (cases_lt at.0 i) [
      | inl less ↦ let p = low at.0 less in omega arith
      | inr ge ↦ let p = high at.0 ge at.1 in omega arith
    ]

pub returns-in-Ok-clause-place : goal.returns-in-Ok-clause-place
returns-in-Ok-clause-place c =
    let xs = c.args.numbers.now in
    let f = searched xs c.args.u (Ok c.in-Ok.p) c.in-Ok.ensures.position (rising_all xs c.requires) in
    record { below = f.0; is = f.1 }

pub returns-in-Ok-clause-low : goal.returns-in-Ok-clause-low
returns-in-Ok-clause-low c =
    let xs = c.args.numbers.now in
    let f = searched xs c.args.u (Ok c.in-Ok.p) c.in-Ok.ensures.position (rising_all xs c.requires) in
    let up = above_place xs c.requires c.in-Ok.p f.0 in
    let at = f.1 in
    omega arith

pub returns-in-Err-clause-place : goal.returns-in-Err-clause-place
returns-in-Err-clause-place c =
    let xs = c.args.numbers.now in
    let f = searched xs c.args.u (Err c.in-Err.field-0) c.in-Err.ensures.position (rising_all xs c.requires) in
    not_among xs c.args.u c.in-Err.field-0 f.1 f.2
