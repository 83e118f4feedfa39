use Rattle.std.proofs.Common.{◌≡◌, ◌++◌, ◌∷◌, [], ℕ, Bool, List, None, sym, ap, ◌∙◌, subst}
use Rattle.std.specs.Prelude.{is_some, if◌then◌else◌, OnOk}
use Rattle.class_lookup.specs.Parts.{same_text}
use Rattle.class_lookup.specs.Numbered.{number_in}
use Rattle.class_lookup.proofs.Numbering.{found_any, not_some, with_new}
use Rattle.program_tables.proofs.strings.Strings.insert.Goals as goal

pub returns-then-is_some : goal.returns-then-is_some
returns-then-is_some c =
    let old = c.args.self.now in
    let units = c.args.units.now in
    let there = sym (found_any (same_text units) old) ∙ (ap is_some (sym c.number.ensures.number) ∙ (sym c.is_some.ensures ∙ c.if-is_some.true)) in
    sym (ap (λ (b : Bool). if b then old else old ++ units ∷ []) there)

pub returns : goal.returns
returns c =
    let old = c.args.self.now in
    let units = c.args.units.now in
    let none : number_in old units ≡ None = not_some (number_in old units) (ap is_some (sym c.number.ensures.number) ∙ (sym c.is_some.ensures ∙ c.if-is_some.false)) in
    subst (λ xs. OnOk c.add.result (c.add.new.self ≡ xs)) (ap (λ (t : List ℕ). old ++ t ∷ []) c.in_ok-by_number.ensures.items ∙ sym (with_new old units none)) c.add.ensures
