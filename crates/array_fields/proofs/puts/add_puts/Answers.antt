use Rattle.std.proofs.Common.{ℕ, ℤ, List, [], ◌∷◌, ◌++◌, take, take_all, get_or, Option, refl, sym, ap₂, ◌∙◌, subst}
use Rattle.std.proofs.lemmas.List.{take_more}
use Rattle.lists.specs.Members.{contains_at}
use Rattle.program_tables.specs.Resolved.{resolved}
use Rattle.array_fields.specs.declared.rows.Field.{Field}
use Rattle.array_fields.specs.declared.puts.Put.{Put}
use Rattle.array_fields.specs.Puts.{HasPutsAt, with_put}
use Rattle.array_fields.proofs.Collecting.{puts_first, puts_more}
use Rattle.array_fields.proofs.puts.add_puts.Goals as goal

pub loop-place-init : goal.loop-place-init
loop-place-init c = puts_first (resolved c.args.program.now) c.args.tables.now c.args.method c.args.puts.now.items

pub put_at-field-requires-clause-inside : goal.put_at-field-requires-clause-inside
put_at-field-requires-clause-inside c =
    let i = c.loop-place.place-index in
    let p = get_or c.args.starts.now i 0 in
    c.requires.within p (contains_at c.args.starts.now i p c.loop-place-test.true refl)

pub loop-place-preserved : goal.loop-place-preserved
loop-place-preserved c =
    let P = resolved c.args.program.now in
    let ts = c.args.tables.now in
    let m = c.args.method in
    let starts = c.args.starts.now in
    let i = c.loop-place.place-index in
    let p = get_or c.args.starts.now i 0 in
    let old = c.args.puts.now.items in
    let xs = c.loop-place.puts.items in
    let more = puts_more P ts m old (take i starts) xs p c.loop-place.invariant in
    let same = c.in_ok-add_put.ensures ∙ ap₂ (λ (f : Option Field) (l : Option ℤ). with_put xs f l) c.put_at-field.ensures c.length_put.ensures in
    subst (λ (ps : List ℕ). HasPutsAt P ts m ps old c.add_put.new.puts.items) (sym (take_more starts i 0 c.loop-place-test.true))
    (subst (λ (ys : List Put). HasPutsAt P ts m (take i starts ++ p ∷ []) old ys) (sym same) more)

pub returns : goal.returns
returns c =
    subst (λ (ps : List ℕ). HasPutsAt (resolved c.args.program.now) c.args.tables.now c.args.method ps c.args.puts.now.items c.loop-place.puts.items) (take_all c.loop-place.place-index c.args.starts.now c.loop-place-test.false)
    c.loop-place.invariant
