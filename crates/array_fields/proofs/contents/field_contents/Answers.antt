use Rattle.std.proofs.Common.{List, [], ◌∷◌, ◌++◌, ℕ, take, get_or, Option, None, sym, ap, ◌∙◌, subst}
use Rattle.std.proofs.lemmas.List.{take_more}
use Rattle.array_fields.specs.declared.rows.Field.TheVariants.{Static}
use Rattle.array_fields.specs.declared.puts.Put.{Put}
use Rattle.array_fields.specs.declared.contents.Content.{Content}
use Rattle.array_fields.specs.Contents.{met_at}
use Rattle.array_fields.specs.Puts.{AreContents, field_target}
use Rattle.array_fields.proofs.Meeting.{contents_more}
use Rattle.array_fields.proofs.contents.field_contents.Goals as goal

pub loop-put-preserved : goal.loop-put-preserved
loop-put-preserved c =
    let puts = c.args.puts.now in
    let i = c.loop-put.put-index in
    let d : Put = record { field = Static 0; length = None } in
    let x = get_or puts i d in
    let old = c.loop-put.contents.items in
    let target = (field_target c.args.flags.now) in
    let is = c.meet_at.ensures ∙ ap (λ (o : Option ℕ). met_at old o x.length) c.field_target.ensures in
    subst (λ (ps : List Put). AreContents target c.args.count ps c.meet_at.new.contents.items) (sym (take_more puts i d c.loop-put-test.true))
    (subst (λ (cs : List Content). AreContents target c.args.count (take i puts ++ x ∷ []) cs) (sym is) (contents_more target c.args.count (take i puts) old x c.loop-put.invariant))
