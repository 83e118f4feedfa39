use Rattle.std.proofs.Common.{◌≡◌, ℕ, Bool, List, length, ap, subst, arith}
use Rattle.std.proofs.lemmas.Result.{IfOk-weaker}
use Rattle.array_fields.specs.declared.contents.Content.{Content}
use Rattle.array_fields.specs.Puts.{AreContents, field_target}
use Rattle.array_fields.specs.Lengths.{AreLengthsKept}
use Rattle.array_fields.proofs.Keeping.{field_lengths}
use Rattle.array_fields.proofs.lengths.lengths_put.Goals as goal

pub returns : goal.returns
returns c =
    let cs = c.args.program.now in
    let puts = c.args.puts.now in
    let references = c.in_ok-references.references.items in
    let flags = c.in_ok-flags.flags.items in
    let contents = c.in_ok-contents.contents.items in
    let long : c.len.result ≡ length c.in_ok-references.references.items = (let e = c.len.ensures in let a = c.deref-2.ensures.len in let b = ap length c.deref-2.ensures.value in let o = c.in_ok-references.references.ok in omega arith) in
    let counted = subst (λ (n : ℕ). AreContents (field_target c.deref.result.now) n puts contents) long c.in_ok-contents.ensures in
    let are = subst (λ (bs : List Bool). AreContents (field_target bs) (length references) puts contents) c.deref.ensures.value counted in
    IfOk-weaker c.lengths_kept.result _ _ (λ lengths kept.
    let first = subst (λ (bs : List Bool). AreLengthsKept bs c.deref-3.result.now lengths.items) c.deref-2.ensures.value kept in
    let both = subst (λ (xs : List Content). AreLengthsKept references xs lengths.items) c.deref-3.ensures.value first in
    field_lengths c.classes_extend_what_is_above.ensures cs c.is_resolved.ensures c.args.class c.requires.class c.requires.first puts references flags contents lengths.items c.in_ok-references.ensures c.in_ok-flags.ensures are both) c.lengths_kept.ensures
