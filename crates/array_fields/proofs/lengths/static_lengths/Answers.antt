use Rattle.std.proofs.Common.{◌≡◌, ℕ, Bool, List, length, ap, subst, arith}
use Rattle.std.proofs.lemmas.Result.{IfOk-weaker}
use Rattle.program_tables.specs.Resolved.{resolved}
use Rattle.array_fields.specs.declared.contents.Content.{Content}
use Rattle.array_fields.specs.Puts.{AreContents, static_target}
use Rattle.array_fields.specs.Lengths.{AreLengthsKept}
use Rattle.array_fields.proofs.Keeping.{static_lengths}
use Rattle.array_fields.proofs.lengths.static_lengths.Goals as goal

pub returns : goal.returns
returns c =
    let P = resolved c.args.program.now in
    let puts = c.args.puts.now in
    let nulls = c.in_ok-nulls.nulls.items in
    let contents = c.in_ok-contents.contents.items in
    let long : c.len.result ≡ length c.in_ok-nulls.nulls.items = (let e = c.len.ensures in let a = c.deref.ensures.len in let b = ap length c.deref.ensures.value in let o = c.in_ok-nulls.nulls.ok in omega arith) in
    let are = subst (λ (n : ℕ). AreContents static_target n puts contents) long c.in_ok-contents.ensures in
    IfOk-weaker c.lengths_kept.result _ _ (λ lengths kept.
    let first = subst (λ (flags : List Bool). AreLengthsKept flags c.deref-2.result.now lengths.items) c.deref.ensures.value kept in
    let both = subst (λ (xs : List Content). AreLengthsKept nulls xs lengths.items) c.deref-2.ensures.value first in
    static_lengths P nulls puts contents lengths.items c.in_ok-nulls.ensures are both) c.lengths_kept.ensures
