use Rattle.std.proofs.Common.{◌≡◌, ℕ, ◌+◌, Bool, List, Option, Vec, Global, false, not, ◌||◌, take, get_or, sym, ap, ◌∙◌, subst, arith}
use Rattle.std.specs.Option.{option_map_or}
use Rattle.lists.proofs.Among.{among_at}
use Rattle.class_lookup.specs.Hierarchy.{is_among}
use Rattle.class_lookup.specs.Lookup.{Place}
use Rattle.class_lookup.specs.Parts.{has_code}
use Rattle.class_lookup.specs.Selection.{is_method_with, select}
use Rattle.program_tables.specs.Unresolved.{is_implemented}
use Rattle.class_checks.specs.Marks.{AreKept}
use Rattle.class_checks.proofs.MarkLemmas.{read_mapped, kept_with_code, kept_without_code}
use Rattle.class_checks.proofs.marks.keep_marks.Goals as goal
use Rattle.class_checks.proofs.marks.keep_marks.Goals.{then-not-has_code, else-not-has_code}

pub index_mut-requires : goal.index_mut-requires
index_mut-requires c =
    let below = c.requires.below (get_or c.args.lower.now c.loop-i.i 0) (among_at c.args.lower.now c.loop-i.i c.loop-i-test.true) in
    let long = c.loop-i.invariant.long in
    omega (arith, below, long)

pub loop-i-preserved : goal.loop-i-preserved
loop-i-preserved c =
    let cs = c.args.classes.now in
    let lower = c.args.lower.now in
    let i = c.loop-i.i in
    let n = get_or lower i 0 in
    let lt = c.loop-i-test.true in
    let implemented : ℕ → Bool = λ k. is_implemented cs k c.args.method in
    let code : Option Place → Bool = λ o. option_map_or (is_method_with has_code cs) o false in
    let read : c.index-selected-i.result ≡ select cs n c.args.method =
    read_mapped (λ k. select cs k c.args.method) lower i c.index-selected-i.result lt (c.index-selected-i.is ∙ ap (λ (xs : List (Option Place)). get_or xs i c.index-selected-i.result) c.requires.selected) in
    let kept : Vec Bool Global → Type 0 = λ v. AreKept (λ k. not (is_among (take (i + 1) lower) k) || implemented k) c.args.marks.now.items v.items in
    elim c.if-not-has_code.branch [
      | then-not-has_code w ↦
          let below = c.requires.below n (among_at lower i lt) in
          let long = c.loop-i.invariant.long in
          subst kept (sym w.marks-is)
          (kept_without_code implemented lower i c.args.marks.now.items c.loop-i.marks.items lt (ap code (sym read) ∙ sym w.if-not-has_code.ensures) (omega (arith, below, long)) c.loop-i.invariant)
      | else-not-has_code w ↦
          subst kept (sym w.marks-is)
          (kept_with_code implemented lower i c.args.marks.now.items c.loop-i.marks.items lt (ap code (sym read) ∙ sym w.if-not-has_code.ensures) c.loop-i.invariant)
    ]
