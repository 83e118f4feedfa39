use Rattle.std.proofs.Common.{◌≡◌, ℕ, None, take, sym, ◌∙◌}
use Rattle.std.specs.Prelude.{find}
use Rattle.class_pool.specs.declared.class.ClassFile.{ClassFile}
use Rattle.class_pool.specs.Utf8.{utf8_bytes}
use Rattle.class_lookup.specs.Parts.{same_text, name_of}
use Rattle.class_checks.proofs.PlaceItemLemmas.{got}
use Rattle.program_resolution.proofs.AnyLemmas.{along_one, found_first, found_none}
use Rattle.program_resolution.proofs.main_class.main_class.Goals as goal

pub returns-then-branch : goal.returns-then-branch
returns-then-branch c =
    found_first (λ (k : ClassFile). same_text (utf8_bytes (name_of k)) c.args.main.now) c.args.files.now c.loop-class.class-index c.class-item.result (got c.args.files.now c.loop-class.class-index c.class-item.result c.loop-class-test.true c.class-item.is)
    c.loop-class.invariant (sym c.in_ok-is_spelled.ensures ∙ c.if-branch.true)

pub loop-class-preserved : goal.loop-class-preserved
loop-class-preserved c =
    let p = λ (k : ClassFile). same_text (utf8_bytes (name_of k)) c.args.main.now in
    along_one (λ (n : ℕ). find p (take n c.args.files.now) ≡ None) c.loop-class.class-index
    (found_none p c.args.files.now c.loop-class.class-index c.class-item.result (got c.args.files.now c.loop-class.class-index c.class-item.result c.loop-class-test.true c.class-item.is)
    c.loop-class.invariant (sym c.in_ok-is_spelled.ensures ∙ c.if-branch.false))
