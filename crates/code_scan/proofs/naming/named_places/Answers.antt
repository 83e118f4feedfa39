use Rattle.std.proofs.Common.{ℕ, Bool, false, List, length, replicate, ap, ◌∙◌, subst, arith}
use Rattle.std.proofs.lemmas.List.{length-replicate}
use Rattle.method_flow.specs.declared.flow.HandlerRange.{HandlerRange}
use Rattle.code_scan.specs.Marks.{Marks}
use Rattle.code_scan.specs.Naming.{NamesIn, HandlesAt}
use Rattle.code_scan.proofs.Marking.{all_named, handlers_inside}
use Rattle.code_scan.proofs.naming.named_places.Goals as goal

pub mark_handlers-requires : goal.mark_handlers-requires
mark_handlers-requires c n d lt =
    let k = c.args.method.now in
    let code = c.code-code.result.now in
    let same = ap (λ (xs : List ℕ). length xs) c.code-code.ensures.code in
    let items = ap (λ (xs : List Bool). length xs) (c.in_ok-marks.ensures.items_if_clones_equal (λ y h. h)) ∙ length-replicate (length code) false in
    let long = c.mark_code.ensures.long in
    let inside = handlers_inside k c.code-code.ensures.whole (c.starts_follow_one_another.ensures k.code).within_code c.ranges-2.result.now c.ranges-2.ensures.ranges n d lt in
    omega arith

pub returns : goal.returns
returns c =
    let k = c.args.method.now in
    let code = c.code-code.result.now in
    let mid = c.mark_code.new.marks.items in
    let new' = c.mark_handlers.new.marks.items in
    let all = c.in_ok-marks.ensures.items_if_clones_equal (λ y h. h) in
    let a1 : Marks c.in_ok-marks.marks.items mid (λ q. (p : ℕ) × NamesIn k.code p q) = subst (λ (xs : List ℕ). Marks c.in_ok-marks.marks.items mid (λ q. (p : ℕ) × NamesIn xs p q)) c.code-code.ensures.code c.mark_code.ensures in
    let a2 : Marks (replicate (length code) false) mid (λ q. (p : ℕ) × NamesIn k.code p q) = subst (λ (ms : List Bool). Marks ms mid (λ q. (p : ℕ) × NamesIn k.code p q)) all a1 in
    let b : Marks mid new' (HandlesAt k.ranges) = subst (λ (rs : List HandlerRange). Marks mid new' (HandlesAt rs)) c.ranges-2.ensures.ranges c.mark_handlers.ensures in
    all_named (length code) mid new' k a2 b
