use Rattle.std.proofs.Common.{◌≡◌, ℕ, ◌≤◌, length, Some, sym, ap, ◌∙◌, subst, arith}
use Rattle.class_lookup.specs.Laws.{AreSuperclasses}
use Rattle.bytecode_model.specs.Types.{OfClass}
use Rattle.bytecode_model.specs.Program.{AType}
use Rattle.program_sites.specs.declared.made.making.MadeWords.TheVariants.{Object}
use Rattle.program_sites.proofs.MadeLemmas.Words.{no_class}
use Rattle.program_sites.proofs.made.making.new_words.Goals as goal

pub returns-else-class-class_count : goal.returns-else-class-class_count
returns-else-class-class_count c = λ k is.
    let cs = c.args.program.now in
    let above : AreSuperclasses cs = subst AreSuperclasses c.hierarchy.ensures (c.superclasses_stand_above.ensures c.hierarchy.result.now c.is_without_cycle.ensures) in
    let both : AType (OfClass c.in_ok-class.class) ≡ AType (OfClass k) = sym c.in_ok-class.ensures ∙ is in
    let same : c.in_ok-class.class ≡ k = cc in
    let out : length cs ≤ k = (let e = c.class_count.ensures in let le = c.if-class-class_count.false in omega arith) in
    ap (λ (n : ℕ). Some (Object n)) (sym (no_class cs above k out))
