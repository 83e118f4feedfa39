use Rattle.std.proofs.Common.{◌≡◌, ◌∙◌, ℕ, List, refl, sym, arith}
use Rattle.indexmap.specs.IndexMap.{get_by}
use Rattle.microcode_asm.specs.Statements.{line_of}
use Rattle.microcode_asm.specs.Programs.{LabelPlaces, places_of}
use Rattle.microcode_asm.specs.SoFar.{kept, places_by, with_text}
use Rattle.microcode_asm.proofs.LabelLemmas.{has_text}
use Rattle.microcode_asm.proofs.ReadLemmas.{read_first, read_more, refused_text, number_fits, words_last, finish_ok, finish_err, places_are, at_none}
use Rattle.microcode_asm.proofs.assemble_with.Goals as goal

pub loop-line-init : goal.loop-line-init
loop-line-init c =
    let n = c.in_ok-assembly.ensures in
    read_first c.args.text.now c.into_iter-line-iterator.result (places_by c.args.labels.now) (kept c.in_ok-assembly.assembly)
    (c.into_iter-line-iterator.ensures.into_iter_gives ∙ c.lines-line-items.ensures.lines)
    (record { names = n.names; words = n.words; entries = n.entries; raise_entry = n.raise_entry; constants = n.constants; turns_are = n.turns; counting = n.counting })

pub overflow_add-number : goal.overflow_add-number
overflow_add-number c =
    let few = number_fits c.args.text.now c.loop-line.number c.loop-line.line-iterator c.next.new.self c.in-Some.line.now (places_by c.args.labels.now) (kept c.loop-line.assembly) c.loop-line.invariant c.in-Some.ensures.steps in
    omega arith

pub returns-in-Some-2-clause-refused : goal.returns-in-Some-2-clause-refused
returns-in-Some-2-clause-refused c =
    let places : ◌≡◌ {A = LabelPlaces} (places_by c.args.labels.now) (places_of c.args.text.now) = places_are c.args.text.now (λ (q : List ℕ). get_by (has_text q) c.args.labels.now) c.requires.labels in
    refused_text c.args.text.now c.loop-line.number c.loop-line.line-iterator c.next.new.self c.in-Some.line.now (line_of c.in-Some.line.now) c.in-Some-2.kind (places_by c.args.labels.now) (kept c.loop-line.assembly)
    places c.loop-line.invariant c.in-Some.ensures.steps refl c.in_ok-kind.ensures.range (sym c.in-Some-2.is ∙ c.in_ok-kind.ensures.fault)

pub loop-line-preserved : goal.loop-line-preserved
loop-line-preserved c =
    let place = places_by c.args.labels.now in
    let said = line_of c.in-Some.line.now in
    let more : kept c.take_text.new.self ≡ with_text place said (kept c.loop-line.assembly) = at_none c.in_ok-kind.field-0 _ c.in_default.is c.in_ok-kind.ensures.kept in
    read_more c.args.text.now c.loop-line.number c.loop-line.line-iterator c.next.new.self c.in-Some.line.now said place (kept c.loop-line.assembly) (kept c.take_text.new.self)
    c.loop-line.invariant c.in-Some.ensures.steps refl c.in_ok-kind.ensures.range (sym c.in_default.is ∙ c.in_ok-kind.ensures.fault) more

pub finish-requires : goal.finish-requires
finish-requires c =
    let few = words_last c.args.text.now c.loop-line.number c.loop-line.line-iterator (places_by c.args.labels.now) (kept c.loop-line.assembly) c.loop-line.invariant in
    omega arith

pub returns-clause-assembled : goal.returns-clause-assembled
returns-clause-assembled c =
    let places : ◌≡◌ {A = LabelPlaces} (places_by c.args.labels.now) (places_of c.args.text.now) = places_are c.args.text.now (λ (q : List ℕ). get_by (has_text q) c.args.labels.now) c.requires.labels in
    finish_ok c.args.text.now c.loop-line.number c.loop-line.line-iterator (places_by c.args.labels.now) (kept c.loop-line.assembly) c.finish.result places c.loop-line.invariant c.in-None.ensures.steps.0 c.finish.ensures.rom

pub returns-clause-refused : goal.returns-clause-refused
returns-clause-refused c =
    let places : ◌≡◌ {A = LabelPlaces} (places_by c.args.labels.now) (places_of c.args.text.now) = places_are c.args.text.now (λ (q : List ℕ). get_by (has_text q) c.args.labels.now) c.requires.labels in
    finish_err c.args.text.now c.loop-line.number c.loop-line.line-iterator (places_by c.args.labels.now) (kept c.loop-line.assembly) c.finish.result places c.loop-line.invariant c.in-None.ensures.steps.0 c.finish.ensures.refused
