use Rattle.std.proofs.Common.{ℕ, Bool, false, List, length, replicate, Contains, sym, ap, ◌∙◌, subst}
use Rattle.std.proofs.lemmas.Bool.{both_ways}
use Rattle.fact_names.specs.Reach.{AreLedTo, AreMembers, flag_at}
use Rattle.fact_names.proofs.Looping.{header_from, header_to, members_are, no_members, ok_weaker, sources_below, sources_within}
use Rattle.fact_names.proofs.loops.members.Goals as goal

pub is_header-requires : goal.is_header-requires
is_header-requires c =
    let g = c.args.g.now in
    let s = c.requires.routes.sources_are in
    let around = c.in_ok-around.around.items in
    sources_below g c.nodes-nodes.ensures.valid c.args.header c.requires.header c.args.sources.now s around c.in_ok-around.ensures c.of.result.now (length c.deref.result.now)
    c.of.ensures (ap (λ (fs : List Bool). length fs) c.deref.ensures.value ∙ c.in_ok-around.ensures.long)

pub led_to-requires-clause-within : goal.led_to-requires-clause-within
led_to-requires-clause-within c = sources_within c.args.g.now c.nodes-nodes.ensures.valid c.args.sources.now c.requires.routes.sources_are

pub returns-then-not-is_header : goal.returns-then-not-is_header
returns-then-not-is_header c =
    let g = c.args.g.now in
    let h = c.args.header in
    let s = c.requires.routes.sources_are in
    let around = c.in_ok-around.around.items in
    no_members g c.nodes-nodes.ensures.valid h c.requires.header c.args.sources.now s around c.in_ok-around.ensures c.in_ok-vec.field-0.items
    (c.in_ok-vec.ensures.items_if_clones_equal (λ y h. h) ∙ ap (λ (n : ℕ). replicate n false) c.nodes-nodes.ensures.nodes)
    (λ header.
    let x = header_to g c.nodes-nodes.ensures.valid h c.requires.header c.args.sources.now s around c.in_ok-around.ensures header in
    both_ways c.is_header.result c.if-not-is_header.true
    (c.is_header.ensures.1 (x.0, subst (λ (us : List ℕ). Contains us x.0) (sym c.of.ensures) x.1, ap (λ (fs : List Bool). flag_at fs x.0) c.deref.ensures.value ∙ x.2)))

pub returns : goal.returns
returns c =
    let g = c.args.g.now in
    let h = c.args.header in
    let s = c.requires.routes.sources_are in
    let around = c.in_ok-around.around.items in
    let x = c.is_header.ensures.0 c.if-not-is_header.false in
    let header =
    header_from g c.nodes-nodes.ensures.valid h c.requires.header c.args.sources.now s around c.in_ok-around.ensures x.0 (subst (λ (us : List ℕ). Contains us x.0) c.of.ensures x.1)
    (ap (λ (fs : List Bool). flag_at fs x.0) (sym c.deref.ensures.value) ∙ x.2)
    in
    ok_weaker c.led_to.result (λ flags. AreLedTo c.args.sources.now c.deref-2.result.now h flags.items) (λ flags. AreMembers g h flags.items)
    (λ flags l.
    members_are g c.nodes-nodes.ensures.valid h c.requires.header c.args.sources.now s around c.in_ok-around.ensures flags.items header
    (subst (λ (fs : List Bool). AreLedTo c.args.sources.now fs h flags.items) c.deref-2.ensures.value l))
    c.led_to.ensures
