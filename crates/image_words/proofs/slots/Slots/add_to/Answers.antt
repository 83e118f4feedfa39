use Rattle.std.proofs.Common.{◌≡◌, ◌++◌, ◌-◌, suc, List, Some, sym, ap, ◌∙◌, arith}
use Rattle.std.specs.Prelude.{slice_get}
use Rattle.std.proofs.lemmas.Option.{slice_get-get_or}
use Rattle.class_lookup.specs.Lookup.{Place}
use Rattle.image_words.proofs.OrderLemmas.{chain_within}
use Rattle.image_words.proofs.SlotLemmas.{chain_end, chain_down, chain_top, read_slots}
use Rattle.image_words.proofs.slots.Slots.add_to.Goals as goal

pub loop-i-init : goal.loop-i-init
loop-i-init c =
    let len = c.len-i.ensures in
    record { within = omega (arith, len); places = chain_end c.args.classes.now c.args.places.now.items c.in_ok-chain.chain.items c.len-i.result (omega (arith, len)) }

pub index-slots-requires : goal.index-slots-requires
index-slots-requires c =
    let cs = c.args.classes.now in
    let chain = c.in_ok-chain.chain.items in
    let j = c.loop-i.i - 1 in
    let d = c.index.result.now in
    let within = c.loop-i.invariant.within in
    let test = c.loop-i-test.true in
    let at = slice_get-get_or chain j d (omega (arith, within, test)) ∙ ap Some (sym c.index.ensures) in
    let below = chain_within cs (c.superclasses_stand_above.ensures cs c.is_without_cycle.ensures) j c.args.class d c.requires.class (ap (λ xs. slice_get xs j) (sym c.in_ok-chain.ensures) ∙ at) in
    let long = c.requires.slots.long in
    omega (arith, below, long)

pub loop-i-preserved : goal.loop-i-preserved
loop-i-preserved c =
    let cs = c.args.classes.now in
    let chain = c.in_ok-chain.chain.items in
    let i = c.loop-i.i in
    let j = c.loop-i.i - 1 in
    let d = c.index.result.now in
    let within = c.loop-i.invariant.within in
    let test = c.loop-i-test.true in
    let are = c.superclasses_stand_above.ensures cs c.is_without_cycle.ensures in
    let at = slice_get-get_or chain j d (omega (arith, within, test)) ∙ ap Some (sym c.index.ensures) in
    let below = chain_within cs are j c.args.class d c.requires.class (ap (λ xs. slice_get xs j) (sym c.in_ok-chain.ensures) ∙ at) in
    let t = c.index-slots.result.now in
    let got = read_slots cs c.args.self.now c.requires.slots d t below c.index-slots.ensures in
    let old = c.args.places.now.items in
    let same : i ≡ suc j = omega (arith, test) in
    record {
      within = omega (arith, within);
      places = c.in_ok-extend_from_slice.ensures.items ∙ (ap (λ (xs : List Place). c.loop-i.places.items ++ xs) c.deref.ensures.value
          ∙ (ap (λ (xs : List Place). xs ++ t.added.items) c.loop-i.invariant.places ∙ chain_down cs are c.args.class i j d chain old t.added.items c.in_ok-chain.ensures same at got.slots));
    }

pub returns : goal.returns
returns c =
    let cs = c.args.classes.now in
    let test = c.loop-i-test.false in
    c.loop-i.invariant.places
    ∙ ap (λ (xs : List Place). c.args.places.now.items ++ xs) (chain_top cs (c.superclasses_stand_above.ensures cs c.is_without_cycle.ensures) c.args.class c.loop-i.i c.in_ok-chain.chain.items c.in_ok-chain.ensures (omega (arith, test)))
