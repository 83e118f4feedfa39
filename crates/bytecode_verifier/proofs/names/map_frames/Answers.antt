use Rattle.std.proofs.Common.{ap, ◌∙◌, ◌++◌}
use Rattle.bytecode_typing.specs.Typings.{frame_among}
use Rattle.verifier_types.specs.Locals.{lists_seen}
use Rattle.bytecode_verifier.proofs.NameLemmas.{places_within}
use Rattle.bytecode_verifier.proofs.names.map_frames.Goals as goal

pub by_place-requires : goal.by_place-requires
by_place-requires c = places_within c.args.length c.in_ok-frames.frames.items c.args.steps.now c.in_ok-frames.ensures.places c.requires.within

pub returns-clause-frames : goal.returns-clause-frames
returns-clause-frames c = λ k code locals xs more place at room held steps.
    c.in_ok-by_place.ensures (lists_seen c.placed_frames.new.lists ++ more) place ∙ ap (λ l. frame_among l place) (c.in_ok-frames.ensures.frames k code locals xs more at room held steps)
