use Rattle.std.proofs.Common.{◌++◌}
use Rattle.std.specs.Prelude.{codes, decimal}
use Rattle.analysis_commands.proofs.Texts.{put_two}
use Rattle.ask_commands.proofs.Shaping.{on_ok}
use Rattle.ask_commands.proofs.shapes.put_shape.Goals as goal

pub returns : goal.returns
returns c =
    let blocks = decimal c.args.shape.blocks in
    let words = decimal c.args.shape.block_words in
    let named = c.extend_from_slice.new.self.items in
    let counted = c.put_u64.new.out.items in
    let sized = c.extend_from_slice-2.new.self.items in
    let all = c.put_u64-2.new.out.items in
    on_ok c.put_u64-2.result _ _
    (λ last. put_two c.args.text.now.items named all (codes "blocks=") (blocks ++ (codes " block-words=" ++ words)) c.in_ok-extend_from_slice.ensures.items
    (put_two named counted all blocks (codes " block-words=" ++ words) c.in_ok-put_u64.ensures.written
    (put_two counted sized all (codes " block-words=") words c.in_ok-extend_from_slice-2.ensures.items last)))
    c.put_u64-2.ensures.written
