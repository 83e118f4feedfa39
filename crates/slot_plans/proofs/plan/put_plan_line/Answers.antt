use Rattle.std.proofs.Common.{ℕ, List, [], ◌∷◌, ◌++◌}
use Rattle.std.specs.Prelude.{codes, decimal}
use Rattle.slot_table.specs.Slots.{slot_word}
use Rattle.analysis_commands.proofs.Texts.{put_two}
use Rattle.slot_plans.proofs.plan.put_plan_line.Goals as goal

pub returns : goal.returns
returns c =
    let slot = decimal c.args.slot in
    let name = slot_word c.args.parts.now in
    let bound = decimal c.args.bound in
    let size = decimal c.args.parts.now.length in
    let end : List ℕ = 10 ∷ [] in
    let all = c.push-2.new.self.items in
    let text_1 = c.extend_from_slice.new.self.items in
    let text_2 = c.put_u64.new.out.items in
    let text_3 = c.push.new.self.items in
    let text_4 = c.put_name.new.out.items in
    let text_5 = c.extend_from_slice-2.new.self.items in
    let text_6 = c.put_u64-2.new.out.items in
    let text_7 = c.extend_from_slice-3.new.self.items in
    let text_8 = c.put_u64-3.new.out.items in
    let rest_7 = codes " length=" ++ (size ++ end) in
    let rest_5 = codes " bound=" ++ (bound ++ rest_7) in
    let rest_3 : List ℕ = 32 ∷ (name ++ rest_5) in
    put_two c.args.text.now.items text_1 all (codes "slot ") (slot ++ rest_3) c.in_ok-extend_from_slice.ensures.items
    (put_two text_1 text_2 all slot rest_3 c.in_ok-put_u64.ensures.written
    (put_two text_2 text_3 all (32 ∷ []) (name ++ rest_5) c.in_ok-push.ensures.items
    (put_two text_3 text_4 all name rest_5 c.in_ok-put_name.ensures
    (put_two text_4 text_5 all (codes " bound=") (bound ++ rest_7) c.in_ok-extend_from_slice-2.ensures.items
    (put_two text_5 text_6 all bound rest_7 c.in_ok-put_u64-2.ensures.written
    (put_two text_6 text_7 all (codes " length=") (size ++ end) c.in_ok-extend_from_slice-3.ensures.items
    (put_two text_7 text_8 all size end c.in_ok-put_u64-3.ensures.written c.in_ok-push-2.ensures.items)))))))
