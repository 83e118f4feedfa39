use Rattle.std.proofs.Common.{refl, sym, ap, ◌∙◌, ◌==◌, ◌∷◌, []}
use Rattle.std.specs.List.{list_any}
use Rattle.std.proofs.lemmas.Result.{IfOk-weaker}
use Rattle.bytecode_model.specs.Lists.{natural}
use Rattle.bytecode_model.specs.Rows as rows
use Rattle.bytecode_model.specs.Types.{t_boolean, t_char, t_byte, t_short, t_int, t_long}
use Rattle.verifier_types.specs.Frame.{frame_seen}
use Rattle.bytecode_verifier.specs.Plain.{check_found}
use Rattle.bytecode_verifier.proofs.FindLemmas.{by_array, code_found}
use Rattle.bytecode_verifier.proofs.rows.check_array.Goals as goal

pub returns-in-Some : goal.returns-in-Some
returns-in-Some c = IfOk-weaker c.check_new_array.result _ _ (λ x p s code o ls.
    let f = frame_seen ls c.args.frame.now in
    p s c.in-Some.code refl ls
    ∙ (ap (check_found s f) (sym (code_found (natural c.args.instr.now.first) (λ a. list_any (λ c. c == a) (t_boolean ∷ t_char ∷ t_byte ∷ t_short ∷ t_int ∷ t_long ∷ [])) c.in-Some.code rows.NewNumbers c.in-Some.ensures))
    ∙ by_array s f code c.args.instr.now o c.args.family _ c.in-New.is)) c.check_new_array.ensures.numbers

pub returns-in-Length : goal.returns-in-Length
returns-in-Length c = IfOk-weaker c.check_length.result _ _ (λ x p s code o ls.
    p s ls ∙ by_array s (frame_seen ls c.args.frame.now) code c.args.instr.now o c.args.family _ c.in-Length.is) c.check_length.ensures

pub returns-in-LoadNumber : goal.returns-in-LoadNumber
returns-in-LoadNumber c = IfOk-weaker c.check_load_number.result _ _ (λ x p s code o ls.
    p s ls ∙ by_array s (frame_seen ls c.args.frame.now) code c.args.instr.now o c.args.family _ c.in-LoadNumber.is) c.check_load_number.ensures

pub returns-in-LoadReference : goal.returns-in-LoadReference
returns-in-LoadReference c = IfOk-weaker c.check_load_reference.result _ _ (λ x p s code o ls.
    p s ls ∙ by_array s (frame_seen ls c.args.frame.now) code c.args.instr.now o c.args.family _ c.in-LoadReference.is) c.check_load_reference.ensures

pub returns-in-StoreNumber : goal.returns-in-StoreNumber
returns-in-StoreNumber c = λ s code o ls. c.check_store_number.ensures s (λ n. n) ls ∙ by_array s (frame_seen ls c.args.frame.now) code c.args.instr.now o c.args.family _ c.in-StoreNumber.is

pub returns-in-StoreReference : goal.returns-in-StoreReference
returns-in-StoreReference c = λ s code o ls. c.check_store_reference.ensures s ls ∙ by_array s (frame_seen ls c.args.frame.now) code c.args.instr.now o c.args.family _ c.in-StoreReference.is

pub returns-in-Monitor : goal.returns-in-Monitor
returns-in-Monitor c = λ s code o ls. c.check_monitor.ensures s ls ∙ by_array s (frame_seen ls c.args.frame.now) code c.args.instr.now o c.args.family _ c.in-Monitor.is
