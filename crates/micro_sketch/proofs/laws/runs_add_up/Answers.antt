use Rattle.micro_sketch.proofs.Scenes.{run-length, run-followed, run-add, run-after_output}
use Rattle.micro_sketch.proofs.During.{output_during-followed, output_during-zero, output_during-add, output_during-after_output, output-reversed, seen_during-suc}
use Rattle.micro_sketch.proofs.Stepping.{Ran-none, Ran-add, Ran-end}
use Rattle.micro_sketch.proofs.laws.runs_add_up.Goals as goal

pub returns : goal.returns
returns c = record {
  run_adds = run-add;
  run_after_output = run-after_output;
  output_of_none = output_during-zero;
  output_adds = output_during-add;
  output_after_output = output_during-after_output;
  seen_one_more = seen_during-suc;
  ran_none = Ran-none;
  ran_adds = Ran-add;
  ran_ends = Ran-end;
  answers_shrink = run-length;
  run_followed = run-followed;
  output_followed = output_during-followed;
  output_turned = output-reversed;
}
