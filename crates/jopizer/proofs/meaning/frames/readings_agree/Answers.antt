use Rattle.jopizer.proofs.MeaningLemmas.Alike.{agree}
use Rattle.jopizer.proofs.meaning.frames.readings_agree.Goals as goal

pub returns : goal.returns
returns c = agree
