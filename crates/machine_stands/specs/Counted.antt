-- How many words the frames of a state take.
use Rattle.std.specs.Prelude.{◌≡◌, ℕ, ◌≤◌, List, length}
use Rattle.bytecode_model.specs.State.{Frame}
use Rattle.bytecode_model.specs.Program.{Program}
use Rattle.bytecode_model.specs.Sizes.{frames_words}
use Rattle.bytecode_model.specs.WellFormed as formed
use Rattle.image_facts.specs.Places.{Places}
use Rattle.machine_stands.specs.Frames.{FrameWords, AreWordsOfFrames, Saves, stacked}

-- The words of frames are at most as many as the frames may take.
abbrev pub FramesHaveRoom : Type 0
FramesHaveRoom = (P : Program) (pl : Places) (place : ℕ → ℕ) (objects : ℕ) (frames : List Frame) (words : List FrameWords)
    → AreWordsOfFrames P pl place frames words
    → formed.AreFrames P objects frames
    → length (stacked words) ≤ frames_words P frames

-- Five are saved.
abbrev pub FiveAreSaved : Type 0
FiveAreSaved = (P : Program) (pl : Places) (callers : List Frame) (below : List FrameWords) (saved : List ℕ) → Saves P pl callers below saved → length saved ≡ 5
