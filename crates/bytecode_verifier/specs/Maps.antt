-- The frames of a StackMapTable as the code has them.
-- For contracts within this crate alone: no public contract's meaning rests on this file.
use Rattle.std.specs.Prelude.{◌≡◌, ◌++◌, ℕ, List, map, Option, Some, None, slice_get}
use Rattle.std.specs.Option.{option_map}
use Rattle.bytecode_model.specs.Lists.{onto}
use Rattle.bytecode_typing.specs.Types as typing
use Rattle.verifier_types.specs.declared.frame.TypeFrame.{TypeFrame}
use Rattle.verifier_types.specs.Frame.{frame_seen}
use Rattle.verifier_types.specs.Site.{Site}
use Rattle.bytecode_verifier.specs.declared.maps.MapFrames.{MapFrames}

-- the frame at a place among these, the lists of types of local variables being these
abbrev pub seen_at : List (List typing.VarType) → List (Option TypeFrame) → (place : ℕ) → Option typing.TypeFrame
seen_at ls frames place = onto (slice_get frames place) (option_map (frame_seen ls))

-- with their places, one after another
abbrev pub frames_seen : List (List typing.VarType) → List (ℕ × TypeFrame) → List (ℕ × typing.TypeFrame)
frames_seen ls frames = map (λ x. (x.0, frame_seen ls x.1)) frames

-- the frame at a place
abbrev pub frames_at : List (List typing.VarType) → MapFrames → (place : ℕ) → Option typing.TypeFrame
frames_at ls maps place = seen_at ls maps.by_place.items place

-- that at a place, if there is such a place
abbrev pub frame_over : List (List typing.VarType) → MapFrames → Option ℕ → Option typing.TypeFrame
frame_over ls maps None = None
frame_over ls maps (Some place) = frames_at ls maps place

-- they are those of the method
abbrev pub AreMapsOf : List (List typing.VarType) → MapFrames → Site → Type 0
AreMapsOf ls maps s = (place : ℕ) → s.maps place ≡ frames_at ls maps place

-- they are these by place, and stay so where lists are added behind
abbrev pub AreGiven : List (List typing.VarType) → MapFrames → (given : ℕ → Option typing.TypeFrame) → Type 0
AreGiven ls maps given = (more : List (List typing.VarType)) (place : ℕ) → given place ≡ frames_at (ls ++ more) maps place
