-- What is seen of the boundaries of a run, and what is told of its methods.
use Rattle.std.proofs.Common.{◌≡◌, List, [], ◌∷◌, ◌++◌, refl, sym, ap, subst, append-nil}
use Rattle.std.specs.List.{flat_map}
use Rattle.bytecode_model.specs.declared.Ending.{Ending}
use Rattle.bytecode_model.specs.declared.Ending.TheVariants as modes
use Rattle.bytecode_model.specs.State.{Frame}
use Rattle.bytecode_typing.specs.Fits.{IsGoing}
use Rattle.run_follower.specs.declared.here.Here.{Here}
use Rattle.activations.specs.Setting.{Setting}
use Rattle.activations.specs.Activations.{Stage}
use Rattle.boundary.specs.Followed.{here_of, seen_at, AreInARow}
use Rattle.activation_laws.specs.Seen.{IsSeen, IsSeenLast, AreSeen}
use Rattle.activation_laws.specs.Profiled.{LastStands}
use Rattle.boundary.proofs.Following.{seen_going, seen_over}

-- what is seen at a boundary is of that boundary
abbrev with_frames : Stage → List Frame → Stage
with_frames a fs = record a { state = record a.state { frames = fs } }

seen_with : (a : Stage) (fs : List Frame) → IsSeen (with_frames a fs) (here_of (with_frames a fs))
seen_with a [] = record { clock = refl; misses = refl; frames = refl; top = λ f callers is. absurd (cc) }
seen_with a (top ∷ below) = record {
  clock = refl;
  misses = refl;
  frames = refl;
  top = λ f callers is. let same : top ≡ f = cc in (ap (λ (x : Frame). x.method) same, ap (λ (x : Frame). x.pc) same);
}

here_is_seen : (a : Stage) → IsSeen a (here_of a)
here_is_seen a = seen_with a a.state.frames

last_going : (a : Stage) → IsGoing a.state.mode → IsSeenLast a (seen_at a)
last_going a going = let L : List Here → Type 0 = λ hs. IsSeenLast a hs in subst L (sym (seen_going a going)) (going, here_is_seen a)

last_over : (a : Stage) → (IsGoing a.state.mode → ⊥) → IsSeenLast a (seen_at a)
last_over a over = let L : List Here → Type 0 = λ hs. IsSeenLast a hs in subst L (sym (seen_over a over)) over

last_is_seen : (a : Stage) (mode : Ending) → a.state.mode ≡ mode → IsSeenLast a (seen_at a)
last_is_seen a modes.Running e = last_going a (subst IsGoing (sym e) tt)
last_is_seen a (modes.Raising p) e = last_going a (subst IsGoing (sym e) tt)
last_is_seen a modes.Ended e = last_over a (λ going. subst IsGoing e going)
last_is_seen a (modes.Uncaught c) e = last_over a (λ going. subst IsGoing e going)

pub rows_are_seen : (g : Setting) (stages : List Stage) → AreInARow g stages → AreSeen g stages (flat_map seen_at stages)
rows_are_seen g [] row = absurd row
rows_are_seen g (a ∷ []) row = let L : List Here → Type 0 = λ hs. IsSeenLast a hs in subst L (sym (append-nil (seen_at a))) (last_is_seen a a.state.mode refl)
rows_are_seen g (a ∷ b ∷ stages) row =
    let S : List Here → Type 0 = λ hs. AreSeen g (a ∷ b ∷ stages) (hs ++ flat_map seen_at (b ∷ stages)) in
    subst S (sym (seen_going a row.0)) (row.1, here_is_seen a, rows_are_seen g (b ∷ stages) row.2)

pub last_stands : (g : Setting) (stages : List Stage) → AreInARow g stages → LastStands g stages
last_stands g [] row = absurd row
last_stands g (a ∷ []) row = row
last_stands g (a ∷ b ∷ stages) row = last_stands g (b ∷ stages) row.2
