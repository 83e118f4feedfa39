-- The top frame, from one boundary to the next, and what is seen there.
use Rattle.std.proofs.Common.{◌≡◌, ◌≢◌, ℕ, ◌+◌, ◌-◌, ◌^◌, ◌<◌, ◌≤◌, length, Option, Some, None, sym, ◌∙◌, ap, ap₂, subst, arith}
use Rattle.std.specs.Prelude.{IsSomeAnd}
use Rattle.jop_core.specs.State as machine
use Rattle.jop_core.specs.declared.places.TheConstants.{STACK}
use Rattle.bytecode_model.specs.State.{Frame}
use Rattle.machine_stands.specs.Counted.{FiveAreSaved}
use Rattle.machine_stands.specs.ShownFrames.Shows.{top_frame}
use Rattle.run_follower.specs.declared.here.Here.{Here}
use Rattle.run_follower.specs.Handed.{later_in}
use Rattle.boundary.specs.declared.top.TopFrame.{TopFrame}
use Rattle.boundary.specs.Setting.{Setting, limits, Stands}
use Rattle.boundary.specs.Session.{Session}
use Rattle.boundary.specs.Activations.{Stage, Follows}
use Rattle.boundary.specs.Followed.{here_of, HasSmallCounts}
use Rattle.boundary.specs.Tops.{IsTopOf, SeesSmallCounts}
use Rattle.boundary.proofs.Heights.{under, vp_high, few_over, FramesMove, frames_move}
use Rattle.boundary.proofs.Heights.FramesMove.{Keeps, Makes, Leaves}

module _ (five : FiveAreSaved) (g : Setting) (a b : Stage) (follows : Follows g a b) (stands : Stands g b.machine b.state) (before : TopFrame) (is : IsTopOf a before) where
  vp_before : before.locals ≡ STACK + under a.state.frames
  vp_before = sym is.locals ∙ vp_high five g.program g.places g.chip g.memory a.machine a.state follows.stands.stands

  vp_now : b.machine.vp ≡ STACK + under b.state.frames
  vp_now = vp_high five g.program g.places g.chip g.memory b.machine b.state stands.stands

  moves : FramesMove a.state.frames b.state.frames
  moves = frames_move g.program (limits g) follows.answer a.state b.state follows.is_next

  -- VP is where it was
  same_by : b.machine.vp ≡ before.locals → FramesMove a.state.frames b.state.frames → IsTopOf b before
  same_by still (Keeps below count method) = record { locals = still; method = method before.method is.method; frames = count ∙ is.frames }
  same_by still (Makes below count) = absurd (omega (arith, still, vp_before, vp_now, below))
  same_by still (Leaves below count) = absurd (omega (arith, still, vp_before, vp_now, below))

  pub same_top : b.machine.vp ≡ before.locals → IsTopOf b before
  same_top still = same_by still moves

  -- VP is elsewhere: one frame more where it is higher, and else one less
  module _ (now : TopFrame) (moved : b.machine.vp ≢ before.locals) (at : now.locals ≡ b.machine.vp)
      (made : before.locals < now.locals → before.frames < now.locals → now.frames ≡ before.frames + 1) (left : now.locals ≤ before.locals → now.frames ≡ before.frames - 1) where
    frames_by : FramesMove a.state.frames b.state.frames → length b.state.frames ≡ now.frames
    frames_by (Keeps below count method) = absurd (moved (omega (arith, vp_before, vp_now, below)))
    frames_by (Makes below count) = omega (arith, made (omega (arith, at, vp_before, vp_now, below)) (omega (arith, at, vp_now, count, is.frames, few_over b.state.frames)), count, is.frames)
    frames_by (Leaves below count) = omega (arith, left (omega (arith, at, vp_before, vp_now, below)), count, is.frames)

    pub other_top : IsSomeAnd (top_frame b.state.frames) (λ f. f.method ≡ now.method) → IsTopOf b now
    other_top method = record { locals = sym at; method = method; frames = frames_by moves }

-- ---- what is seen

-- with this top frame, if there is one
abbrev seen : (clock misses frames : ℕ) → Option Frame → Here
seen k j n o =
    elim o [
      | None ↦ record { clock = k; misses = j; frames = n; method = 0; pc = 0 }
      | Some f ↦ record { clock = k; misses = j; frames = n; method = f.method; pc = f.pc }
    ]

small_by : (o : Option Frame) (k j n : ℕ) → k < 2 ^ 64 → j < 2 ^ 64 → HasSmallCounts (seen k j n o)
small_by None k j n lt lt' = (lt, lt')
small_by (Some f) k j n lt lt' = (lt, lt')

-- the counts that are read of a machine
pub small_seen : (r : Session) (now : machine.MachineState) → now ≡ r.machine → (k j : ℕ) → k ≡ now.clock → j ≡ now.misses → k < 2 ^ 64 → j < 2 ^ 64 → SeesSmallCounts r
small_seen r now is k j clock misses few few' = λ b b_is.
    let same : now ≡ b.machine = is ∙ sym b_is in
    small_by (top_frame b.state.frames) b.machine.clock b.machine.misses (length b.state.frames)
    (let P : ℕ → Type 0 = λ n. n < 2 ^ 64 in subst P (clock ∙ ap (λ (m : machine.MachineState). m.clock) same) few)
    (let P : ℕ → Type 0 = λ n. n < 2 ^ 64 in subst P (misses ∙ ap (λ (m : machine.MachineState). m.misses) same) few')

-- with as many frames and the same method on top
later_by : (o o' : Option Frame) (m k k' j j' n n' pc : ℕ) → IsSomeAnd o (λ f. f.method ≡ m) → IsSomeAnd o' (λ f. f.method ≡ m) → IsSomeAnd o' (λ f. f.pc ≡ pc) → n ≡ n'
    → later_in (seen k j n o) k' j' pc ≡ seen k' j' n' o'
later_by None o' m k k' j j' n n' pc is is' at e = absurd is
later_by (Some f) None m k k' j j' n n' pc is is' at e = absurd is'
later_by (Some f) (Some f') m k k' j j' n n' pc is is' at e =
    ap₂ (λ (n m : ℕ). let h : Here = record { clock = k'; misses = j'; frames = n; method = m; pc = pc } in h) e (is ∙ sym is')
    ∙ ap (λ (p : ℕ). let h : Here = record { clock = k'; misses = j'; frames = n'; method = f'.method; pc = p } in h) (sym at)

pub later_here : (a b : Stage) (top : TopFrame) (k j pc : ℕ) → k ≡ b.machine.clock → j ≡ b.machine.misses → IsTopOf a top → IsTopOf b top
    → IsSomeAnd (top_frame b.state.frames) (λ f. f.pc ≡ pc) → later_in (here_of a) k j pc ≡ here_of b
later_here a b top k j pc clock misses is is' at =
    ap₂ (λ (k j : ℕ). later_in (here_of a) k j pc) clock misses
    ∙ later_by (top_frame a.state.frames) (top_frame b.state.frames) top.method a.machine.clock b.machine.clock a.machine.misses b.machine.misses (length a.state.frames) (length b.state.frames) pc is.method is'.method at (is.frames ∙ sym is'.frames)

-- of the machine by another name
pub here_is : (b : Stage) (now : machine.MachineState) → b.machine ≡ now → here_of (record { machine = now; state = b.state }) ≡ here_of b
here_is b now e = ap (λ (m : machine.MachineState). let c : Stage = record { machine = m; state = b.state } in here_of c) (sym e)

pub top_is_of : (b : Stage) (now : machine.MachineState) (top : TopFrame) → b.machine ≡ now → IsTopOf b top → IsTopOf (record { machine = now; state = b.state }) top
top_is_of b now top e is = record { locals = ap (λ (m : machine.MachineState). m.vp) (sym e) ∙ is.locals; method = is.method; frames = is.frames }
