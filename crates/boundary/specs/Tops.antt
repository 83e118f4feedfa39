-- The top frame of a run, as it is told from one boundary to the next, and what a follower is handed there.
use Rattle.std.specs.Prelude.{◌≡◌, length, IsSomeAnd}
use Rattle.image_facts.specs.Methods.{AreMethods}
use Rattle.machine_stands.specs.ShownFrames.Shows.{top_frame}
use Rattle.run_follower.specs.declared.here.Here.{Here}
use Rattle.run_follower.specs.Handed.{WasHanded}
use Rattle.boundary.specs.declared.top.TopFrame.{TopFrame}
use Rattle.boundary.specs.Setting.{Setting, IsSetting, Stands}
use Rattle.boundary.specs.Session.{Session}
use Rattle.boundary.specs.Activations.{Stage, Follows}
use Rattle.boundary.specs.Followed.{here_of, HasSmallCounts}

-- VP, how many frames there are, and the method of the top one
pub record IsTopOf (a : Stage) (top : TopFrame) : Type 0 where
  pub locals : a.machine.vp ≡ top.locals
  pub method : IsSomeAnd (top_frame a.state.frames) (λ f. f.method ≡ top.method)
  pub frames : length a.state.frames ≡ top.frames

-- where the first told that of the boundary before, the second tells that of the boundary at which the machine stands
abbrev pub TopFollows : Session → (before after : TopFrame) → Type 0
TopFollows r before after =
    (g : Setting) (a b : Stage) → IsSetting g → AreMethods g.program g.places r.methods → b.machine ≡ r.machine → Follows g a b → Stands g b.machine b.state
    → IsTopOf a before → IsTopOf b after

-- where the first tells the boundary before, which the follower was handed last, it is then handed the boundary at which the machine stands
abbrev pub HandsOn : {F : Type 0} → (after : F → Here → F) → Session → (before : TopFrame) → (f f' : F) → Type 0
HandsOn after r before f f' =
    (g : Setting) (a b : Stage) → IsSetting g → AreMethods g.program g.places r.methods → b.machine ≡ r.machine → Follows g a b → Stands g b.machine b.state
    → IsTopOf a before → WasHanded after f (here_of a) → f' ≡ after f (here_of b)

-- the counts at each boundary at which this machine stands have 64 bits
abbrev pub SeesSmallCounts : Session → Type 0
SeesSmallCounts r = (b : Stage) → b.machine ≡ r.machine → HasSmallCounts (here_of b)
