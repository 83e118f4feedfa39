-- The boundaries of a run are in a row.
use Rattle.std.proofs.Common.{◌≡◌, ℕ, zero, suc, List, [], ◌∷◌, ◌++◌, Ok, Err, refl, sym, ◌∙◌, ap, subst, append_assoc}
use Rattle.std.specs.declared.result.Result.{Result}
use Rattle.device_traits.specs.declared.fault.DeviceFault.{DeviceFault}
use Rattle.jop_core.specs.State as machine
use Rattle.device_traits.specs.Told.{Told}
use Rattle.bytecode_typing.specs.Fits.{IsGoing}
use Rattle.boundary.specs.declared.runs.RunEnd.{RunEnd}
use Rattle.boundary.specs.Setting.{Setting, Stands}
use Rattle.boundary.specs.Activations.{Stage, Follows}
use Rattle.boundary.specs.Runs.{Goes, RunsTo}
use Rattle.boundary.specs.Followed.{stages_between, stages_of, AreInARow, IsRow, RunsAreInARow}

module _ (g : Setting) where
  -- with one behind the last
  one_more : (earlier : List Stage) (b c : Stage) → AreInARow g (earlier ++ b ∷ []) → IsGoing b.state.mode → Follows g b c → Stands g c.machine c.state
      → AreInARow g (earlier ++ (b ∷ c ∷ []))
  one_more [] b c row going follows stands = (going, follows, stands)
  one_more (x ∷ []) b c row going follows stands = (row.0, row.1, (going, follows, stands))
  one_more (x ∷ y ∷ ys) b c row going follows stands = (row.0, row.1, one_more (y ∷ ys) b c row.2 going follows stands)

  -- a row from a to b
  record IsFrom (a b : Stage) (stages : List Stage) : Type 0 where
    is : IsRow g a stages
    earlier : List Stage
    ends : stages ≡ earlier ++ b ∷ []

  module _ (limit : ℕ) (a : Stage) where
    between : (n : ℕ) (b : Stage) (goes : Goes g limit a n b) → Stands g b.machine b.state → IsFrom a b (stages_between g limit a n b goes)
    between zero b goes stands = record { is = record { row = stands; later = []; begins = ap (λ (x : Stage). x ∷ []) goes }; earlier = []; ends = refl }
    between (suc n) c (b, goes, going, below, follows) stands =
        let before = between n b goes follows.stands in
        let R : List Stage → Type 0 = λ xs. AreInARow g xs in
        let joined = append_assoc before.earlier (b ∷ []) (c ∷ []) in
        record {
          is = record {
            row = subst R (sym (ap (λ (xs : List Stage). xs ++ c ∷ []) before.ends ∙ joined)) (one_more before.earlier b c (subst R before.ends before.is.row) going follows stands);
            later = before.is.later ++ c ∷ [];
            begins = ap (λ (xs : List Stage). xs ++ c ∷ []) before.is.begins;
          };
          earlier = stages_between g limit a n b goes;
          ends = refl;
        }

    in_a_row : (now : machine.MachineState) (told told' : Told) (end : Result RunEnd DeviceFault) (runs : RunsTo g limit a now told told' end) → IsRow g a (stages_of g limit a now told told' end runs)
    in_a_row now told told' (Ok end) r = (between r.run.steps r.last r.run.stages r.run.stands).is
    in_a_row now told told' (Err fault) r = (between r.run.steps r.last r.run.stages r.run.stands).is

pub runs_are_in_a_row : RunsAreInARow
runs_are_in_a_row g limit a now told told' end runs = in_a_row g limit a now told told' end runs
