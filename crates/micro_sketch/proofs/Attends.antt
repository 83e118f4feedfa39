-- What a device was told of a run, over one cycle and over several runs.
use Rattle.std.proofs.Common.{◌≡◌, ℕ, Bool, true, false, List, [], ◌∷◌, ◌++◌, refl, subst, arith}
use Rattle.std.specs.declared.option.Option.{Option}
use Rattle.base.specs.Growing.{Grew-refl, Grew-trans}
use Rattle.device_traits.specs.declared.seen.Seen.{Seen}
use Rattle.device_traits.specs.Noting.{Noted-refl, Noted-trans}
use Rattle.device_traits.specs.Told.{Told, DeviceNote, Exchanged, GivesWhere, GivesEach, Attended, CountsRise}

-- the answers of a cycle: one where it asks, and else none
abbrev pub asked_for : (asks : Bool) → Option ℕ → List (Option ℕ)
asked_for true input = input ∷ []
asked_for false input = []

pub GivesEach-append : (l0 l1 l2 : Option (List ℕ)) (earlier later : List (Option ℕ)) → GivesEach l0 l1 earlier → GivesEach l1 l2 later → GivesEach l0 l2 (earlier ++ later)
GivesEach-append l0 l1 l2 [] later first second = let P : Option (List ℕ) → Type 0 = λ l. GivesEach l l2 later in subst P first second
GivesEach-append l0 l1 l2 (answer ∷ earlier) later first second = (first.0, first.1, GivesEach-append first.0 l1 l2 earlier later first.2 second)

GivesEach-one : (asks : Bool) (l0 l1 : Option (List ℕ)) (input : Option ℕ) → GivesWhere asks l0 l1 input → GivesEach l0 l1 (asked_for asks input)
GivesEach-one true l0 l1 input gives = (l1, gives, refl)
GivesEach-one false l0 l1 input gives = gives.0

pub Attended-refl : (told : Told) → Attended told told [] [] [] []
Attended-refl told = record { left = refl; held = Grew-refl told.held; noted = Noted-refl told; handed = Grew-refl told.handed; counts = record { reads = omega arith; writes = omega arith; sees = omega arith } }

pub Attended-one : (t0 t1 : Told) (asks : Bool) (input : Option ℕ) (out : List ℕ) (seen : List Seen) (notes : List DeviceNote)
    → Exchanged t0 t1 asks input out seen notes → CountsRise t0 t1 → Attended t0 t1 (asked_for asks input) out seen notes
Attended-one t0 t1 asks input out seen notes all counts = record {
  left = GivesEach-one asks t0.left t1.left input all.left;
  held = all.held;
  noted = all.noted;
  handed = all.handed;
  counts = counts;
}

pub Attended-trans : (t0 t1 t2 : Told) (answers0 answers1 : List (Option ℕ)) (out0 out1 out : List ℕ) (seen0 seen1 seen : List Seen) (notes0 notes1 notes : List DeviceNote)
    → Attended t0 t1 answers0 out0 seen0 notes0 → Attended t1 t2 answers1 out1 seen1 notes1
    → out ≡ out0 ++ out1 → seen ≡ seen0 ++ seen1 → notes ≡ notes0 ++ notes1 → Attended t0 t2 (answers0 ++ answers1) out seen notes
Attended-trans t0 t1 t2 answers0 answers1 out0 out1 out seen0 seen1 seen notes0 notes1 notes first second outs seens all = record {
  left = GivesEach-append t0.left t1.left t2.left answers0 answers1 first.left second.left;
  held = Grew-trans _ _ _ out0 out1 out first.held second.held outs;
  noted = Noted-trans t0 t1 t2 notes0 notes1 notes first.noted second.noted all;
  handed = Grew-trans _ _ _ seen0 seen1 seen first.handed second.handed seens;
  counts = let a = first.counts in let b = second.counts in record { reads = omega (arith, a.reads, b.reads); writes = omega (arith, a.writes, b.writes); sees = omega (arith, a.sees, b.sees) };
}
