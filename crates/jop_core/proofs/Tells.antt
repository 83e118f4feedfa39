-- How what a device tells goes on over several calls.
use Rattle.std.proofs.Common.{◌≡◌, ℕ, Bool, false, List, [], ◌++◌, refl, sym, subst, ◌∙◌}
use Rattle.std.specs.declared.option.Option.{Option}
use Rattle.base.specs.Growing.{Grew-trans}
use Rattle.device_traits.specs.declared.seen.Seen.{Seen}
use Rattle.device_traits.specs.Told.{Told, DeviceNote, Passed, PassedInPart, Exchanged, GivesWhere}
use Rattle.device_traits.specs.Noting.{Noted-trans, NotedInPart-after}

pub Passed-trans : (t0 t1 t2 : Told) (out0 out1 out : List ℕ) (seen0 seen1 seen : List Seen) (notes0 notes1 notes : List DeviceNote)
    → Passed t0 t1 out0 seen0 notes0 → Passed t1 t2 out1 seen1 notes1
    → out ≡ out0 ++ out1 → seen ≡ seen0 ++ seen1 → notes ≡ notes0 ++ notes1 → Passed t0 t2 out seen notes
Passed-trans t0 t1 t2 out0 out1 out seen0 seen1 seen notes0 notes1 notes first second outs seens all = record {
  left = second.left ∙ first.left;
  held = Grew-trans _ _ _ out0 out1 out first.held second.held outs;
  noted = Noted-trans t0 t1 t2 notes0 notes1 notes first.noted second.noted all;
  handed = Grew-trans _ _ _ seen0 seen1 seen first.handed second.handed seens;
}

pub PassedInPart-after : (t0 t1 t2 : Told) (seen0 seen1 seen : List Seen) (notes : List DeviceNote) (last : DeviceNote)
    → Passed t0 t1 [] seen0 notes → PassedInPart t1 t2 seen1 [] last → seen ≡ seen0 ++ seen1 → PassedInPart t0 t2 seen notes last
PassedInPart-after t0 t1 t2 seen0 seen1 seen notes last first second seens = record {
  left = second.left ∙ first.left;
  held = Grew-trans _ _ _ [] [] [] first.held second.held refl;
  noted = NotedInPart-after t0 t1 t2 notes last first.noted second.noted;
  handed = Grew-trans _ _ _ seen0 seen1 seen first.handed second.handed seens;
}

-- what is given is what is left, where what was left before is known
GivesWhere-left : (asked : Bool) (l0 l1 l2 : Option (List ℕ)) (byte : Option ℕ) → l1 ≡ l0 → GivesWhere asked l1 l2 byte → GivesWhere asked l0 l2 byte
GivesWhere-left asked l0 l1 l2 byte same gives = let P : Option (List ℕ) → Type 0 = λ l. GivesWhere asked l l2 byte in subst P same gives

GivesWhere-right : (asked : Bool) (l0 l1 l2 : Option (List ℕ)) (byte : Option ℕ) → l2 ≡ l1 → GivesWhere asked l0 l1 byte → GivesWhere asked l0 l2 byte
GivesWhere-right asked l0 l1 l2 byte same gives = let P : Option (List ℕ) → Type 0 = λ l. GivesWhere asked l0 l byte in subst P (sym same) gives

pub Exchanged-after : (t0 t1 t2 : Told) (asked : Bool) (byte : Option ℕ) (out0 out1 out : List ℕ) (seen0 seen1 seen : List Seen) (notes0 notes1 notes : List DeviceNote)
    → Passed t0 t1 out0 seen0 notes0 → Exchanged t1 t2 asked byte out1 seen1 notes1
    → out ≡ out0 ++ out1 → seen ≡ seen0 ++ seen1 → notes ≡ notes0 ++ notes1 → Exchanged t0 t2 asked byte out seen notes
Exchanged-after t0 t1 t2 asked byte out0 out1 out seen0 seen1 seen notes0 notes1 notes first second outs seens all = record {
  left = GivesWhere-left asked t0.left t1.left t2.left byte first.left second.left;
  held = Grew-trans _ _ _ out0 out1 out first.held second.held outs;
  noted = Noted-trans t0 t1 t2 notes0 notes1 notes first.noted second.noted all;
  handed = Grew-trans _ _ _ seen0 seen1 seen first.handed second.handed seens;
}

pub Exchanged-before : (t0 t1 t2 : Told) (asked : Bool) (byte : Option ℕ) (out0 out1 out : List ℕ) (seen0 seen1 seen : List Seen) (notes0 notes1 notes : List DeviceNote)
    → Exchanged t0 t1 asked byte out0 seen0 notes0 → Passed t1 t2 out1 seen1 notes1
    → out ≡ out0 ++ out1 → seen ≡ seen0 ++ seen1 → notes ≡ notes0 ++ notes1 → Exchanged t0 t2 asked byte out seen notes
Exchanged-before t0 t1 t2 asked byte out0 out1 out seen0 seen1 seen notes0 notes1 notes first second outs seens all = record {
  left = GivesWhere-right asked t0.left t1.left t2.left byte second.left first.left;
  held = Grew-trans _ _ _ out0 out1 out first.held second.held outs;
  noted = Noted-trans t0 t1 t2 notes0 notes1 notes first.noted second.noted all;
  handed = Grew-trans _ _ _ seen0 seen1 seen first.handed second.handed seens;
}

-- where no byte was asked for, nothing was taken
pub Passed-quiet : (old new : Told) (byte : Option ℕ) (out : List ℕ) (seen : List Seen) (notes : List DeviceNote) → Exchanged old new false byte out seen notes → Passed old new out seen notes
Passed-quiet old new byte out seen notes all = record { left = all.left.0; held = all.held; noted = all.noted; handed = all.handed }
