-- What a machine begins with, of the parts that the code has.
use Rattle.std.specs.Prelude.{◌≡◌, ℕ, List, slice_index}
use Rattle.jop_core.specs.declared.machine.reset.Boot.{Boot}
use Rattle.jop_core.specs.Reset.{Start, linked_start, reset_words}

abbrev pub starts : Boot → (image code : List ℕ) → Start
starts boot image code = record {
  image = image;
  boot = boot.place;
  max_locals = boot.max_locals;
  frame = boot.frame;
  code = code;
  pool = boot.pool;
  raise_list = boot.raise_list;
}

-- the parts are those of a linked image
pub record IsLinkedBoot (boot : Boot) (image : List ℕ) : Type 0 where
  pub place : boot.place ≡ slice_index image 1
  pub max_locals : boot.max_locals ≡ (linked_start image).max_locals
  pub frame : boot.frame ≡ (linked_start image).frame
  pub pool : boot.pool ≡ slice_index image 2
  pub raise_list : boot.raise_list ≡ slice_index image 4

abbrev pub first_words : (n memory : ℕ) → Boot → (words : ℕ) → List ℕ
first_words n memory boot words = reset_words n memory words boot.pool boot.place boot.frame boot.raise_list
