-- Names and what is written of them, worked out by hand.
use Rattle.std.specs.Prelude.{◌≡◌, [], ◌∷◌, ◌++◌, codes}
use Rattle.name_laws.specs.Written.{written, name_in}

pub record WrittenRows : Type 0 where
  pub plain : written (codes "Main.step(I)V") ≡ codes "Main.step(I)V"
  pub empty : written [] ≡ []
  pub feed : written (codes "A\nholds Main.main()V") ≡ codes "A\\x0Aholds\\x20Main.main()V"
  pub remark : written (codes "#.#()V") ≡ codes "\\x23.#()V"
  pub backslash : written (codes "a\\b") ≡ codes "a\\x5Cb"
  pub edges : written (0 ∷ 31 ∷ 32 ∷ 33 ∷ 126 ∷ 127 ∷ 128 ∷ 255 ∷ []) ≡ codes "\\x00\\x1F\\x20!~\\x7F" ++ 128 ∷ 255 ∷ []
  pub read : name_in (codes "A\\x0AB") ≡ codes "A\nB"
  -- an escape that isn't needed, small digits, a backslash alone, and a # that isn't the first: nothing is written so
  pub needless : name_in (codes "\\x41") ≡ []
  pub small : name_in (codes "A\\x0a") ≡ []
  pub alone : name_in (codes "a\\b") ≡ []
  pub within : name_in (codes "a\\x23") ≡ []
