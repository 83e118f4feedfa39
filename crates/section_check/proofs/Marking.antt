-- Loops that are marked one after another.
use Rattle.std.proofs.Common.{◌≡◌, ℕ, zero, suc, ◌<◌, Bool, false, List, [], ◌∷◌, length, get_or, set, take, refl, sym, ap, ◌∙◌, arith}
use Rattle.section_check.specs.Section.{CertifiedLoop}
use Rattle.section_check.specs.Regions.{marked}

pub marked-long : (ls : List CertifiedLoop) (rs : List Bool) → length (marked ls rs) ≡ length ls
marked-long [] rs = refl
marked-long (l ∷ ls) [] = refl
marked-long (l ∷ ls) (r ∷ rs) = ap suc (marked-long ls rs)

pub marked-none : (ls : List CertifiedLoop) → marked ls [] ≡ ls
marked-none [] = refl
marked-none (l ∷ ls) = refl

-- the next loop is as it was, and marking it marks one more
pub marked-more : (ls : List CertifiedLoop) (rs : List Bool) (i : ℕ) (l : CertifiedLoop) → i < length ls → i < length rs → l ≡ get_or (marked ls (take i rs)) i l
    → set (marked ls (take i rs)) i (record l { region = get_or rs i false }) ≡ marked ls (take (suc i) rs)
marked-more [] rs i l lt lt' is = absurd (omega arith)
marked-more (k ∷ ks) [] i l lt lt' is = absurd (omega arith)
marked-more (k ∷ ks) (x ∷ xs) zero l lt lt' is =
    ap (λ (z : CertifiedLoop). record z { region = x } ∷ ks) is ∙ ap (λ (zs : List CertifiedLoop). record k { region = x } ∷ zs) (sym (marked-none ks))
marked-more (k ∷ ks) (x ∷ xs) (suc i) l lt lt' is =
    ap (λ (zs : List CertifiedLoop). record k { region = x } ∷ zs) (marked-more ks xs i l (omega arith) (omega arith) is)
