-- Texts, names with descriptors.
use Rattle.std.proofs.Common.{◌≡◌, ℕ, true, List, ap, ap₂}
use Rattle.std.proofs.lemmas.Bool.{and_parts, and_from}
use lib.Pointwise.{bytes_decides}
pub use Rattle.lists.proofs.Searching.{first_cons, first_append, first_flat, map_same, first_found}
pub use Rattle.lists.proofs.Lemmas.{none≢some, some_same, onto_some, map_some, index_found}
use Rattle.class_lookup.specs.Parts.{same_text, Signature, same_signature}

-- ---- texts

pub text_same : (a b : List ℕ) → same_text a b ≡ true → a ≡ b
text_same a b h = (bytes_decides a b).0 h

pub same_is_text : (a b : List ℕ) → a ≡ b → same_text a b ≡ true
same_is_text a b h = (bytes_decides a b).1 h

pub signature_same : (s t : Signature) → same_signature s t ≡ true → s ≡ t
signature_same s t h =
    let p = and_parts (same_text s.name t.name) (same_text s.descriptor t.descriptor) h in
    ap₂ (λ n d. record { name = n; descriptor = d }) (text_same s.name t.name p.0) (text_same s.descriptor t.descriptor p.1)

pub same_is_signature : (s t : Signature) → s ≡ t → same_signature s t ≡ true
same_is_signature s t h =
    and_from (same_text s.name t.name) (same_text s.descriptor t.descriptor) (same_is_text s.name t.name (ap (λ x. x.name) h)) (same_is_text s.descriptor t.descriptor (ap (λ x. x.descriptor) h))
